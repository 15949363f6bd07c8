use Rattle.std.proofs.Common.{◌+◌}
use Rattle.script_text.specs.declared.progress.Phase.TheVariants.{Round}
use Rattle.script_text.specs.Asks.{tasks_of, caller_at, unrolled, left_at}
use Rattle.script_text.proofs.Asked.{line-over, one-followed}
use Rattle.script_text.proofs.progress.Progress.follow.Goals as goal

pub returns-in-None-clause-left : goal.returns-in-None-clause-left
returns-in-None-clause-left c =
    let lines = c.args.script.now.lines in
    line-over (tasks_of (caller_at lines c.args.actor) lines) c.args.self.now c.in-Some.task.now c.args.reply.now c.in-Some.ensures.at c.in-None.ensures

pub returns-in-None-clause-followed : goal.returns-in-None-clause-followed
returns-in-None-clause-followed c = λ replies followed.
    let lines = c.args.script.now.lines in
    let tasks = tasks_of (caller_at lines c.args.actor) lines in
    let p = c.args.self.now in
    one-followed (unrolled tasks) (left_at tasks p) (left_at tasks (record { line = p.line + 1; done = 0; phase = Round })) replies c.args.reply.now
    (line-over tasks p c.in-Some.task.now c.args.reply.now c.in-Some.ensures.at c.in-None.ensures) followed
