use Rattle.std.proofs.Common.{suc, ap}
use Rattle.script_text.specs.declared.task.Task.TheVariants.{Serve}
use Rattle.script_text.specs.Asks.{answered, rest_of_line}
use Rattle.script_text.proofs.Asked.{repeat-goes, round-goes, round-over, round-on}
use Rattle.script_text.proofs.progress.replied.Goals as goal

pub returns-in-Repeat : goal.returns-in-Repeat
returns-in-Repeat c = λ rest.
    repeat-goes c.args.task.now c.in-Repeat.count c.args.done c.in-Repeat.field-1 c.args.phase c.args.reply.now c.once_more.result rest c.in-Repeat.is c.requires c.once_more.ensures

pub returns-in-End : goal.returns-in-End
returns-in-End c = λ rest.
    round-goes c.args.task.now c.in-Serve.count c.args.done c.args.phase c.args.reply.now c.once_more-in-End.result rest c.in-Serve.is c.requires
    (λ m. ap (λ p. answered (rest_of_line (Serve (suc m)) c.args.done p rest) c.args.reply.now) c.in-End.is) c.once_more-in-End.ensures

pub returns-in-Master : goal.returns-in-Master
returns-in-Master c = λ rest.
    round-goes c.args.task.now c.in-Serve.count c.args.done c.args.phase c.args.reply.now c.once_more-in-Master.result rest c.in-Serve.is c.requires
    (λ m. ap (λ p. answered (rest_of_line (Serve (suc m)) c.args.done p rest) c.args.reply.now) c.in-Master.is) c.once_more-in-Master.ensures

pub returns-in-None : goal.returns-in-None
returns-in-None c = λ rest.
    round-goes c.args.task.now c.in-Serve.count c.args.done c.args.phase c.args.reply.now c.once_more-in-None.result rest c.in-Serve.is c.requires
    (λ m. round-over m c.args.done rest c.args.reply.now c.args.phase c.phase_after.result c.in-Round.is c.phase_after.ensures c.in-None.is) c.once_more-in-None.ensures

pub returns-in-Some : goal.returns-in-Some
returns-in-Some c = λ rest.
    round-on c.args.task.now c.in-Serve.count c.args.done c.args.phase c.in-Some.next c.args.reply.now c.phase_after.result rest c.in-Serve.is c.requires
    c.in-Round.is c.phase_after.ensures c.in-Some.is
