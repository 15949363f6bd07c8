use Rattle.std.proofs.Common.{◌<◌, length, slice_get, ap, sym, ◌∙◌, subst, List}
use Rattle.script_text.specs.declared.task.ActorLine.{ActorLine}
use Rattle.script_text.proofs.Tasks.{tasks_in, indexed-at, place-within, no-task, some-task}
use Rattle.script_text.proofs.draft.Draft.task.Goals as goal

pub task_in-requires : goal.task_in-requires
task_in-requires c =
    let d = c.args.self.now in
    let at = indexed-at d.lines.items d.actors.items d.seats.items c.as_slice.result.now c.args.caller c.seat_of.result c.args.k _ c.requires c.as_slice.ensures.value c.seat_of.ensures (c.in-Some.ensures.value) in
    subst (λ (ls : List ActorLine). c.in-Some.place < length ls) (sym c.as_slice-in-Some.ensures.value)
    (place-within c.args.caller d.lines.items c.args.k c.in-Some.place at)

pub returns-in-None-clause-at : goal.returns-in-None-clause-at
returns-in-None-clause-at c =
    let d = c.args.self.now in
    no-task c.args.caller d.lines.items c.args.k
    (indexed-at d.lines.items d.actors.items d.seats.items c.as_slice.result.now c.args.caller c.seat_of.result c.args.k _ c.requires c.as_slice.ensures.value c.seat_of.ensures (c.in-None.ensures.value))

pub returns-in-Some-clause-at : goal.returns-in-Some-clause-at
returns-in-Some-clause-at c =
    let d = c.args.self.now in
    some-task c.args.caller d.lines.items c.args.k c.in-Some.place c.task_in.result.now
    (indexed-at d.lines.items d.actors.items d.seats.items c.as_slice.result.now c.args.caller c.seat_of.result c.args.k _ c.requires c.as_slice.ensures.value c.seat_of.ensures (c.in-Some.ensures.value))
    (ap (λ ls. slice_get (tasks_in ls) c.in-Some.place) (sym c.as_slice-in-Some.ensures.value) ∙ c.task_in.ensures.at)
