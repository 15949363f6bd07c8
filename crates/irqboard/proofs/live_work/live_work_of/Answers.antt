use Rattle.std.proofs.Common.{sym, subst}
use Rattle.irqboard.specs.Benches.{WorksLive}
use Rattle.irqboard.specs.Done.{answer_of_replay}
use Rattle.irqboard.specs.Runs.{RanOn}
use Rattle.irqboard.specs.Works.{Works}
use Rattle.irqboard.specs.declared.command.Command.TheVariants.{Run}
use Rattle.irqboard.proofs.Lives.{live_done, some_run}
use Rattle.irqboard.proofs.live_work.live_work_of.Goals as goal

pub returns-in-Ok-print-clause-live : goal.returns-in-Ok-print-clause-live
returns-in-Ok-print-clause-live g c =
    let left = c.in-Ok-run_actors in
    let at = left.ensures in
    let run = left.field-0 in
    let ran : RanOn run.live c.in-Ok.script run.history =
    record { shape = at.shape; passes = at.passes; made = at.made; seen = at.seen; told = at.told } in
    let done =
    live_done run.live c.args.input.now c.in-Ok.script run.history run.spent c.is_some.result c.in-Ok-print.text
    c.in-Ok.ensures.read at.run ran c.is_some.ensures c.in-Ok-print.ensures.text
    in
    subst (λ o. WorksLive run.live c.args.input.now o c.in-Ok-print.text) (sym c.answer_of_replay.ensures) done

pub returns-in-Ok-print-clause-done : goal.returns-in-Ok-print-clause-done
returns-in-Ok-print-clause-done g c =
    let left = c.in-Ok-run_actors in
    let at = left.ensures in
    let run = left.field-0 in
    let ran : RanOn run.live c.in-Ok.script run.history = record { shape = at.shape; passes = at.passes; made = at.made; seen = at.seen; told = at.told } in
    let done =
    live_done run.live c.args.input.now c.in-Ok.script run.history run.spent c.is_some.result c.in-Ok-print.text
    c.in-Ok.ensures.read at.run ran c.is_some.ensures c.in-Ok-print.ensures.text
    in
    subst (λ o. Works Run c.args.input.now o c.in-Ok-print.text) (sym c.answer_of_replay.ensures)
    (some_run run.live c.args.input.now (answer_of_replay run.spent) c.in-Ok-print.text done)
