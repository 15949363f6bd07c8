use Rattle.std.proofs.Common.{sym, subst}
use Rattle.irqboard.specs.Works.{Works}
use Rattle.irqboard.specs.declared.command.Command.TheVariants.{Replay}
use Rattle.irqboard.proofs.Together.{replay_done}
use Rattle.irqboard.proofs.work.replayed.Goals as goal

pub returns-in-Ok-print-clause-done : goal.returns-in-Ok-print-clause-done
returns-in-Ok-print-clause-done c =
    let run = c.in-Ok-replay in
    let done =
    replay_done c.args.input.now c.in-Ok.script run.field-0.history run.field-0.spent c.is_some.result c.in-Ok-print.text
    c.legal_histories_keep_the_laws.ensures c.in-Ok.ensures.read run.ensures c.is_some.ensures c.in-Ok-print.ensures.text
    in
    subst (λ o. Works Replay c.args.input.now o c.in-Ok-print.text) (sym c.answer_of_replay.ensures) done
