use Rattle.std.proofs.Common.{[], Ok, sym, subst}
use Rattle.lapic.specs.declared.outcome.Effect.{Effect}
use Rattle.board_model.specs.Published.{routing_of_words}
use Rattle.board_model.specs.Run.{run_on}
use Rattle.board_raise.specs.InHand.{parts_of}
use Rattle.board_calls.specs.Accesses.{store_effects}
use Rattle.board_calls.specs.Told.{TellsOn}
use Rattle.board_calls.proofs.Telling.{nothing_tells}
use Rattle.board_calls.proofs.page.bring_about.Goals as goal

pub returns-in-Plain-clause-does : goal.returns-in-Plain-clause-does
returns-in-Plain-clause-does g c = λ straight.
    let rig = c.args.rig.now in
    let q = parts_of (g.R.Rig.held rig) in
    let ws = g.R.Rig.wishes rig in
    subst (λ (e : Effect). TellsOn (λ (_ : Unit {0}). []) (Ok tt) c.args.events.now.items c.args.events.now.items q ws (run_on (store_effects (routing_of_words (g.R.Rig.published rig)) c.args.shape.now c.args.n e) q ws)) (sym c.in-Plain.is)
    (nothing_tells c.args.events.now.items q ws)
