use Rattle.std.proofs.Common.{[], ◌∷◌, sym, subst}
use Rattle.irq_base.specs.declared.call.Call.{Call}
use Rattle.board_model.specs.Published.{routing_of_words}
use Rattle.board_model.specs.Run.{run_on}
use Rattle.board_raise.specs.InHand.{parts_of}
use Rattle.board_calls.specs.Calls.{plan_in_range}
use Rattle.board_calls.specs.Told.{TellsOn}
use Rattle.board_calls.proofs.Room.{quiet_tells}
use Rattle.board_calls.proofs.guest.guest_access.Goals as goal

pub returns-in-Store-clause-does : goal.returns-in-Store-clause-does
returns-in-Store-clause-does g c = λ straight.
    let rig = c.args.rig.now in
    let after = c.store.new.rig in
    subst (λ (call : Call). TellsOn (λ reply. reply ∷ []) c.store.result c.args.events.now.items c.store.new.events.items (parts_of (g.R.Rig.held after)) (g.R.Rig.wishes after)
    (run_on (plan_in_range (routing_of_words (g.R.Rig.published rig)) c.args.shape.now c.args.n call) (parts_of (g.R.Rig.held rig)) (g.R.Rig.wishes rig)))
    (sym c.in-Store.is) (c.store.ensures.does straight)

pub returns-in-Load-clause-does : goal.returns-in-Load-clause-does
returns-in-Load-clause-does g c = λ straight.
    let rig = c.args.rig.now in
    let after = c.load.new.rig in
    subst (λ (call : Call). TellsOn (λ reply. reply ∷ []) c.load.result c.args.events.now.items c.args.events.now.items (parts_of (g.R.Rig.held after)) (g.R.Rig.wishes after)
    (run_on (plan_in_range (routing_of_words (g.R.Rig.published rig)) c.args.shape.now c.args.n call) (parts_of (g.R.Rig.held rig)) (g.R.Rig.wishes rig)))
    (sym c.in-Load.is)
    (quiet_tells c.load.result c.args.events.now.items (parts_of (g.R.Rig.held after)) (g.R.Rig.wishes after) _ c.load.ensures.does)
