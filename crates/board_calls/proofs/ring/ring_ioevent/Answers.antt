use Rattle.std.proofs.Common.{◌∷◌, [], Ok, Err, refl}
use Rattle.irq_base.specs.declared.event.Event.TheVariants.{Rang}
use Rattle.irq_base.specs.declared.reply.Reply.TheVariants.{Done}
use Rattle.board_model.specs.Plan.{say, ◌>>◌}
use Rattle.board_model.specs.Published.{routing_of_words}
use Rattle.board_raise.specs.InHand.{parts_of}
use Rattle.board_ack.proofs.Adding.{then_adds}
use Rattle.board_calls.specs.Accesses.{ring_counter}
use Rattle.board_calls.proofs.Answering.{adds_answered}
use Rattle.board_calls.proofs.ring.ring_ioevent.Goals as goal

pub returns-in-Ok-clause-does : goal.returns-in-Ok-clause-does
returns-in-Ok-clause-does g c = λ straight.
    let rig = c.args.rig.now in
    let after = c.ring_counter.new.rig in
    let counter = c.args.counter in
    let old = c.args.events.now.items in
    let mid = c.tell.new.events.items in
    let new = c.ring_counter.new.events.items in
    let q = parts_of (g.R.Rig.held rig) in
    let ws = g.R.Rig.wishes rig in
    let r = parts_of (g.R.Rig.held after) in
    let vs = g.R.Rig.wishes after in
    let routing = routing_of_words (g.R.Rig.published rig) in
    let rung = ring_counter routing c.args.shape.now counter (routing.trigger counter) in
    adds_answered (say (Rang counter) >> rung) Done q ws (Ok (tt {0})) old new r vs
    (then_adds (λ _. rung) (say (Rang counter)) q ws tt (Rang counter ∷ []) q ws old mid new r vs (Ok (tt {0})) c.tell.ensures
    (record { value_is = refl; events_are = refl; replies_are = refl; parts = refl; wishes = refl }) (c.in-Ok.ensures.does straight))

pub returns-in-Err-clause-does : goal.returns-in-Err-clause-does
returns-in-Err-clause-does g c = λ straight.
    let rig = c.args.rig.now in
    let after = c.ring_counter.new.rig in
    let counter = c.args.counter in
    let old = c.args.events.now.items in
    let mid = c.tell.new.events.items in
    let new = c.ring_counter.new.events.items in
    let q = parts_of (g.R.Rig.held rig) in
    let ws = g.R.Rig.wishes rig in
    let r = parts_of (g.R.Rig.held after) in
    let vs = g.R.Rig.wishes after in
    let routing = routing_of_words (g.R.Rig.published rig) in
    let rung = ring_counter routing c.args.shape.now counter (routing.trigger counter) in
    adds_answered (say (Rang counter) >> rung) Done q ws (Err c.in-Err.lacks) old new r vs
    (then_adds (λ _. rung) (say (Rang counter)) q ws tt (Rang counter ∷ []) q ws old mid new r vs (Err c.in-Err.lacks) c.tell.ensures
    (record { value_is = refl; events_are = refl; replies_are = refl; parts = refl; wishes = refl }) (c.in-Err.ensures.does straight))
