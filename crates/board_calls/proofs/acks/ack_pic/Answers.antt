use Rattle.std.proofs.Common.{ℕ, Ok, sym, subst}
use Rattle.std.specs.declared.option.Option.{Option}
use Rattle.irq_base.specs.declared.event.Pin.TheVariants.{Pic}
use Rattle.board_model.specs.Published.{routing_of_words}
use Rattle.board_model.specs.Run.{run_on}
use Rattle.board_raise.specs.InHand.{parts_of}
use Rattle.board_ack.specs.Acknowledge.{acknowledge, acknowledge_each}
use Rattle.board_ack.specs.OnHand.{Adds}
use Rattle.board_ack.proofs.Adding.{nothing_adds}
use Rattle.board_calls.specs.Processors.{pic_pin}
use Rattle.board_calls.proofs.Answering.{adds_only}
use Rattle.board_calls.proofs.acks.ack_pic.Goals as goal

pub returns-in-None-clause-does : goal.returns-in-None-clause-does
returns-in-None-clause-does g c = λ straight.
    let rig = c.args.rig.now in
    let events = c.args.events.now.items in
    let q = parts_of (g.R.Rig.held rig) in
    let ws = g.R.Rig.wishes rig in
    subst (λ (pin : Option ℕ). Adds (Ok (tt {0})) events events q ws (run_on (acknowledge_each (routing_of_words (g.R.Rig.published rig)) c.args.shape.now (pic_pin pin)) q ws)) (sym c.in-None.is)
    (nothing_adds events q ws)

pub returns-in-Some-clause-does : goal.returns-in-Some-clause-does
returns-in-Some-clause-does g c = λ straight.
    let rig = c.args.rig.now in
    let after = c.ack_pin.new.rig in
    let old = c.args.events.now.items in
    let new = c.ack_pin.new.events.items in
    let q = parts_of (g.R.Rig.held rig) in
    let ws = g.R.Rig.wishes rig in
    let r = parts_of (g.R.Rig.held after) in
    let vs = g.R.Rig.wishes after in
    let routing = routing_of_words (g.R.Rig.published rig) in
    subst (λ (pin : Option ℕ). Adds c.ack_pin.result old new r vs (run_on (acknowledge_each routing c.args.shape.now (pic_pin pin)) q ws)) (sym c.in-Some.is)
    (adds_only (acknowledge routing c.args.shape.now (Pic c.in-Some.pin)) q ws old new r vs c.ack_pin.result (c.ack_pin.ensures.does straight))
