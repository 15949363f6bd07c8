use Rattle.std.proofs.Common.{◌≡◌, ℕ, false, List, subst}
use Rattle.board_model.specs.Plan.{Plan}
use Rattle.board_model.specs.Published.{routing_of_words}
use Rattle.board_model.specs.Run.{run_on}
use Rattle.board_raise.specs.InHand.{parts_of}
use Rattle.board_raise.specs.Shown.{StopsAt}
use Rattle.board_raise.proofs.Composing.{stops_first}
use Rattle.board_ack.specs.Acknowledge.{acknowledge_each}
use Rattle.board_ack.specs.OnHand.{Adds}
use Rattle.board_ack.proofs.Adding.{adds_adds}
use Rattle.board_calls.specs.Processors.{pic_pin}
use Rattle.board_calls.proofs.Accesses.{each_in_turn}
use Rattle.board_calls.proofs.acks.ack_pins.Goals as goal

pub returns-in-Ok-clause-does : goal.returns-in-Ok-clause-does
returns-in-Ok-clause-does g c = λ straight.
    let rig = c.args.rig.now in
    let mid = c.ack_pic.new.rig in
    let after = c.ack_pic-in-Ok.new.rig in
    let routing = routing_of_words (g.R.Rig.published rig) in
    let shape = c.args.shape.now in
    let masters = pic_pin c.args.pins.master in
    let slaves = pic_pin c.args.pins.slave in
    let old = c.args.events.now.items in
    let told = c.ack_pic.new.events.items in
    let new = c.ack_pic-in-Ok.new.events.items in
    let q = parts_of (g.R.Rig.held rig) in
    let ws = g.R.Rig.wishes rig in
    let r = parts_of (g.R.Rig.held mid) in
    let vs = g.R.Rig.wishes mid in
    let s = parts_of (g.R.Rig.held after) in
    let us = g.R.Rig.wishes after in
    let at_mid : g.R.Rig.astray mid ≡ false = c.ack_pic-in-Ok.ensures.strays straight in
    subst (λ (m : Plan (Unit {0})). Adds c.ack_pic-in-Ok.result old new s us (run_on m q ws)) (each_in_turn routing shape masters slaves)
    (adds_adds (acknowledge_each routing shape masters) (acknowledge_each routing shape slaves) q ws r vs old told new s us c.ack_pic-in-Ok.result (c.in-Ok.ensures.does at_mid)
    (subst (λ (words : List ℕ). Adds c.ack_pic-in-Ok.result told new s us (run_on (acknowledge_each (routing_of_words words) shape slaves) r vs)) c.ack_pic.ensures.published (c.ack_pic-in-Ok.ensures.does straight)))

pub returns-in-Err-clause-does : goal.returns-in-Err-clause-does
returns-in-Err-clause-does g c = λ straight.
    let rig = c.args.rig.now in
    let routing = routing_of_words (g.R.Rig.published rig) in
    let shape = c.args.shape.now in
    let masters = pic_pin c.args.pins.master in
    let slaves = pic_pin c.args.pins.slave in
    let q = parts_of (g.R.Rig.held rig) in
    let ws = g.R.Rig.wishes rig in
    subst (λ (m : Plan (Unit {0})). StopsAt c.in-Err.lacks.part (run_on m q ws)) (each_in_turn routing shape masters slaves)
    (stops_first (λ _. acknowledge_each routing shape slaves) (acknowledge_each routing shape masters) q ws c.in-Err.lacks.part (c.in-Err.ensures.does straight))
