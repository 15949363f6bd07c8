use Rattle.std.proofs.Common.{Ok, Err, refl}
use Rattle.board_raise.specs.InHand.{parts_of}
use Rattle.board_raise.specs.Signal.{accept_pin}
use Rattle.board_raise.proofs.Composing.{does_on}
use Rattle.board_raise.proofs.Signalling.{pin_lacks, pin_sends, pin_stops}
use Rattle.board_raise.proofs.signals.send_of_pin.Goals as goal

pub returns-in-Err-clause-does : goal.returns-in-Err-clause-does
returns-in-Err-clause-does g c = λ about.
    let held = g.R.Rig.held in
    pin_lacks c.args.cpus c.args.pin c.args.message.now about (parts_of (held c.args.rig.now)) (g.R.Rig.wishes c.args.rig.now) c.in-Err.lacks (parts_of (held c.send.new.rig)) (g.R.Rig.wishes c.send.new.rig) (c.in-Err.ensures.does about)

pub returns-in-Ok-accept_pin-clause-does : goal.returns-in-Ok-accept_pin-clause-does
returns-in-Ok-accept_pin-clause-does g c = λ about.
    let held = g.R.Rig.held in
    let wishes = g.R.Rig.wishes in
    let rig = c.send.new.rig in
    let left = c.accept_pin.new.parts in
    let after = g.R.Rig.with_held rig left in
    pin_sends c.args.cpus c.args.pin c.args.message.now about (parts_of (held c.args.rig.now)) (wishes c.args.rig.now) c.in-Ok.status (parts_of (held rig)) (wishes rig) (c.in-Ok.ensures.does about) c.is_accepted.result (parts_of (held after)) (wishes after) c.is_accepted.ensures
    (does_on {S = Unit {0}} {A = Unit {0}} (λ _. tt) (Ok tt) (accept_pin c.args.pin c.is_accepted.result) (held rig) c.parts-parts.result.now left (held after) (wishes rig) (wishes after) c.parts-parts.ensures.value (g.met.R.Rig.held_with rig left) (g.met.R.Rig.wishes_with rig left) (c.in-Ok-accept_pin.ensures.does (wishes rig)))

pub returns-in-Err-accept_pin-clause-does : goal.returns-in-Err-accept_pin-clause-does
returns-in-Err-accept_pin-clause-does g c = λ about.
    let held = g.R.Rig.held in
    let wishes = g.R.Rig.wishes in
    let rig = c.send.new.rig in
    let left = c.accept_pin.new.parts in
    pin_stops c.args.cpus c.args.pin c.args.message.now about (parts_of (held c.args.rig.now)) (wishes c.args.rig.now) c.in-Ok.status (parts_of (held rig)) (wishes rig) (c.in-Ok.ensures.does about) c.is_accepted.result c.in-Err-accept_pin.lacks.part c.is_accepted.ensures
    (does_on {S = Unit {0}} {A = Unit {0}} (λ _. tt) (Err c.in-Err-accept_pin.lacks) (accept_pin c.args.pin c.is_accepted.result) (held rig) c.parts-parts.result.now left left (wishes rig) (wishes rig) c.parts-parts.ensures.value refl refl (c.in-Err-accept_pin.ensures.does (wishes rig)))
