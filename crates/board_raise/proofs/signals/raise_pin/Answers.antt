use Rattle.std.proofs.Common.{◌≡◌, [], Some, Ok, Err, refl, subst}
use Rattle.irq_base.specs.declared.status.Cause.TheVariants.{Masked}
use Rattle.irq_base.specs.declared.status.Status.TheVariants.{Coalesced, Ignored}
use Rattle.ioapic_82093aa.specs.declared.ioapic.Raise.{Raise}
use Rattle.ioapic_82093aa.specs.declared.ioapic.Raise.TheVariants as raises
use Rattle.board_model.specs.Run.{run_on}
use Rattle.board_raise.specs.InHand.{parts_of}
use Rattle.board_raise.specs.Signal.{raise_ioapic}
use Rattle.board_raise.specs.Shown.{EndsWith, about_at, as_other}
use Rattle.board_raise.proofs.Composing.{does_on}
use Rattle.board_raise.proofs.Signalling.{pin_not_there, pin_answers, masked_shows, stood_shows, sent_shows}
use Rattle.board_raise.proofs.signals.raise_pin.Goals as goal

pub returns-in-Err-clause-does : goal.returns-in-Err-clause-does
returns-in-Err-clause-does g c = λ msi place pic.
    let rig = c.args.rig.now in
    let ws = g.R.Rig.wishes rig in
    let left = c.raise_ioapic.new.parts in
    pin_not_there c.args.cpus c.args.pin msi c.args.source place pic (parts_of (g.R.Rig.held rig)) ws c.in-Err.lacks.part
    (does_on (λ (a : Raise). a) (Err c.in-Err.lacks) (raise_ioapic c.args.pin c.args.source) (g.R.Rig.held rig) c.parts-parts.result.now left left ws ws c.parts-parts.ensures.value refl refl (c.in-Err.ensures.does ws))

pub returns-in-Masked-clause-does : goal.returns-in-Masked-clause-does
returns-in-Masked-clause-does g c = λ msi place pic.
    let rig = c.args.rig.now in
    let ws = g.R.Rig.wishes rig in
    let left = c.raise_ioapic.new.parts in
    let after = g.R.Rig.with_held rig left in
    let q = parts_of (g.R.Rig.held rig) in
    let r = parts_of (g.R.Rig.held after) in
    let vs = g.R.Rig.wishes after in
    pin_answers c.args.cpus c.args.pin msi c.args.source place pic q ws raises.Masked r vs
    (subst (λ a. EndsWith a [] [] r vs (run_on (raise_ioapic c.args.pin c.args.source) q ws)) c.in-Masked.is
    (does_on (λ (a : Raise). a) (Ok c.in-Ok.answer) (raise_ioapic c.args.pin c.args.source) (g.R.Rig.held rig) c.parts-parts.result.now left (g.R.Rig.held after) ws vs c.parts-parts.ensures.value (g.met.R.Rig.held_with rig left) (g.met.R.Rig.wishes_with rig left) (c.in-Ok.ensures.does ws)))
    (Ok (Some (Ignored Masked))) r vs (masked_shows c.args.cpus c.args.pin msi c.args.source place pic q ws r vs)

pub returns-in-Stood-clause-does : goal.returns-in-Stood-clause-does
returns-in-Stood-clause-does g c = λ msi place pic.
    let rig = c.args.rig.now in
    let ws = g.R.Rig.wishes rig in
    let left = c.raise_ioapic.new.parts in
    let after = g.R.Rig.with_held rig left in
    let q = parts_of (g.R.Rig.held rig) in
    let r = parts_of (g.R.Rig.held after) in
    let vs = g.R.Rig.wishes after in
    pin_answers c.args.cpus c.args.pin msi c.args.source place pic q ws raises.Stood r vs
    (subst (λ a. EndsWith a [] [] r vs (run_on (raise_ioapic c.args.pin c.args.source) q ws)) c.in-Stood.is
    (does_on (λ (a : Raise). a) (Ok c.in-Ok.answer) (raise_ioapic c.args.pin c.args.source) (g.R.Rig.held rig) c.parts-parts.result.now left (g.R.Rig.held after) ws vs c.parts-parts.ensures.value (g.met.R.Rig.held_with rig left) (g.met.R.Rig.wishes_with rig left) (c.in-Ok.ensures.does ws)))
    (Ok (Some (Coalesced c.empty.result))) r vs (stood_shows c.args.cpus c.args.pin msi c.args.source place pic q ws c.empty.result c.empty.ensures r vs)

pub returns-in-Send-clause-does : goal.returns-in-Send-clause-does
returns-in-Send-clause-does g c = λ msi place pic.
    let rig = c.args.rig.now in
    let ws = g.R.Rig.wishes rig in
    let left = c.raise_ioapic.new.parts in
    let between = g.R.Rig.with_held rig left in
    let after = c.send_of_pin.new.rig in
    let q = parts_of (g.R.Rig.held rig) in
    let r = parts_of (g.R.Rig.held between) in
    let vs = g.R.Rig.wishes between in
    pin_answers c.args.cpus c.args.pin msi c.args.source place pic q ws (raises.Send c.in-Send.message) r vs
    (subst (λ a. EndsWith a [] [] r vs (run_on (raise_ioapic c.args.pin c.args.source) q ws)) c.in-Send.is
    (does_on (λ (a : Raise). a) (Ok c.in-Ok.answer) (raise_ioapic c.args.pin c.args.source) (g.R.Rig.held rig) c.parts-parts.result.now left (g.R.Rig.held between) ws vs c.parts-parts.ensures.value (g.met.R.Rig.held_with rig left) (g.met.R.Rig.wishes_with rig left) (c.in-Ok.ensures.does ws)))
    (as_other c.send_of_pin.result) (parts_of (g.R.Rig.held after)) (g.R.Rig.wishes after)
    (sent_shows c.args.cpus c.args.pin msi c.args.source place pic q ws c.in-Send.message c.send_of_pin.result r (parts_of (g.R.Rig.held after)) vs (g.R.Rig.wishes after) (c.send_of_pin.ensures.does (about_at place pic)))
