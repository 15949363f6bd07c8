use Rattle.std.proofs.Common.{Ok, Err, Some, None, sym, subst, ap, ◌∙◌}
use Rattle.std.specs.declared.option.Option.{Option}
use Rattle.irq_base.specs.declared.message.Message.{Message}
use Rattle.board_raise.specs.declared.parts.Parts as code
use Rattle.board_raise.specs.InHand.{parts_of}
use Rattle.board_raise.proofs.Composing.{stops_first}
use Rattle.board_ack.specs.Acknowledge.{resend}
use Rattle.board_ack.proofs.Adding.{nothing_adds, quiet_adds, missing_from}
use Rattle.board_calls.specs.Accessed.{due_again}
use Rattle.board_calls.specs.Done.{FitsShape, IsMissing}
use Rattle.board_calls.proofs.Composed.{does_from}
use Rattle.board_calls.proofs.Fitting.{fits_acked}
use Rattle.board_calls.proofs.ioapic.resend_due.Goals as goal

pub returns-in-Err-clause-does : goal.returns-in-Err-clause-does
returns-in-Err-clause-does g c =
    let rig = c.args.rig.now in
    let ws = g.R.Rig.wishes rig in
    let left = c.parts.result.now in
    let after = g.R.Rig.with_held rig left in
    stops_first (resend c.args.shape.now.cpus c.args.pin) (due_again c.args.pin) (parts_of (g.R.Rig.held rig)) ws c.in-Err.lacks.part
    (does_from {S = Option Message} (due_again c.args.pin) c.due_again.result (Err c.in-Err.lacks) (g.R.Rig.held rig) left left (g.R.Rig.held after) ws (g.R.Rig.wishes after)
    c.in-Err.is c.parts.ensures.value (g.met.R.Rig.held_with rig left) (g.met.R.Rig.wishes_with rig left) (c.due_again.ensures.does ws))

pub returns-in-Ok-None-clause-does : goal.returns-in-Ok-None-clause-does
returns-in-Ok-None-clause-does g c =
    let rig = c.args.rig.now in
    let events = c.args.events.now.items in
    let ws = g.R.Rig.wishes rig in
    let left = c.parts.result.now in
    let after = g.R.Rig.with_held rig left in
    let r = parts_of (g.R.Rig.held after) in
    let vs = g.R.Rig.wishes after in
    quiet_adds (resend c.args.shape.now.cpus c.args.pin) (due_again c.args.pin) (parts_of (g.R.Rig.held rig)) ws None r vs events events r vs (Ok (tt {0}))
    (does_from {S = Option Message} (due_again c.args.pin) c.due_again.result (Ok None) (g.R.Rig.held rig) left left (g.R.Rig.held after) ws vs
    (c.in-Ok-None.is ∙ ap Ok c.in-Ok-None.field-0-is) c.parts.ensures.value (g.met.R.Rig.held_with rig left) (g.met.R.Rig.wishes_with rig left) (c.due_again.ensures.does ws))
    (nothing_adds events r vs)

pub returns-in-Ok-Some-clause-does : goal.returns-in-Ok-Some-clause-does
returns-in-Ok-Some-clause-does g c =
    let rig = c.args.rig.now in
    let ws = g.R.Rig.wishes rig in
    let left = c.parts.result.now in
    let between = g.R.Rig.with_held rig left in
    let after = c.resend.new.rig in
    let r = parts_of (g.R.Rig.held between) in
    let vs = g.R.Rig.wishes between in
    quiet_adds (resend c.args.shape.now.cpus c.args.pin) (due_again c.args.pin) (parts_of (g.R.Rig.held rig)) ws (Some c.in-Ok-Some.message) r vs
    c.args.events.now.items c.resend.new.events.items (parts_of (g.R.Rig.held after)) (g.R.Rig.wishes after) c.resend.result
    (does_from {S = Option Message} (due_again c.args.pin) c.due_again.result (Ok (Some c.in-Ok-Some.message)) (g.R.Rig.held rig) left left (g.R.Rig.held between) ws vs
    (c.in-Ok-Some.is ∙ ap Ok c.in-Ok-Some.field-0-is) c.parts.ensures.value (g.met.R.Rig.held_with rig left) (g.met.R.Rig.wishes_with rig left) (c.due_again.ensures.does ws))
    c.resend.ensures.does

pub returns-in-Ok-Some-clause-missing : goal.returns-in-Ok-Some-clause-missing
returns-in-Ok-Some-clause-missing g c =
    let rig = c.args.rig.now in
    let left = c.parts.result.now in
    let between = g.R.Rig.with_held rig left in
    let after = c.resend.new.rig in
    subst (λ (p : code.Parts). IsMissing c.resend.result p) (g.met.R.Rig.held_with rig left ∙ c.parts.ensures.value)
    (missing_from (resend c.args.shape.now.cpus c.args.pin (Some c.in-Ok-Some.message)) (parts_of (g.R.Rig.held between)) (g.R.Rig.wishes between)
    c.args.events.now.items c.resend.new.events.items (parts_of (g.R.Rig.held after)) (g.R.Rig.wishes after) c.resend.result c.resend.ensures.does)

pub returns-in-Ok-Some-clause-fits : goal.returns-in-Ok-Some-clause-fits
returns-in-Ok-Some-clause-fits g c =
    let rig = c.args.rig.now in
    let shape = c.args.shape.now in
    let between = g.R.Rig.with_held rig c.parts.result.now in
    let same = g.met.R.Rig.held_with rig c.parts.result.now ∙ c.parts.ensures.value in
    fits_acked shape (g.R.Rig.held between) (subst (FitsShape shape) (sym same) c.requires.fits) (g.R.Rig.held c.resend.new.rig) c.resend.ensures.kept c.resend.ensures.pins
