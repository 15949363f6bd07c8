use Rattle.std.proofs.Common.{◌≡◌, [], Some, None, Ok, Err, refl, subst}
use Rattle.std.specs.declared.option.Option.{Option}
use Rattle.irq_base.specs.declared.event.Pin.TheVariants.{Ioapic}
use Rattle.irq_base.specs.declared.message.Message.{Message}
use Rattle.board_model.specs.Run.{run_on}
use Rattle.board_raise.specs.InHand.{parts_of}
use Rattle.board_raise.specs.Shown.{EndsWith}
use Rattle.board_raise.proofs.Composing.{does_on}
use Rattle.board_ack.specs.Acknowledge.{end_level}
use Rattle.board_ack.specs.OnHand.{end_entry}
use Rattle.board_ack.proofs.Adding.{nothing_adds, missing_of, missing_from}
use Rattle.board_ack.proofs.Stepping.{level_lacks, level_goes}
use Rattle.board_ack.proofs.entry.end_ioapic.Goals as goal

pub returns-in-Err-clause-does : goal.returns-in-Err-clause-does
returns-in-Err-clause-does g c =
    let rig = c.args.rig.now in
    let ws = g.R.Rig.wishes rig in
    let left = c.end_entry.new.parts in
    level_lacks c.args.cpus c.args.pin (parts_of (g.R.Rig.held rig)) ws c.in-Err.lacks.part
    (does_on (λ (m : Option Message). m) (Err c.in-Err.lacks) (end_entry c.args.pin) (g.R.Rig.held rig) c.parts-parts.result.now left left ws ws c.parts-parts.ensures.value refl refl (c.in-Err.ensures.does ws))

pub returns-in-Err-clause-missing : goal.returns-in-Err-clause-missing
returns-in-Err-clause-missing g c =
    missing_of (end_level c.args.cpus (Ioapic c.args.pin)) (parts_of (g.R.Rig.held c.args.rig.now)) (g.R.Rig.wishes c.args.rig.now) c.in-Err.lacks.part (returns-in-Err-clause-does g c)

pub returns-in-None-clause-does : goal.returns-in-None-clause-does
returns-in-None-clause-does g c =
    let rig = c.args.rig.now in
    let ws = g.R.Rig.wishes rig in
    let left = c.end_entry.new.parts in
    let after = g.R.Rig.with_held rig left in
    let q = parts_of (g.R.Rig.held rig) in
    let r = parts_of (g.R.Rig.held after) in
    let vs = g.R.Rig.wishes after in
    level_goes c.args.cpus c.args.pin q ws None r vs
    (subst (λ (m : Option Message). EndsWith m [] [] r vs (run_on (end_entry c.args.pin) q ws)) c.in-None.is
    (does_on (λ (m : Option Message). m) (Ok c.in-Ok.message) (end_entry c.args.pin) (g.R.Rig.held rig) c.parts-parts.result.now left (g.R.Rig.held after) ws vs c.parts-parts.ensures.value (g.met.R.Rig.held_with rig left) (g.met.R.Rig.wishes_with rig left) (c.in-Ok.ensures.does ws)))
    (Ok tt) c.args.events.now.items c.args.events.now.items r vs (nothing_adds c.args.events.now.items r vs)

pub returns-in-Some-clause-does : goal.returns-in-Some-clause-does
returns-in-Some-clause-does g c =
    let rig = c.args.rig.now in
    let ws = g.R.Rig.wishes rig in
    let left = c.end_entry.new.parts in
    let between = g.R.Rig.with_held rig left in
    let after = c.resend.new.rig in
    let q = parts_of (g.R.Rig.held rig) in
    let r = parts_of (g.R.Rig.held between) in
    let vs = g.R.Rig.wishes between in
    level_goes c.args.cpus c.args.pin q ws (Some c.in-Some.message) r vs
    (subst (λ (m : Option Message). EndsWith m [] [] r vs (run_on (end_entry c.args.pin) q ws)) c.in-Some.is
    (does_on (λ (m : Option Message). m) (Ok c.in-Ok.message) (end_entry c.args.pin) (g.R.Rig.held rig) c.parts-parts.result.now left (g.R.Rig.held between) ws vs c.parts-parts.ensures.value (g.met.R.Rig.held_with rig left) (g.met.R.Rig.wishes_with rig left) (c.in-Ok.ensures.does ws)))
    c.resend.result c.args.events.now.items c.resend.new.events.items (parts_of (g.R.Rig.held after)) (g.R.Rig.wishes after) c.resend.ensures.does

pub returns-in-Some-clause-missing : goal.returns-in-Some-clause-missing
returns-in-Some-clause-missing g c =
    missing_from (end_level c.args.cpus (Ioapic c.args.pin)) (parts_of (g.R.Rig.held c.args.rig.now)) (g.R.Rig.wishes c.args.rig.now) c.args.events.now.items c.resend.new.events.items (parts_of (g.R.Rig.held c.resend.new.rig)) (g.R.Rig.wishes c.resend.new.rig) c.resend.result (returns-in-Some-clause-does g c)
