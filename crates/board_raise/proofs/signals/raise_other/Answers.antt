use Rattle.std.proofs.Common.{ℕ, Some, None, sym, subst}
use Rattle.std.specs.declared.option.Option.{Option}
use Rattle.irq_base.specs.declared.message.MsiWord.{MsiWord}
use Rattle.board_model.specs.Run.{run_on}
use Rattle.board_raise.specs.InHand.{parts_of}
use Rattle.board_raise.specs.Signal.{raise_other}
use Rattle.board_raise.specs.Shown.{about_at, ShowsBeside, as_other}
use Rattle.board_raise.proofs.Signalling.{message_beside}
use Rattle.board_raise.proofs.signals.raise_other.Goals as goal

pub returns-in-Some-default-clause-does : goal.returns-in-Some-default-clause-does
returns-in-Some-default-clause-does g c = λ place pic.
    let q = parts_of (g.R.Rig.held c.args.rig.now) in
    let ws = g.R.Rig.wishes c.args.rig.now in
    let after = parts_of (g.R.Rig.held c.raise_pin.new.rig) in
    let later = g.R.Rig.wishes c.raise_pin.new.rig in
    subst (λ r. ShowsBeside place pic r after later (run_on (raise_other c.args.cpus c.args.targets.now.ioapic c.args.targets.now.msi c.args.source (about_at place pic)) q ws)) (sym c.as_other.ensures)
    (subst (λ (pin : Option ℕ). ShowsBeside place pic (as_other c.raise_pin.result) after later (run_on (raise_other c.args.cpus pin c.args.targets.now.msi c.args.source (about_at place pic)) q ws)) (sym c.in-Some-default.is-0)
    (c.raise_pin.ensures.does c.args.targets.now.msi place pic))

pub returns-in-None-Some-clause-does : goal.returns-in-None-Some-clause-does
returns-in-None-Some-clause-does g c = λ place pic.
    let q = parts_of (g.R.Rig.held c.args.rig.now) in
    let ws = g.R.Rig.wishes c.args.rig.now in
    let after = parts_of (g.R.Rig.held c.send.new.rig) in
    let later = g.R.Rig.wishes c.send.new.rig in
    subst (λ r. ShowsBeside place pic r after later (run_on (raise_other c.args.cpus c.args.targets.now.ioapic c.args.targets.now.msi c.args.source (about_at place pic)) q ws)) (sym c.as_other-in-None-Some.ensures)
    (subst (λ (pin : Option ℕ). ShowsBeside place pic (as_other c.send.result) after later (run_on (raise_other c.args.cpus pin c.args.targets.now.msi c.args.source (about_at place pic)) q ws)) (sym c.in-None-Some.is-0)
    (subst (λ (msi : Option MsiWord). ShowsBeside place pic (as_other c.send.result) after later (run_on (raise_other c.args.cpus None msi c.args.source (about_at place pic)) q ws)) (sym c.in-None-Some.is-1)
    (message_beside c.args.cpus c.in-None-Some.word c.message_of.result c.args.source place pic c.send.result q after ws later c.message_of.ensures (c.send.ensures.does (about_at place pic)))))
