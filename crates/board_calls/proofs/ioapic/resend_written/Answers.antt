use Rattle.std.proofs.Common.{ℕ, Ok, sym, subst}
use Rattle.std.specs.declared.option.Option.{Option}
use Rattle.board_model.specs.Run.{run_on}
use Rattle.board_raise.specs.InHand.{parts_of}
use Rattle.board_ack.specs.OnHand.{Adds}
use Rattle.board_ack.proofs.Adding.{nothing_adds}
use Rattle.board_calls.specs.Accesses.{resend_written}
use Rattle.board_calls.proofs.ioapic.resend_written.Goals as goal

pub returns-in-None-clause-does : goal.returns-in-None-clause-does
returns-in-None-clause-does g c =
    let events = c.args.events.now.items in
    let q = parts_of (g.R.Rig.held c.args.rig.now) in
    let ws = g.R.Rig.wishes c.args.rig.now in
    subst (λ (pin : Option ℕ). Adds (Ok (tt {0})) events events q ws (run_on (resend_written c.args.shape.now pin) q ws)) (sym c.in-None.is) (nothing_adds events q ws)

pub returns-in-Some-clause-does : goal.returns-in-Some-clause-does
returns-in-Some-clause-does g c =
    let after = c.resend_due.new.rig in
    let q = parts_of (g.R.Rig.held c.args.rig.now) in
    let ws = g.R.Rig.wishes c.args.rig.now in
    subst (λ (pin : Option ℕ). Adds c.resend_due.result c.args.events.now.items c.resend_due.new.events.items (parts_of (g.R.Rig.held after)) (g.R.Rig.wishes after) (run_on (resend_written c.args.shape.now pin) q ws)) (sym c.in-Some.is)
    c.resend_due.ensures.does
