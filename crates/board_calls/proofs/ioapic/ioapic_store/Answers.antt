use Rattle.std.proofs.Common.{ℕ, Ok, Err}
use Rattle.std.specs.declared.option.Option.{Option}
use Rattle.irq_base.specs.declared.reply.Reply.TheVariants.{Done}
use Rattle.board_model.specs.Plan.{reply, ◌>>◌}
use Rattle.board_raise.specs.InHand.{parts_of}
use Rattle.board_calls.specs.Accesses.{ioapic_store, resend_written}
use Rattle.board_calls.specs.Accessed.{storing}
use Rattle.board_calls.proofs.Composed.{does_from, first_lacks}
use Rattle.board_calls.proofs.Answering.{answered}
use Rattle.board_calls.proofs.Accesses.{store_steps}
use Rattle.board_calls.proofs.ioapic.ioapic_store.Goals as goal

pub returns-in-Err-clause-does : goal.returns-in-Err-clause-does
returns-in-Err-clause-does g c =
    let rig = c.args.rig.now in
    let shape = c.args.shape.now in
    let left = c.write.new.parts in
    let after = g.R.Rig.with_held rig left in
    let ws = g.R.Rig.wishes rig in
    first_lacks (storing c.args.offset c.args.len c.args.value) (λ (a : Option ℕ). resend_written shape a >> reply (Done)) (ioapic_store shape c.args.offset c.args.len c.args.value) (store_steps shape c.args.offset c.args.len c.args.value) (parts_of (g.R.Rig.held rig)) ws c.in-Err.lacks.part
    (does_from {S = Option ℕ} (storing c.args.offset c.args.len c.args.value) c.write.result (Err c.in-Err.lacks) (g.R.Rig.held rig) c.parts.result.now left (g.R.Rig.held after) ws (g.R.Rig.wishes after)
    c.in-Err.is c.parts.ensures.value (g.met.R.Rig.held_with rig left) (g.met.R.Rig.wishes_with rig left) (c.write.ensures.does ws))

pub returns-in-Ok-resend_written-clause-does : goal.returns-in-Ok-resend_written-clause-does
returns-in-Ok-resend_written-clause-does g c =
    let rig = c.args.rig.now in
    let shape = c.args.shape.now in
    let left = c.write.new.parts in
    let between = g.R.Rig.with_held rig left in
    let after = c.resend_written.new.rig in
    let ws = g.R.Rig.wishes rig in
    let r = parts_of (g.R.Rig.held between) in
    let vs = g.R.Rig.wishes between in
    let s = parts_of (g.R.Rig.held after) in
    let later = g.R.Rig.wishes after in
    let old = c.args.events.now.items in
    let new = c.resend_written.new.events.items in
    answered (storing c.args.offset c.args.len c.args.value) (λ (a : Option ℕ). resend_written shape a) (λ (a : Option ℕ). Done) (ioapic_store shape c.args.offset c.args.len c.args.value) (store_steps shape c.args.offset c.args.len c.args.value) (parts_of (g.R.Rig.held rig)) ws c.in-Ok.pin r vs
    (does_from {S = Option ℕ} (storing c.args.offset c.args.len c.args.value) c.write.result (Ok c.in-Ok.pin) (g.R.Rig.held rig) c.parts.result.now left (g.R.Rig.held between) ws vs
    c.in-Ok.is c.parts.ensures.value (g.met.R.Rig.held_with rig left) (g.met.R.Rig.wishes_with rig left) (c.write.ensures.does ws))
    (Ok (tt {0})) old new s later
    c.in-Ok-resend_written.ensures.does

pub returns-in-Err-resend_written-clause-does : goal.returns-in-Err-resend_written-clause-does
returns-in-Err-resend_written-clause-does g c =
    let rig = c.args.rig.now in
    let shape = c.args.shape.now in
    let left = c.write.new.parts in
    let between = g.R.Rig.with_held rig left in
    let after = c.resend_written.new.rig in
    let ws = g.R.Rig.wishes rig in
    let r = parts_of (g.R.Rig.held between) in
    let vs = g.R.Rig.wishes between in
    let s = parts_of (g.R.Rig.held after) in
    let later = g.R.Rig.wishes after in
    let old = c.args.events.now.items in
    let new = c.resend_written.new.events.items in
    answered (storing c.args.offset c.args.len c.args.value) (λ (a : Option ℕ). resend_written shape a) (λ (a : Option ℕ). Done) (ioapic_store shape c.args.offset c.args.len c.args.value) (store_steps shape c.args.offset c.args.len c.args.value) (parts_of (g.R.Rig.held rig)) ws c.in-Ok.pin r vs
    (does_from {S = Option ℕ} (storing c.args.offset c.args.len c.args.value) c.write.result (Ok c.in-Ok.pin) (g.R.Rig.held rig) c.parts.result.now left (g.R.Rig.held between) ws vs
    c.in-Ok.is c.parts.ensures.value (g.met.R.Rig.held_with rig left) (g.met.R.Rig.wishes_with rig left) (c.write.ensures.does ws))
    (Err c.in-Err-resend_written.lacks) old new s later
    c.in-Err-resend_written.ensures.does
