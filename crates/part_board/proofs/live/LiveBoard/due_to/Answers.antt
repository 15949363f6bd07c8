use Rattle.std.proofs.Common.{◌≡◌, ◌+◌, ◌<◌, true, sym, ap, ◌∙◌, subst, arith, refl}
use Rattle.std.proofs.lemmas.Bool.Decides.{nat_tests}
use Rattle.irq_base.specs.Callers.{is_there}
use Rattle.irq_base.specs.declared.call.Caller.TheVariants.{Cpu}
use Rattle.turn_book.specs.Histories.{IsPrefix, entries_of, is_in}
use Rattle.turn_book.specs.Many.{AllBelow, AreApart}
use Rattle.part_slots.specs.Commits.{Seen}
use Rattle.part_slots.specs.Running.{caller_of}
use Rattle.part_board.proofs.DueSlots.{due_low, due_below, due_apart}
use Rattle.part_board.proofs.Learnt.{learnt_at}
use Rattle.part_board.proofs.Watches.{due_after}
use Rattle.part_board.proofs.live.LiveBoard.due_to.Goals as goal

pub take_all-requires-clause-parts : goal.take_all-requires-clause-parts
take_all-requires-clause-parts c =
    let live = c.args.self.now in
    let pass = c.args.pass.now in
    let n = c.args.n in
    let turns = live.turns in
    let places = c.as_slice.ensures.value ∙ c.turns_of-turns.ensures in
    let there : is_there (Cpu n) live.shape ≡ true = subst (λ s. is_there (Cpu n) s ≡ true) c.requires.pass.shape (subst (λ k. is_there k pass.shape ≡ true) c.requires.processor pass.there) in
    let low : n < live.shape.cpus = grind (arith, nat_tests) in
    subst (λ ps. AllBelow live.book.table.shared.table_id.slots ps) (sym places) (due_below n live.book.table.shared.table_id.slots (omega (arith, turns, low)))

pub take_all-requires-clause-apart : goal.take_all-requires-clause-apart
take_all-requires-clause-apart c = subst AreApart (sym (c.as_slice.ensures.value ∙ c.turns_of-turns.ensures)) (due_apart c.args.n)

pub returns-in-Err-clause-learnt : goal.returns-in-Err-clause-learnt
returns-in-Err-clause-learnt c =
    let pass = c.args.pass.now in
    let v : Seen = pass.pen.seat.me.0 in
    let w : Seen = c.front.new.pen.seat.me.0 in
    let same = c.in-Err.ensures.list.0 in
    learnt_at pass.shape c.args.self.now.shape pass.caller v w w.seen c.requires.pass.shape pass.begins pass.named (c.front.ensures.place.0 ∙ c.in-Err.ensures.place.0)
    (subst (λ l. IsPrefix l w.seen) same c.front.ensures.seen) c.front.ensures.legal (λ k is. c.front.ensures.own k (c.in-Err.ensures.place.2 ∙ is) ∙ ap (entries_of caller_of k) same) refl

pub returns-clause-learnt : goal.returns-clause-learnt
returns-clause-learnt c =
    let pass = c.args.pass.now in
    let v : Seen = pass.pen.seat.me.0 in
    let w : Seen = c.due_looked-due.new.pen.seat.me.0 in
    let same = c.in_default.ensures.list.0 in
    learnt_at pass.shape c.args.self.now.shape pass.caller v w w.seen c.requires.pass.shape pass.begins pass.named (c.due_looked-due.ensures.place.0 ∙ c.in_default.ensures.place.0)
    (subst (λ l. IsPrefix l w.seen) same c.due_looked-due.ensures.seen) c.due_looked-due.ensures.legal (λ k is. c.due_looked-due.ensures.own k (c.in_default.ensures.place.2 ∙ is) ∙ ap (entries_of caller_of k) same) refl

pub returns-clause-due : goal.returns-clause-due
returns-clause-due c =
    let pass = c.args.pass.now in
    let w : Seen = c.due_looked-due.new.pen.seat.me.0 in
    due_after pass.shape c.args.self.now.shape pass.caller c.args.n c.due_looked-due.result w c.requires.pass.shape c.requires.processor
    (c.due_looked-due.ensures.place.0 ∙ c.in_default.ensures.place.0 ∙ pass.begins) c.due_looked-due.ensures.legal c.due_looked-due.ensures.due
