use Rattle.std.proofs.Common.{◌≡◌, true, is_some, sym, ap, ◌∙◌, subst}
use Rattle.irq_base.specs.declared.call.Caller.TheVariants.{Cpu}
use Rattle.turn_book.specs.Hands.{held_at}
use Rattle.turn_book.specs.Histories.{is_in}
use Rattle.turn_book.specs.Many.{AreApart, HoldsAll, given_all}
use Rattle.part_slots.specs.Commits.{Seen}
use Rattle.part_board.specs.DueNow.{due_turns}
use Rattle.part_board.proofs.DueSlots.{due_apart}
use Rattle.part_board.proofs.Watches.{left_seen, left_legal, left_own, left_turns, left_misses, left_notes, left_place, left_due}
use Rattle.part_board.proofs.dues.due_looked.Goals as goal

pub due_held-due-requires-clause-held : goal.due_held-due-requires-clause-held
due_held-due-requires-clause-held c = λ q within. ap is_some (ap (held_at q) c.front.ensures.turns.0) ∙ c.requires.just q ∙ ap (is_in q) c.requires.turns ∙ within

pub give_all-requires-clause-apart : goal.give_all-requires-clause-apart
give_all-requires-clause-apart c = subst AreApart (sym c.requires.turns) (due_apart c.args.n)

pub returns-clause-seen : goal.returns-clause-seen
returns-clause-seen c =
    let v : Seen = c.args.pen.now.seat.me.0 in
    let x : Seen = c.front.new.pen.seat.me.0 in
    let w : Seen = c.give_all.new.pen.seat.me.0 in
    let gave = c.give_all.ensures.view ∙ ap (given_all c.args.turns.now) c.due_held-due.ensures.view in
    left_seen c.args.turns.now v x w gave c.front.ensures.seen

pub returns-clause-legal : goal.returns-clause-legal
returns-clause-legal c =
    let v : Seen = c.args.pen.now.seat.me.0 in
    let x : Seen = c.front.new.pen.seat.me.0 in
    let w : Seen = c.give_all.new.pen.seat.me.0 in
    let gave = c.give_all.ensures.view ∙ ap (given_all c.args.turns.now) c.due_held-due.ensures.view in
    left_legal c.args.turns.now v x w gave c.front.ensures.legal

pub returns-clause-own : goal.returns-clause-own
returns-clause-own c =
    let v : Seen = c.args.pen.now.seat.me.0 in
    let x : Seen = c.front.new.pen.seat.me.0 in
    let w : Seen = c.give_all.new.pen.seat.me.0 in
    let gave = c.give_all.ensures.view ∙ ap (given_all c.args.turns.now) c.due_held-due.ensures.view in
    left_own c.args.turns.now v x w gave c.front.ensures.own

pub returns-clause-turns : goal.returns-clause-turns
returns-clause-turns c =
    let v : Seen = c.args.pen.now.seat.me.0 in
    let x : Seen = c.front.new.pen.seat.me.0 in
    let w : Seen = c.give_all.new.pen.seat.me.0 in
    let gave = c.give_all.ensures.view ∙ ap (given_all c.args.turns.now) c.due_held-due.ensures.view in
    left_turns c.args.turns.now v x w gave c.front.ensures.turns

pub returns-clause-misses : goal.returns-clause-misses
returns-clause-misses c =
    let v : Seen = c.args.pen.now.seat.me.0 in
    let x : Seen = c.front.new.pen.seat.me.0 in
    let w : Seen = c.give_all.new.pen.seat.me.0 in
    let gave = c.give_all.ensures.view ∙ ap (given_all c.args.turns.now) c.due_held-due.ensures.view in
    left_misses c.args.turns.now v x w gave c.front.ensures.misses

pub returns-clause-notes : goal.returns-clause-notes
returns-clause-notes c =
    let v : Seen = c.args.pen.now.seat.me.0 in
    let x : Seen = c.front.new.pen.seat.me.0 in
    let w : Seen = c.give_all.new.pen.seat.me.0 in
    let gave = c.give_all.ensures.view ∙ ap (given_all c.args.turns.now) c.due_held-due.ensures.view in
    left_notes c.args.turns.now v x w gave c.front.ensures.notes

pub returns-clause-place : goal.returns-clause-place
returns-clause-place c =
    let v : Seen = c.args.pen.now.seat.me.0 in
    let x : Seen = c.front.new.pen.seat.me.0 in
    let w : Seen = c.give_all.new.pen.seat.me.0 in
    let gave = c.give_all.ensures.view ∙ ap (given_all c.args.turns.now) c.due_held-due.ensures.view in
    left_place c.args.turns.now v x w gave c.front.ensures.place

pub returns-clause-due : goal.returns-clause-due
returns-clause-due c =
    let v : Seen = c.args.pen.now.seat.me.0 in
    let x : Seen = c.front.new.pen.seat.me.0 in
    let w : Seen = c.give_all.new.pen.seat.me.0 in
    let gave = c.give_all.ensures.view ∙ ap (given_all c.args.turns.now) c.due_held-due.ensures.view in
    let all : HoldsAll (due_turns (Cpu c.args.n)) x.held = λ q within. ap is_some (ap (held_at q) c.front.ensures.turns.0) ∙ c.requires.just q ∙ ap (is_in q) c.requires.turns ∙ within in
    left_due c.args.turns.now v x w gave c.args.n c.due_held-due.result c.front.ensures.legal c.front.ensures.holds all c.due_held-due.ensures.due
