use Rattle.std.proofs.Common.{◌≡◌, ◌∷◌, Some, true, refl, sym, ap, ◌∙◌, subst}
use Rattle.irq_base.specs.Callers.{is_there}
use Rattle.irq_base.specs.declared.shape.Shape.{Shape}
use Rattle.part_reach.proofs.OnHand.{nothing_in}
use Rattle.board_step.specs.History.{Legal}
use Rattle.turn_book.specs.Histories.{IsPrefix, is_in}
use Rattle.part_slots.specs.Callers.{caller_number}
use Rattle.part_slots.specs.Commits.{Seen}
use Rattle.part_board.specs.Made.{MadeAre, AreThere}
use Rattle.part_board.specs.Seen.{entries_by}
use Rattle.part_board.proofs.Learnt.{legal_of, none_are, made_more, there_more}
use Rattle.part_board.proofs.desk.Desk.pass.Goals as goal

pub invariant_of-self-clause-tells : goal.invariant_of-self-clause-tells
invariant_of-self-clause-tells c =
    let desk = c.args.self.now in
    let made = ap (λ (v : Seen). v.made) c.split-pen.ensures.kept ∙ (λ i. c.caller_number.ensures i ∷ c.front.ensures.place.4 i) in
    subst (MadeAre c.insert.new.self) (sym made) (made_more desk.made c.insert.new.self desk.pen.seat.me.0.made c.args.caller desk.tells c.insert.ensures)

pub invariant_of-self-clause-there : goal.invariant_of-self-clause-there
invariant_of-self-clause-there c =
    let desk = c.args.self.now in
    let made = ap (λ (v : Seen). v.made) c.split-pen.ensures.kept ∙ (λ i. c.caller_number.ensures i ∷ c.front.ensures.place.4 i) in
    let there = subst (λ s. is_there c.args.caller s ≡ true) (sym c.requires.desk.shape) c.requires.there in
    subst (AreThere desk.shape) (sym made) (there_more desk.shape desk.pen.seat.me.0.made c.args.caller desk.there there)

pub returns-clause-pass : goal.returns-clause-pass
returns-clause-pass c =
    let desk = c.args.self.now in
    let v : Seen = desk.pen.seat.me.0 in
    let w : Seen = c.front.new.pen.seat.me.0 in
    let same = ap (λ (u : Seen). u.seen) c.split-pen.ensures.pen in
    let begins = c.front.ensures.place.0 ∙ desk.begins in
    let never = ap (is_in (caller_number c.args.caller)) c.front.ensures.place.4 ∙ desk.tells c.args.caller ∙ sym c.has.ensures ∙ c.if-has.false in
    let none = none_are c.args.caller w.seen (c.front.ensures.made (c.front.ensures.place.3 ∙ desk.desk) (caller_number c.args.caller) never) in
    record {
      board = record { book = c.split-pen.ensures.book.1 ∙ c.front.ensures.book ∙ c.requires.desk.book; shape = c.requires.desk.shape };
      caller = refl;
      seen = subst (IsPrefix v.seen) (sym same) c.front.ensures.seen;
      legal = subst (λ s. Legal s c.split-pen.result.seat.me.0.seen) c.requires.desk.shape (subst (Legal desk.shape) (sym same) (legal_of desk.shape w begins c.front.ensures.legal));
      fresh = ap (entries_by c.args.caller) same ∙ none;
    }

pub invariant_of-result-clause-registry_room : goal.invariant_of-result-clause-registry_room
invariant_of-result-clause-registry_room c = c.in-Ok.ensures.room.registry

pub invariant_of-result-clause-counters_room : goal.invariant_of-result-clause-counters_room
invariant_of-result-clause-counters_room c = c.in-Ok.ensures.room.counters ∙ ap (λ (s : Shape). Some s.counters) (sym c.requires.desk.shape)

pub invariant_of-result-clause-lapics_room : goal.invariant_of-result-clause-lapics_room
invariant_of-result-clause-lapics_room c = c.in-Ok.ensures.room.places ∙ ap (λ (s : Shape). s.cpus) (sym c.requires.desk.shape)

pub invariant_of-result-clause-empty_handed : goal.invariant_of-result-clause-empty_handed
invariant_of-result-clause-empty_handed c = λ p out. nothing_in c.in-Ok.room.rig.parts _ c.in-Ok.ensures.parts p

pub invariant_of-result-clause-noted : goal.invariant_of-result-clause-noted
invariant_of-result-clause-noted c = c.in-Ok.ensures.noted _
