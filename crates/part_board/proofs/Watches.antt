-- What a processor would be given, from before its turns were taken.
use Rattle.std.proofs.Common.{◌≡◌, ℕ, Bool, true, false, nat_eq, List, [], ◌∷◌, ◌++◌, Some, Ok, Err, refl, sym, ap, ◌∙◌, subst, arith, true≢false}
use Rattle.std.proofs.lemmas.List.{append_assoc, append-nil}
use Rattle.std.proofs.lemmas.Bool.Decides.{nat_tests}
use Rattle.std.specs.Prelude.{IfSome, IfErr, Result}
use Rattle.irq_base.specs.declared.call.Caller.{Caller}
use Rattle.irq_base.specs.declared.call.Caller.TheVariants.{Cpu}
use Rattle.irq_base.specs.declared.shape.Part.TheVariants.{Lapic}
use Rattle.irq_base.specs.declared.shape.Shape.{Shape}
use Rattle.board_model.specs.Board.{Board, part_of}
use Rattle.board_model.specs.Chips.{pair_of}
use Rattle.board_step.specs.declared.due.Due.{Due}
use Rattle.board_step.specs.Due.{due_by, AnswersDue}
use Rattle.board_step.specs.History.{opening}
use Rattle.board_step.proofs.DueNow.{acks_due}
use Rattle.turn_book.specs.Histories.{IsPrefix, Runs, entries_of, is_in}
use Rattle.turn_book.specs.Many.{HoldsAll, given_all, up_to}
use Rattle.turn_book.specs.Views.{IsLegal, HoldsRight, AddsNoneOfOwn, SameList, SamePlace, SameTurns}
use Rattle.turn_copies.proofs.Given.{given_place, given_list, given_turns}
use Rattle.part_slots.specs.Commits.{Seen}
use Rattle.part_slots.specs.Running.{Opens, IsStep, caller_of}
use Rattle.part_slots.specs.Slots.{place, slots_of}
use Rattle.part_attempt.proofs.Standing.{leads}
use Rattle.part_reach.proofs.Ways.{given_notes}
use Rattle.part_board.specs.declared.watching.Busy.{Busy}
use Rattle.part_board.specs.DueNow.{due_turns, due_turns_won, due_turns_found, due_of_held, GrewBy, IsDueAfter, IsDueOn}
use Rattle.part_board.proofs.DueSlots.{due_is}

-- what the parts told is due on the board that the view's list leaves
pub due_after : (shape other : Shape) (caller : Caller) (n : ℕ) (due : Due) (w : Seen) → shape ≡ other → caller ≡ Cpu n → w.begin ≡ Some (opening shape)
    → IsLegal Opens IsStep w → IfSome w.now (λ b. due ≡ due_by n (part_of b (Lapic n)) (pair_of b.pic)) → IsDueAfter other caller due w.seen
due_after shape other caller n due w one who begins legal told = subst (λ s. IsDueAfter s caller due w.seen) one (record {
  last = b;
  after = leads shape w begins legal;
  answers = subst (λ c. IsDueOn b c due) (sym who) (λ ws. subst (λ d. AnswersDue b n d ws) (sym is) (acks_due b n ws));
})
  where
    b : Board
    b = legal.1

    is : due ≡ due_by n (part_of b (Lapic n)) (pair_of b.pic)
    is = subst (λ o. IfSome o (λ s. due ≡ due_by n (part_of s (Lapic n)) (pair_of s.pic))) legal.4 told

-- ---- turns that a loop won, or found taken

pub grew_none : (among before now : List ℕ) → now ≡ before → GrewBy among before now
grew_none among before now same = record { more = []; grown = same ∙ sym (append-nil before); each = λ q is. cc }

among_both : (q : ℕ) (among first later : List ℕ) → (is_in q first ≡ true → is_in q among ≡ true) → (is_in q later ≡ true → is_in q among ≡ true) → is_in q (first ++ later) ≡ true → is_in q among ≡ true
among_both q among [] later here there is = there is
among_both q among (p ∷ ps) later here there is = by_test (λ h i. among_both q among ps later h there i) (nat_eq p q) here is
  where
    by_test : ((is_in q ps ≡ true → is_in q among ≡ true) → is_in q (ps ++ later) ≡ true → is_in q among ≡ true) → (t : Bool) → (elim t [ true ↦ true | false ↦ is_in q ps ] ≡ true → is_in q among ≡ true) → elim t [ true ↦ true | false ↦ is_in q (ps ++ later) ] ≡ true → is_in q among ≡ true
    by_test again true here is = here is
    by_test again false here is = again here is

pub grew_more : (among before mid now more : List ℕ) → GrewBy among before mid → now ≡ mid ++ more → ((q : ℕ) → is_in q more ≡ true → is_in q among ≡ true) → GrewBy among before now
grew_more among before mid now more grew grown each = record {
  more = grew.more ++ more;
  grown = grown ∙ ap (λ l. l ++ more) grew.grown ∙ append_assoc before grew.more more;
  each = λ q is. among_both q among grew.more more (grew.each q) (each q) is;
}

-- of the members before one, each is a member
among_before : (q p : ℕ) (ps : List ℕ) → is_in q (up_to p ps) ≡ true → is_in q ps ≡ true
among_before q p [] is = is
among_before q p (r ∷ rs) is = by_test (λ i. among_before q p rs i) (nat_eq r p) is
  where
    further : (is_in q (up_to p rs) ≡ true → is_in q rs ≡ true) → (t : Bool) → elim t [ true ↦ true | false ↦ is_in q (up_to p rs) ] ≡ true → elim t [ true ↦ true | false ↦ is_in q rs ] ≡ true
    further again true is = refl
    further again false is = again is

    by_test : (is_in q (up_to p rs) ≡ true → is_in q rs ≡ true) → (s : Bool) → is_in q (elim s [ true ↦ [] | false ↦ r ∷ up_to p rs ]) ≡ true → elim (nat_eq r q) [ true ↦ true | false ↦ is_in q rs ] ≡ true
    by_test again true is = absurd (true≢false (sym is))
    by_test again false is = further again (nat_eq r q) is

-- of one that is a member, each is
among_one : (q p : ℕ) (ps : List ℕ) → is_in p ps ≡ true → is_in q (p ∷ []) ≡ true → is_in q ps ≡ true
among_one q p ps member is = by_test (nat_eq p q) refl is
  where
    by_test : (t : Bool) → nat_eq p q ≡ t → elim t [ true ↦ true | false ↦ false ] ≡ true → is_in q ps ≡ true
    by_test true same is = (let e : p ≡ q = grind (arith, nat_tests) in subst (λ k. is_in k ps ≡ true) e member)
    by_test false same is = absurd (true≢false (sym is))

-- an attempt more won turns of the caller's, and found at most one of them taken
module _ (who same : Caller) (is_same : same ≡ who) (before mid now : List ℕ) (grew : GrewBy (due_turns who) before mid) where
  pub took_more : (r : Result Due Busy) → now ≡ mid ++ due_turns_won same r → GrewBy (due_turns who) before now
  took_more (Ok due) took = grew_more (due_turns who) before mid now (due_turns same) grew took (λ q is. subst (λ c. is_in q (due_turns c) ≡ true) is_same is)
  took_more (Err busy) took =
      grew_more (due_turns who) before mid now (up_to (place busy.part) (due_turns same)) grew took
      (λ q is. subst (λ c. is_in q (due_turns c) ≡ true) is_same (among_before q (place busy.part) (due_turns same) is))

  pub found_more : (r : Result Due Busy) → IfErr r (λ busy. is_in (place busy.part) (due_turns same) ≡ true) → now ≡ mid ++ due_turns_found r → GrewBy (due_turns who) before now
  found_more (Ok due) own found = grew_more (due_turns who) before mid now [] grew found (λ q is. absurd (true≢false (sym is)))
  found_more (Err busy) own found =
      grew_more (due_turns who) before mid now (place busy.part ∷ []) grew found
      (λ q is. subst (λ c. is_in q (due_turns c) ≡ true) is_same (among_one q (place busy.part) (due_turns same) own is))

-- ---- a look at the front, and the turns given back: the views before (v), behind the look (x), and with the turns given back (w)

module _ (ps : List ℕ) (v x w : Seen) (gave : w ≡ given_all ps x) where
  list : SameList x w
  list = subst (λ (y : Seen). SameList x y) (sym gave) (given_list ps x)

  same_place : SamePlace x w
  same_place = subst (λ (y : Seen). SamePlace x y) (sym gave) (given_place ps x)

  turns : (w.took ≡ x.took) × (w.found ≡ x.found)
  turns = subst (λ (y : Seen). (y.took ≡ x.took) × (y.found ≡ x.found)) (sym gave) (given_turns ps x)

  pub left_seen : IsPrefix v.seen x.seen → IsPrefix v.seen w.seen
  left_seen seen = subst (λ l. IsPrefix v.seen l) (sym list.0) seen

  pub left_legal : IsLegal Opens IsStep x → IsLegal Opens IsStep w
  left_legal legal = (legal.0, legal.1, same_place.0 ∙ legal.2, legal.3, list.1 ∙ legal.4, subst (λ l. Runs IsStep legal.0 l legal.1) (sym list.0) legal.5)

  pub left_own : AddsNoneOfOwn caller_of v x → AddsNoneOfOwn caller_of v w
  left_own own k is = ap (entries_of caller_of k) list.0 ∙ own k is

  pub left_turns : SameTurns v x → (w.took ≡ v.took) × (w.found ≡ v.found)
  left_turns same = (turns.0 ∙ same.1, turns.1 ∙ same.2)

  pub left_misses : x.misses ≡ v.misses → w.misses ≡ v.misses
  left_misses same = list.5 ∙ same

  pub left_notes : x.notes ≡ v.notes → w.notes ≡ v.notes
  left_notes same = ap (λ (y : Seen). y.notes) gave ∙ given_notes ps x ∙ same

  pub left_place : SamePlace v x → SamePlace v w
  left_place same = (same_place.0 ∙ same.0, same_place.1 ∙ same.1, same_place.2 ∙ same.2, same_place.3 ∙ same.3, same_place.4 ∙ same.4, same_place.5 ∙ same.5)

  -- the parts that were held tell what is due on the board that is left
  pub left_due : (n : ℕ) (due : Due) → IsLegal Opens IsStep x → HoldsRight slots_of x → HoldsAll (due_turns (Cpu n)) x.held → due_of_held n x.held ≡ Some due
      → IfSome w.now (λ b. due ≡ due_by n (part_of b (Lapic n)) (pair_of b.pic))
  left_due n due legal right all told =
      subst (λ o. IfSome o (λ b. due ≡ due_by n (part_of b (Lapic n)) (pair_of b.pic))) (sym (list.1 ∙ legal.4)) (due_is x legal.1 legal.4 right n due all told)
