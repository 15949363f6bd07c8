-- What a seat of a running board knows, in the words of the board.
use Rattle.std.proofs.Common.{◌≡◌, ℕ, Bool, true, false, ◌||◌, nat_eq, List, [], ◌∷◌, filter, Some, None, refl, sym, ap, ◌∙◌, subst, arith}
use Rattle.std.proofs.lemmas.Bool.Decides.{nat_tests}
use Rattle.irq_base.specs.Callers.{is_there}
use Rattle.irq_base.specs.declared.call.Caller.{Caller}
use Rattle.irq_base.specs.declared.call.Caller.TheVariants.{Device, Cpu}
use Rattle.irq_base.specs.declared.lists.Entry.{Entry}
use Rattle.irq_base.specs.declared.shape.Shape.{Shape}
use Rattle.board_model.specs.Board.{Board}
use Rattle.board_step.specs.History.{opening, Leads, Legal}
use Rattle.turn_book.specs.Histories.{IsPrefix, entries_of, is_in}
use Rattle.turn_book.specs.Views.{IsLegal, AddsNoneOfOwn}
use Rattle.part_slots.specs.Callers.{caller_number, caller_at, is_caller}
use Rattle.part_slots.specs.Commits.{Seen}
use Rattle.part_slots.specs.Running.{Opens, IsStep, caller_of}
use Rattle.part_slots.proofs.Inverse.{callers_are_numbers}
use Rattle.part_slots.proofs.Histories.{runs_are_legal}
use Rattle.part_board.specs.declared.callers.Callers.{Callers}
use Rattle.part_board.specs.Callers.{has_caller}
use Rattle.part_board.specs.Made.{MadeAre, AreThere}
use Rattle.part_board.specs.Seen.{entries_by, Learnt}

some_is : {A : Type 0} (x y : A) → Some x ≡ Some y → x ≡ y
some_is x y e = cc

-- a view's list that is legal for the book is legal for the shape with which it begins
pub legal_of : (shape : Shape) (v : Seen) → v.begin ≡ Some (opening shape) → IsLegal Opens IsStep v → Legal shape v.seen
legal_of shape v begins legal =
    let same : legal.0 ≡ opening shape = some_is legal.0 (opening shape) (sym legal.2 ∙ begins) in
    let leads : Leads (opening legal.0.shape) v.seen legal.1 = runs_are_legal.leads legal.0 legal.1 v.seen legal.3 legal.5 in
    (legal.1, subst (λ (s : Shape). Leads (opening s) v.seen legal.1) (ap (λ (b : Board). b.shape) same) leads)

-- the entries of a caller's number are those of the caller
pub entries_are : (c : Caller) (es : List Entry) → entries_of caller_of (caller_number c) es ≡ entries_by c es
entries_are c es i = filter (λ (e : Entry). callers_are_numbers.apart e.caller c i) es

pub own_are : (c : Caller) (es fs : List Entry) → entries_of caller_of (caller_number c) es ≡ entries_of caller_of (caller_number c) fs → entries_by c es ≡ entries_by c fs
own_are c es fs same = sym (entries_are c es) ∙ same ∙ entries_are c fs

pub none_are : (c : Caller) (es : List Entry) → entries_of caller_of (caller_number c) es ≡ [] → entries_by c es ≡ []
none_are c es none = sym (entries_are c es) ∙ none

-- a look, or a join, teaches a seat of that caller
pub learnt_at : (shape other : Shape) (caller : Caller) (v w : Seen) (es : List Entry) → shape ≡ other → v.begin ≡ Some (opening shape) → v.caller ≡ Some (caller_number caller) → w.begin ≡ v.begin → IsPrefix v.seen w.seen → IsLegal Opens IsStep w → AddsNoneOfOwn caller_of v w → es ≡ w.seen → Learnt other caller v.seen es
learnt_at shape other caller v w es one begins named kept seen legal own is = subst (λ l. Learnt other caller v.seen l) (sym is) (record {
  seen = seen;
  legal = subst (λ s. Legal s w.seen) one (legal_of shape w (kept ∙ begins) legal);
  own = own_are caller w.seen v.seen (own (caller_number caller) named);
})

-- ---- the callers whose passes were made

swapped : (c d : Caller) → is_caller c d ≡ is_caller d c
swapped (Device c) (Device d) = grind (arith, nat_tests)
swapped (Cpu c) (Cpu d) = grind (arith, nat_tests)
swapped (Device c) (Cpu d) = refl
swapped (Cpu c) (Device d) = refl

-- one more in the book is one more in the set
pub made_more : (callers more : Callers) (made : List ℕ) (caller : Caller) → MadeAre callers made → ((c : Caller) → has_caller more c ≡ (is_caller c caller || has_caller callers c)) → MadeAre more (caller_number caller ∷ made)
made_more callers more made caller are one c = by_test (is_caller caller c) refl
  where
    test : nat_eq (caller_number caller) (caller_number c) ≡ is_caller caller c
    test = callers_are_numbers.apart caller c

    has_it : has_caller more c ≡ (is_caller caller c || has_caller callers c)
    has_it = one c ∙ ap (λ t. t || has_caller callers c) (swapped c caller)

    by_test : (t : Bool) → is_caller caller c ≡ t → is_in (caller_number c) (caller_number caller ∷ made) ≡ has_caller more c
    by_test true is =
        ap (λ t. elim t [ true ↦ true | false ↦ is_in (caller_number c) made ]) (test ∙ is)
        ∙ sym (has_it ∙ ap (λ t. t || has_caller callers c) is)
    by_test false is =
        ap (λ t. elim t [ true ↦ true | false ↦ is_in (caller_number c) made ]) (test ∙ is)
        ∙ are c
        ∙ sym (has_it ∙ ap (λ t. t || has_caller callers c) is)

-- one more that is there
pub there_more : (shape : Shape) (made : List ℕ) (caller : Caller) → AreThere shape made → is_there caller shape ≡ true → AreThere shape (caller_number caller ∷ made)
there_more shape made caller are there k among = by_test (nat_eq (caller_number caller) k) refl among
  where
    by_test : (t : Bool) → nat_eq (caller_number caller) k ≡ t → elim t [ true ↦ true | false ↦ is_in k made ] ≡ true → is_there (caller_at k) shape ≡ true
    by_test true is among = (let e : caller_number caller ≡ k = grind (arith, nat_tests) in subst (λ n. is_there (caller_at n) shape ≡ true) e (subst (λ c. is_there c shape ≡ true) (sym (callers_are_numbers.caller caller)) there))
    by_test false is among = are k among
