-- What was read was noted.
use Rattle.std.proofs.Common.{◌≡◌, ℕ, zero, suc, true, false, ◌||◌, nat_eq, List, [], ◌∷◌, ◌++◌, slice_set, Some, refl, sym, ap, ◌∙◌, subst, inl, inr, arith}
use Rattle.std.specs.Prelude.{Bool}
use Rattle.std.specs.List.{list_any}
use Rattle.std.specs.declared.option.Option.{Option}
use Rattle.std.proofs.lemmas.Bool.Decides.{eqb_tells, nat_tests}
use Rattle.std.proofs.lemmas.List.Folds.{list_any-append}
use Rattle.turn_book.specs.declared.view.Note.{Note}
use Rattle.part_rig.specs.declared.reading.Reading.{Reading}
use Rattle.part_rig.specs.Readings.{Places, read_at, is_note_of, AreNoted}
use Rattle.part_rig.proofs.Telling.{some_is, none_some}

or_right : (a b : Bool) → b ≡ true → (a || b) ≡ true
or_right true b e = refl
or_right false b e = e

-- where notes come before or behind, what was noted stays so
pub noted_more : (before notes after : List Note) (places : Places) → AreNoted notes places → AreNoted (before ++ (notes ++ after)) places
noted_more before notes after places noted k r is =
    list_any-append (is_note_of k r) before (notes ++ after)
    ∙ or_right (list_any (is_note_of k r) before) (list_any (is_note_of k r) (notes ++ after)) (list_any-append (is_note_of k r) notes after ∙ ap (λ b. b || list_any (is_note_of k r) after) (noted k r is))

-- what is read at an index once a reading is put there, and at others
read_same : (places : Places) (k : ℕ) (r s : Reading) → read_at (slice_set places k (Some r)) k ≡ Some s → r ≡ s
read_same [] k r s e = absurd (none_some s e)
read_same (p ∷ places) zero r s e = some_is r s e
read_same (p ∷ places) (suc k) r s e = read_same places k r s e

read_other : (places : Places) (j k : ℕ) (r : Option Reading) → nat_eq j k ≡ false → read_at (slice_set places j r) k ≡ read_at places k
read_other [] j k r e = refl
read_other (p ∷ places) zero zero r e = absurd (let f : true ≡ false = e in cc)
read_other (p ∷ places) zero (suc k) r e = refl
read_other (p ∷ places) (suc j) zero r e = refl
read_other (p ∷ places) (suc j) (suc k) r e = read_other places j k r (let f : nat_eq j k ≡ false = grind (arith, nat_tests) in f)

own_note : (k : ℕ) (r : Reading) (rest : Bool) → (is_note_of k r (record { index = k; value = r.word; generation = r.generation }) || rest) ≡ true
own_note k r rest = grind (arith, nat_tests)

-- a word is read and noted
pub noted_read : (notes : List Note) (places : Places) (j : ℕ) (r : Reading) → AreNoted notes places → AreNoted (record { index = j; value = r.word; generation = r.generation } ∷ notes) (slice_set places j (Some r))
noted_read notes places j r noted k s is = elim (eqb_tells j k) [
  | inl h ↦ here h.1 is
  | inr h ↦ or_right (is_note_of k s note) (list_any (is_note_of k s) notes) (noted k s (sym (read_other places j k (Some r) h.0) ∙ is))
]
  where
    note : Note
    note = record { index = j; value = r.word; generation = r.generation }

    here : j ≡ k → read_at (slice_set places j (Some r)) k ≡ Some s → (is_note_of k s note || list_any (is_note_of k s) notes) ≡ true
    here same at =
        let reading : r ≡ s = read_same places k r s (ap (λ i. read_at (slice_set places i (Some r)) k) (sym same) ∙ at) in
        subst (λ i. (is_note_of i s note || list_any (is_note_of i s) notes) ≡ true) same (subst (λ x. (is_note_of j x note || list_any (is_note_of j x) notes) ≡ true) reading (own_note j r (list_any (is_note_of j r) notes)))
