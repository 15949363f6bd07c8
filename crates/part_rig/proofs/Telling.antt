-- A word that was read under the generation of a look is the list's.
use Rattle.std.proofs.Common.{◌≡◌, ℕ, zero, suc, true, false, true≢false, ◌||◌, if◌then◌else◌, List, [], ◌∷◌, replicate, slice_get, slice_index, Some, None, refl, sym, ap, ◌∙◌, subst, inl, inr, arith}
use Rattle.std.specs.Prelude.{Bool, IfSome, All, count_by}
use Rattle.std.specs.List.{list_any}
use Rattle.std.specs.declared.option.Option.{Option}
use Rattle.std.proofs.lemmas.Bool.Decides.{eqb_tells, nat_tests}
use Rattle.std.proofs.lemmas.List.Elements.{All-head, All-tail}
use Rattle.std.proofs.lemmas.Option.{get_or_from_slice_get}
use Rattle.board_step.specs.Publications.{words}
use Rattle.board_step.specs.Step.{is_publication}
use Rattle.turn_book.specs.declared.view.Note.{Note}
use Rattle.turn_book.specs.Banks.{IsRight, NotesAreRight}
use Rattle.turn_book.specs.Views.{IsLegal}
use Rattle.part_slots.specs.Commits.{Seen}
use Rattle.part_slots.specs.Running.{Opens, IsStep}
use Rattle.part_rig.specs.declared.reading.Reading.{Reading}
use Rattle.part_rig.specs.Readings.{Places, read_at, word_under, is_note_of, AreNoted, AreOf}
use Rattle.part_rig.specs.Noted.{published_at, published_in, noted_by}

pub some_is : {A : Type 0} (x y : A) → Some x ≡ Some y → x ≡ y
some_is x y e = cc

pub none_some : {A : Type 0} (x : A) → None ≡ Some x → ⊥
none_some x e = cc

-- in places of which none was filled nothing was read
pub read_none : (n k : ℕ) → read_at (replicate n None) k ≡ None
read_none zero k = refl
read_none (suc n) zero = refl
read_none (suc n) (suc k) = read_none n k

-- the word under a generation is that of a reading of the generation
pub word_is : (g : ℕ) (r : Reading) (w : ℕ) → word_under g (Some r) ≡ Some w → (r.generation ≡ g) × (r.word ≡ w)
word_is g r w e = elim (eqb_tells r.generation g) [
  | inl h ↦ (h.1, some_is r.word w (ap (λ b. if b then Some r.word else None) (sym h.0) ∙ e))
  | inr h ↦ absurd (none_some w (ap (λ b. if b then Some r.word else None) (sym h.0) ∙ e))
]

-- what a note of a reading says
note_is : (k : ℕ) (r : Reading) (n : Note) → is_note_of k r n ≡ true → (n.index ≡ k) × (n.value ≡ r.word) × (n.generation ≡ r.generation)
note_is k r n e = grind (arith, nat_tests)

-- where all notes are right, so is a reading of that generation that was noted
right_at : (list : List ℕ) (g : ℕ) (notes : List Note) (k : ℕ) (r : Reading) → All (IsRight list g) notes → list_any (is_note_of k r) notes ≡ true → r.generation ≡ g → slice_get list k ≡ Some r.word
right_at list g [] k r all e same = absurd (true≢false (sym e))
right_at list g (n ∷ notes) k r all e same = by (is_note_of k r n) refl (λ f. right_at list g notes k r (All-tail (IsRight list g) n notes all) f same)
  where
    by : (t : Bool) → is_note_of k r n ≡ t → (list_any (is_note_of k r) notes ≡ true → slice_get list k ≡ Some r.word) → slice_get list k ≡ Some r.word
    by true is others =
        let (index, value, generation) = note_is k r n is in
        sym (ap (slice_get list) index) ∙ (All-head (IsRight list g) n notes all).1 (generation ∙ same) ∙ ap (λ x. Some x) value
    by false is others = others (sym (ap (λ b. b || list_any (is_note_of k r) notes) is) ∙ e)

pub told_at : (list : List ℕ) (g : ℕ) (notes : List Note) (places : Places) → All (IsRight list g) notes → AreNoted notes places → (k w : ℕ) → word_under g (read_at places k) ≡ Some w → slice_get list k ≡ Some w
told_at list g notes places all noted k w e = by (read_at places k) refl e
  where
    by : (o : Option Reading) → read_at places k ≡ o → word_under g o ≡ Some w → slice_get list k ≡ Some w
    by None is f = absurd (none_some w f)
    by (Some r) is f =
        let (generation, word) = word_is g r w f in
        right_at list g notes k r all (noted k r is) generation ∙ ap (λ x. Some x) word

module _ (v : Seen) (g : ℕ) (places : Places) (legal : IsLegal Opens IsStep v) (is : g ≡ count_by is_publication v.seen) (right : NotesAreRight words is_publication v) (noted : AreNoted v.notes places) where
  all_right : All (IsRight (words legal.1) g) v.notes
  all_right = subst (λ n. All (IsRight (words legal.1) n) v.notes) (sym is) (subst (λ o. IfSome o (λ s. All (IsRight (words s) (count_by is_publication v.seen)) v.notes)) legal.4 right)

  -- the words that count as noted after a look are those of the board that the list leaves
  pub board_told : (k w : ℕ) → noted_by true g places k ≡ Some w → slice_get (words legal.1) k ≡ Some w
  board_told = told_at (words legal.1) g v.notes places all_right noted

  pub settled_told : AreOf (published_in v) (noted_by true g places)
  settled_told k w e =
      subst (λ o. slice_index (published_at o) k ≡ w) (sym legal.4) (get_or_from_slice_get (words legal.1) k w 0 (board_told k w e))
