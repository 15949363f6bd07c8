-- What a view knows of the published words, through the steps of the book
use Rattle.std.proofs.Common.{◌≡◌, ◌≢◌, ℕ, ◌+◌, ◌*◌, ◌<◌, ◌≤◌, ◌%◌, ◌^◌, List, length, Bool, true, false, not, sym, ap, ◌∙◌, subst, arith, ◌/◌}
use Rattle.std.proofs.lemmas.Bool.Decides.{nat_tests}
use Rattle.std.specs.Prelude.{Some, slice_index, All}
use Rattle.turn_book.specs.declared.view.Front.{Front}
use Rattle.turn_book.specs.declared.view.Miss.{Miss}
use Rattle.turn_book.specs.declared.view.Note.{Note}
use Rattle.turn_book.specs.declared.view.View.{View}
use Rattle.turn_book.specs.Fronts.{front_of, word_of}
use Rattle.turn_book.specs.Banks.{is_odd, place, draft_at, IsRight, HasRegistry, KnowsWords}
use Rattle.turn_book.proofs.Lists.{all_more}

-- the next generation has the other bank
pub odd-next : (g : ℕ) → is_odd (g + 1) ≡ not (is_odd g)
odd-next g = grind (arith, nat_tests)

pub place-beyond : (n w i : ℕ) (second : Bool) → n < place n w second i
place-beyond n w i true = omega arith
place-beyond n w i false = omega arith

pub place-within : (n w i : ℕ) (second : Bool) → i < w → place n w second i < n + 1 + w + w
place-within n w i true h = omega arith
place-within n w i false h = omega arith

-- a word stands as far behind where its bank begins as its index says
pub place-from : (n w i : ℕ) (second : Bool) → place n w second i ≡ place n w second 0 + i
place-from n w i true = omega arith
place-from n w i false = omega arith

-- the banks lie apart
pub place-apart : (n w i j : ℕ) (second : Bool) → i < w → j < w → place n w (not second) i ≢ place n w second j
place-apart n w i j true a b e = omega arith
place-apart n w i j false a b e = omega arith

-- within one bank two words are apart
pub place-other : (n w i j : ℕ) (second : Bool) → i ≢ j → place n w second i ≢ place n w second j
place-other n w i j true a e = a (omega arith)
place-other n w i j false a e = a (omega arith)

-- a front within the limits is read back from its word
pub front_of-word : (f : Front) → f.length < 2 ^ 41 → front_of (word_of f) ≡ f
front_of-word f low = λ i. record { generation = high i; length = rest i }
  where
    high : (f.generation * 2 ^ 41 + f.length) / 2 ^ 41 ≡ f.generation
    high = omega arith

    rest : (f.generation * 2 ^ 41 + f.length) % 2 ^ 41 ≡ f.length
    rest = omega arith

-- the words of the banks stay
abbrev pub SameBanks : ℕ → List ℕ → List ℕ → Type 0
SameBanks n ws ws' = (j : ℕ) → n < j → slice_index ws' j ≡ slice_index ws j

module _ {S E P : Type 0} where
  -- the same fronts found and missed, and the same notes
  abbrev pub SameSights : View S E P → View S E P → Type 0
  SameSights v w = (w.looks ≡ v.looks) × (w.misses ≡ v.misses) × (w.notes ≡ v.notes)

  -- a view with the same words, where the banks stay and the registry is still held
  pub knows_kept : (ps ps' : List ℕ) (g g' n n' : ℕ) (ws ws' : List ℕ) (v w : View S E P) → ps' ≡ ps → g' ≡ g → n' ≡ n → SameBanks n ws ws' → SameSights v w → w.drafts ≡ v.drafts → w.knows ≡ v.knows → (HasRegistry v → HasRegistry w)
      → KnowsWords ps g n ws v → KnowsWords ps' g' n' ws' w
  knows_kept ps ps' g g' n n' ws ws' v w ep eg en same (looks, misses, notes) drafts knows keep k =
      subst (λ x. KnowsWords x g' n' ws' w) (sym ep) (subst (λ x. KnowsWords ps x n' ws' w) (sym eg) (subst (λ x. KnowsWords ps g x ws' w) (sym en) (record {
        looks = subst (All (λ (f : Front). f.generation ≤ g)) (sym looks) k.looks;
        misses = subst (All (λ (x : Miss). (x.had.generation ≤ g) × (x.found.generation ≤ g))) (sym misses) k.misses;
        notes = subst (All (IsRight ps g)) (sym notes) k.notes;
        knows = λ h e. (let a = k.knows h (sym knows ∙ e) in (a.0, keep a.1));
        drafts = λ i x e. (let a = k.drafts i x (ap (draft_at i) (sym drafts) ∙ e) in (keep a.0, same (place n (length ps) (not (is_odd g)) i) (place-beyond n (length ps) i (not (is_odd g))) ∙ a.1));
      })))

  -- a view after a publication, with no draft left
  pub knows_older : (ps ps' : List ℕ) (g g' n n' : ℕ) (ws ws' : List ℕ) (v w : View S E P) → g' ≡ g + 1 → SameSights v w → ((i x : ℕ) → draft_at i w.drafts ≡ Some x → ⊥) → ((h : ℕ) → w.knows ≡ Some h → (h ≡ g') × HasRegistry w)
      → KnowsWords ps g n ws v → KnowsWords ps' g' n' ws' w
  knows_older ps ps' g g' n n' ws ws' v w more (looks, misses, notes) none knows k = record {
    looks = subst (All (λ (f : Front). f.generation ≤ g')) (sym looks) (all_more (λ (f : Front). f.generation ≤ g) (λ (f : Front). f.generation ≤ g') v.looks (λ f low. omega arith) k.looks);
    misses = subst (All (λ (x : Miss). (x.had.generation ≤ g') × (x.found.generation ≤ g'))) (sym misses)
        (all_more (λ (x : Miss). (x.had.generation ≤ g) × (x.found.generation ≤ g)) (λ (x : Miss). (x.had.generation ≤ g') × (x.found.generation ≤ g')) v.misses (λ x low. (omega (arith, low.0), omega (arith, low.1))) k.misses);
    notes = subst (All (IsRight ps' g')) (sym notes) (all_more (IsRight ps g) (IsRight ps' g') v.notes (λ (note : Note) right. (omega (arith, right.0), λ e. absurd (let low = right.0 in omega arith))) k.notes);
    knows = knows;
    drafts = λ i x e. absurd (none i x e);
  }
