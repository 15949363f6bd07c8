-- Words that a pen wrote to the spare bank, index by index
use Rattle.std.specs.Prelude.{◌≡◌, ℕ, ◌+◌, ◌<◌, List, Some}
use Rattle.turn_book.specs.declared.view.Draft.{Draft}
use Rattle.turn_book.specs.declared.view.View.{View}
use Rattle.turn_book.specs.Banks.{draft_at}

-- n words from an index on were drafted, the k-th with this value
abbrev pub HasFrom : ℕ → ℕ → (ℕ → ℕ) → List Draft → Type 0
HasFrom first n f drafts = (k : ℕ) → k < n → draft_at (first + k) drafts ≡ Some (f k)

-- below an index the drafts are the same
abbrev pub SameBelow : ℕ → List Draft → List Draft → Type 0
SameBelow first old new = (i : ℕ) → i < first → draft_at i new ≡ draft_at i old

module _ {S E P : Type 0} where
  -- the view changed in its drafts alone
  abbrev pub ChangesDrafts : View S E P → View S E P → Type 0
  ChangesDrafts v w = w ≡ record v { drafts = w.drafts }
