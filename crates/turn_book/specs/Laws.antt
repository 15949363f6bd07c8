-- The laws of a machine
use Rattle.std.specs.Prelude.{◌≡◌, ℕ, ◌≤◌, ◌^◌, List, length, Bool, true, slice_get, count_by}
use Rattle.turn_book.specs.Histories.{Runs}

module _ {S E P : Type 0} (opens : S → Type 0) (steps : S → E → S → Type 0) (parts : S → List P) (published : S → List ℕ)
    (reach : S → E → ℕ → Bool) (has_room : S → E → Type 0) where
  -- two states of histories from one opening state, which have the same parts of the set and the same published words
  abbrev pub Agree : (ℕ → Bool) → S → S → Type 0
  Agree set s u = ((p : ℕ) → set p ≡ true → slice_get (parts u) p ≡ slice_get (parts s) p) × (published u ≡ published s)

  -- From a second state that agrees on the entry's reach and has room for it, the reach is the same, the entry is a step, and it
  -- leaves the same parts of the reach. Both states are of histories from one opening state
  abbrev pub DependsOnReach : Type 0
  DependsOnReach =
      (o s u t : S) (h k : List E) (e : E) → opens o → Runs steps o h s → Runs steps o k u → steps s e t → Agree (reach s e) s u
      → has_room u e
      → ((p : ℕ) → reach u e p ≡ reach s e p)
      × ((v : S) × steps u e v × ((p : ℕ) → reach s e p ≡ true → slice_get (parts v) p ≡ slice_get (parts t) p))

-- no history from an opening state has more than 2^40 entries, or more than 2^20 publications
abbrev pub IsBounded : {S E : Type 0} → (S → Type 0) → (S → E → S → Type 0) → (E → Bool) → Type 0
IsBounded {S} {E} opens steps is_publication = (o t : S) (h : List E) → opens o → Runs steps o h t → (length h ≤ 2 ^ 40)
    × (count_by is_publication h ≤ 2 ^ 20)
