-- What a seat holds: the parts by the history, and the slots in hand
use Rattle.std.specs.Prelude.{◌≡◌, ℕ, zero, suc, List, [], ◌∷◌, ◌++◌, length, Bool, true, false, Option, Some, None, slice_get}
use Rattle.std.specs.Prelude.{is_some, nat_eq, nat_lt, unwrap_or}
use Rattle.turn_book.specs.declared.view.Held.{Held}

-- the value with which a part is held, or none
abbrev pub held_at : {P : Type 0} → ℕ → List (Held P) → Option P
held_at p [] = None
held_at p (h ∷ hs) = elim (nat_eq h.part p) [ true ↦ Some h.value | false ↦ held_at p hs ]

-- the held parts, with the values that these parts give them
abbrev pub held_after : {P : Type 0} → List P → List (Held P) → List (Held P)
held_after ps [] = []
held_after ps (h ∷ hs) = record h { value = unwrap_or (slice_get ps h.part) h.value } ∷ held_after ps hs

-- the held parts but this one
abbrev pub held_without : {P : Type 0} → ℕ → List (Held P) → List (Held P)
held_without p [] = []
held_without p (h ∷ hs) = elim (nat_eq h.part p) [ true ↦ held_without p hs | false ↦ h ∷ held_without p hs ]

-- the value in the slot, where it is in hand
abbrev pub slot_at : {P : Type 0} → ℕ → List (ℕ × P) → Option P
slot_at q [] = None
slot_at q (c ∷ cs) = elim (nat_eq c.0 q) [ true ↦ Some c.1 | false ↦ slot_at q cs ]

-- no slot is in hand twice
abbrev pub are_distinct : {P : Type 0} → List (ℕ × P) → Bool
are_distinct [] = true
are_distinct (c ∷ cs) = elim (is_some (slot_at c.0 cs)) [ true ↦ false | false ↦ are_distinct cs ]

-- the slots in hand are those of the held parts
abbrev pub ArePaired : {P : Type 0} → List (Held P) → List (ℕ × P) → Type 0
ArePaired hs cs = (q : ℕ) → is_some (slot_at q cs) ≡ is_some (held_at q hs)

-- each part in hand is the one that the history has
abbrev pub AreHome : {P : Type 0} → List (Held P) → List (ℕ × P) → Type 0
AreHome hs cs = (q : ℕ) → slot_at q cs ≡ held_at q hs

-- each held part is one of the first n
abbrev pub AreBelow : {P : Type 0} → ℕ → List (Held P) → Type 0
AreBelow n hs = (q : ℕ) → is_some (held_at q hs) ≡ true → nat_lt q n ≡ true

-- turned at most n times, until the slot is the first
abbrev pub turned_to : {P : Type 0} → ℕ → ℕ → List (ℕ × P) → List (ℕ × P)
turned_to zero slot cs = cs
turned_to (suc n) slot [] = []
turned_to (suc n) slot (c ∷ cs) = elim (nat_eq c.0 slot) [ true ↦ c ∷ cs | false ↦ turned_to n slot (cs ++ c ∷ []) ]

-- turned until the slot is the first, where it is in hand
abbrev pub brought : {P : Type 0} → ℕ → List (ℕ × P) → List (ℕ × P)
brought slot cs = turned_to (length cs) slot cs

-- with this value in the slot, where it is the first
abbrev pub written : {P : Type 0} → ℕ → P → List (ℕ × P) → List (ℕ × P)
written slot w [] = []
written slot w (c ∷ cs) = elim (nat_eq c.0 slot) [ true ↦ (slot, w) ∷ cs | false ↦ c ∷ cs ]
