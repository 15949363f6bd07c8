-- Histories: lists of entries, each of which is one step
use Rattle.std.specs.Prelude.{◌≡◌, ℕ, List, [], ◌∷◌, ◌++◌, Bool, true, false, Option, Some, None, filter, nat_eq}

module _ {S E : Type 0} (steps : S → E → S → Type 0) where
  -- the entries lead from one state to another, each by one step
  abbrev pub Runs : S → List E → S → Type 0
  Runs s [] t = t ≡ s
  Runs s (e ∷ es) t = (m : S) × steps s e m × Runs m es t

-- the second list begins with the first
abbrev pub IsPrefix : {A : Type 0} → List A → List A → Type 0
IsPrefix {A} xs ys = (rest : List A) × (xs ++ rest ≡ ys)

-- the list's last member, or none
abbrev pub last_of : {A : Type 0} → List A → Option A
last_of [] = None
last_of (x ∷ []) = Some x
last_of (x ∷ y ∷ ys) = last_of (y ∷ ys)

-- the number is in the list
abbrev pub is_in : ℕ → List ℕ → Bool
is_in c [] = false
is_in c (d ∷ ds) = elim (nat_eq d c) [ true ↦ true | false ↦ is_in c ds ]

-- the entries of one caller, in their order
abbrev pub entries_of : {E : Type 0} → (E → ℕ) → ℕ → List E → List E
entries_of caller c history = filter (λ e. nat_eq (caller e) c) history
