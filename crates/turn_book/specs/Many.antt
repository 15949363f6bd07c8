-- Several parts at once, as a list of their numbers
use Rattle.std.specs.Prelude.{◌≡◌, ℕ, ◌<◌, List, [], ◌∷◌, true, false, is_some, nat_eq}
use Rattle.turn_book.specs.declared.view.Held.{Held}
use Rattle.turn_book.specs.declared.view.View.{View}
use Rattle.turn_book.specs.Hands.{held_at}
use Rattle.turn_book.specs.Histories.{is_in}
use Rattle.turn_book.specs.Views.{given_view}

-- each number is below n
abbrev pub AllBelow : ℕ → List ℕ → Type 0
AllBelow n [] = Unit {0}
AllBelow n (p ∷ ps) = (p < n) × AllBelow n ps

-- no number is twice in the list
abbrev pub AreApart : List ℕ → Type 0
AreApart [] = Unit {0}
AreApart (p ∷ ps) = (is_in p ps ≡ false) × AreApart ps

-- the members before the first that is this number
abbrev pub up_to : ℕ → List ℕ → List ℕ
up_to p [] = []
up_to p (q ∷ qs) = elim (nat_eq q p) [ true ↦ [] | false ↦ q ∷ up_to p qs ]

-- these parts are held
abbrev pub HoldsAll : {P : Type 0} → List ℕ → List (Held P) → Type 0
HoldsAll ps hs = (q : ℕ) → is_in q ps ≡ true → is_some (held_at q hs) ≡ true

-- none of these parts is held
abbrev pub HoldsNone : {P : Type 0} → List ℕ → List (Held P) → Type 0
HoldsNone ps hs = (q : ℕ) → is_in q ps ≡ true → is_some (held_at q hs) ≡ false

-- just these parts are held
abbrev pub HoldsJust : {P : Type 0} → List ℕ → List (Held P) → Type 0
HoldsJust ps hs = (q : ℕ) → is_some (held_at q hs) ≡ is_in q ps

-- without each of these parts
abbrev pub given_all : {S E P : Type 0} → List ℕ → View S E P → View S E P
given_all [] v = v
given_all (p ∷ ps) v = given_all ps (given_view p v)
