-- Working copies of parts in hand
use Rattle.std.specs.Prelude.{◌≡◌, ℕ, List, [], ◌∷◌, Bool, true, false, Option, Some, None}
use Rattle.turn_book.specs.declared.view.Held.{Held}
use Rattle.turn_book.specs.Hands.{held_at, slot_at}
use Rattle.turn_book.specs.Histories.{is_in}

module _ {P C : Type 0} where
  -- the copies, with one of the part where it has a value
  abbrev pub copied_at : (ℕ → P → C → C) → ℕ → Option P → C → C
  copied_at copied p None c = c
  copied_at copied p (Some x) c = copied p x c

  -- with one of each part that is held
  abbrev pub copied_each : (ℕ → P → C → C) → List ℕ → List (Held P) → C → C
  copied_each copied [] hs c = c
  copied_each copied (p ∷ ps) hs c = copied_each copied ps hs (copied_at copied p (held_at p hs) c)

  -- the value in a slot, where the copy is written there or not
  abbrev pub written_at : (ℕ → C → P → P) → C → Bool → ℕ → Option P → Option P
  written_at written c false q o = o
  written_at written c true q None = None
  written_at written c true q (Some x) = Some (written q c x)

  -- there is room for a copy of each of these parts that is held
  abbrev pub HasRoom : (ℕ → P → C → Type 0) → List ℕ → List (Held P) → C → Type 0
  HasRoom room ps hs c = (q : ℕ) (x : P) → is_in q ps ≡ true → held_at q hs ≡ Some x → room q x c

  -- the copy of each of these parts can be written into its slot
  abbrev pub AllFit : (ℕ → C → P → Type 0) → List ℕ → C → List (ℕ × P) → Type 0
  AllFit fits ps c cs = (q : ℕ) (x : P) → is_in q ps ≡ true → slot_at q cs ≡ Some x → fits q c x
