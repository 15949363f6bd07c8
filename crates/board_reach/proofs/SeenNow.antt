-- What is read of the parts of a board.
use Rattle.board_reach.proofs.Basics.{◌≡◌, ℕ, zero, suc, ◌<◌, Bool, true, false, cond, map, filter, ◌&&◌, ◌||◌, nat_eq, nat_lt, if◌then◌else◌, List, [], ◌∷◌, ◌++◌, refl, sym, ap, ◌∙◌, arith, list_any, unsigned_Decides, nat_tests, Part, Registry, Counters, Tick, Pic, Ioapic, Lapic, has_vector, is_same, numbers_below, only, is_of_one, all_pins, pins_with, ioapic_of as chip_of, ioapic_at_hand as ioapic_of, of_acknowledge_now, of_acknowledges_now, board_seen, routing_seen, is_ended, Pin}
use Rattle.board_reach.specs.declared.seen.Seen.{Seen}

-- ---- the local APICs that a message looks at

any_more : {X : Type 0} (p : X → Bool) (xs ys : List X) → list_any p (xs ++ ys) ≡ (list_any p xs || list_any p ys)
any_more p [] ys = refl
any_more p (x ∷ xs) ys = ap (λ t. p x || t) (any_more p xs ys) ∙ sym (assoc (p x) (list_any p xs) (list_any p ys))
  where
    assoc : (a b c : Bool) → ((a || b) || c) ≡ (a || (b || c))
    assoc true b c = refl
    assoc false b c = refl

pub below_at : (cpus n : ℕ) → nat_lt n cpus ≡ is_of_one (numbers_below cpus) (Lapic n)
below_at zero n = none n
  where
    none : (n : ℕ) → nat_lt n 0 ≡ false
    none n = grind (arith, nat_tests)
below_at (suc cpus) n =
    (grind (arith, nat_tests)) ∙ ap (λ t. t || (nat_eq cpus n || false)) (below_at cpus n) ∙ sym (any_more (λ m. is_same (Lapic m) (Lapic n)) (numbers_below cpus) (cpus ∷ []))

pub or_none : (a : Bool) → a ≡ (a || false)
or_none true = refl
or_none false = refl

pub only_at : (m cpus n : ℕ) → (nat_eq m n && nat_lt n cpus) ≡ is_of_one (only m cpus) (Lapic n)
only_at m cpus n = (grind (arith, nat_tests, refl)) ∙ shown (nat_lt m cpus)
  where
    shown : (t : Bool) → (t && nat_eq m n) ≡ is_of_one (if t then m ∷ [] else []) (Lapic n)
    shown true = or_none (nat_eq m n)
    shown false = refl

pub ruleset reached_rules = (below_at, only_at)

no_lapic : (ns : List ℕ) (q : Part) → ((n : ℕ) → is_same (Lapic n) q ≡ false) → false ≡ is_of_one ns q
no_lapic [] q other = refl
no_lapic (n ∷ ns) q other = no_lapic ns q other ∙ sym (ap (λ t. t || is_of_one ns q) (other n))

pub not_registry : (ns : List ℕ) → false ≡ is_of_one ns Registry
not_registry ns = no_lapic ns Registry (λ n. refl)

pub not_counters : (ns : List ℕ) → false ≡ is_of_one ns Counters
not_counters ns = no_lapic ns Counters (λ n. refl)

pub not_tick : (ns : List ℕ) → false ≡ is_of_one ns Tick
not_tick ns = no_lapic ns Tick (λ n. refl)

pub not_pic : (ns : List ℕ) → false ≡ is_of_one ns Pic
not_pic ns = no_lapic ns Pic (λ n. refl)

pub not_ioapic : (ns : List ℕ) → false ≡ is_of_one ns Ioapic
not_ioapic ns = no_lapic ns Ioapic (λ n. refl)

pub ruleset no_lapic_rules = (not_registry, not_counters, not_tick, not_pic, not_ioapic)

-- ---- pins that are acknowledged one after another

pub ruleset one_rules = (or_none)

module _ {X : Type 0} (f : X → Bool) (c : ℕ → X) (g : ℕ → Bool) where
  pub any_kept : (ns : List ℕ) → list_any f (map c (filter g ns)) ≡ list_any (λ n. g n && f (c n)) ns
  any_kept [] = refl
  any_kept (n ∷ ns) = by_test (g n) (any_kept ns)
    where
      by_test : (t : Bool) → list_any f (map c (filter g ns)) ≡ list_any (λ n. g n && f (c n)) ns → list_any f (map c (cond t (n ∷ filter g ns) (filter g ns))) ≡ ((t && f (c n)) || list_any (λ n. g n && f (c n)) ns)
      by_test true rest = ap (λ t. f (c n) || t) rest
      by_test false rest = rest

-- one of the numbers below another passes
abbrev pub any_below : (ℕ → Bool) → ℕ → Bool
any_below p n = list_any p (numbers_below n)

pub any_found : (p : ℕ → Bool) (n k : ℕ) → k < n → p k ≡ true → any_below p n ≡ true
any_found p zero k below here = absurd (omega (arith, below))
any_found p (suc n) k below here = any_more p (numbers_below n) (n ∷ []) ∙ by_place (nat_eq k n) refl (any_found p n k)
  where
    last : (a : Bool) → (a || true) ≡ true
    last true = refl
    last false = refl

    by_place : (t : Bool) → nat_eq k n ≡ t → (k < n → p k ≡ true → any_below p n ≡ true) → (any_below p n || (p n || false)) ≡ true
    by_place true is found = let same : k ≡ n = (unsigned_Decides k n).0 is in ap (λ m. any_below p n || (p m || false)) (sym same) ∙ ap (λ t. any_below p n || (t || false)) here ∙ last (any_below p n)
    by_place false is found = let lower : k < n = grind (arith, nat_tests, below, is) in ap (λ t. t || (p n || false)) (found lower here)

-- the pins of the I/O APIC with a vector
module _ (s : Seen) (vector : ℕ) (q : Part) where
  abbrev rows : Bool
  rows = of_acknowledges_now (routing_seen s) s.shape.now (board_seen s) (pins_with (chip_of (ioapic_of s.ioapic.now)) vector) q

  vector_is : rows ≡ any_below (is_ended s vector q) 24
  unfolding all_pins
  vector_is = any_kept (λ pin. of_acknowledge_now (routing_seen s) s.shape.now (board_seen s) pin q) Pin.Ioapic (λ pin. has_vector (chip_of (ioapic_of s.ioapic.now)) pin vector) all_pins

  pub vector_found : (pin : ℕ) → pin < 24 → is_ended s vector q pin ≡ true → true ≡ rows
  vector_found pin below here = sym (vector_is ∙ any_found (is_ended s vector q) 24 pin below here)

  pub vector_none : (pin : ℕ) → pin ≡ 24 → any_below (is_ended s vector q) pin ≡ false → false ≡ rows
  vector_none pin last none = sym (vector_is ∙ ap (any_below (is_ended s vector q)) (sym last) ∙ none)
