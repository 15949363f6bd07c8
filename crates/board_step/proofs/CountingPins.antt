-- The pins that one call acknowledges have different GSIs.
use Rattle.board_step.proofs.Basics.{◌≡◌, ℕ, zero, suc, ◌+◌, ◌≤◌, Bool, true, false, cond, nat_eq, nat_lt, if◌then◌else◌, List, [], ◌∷◌, ◌++◌, length, map, refl, ap, ◌∙◌, subst, arith, Some, None, Option, nat_tests, Pin, Targets, Pair, Slave, top_of, level_acknowledged, slave_pin, master_top, acked_pins, slave_cycle, cycle_by, cycle, Table, targets_of, has_pin, gsi_of, numbers_below, pic_pin, cycle_pins, find, PicPin as Pic, IoapicPin as Ioapic, is_same_pin as is_same}
use Rattle.std.specs.FinMap as finmap
use Rattle.board_step.proofs.CountingRows.{total, total_at_most, counted_at, AreApart, again_total}

-- ---- a pin of a GSI is the one that its targets have

-- what is found passes
found_passes : {X : Type 0} (p : X → Bool) (xs : List X) (x : X) → find p xs ≡ Some x → p x ≡ true
found_passes p [] x h = cc
found_passes {X} p (y ∷ ys) x h = elim (p y) as (λ t. p y ≡ t → cond t (Some y) (find p ys) ≡ Some x → p x ≡ true) [
  | true ↦ λ passes e. let same : y ≡ x = cc in subst (λ z. p z ≡ true) same passes
  | false ↦ λ _ e. found_passes p ys x e
] refl h

pub gsi_has_pin : (table : Table) (pin : Pin) (gsi : ℕ) → gsi_of table pin ≡ Some gsi → has_pin pin (targets_of table gsi) ≡ true
unfolding gsi_of
gsi_has_pin table pin gsi h = found_passes (λ gsi. has_pin pin (targets_of table gsi)) (finmap.keys table) gsi h

-- a pin counts where the targets have it
abbrev pin_weight : Targets → Pin → ℕ
pin_weight targets pin = if has_pin pin targets then 1 else 0

pin_counts : (table : Table) (place : ℕ) (pin : Pin) → counted_at place 1 (gsi_of table pin) ≤ pin_weight (targets_of table place) pin
pin_counts table place pin = grind (arith, gsi_has_pin)

pins_count : (table : Table) (place : ℕ) (pins : List Pin) → total (λ pin. counted_at place 1 (gsi_of table pin)) pins ≤ total (pin_weight (targets_of table place)) pins
pins_count table place pins = total_at_most (λ pin. counted_at place 1 (gsi_of table pin)) (pin_weight (targets_of table place)) (pin_counts table place) pins

-- ---- the pins of the I/O APIC

total_map : {X Y : Type 0} (f : Y → ℕ) (g : X → Y) (xs : List X) → total f (map g xs) ≡ total (λ x. f (g x)) xs
total_map f g [] = refl
total_map f g (x ∷ xs) = ap (λ n. f (g x) + n) (total_map f g xs)

total_append : {X : Type 0} (f : X → ℕ) (xs ys : List X) → total f (xs ++ ys) ≡ total f xs + total f ys
total_append f [] ys = omega arith
total_append f (x ∷ xs) ys = omega (arith, total_append f xs ys)

-- each number is once below another, or not at all
once_below : (k n : ℕ) → total (λ m. if nat_eq k m then 1 else 0) (numbers_below n) ≡ (if nat_lt k n then 1 else 0)
once_below k zero = grind (arith, nat_tests)
once_below k (suc n) = total_append (λ m. if nat_eq k m then 1 else 0) (numbers_below n) (n ∷ []) ∙ ap (λ t. t + ((if nat_eq k n then 1 else 0) + 0)) (once_below k n) ∙ (grind (arith, nat_tests))

pin_once : (pin : Option ℕ) (n : ℕ) → total (λ m. if is_same pin (Some m) then 1 else 0) (numbers_below n) ≤ 1
pin_once None n = none (numbers_below n)
  where
    none : (xs : List ℕ) → total (λ m. 0) xs ≤ 1
    none [] = omega arith
    none (x ∷ xs) = omega (arith, none xs)
pin_once (Some k) n = grind (arith, (once_below k n))

-- no two pins of the I/O APIC have one GSI
pub ioapic_apart : (table : Table) (n : ℕ) → AreApart (λ pin. gsi_of table pin) (map Ioapic (numbers_below n))
ioapic_apart table n place =
    omega (arith, pins_count table place (map Ioapic (numbers_below n)), total_map (pin_weight (targets_of table place)) Ioapic (numbers_below n), pin_once (targets_of table place).ioapic n)

-- ---- the pins of the pair

-- a test counts one at most
one_at_most : (t : Bool) → (if t then 1 else 0) ≤ 1
one_at_most t = grind arith

-- pins of the pair, two at most, whose GSIs differ
pub record FewOfPair (table : Table) (pins : List Pin) : Type 0 where
  pub apart : AreApart (λ pin. gsi_of table pin) pins
  pub few : length pins ≤ 2
  pub never_again : again_total pins ≡ 0

module _ (table : Table) where
  none_of_pair : FewOfPair table []
  none_of_pair = record { apart = λ place. omega arith; few = omega arith; never_again = refl }

  one_of_pair : (a : ℕ) → FewOfPair table (Pic a ∷ [])
  one_of_pair a = record { apart = λ place. omega (arith, pins_count table place (Pic a ∷ []), one_at_most (has_pin (Pic a) (targets_of table place))); few = omega arith; never_again = refl }

  two_of_pair : (a b : ℕ) → nat_eq a b ≡ false → FewOfPair table (Pic a ∷ Pic b ∷ [])
  two_of_pair a b differ = record { apart = λ place. omega (arith, pins_count table place (Pic a ∷ Pic b ∷ []), one_of (targets_of table place).pic); few = omega arith; never_again = refl }
    where
      one_of : (pin : Option ℕ) → (if is_same pin (Some a) then 1 else 0) + ((if is_same pin (Some b) then 1 else 0) + 0) ≤ 1
      one_of pin = grind arith

  -- one pin, if there is one
  pub pin_of_pair : (pin : Option ℕ) → FewOfPair table (pic_pin pin)
  pin_of_pair None = none_of_pair
  pin_of_pair (Some pin) = one_of_pair pin

  -- the master's pin 2 and a pin of the slave
  both_of_pair : (master slave : Bool) (t s : ℕ) → nat_eq t 2 ≡ true → FewOfPair table (pic_pin (if master then Some t else None) ++ pic_pin (slave_pin (if slave then Some s else None)))
  both_of_pair true true t s is = two_of_pair t (8 + s) (grind (arith, nat_tests, is))
  both_of_pair true false t s is = one_of_pair t
  both_of_pair false true t s is = one_of_pair (8 + s)
  both_of_pair false false t s is = none_of_pair

  master_of_pair : (master : Bool) (t : ℕ) → FewOfPair table (pic_pin (if master then Some t else None) ++ [])
  master_of_pair true t = one_of_pair t
  master_of_pair false t = none_of_pair

  -- the pins of a cycle
  pub cycle_of_pair : (p : Pair) → FewOfPair table (cycle_pins (cycle p).pins)
  cycle_of_pair p = by_master (master_top p)
    where
      by_slave : (t : ℕ) → nat_eq t 2 ≡ true → (slave : Option ℕ) → FewOfPair table (cycle_pins (slave_cycle slave (record p { master = (level_acknowledged p.master t).after }) (level_acknowledged p.master t).pin).pins)
      by_slave t is None = master_of_pair p.master.auto_eoi t
      by_slave t is (Some s) = both_of_pair p.master.auto_eoi p.slave.auto_eoi t s is

      by_master : (top : Option ℕ) → FewOfPair table (cycle_pins (cycle_by top p).pins)
      by_master None = none_of_pair
      by_master (Some t) = elim (nat_eq t 2) as (λ is. nat_eq t 2 ≡ is → FewOfPair table (cycle_pins (if is then slave_cycle (top_of p.slave Slave) (record p { master = (level_acknowledged p.master t).after }) (level_acknowledged p.master t).pin else record {
        after = record p { master = (level_acknowledged p.master t).after };
        vector = p.master.base + t;
        pins = acked_pins (level_acknowledged p.master t).pin None;
      }).pins)) [
        | true ↦ λ is. by_slave t is (top_of p.slave Slave)
        | false ↦ λ _. master_of_pair p.master.auto_eoi t
      ] refl
