-- Pins of which no hold is left are low, and holds that are taken out pin by pin.
use Rattle.std.proofs.Common.{◌≡◌, ℕ, ◌+◌, ◌%◌, ◌<◌, ◌≤◌, Bool, true, false, not, ◌&&◌, ◌||◌, nat_eq, nat_lt, nat_le, if◌then◌else◌, List, length, get_or, refl, sym, ap, ◌∙◌, arith, None}
use Rattle.std.proofs.lemmas.Bool.Decides.{nat_tests}
use Rattle.std.proofs.lemmas.List.{get_or_past}
use Rattle.std.specs.Cmp.{first_so, second_so}
use Rattle.std.specs.FinSet as set
use Rattle.std.specs.FinSet.{contains-retain, same_set}
use Rattle.std.specs.declared.option.Option.{Option}
use Rattle.irq_bits.specs.Members.{set_below}
use Rattle.irq_bits.specs.SetLemmas.{contains-set_below, set_below_is, set_below-remove}
use Rattle.pic_8259a.specs.Accesses.{with_pin}
use Rattle.pic_8259a.specs.Pair.{pin_set}
use Rattle.pic_8259a.specs.declared.pair.Pair.{Pair}
use Rattle.ioapic_82093aa.specs.Pins.{lowered}
use Rattle.ioapic_82093aa.specs.declared.ioapic.Ioapic.{Ioapic}
use Rattle.source_levels.specs.Holds.{Hold, Holds, hold, is_of, is_high}
use Rattle.source_levels.proofs.HoldLemmas.{hold_cmp_total, hold_cmp-IsAntisymmetric, high_where_held, held_where_high}
use Rattle.board_raise.specs.Fit.{PairFits, IoapicFits}
use Rattle.board_calls.specs.Registrations.{is_same_gsi}
use Rattle.board_calls.specs.Moved.{without_pin, kept_by}

-- ---- sets of holds

contains-kept : (s : Holds) (p : Hold → Bool) (h : Hold) → set.contains (set.retain s p) h ≡ (set.contains s h && p h)
contains-kept s p h = contains-retain s p h (λ x tie. ap p (sym (hold_cmp-IsAntisymmetric h x tie)))

and_true : (a b : Bool) → b ≡ true → (a && b) ≡ a
and_true true b h = h
and_true false b h = refl

and_false : (a : Bool) → (a && false) ≡ false
and_false true = refl
and_false false = refl

or_second : (a b : Bool) → b ≡ true → (a || b) ≡ true
or_second true b h = refl
or_second false b h = h

and_both : (a b c : Bool) → ((a && b) && c) ≡ (a && (b && c))
and_both true b c = refl
and_both false b c = refl

-- all pass the test
kept_all : (s : Holds) (p : Hold → Bool) → ((h : Hold) → p h ≡ true) → set.retain s p ≡ s
kept_all s p all = same_set hold_cmp_total hold_cmp-IsAntisymmetric _ _ (λ h. contains-kept s p h ∙ and_true (set.contains s h) (p h) (all h))

-- one test after another
kept_twice : (s : Holds) (p q : Hold → Bool) → set.retain (set.retain s p) q ≡ set.retain s (λ h. p h && q h)
kept_twice s p q = same_set hold_cmp_total hold_cmp-IsAntisymmetric _ _ (λ h.
    contains-kept (set.retain s p) q h ∙ ap (λ t. t && q h) (contains-kept s p h) ∙ and_both (set.contains s h) (p h) (q h) ∙ sym (contains-kept s (λ x. p x && q x) h))

-- ---- pin by pin

-- the holds of the pins from one on, and before it of those whose GSI is the same
module _ (before after : List (Option ℕ)) where
  abbrev pub same_at : ℕ → Bool
  same_at n = is_same_gsi (get_or before n None) (get_or after n None)

  abbrev pub kept_up_to : ℕ → Holds → Holds
  kept_up_to pin s = set.retain s (λ (h : Hold). nat_le pin h.pin || same_at h.pin)

  pub kept_at_first : (s : Holds) → kept_up_to 0 s ≡ s
  kept_at_first s = kept_all s (λ (h : Hold). nat_le 0 h.pin || same_at h.pin) (λ h. from_zero h.pin (same_at h.pin))
    where
      from_zero : (n : ℕ) (b : Bool) → (nat_le 0 n || b) ≡ true
      from_zero n b = let first : nat_le 0 n ≡ true = grind (arith, nat_tests) in ap (λ t. t || b) first

  pub kept_at_last : (s : Holds) (n : ℕ) → length before ≡ n → length after ≡ n → kept_up_to n s ≡ kept_by before after s
  kept_at_last s n long long_too = λ i. set.retain s (λ h. past h.pin i)
    where
      past : (pin : ℕ) → (nat_le n pin || same_at pin) ≡ same_at pin
      past pin = elim (nat_le n pin) as (λ t. nat_le n pin ≡ t → (t || same_at pin) ≡ same_at pin) [
        | true ↦ λ from.
            let far : n ≤ pin = grind (from, arith, nat_tests) in
            let none : length before ≤ pin = omega arith in
            let none_too : length after ≤ pin = omega arith in
            sym (λ i. is_same_gsi (get_or_past before pin None none i) (get_or_past after pin None none_too i))
        | false ↦ λ _. refl
      ] refl

  module _ (s : Holds) (pin : ℕ) where
    next : (n : ℕ) → nat_eq n pin ≡ false → nat_le pin n ≡ nat_le (pin + 1) n
    next n e = grind (e, arith, nat_tests)

    not_past : (n : ℕ) → n ≡ pin → nat_le (pin + 1) n ≡ false
    not_past n e = grind (e, arith, nat_tests)

    pub keeps_pin : same_at pin ≡ true → kept_up_to pin s ≡ kept_up_to (pin + 1) s
    keeps_pin same = λ i. set.retain s (λ h. goes_on h.pin i)
      where
        goes_on : (n : ℕ) → (nat_le pin n || same_at n) ≡ (nat_le (pin + 1) n || same_at n)
        goes_on n = elim (nat_eq n pin) as (λ t. nat_eq n pin ≡ t → (nat_le pin n || same_at n) ≡ (nat_le (pin + 1) n || same_at n)) [
          | true ↦ λ e. let here : n ≡ pin = grind (e, arith, nat_tests) in or_second (nat_le pin n) _ (ap same_at here ∙ same) ∙ sym (or_second (nat_le (pin + 1) n) _ (ap same_at here ∙ same))
          | false ↦ λ e. ap (λ t. t || same_at n) (next n e)
        ] refl

    pub drops_pin : same_at pin ≡ false → without_pin (kept_up_to pin s) pin ≡ kept_up_to (pin + 1) s
    drops_pin moved = kept_twice s _ _ ∙ (λ i. set.retain s (λ h. goes_on h.pin i))
      where
        goes_on : (n : ℕ) → ((nat_le pin n || same_at n) && not (nat_eq n pin)) ≡ (nat_le (pin + 1) n || same_at n)
        goes_on n = elim (nat_eq n pin) as (λ t. nat_eq n pin ≡ t → ((nat_le pin n || same_at n) && not t) ≡ (nat_le (pin + 1) n || same_at n)) [
          | true ↦ λ e. let here : n ≡ pin = grind (e, arith, nat_tests) in and_false (nat_le pin n || same_at n) ∙ sym (ap (λ t. t || same_at n) (not_past n here) ∙ ap same_at here ∙ moved)
          | false ↦ λ e. and_true (nat_le pin n || same_at n) true refl ∙ ap (λ t. t || same_at n) (next n e)
        ] refl

-- ---- the levels of pins

same_tests : (a b : Bool) → (a ≡ true → b ≡ true) → (b ≡ true → a ≡ true) → a ≡ b
same_tests true b f g = sym (f refl)
same_tests false true f g = g refl
same_tests false false f g = refl

both_so : (a b : Bool) → a ≡ true → b ≡ true → (a && b) ≡ true
both_so true b h g = g
both_so false b h g = h

-- a pin that nobody holds any longer is low, and the others are as they were
high-without : (s : Holds) (pin n : ℕ) → is_high (without_pin s pin) n ≡ (not (nat_eq n pin) && is_high s n)
high-without s pin n = same_tests (is_high (without_pin s pin) n) (not (nat_eq n pin) && is_high s n) forth back
  where
    forth : is_high (without_pin s pin) n ≡ true → (not (nat_eq n pin) && is_high s n) ≡ true
    forth high =
        let one = held_where_high (without_pin s pin) n high in
        let both : (set.contains s (hold n one.0) && not (nat_eq n pin)) ≡ true = sym (contains-kept s (λ h. not (is_of pin h)) (hold n one.0)) ∙ one.1 in
        both_so (not (nat_eq n pin)) (is_high s n) (second_so (set.contains s (hold n one.0)) (not (nat_eq n pin)) both) (high_where_held s n one.0 (first_so (set.contains s (hold n one.0)) (not (nat_eq n pin)) both))

    back : (not (nat_eq n pin) && is_high s n) ≡ true → is_high (without_pin s pin) n ≡ true
    back both =
        let one = held_where_high s n (second_so (not (nat_eq n pin)) (is_high s n) both) in
        high_where_held (without_pin s pin) n one.0 (contains-kept s (λ h. not (is_of pin h)) (hold n one.0) ∙ both_so (set.contains s (hold n one.0)) (not (nat_eq n pin)) one.1 (first_so (not (nat_eq n pin)) (is_high s n) both))

-- the I/O APIC
pub ioapic_forgets : (chip : Ioapic) (s : Holds) (pin : ℕ) → IoapicFits chip s → IoapicFits (lowered chip pin) (without_pin s pin)
ioapic_forgets chip s pin fits = ap (λ high. set.remove high pin) fits ∙ sym (set_below-remove 24 pin (is_high s) (is_high (without_pin s pin)) (λ n _. high-without s pin n))

-- ---- the pair

same_below : (p q : ℕ → Bool) → ((n : ℕ) → n < 8 → p n ≡ q n) → set_below 8 p ≡ set_below 8 q
same_below p q same = set_below_is (set_below 8 q) 8 p (λ n. contains-set_below 8 q n ∙ at n)
  where
    at : (n : ℕ) → (nat_lt n 8 && q n) ≡ (nat_lt n 8 && p n)
    at n = let here : n < 8 → p n ≡ q n = same n in grind (arith, nat_tests)

elsewhere : (e h : Bool) → e ≡ false → (not e && h) ≡ h
elsewhere e h other = ap (λ t. not t && h) other

module _ (pair : Pair) (s : Holds) (pin : ℕ) (below : pin < 16) (fits : PairFits pair s) where
  pub pic_forgets : PairFits (pin_set pair pin false) (without_pin s pin)
  pic_forgets = elim (nat_lt pin 8) as (λ t. nat_lt pin 8 ≡ t
      → PairFits (if t then record pair { master = with_pin pair.master pin false } else record pair { slave = with_pin pair.slave (pin % 8) false }) (without_pin s pin)) [
        | true ↦ λ first.
            let here : pin < 8 = grind (first, arith, nat_tests) in
            record {
              master = ap (λ high. set.remove high pin) fits.master ∙ sym (set_below-remove 8 pin (is_high s) (is_high (without_pin s pin)) (λ n _. high-without s pin n));
              slave = fits.slave ∙ sym (same_below (λ n. is_high (without_pin s pin) (n + 8)) (λ n. is_high s (n + 8)) (λ n small. high-without s pin (n + 8) ∙ elsewhere (nat_eq (n + 8) pin) (is_high s (n + 8)) (grind (here, small, arith, nat_tests))));
            }
        | false ↦ λ second.
            let from : 8 ≤ pin = grind (second, arith, nat_tests) in
            record {
              master = fits.master ∙ sym (same_below (is_high (without_pin s pin)) (is_high s) (λ n small. high-without s pin n ∙ elsewhere (nat_eq n pin) (is_high s n) (grind (from, small, arith, nat_tests))));
              slave =
                  ap (λ high. set.remove high (pin % 8)) fits.slave
                  ∙ sym (set_below-remove 8 (pin % 8) (λ n. is_high s (n + 8)) (λ n. is_high (without_pin s pin) (n + 8)) (λ n small. high-without s pin (n + 8) ∙ ap (λ e. not e && is_high s (n + 8)) (level_of from n small)));
            }
      ] refl
    where
      level_of : 8 ≤ pin → (n : ℕ) → n < 8 → nat_eq (n + 8) pin ≡ nat_eq n (pin % 8)
      level_of from n small = grind (from, below, small, arith, nat_tests)
