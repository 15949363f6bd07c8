-- The pins of a chip follow the holds beside it.
use Rattle.std.proofs.Common.{◌≡◌, ℕ, ◌+◌, ◌%◌, ◌<◌, ◌≤◌, Bool, true, false, not, ◌&&◌, ◌||◌, nat_eq, nat_lt, if◌then◌else◌, refl, sym, ap, ◌∙◌, true≢false, arith}
use Rattle.std.proofs.lemmas.Bool.Decides.{nat_tests}
use Rattle.std.specs.FinSet as set
use Rattle.std.specs.FinSet.{contains-insert, contains-remove}
use Rattle.std.specs.Ordering.{eq_by_cmp, nat_cmp}
use Rattle.irq_bits.specs.Members.{set_below}
use Rattle.irq_bits.specs.SetLemmas.{contains-set_below, set_below_is, set_below-insert, set_below-remove}
use Rattle.irq_base.specs.declared.message.Source.{Source}
use Rattle.pic_8259a.specs.Accesses.{with_pin}
use Rattle.pic_8259a.specs.Pair.{pin_set}
use Rattle.source_levels.specs.Holds.{Holds, hold, hold_cmp, number_of, is_high}
use Rattle.source_levels.proofs.HoldLemmas.{hold_cmp_total, hold_tied, tied_same, high_where_held, held_where_high}
use Rattle.board_model.specs.Chips.{PicPart, chip_of, without_pins, master_high, slave_high, pair_of, ioapic_of}
use Rattle.pic_8259a.specs.declared.pair.Pair.{Pair}
use Rattle.board_raise.specs.Signal.{pic_raised, pic_let_go}
use Rattle.board_raise.specs.PinLaws.{PicPinsFollowHolds, IoapicPinsFollowHolds}

same_tests : (a b : Bool) → (a ≡ true → b ≡ true) → (b ≡ true → a ≡ true) → a ≡ b
same_tests true b f g = sym (f refl)
same_tests false true f g = g refl
same_tests false false f g = refl

either_true : {Q : Type 0} (a b : Bool) → (a ≡ true → Q) → (b ≡ true → Q) → (a || b) ≡ true → Q
either_true true b f g h = f refl
either_true false b f g h = g h

or_second : (a b : Bool) → b ≡ true → (a || b) ≡ true
or_second true b h = refl
or_second false b h = h

and_second : (a b : Bool) → (a && b) ≡ true → b ≡ true
and_second true b h = h
and_second false b h = absurd (true≢false (sym h))

module _ (s : Holds) (pin : ℕ) (source : Source) where
  itself : eq_by_cmp hold_cmp (hold pin source) (hold pin source) ≡ true
  itself = hold_tied (hold pin source) (hold pin source) ∙ tied pin (number_of source)
    where
      tied : (a b : ℕ) → (nat_eq a a && nat_eq b b) ≡ true
      tied a b = grind arith

  -- ---- one more hold

  high-insert : (n : ℕ) → is_high (set.insert s (hold pin source)) n ≡ (nat_eq n pin || is_high s n)
  high-insert n = same_tests _ _ forth (either_true _ _ pins others)
    where
      forth : is_high (set.insert s (hold pin source)) n ≡ true → (nat_eq n pin || is_high s n) ≡ true
      forth high =
          let one = held_where_high (set.insert s (hold pin source)) n high in
          either_true _ _
          (λ tie. let same : n ≡ pin = ap (λ h. h.pin) (tied_same (hold n one.0) (hold pin source) tie) in grind (same, arith))
          (λ held. or_second _ _ (high_where_held s n one.0 held))
          (sym (contains-insert hold_cmp_total s (hold pin source) (hold n one.0)) ∙ one.1)

      pins : nat_eq n pin ≡ true → is_high (set.insert s (hold pin source)) n ≡ true
      pins same =
          let e : pin ≡ n = grind (same, arith) in
          ap (is_high (set.insert s (hold pin source))) (sym e)
          ∙ high_where_held (set.insert s (hold pin source)) pin source (contains-insert hold_cmp_total s (hold pin source) (hold pin source) ∙ ap (λ t. t || set.contains s (hold pin source)) itself)

      others : is_high s n ≡ true → is_high (set.insert s (hold pin source)) n ≡ true
      others high =
          let one = held_where_high s n high in
          high_where_held (set.insert s (hold pin source)) n one.0 (contains-insert hold_cmp_total s (hold pin source) (hold n one.0) ∙ or_second _ _ one.1)

  -- ---- one hold less

  high-less : (n : ℕ) → is_high (set.remove s (hold pin source)) n ≡ true → is_high s n ≡ true
  high-less n high =
      let one = held_where_high (set.remove s (hold pin source)) n high in
      high_where_held s n one.0 (and_second _ _ (sym (contains-remove hold_cmp_total s (hold pin source) (hold n one.0)) ∙ one.1))

  high-other : (n : ℕ) → nat_eq n pin ≡ false → is_high (set.remove s (hold pin source)) n ≡ is_high s n
  high-other n other = same_tests _ _ (high-less n) back
    where
      apart : (t held : Bool) → t ≡ false → held ≡ true → (not t && held) ≡ true
      apart false true _ _ = refl
      apart false false _ h = h
      apart true held h _ = absurd (true≢false h)

      back : is_high s n ≡ true → is_high (set.remove s (hold pin source)) n ≡ true
      back high =
          let one = held_where_high s n high in
          high_where_held (set.remove s (hold pin source)) n one.0
          (contains-remove hold_cmp_total s (hold pin source) (hold n one.0)
          ∙ apart _ _ (hold_tied (hold n one.0) (hold pin source) ∙ ap (λ t. t && nat_eq (number_of one.0) (number_of source)) other) one.1)

  -- where another source holds the pin, nothing changes
  high-stays : is_high (set.remove s (hold pin source)) pin ≡ true → (n : ℕ) → is_high (set.remove s (hold pin source)) n ≡ is_high s n
  high-stays still n = elim (nat_eq n pin) as (λ t. nat_eq n pin ≡ t → is_high (set.remove s (hold pin source)) n ≡ is_high s n) [
    | true ↦ λ same.
        let e : n ≡ pin = grind (same, arith) in
        ap (is_high (set.remove s (hold pin source))) e ∙ still ∙ sym (ap (is_high s) e ∙ high-less pin still)
    | false ↦ λ other. high-other n other
  ] refl

  -- where none does, the pin is low
  high-gone : is_high (set.remove s (hold pin source)) pin ≡ false → (n : ℕ) → is_high (set.remove s (hold pin source)) n ≡ (not (nat_eq n pin) && is_high s n)
  high-gone gone n = elim (nat_eq n pin) as (λ t. nat_eq n pin ≡ t → is_high (set.remove s (hold pin source)) n ≡ (not t && is_high s n)) [
    | true ↦ λ same. let e : n ≡ pin = grind (same, arith) in ap (is_high (set.remove s (hold pin source))) e ∙ gone
    | false ↦ λ other. high-other n other
  ] refl

same_below : (k : ℕ) (p q : ℕ → Bool) → ((n : ℕ) → n < k → p n ≡ q n) → set_below k p ≡ set_below k q
same_below k p q same = set_below_is (set_below k q) k p (λ n. contains-set_below k q n ∙ at n)
  where
    at : (n : ℕ) → (nat_lt n k && q n) ≡ (nat_lt n k && p n)
    at n = let here : n < k → p n ≡ q n = same n in grind (arith, nat_tests)

pub ioapic_pins_follow_holds : IoapicPinsFollowHolds
ioapic_pins_follow_holds part pin source below = record {
  raised = with_high (set_below-insert 24 pin (is_high part.holds) _ below (λ n _. high-insert part.holds pin source n));
  lowered = λ gone. with_high (set_below-remove 24 pin (is_high part.holds) _ (λ n _. high-gone part.holds pin source gone n));
  stays = λ still. with_high (same_below 24 _ (is_high part.holds) (λ n _. high-stays part.holds pin source still n));
}
  where
    with_high : {s t : set.FinSet nat_cmp} → s ≡ t → record (ioapic_of part) { high = s } ≡ record (ioapic_of part) { high = t }
    with_high e = λ i. record (ioapic_of part) { high = e i }

-- ---- the pair: pins below 8 are the master's, the others the slave's

module _ (s t : Holds) (pin : ℕ) where
  -- what a change of the holds is to one chip, where it is one at its own level, or at none of its levels
  master_more : pin < 8 → ((n : ℕ) → is_high t n ≡ (nat_eq n pin || is_high s n)) → master_high t ≡ set.insert (master_high s) pin
  master_more below more = set_below-insert 8 pin (is_high s) (is_high t) below (λ n _. more n)

  master_less : ((n : ℕ) → is_high t n ≡ (not (nat_eq n pin) && is_high s n)) → master_high t ≡ set.remove (master_high s) pin
  master_less less = set_below-remove 8 pin (is_high s) (is_high t) (λ n _. less n)

  slave_more : 8 ≤ pin → pin < 16 → ((n : ℕ) → is_high t n ≡ (nat_eq n pin || is_high s n)) → slave_high t ≡ set.insert (slave_high s) (pin % 8)
  slave_more from below more =
      let level : pin % 8 < 8 = omega arith in
      set_below-insert 8 (pin % 8) (λ n. is_high s (n + 8)) (λ n. is_high t (n + 8)) level
      (λ n small. more (n + 8) ∙ ap (λ e. e || is_high s (n + 8)) (level_of n small))
    where
      level_of : (n : ℕ) → n < 8 → nat_eq (n + 8) pin ≡ nat_eq n (pin % 8)
      level_of n small = grind (from, below, small, arith, nat_tests)

  slave_less : 8 ≤ pin → pin < 16 → ((n : ℕ) → is_high t n ≡ (not (nat_eq n pin) && is_high s n)) → slave_high t ≡ set.remove (slave_high s) (pin % 8)
  slave_less from below less = set_below-remove 8 (pin % 8) (λ n. is_high s (n + 8)) (λ n. is_high t (n + 8)) (λ n small. less (n + 8) ∙ ap (λ e. not e && is_high s (n + 8)) (level_of n small))
    where
      level_of : (n : ℕ) → n < 8 → nat_eq (n + 8) pin ≡ nat_eq n (pin % 8)
      level_of n small = grind (from, below, small, arith, nat_tests)

  master_same : ((n : ℕ) → n < 8 → is_high t n ≡ is_high s n) → master_high t ≡ master_high s
  master_same same = same_below 8 (is_high t) (is_high s) same

  slave_same : ((n : ℕ) → n < 8 → is_high t (n + 8) ≡ is_high s (n + 8)) → slave_high t ≡ slave_high s
  slave_same same = same_below 8 (λ n. is_high t (n + 8)) (λ n. is_high s (n + 8)) same

elsewhere : (n pin : ℕ) (h : Bool) → nat_eq n pin ≡ false → (nat_eq n pin || h) ≡ h
elsewhere n pin h other = ap (λ e. e || h) other

elsewhere_less : (n pin : ℕ) (h : Bool) → nat_eq n pin ≡ false → (not (nat_eq n pin) && h) ≡ h
elsewhere_less n pin h other = ap (λ e. not e && h) other

module _ (pic : PicPart) (pin : ℕ) (source : Source) (below : pin < 16) where
  abbrev more : Holds
  more = set.insert pic.holds (hold pin source)

  abbrev less : Holds
  less = set.remove pic.holds (hold pin source)

  abbrev pair_with : Pair → Holds → Pair
  pair_with p holds = record { master = chip_of (without_pins p.master) (master_high holds); slave = chip_of (without_pins p.slave) (slave_high holds) }

  pic_rises : pair_of (pic_raised pic pin source) ≡ pin_set (pair_of pic) pin true
  pic_rises = elim (nat_lt pin 8) as (λ t. nat_lt pin 8 ≡ t
      → pair_with (if t then record (pair_of pic) { master = with_pin (pair_of pic).master pin true } else record (pair_of pic) { slave = with_pin (pair_of pic).slave (pin % 8) true }) more
      ≡ (if t then record (pair_of pic) { master = with_pin (pair_of pic).master pin true } else record (pair_of pic) { slave = with_pin (pair_of pic).slave (pin % 8) true })) [
        | true ↦ λ first.
            let here : pin < 8 = grind (first, arith) in
            let master : master_high more ≡ set.insert (master_high pic.holds) pin = master_more pic.holds more pin here (high-insert pic.holds pin source) in
            let slave : slave_high more ≡ slave_high pic.holds = slave_same pic.holds more pin (λ n small. high-insert pic.holds pin source (n + 8) ∙ elsewhere (n + 8) pin _ (grind (here, small, arith))) in
            λ i. record { master = chip_of (without_pins (with_pin (pair_of pic).master pin true)) (master i); slave = chip_of pic.slave (slave i) }
        | false ↦ λ second.
            let from : 8 ≤ pin = grind (second, arith) in
            let master : master_high more ≡ master_high pic.holds = master_same pic.holds more pin (λ n small. high-insert pic.holds pin source n ∙ elsewhere n pin _ (grind (from, small, arith))) in
            let slave : slave_high more ≡ set.insert (slave_high pic.holds) (pin % 8) = slave_more pic.holds more pin from below (high-insert pic.holds pin source) in
            λ i. record { master = chip_of pic.master (master i); slave = chip_of (without_pins (with_pin (pair_of pic).slave (pin % 8) true)) (slave i) }
      ] refl

  pic_falls : is_high less pin ≡ false → pair_of (pic_let_go pic pin source) ≡ pin_set (pair_of pic) pin false
  pic_falls gone = elim (nat_lt pin 8) as (λ t. nat_lt pin 8 ≡ t
      → pair_of (pic_let_go pic pin source)
      ≡ (if t then record (pair_of pic) { master = with_pin (pair_of pic).master pin false } else record (pair_of pic) { slave = with_pin (pair_of pic).slave (pin % 8) false })) [
        | true ↦ λ first.
            let here : pin < 8 = grind (first, arith) in
            let master : master_high less ≡ set.remove (master_high pic.holds) pin = master_less pic.holds less pin (high-gone pic.holds pin source gone) in
            let slave : slave_high less ≡ slave_high pic.holds = slave_same pic.holds less pin (λ n small. high-other pic.holds pin source (n + 8) (grind (here, small, arith))) in
            λ i. record { master = chip_of pic.master (master i); slave = chip_of pic.slave (slave i) }
        | false ↦ λ second.
            let from : 8 ≤ pin = grind (second, arith) in
            let master : master_high less ≡ master_high pic.holds = master_same pic.holds less pin (λ n small. high-other pic.holds pin source n (grind (from, small, arith))) in
            let slave : slave_high less ≡ set.remove (slave_high pic.holds) (pin % 8) = slave_less pic.holds less pin from below (high-gone pic.holds pin source gone) in
            λ i. record { master = chip_of pic.master (master i); slave = chip_of pic.slave (slave i) }
      ] refl

  pic_stays : is_high less pin ≡ true → pair_of (pic_let_go pic pin source) ≡ pair_of pic
  pic_stays still =
      let master : master_high less ≡ master_high pic.holds = master_same pic.holds less pin (λ n _. high-stays pic.holds pin source still n) in
      let slave : slave_high less ≡ slave_high pic.holds = slave_same pic.holds less pin (λ n _. high-stays pic.holds pin source still (n + 8)) in
      λ i. record { master = chip_of pic.master (master i); slave = chip_of pic.slave (slave i) }

pub pic_pins_follow_holds : PicPinsFollowHolds
pic_pins_follow_holds pic pin source below = record { raised = pic_rises pic pin source below; lowered = pic_falls pic pin source below; stays = pic_stays pic pin source below }
