-- What stood where a chip answers that its pin stood, and that its pin is masked where it answers so.
use Rattle.board_laws.proofs.Basics.{◌≡◌, ℕ, ◌+◌, ◌%◌, Bool, true, false, not, ◌&&◌, ◌||◌, nat_lt, if◌then◌else◌, ◌⊎◌, inl, inr, refl, sym, ap, ◌∙◌, true≢false, arith, Some, None, second_so, Option, Numbers, contains-set_below, Message, MsiWord, Targets, Cause, Masked, Chip, PinOutcome, Raise, pin_outcome, raise_of, message_of, is_high, Board, PicPart, IoapicPart, pair_of, ioapic_of, TargetAnswer, no_effect, mod_small, set_below, chip_outcome as outcome_of, PicChip, chip_of, master_high, slave_high, ioapic_high, first_cause, chip_with_pin, is_pic_masked, PicPinsHaveTheirLines, is_pic_high, IsLatched, redirection_of, HasRemoteIrr, IsEdgeHigh, pic_answer_on, raise_answer_on, other_answer_on, cause_on, lacks_effect, HasNoTarget, IsIgnoredFor, PicMasked, IoapicMasked, contains}
use borrow.Author.Tests.{ltb-true}

-- what is in the numbers below a bound that pass, passes
in_passes : (k : ℕ) (p : ℕ → Bool) (n : ℕ) → contains (set_below k p) n ≡ true → p n ≡ true
in_passes k p n there = second_so (nat_lt n k) (p n) (sym (contains-set_below k p n) ∙ there)

-- ---- the 8259A pair

abbrev pub has_stood : PinOutcome → Bool
has_stood PinOutcome.Stood = true
has_stood _ = false

abbrev pub is_masked : PinOutcome → Bool
is_masked PinOutcome.Masked = true
is_masked _ = false

-- what stood at a level of one chip
abbrev LevelStood : Chip → ℕ → Type 0
LevelStood c level = (contains c.imr level ≡ false) × ((contains c.high level ≡ true) ⊎ ((contains c.elcr level ≡ false) × (contains c.latches level ≡ true)))

level_stood : (c : Chip) (level : ℕ) → has_stood (outcome_of c level true) ≡ true → LevelStood c level
level_stood c level h = by_bits (contains c.imr level) (contains c.high level) (contains c.elcr level) (contains c.latches level) h
  where
    by_bits : (masked high levelled latched : Bool) → has_stood (if masked then PinOutcome.Masked else if not high && (levelled || not latched) then PinOutcome.New else PinOutcome.Stood) ≡ true
        → (masked ≡ false) × ((high ≡ true) ⊎ ((levelled ≡ false) × (latched ≡ true)))
    by_bits masked high levelled latched h1 = grind arith

level_masked : (c : Chip) (level : ℕ) → is_masked (outcome_of c level true) ≡ true → contains c.imr level ≡ true
level_masked c level h1 = grind arith

-- what stood at a pin of the pair
abbrev pub PinStood : PicPart → ℕ → Type 0
PinStood pic pin = (is_pic_masked pic pin ≡ false) × ((is_pic_high pic pin ≡ true) ⊎ IsLatched pic pin)

module _ (pic : PicPart) (pin : ℕ) where
  -- the level of a pin of the master is the pin
  own_level : nat_lt pin 8 ≡ true → pin % 8 ≡ pin
  own_level below = mod_small pin 8 (ltb-true pin 8 below)

  -- what stood at the level of a chip, stood at the pin that it has
  of_level : (chip : PicChip) → chip_with_pin pic pin ≡ chip → (high : Numbers) → (contains high (pin % 8) ≡ true → is_pic_high pic pin ≡ true) → LevelStood (chip_of chip high) (pin % 8) → PinStood pic pin
  of_level chip is high line stood = (ap (λ (c : PicChip). contains c.imr (pin % 8)) is ∙ stood.0, of_reason stood.1)
    where
      of_reason : (contains high (pin % 8) ≡ true) ⊎ ((contains chip.elcr (pin % 8) ≡ false) × (contains chip.latches (pin % 8) ≡ true)) → (is_pic_high pic pin ≡ true) ⊎ IsLatched pic pin
      of_reason h1 = grind arith

  abbrev master : Chip
  master = chip_of pic.master (master_high pic.holds)

  abbrev slave : Chip
  slave = chip_of pic.slave (slave_high pic.holds)

  pub pin_stood : has_stood (pin_outcome (pair_of pic) pin true) ≡ true → PinStood pic pin
  pin_stood h = of_half (nat_lt pin 8) refl h
    where
      of_half : (t : Bool) → nat_lt pin 8 ≡ t → has_stood (if t then outcome_of master pin true else outcome_of slave (pin % 8) true) ≡ true → PinStood pic pin
      of_half true below h =
          of_level pic.master (ap (λ t. if t then pic.master else pic.slave) below) (master_high pic.holds)
          (λ high. ap (λ t. is_high pic.holds (if t then pin else pin % 8 + 8)) below ∙ ap (is_high pic.holds) (sym (own_level below)) ∙ in_passes 8 (is_high pic.holds) (pin % 8) high)
          (level_stood master (pin % 8) (ap (λ n. has_stood (outcome_of master n true)) (own_level below) ∙ h))
      of_half false past h =
          of_level pic.slave (ap (λ t. if t then pic.master else pic.slave) past) (slave_high pic.holds)
          (λ high. ap (λ t. is_high pic.holds (if t then pin else pin % 8 + 8)) past ∙ in_passes 8 (λ level. is_high pic.holds (level + 8)) (pin % 8) high)
          (level_stood slave (pin % 8) h)

  pub pin_masked : is_masked (pin_outcome (pair_of pic) pin true) ≡ true → is_pic_masked pic pin ≡ true
  pin_masked h1 = grind arith

pub pic_pins_have_their_lines : PicPinsHaveTheirLines
pic_pins_have_their_lines pin below = of_half (nat_lt pin 8) refl
  where
    of_half : (t : Bool) → nat_lt pin 8 ≡ t → (if t then pin else pin % 8 + 8) ≡ pin
    of_half t h1 = grind arith

-- ---- the I/O APIC

abbrev pub raise_stood : Raise → Bool
raise_stood Raise.Stood = true
raise_stood _ = false

abbrev pub raise_masked : Raise → Bool
raise_masked Raise.Masked = true
raise_masked _ = false

module _ (part : IoapicPart) (pin : ℕ) where
  by_entry : (masked level remote_irr high : Bool) (message : Message) → raise_stood (if masked then Raise.Masked else if (if level then remote_irr else high) then Raise.Stood else Raise.Send message) ≡ true
      → (masked ≡ false) × (((level ≡ true) × (remote_irr ≡ true)) ⊎ ((level ≡ false) × (high ≡ true)))
  by_entry masked level remote_irr high message h1 = grind arith

  -- what stood at a pin of the I/O APIC
  pub raised_stood : raise_stood (raise_of (ioapic_of part) pin) ≡ true → ((redirection_of part pin).masked ≡ false) × (HasRemoteIrr part pin ⊎ IsEdgeHigh part pin)
  raised_stood h =
      let entry = redirection_of part pin in
      let stood = by_entry entry.masked entry.level entry.remote_irr (contains (ioapic_high part.holds) pin) (message_of entry) h in
      (stood.0, of_reason stood.1)
    where
      of_reason : (((redirection_of part pin).level ≡ true) × ((redirection_of part pin).remote_irr ≡ true)) ⊎ (((redirection_of part pin).level ≡ false) × (contains (ioapic_high part.holds) pin ≡ true)) → HasRemoteIrr part pin ⊎ IsEdgeHigh part pin
      of_reason (inl h) = inl (record { level = h.0; remote_irr = h.1 })
      of_reason (inr h) = inr (record { edge = h.0; high = in_passes 24 (is_high part.holds) pin h.1 })

  pub raised_masked : raise_masked (raise_of (ioapic_of part) pin) ≡ true → (redirection_of part pin).masked ≡ true
  raised_masked h1 = grind arith

-- ---- causes

-- whether a target answers a cause that passes a test
abbrev answers_cause : (Cause → Bool) → Option TargetAnswer → Bool
answers_cause asked (Some (no_effect cause)) = asked cause
answers_cause asked _ = false

abbrev is_masked_cause : Cause → Bool
is_masked_cause Masked = true
is_masked_cause _ = false

abbrev is_unrouted : Cause → Bool
is_unrouted Cause.Unrouted = true
is_unrouted _ = false

module _ (asked : Cause → Bool) where
  -- where the first cause passes, one of two targets answers it, or neither is there to have a cause
  one_answers : (pic other : Option TargetAnswer) → asked (first_cause pic other) ≡ true → (answers_cause asked pic ≡ true) ⊎ ((answers_cause asked other ≡ true) ⊎ (asked Cause.Unrouted ≡ true))
  one_answers pic other h1 = grind arith

  module _ (b : Board) (no_mode : asked Cause.Mode ≡ false) (no_vector : asked Cause.BadVector ≡ false) (nobody : asked Cause.NoProcessor ≡ false) where
    -- an 8259A pin answers that it is masked alone
    pic_answers : (pin : Option ℕ) → answers_cause asked (pic_answer_on b pin) ≡ true → (n : ℕ) × (pin ≡ Some n) × (is_masked (pin_outcome (pair_of b.pic) n true) ≡ true) × (asked Masked ≡ true)
    pic_answers pin h1 = grind arith

    -- so does a pin of the I/O APIC, or as its message
    other_answers : (ioapic : Option ℕ) (msi : Option MsiWord) → answers_cause asked (other_answer_on b b.shape.cpus ioapic msi) ≡ true → (n : ℕ) × (ioapic ≡ Some n) × (raise_masked (raise_of (ioapic_of b.ioapic) n) ≡ true) × (asked Masked ≡ true)
    other_answers None None h = absurd (true≢false (sym h))
    other_answers None (Some word) h = absurd (true≢false (sym h ∙ (grind arith)))
    other_answers (Some pin) msi h = of_raise (raise_of (ioapic_of b.ioapic) pin) refl h
      where
        of_raise : (r : Raise) → raise_of (ioapic_of b.ioapic) pin ≡ r → answers_cause asked (Some (raise_answer_on b b.shape.cpus r)) ≡ true → (n : ℕ) × (Some pin ≡ Some n) × (raise_masked (raise_of (ioapic_of b.ioapic) n) ≡ true) × (asked Masked ≡ true)
        of_raise Raise.Masked is h = (pin, refl, ap raise_masked is, h)
        of_raise Raise.Stood is h = absurd (true≢false (sym h))
        of_raise (Raise.Send message) is h = absurd (true≢false (sym h ∙ (grind arith)))

-- the cause is Masked only where a pin of the targets is masked
pub masked_only : (b : Board) (targets : Targets) → Masked ≡ cause_on b targets → PicMasked b targets ⊎ IoapicMasked b targets
masked_only b targets is = of_answers (one_answers is_masked_cause (pic_answer_on b targets.pic) (other_answer_on b b.shape.cpus targets.ioapic targets.msi) (sym (ap is_masked_cause is)))
  where
    of_answers : (answers_cause is_masked_cause (pic_answer_on b targets.pic) ≡ true) ⊎ ((answers_cause is_masked_cause (other_answer_on b b.shape.cpus targets.ioapic targets.msi) ≡ true) ⊎ (false ≡ true))
        → PicMasked b targets ⊎ IoapicMasked b targets
    of_answers (inl h) = let (pin, there, masked, _) = pic_answers is_masked_cause b refl refl refl targets.pic h in inl (record { pin = pin; there = there; masked = pin_masked b.pic pin masked })
    of_answers (inr (inl h)) = let (pin, there, masked, _) = other_answers is_masked_cause b refl refl refl targets.ioapic targets.msi h in inr (record { pin = pin; there = there; masked = raised_masked b.ioapic pin masked })
    of_answers (inr (inr h)) = cc

module _ (b : Board) (targets : Targets) where
  -- where neither target has an effect, the cause is the first of theirs, and Unrouted exactly where there is none
  pub ignored_for : (pic other : Option TargetAnswer) → pic ≡ pic_answer_on b targets.pic → other ≡ other_answer_on b b.shape.cpus targets.ioapic targets.msi → lacks_effect pic ≡ true → lacks_effect other ≡ true → IsIgnoredFor b targets (first_cause pic other)
  ignored_for pic other is says no_pic no_other = record {
    pic = sym (ap lacks_effect is) ∙ no_pic;
    other = sym (ap lacks_effect says) ∙ no_other;
    first = λ i. first_cause (is i) (says i);
    unrouted = (λ unrouted. none pic other is says no_pic no_other (ap is_unrouted unrouted), λ no_target. ((λ i. first_cause (is i) (says i)) ∙ (λ i. first_cause (pic_answer_on b (no_target.pic i)) (other_answer_on b b.shape.cpus (no_target.ioapic i) (no_target.msi i)))));
  }
    where
      no_pin : (pin : Option ℕ) → None ≡ pic_answer_on b pin → pin ≡ None
      no_pin pin h1 = grind arith

      no_other_target : (ioapic : Option ℕ) (msi : Option MsiWord) → None ≡ other_answer_on b b.shape.cpus ioapic msi → (ioapic ≡ None) × (msi ≡ None)
      no_other_target ioapic msi h1 = grind arith

      none : (pic other : Option TargetAnswer) → pic ≡ pic_answer_on b targets.pic → other ≡ other_answer_on b b.shape.cpus targets.ioapic targets.msi → lacks_effect pic ≡ true → lacks_effect other ≡ true → is_unrouted (first_cause pic other) ≡ true → HasNoTarget targets
      none None None is says no_pic no_other h = let both = no_other_target targets.ioapic targets.msi says in record { pic = no_pin targets.pic is; ioapic = both.0; msi = both.1 }
      none (Some (no_effect cause)) other is says no_pic no_other h =
          let (pin, there, masked, never) = pic_answers is_unrouted b refl refl refl targets.pic (sym (ap (answers_cause is_unrouted) is) ∙ h) in cc
      none None (Some (no_effect cause)) is says no_pic no_other h =
          let (pin, there, masked, never) = other_answers is_unrouted b refl refl refl targets.ioapic targets.msi (sym (ap (answers_cause is_unrouted) says) ∙ h) in cc
      none None _ is says no_pic no_other h = absurd (true≢false (sym no_other))
      none _ other is says no_pic no_other h = absurd (true≢false (sym no_pic))
