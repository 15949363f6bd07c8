-- What acknowledges of pins of different GSIs reach, one after another, is told by the board before the first.
use Rattle.board_reach.proofs.Basics.{arith, ◌≡◌, ℕ, Bool, true, false, not, ◌&&◌, ◌||◌, nat_eq, if◌then◌else◌, List, [], ◌∷◌, inl, inr, refl, sym, ap, ◌∙◌, subst, Some, None, unsigned_Decides, Option, contains-remove, eq_by_cmp, Pin, Message, MsiWord, Resample, Part, Tick, Pic, Ioapic, Shape, message_of, entry_at, pin_acked, has_resampler, hold, hold_cmp, ack_injects, is_same_pin, has_pin, Board, is_same, IoapicPart, ioapic_of, with_ioapic, Routing, done, ◌>>◌, Wishes, Outcome, run, of_pin, of_answer, of_other, tell_concerned, end_level, end_tick, acknowledge, acknowledge_tick, board_by, of_marked, of_resend, of_level, of_tick, of_acknowledge_each, ◌⊎◌, IoEntry as Entry, hold_cmp_total, is_same-some, run-bind, acknowledge_tells, pin_freed, part_freed, freed, part_cleared, cleared, of_acknowledge_now, of_acknowledges_now}
use Rattle.board_reach.proofs.Pins.{irr_cleared, acked_entry, raise_alike, MarksResamplers, told_holds, level_ends, acknowledge_is_now}
use Rattle.board_reach.proofs.Apart.{SamePin, same_level, IsOther, IsOtherOf, IsOtherPin, acknowledge_leaves}

-- ---- the row of a pin on boards that have what it reads

-- the message that an entry with its remote IRR clear sends again
abbrev resend_by : Bool → Entry → Option Message
resend_by high e = if high && (not e.masked && (e.level && not e.remote_irr)) then Some (message_of e) else None

freed_same : (pin : ℕ) (part other : IoapicPart) (ioapic : Option ℕ) → SamePin pin part other → SamePin pin (pin_freed part ioapic) (pin_freed other ioapic)
freed_same pin part other None h = h
freed_same pin part other (Some at) h = record {
  entry = h.entry;
  holds = λ source.
      contains-remove hold_cmp_total other.holds (hold at Resample) (hold pin source)
      ∙ ap (λ t. not (eq_by_cmp hold_cmp (hold pin source) (hold at Resample)) && t) (h.holds source)
      ∙ sym (contains-remove hold_cmp_total part.holds (hold at Resample) (hold pin source));
}

module _ (routing : Routing) (shape : Shape) where
  part_freed_same : (pin : ℕ) (b c : Board) (gsi : Option ℕ) → c.registry ≡ b.registry → SamePin pin b.ioapic c.ioapic → SamePin pin (part_freed routing shape b gsi) (part_freed routing shape c gsi)
  part_freed_same pin b c None registry h = h
  part_freed_same pin b c (Some gsi) registry h =
      subst (λ r. SamePin pin (part_freed routing shape b (Some gsi)) (if has_resampler r.irqfds gsi then pin_freed c.ioapic (routing.targets gsi).ioapic else c.ioapic)) (sym registry)
      (by_test (has_resampler b.registry.irqfds gsi))
    where
      by_test : (t : Bool) → SamePin pin (if t then pin_freed b.ioapic (routing.targets gsi).ioapic else b.ioapic) (if t then pin_freed c.ioapic (routing.targets gsi).ioapic else c.ioapic)
      by_test true = freed_same pin b.ioapic c.ioapic (routing.targets gsi).ioapic h
      by_test false = h

  -- the acknowledged pin, if it is one of the I/O APIC, is the same
  abbrev SameAcked : Pin → IoapicPart → IoapicPart → Type 0
  SameAcked (Pin.Pic p) part other = Unit {0}
  SameAcked (Pin.Ioapic at) part other = SamePin at part other

  part_cleared_same : (pin : ℕ) (part other : IoapicPart) (acked : Pin) → SameAcked acked part other → SamePin pin part other → SamePin pin (part_cleared part acked) (part_cleared other acked)
  part_cleared_same pin part other (Pin.Pic p) own h = h
  part_cleared_same pin part other (Pin.Ioapic at) own h =
      subst (λ (e : Entry). SamePin pin (part_cleared part (Pin.Ioapic at)) (if e.level then with_ioapic other (pin_acked (ioapic_of other) at) else other)) (sym own.entry)
      (by_test (entry_at (ioapic_of part) at).level)
    where
      by_test : (t : Bool) → SamePin pin (if t then with_ioapic part (pin_acked (ioapic_of part) at) else part) (if t then with_ioapic other (pin_acked (ioapic_of other) at) else other)
      by_test true = record {
        entry = acked_entry (ioapic_of other) at pin ∙ (λ i. if nat_eq at pin then irr_cleared (own.entry i) else h.entry i) ∙ sym (acked_entry (ioapic_of part) at pin);
        holds = h.holds;
      }
      by_test false = h

  level_same : (b c : Board) (acked : Pin) (q : Part) → SameAcked acked b.ioapic c.ioapic → of_level routing shape c acked q ≡ of_level routing shape b acked q
  level_same b c (Pin.Pic p) q h = refl
  level_same b c (Pin.Ioapic at) q h = λ i.
      is_same Ioapic q || ((h.entry i).level && of_resend routing shape (resend_by (same_level h i) ((acked_entry (ioapic_of c.ioapic) at at ∙ ap (λ e. if nat_eq at at then irr_cleared e else e) h.entry ∙ sym (acked_entry (ioapic_of b.ioapic) at at)) i)) q)

  tick_same : (b c : Board) (gsi : Option ℕ) (q : Part) → (gsi ≡ Some shape.tick → c.tick ≡ b.tick)
      → ((t : ℕ) → gsi ≡ Some shape.tick → (routing.targets shape.tick).ioapic ≡ Some t → SamePin t b.ioapic c.ioapic) → of_tick routing shape c gsi q ≡ of_tick routing shape b gsi q
  tick_same b c None q ticks h = refl
  tick_same b c (Some gsi) q ticks h = by_test (nat_eq gsi shape.tick) (λ is. ap Some ((unsigned_Decides gsi shape.tick).0 is))
    where
      others : Some gsi ≡ Some shape.tick → (ioapic : Option ℕ) (msi : Option MsiWord) → (routing.targets shape.tick).ioapic ≡ ioapic → of_other c ioapic msi shape.cpus q ≡ of_other b ioapic msi shape.cpus q
      others is (Some t) msi has =
          let same = h t is has in
          ap (λ answer. is_same Ioapic q || of_answer answer shape.cpus q) (raise_alike (ioapic_of c.ioapic) (ioapic_of b.ioapic) t same.entry (same_level same))
      others is None (Some word) has = refl
      others is None None has = refl

      by_test : (t : Bool) → (t ≡ true → Some gsi ≡ Some shape.tick)
          → (t && (is_same Tick q || (ack_injects c.tick && (of_pin (routing.targets shape.tick).pic Pic q || of_other c (routing.targets shape.tick).ioapic (routing.targets shape.tick).msi shape.cpus q))))
          ≡ (t && (is_same Tick q || (ack_injects b.tick && (of_pin (routing.targets shape.tick).pic Pic q || of_other b (routing.targets shape.tick).ioapic (routing.targets shape.tick).msi shape.cpus q))))
      by_test t h1 = grind (arith, others)

  -- the pins of the I/O APIC that the row of a pin reads: its own, and that on which the next tick comes
  abbrev Reads : Pin → ℕ → Type 0
  Reads acked t = (acked ≡ Pin.Ioapic t) ⊎ ((routing.gsi_of acked ≡ Some shape.tick) × ((routing.targets shape.tick).ioapic ≡ Some t))

  now_same : (b c : Board) (acked : Pin) (q : Part) → c.registry ≡ b.registry → (routing.gsi_of acked ≡ Some shape.tick → c.tick ≡ b.tick) → ((t : ℕ) → Reads acked t → SamePin t b.ioapic c.ioapic)
      → of_acknowledge_now routing shape c acked q ≡ of_acknowledge_now routing shape b acked q
  now_same b c acked q registry ticks h = λ i.
      of_marked routing shape gsi q
      || (level_same (freed routing shape b gsi) (freed routing shape c gsi) acked q (own acked (λ t is. h t (inl is))) i
      || tick_same (cleared (freed routing shape b gsi) acked) (cleared (freed routing shape c gsi) acked) gsi q ticks
      (λ t is has. part_cleared_same t (part_freed routing shape b gsi) (part_freed routing shape c gsi) acked (own acked (λ t is. h t (inl is))) (part_freed_same t b c gsi registry (h t (inr (is, has))))) i)
    where
      gsi : Option ℕ
      gsi = routing.gsi_of acked

      own : (pin : Pin) → ((t : ℕ) → pin ≡ Pin.Ioapic t → SamePin t b.ioapic c.ioapic) → SameAcked pin (part_freed routing shape b gsi) (part_freed routing shape c gsi)
      own (Pin.Pic p) same = tt
      own (Pin.Ioapic at) same = part_freed_same at b c gsi registry (same at refl)

  -- ---- pins of different GSIs

  -- the GSI of a pin is the one whose targets have it
  pub record TellsPins : Type 0 where
    pub own : (pin : Pin) (gsi : ℕ) → routing.gsi_of pin ≡ Some gsi → has_pin pin (routing.targets gsi) ≡ true
    pub only : (pin : Pin) (gsi : ℕ) → has_pin pin (routing.targets gsi) ≡ true → routing.gsi_of pin ≡ Some gsi

  -- two pins that are not one, and have no GSI in common
  pub record Apart (pin other : Pin) : Type 0 where
    pub differ : pin ≡ other → ⊥
    pub gsis : (gsi : ℕ) → routing.gsi_of pin ≡ Some gsi → routing.gsi_of other ≡ Some gsi → ⊥

  abbrev pub EachApart : Pin → List Pin → Type 0
  EachApart pin [] = Unit {0}
  EachApart pin (other ∷ others) = Apart pin other × EachApart pin others

  abbrev pub AllApart : List Pin → Type 0
  AllApart [] = Unit {0}
  AllApart (pin ∷ others) = EachApart pin others × AllApart others

  differs : (a t : ℕ) → (a ≡ t → ⊥) → nat_eq a t ≡ false
  differs a t never = elim (nat_eq a t) as (λ x. nat_eq a t ≡ x → x ≡ false) [ true ↦ λ is. absurd (never ((unsigned_Decides a t).0 is)) | false ↦ λ _. refl ] refl

  module _ (tells : TellsPins) where
    -- the GSI that goes to a pin of the I/O APIC is its GSI
    owner_is : (t gsi : ℕ) → (routing.targets gsi).ioapic ≡ Some t → routing.gsi_of (Pin.Ioapic t) ≡ Some gsi
    owner_is t gsi has = tells.only (Pin.Ioapic t) gsi (ap (λ o. is_same_pin o (Some t)) has ∙ is_same-some t)

    module _ (acked later : Pin) (apart : Apart acked later) (t : ℕ) (reads : Reads later t) where
      other_pin : (pin : Pin) → acked ≡ pin → IsOtherPin t routing shape pin
      other_pin (Pin.Pic p) is = tt
      other_pin (Pin.Ioapic at) is = differs at t (λ same. clash (is ∙ ap Pin.Ioapic same) reads)
        where
          clash : acked ≡ Pin.Ioapic t → Reads later t → ⊥
          clash e (inl own) = apart.differ (e ∙ sym own)
          clash e (inr (ticks, has)) = apart.gsis shape.tick (ap routing.gsi_of e ∙ owner_is t shape.tick has) ticks

      other_of : (gsi : Option ℕ) → routing.gsi_of acked ≡ gsi → IsOtherOf t routing shape gsi
      other_of None is = tt
      other_of (Some gsi) is = by_target (routing.targets gsi).ioapic refl
        where
          clash : (routing.targets gsi).ioapic ≡ Some t → Reads later t → ⊥
          clash has (inl own) = apart.gsis gsi is (ap routing.gsi_of own ∙ owner_is t gsi has)
          clash has (inr (ticks, goes)) = apart.gsis shape.tick (is ∙ sym (owner_is t gsi has) ∙ owner_is t shape.tick goes) ticks

          by_target : (ioapic : Option ℕ) → (routing.targets gsi).ioapic ≡ ioapic → IsOther t ioapic
          by_target None has = tt
          by_target (Some at) has = differs at t (λ same. clash (has ∙ ap Some same) reads)

  -- an acknowledge of a pin that is not the tick's leaves the tick
  tick_stays : (acked : Pin) → (routing.gsi_of acked ≡ Some shape.tick → ⊥) → (b : Board) → MarksResamplers routing shape b → (board_by (acknowledge routing shape acked) b).tick ≡ b.tick
  tick_stays acked other b marks =
      ap (λ (o : Outcome (Unit {0})). o.board.tick) (run-bind (λ _. end_level shape.cpus acked >> end_tick routing shape gsi) (tell_concerned routing gsi) b [])
      ∙ ap (λ (o : Outcome (Unit {0})). o.board.tick) (run-bind (λ _. end_tick routing shape gsi) (end_level shape.cpus acked) told.board told.wishes)
      ∙ by_gsi gsi other _ _
      ∙ level_tick acked told.board told.wishes
      ∙ (told_holds routing shape gsi b [] marks).tick
    where
      gsi : Option ℕ
      gsi = routing.gsi_of acked

      told : Outcome (Unit {0})
      told = run (tell_concerned routing gsi) b []

      by_gsi : (g : Option ℕ) → (g ≡ Some shape.tick → ⊥) → (c : Board) (ws : Wishes) → (run (end_tick routing shape g) c ws).board.tick ≡ c.tick
      by_gsi None never c ws = refl
      by_gsi (Some g) never c ws = ap (λ t. (run (if t then acknowledge_tick routing shape else done tt) c ws).board.tick) (differs g shape.tick (λ same. never (ap Some same)))

      level_tick : (pin : Pin) (c : Board) (ws : Wishes) → (run (end_level shape.cpus pin) c ws).board.tick ≡ c.tick
      level_tick (Pin.Pic p) c ws = refl
      level_tick (Pin.Ioapic at) c ws = (level_ends shape.cpus at c ws).tick

  -- ---- one after another

  module _ (tells : TellsPins) (q : Part) where
    -- what an acknowledge changes is not what the row of a pin apart reads
    later_same : (b : Board) (acked later : Pin) → Apart acked later → MarksResamplers routing shape b
        → of_acknowledge_now routing shape (board_by (acknowledge routing shape acked) b) later q ≡ of_acknowledge_now routing shape b later q
    later_same b acked later apart marks = now_same b (board_by (acknowledge routing shape acked) b) later q (acknowledge_tells routing shape b.registry acked b [] refl).left
        (λ ticks. tick_stays acked (λ is. apart.gsis shape.tick is ticks) b marks)
        (λ t reads. (acknowledge_leaves t routing shape acked (other_pin tells acked later apart t reads acked refl) (other_of tells acked later apart t reads (routing.gsi_of acked) refl) b [] marks).ioapic)

    all_later : (b : Board) (acked : Pin) (others : List Pin) → EachApart acked others → MarksResamplers routing shape b
        → of_acknowledges_now routing shape (board_by (acknowledge routing shape acked) b) others q ≡ of_acknowledges_now routing shape b others q
    all_later b acked [] apart marks = refl
    all_later b acked (later ∷ others) apart marks = λ i. later_same b acked later apart.0 marks i || all_later b acked others apart.1 marks i

    -- pins of different GSIs, acknowledged one after another, reach what the board before the first tells
    pub acknowledges_are_now : (acked : List Pin) (b : Board) → AllApart acked → MarksResamplers routing shape b → of_acknowledge_each routing shape b acked q ≡ of_acknowledges_now routing shape b acked q
    acknowledges_are_now [] b apart marks = refl
    acknowledges_are_now (pin ∷ others) b apart marks = λ i.
        acknowledge_is_now routing shape b pin q marks i
        || (acknowledges_are_now others (board_by (acknowledge routing shape pin) b) apart.1 (subst (λ r. (gsi : ℕ) → has_resampler r.irqfds gsi ≡ true → routing.marked gsi ≡ true) (sym (acknowledge_tells routing shape b.registry pin b [] refl).left) marks) ∙ all_later b pin others apart.0 marks) i
