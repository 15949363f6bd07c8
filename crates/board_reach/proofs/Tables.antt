-- What a call reaches is told by the board before it.
use Rattle.board_reach.proofs.Basics.{◌≡◌, ℕ, ◌+◌, Bool, true, false, cond, not, ◌&&◌, ◌||◌, nat_eq, if◌then◌else◌, List, [], ◌∷◌, ◌++◌, map, filter, refl, sym, ap, ◌∙◌, subst, true≢false, arith, Some, None, is_some, list_all, unsigned_Decides, Option, nat_tests, first_of, Call, Caller, Space, Pin, Part, Registry, Pic, Ioapic, Shape, Pair, Slave, IoapicChip, TriggerWord, top_of, level_acknowledged, slave_pin, master_top, acked_pins, slave_cycle, cycle_by, cycle, has_vector, has_watch, Table, targets_of, has_pin, gsi_of, Board, is_same, pair_of, IoapicPart, ioapic_of, IsSoundTable, IsSoundRegistry, Routing, routing_of_registry, of_acknowledge_each, range_reasons, all_pins, pins_with, pic_pin, cycle_pins, number_of, LapicEffect as Effect, sound_of, gsi_of_pin, reach, of_acknowledges_now, reach_now, ReachIsNow}
use Rattle.board_step.specs.Reach as table
use Rattle.board_step.proofs.CountingPins.{gsi_has_pin}
use Rattle.board_reach.proofs.Pins.{MarksResamplers}
use Rattle.board_reach.proofs.Lists.{TellsPins, Apart, EachApart, AllApart, acknowledges_are_now}

-- ---- the routing of a sound registry

made_only : (t : Table) → IsSoundTable t → (pin : Pin) (gsi : ℕ) → has_pin pin (targets_of t gsi) ≡ true → gsi_of t pin ≡ Some gsi
made_only t sound pin gsi =
    let (rows, kept, is) = sound.made in
    subst (λ (u : Table). has_pin pin (targets_of u gsi) ≡ true → gsi_of u pin ≡ Some gsi) (sym is) (gsi_of_pin rows (sound_of rows kept) pin gsi)

marks_resamplers : (b : Board) → MarksResamplers (routing_of_registry b.registry b.shape.tick) b.shape b
marks_resamplers b gsi has = ap (λ t. t || (has_watch b.registry.watches gsi || nat_eq gsi b.shape.tick)) has

-- ---- the pins of one call

module _ (routing : Routing) (shape : Shape) (tells : TellsPins routing shape) where
  both_ways : {P : Type 0} (a c : ℕ) → nat_eq a c ≡ false → nat_eq a c ≡ true → P
  both_ways a c other same = absurd (true≢false (sym same ∙ other))

  ioapic_apart : (a c : ℕ) → nat_eq a c ≡ false → Apart routing shape (Pin.Ioapic a) (Pin.Ioapic c)
  ioapic_apart a c other = record {
    differ = λ same. both_ways a c other ((unsigned_Decides a c).1 (number a c same));
    gsis = λ gsi h k. both_ways a c other (grind (arith, (tells.own (Pin.Ioapic a) gsi h), (tells.own (Pin.Ioapic c) gsi k)));
  }
    where
      number : (a c : ℕ) → Pin.Ioapic a ≡ Pin.Ioapic c → a ≡ c
      number a c e = cc

  pic_apart : (a c : ℕ) → nat_eq a c ≡ false → Apart routing shape (Pin.Pic a) (Pin.Pic c)
  pic_apart a c other = record {
    differ = λ same. both_ways a c other ((unsigned_Decides a c).1 (number a c same));
    gsis = λ gsi h k. both_ways a c other (grind (arith, (tells.own (Pin.Pic a) gsi h), (tells.own (Pin.Pic c) gsi k)));
  }
    where
      number : (a c : ℕ) → Pin.Pic a ≡ Pin.Pic c → a ≡ c
      number a c e = cc

  -- ---- the pins of the I/O APIC with one vector

  abbrev are_others : ℕ → List ℕ → Bool
  are_others a ns = list_all (λ c. not (nat_eq a c)) ns

  abbrev all_differ : List ℕ → Bool
  all_differ [] = true
  all_differ (n ∷ ns) = are_others n ns && all_differ ns

  first_of_both : (a c : Bool) → (a && c) ≡ true → a ≡ true
  first_of_both a c h1 = grind arith

  second_of_both : (a c : Bool) → (a && c) ≡ true → c ≡ true
  second_of_both a c h1 = grind arith

  module _ (f : ℕ → Bool) where
    each_apart : (a : ℕ) (ns : List ℕ) → are_others a ns ≡ true → EachApart routing shape (Pin.Ioapic a) (map Pin.Ioapic (filter f ns))
    each_apart a [] h = tt
    each_apart a (n ∷ ns) h =
        let rest = each_apart a ns (second_of_both (not (nat_eq a n)) (are_others a ns) h) in
        elim (f n) as (λ t. EachApart routing shape (Pin.Ioapic a) (map Pin.Ioapic (cond t (n ∷ filter f ns) (filter f ns)))) [
          | true ↦ (ioapic_apart a n (grind (arith, (first_of_both (not (nat_eq a n)) (are_others a ns) h))), rest)
          | false ↦ rest
        ]

    all_apart : (ns : List ℕ) → all_differ ns ≡ true → AllApart routing shape (map Pin.Ioapic (filter f ns))
    all_apart [] h = tt
    all_apart (n ∷ ns) h =
        let rest = all_apart ns (second_of_both (are_others n ns) (all_differ ns) h) in
        elim (f n) as (λ t. AllApart routing shape (map Pin.Ioapic (cond t (n ∷ filter f ns) (filter f ns)))) [
          | true ↦ (each_apart n ns (first_of_both (are_others n ns) (all_differ ns) h), rest)
          | false ↦ rest
        ]

  vector_apart : (io : IoapicChip) (vector : ℕ) → AllApart routing shape (pins_with io vector)
  unfolding all_pins
  vector_apart io vector = all_apart (λ pin. has_vector io pin vector) all_pins refl

  -- ---- the pins of the pair

  pin_apart : (pin : Option ℕ) → AllApart routing shape (pic_pin pin)
  pin_apart None = tt
  pin_apart (Some pin) = (tt, tt)

  both_apart : (master slave : Bool) (t s : ℕ) → nat_eq t 2 ≡ true → AllApart routing shape (pic_pin (if master then Some t else None) ++ pic_pin (slave_pin (if slave then Some s else None)))
  both_apart true true t s is = ((pic_apart t (8 + s) (grind (arith, nat_tests, is)), tt), (tt, tt))
  both_apart true false t s is = (tt, tt)
  both_apart false true t s is = (tt, tt)
  both_apart false false t s is = tt

  master_apart : (master : Bool) (t : ℕ) → AllApart routing shape (pic_pin (if master then Some t else None) ++ [])
  master_apart true t = (tt, tt)
  master_apart false t = tt

  cycle_apart : (p : Pair) → AllApart routing shape (cycle_pins (cycle p).pins)
  cycle_apart p = by_master (master_top p)
    where
      by_slave : (t : ℕ) → nat_eq t 2 ≡ true → (slave : Option ℕ) → AllApart routing shape (cycle_pins (slave_cycle slave (record p { master = (level_acknowledged p.master t).after }) (level_acknowledged p.master t).pin).pins)
      by_slave t is None = master_apart p.master.auto_eoi t
      by_slave t is (Some s) = both_apart p.master.auto_eoi p.slave.auto_eoi t s is

      by_master : (top : Option ℕ) → AllApart routing shape (cycle_pins (cycle_by top p).pins)
      by_master None = tt
      by_master (Some t) = elim (nat_eq t 2) as (λ is. nat_eq t 2 ≡ is → AllApart routing shape (cycle_pins (if is then slave_cycle (top_of p.slave Slave) (record p { master = (level_acknowledged p.master t).after }) (level_acknowledged p.master t).pin else record {
        after = record p { master = (level_acknowledged p.master t).after };
        vector = p.master.base + t;
        pins = acked_pins (level_acknowledged p.master t).pin None;
      }).pins)) [
        | true ↦ λ is. by_slave t is (top_of p.slave Slave)
        | false ↦ λ _. master_apart p.master.auto_eoi t
      ] refl

-- ---- the table by both rows

module _ (routing : Routing) (shape : Shape) (tells : TellsPins routing shape) (b : Board) (marks : MarksResamplers routing shape b) (q : Part) where
  acks_now : (acked : List Pin) → AllApart routing shape acked → of_acknowledge_each routing shape b acked q ≡ of_acknowledges_now routing shape b acked q
  acks_now acked apart = acknowledges_are_now routing shape tells q acked b apart marks

  end_now : (vector : Option ℕ) → table.of_end of_acknowledge_each routing shape b vector q ≡ table.of_end of_acknowledges_now routing shape b vector q
  end_now None = refl
  end_now (Some vector) = ap (λ t. is_same Ioapic q || t) (acks_now (pins_with (ioapic_of b.ioapic) vector) (vector_apart routing shape tells (ioapic_of b.ioapic) vector))

  pair_now : (len : ℕ) (pin : Option ℕ) → table.of_pair of_acknowledge_each routing shape b len pin q ≡ table.of_pair of_acknowledges_now routing shape b len pin q
  pair_now len pin = ap (λ t. is_same Pic q || (nat_eq len 1 && t)) (acks_now (pic_pin pin) (pin_apart routing shape tells pin))

  counter_now : (trigger : Option TriggerWord) → table.of_counter of_acknowledge_each routing shape b trigger q ≡ table.of_counter of_acknowledges_now routing shape b trigger q
  counter_now trigger = grind arith

  ring_now : (space : Space) (address len value : ℕ) → table.of_ring of_acknowledge_each routing shape b space address len value q ≡ table.of_ring of_acknowledges_now routing shape b space address len value q
  ring_now space address len value = ap (λ t. is_same Registry q || t) (grind arith)

  written_now : (part : IoapicPart) (after : IoapicChip) (pin : Option ℕ) → table.of_written of_acknowledge_each routing shape part (record { after = after; pin = pin }) q ≡ table.of_written of_acknowledges_now routing shape part (record { after = after; pin = pin }) q
  written_now part after pin = grind arith

  effect_now : (n : ℕ) (effect : Effect) → table.of_effect of_acknowledge_each routing shape b n effect q ≡ table.of_effect of_acknowledges_now routing shape b n effect q
  effect_now n effect = grind (arith, end_now)

  store_now : (n address len value : ℕ) → table.of_store of_acknowledge_each routing shape b n address len value q ≡ table.of_store of_acknowledges_now routing shape b n address len value q
  store_now n address len value = grind (arith, written_now, effect_now, ring_now)

  call_now : (n : ℕ) (call : Call) → table.of_call of_acknowledge_each routing shape b n call q ≡ table.of_call of_acknowledges_now routing shape b n call q
  call_now n call = grind (arith, pair_now, ring_now, store_now, (acks_now (cycle_pins (cycle (pair_of b.pic)).pins) (cycle_apart routing shape tells (pair_of b.pic))), end_now)

-- where the registry is sound
pub reach_by_registry : (b : Board) (caller : Caller) (call : Call) (q : Part) → IsSoundRegistry b.registry b.shape.tick → reach b caller call q ≡ reach_now b caller call q
reach_by_registry b caller call q sound =
    ap (λ t. not (is_some (first_of (range_reasons b.shape call))) && t)
    (call_now (routing_of_registry b.registry b.shape.tick) b.shape (record { own = λ pin gsi. gsi_has_pin b.registry.table pin gsi; only = λ pin gsi. made_only b.registry.table sound.table pin gsi }) b (marks_resamplers b) q (number_of caller) call)

pub reach_is_now : ReachIsNow
reach_is_now b caller call q sound = reach_by_registry b caller call q sound.registry
