-- What an allowed call reaches is there: no local APIC past those of the shape.
use Rattle.board_step.proofs.Basics.{◌≡◌, ℕ, zero, suc, ◌<◌, ◌≤◌, Bool, true, false, not, ◌&&◌, ◌||◌, nat_eq, nat_lt, if◌then◌else◌, List, [], ◌∷◌, ◌++◌, Some, None, refl, arith, Option, is_allowed, Call, Caller, Cpu, Space, Pin, Message, MsiWord, Targets, Pic, Lapic, Shape, Raise, Shorthand, TriggerWord, is_port, has_output, cycle, pair_write_to, pair_read_from, raise_of, entry_at, pin_acked, Written, resend_of, is_taken, LocalApic, message_in, tick_injects, Board, part_of, pair_of, IoapicPart, ioapic_of, Routing, numbers_below, only, reached_by, is_of_one, of_message, of_pin, of_answer, of_other, of_fall, tell_concerned, acknowledge, board_by, of_marked, of_resend, of_level, of_acknowledge, of_acknowledge_each, is_ioapic_address, is_lapic_address, pic_pin, cycle_pins, hears_pair, number_of, is_of_processor, LapicEffect as Effect, Field, OwnOnly, AllIncluded as All, Others, reached_by_destination, of_raise, of_gsi, of_counter, does_inject, of_pair, of_written, of_effect, of_ring, of_store, of_load, of_cycle, of_ack, of_call, reach, ReachIsThere, LapicEffect}

-- ---- tests

or_false : (a b : Bool) → a ≡ false → b ≡ false → (a || b) ≡ false
or_false a b h1 h2 = grind arith

and_false : (a b : Bool) → b ≡ false → (a && b) ≡ false
and_false a b h1 = grind arith

if_false : (t a b : Bool) → a ≡ false → b ≡ false → (if t then a else b) ≡ false
if_false t a b h1 h2 = grind arith

-- n is past the processors
module _ (n cpus : ℕ) (far : cpus ≤ n) where
  -- ---- messages

  abbrev Misses : List ℕ → Type 0
  Misses ns = is_of_one ns (Lapic n) ≡ false

  misses_both : (ms ns : List ℕ) → Misses ms → Misses ns → Misses (ms ++ ns)
  misses_both [] ns h k = k
  misses_both (m ∷ ms) ns h k = grind (arith, (misses_both ms ns), h)

  misses_below : (k : ℕ) → k ≤ n → Misses (numbers_below k)
  misses_below zero low = refl
  misses_below (suc k) low = misses_both (numbers_below k) (k ∷ []) (misses_below k (omega arith)) (let e : nat_eq k n ≡ false = grind arith in or_false (nat_eq k n) false e refl)

  misses_only : (m : ℕ) → Misses (only m cpus)
  misses_only m = by_test (nat_lt m cpus) refl
    where
      by_test : (t : Bool) → nat_lt m cpus ≡ t → Misses (if t then m ∷ [] else [])
      by_test true low = or_false (nat_eq m n) false (grind (arith, low, far)) refl
      by_test false low = refl

  misses_destination : (message : Message) → Misses (reached_by_destination message cpus)
  misses_destination message = by_tests message.logical (nat_eq message.dest _)
    where
      by_tests : (s t : Bool) → Misses (if s then numbers_below cpus else if t then numbers_below cpus else only message.dest cpus)
      by_tests true t = misses_below cpus far
      by_tests false true = misses_below cpus far
      by_tests false false = misses_only message.dest

  misses_reached : (message : Message) (from : Option (ℕ × Shorthand)) → Misses (reached_by message from cpus)
  misses_reached message None = misses_destination message
  misses_reached message (Some (sender, Field)) = misses_destination message
  misses_reached message (Some (sender, OwnOnly)) = misses_only sender
  misses_reached message (Some (sender, All)) = misses_below cpus far
  misses_reached message (Some (sender, Others)) = misses_below cpus far

  far_message : (message : Message) (from : Option (ℕ × Shorthand)) → of_message message from cpus (Lapic n) ≡ false
  far_message message from = and_false (is_taken message.mode) _ (misses_reached message from)

  -- ---- signals

  far_answer : (answer : Raise) → of_answer answer cpus (Lapic n) ≡ false
  far_answer (Raise.Send message) = far_message message None
  far_answer _ = refl

  far_other : (b : Board) (pin : Option ℕ) (msi : Option MsiWord) → of_other b pin msi cpus (Lapic n) ≡ false
  far_other b (Some pin) msi = far_answer (raise_of (ioapic_of b.ioapic) pin)
  far_other b None (Some word) = far_message (message_in word.address word.payload) None
  far_other b None None = refl

  far_raise : (b : Board) (targets : Targets) → of_raise b targets cpus (Lapic n) ≡ false
  far_raise b targets = or_false (of_pin targets.pic Pic (Lapic n)) _ (grind arith) (far_other b targets.ioapic targets.msi)

  far_fall : (targets : Targets) → of_fall targets (Lapic n) ≡ false
  far_fall targets = or_false (of_pin targets.pic Pic (Lapic n)) _ (grind arith) (grind arith)

module _ (routing : Routing) (shape : Shape) (n : ℕ) (far : shape.cpus ≤ n) where
  far_gsi : (b : Board) (gsi : ℕ) → of_gsi routing shape b gsi (Lapic n) ≡ false
  far_gsi b gsi = far_raise n shape.cpus far b (routing.targets gsi)

  -- ---- acknowledges

  far_resend : (message : Option Message) → of_resend routing shape message (Lapic n) ≡ false
  far_resend None = refl
  far_resend (Some message) = far_message n shape.cpus far message None

  far_level : (b : Board) (pin : Pin) → of_level routing shape b pin (Lapic n) ≡ false
  far_level b (Pin.Pic pin) = refl
  far_level b (Pin.Ioapic pin) = and_false (entry_at (ioapic_of b.ioapic) pin).level _ (far_resend (resend_of (pin_acked (ioapic_of b.ioapic) pin) pin))

  far_acknowledge : (b : Board) (pin : Pin) → of_acknowledge routing shape b pin (Lapic n) ≡ false
  far_acknowledge b pin =
      let gsi = routing.gsi_of pin in
      or_false (of_marked routing shape gsi (Lapic n)) _ (grind arith)
      (or_false _ _ (far_level (board_by (tell_concerned routing gsi) b) pin) (grind (arith, and_false, far_gsi)))

  far_each : (b : Board) (acked : List Pin) → of_acknowledge_each routing shape b acked (Lapic n) ≡ false
  far_each b [] = refl
  far_each b (pin ∷ acked) = or_false (of_acknowledge routing shape b pin (Lapic n)) _ (far_acknowledge b pin) (far_each (board_by (acknowledge routing shape pin) b) acked)

  -- ---- calls

  far_counter : (b : Board) (trigger : Option TriggerWord) → of_counter of_acknowledge_each routing shape b trigger (Lapic n) ≡ false
  far_counter b trigger = grind (arith, far_gsi)

  far_pair : (b : Board) (len : ℕ) (pin : Option ℕ) → of_pair of_acknowledge_each routing shape b len pin (Lapic n) ≡ false
  far_pair b len pin = and_false (nat_eq len 1) _ (far_each b (pic_pin pin))

  far_written : (part : IoapicPart) (written : Written) → of_written of_acknowledge_each routing shape part written (Lapic n) ≡ false
  far_written part written = grind (arith, far_resend)

  far_ring : (b : Board) (space : Space) (address len value : ℕ) → of_ring of_acknowledge_each routing shape b space address len value (Lapic n) ≡ false
  far_ring b space address len value = grind (arith, far_counter)

  far_cycle : (b : Board) → of_cycle of_acknowledge_each routing shape b (Lapic n) ≡ false
  far_cycle b = far_each b (cycle_pins (cycle (pair_of b.pic)).pins)

  module _ (m : ℕ) (own : nat_eq m n ≡ false) where
    far_effect : (b : Board) (effect : Effect) → of_effect of_acknowledge_each routing shape b m effect (Lapic n) ≡ false
    far_effect b LapicEffect.Plain = refl
    far_effect b (LapicEffect.Ended vector) = grind (arith, far_each)
    far_effect b (LapicEffect.Send ipi) = far_message n shape.cpus far ipi.message (Some (m, ipi.to))

    far_store : (b : Board) (address len value : ℕ) → of_store of_acknowledge_each routing shape b m address len value (Lapic n) ≡ false
    far_store b address len value = grind (arith, if_false, and_false, far_written, or_false, far_effect, far_ring)

    far_load : (address : ℕ) → of_load of_acknowledge_each routing shape m address (Lapic n) ≡ false
    far_load address = if_false (is_ioapic_address address) _ _ refl (if_false (is_lapic_address address) _ _ own refl)

    far_ack : (b : Board) (apic : LocalApic) → of_ack of_acknowledge_each routing shape b m apic (Lapic n) ≡ false
    far_ack b apic = or_false (nat_eq m n) _ own (and_false (not apic.nmi && hears_pair m apic) _ (and_false (has_output (pair_of b.pic)) _ (far_cycle b)))

  far_release : (b : Board) (gsi : ℕ) (t : Bool) → (t && of_fall (routing.targets gsi) (Lapic n)) ≡ false
  far_release b gsi t = and_false t _ (far_fall n shape.cpus far (routing.targets gsi))

  far_call : (b : Board) (m : ℕ) (call : Call) → (is_of_processor call ≡ true → nat_eq m n ≡ false) → of_call of_acknowledge_each routing shape b m call (Lapic n) ≡ false
  far_call b m (Call.Line gsi line true) own = far_gsi b gsi
  far_call b m (Call.Line gsi line false) own = far_fall n shape.cpus far (routing.targets gsi)
  far_call b m (Call.Msi address payload) own = far_message n shape.cpus far (message_in address payload) None
  far_call b m (Call.Write counter count) own = grind (arith, and_false, far_gsi)
  far_call b m (Call.Assign trigger gsi resample) own = and_false (does_inject of_acknowledge_each routing shape b trigger resample) _ (far_gsi b gsi)
  far_call b m (Call.Deassign trigger gsi) own = far_release b gsi _
  far_call b m Call.Tick own = and_false (tick_injects b.tick) _ (far_gsi b shape.tick)
  far_call b m (Call.PortOut port len value) own = if_false (is_port port) _ _ (far_pair b len (pair_write_to (pair_of b.pic) port value).pin) (far_ring b Space.Port port len value)
  far_call b m (Call.PortIn port len) own = if_false (is_port port) _ _ (far_pair b len (pair_read_from (pair_of b.pic) port).pin) refl
  far_call b m (Call.Store address len value) own = far_store m (own refl) b address len value
  far_call b m (Call.Load address len) own = far_load m (own refl) address
  far_call b m Call.Ack own = far_ack m (own refl) b (part_of b (Lapic m))
  far_call b m Call.Inta own = far_cycle b
  far_call b m Call.Eoi own = or_false (nat_eq m n) _ (own refl) (grind (arith, far_each))
  far_call b m _ own = refl

-- ---- callers

both_true : (a b : Bool) → (a && b) ≡ true → (a ≡ true) × (b ≡ true)
both_true a b h1 = grind arith

processor_there : (m : ℕ) (call : Call) (shape : Shape) → is_allowed (Cpu m) call shape ≡ true → nat_lt m shape.cpus ≡ true
processor_there m call shape h1 = grind arith

own_is_there : (caller : Caller) (call : Call) (shape : Shape) (n : ℕ) → shape.cpus ≤ n → is_allowed caller call shape ≡ true → is_of_processor call ≡ true → nat_eq (number_of caller) n ≡ false
own_is_there caller call shape n h1 h2 h3 = grind arith

pub reach_is_there : ReachIsThere
reach_is_there b caller call n allowed within = by_test (nat_lt n b.shape.cpus) refl
  where
    beyond : b.shape.cpus ≤ n → reach b caller call (Lapic n) ≡ false
    beyond h1 = grind (arith, and_false, far_call, own_is_there)

    by_test : (t : Bool) → nat_lt n b.shape.cpus ≡ t → n < b.shape.cpus
    by_test t h1 = grind (arith, beyond)
