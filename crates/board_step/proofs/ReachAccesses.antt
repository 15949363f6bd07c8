-- What accesses of the guest reach is what the table says, whatever is wished.
use Rattle.board_step.proofs.Basics.{arith, ◌≡◌, ℕ, Bool, true, false, cond, not, ◌&&◌, ◌||◌, nat_eq, ◌-◌, if◌then◌else◌, List, [], ◌∷◌, refl, ap, ◌∙◌, Some, None, true≢false, sym, is_some, list_all, Option, greatest_vector, Space, Pin, Source, Refusal, Reply, Done, Value, Exit, Part, Registry, Counters, Pic, Ioapic, Lapic, Shape, Pair, IoapicChip, LapicEffect, TriggerWord, Effect, Read, is_port, pair_write_to, pair_read_from, Written, write_to, resend_of, LocalApic, register_at, without_service, stored_at, store_effect, store_to, rung_by, Board, part_of, with_part, is_same, PicPart, pair_of, with_pair, IoapicPart, ioapic_of, with_ioapic, Routing, TargetAnswer, About, injected, ipi, Plan, done, reply, ◌>>=◌, ◌>>◌, Wishes, reaches, send, inject, acknowledge_each, is_ioapic_address, is_lapic_address, unless_refused, source_of, pins_with, end_vector, pic_pin, drop, ◌==◌, find, row_for, all_registers, ended, effect_at, reaches-bind, or_false, sends_reach, signals_reach_the_same, heard_of, Alike, alike_lapic, each_same, twice, resend_reach, each_reach, Call}
use Rattle.board_step.proofs.Basics.acks
use Rattle.board_step.specs.Reach as table
use Rattle.board_calls.specs.Accesses as accesses

-- ---- what is found in a list

-- P holds of each element
Each : {X : Type 0} → (X → Type 0) → List X → Type 0
Each P [] = Unit {0}
Each P (x ∷ xs) = P x × Each P xs

-- it holds of each where a test tells it of each
each_passing : {X : Type 0} (P : X → Type 0) (t : X → Bool) → ((x : X) → t x ≡ true → P x) → (xs : List X) → list_all t xs ≡ true → Each P xs
unfolding Each
each_passing P t told [] pass = tt
each_passing P t told (x ∷ xs) pass = (told x (first (t x) (list_all t xs) pass), each_passing P t told xs (grind (arith, pass)))
  where
    first : (a b : Bool) → (a && b) ≡ true → a ≡ true
    first true b h = refl
    first false b h = h

-- it holds of the one that is found, or of none
found_all : {X : Type 0} (P : Option X → Type 0) (p : X → Bool) (xs : List X) → P None → Each (λ x. P (Some x)) xs → P (find p xs)
unfolding Each
found_all P p [] none each = none
found_all P p (x ∷ xs) none each = elim (p x) as (λ t. P (cond t (Some x) (find p xs))) [ true ↦ each.0 | false ↦ found_all P p xs none each.1 ]

-- ---- stores to the local APIC

less_service : (a : LocalApic) (vector : Option ℕ) → heard_of (without_service a vector) ≡ heard_of a
less_service a None = refl
less_service a (Some vector) = refl

-- where a store ends a vector, the same messages name the local APIC after it
abbrev HearsAfter : LocalApic → LapicEffect → LocalApic → Type 0
HearsAfter a (LapicEffect.Ended vector) after = heard_of after ≡ heard_of a
HearsAfter a _ after = Unit {0}

-- a store that ends no vector
abbrev ends_none : LapicEffect → Bool
ends_none (LapicEffect.Ended vector) = false
ends_none _ = true

hears_anyhow : (a : LocalApic) (effect : LapicEffect) (after : LocalApic) → ends_none effect ≡ true → HearsAfter a effect after
hears_anyhow a (LapicEffect.Ended vector) after none = absurd (true≢false (sym none))
hears_anyhow a _ after none = tt

-- of all registers the EOI register alone, the fifth, ends a vector
hears_after : (a : LocalApic) (offset value : ℕ) → HearsAfter a (store_effect a offset value) (store_to a offset value)
unfolding register_at all_registers Each
hears_after a offset value =
    found_all (λ register. HearsAfter a (effect_at a register value) (stored_at a register value)) (λ register. (row_for register).offset == offset) all_registers tt
    (tt, (tt, (tt, (tt, (less_service a (greatest_vector a.isr), later)))))
  where
    later : Each (λ register. HearsAfter a (effect_at a (Some register) value) (stored_at a (Some register) value)) (drop 5 all_registers)
    later =
        each_passing (λ register. HearsAfter a (effect_at a (Some register) value) (stored_at a (Some register) value)) (λ register. ends_none (effect_at a (Some register) value))
        (λ register none. hears_anyhow a (effect_at a (Some register) value) (stored_at a (Some register) value) none) (drop 5 all_registers) refl

module _ (q : Part) where
  -- ---- plans in sequence

  abbrev pub over : {A : Type 0} → A → Plan (Unit {0})
  over _ = done tt

  -- a plan whose value is dropped
  pub dropped : {A : Type 0} (m : Plan A) (b : Board) (ws : Wishes) → reaches (m >>= over) b ws q ≡ reaches m b ws q
  dropped m b ws = reaches-bind over m b ws q ∙ or_false _

  -- a plan and then a reply
  pub replied : {A : Type 0} (m : Plan A) (r : Reply) (b : Board) (ws : Wishes) → reaches (m >> reply r) b ws q ≡ reaches m b ws q
  replied m r b ws = reaches-bind (λ _. reply r) m b ws q ∙ or_false _

  pub refused_reach : (r : Option Refusal) (m : Plan (Unit {0})) (b : Board) (ws : Wishes) → reaches (unless_refused r m) b ws q ≡ (not (is_some r) && reaches m b ws q)
  refused_reach None m b ws = refl
  refused_reach (Some refusal) m b ws = refl

  -- a plan that is refused or writes the part that was looked at
  pub within_one : (a : Bool) (r : Option Refusal) (m : Plan (Unit {0})) (b : Board) (ws : Wishes) → reaches m b ws q ≡ (a || false) → (a || reaches (unless_refused r m) b ws q) ≡ a
  within_one true r m b ws same = refl
  within_one false None m b ws same = same
  within_one false (Some refusal) m b ws same = refl

module _ (routing : Routing) (shape : Shape) (q : Part) where
  pub inject_reach : (gsi : ℕ) (source : Source) (about : Option TargetAnswer → About) (b : Board) (ws : Wishes) → reaches (inject shape.cpus (routing.targets gsi) source about) b ws q ≡ acks.of_gsi routing shape b gsi q
  inject_reach gsi source about b ws = (signals_reach_the_same shape.cpus (routing.targets gsi) source about b ws q).injected

  -- ---- accesses to the pair

  -- the pair is written, and pins are acknowledged
  written_reach : (pic : PicPart) (acked : List Pin) (b : Board) (ws : Wishes) → (is_same Pic q || (is_same Pic q || reaches (acknowledge_each routing shape acked) (with_part b Pic pic) ws q))
      ≡ (is_same Pic q || acks.of_acknowledge_each routing shape b acked q)
  written_reach pic acked b ws =
      twice (is_same Pic q) _
      ∙ ap (λ x. is_same Pic q || x) (each_reach routing shape acked (with_part b Pic pic) ws q ∙ each_same routing shape acked (with_part b Pic pic) b q (record { registry = refl; reinjects = refl; pending = refl; ioapic = refl; heard = λ n. refl }))

  -- and then there is a reply
  pub answered_reach : (pic : PicPart) (acked : List Pin) (r : Reply) (b : Board) (ws : Wishes) → (is_same Pic q || (is_same Pic q || reaches (acknowledge_each routing shape acked >> reply r) (with_part b Pic pic) ws q))
      ≡ (is_same Pic q || acks.of_acknowledge_each routing shape b acked q)
  answered_reach pic acked r b ws = ap (λ x. is_same Pic q || (is_same Pic q || x)) (replied q (acknowledge_each routing shape acked) r (with_part b Pic pic) ws) ∙ written_reach pic acked b ws

  pair_write_reach : (port len value : ℕ) (b : Board) (ws : Wishes) → reaches (accesses.pair_write routing shape port len value) b ws q ≡ table.of_pair acks.of_acknowledge_each routing shape b len (pair_write_to (pair_of b.pic) port value).pin q
  pair_write_reach port len value b ws =
      ap (λ x. is_same Pic q || x) (replied q (if nat_eq len 1 then accesses.pair_written routing shape b.pic effect else done tt) Done b ws)
      ∙ (elim (nat_eq len 1) as (λ t. (is_same Pic q || reaches (if t then accesses.pair_written routing shape b.pic effect else done tt) b ws q) ≡ (is_same Pic q || (t && acks.of_acknowledge_each routing shape b (pic_pin effect.pin) q))) [
        | true ↦ written_reach (with_pair b.pic effect.after) (pic_pin effect.pin) b ws
        | false ↦ refl
      ])
    where
      effect : Effect Pair
      effect = pair_write_to (pair_of b.pic) port value

  pair_read_reach : (port len : ℕ) (b : Board) (ws : Wishes) → reaches (accesses.pair_read routing shape port len) b ws q ≡ table.of_pair acks.of_acknowledge_each routing shape b len (pair_read_from (pair_of b.pic) port).pin q
  pair_read_reach port len b ws = elim (nat_eq len 1) as (λ t. (is_same Pic q || reaches (if t then accesses.pair_gave routing shape b.pic gave else reply (Value 0)) b ws q) ≡ (is_same Pic q || (t && acks.of_acknowledge_each routing shape b (pic_pin gave.pin) q))) [
    | true ↦ answered_reach (with_pair b.pic gave.after) (pic_pin gave.pin) (Value gave.value) b ws
    | false ↦ refl
  ]
    where
      gave : Read Pair
      gave = pair_read_from (pair_of b.pic) port

  -- ---- writes to no chip

  counter_reach : (counter : ℕ) (trigger : Option TriggerWord) (b : Board) (ws : Wishes) → reaches (accesses.ring_counter routing shape counter trigger) b ws q ≡ table.of_counter acks.of_acknowledge_each routing shape b trigger q
  counter_reach counter None b ws = twice (is_same Counters q) false ∙ or_false _
  counter_reach counter (Some trigger) b ws =
      dropped q (inject shape.cpus (routing.targets trigger.gsi) (source_of trigger.resample) (λ pic. injected trigger.gsi pic)) b ws
      ∙ inject_reach trigger.gsi (source_of trigger.resample) (λ pic. injected trigger.gsi pic) b ws

  rung_reach : (rung : Option ℕ) (b : Board) (ws : Wishes) → reaches (accesses.rung routing shape rung) b ws q ≡ table.of_rung acks.of_acknowledge_each routing shape b rung q
  rung_reach None b ws = refl
  rung_reach (Some counter) b ws = replied q (accesses.ring_counter routing shape counter (routing.trigger counter)) Done b ws ∙ counter_reach counter (routing.trigger counter) b ws

  ring_reach : (space : Space) (address len value : ℕ) (b : Board) (ws : Wishes) → reaches (accesses.ring routing shape space address len value) b ws q ≡ table.of_ring acks.of_acknowledge_each routing shape b space address len value q
  ring_reach space address len value b ws = ap (λ x. is_same Registry q || x) (rung_reach (rung_by b.registry.ioevents space address len value) b ws)

  pub port_out_reach : (port len value n : ℕ) (b : Board) (ws : Wishes) → reaches (accesses.port_out routing shape port len value) b ws q ≡ table.of_call acks.of_acknowledge_each routing shape b n (Call.PortOut port len value) q
  port_out_reach port len value n b ws = elim (is_port port) as (λ t. reaches (if t then accesses.pair_write routing shape port len value else accesses.ring routing shape Space.Port port len value) b ws q
      ≡ (if t then table.of_pair acks.of_acknowledge_each routing shape b len (pair_write_to (pair_of b.pic) port value).pin q else table.of_ring acks.of_acknowledge_each routing shape b Space.Port port len value q)) [
        | true ↦ pair_write_reach port len value b ws
        | false ↦ ring_reach Space.Port port len value b ws
      ]

  pub port_in_reach : (port len n : ℕ) (b : Board) (ws : Wishes) → reaches (accesses.port_in routing shape port len) b ws q ≡ table.of_call acks.of_acknowledge_each routing shape b n (Call.PortIn port len) q
  port_in_reach port len n b ws = elim (is_port port) as (λ t. reaches (if t then accesses.pair_read routing shape port len else reply Exit) b ws q
      ≡ (if t then table.of_pair acks.of_acknowledge_each routing shape b len (pair_read_from (pair_of b.pic) port).pin q else false)) [
        | true ↦ pair_read_reach port len b ws
        | false ↦ refl
      ]

  -- ---- accesses to the I/O APIC

  pin_written_reach : (part : IoapicPart) (after : IoapicChip) (pin : Option ℕ) (b : Board) (ws : Wishes)
      → (is_same Ioapic q || reaches (accesses.resend_written shape pin) (with_part b Ioapic (with_ioapic part after)) ws q) ≡ (is_same Ioapic q || table.of_written acks.of_acknowledge_each routing shape part (record { after = after; pin = pin }) q)
  pin_written_reach part after None b ws = refl
  pin_written_reach part after (Some pin) b ws =
      twice (is_same Ioapic q) _
      ∙ resend_reach routing shape q pin (resend_of (ioapic_of (with_ioapic part after)) pin) (with_part b Ioapic (with_ioapic part after)) ws

  ioapic_store_reach : (offset len value : ℕ) (b : Board) (ws : Wishes) → reaches (accesses.ioapic_store shape offset len value) b ws q
      ≡ (is_same Ioapic q || (nat_eq len 4 && table.of_written acks.of_acknowledge_each routing shape b.ioapic (write_to (ioapic_of b.ioapic) offset value) q))
  ioapic_store_reach offset len value b ws =
      ap (λ x. is_same Ioapic q || x) (replied q (if nat_eq len 4 then accesses.ioapic_written shape b.ioapic written else done tt) Done b ws)
      ∙ (elim (nat_eq len 4) as (λ t. (is_same Ioapic q || reaches (if t then accesses.ioapic_written shape b.ioapic written else done tt) b ws q) ≡ (is_same Ioapic q || (t && table.of_written acks.of_acknowledge_each routing shape b.ioapic written q))) [
        | true ↦ twice (is_same Ioapic q) _ ∙ pin_written_reach b.ioapic written.after written.pin b ws
        | false ↦ refl
      ])
    where
      written : Written
      written = write_to (ioapic_of b.ioapic) offset value

  -- ---- accesses to the local APIC

  pub end_same : (b c : Board) (vector : Option ℕ) (q : Part) → Alike b c → table.of_end acks.of_acknowledge_each routing shape b vector q ≡ table.of_end acks.of_acknowledge_each routing shape c vector q
  end_same b c None q h = refl
  end_same b c (Some vector) q h =
      ap (λ r. is_same Ioapic q || r) (ap (λ part. acks.of_acknowledge_each routing shape b (pins_with (ioapic_of part) vector) q) h.ioapic ∙ each_same routing shape (pins_with (ioapic_of c.ioapic) vector) b c q h)

  pub end_reach : (vector : Option ℕ) (b : Board) (ws : Wishes) (q : Part) → reaches (end_vector routing shape vector) b ws q ≡ table.of_end acks.of_acknowledge_each routing shape b vector q
  end_reach None b ws q = refl
  end_reach (Some vector) b ws q = ap (λ r. is_same Ioapic q || r) (each_reach routing shape (pins_with (ioapic_of b.ioapic) vector) b ws q)

  -- the end of a vector, once the greatest went out of service
  pub ended_reach : (n : ℕ) (vector : Option ℕ) (b : Board) (ws : Wishes)
      → reaches (end_vector routing shape vector) (with_part b (Lapic n) (ended (part_of b (Lapic n)))) ws q ≡ table.of_end acks.of_acknowledge_each routing shape b vector q
  ended_reach n vector b ws =
      end_reach vector (with_part b (Lapic n) (ended (part_of b (Lapic n)))) ws q
      ∙ end_same (with_part b (Lapic n) (ended (part_of b (Lapic n)))) b vector q (alike_lapic b n (ended (part_of b (Lapic n))) (less_service (part_of b (Lapic n)) (greatest_vector (part_of b (Lapic n)).isr)))

  effect_reach : (n : ℕ) (effect : LapicEffect) (after : LocalApic) (b : Board) (ws : Wishes) → HearsAfter (part_of b (Lapic n)) effect after
      → reaches (accesses.store_effects routing shape n effect) (with_part b (Lapic n) after) ws q ≡ table.of_effect acks.of_acknowledge_each routing shape b n effect q
  effect_reach n LapicEffect.Plain after b ws hears = refl
  effect_reach n (LapicEffect.Ended vector) after b ws hears =
      end_reach vector (with_part b (Lapic n) after) ws q ∙ end_same (with_part b (Lapic n) after) b vector q (alike_lapic b n after hears)
  effect_reach n (LapicEffect.Send message) after b ws hears =
      dropped q (send shape.cpus message.message (Some (n, message.to)) ipi) (with_part b (Lapic n) after) ws
      ∙ sends_reach shape.cpus message.message (Some (n, message.to)) ipi (with_part b (Lapic n) after) ws q

  lapic_store_reach : (n offset len value : ℕ) (b : Board) (ws : Wishes) → reaches (accesses.lapic_store routing shape n offset len value) b ws q
      ≡ (is_same (Lapic n) q || (nat_eq len 4 && table.of_effect acks.of_acknowledge_each routing shape b n (store_effect (part_of b (Lapic n)) offset value) q))
  lapic_store_reach n offset len value b ws =
      ap (λ x. is_same (Lapic n) q || x) (replied q (if nat_eq len 4 then stored else done tt) Done b ws)
      ∙ (elim (nat_eq len 4) as (λ t. (is_same (Lapic n) q || reaches (if t then stored else done tt) b ws q) ≡ (is_same (Lapic n) q || (t && table.of_effect acks.of_acknowledge_each routing shape b n (store_effect (part_of b (Lapic n)) offset value) q))) [
        | true ↦ twice (is_same (Lapic n) q) _ ∙ ap (λ x. is_same (Lapic n) q || x) (effect_reach n (store_effect (part_of b (Lapic n)) offset value) (store_to (part_of b (Lapic n)) offset value) b ws (hears_after (part_of b (Lapic n)) offset value))
        | false ↦ refl
      ])
    where
      stored : Plan (Unit {0})
      stored = accesses.lapic_stored routing shape n (store_to (part_of b (Lapic n)) offset value) (store_effect (part_of b (Lapic n)) offset value)

  -- ---- accesses to memory

  pub store_reach : (n address len value : ℕ) (b : Board) (ws : Wishes) → reaches (accesses.store routing shape n address len value) b ws q ≡ table.of_store acks.of_acknowledge_each routing shape b n address len value q
  store_reach n address len value b ws = elim (is_ioapic_address address) as (λ t. reaches (if t then accesses.ioapic_store shape (address - 0xfec00000) len value else (if is_lapic_address address then accesses.lapic_store routing shape n (address - 0xfee00000) len value else accesses.ring routing shape Space.Memory address len value)) b ws q
      ≡ (if t then is_same Ioapic q || (nat_eq len 4 && table.of_written acks.of_acknowledge_each routing shape b.ioapic (write_to (ioapic_of b.ioapic) (address - 0xfec00000) value) q) else of_others)) [
        | true ↦ ioapic_store_reach (address - 0xfec00000) len value b ws
        | false ↦ elim (is_lapic_address address) as (λ t. reaches (if t then accesses.lapic_store routing shape n (address - 0xfee00000) len value else accesses.ring routing shape Space.Memory address len value) b ws q
            ≡ (if t then is_same (Lapic n) q || (nat_eq len 4 && table.of_effect acks.of_acknowledge_each routing shape b n (store_effect (part_of b (Lapic n)) (address - 0xfee00000) value) q) else table.of_ring acks.of_acknowledge_each routing shape b Space.Memory address len value q)) [
              | true ↦ lapic_store_reach n (address - 0xfee00000) len value b ws
              | false ↦ ring_reach Space.Memory address len value b ws
            ]
      ]
    where
      of_others : Bool
      of_others = if is_lapic_address address then is_same (Lapic n) q || (nat_eq len 4 && table.of_effect acks.of_acknowledge_each routing shape b n (store_effect (part_of b (Lapic n)) (address - 0xfee00000) value) q)
          else table.of_ring acks.of_acknowledge_each routing shape b Space.Memory address len value q

  pub load_reach : (n address len : ℕ) (b : Board) (ws : Wishes) → reaches (accesses.load n address len) b ws q ≡ table.of_load acks.of_acknowledge_each routing shape n address q
  load_reach n address len b ws = by_tests (is_ioapic_address address) (is_lapic_address address)
    where
      by_tests : (s t : Bool) → reaches (if s then accesses.ioapic_load (address - 0xfec00000) len else if t then accesses.lapic_load n (address - 0xfee00000) len else reply Exit) b ws q
          ≡ (if s then is_same Ioapic q else if t then is_same (Lapic n) q else false)
      by_tests true t = or_false (is_same Ioapic q)
      by_tests false true = or_false (is_same (Lapic n) q)
      by_tests false false = refl
