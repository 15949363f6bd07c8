-- An irqfd that ends, and a routing table that is replaced, lead from a sound board to one.
use Rattle.board_step.proofs.Basics.{◌≡◌, ◌≢◌, ℕ, Bool, true, false, true≢false, not, ◌&&◌, inl, inr, List, filter, All, Some, None, refl, sym, ap, subst, ◌∙◌, IsTrue, AllPairs, is_some, list_any, unsigned_Decides, Option, eqb_tells, All-filter, All-weaker, AllPairs-filter, Row, Pin, Resample, Removed, Shape, Irqfd, Hold, Holds, hold, has_trigger, is_named, has_resampler, named_row, without_row, has_counter, table_of, targets_of, refusal_of, gsi_of, RegistryPart, routing_of_registry, IsSoundIrqfd, Board, reply, ◌>>◌, Wishes, run, IrqfdFits, let_go_pic, let_go_ioapic, is_trigger, has_resample, is_signalled, was_last_resampler, release, deassigned, deassign, kept_holds, reroute, is_same_pin as is_same, PayloadFits, is_same_gsi, keeps_gsi, HasResampler, ResamplersHold, HoldsStand, Part, contains, remove}
use Rattle.board_step.proofs.SoundHolds.{was_held, not_removed, retained}
use Rattle.board_step.proofs.SoundPlans.{Each}
use Rattle.board_step.proofs.SoundRegistry.{RegistryFine, IsMade, target_of_gsi}
use Rattle.board_step.proofs.SoundRows.{or_neither, or_both, any_fewer, none_fewer, named_gsi, resampler_stays, resamplers_stay}
use Rattle.board_step.proofs.SoundChanges.{Whole, moved}
use Rattle.board_step.proofs.SoundTable.{table_is_sound}

-- ---- an irqfd ends

-- the holds after Resample let the pin go, if there is one
abbrev pub freed : Holds → Option ℕ → Holds
freed holds None = holds
freed holds (Some pin) = remove holds (hold pin Resample)

pub freed_run : (pic ioapic : Option ℕ) (b : Board) (ws : Wishes) →
    (run ((let_go_pic pic Resample >> let_go_ioapic ioapic Resample) >> reply (Removed 1)) b ws).board ≡ record b { pic = record b.pic { holds = freed b.pic.holds pic }; ioapic = record b.ioapic { holds = freed b.ioapic.holds ioapic } }
freed_run None None b ws = refl
freed_run (Some p) None b ws = refl
freed_run _ _ b ws = refl

freed_held : (holds : Holds) (pin : Option ℕ) (h : Hold) → IsTrue (contains (freed holds pin) h) → IsTrue (contains holds h)
freed_held holds None h held = held
freed_held holds (Some pin) h held = was_held holds (hold pin Resample) h held

is_one : (o : Option ℕ) (n : ℕ) → is_same o (Some n) ≡ true → o ≡ Some n
is_one None n e = absurd (true≢false (sym e))
is_one (Some k) n e = ap Some ((unsigned_Decides k n).0 e)

-- Resample holds for resamplers where it left the pin of the GSI, and other GSIs keep their resamplers
pub freed_for : (r s : RegistryPart) (holds : Holds) (chip : ℕ → Pin) (pin : Option ℕ) (gsi : ℕ) → ResamplersHold r holds chip → ((n : ℕ) → gsi_of r.table (chip n) ≡ Some gsi → pin ≡ Some n) → ((n : ℕ) (h : HasResampler r (chip n)) → h.gsi ≢ gsi → HasResampler s (chip n)) → ResamplersHold s (freed holds pin) chip
freed_for r s holds chip pin gsi stands own others n held =
    let h = stands n (freed_held holds pin (hold n Resample) held) in
    elim (eqb_tells h.gsi gsi) [
      | inl e ↦ absurd (not_removed holds (hold n Resample) (subst (λ o. IsTrue (contains (freed holds o) (hold n Resample))) (own n (h.named ∙ ap Some e.1)) held))
      | inr e ↦ others n h e.1
    ]

-- a pin that keeps its GSI keeps its resampler
pub kept_for : (r : RegistryPart) (rows : List Row) (holds : Holds) (chip : ℕ → Pin) → ResamplersHold r holds chip → ResamplersHold (record r { table = table_of rows }) (kept_holds r.table (table_of rows) chip holds) chip
kept_for r rows holds chip stands n held =
    let both = retained holds (λ (x : Hold). keeps_gsi r.table (table_of rows) (chip x.pin)) (hold n Resample) held in
    let h = stands n both.0 in
    record { gsi = h.gsi; named = same_gsi (gsi_of r.table (chip n)) (gsi_of (table_of rows) (chip n)) h.gsi h.named both.1; resamples = h.resamples }
  where
    same_gsi : (before after : Option ℕ) (g : ℕ) → before ≡ Some g → is_same_gsi before after ≡ true → after ≡ Some g
    same_gsi None after g e same = cc
    same_gsi (Some a) None g e same = absurd (true≢false (sym same))
    same_gsi (Some a) (Some c) g e same = ap Some (sym ((unsigned_Decides a c).0 same)) ∙ e

module _ (r : RegistryPart) (trigger gsi : ℕ) where
  -- the registry without a row
  abbrev pub without : RegistryPart
  without = record r { irqfds = without_row r.irqfds trigger gsi }

  other_resampler : (pin : Pin) (h : HasResampler r pin) → h.gsi ≢ gsi → HasResampler without pin
  other_resampler pin h ne = record { gsi = h.gsi; named = h.named; resamples = resampler_stays trigger gsi h.gsi r.irqfds ne h.resamples }

  -- where it was not the last resampler of its GSI, that has one still
  own_resampler : (row : Irqfd) → AllPairs (λ (a c : Irqfd). has_trigger a.trigger c ≡ false) r.irqfds → named_row r.irqfds trigger gsi ≡ Some row → was_last_resampler row (without_row r.irqfds trigger gsi) ≡ false → has_resampler r.irqfds gsi ≡ true → has_resampler (without_row r.irqfds trigger gsi) gsi ≡ true
  own_resampler row apart is last any =
      elim (is_some row.resample) as (λ t. is_some row.resample ≡ t → (t && not (has_resampler (without_row r.irqfds trigger gsi) row.gsi)) ≡ false → has_resampler (without_row r.irqfds trigger gsi) gsi ≡ true) [
        | true ↦ λ _ there. ap (has_resampler (without_row r.irqfds trigger gsi)) (sym (named_gsi trigger gsi r.irqfds row is)) ∙ on (has_resampler (without_row r.irqfds trigger gsi) row.gsi) there
        | false ↦ λ none _. resamplers_stay trigger gsi r.irqfds row apart is none any
      ] refl last
    where
      on : (t : Bool) → not t ≡ false → t ≡ true
      on true e = refl
      on false e = absurd (true≢false e)

  pub kept_resampler : (row : Irqfd) → AllPairs (λ (a c : Irqfd). has_trigger a.trigger c ≡ false) r.irqfds → named_row r.irqfds trigger gsi ≡ Some row → was_last_resampler row (without_row r.irqfds trigger gsi) ≡ false → (pin : Pin) → HasResampler r pin → HasResampler without pin
  kept_resampler row apart is last pin h =
      elim (eqb_tells h.gsi gsi) [
        | inl e ↦ record {
          gsi = h.gsi;
          named = h.named;
          resamples = subst (λ n. has_resampler (without_row r.irqfds trigger gsi) n ≡ true) (sym e.1) (own_resampler row apart is last (subst (λ n. has_resampler r.irqfds n ≡ true) e.1 h.resamples));
        }
        | inr e ↦ other_resampler pin h e.1
      ]

  -- after the last one went and Resample left the GSI's pins
  pub freed_pic : IsMade r.table → (holds : Holds) → ResamplersHold r holds Pin.Pic → ResamplersHold without (freed holds (targets_of r.table gsi).pic) Pin.Pic
  freed_pic made holds stands = freed_for r without holds Pin.Pic (targets_of r.table gsi).pic gsi stands (λ n named. is_one (targets_of r.table gsi).pic n (target_of_gsi r.table made (Pin.Pic n) gsi named)) (λ n h ne. other_resampler (Pin.Pic n) h ne)

  pub freed_ioapic : IsMade r.table → (holds : Holds) → ResamplersHold r holds Pin.Ioapic → ResamplersHold without (freed holds (targets_of r.table gsi).ioapic) Pin.Ioapic
  freed_ioapic made holds stands = freed_for r without holds Pin.Ioapic (targets_of r.table gsi).ioapic gsi stands (λ n named. is_one (targets_of r.table gsi).ioapic n (target_of_gsi r.table made (Pin.Ioapic n) gsi named)) (λ n h ne. other_resampler (Pin.Ioapic n) h ne)

module _ (shape : Shape) (bound : ℕ) (b : Board) (ws : Wishes) (w : Whole shape bound b) where
  without_fine : (trigger gsi : ℕ) → RegistryFine shape (without b.registry trigger gsi)
  without_fine trigger gsi =
      let rows = b.registry.irqfds in
      let keep : Irqfd → Bool = λ row. not (is_named trigger gsi row) in
      record {
        sound = record { table = w.fine.sound.table; irqfds = All-filter keep IsSoundIrqfd rows w.fine.sound.irqfds; watches = w.fine.sound.watches; ticks = w.fine.sound.ticks };
        named = record { irqfds = All-filter keep (IrqfdFits shape.counters) rows w.fine.named.irqfds; watches = w.fine.named.watches; ioevents = w.fine.named.ioevents };
        distinct = record {
          triggers = AllPairs-filter (λ (a c : Irqfd). has_trigger a.trigger c ≡ false) keep rows w.fine.distinct.triggers;
          roles = All-filter keep (λ (i : Irqfd). is_signalled (without b.registry trigger gsi) i.trigger ≡ false) rows
              (All-weaker (λ (i : Irqfd). is_signalled b.registry i.trigger ≡ false) (λ (i : Irqfd). is_signalled (without b.registry trigger gsi) i.trigger ≡ false)
              (λ i off. let each = or_neither (list_any (has_resample i.trigger) rows) (has_counter b.registry.watches i.trigger) off in or_both (list_any (has_resample i.trigger) (filter keep rows)) (has_counter b.registry.watches i.trigger) (none_fewer (has_resample i.trigger) keep rows each.0) each.1)
              rows w.fine.distinct.roles);
          watches = w.fine.distinct.watches;
          watch_count = w.fine.distinct.watch_count;
          ioevents = w.fine.distinct.ioevents;
          ioevent_count = w.fine.distinct.ioevent_count;
        };
      }

  fewer_triggers : (trigger gsi c : ℕ) → IsTrue (is_trigger (without b.registry trigger gsi) c) → IsTrue (is_trigger b.registry c)
  fewer_triggers trigger gsi c on = any_fewer (has_trigger c) (λ row. not (is_named trigger gsi row)) b.registry.irqfds on

  freed_each : (trigger gsi : ℕ) → Each (without b.registry trigger gsi) shape bound (record b {
    registry = without b.registry trigger gsi;
    pic = record b.pic { holds = freed b.pic.holds (targets_of b.registry.table gsi).pic };
    ioapic = record b.ioapic { holds = freed b.ioapic.holds (targets_of b.registry.table gsi).ioapic };
  })
  freed_each trigger gsi Part.Registry = refl
  freed_each trigger gsi Part.Counters = let c = w.each Part.Counters in record { number = c.number; greatest = c.greatest; triggers = λ counter count on at. c.triggers counter count (fewer_triggers trigger gsi counter on) at }
  freed_each trigger gsi Part.Tick = w.each Part.Tick
  freed_each trigger gsi Part.Pic = record {
    there = λ h held. (w.each Part.Pic).there h (freed_held b.pic.holds (targets_of b.registry.table gsi).pic h held);
    resample = freed_pic b.registry trigger gsi w.fine.sound.table.made b.pic.holds (w.each Part.Pic).resample;
  }
  freed_each trigger gsi Part.Ioapic = record {
    entries = (w.each Part.Ioapic).entries;
    holds = record {
      there = λ h held. (w.each Part.Ioapic).holds.there h (freed_held b.ioapic.holds (targets_of b.registry.table gsi).ioapic h held);
      resample = freed_ioapic b.registry trigger gsi w.fine.sound.table.made b.ioapic.holds (w.each Part.Ioapic).holds.resample;
    };
  }
  freed_each trigger gsi (Part.Lapic n) = w.each (Part.Lapic n)

  deassigned_whole : (trigger gsi : ℕ) (row : Option Irqfd) → named_row b.registry.irqfds trigger gsi ≡ row → Whole shape bound (run (deassigned (routing_of_registry b.registry shape.tick) b.registry trigger gsi row) b ws).board
  deassigned_whole trigger gsi None is = w
  deassigned_whole trigger gsi (Some row) is =
      elim (was_last_resampler row (without_row b.registry.irqfds trigger gsi)) as (λ t. was_last_resampler row (without_row b.registry.irqfds trigger gsi) ≡ t → Whole shape bound (run (release (routing_of_registry b.registry shape.tick) gsi t >> reply (Removed 1)) (record b { registry = without b.registry trigger gsi }) ws).board) [
        | true ↦ λ _. subst (Whole shape bound) (sym (freed_run (targets_of b.registry.table gsi).pic (targets_of b.registry.table gsi).ioapic (record b { registry = without b.registry trigger gsi }) ws)) (record { fine = without_fine trigger gsi; each = freed_each trigger gsi })
        | false ↦ λ last. record { fine = without_fine trigger gsi; each = moved shape bound b.registry (without b.registry trigger gsi) b w.each (fewer_triggers trigger gsi) (kept_resampler b.registry trigger gsi row w.fine.distinct.triggers is last) }
      ] refl

  pub deassign_whole : (trigger gsi : ℕ) → Whole shape bound (run (deassign (routing_of_registry b.registry shape.tick) trigger gsi) b ws).board
  deassign_whole trigger gsi = deassigned_whole trigger gsi (named_row b.registry.irqfds trigger gsi) refl

  -- ---- the routing table is replaced

  abbrev routed : List Row → RegistryPart
  routed rows = record b.registry { table = table_of rows }

  kept_stand : (rows : List Row) (holds : Holds) (count : ℕ) (chip : ℕ → Pin) → HoldsStand b.registry holds count chip → HoldsStand (routed rows) (kept_holds b.registry.table (table_of rows) chip holds) count chip
  kept_stand rows holds count chip stands = record {
    there = λ h held. stands.there h (retained holds (λ (x : Hold). keeps_gsi b.registry.table (table_of rows) (chip x.pin)) h held).0;
    resample = kept_for b.registry rows holds chip stands.resample;
  }

  routed_each : (rows : List Row) → Each (routed rows) shape bound (record b {
    registry = routed rows;
    pic = record b.pic { holds = kept_holds b.registry.table (table_of rows) Pin.Pic b.pic.holds };
    ioapic = record b.ioapic { holds = kept_holds b.registry.table (table_of rows) Pin.Ioapic b.ioapic.holds };
  })
  routed_each rows Part.Registry = refl
  routed_each rows Part.Counters = let c = w.each Part.Counters in record { number = c.number; greatest = c.greatest; triggers = c.triggers }
  routed_each rows Part.Tick = w.each Part.Tick
  routed_each rows Part.Pic = kept_stand rows b.pic.holds 16 Pin.Pic (w.each Part.Pic)
  routed_each rows Part.Ioapic = record { entries = (w.each Part.Ioapic).entries; holds = kept_stand rows b.ioapic.holds 24 Pin.Ioapic (w.each Part.Ioapic).holds }
  routed_each rows (Part.Lapic n) = w.each (Part.Lapic n)

  pub reroute_whole : (rows : List Row) → refusal_of rows ≡ None → All PayloadFits rows → Whole shape bound (run (reroute rows) b ws).board
  reroute_whole rows kept typed = record {
    fine = record {
      sound = record { table = table_is_sound rows kept typed; irqfds = w.fine.sound.irqfds; watches = w.fine.sound.watches; ticks = w.fine.sound.ticks };
      named = record { irqfds = w.fine.named.irqfds; watches = w.fine.named.watches; ioevents = w.fine.named.ioevents };
      distinct = record { triggers = w.fine.distinct.triggers; roles = w.fine.distinct.roles; watches = w.fine.distinct.watches; watch_count = w.fine.distinct.watch_count; ioevents = w.fine.distinct.ioevents; ioevent_count = w.fine.distinct.ioevent_count };
    };
    each = routed_each rows;
  }
