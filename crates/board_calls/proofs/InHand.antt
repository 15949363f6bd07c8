-- The same parts are in hand after one of them has changed.
use Rattle.std.proofs.Common.{◌≡◌, ℕ, true, List, refl, sym, ap, ◌∙◌, is_some, Some}
use Rattle.irq_base.specs.declared.shape.Part.{Part}
use Rattle.irq_base.specs.declared.shape.Part.TheVariants.{Registry, Counters, Tick, Pic, Ioapic, Lapic}
use Rattle.tick_reinject.specs.declared.state.TickState.{TickState}
use Rattle.board_raise.specs.declared.parts.Parts as code
use Rattle.board_raise.specs.declared.parts.RegistryPart as registry
use Rattle.board_raise.specs.declared.parts.PicPart as pic
use Rattle.board_raise.specs.declared.parts.IoPart as io
use Rattle.board_model.specs.Hand.{part_in}
use Rattle.board_raise.specs.InHand.{parts_of}
use Rattle.board_raise.specs.OnRow.{apic_in}
use Rattle.board_raise.proofs.InHand.{is_held-part}
use Rattle.board_calls.specs.Done.{SameInHand}

-- each kind of part is in hand where it was
pub in_hand : (old new : code.Parts) → is_some new.registry ≡ is_some old.registry → is_some new.counters ≡ is_some old.counters → is_some new.tick ≡ is_some old.tick
    → is_some new.pic ≡ is_some old.pic → is_some new.ioapic ≡ is_some old.ioapic → new.lapics ≡ old.lapics → SameInHand old new
in_hand old new registry counters tick pic ioapic lapics Registry = is_held-part new Registry ∙ registry ∙ sym (is_held-part old Registry)
in_hand old new registry counters tick pic ioapic lapics Counters = counters
in_hand old new registry counters tick pic ioapic lapics Tick = tick
in_hand old new registry counters tick pic ioapic lapics Pic = is_held-part new Pic ∙ pic ∙ sym (is_held-part old Pic)
in_hand old new registry counters tick pic ioapic lapics Ioapic = is_held-part new Ioapic ∙ ioapic ∙ sym (is_held-part old Ioapic)
in_hand old new registry counters tick pic ioapic lapics (Lapic n) = ap (λ row. is_some (apic_in row n)) lapics

module _ (p : code.Parts) (part : Part) where
  pub with_registry : (r : registry.RegistryPart) → is_some p.registry ≡ true → is_some (part_in (parts_of (record p { registry = Some r })) part) ≡ is_some (part_in (parts_of p) part)
  with_registry r there = in_hand p (record p { registry = Some r }) (sym there) refl refl refl refl refl part

  pub with_counters : (counts : List ℕ) → is_some p.counters ≡ true → is_some (part_in (parts_of (record p { counters = Some counts })) part) ≡ is_some (part_in (parts_of p) part)
  with_counters counts there = in_hand p (record p { counters = Some counts }) refl (sym there) refl refl refl refl part

  pub with_tick : (tick : TickState) → is_some p.tick ≡ true → is_some (part_in (parts_of (record p { tick = Some tick })) part) ≡ is_some (part_in (parts_of p) part)
  with_tick tick there = in_hand p (record p { tick = Some tick }) refl refl (sym there) refl refl refl part

  pub with_pic : (pic : pic.PicPart) → is_some p.pic ≡ true → is_some (part_in (parts_of (record p { pic = Some pic })) part) ≡ is_some (part_in (parts_of p) part)
  with_pic pic there = in_hand p (record p { pic = Some pic }) refl refl refl (sym there) refl refl part

  pub with_ioapic : (ioapic : io.IoPart) → is_some p.ioapic ≡ true → is_some (part_in (parts_of (record p { ioapic = Some ioapic })) part) ≡ is_some (part_in (parts_of p) part)
  with_ioapic ioapic there = in_hand p (record p { ioapic = Some ioapic }) refl refl refl refl (sym there) refl part

pub ruleset in_hand_rules = (with_registry, with_counters, with_tick, with_pic, with_ioapic)
