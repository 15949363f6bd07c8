-- Which parts are in hand.
use Rattle.std.proofs.Common.{◌≡◌, Bool, is_some, Some, None, refl}
use Rattle.std.specs.Prelude.{option_map}
use Rattle.std.specs.declared.option.Option.{Option}
use Rattle.irq_base.specs.declared.shape.Part.{Part}
use Rattle.irq_base.specs.declared.shape.Part.TheVariants.{Registry, Counters, Tick, Pic, Ioapic, Lapic}
use Rattle.board_model.specs.Hand.{part_in}
use Rattle.board_raise.specs.declared.parts.Parts.{Parts}
use Rattle.board_raise.specs.InHand.{parts_of}
use Rattle.board_raise.specs.OnRow.{apic_in}

-- whether the part is in hand
abbrev pub is_held : Parts → Part → Bool
is_held p Registry = is_some p.registry
is_held p Counters = is_some p.counters
is_held p Tick = is_some p.tick
is_held p Pic = is_some p.pic
is_held p Ioapic = is_some p.ioapic
is_held p (Lapic n) = is_some (apic_in p.lapics n)

pub is_some-map : {A B : Type 0} (f : A → B) (o : Option A) → is_some (option_map f o) ≡ is_some o
is_some-map f None = refl
is_some-map f (Some x) = refl

pub is_held-part : (p : Parts) (part : Part) → is_some (part_in (parts_of p) part) ≡ is_held p part
is_held-part p Registry = is_some-map _ p.registry
is_held-part p Counters = refl
is_held-part p Tick = refl
is_held-part p Pic = is_some-map _ p.pic
is_held-part p Ioapic = is_some-map _ p.ioapic
is_held-part p (Lapic n) = refl

pub ruleset held_rules = (is_held-part)
