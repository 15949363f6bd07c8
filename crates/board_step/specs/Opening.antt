-- The parts at power-on that the code makes (this board's own rule).
use Rattle.std.specs.Prelude.{◌≡◌, ℕ, List, ◌++◌, map, replicate, Some, None}
use Rattle.std.specs.declared.option.Option.{Option}
use Rattle.irq_base.specs.declared.shape.Shape.{Shape}
use Rattle.lapic.specs.Registers.{LocalApic, power_on}
use Rattle.board_model.specs.Hand.{all_parts}
use Rattle.board_raise.specs.declared.parts.PicPart as pic
use Rattle.board_raise.specs.declared.parts.IoPart as ioapic
use Rattle.board_raise.specs.declared.board_rig.BoardRig.{BoardRig}
use Rattle.board_raise.specs.Fit.{PairFits, IoapicFits, PinsFit}
use Rattle.board_raise.specs.InHand.{registry_of, pic_of, ioapic_of, parts_of, chips_of}
use Rattle.board_raise.specs.Send.{numbers_below}
use Rattle.board_step.specs.History.{opening_registry, opening_pic, opening_ioapic, opening}

-- a row with local APICs at power-on at its first places, and so many places more that are empty
abbrev pub opening_row : ℕ → ℕ → List (Option LocalApic)
opening_row cpus left = map (λ apic. Some apic) (map power_on (numbers_below cpus)) ++ replicate left None

-- the pair is at power-on, and its pins are those that are held
pub record OpensPic (part : pic.PicPart) : Type 0 where
  pub opens : pic_of part ≡ opening_pic
  pub pins : PairFits part.pair part.levels

-- the I/O APIC is at power-on, and its pins are those that are held
pub record OpensIoapic (part : ioapic.IoPart) : Type 0 where
  pub opens : ioapic_of part ≡ opening_ioapic
  pub pins : IoapicFits part.ioapic part.levels

-- the rig has all parts of the board at power-on, and published the words of its registry
pub record OpensRig (shape : Shape) (rig : BoardRig) : Type 0 where
  pub parts : parts_of rig.parts ≡ all_parts (opening shape)
  pub pins : PinsFit (chips_of rig.parts)
  pub words : registry_of rig.words.registry ≡ opening_registry
  pub tick : rig.words.tick ≡ shape.tick
