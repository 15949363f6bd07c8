-- A running board at power-on.
use Rattle.std.proofs.Common.{◌≡◌, ℕ, suc, ◌+◌, List, [], ◌∷◌, length, map, Some, refl, ap, ◌∙◌, arith}
use Rattle.irq_base.specs.declared.shape.Shape.{Shape}
use Rattle.lapic.specs.Registers.{LocalApic}
use Rattle.board_model.specs.Hand.{Parts as InHand, all_parts}
use Rattle.board_model.proofs.Tables.{publishes_as_many}
use Rattle.board_raise.specs.declared.parts.Parts.{Parts}
use Rattle.board_raise.specs.Fit.{PinsFit}
use Rattle.board_raise.specs.InHand.{parts_of, chips_of}
use Rattle.board_step.specs.History.{opening_registry, opening}
use Rattle.board_step.specs.Publications.{words}
use Rattle.board_step.proofs.SoundOpening.{apics_many}
use Rattle.part_slots.specs.declared.slot.Slot.TheVariants as slots
use Rattle.part_slots.specs.Slots.{slots_of}
use Rattle.part_copies.specs.Gathering.{slots_in}
use Rattle.part_copies.proofs.Boards.{slots_are}
use Rattle.board_model.specs.declared.width.TheConstants.{WORDS}
use Rattle.part_slots.specs.declared.numbers.TheConstants.{FIXED_PARTS}

-- the board at power-on publishes WORDS words
pub words_many : (shape : Shape) → length (words (opening shape)) ≡ WORDS
words_many shape = publishes_as_many opening_registry shape.tick

-- there is a place for each processor
pub opening_places : (shape : Shape) (p : Parts) → parts_of p ≡ all_parts (opening shape) → length p.lapics ≡ shape.cpus
opening_places shape p is = ap (λ (q : InHand). length q.lapics) is ∙ many (opening shape).lapics ∙ apics_many shape.cpus
  where
    many : (row : List LocalApic) → length (map (λ a. Some a) row) ≡ length row
    many [] = refl
    many (a ∷ row) = ap suc (many row)

-- the slots of all its parts are the board's
pub opening_slots : (shape : Shape) (p : Parts) → parts_of p ≡ all_parts (opening shape) → PinsFit (chips_of p) → slots_in shape p ≡ slots_of (opening shape)
opening_slots shape p is pins = slots_are (opening shape) p is pins

-- as many turns as processors, and five
pub turns_many : (shape : Shape) → length (slots_of (opening shape)) ≡ shape.cpus + FIXED_PARTS
turns_many shape = omega (arith, many (opening shape).lapics, apics_many shape.cpus)
  where
    many : (row : List LocalApic) → length (map (λ a. slots.Lapic a) row) ≡ length row
    many [] = refl
    many (a ∷ row) = ap suc (many row)
