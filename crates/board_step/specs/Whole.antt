-- All parts of a board in hand, and the board that has them (this board's own).
use Rattle.std.specs.Prelude.{◌≡◌, ℕ, Bool, true, nat_lt, [], length, map, is_some, unwrap_or}
use Rattle.irq_base.specs.declared.shape.Part.{Part}
use Rattle.irq_base.specs.declared.shape.Part.TheVariants.{Lapic}
use Rattle.irq_base.specs.declared.shape.Shape.{Shape}
use Rattle.lapic.specs.Registers.{power_on}
use Rattle.tick_reinject.specs.Ticks.{in_mode}
use Rattle.board_model.specs.Board.{Board}
use Rattle.board_model.specs.Hand.{Parts, part_in, all_parts}
use Rattle.board_model.specs.Agreement.{Agrees}
use Rattle.board_step.specs.History.{opening_registry, opening_pic, opening_ioapic}

-- the parts of a board of that shape: five, and a local APIC for each processor
abbrev pub is_part : Shape → Part → Bool
is_part shape (Lapic n) = nat_lt n shape.cpus
is_part shape _ = true

-- all parts of a board of that shape are in hand
pub record IsWhole (shape : Shape) (q : Parts) : Type 0 where
  pub places : length q.lapics ≡ shape.cpus
  pub each : (p : Part) → is_part shape p ≡ true → is_some (part_in q p) ≡ true

-- the board with these parts, after so many calls and so many publications; a part that is not in hand is as at power-on
abbrev pub board_of : Shape → Parts → ℕ → ℕ → Board
board_of shape q length publications = record {
  shape = shape;
  registry = unwrap_or q.registry opening_registry;
  counters = unwrap_or q.counters [];
  tick = unwrap_or q.tick (in_mode true);
  pic = unwrap_or q.pic opening_pic;
  ioapic = unwrap_or q.ioapic opening_ioapic;
  lapics = map (λ place. unwrap_or place (power_on 0)) q.lapics;
  length = length;
  publications = publications;
}

-- ---- the two are inverse

-- all parts of the board of some parts are these, where none is missing
abbrev pub BoardHasItsParts : Type 0
BoardHasItsParts =
    (shape : Shape) (q : Parts) (length publications : ℕ) → IsWhole shape q → all_parts (board_of shape q length publications) ≡ q

-- the board of all parts of a board is that board
abbrev pub PartsMakeTheirBoard : Type 0
PartsMakeTheirBoard = (b : Board) → board_of b.shape (all_parts b) b.length b.publications ≡ b

-- all parts of a board with a local APIC for each processor are in hand
abbrev pub AllPartsAreWhole : Type 0
AllPartsAreWhole = (b : Board) → length b.lapics ≡ b.shape.cpus → IsWhole b.shape (all_parts b)

-- parts of a board, none of which is missing, are all its parts
abbrev pub WholePartsAreAll : Type 0
WholePartsAreAll = (q : Parts) (b : Board) → Agrees q b → length b.lapics ≡ b.shape.cpus → IsWhole b.shape q → q ≡ all_parts b
