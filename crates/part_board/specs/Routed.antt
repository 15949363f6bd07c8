-- Where a GSI goes, as it is read without a turn (this board's own rule).
use Rattle.std.specs.Prelude.{◌≡◌, ℕ, List, [], ◌∷◌, ◌++◌}
use Rattle.irq_base.specs.declared.lists.Entry.{Entry}
use Rattle.irq_base.specs.declared.message.Targets.{Targets}
use Rattle.irq_base.specs.declared.shape.Shape.{Shape}
use Rattle.route_table.specs.Rows.{targets_of}
use Rattle.board_model.specs.Board.{Board}
use Rattle.board_step.specs.History.{opening, Leads}
use Rattle.turn_book.specs.declared.view.Front.{Front}
use Rattle.part_slots.specs.Commits.{Seen}

-- these are the targets of the GSI in the routing table of the board that the history leaves
pub record IsRouted (shape : Shape) (gsi : ℕ) (targets : Targets) (history : List Entry) : Type 0 where
  pub last : Board
  pub after : Leads (opening shape) history last
  pub routed : targets ≡ targets_of last.registry.table gsi

-- the looks gained just two fronts, the first of this generation and the second of that
pub record LookedTwice (v w : Seen) (from to : ℕ) : Type 0 where
  pub first : Front
  pub second : Front
  pub looks : w.looks ≡ v.looks ++ first ∷ second ∷ []
  pub from_is : first.generation ≡ from
  pub to_is : second.generation ≡ to

-- the looks gained just two fronts, both of one generation
pub record LookedUnderOne (v w : Seen) : Type 0 where
  pub generation : ℕ
  pub twice : LookedTwice v w generation generation
