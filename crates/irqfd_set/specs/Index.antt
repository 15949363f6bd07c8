-- The index of irqfds: the row of each trigger at the trigger's place.
use Rattle.std.specs.Prelude.{◌≡◌, ℕ, ◌+◌, List, [], ◌∷◌, length, get_or, count_by, is_none, Option, None}
use Rattle.irqfd_set.specs.declared.irqfds.Irqfd.{Irqfd}
use Rattle.irqfd_set.specs.Rows.{of_trigger}

-- no two rows have one trigger
abbrev pub AreDistinct : List Irqfd → Type 0
AreDistinct [] = Unit {0}
AreDistinct (row ∷ rows) = (of_trigger rows row.trigger ≡ None) × AreDistinct rows

-- 256 places, each with the row of its trigger, so that rows and empty places are 256 together
pub record IsIndexed (rows : List Irqfd) (by_trigger : List (Option Irqfd)) : Type 0 where
  pub places : length by_trigger ≡ 256
  pub sum : length rows + count_by is_none by_trigger ≡ 256
  pub found : (trigger : ℕ) → get_or by_trigger trigger None ≡ of_trigger rows trigger
  pub distinct : AreDistinct rows
