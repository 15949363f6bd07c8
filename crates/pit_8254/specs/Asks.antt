-- What a face gains where ticks are asked of it.
use Rattle.std.specs.Prelude.{◌≡◌, ℕ, Bool, true, false, List, length, All, Option, Some, None, Ok, Err}
use Rattle.std.specs.declared.result.Result.{Result}
use Rattle.face_asks.specs.Asks.{events_left, HasAnswered}
use Rattle.irq_base.specs.Faces.{PlacedEntry}
use Rattle.irq_base.specs.declared.call.Call.TheVariants.{Tick}
use Rattle.irq_base.specs.declared.call.Caller.{Caller}
use Rattle.irq_base.specs.declared.call.Caller.TheVariants.{Device, Cpu}
use Rattle.irq_base.specs.declared.event.Event.{Event}
use Rattle.irq_base.specs.declared.face.Face.{Ghosts}
use Rattle.irq_base.specs.declared.reply.Spent.{Spent}
use Rattle.pit_8254.specs.declared.ticking.PitSpent.{PitSpent}

-- a device asks
abbrev pub is_device : Caller → Bool
is_device (Device d) = true
is_device (Cpu n) = false

-- a call is a tick
abbrev pub IsTick : PlacedEntry → Type 0
IsTick placed = placed.entry.call ≡ Tick

-- how many ticks were answered, and the limit that barred one, if one did
abbrev pub answered : Result ℕ PitSpent → ℕ
answered (Ok ticks) = ticks
answered (Err stop) = stop.ticks

abbrev pub limit_of : Result ℕ PitSpent → Option Spent
limit_of (Ok ticks) = None
limit_of (Err stop) = Some stop.spent

-- one tick was answered, or none
abbrev pub one_in : {A B : Type 0} → Result A B → ℕ
one_in (Ok answer) = 1
one_in (Err fault) = 0

-- So many ticks were asked of a face and answered, one after another, and then a limit barred one, or none did. The list of events has those
-- of the last ask
pub record HasTicked {F : Type 0} (face : Ghosts F) (n : ℕ) (spent : Option Spent) (before after : F) (had has : List Event) : Type 0 where
  pub ticks : List PlacedEntry
  pub many : length ticks ≡ n
  pub each : All IsTick ticks
  pub asked : HasAnswered face before after ticks
  pub events : has ≡ events_left spent ticks had
