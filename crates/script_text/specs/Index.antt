-- How a script's lines are found by their actor.
use Rattle.std.specs.Prelude.{◌≡◌, ℕ, ◌+◌, ◌*◌, ◌<◌, nat_eq, List, [], ◌∷◌, ◌++◌, slice_index_or, All, if◌then◌else◌}
use Rattle.irq_base.specs.declared.call.Caller.{Caller}
use Rattle.irq_base.specs.declared.call.Caller.TheVariants.{Device, Cpu}
use Rattle.script_text.specs.declared.task.Task.{Task}
use Rattle.script_text.specs.declared.task.Task.TheVariants.{Once, Repeat, Serve}
use Rattle.script_text.specs.declared.task.ActorLine.{ActorLine}
use Rattle.script_text.specs.Asks.{actors_of}

-- a line asks at least once
abbrev pub IsCounted : Task → Type 0
IsCounted (Once call) = Unit {0}
IsCounted (Repeat n call) = 0 < n
IsCounted (Serve n) = 0 < n

-- the seat of a caller: devices have the even numbers
abbrev pub seat_of : Caller → ℕ
seat_of (Device d) = 2 * d
seat_of (Cpu n) = 2 * n + 1

-- the places of the lines of a seat, the first line being at place k
unfoldable pub places_from : ℕ → ℕ → List ActorLine → List ℕ
places_from k seat [] = []
places_from k seat (line ∷ lines) =
    if nat_eq (seat_of line.caller) seat then k ∷ places_from (k + 1) seat lines else places_from (k + 1) seat lines

-- the places that are noted for a seat, of which there may be none
abbrev pub places_in : List (List ℕ) → ℕ → List ℕ
places_in seats seat = slice_index_or seats seat []

-- the places of seat n, where one is noted for that seat
abbrev pub with_place : ℕ → ℕ → ℕ → List ℕ → List ℕ
with_place seat place n places = if nat_eq seat n then places ++ place ∷ [] else places

-- the actors, and for each seat the places of its lines
pub record IsIndexed (lines : List ActorLine) (actors : List Caller) (seats : List (List ℕ)) : Type 0 where
  pub each : actors ≡ actors_of lines
  pub places : (seat : ℕ) → places_in seats seat ≡ places_from 0 seat lines
  pub counted : All (λ line. IsCounted line.task) lines
