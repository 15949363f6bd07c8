-- Faces with the numbers of their actors (this board's own).
use Rattle.std.specs.Prelude.{◌≡◌, ℕ, ◌+◌, ◌<◌, List, [], ◌∷◌, length}
use Rattle.irq_base.specs.declared.face.Face.{Ghosts}
use Rattle.script_text.specs.Asks.{actors_of, caller_at}
use Rattle.script_text.specs.Fitting.{IsScript}
use Rattle.script_text.specs.Scripts.{Script}
use Rattle.actors.specs.declared.seats.Seat.{Seat}

-- faces are numbered in their order, the first being this
abbrev pub seats_from : {F : Type 0} → ℕ → List F → List (Seat F)
seats_from k [] = []
seats_from k (f ∷ fs) = record { actor = k; face = f } ∷ seats_from (k + 1) fs

-- an actor that can run: its face is its caller's, and no limit has barred a call there
pub record CanPlay {F : Type 0} (face : Ghosts F) (s : Script) (seat : Seat F) : Type 0 where
  pub script : IsScript s
  pub actor : seat.actor < length (actors_of s.lines)
  pub caller : face.who seat.face ≡ caller_at s.lines seat.actor
  pub stops : face.stops seat.face ≡ 0
