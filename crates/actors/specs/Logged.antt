-- What the code leaves of actors that ran (this board's own).
use Rattle.std.specs.Prelude.{◌≡◌, false, List, map, All}
use Rattle.irq_base.specs.Faces.{PlacedEntry}
use Rattle.actors.specs.Kept.{placed_in}
use Rattle.actors.specs.Results.{entries_of_all, first_in}
use Rattle.actors.specs.Runs.{AreOrdered}
use Rattle.actors.specs.Turns.{entries_in}
use Rattle.actors.specs.declared.playing.Played.{Played}
use Rattle.actors.specs.declared.running.RunLog.{RunLog}

-- no entry of an actor was lost; the history is all of them in the order of their places, and the faces and the limit are those of
-- the actors
pub record IsLogged {F : Type 0} (played : List (Played F)) (log : RunLog F) : Type 0 where
  pub kept : All (λ (p : Played F). p.kept.lost ≡ false) played
  pub ordered : List PlacedEntry
  pub order : AreOrdered (placed_in (entries_of_all played)) ordered
  pub listed : log.history ≡ entries_in ordered
  pub faces : log.faces.items ≡ map (λ (p : Played F). p.face) played
  pub spent : log.spent ≡ first_in (map (λ (p : Played F). p.spent) played)
