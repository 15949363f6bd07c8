-- What the code gathers of actors that ran (this board's own).
use Rattle.std.specs.Prelude.{◌≡◌, false, List, [], ◌∷◌, map, flat_map, All, Some, None}
use Rattle.std.specs.declared.option.Option.{Option}
use Rattle.irq_base.specs.declared.face.Face.{Ghosts}
use Rattle.irq_base.specs.declared.reply.Spent.{Spent}
use Rattle.script_text.specs.Scripts.{Script}
use Rattle.actors.specs.Kept.{HasPlayed}
use Rattle.actors.specs.declared.gathering.Results.{Results}
use Rattle.actors.specs.declared.kept.Placed.{Placed}
use Rattle.actors.specs.declared.playing.Played.{Played}

-- the first of two, or of all of a list, that is there
abbrev pub first_of : Option Spent → Option Spent → Option Spent
first_of None next = next
first_of (Some spent) next = Some spent

abbrev pub first_in : List (Option Spent) → Option Spent
first_in [] = None
first_in (o ∷ os) = first_of o (first_in os)

-- the entries of actors, one actor after another
abbrev pub entries_of_all : {F : Type 0} → List (Played F) → List Placed
entries_of_all played = flat_map (λ p. p.kept.entries.items) played

-- no entry of an actor was lost, and all is there
pub record IsGathered {F : Type 0} (played : List (Played F)) (all : Results F) : Type 0 where
  pub kept : All (λ (p : Played F). p.kept.lost ≡ false) played
  pub placed : all.placed.items ≡ entries_of_all played
  pub faces : all.faces.items ≡ map (λ (p : Played F). p.face) played
  pub spent : all.spent ≡ first_in (map (λ (p : Played F). p.spent) played)

-- each actor has played
abbrev pub HavePlayed : {F : Type 0} → Ghosts F → Script → List F → List (Played F) → Type 0
HavePlayed face s [] [] = Unit {0}
HavePlayed face s (f ∷ fs) (p ∷ ps) = HasPlayed face s f p.face p.kept p.spent × HavePlayed face s fs ps
HavePlayed face s _ _ = ⊥
