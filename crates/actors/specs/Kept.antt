-- What the code keeps of an actor's calls (this board's own).
use Rattle.std.specs.Prelude.{◌≡◌, false, nat_eq, if◌then◌else◌, List, map, None}
use Rattle.std.specs.declared.option.Option.{Option}
use Rattle.irq_base.specs.Faces.{PlacedEntry}
use Rattle.irq_base.specs.declared.face.Face.{Ghosts}
use Rattle.irq_base.specs.declared.reply.Spent.{Spent}
use Rattle.script_text.specs.Scripts.{Script}
use Rattle.actors.specs.Turns.{HasRun}
use Rattle.actors.specs.declared.kept.Kept.{Kept}
use Rattle.actors.specs.declared.kept.Placed.{Placed}

-- an entry with its place
abbrev pub placed_of : Placed → PlacedEntry
placed_of p = record { entry = p.entry; at = p.at }

abbrev pub placed_in : List Placed → List PlacedEntry
placed_in ps = map placed_of ps

module _ {F : Type 0} (face : Ghosts F) where
  -- the limit that barred the last call of a face, where one did
  abbrev pub stop_of : F → Option Spent
  stop_of f = if nat_eq (face.stops f) 0 then None else face.last f

  -- an actor ran, and its entries are kept, where none was lost
  pub record HasPlayed (s : Script) (before after : F) (kept : Kept) (spent : Option Spent) : Type 0 where
    pub answered : List PlacedEntry
    pub ran : HasRun face s before after answered
    pub whole : kept.lost ≡ false → placed_in kept.entries.items ≡ answered
    pub spent_is : spent ≡ stop_of after
