-- A script while it is read.
use Rattle.std.specs.Prelude.{◌≡◌, [], ◌∷◌, ◌++◌, Ok, Err}
use Rattle.std.specs.declared.result.Result.{Result}
use Rattle.irq_base.specs.declared.fault.LineCause.{LineCause}
use Rattle.script_text.specs.declared.causes.LineFault.{LineFault}
use Rattle.script_text.specs.declared.causes.LineFault.TheVariants.{Bad, NoMemory}
use Rattle.script_text.specs.declared.draft.Draft.{Draft}
use Rattle.script_text.specs.declared.task.ActorLine.{ActorLine}
use Rattle.script_text.specs.declared.judging.Place.{Place}
use Rattle.script_text.specs.Scripts.{Script, Standing}
use Rattle.script_text.specs.Index.{IsIndexed}
use Rattle.script_text.specs.Fitting.{IsScript}

abbrev pub script_in : Draft → Script
script_in d = record { shape = d.shape; lines = d.lines.items }

abbrev pub added : Script → ActorLine → Script
added s line = record s { lines = s.lines ++ line ∷ [] }

abbrev pub IsIndexedDraft : Draft → Type 0
IsIndexedDraft d = IsIndexed d.lines.items d.actors.items d.seats.items

-- a draft that is whole: its lines are found by their actors, and it is a script of the grammar
pub record IsKeptDraft (d : Draft) : Type 0 where
  pub index : IsIndexedDraft d
  pub fits : IsScript (script_in d)

-- a line leads to this place and this draft, or is bad
abbrev pub Leads : Result Place LineFault → Draft → Result Standing LineCause → Type 0
Leads (Ok place) d read = read ≡ Ok (place, script_in d)
Leads (Err (Bad cause)) d read = read ≡ Err cause
Leads (Err NoMemory) d read = Unit {0}
