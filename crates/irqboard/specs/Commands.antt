-- Which command the words of a command line are.
use Rattle.std.specs.Prelude.{ℕ, List, [], ◌∷◌, codes, if◌then◌else◌, Some, None}
use Rattle.std.specs.declared.option.Option.{Option}
use Rattle.script_text.specs.Words.{same_text}
use Rattle.irqboard.specs.declared.command.Command.{Command}
use Rattle.irqboard.specs.declared.command.Command.TheVariants.{Replay, Run, Check}

-- the one word `replay`, `run` or `check`
abbrev pub command_of : List (List ℕ) → Option Command
command_of (word ∷ []) =
    if same_text word (codes "replay") then Some Replay
    else if same_text word (codes "run") then Some Run
    else if same_text word (codes "check") then Some Check
    else None
command_of _ = None
