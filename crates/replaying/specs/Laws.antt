-- What holds of all replays.
use Rattle.std.specs.Prelude.{◌≡◌, List}
use Rattle.std.specs.declared.option.Option.{Option}
use Rattle.irq_base.specs.declared.lists.Entry.{Entry}
use Rattle.irq_base.specs.declared.reply.Spent.{Spent}
use Rattle.script_text.specs.Scripts.{Script}
use Rattle.replaying.specs.Replays.{Replays}

-- two replays of a script have one history, and one limit that stopped the first actor that was stopped
abbrev pub ReplaysAreOne : Type 0
ReplaysAreOne =
    (s : Script) (one other : List Entry) (first second : Option Spent) → Replays s one first → Replays s other second
    → (one ≡ other) × (first ≡ second)
