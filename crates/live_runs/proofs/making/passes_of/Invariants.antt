use Rattle.std.proofs.Common.{◌≡◌, All, take}
use Rattle.script_text.specs.Asks.{actors_of}
use Rattle.part_board.specs.Seen.{IsDeskOf}
use Rattle.live_runs.specs.Made.{IsFresh, callers_of, HasMadeJust}
use Rattle.live_runs.proofs.making.passes_of.Given as goal

abbrev pub invariant-loop-actor : goal.invariant-loop-actor
invariant-loop-actor l =
    IsDeskOf l.board l.desk × All (IsFresh l.board) l.passes.items
    × (callers_of l.passes.items ≡ take l.actor (actors_of l.script.lines)) × HasMadeJust l.desk l.passes.items
