use Rattle.std.proofs.Common.{◌≡◌, ◌++◌, drop}
use Rattle.std.specs.String.{string_bytes}
use Rattle.transcript.specs.Text.{entries_text}
use Rattle.transcript.proofs.printing.push_entries.Given as goal

-- the lines so far, and those to come
abbrev pub invariant-loop-place : goal.invariant-loop-place
invariant-loop-place l =
    string_bytes l.text ++ entries_text l.place (drop l.place l.history) ≡ string_bytes l.fn.text ++ entries_text 0 l.history
