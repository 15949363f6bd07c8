use Rattle.std.proofs.Common.{◌≡◌, ◌++◌, drop}
use Rattle.std.specs.String.{string_bytes}
use Rattle.transcript.specs.Text.{events_text}
use Rattle.transcript.proofs.printing.push_events.Given as goal

-- the lines so far, and those to come
abbrev pub invariant-loop-k : goal.invariant-loop-k
invariant-loop-k l = string_bytes l.text ++ events_text (drop l.k l.events) ≡ string_bytes l.fn.text ++ events_text l.events
