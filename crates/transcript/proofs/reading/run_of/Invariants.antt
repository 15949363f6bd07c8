use Rattle.std.proofs.Common.{◌≡◌, ◌+◌, ◌≤◌, length}
use Rattle.script_text.specs.Words.{ended_lines, is_ended}
use Rattle.transcript.specs.Reading.{read_from, transcript_of}
use Rattle.transcript.proofs.reading.run_of.Given as goal

abbrev pub invariant-loop-line : goal.invariant-loop-line
invariant-loop-line l = record {
  lines : read_from l.stage l.number (ended_lines l.rest) (is_ended l.rest) ≡ transcript_of l.first_line l.bytes;
  room : l.number + length l.rest ≤ l.first_line + length l.bytes;
}

abbrev pub decreases-loop-line : goal.decreases-loop-line
decreases-loop-line l = length l.rest
