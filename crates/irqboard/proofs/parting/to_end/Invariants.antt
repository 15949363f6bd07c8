use Rattle.std.proofs.Common.{◌≡◌, ◌+◌, ◌-◌, ◌≤◌, length}
use Rattle.script_text.specs.Words.{ended_lines}
use Rattle.irqboard.specs.Parting.{lines_to_end, bytes_to_end}
use Rattle.irqboard.proofs.parting.to_end.Given as goal

-- the lines so far are none `end`: what the rest has up to there, with what was cut off, the whole has
abbrev pub invariant-loop-line : goal.invariant-loop-line
invariant-loop-line l = record {
  fewer : length l.rest ≤ length l.bytes;
  size : length l.bytes - length l.rest + bytes_to_end (length l.rest) (ended_lines l.rest) ≡ bytes_to_end (length l.bytes) (ended_lines l.bytes);
  number : l.number + lines_to_end (ended_lines l.rest) ≡ lines_to_end (ended_lines l.bytes) + 1;
  few : l.number + length l.rest ≤ length l.bytes + 1;
}

abbrev pub decreases-loop-line : goal.decreases-loop-line
decreases-loop-line l = length l.rest
