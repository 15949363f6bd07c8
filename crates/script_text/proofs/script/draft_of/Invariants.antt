use Rattle.std.proofs.Common.{◌≡◌, ◌+◌, ◌≤◌, length}
use Rattle.script_text.specs.Words.{ended_lines, is_ended}
use Rattle.script_text.specs.Draft.{script_in, IsIndexedDraft}
use Rattle.script_text.specs.Scripts.{script_from, script_of}
use Rattle.script_text.proofs.script.draft_of.Given as goal

abbrev pub invariant-loop-line : goal.invariant-loop-line
invariant-loop-line l = record {
  lines : script_from l.place (script_in l.draft) l.number (ended_lines l.rest) (is_ended l.rest) ≡ script_of l.bytes;
  room : l.number + length l.rest ≤ 1 + length l.bytes;
  index : IsIndexedDraft l.draft;
}

abbrev pub decreases-loop-line : goal.decreases-loop-line
decreases-loop-line l = length l.rest
