use Rattle.std.proofs.Common.{◌≡◌, ◌++◌, drop}
use Rattle.std.specs.Prelude.{map}
use Rattle.std.specs.String.{string_bytes}
use Rattle.script_text.specs.Spelling.{row_word, spaced}
use Rattle.script_text.proofs.spelling.push_rows.Given as goal

abbrev pub invariant-loop-k : goal.invariant-loop-k
invariant-loop-k l = string_bytes l.text ++ spaced (map row_word (drop l.k l.rows)) ≡ string_bytes l.fn.text ++ spaced (map row_word l.rows)
