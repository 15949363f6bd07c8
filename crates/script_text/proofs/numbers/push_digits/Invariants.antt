use Rattle.std.proofs.Common.{◌≡◌, ◌++◌}
use Rattle.std.specs.String.{string_bytes}
use Rattle.script_text.specs.Numbers.{hex_digits}
use Rattle.script_text.proofs.numbers.push_digits.Given as goal

-- the digits so far, and those below
abbrev pub invariant-loop-k : goal.invariant-loop-k
invariant-loop-k l = string_bytes l.text ++ hex_digits l.k l.value ≡ string_bytes l.fn.text ++ hex_digits l.count l.value
