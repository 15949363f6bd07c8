use Rattle.std.proofs.Common.{◌≡◌}
use Rattle.script_text.specs.Numbers.{hex_places}
use Rattle.script_text.proofs.numbers.hex_places.Given as goal

-- the digits so far were 0
abbrev pub invariant-loop-k : goal.invariant-loop-k
invariant-loop-k l = hex_places l.k l.value ≡ hex_places 16 l.value
