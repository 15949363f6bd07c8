use Rattle.std.proofs.Common.{◌≡◌, ◌≤◌, drop}
use Rattle.script_text.specs.Numbers.{decimal_from, between}
use Rattle.script_text.proofs.numbers.decimal_up_to.Given as goal

-- the number so far, and the digits to come
abbrev pub invariant-loop-digit : goal.invariant-loop-digit
invariant-loop-digit l = (l.number ≤ l.most) × (between l.least l.most (decimal_from l.number (drop l.digit-index l.digits)) ≡ between l.least l.most (decimal_from 0 l.digits))
