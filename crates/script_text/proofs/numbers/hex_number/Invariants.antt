use Rattle.std.proofs.Common.{◌≡◌, ◌^◌, ◌<◌, drop}
use Rattle.script_text.specs.Numbers.{hex_from}
use Rattle.script_text.proofs.numbers.hex_number.Given as goal

-- the number so far, and the digits to come
abbrev pub invariant-loop-digit : goal.invariant-loop-digit
invariant-loop-digit l = (l.number < 16 ^ l.digit-index) × (hex_from l.number (drop l.digit-index l.digits) ≡ hex_from 0 l.digits)
