-- How numbers are read and spelled.
use Rattle.std.specs.Prelude.{ℕ, zero, suc, ◌+◌, ◌-◌, ◌*◌, ◌/◌, ◌%◌, ◌^◌, max, min, ◌&&◌, ◌||◌, nat_eq, nat_lt, nat_le, List, []}
use Rattle.std.specs.Prelude.{◌∷◌, length, slice_index, Some, None, Ok, Err, if◌then◌else◌, option_and_then}
use Rattle.std.specs.declared.option.Option.{Option}
use Rattle.std.specs.declared.result.Result.{Result}
use Rattle.irq_base.specs.declared.fault.LineCause.{LineCause}
use Rattle.irq_base.specs.declared.fault.LineCause.TheVariants.{Number}

-- the value of a hexadecimal digit of either case
abbrev pub hex_value : ℕ → Option ℕ
hex_value b =
    if nat_le 48 b && nat_le b 57 then Some (b - 48)
    else if nat_le 97 b && nat_le b 102 then Some (b - 97 + 10)
    else if nat_le 65 b && nat_le b 70 then Some (b - 65 + 10)
    else None

-- the number that has these hexadecimal digits behind those of n
abbrev pub hex_from : ℕ → List ℕ → Option ℕ
hex_from n [] = Some n
hex_from n (b ∷ bs) = option_and_then (λ v. hex_from (16 * n + v) bs) (hex_value b)

-- the value of a decimal digit
abbrev pub decimal_value : ℕ → Option ℕ
decimal_value b = if nat_le 48 b && nat_le b 57 then Some (b - 48) else None

-- the number that has these decimal digits behind those of n
abbrev pub decimal_from : ℕ → List ℕ → Option ℕ
decimal_from n [] = Some n
decimal_from n (b ∷ bs) = option_and_then (λ v. decimal_from (10 * n + v) bs) (decimal_value b)

-- a number of a range
abbrev pub between : ℕ → ℕ → Option ℕ → Result ℕ LineCause
between least most None = Err Number
between least most (Some n) = if nat_le least n && nat_le n most then Ok n else Err Number

-- hexadecimal: 1 to 16 digits, and not above the greatest number
abbrev pub hex : ℕ → List ℕ → Result ℕ LineCause
hex most word = if nat_eq (length word) 0 || nat_lt 16 (length word) then Err Number else between 0 most (hex_from 0 word)

-- decimal: digits, the first of several not being 0, and a number of the range
abbrev pub decimal_in : ℕ → ℕ → List ℕ → Result ℕ LineCause
decimal_in least most word =
    if nat_eq (length word) 0 || (nat_lt 1 (length word) && nat_eq (slice_index word 0) 48) then Err Number
    else between least most (decimal_from 0 word)

-- the digit of a value below 16
abbrev pub hex_digit : ℕ → ℕ
hex_digit v = if nat_lt v 10 then 48 + v else 87 + v

-- the lowest k hexadecimal digits of a number, the highest of them first
unfoldable pub hex_digits : ℕ → ℕ → List ℕ
hex_digits zero n = []
hex_digits (suc k) n = hex_digit (n / 2 ^ (4 * k) % 16) ∷ hex_digits k n

-- how many of the lowest k digits stand from the first that is not 0 on
unfoldable pub hex_places : ℕ → ℕ → ℕ
hex_places zero n = 0
hex_places (suc k) n = if nat_eq (n / 2 ^ (4 * k)) 0 then hex_places k n else suc k

-- a number of 64 bits with at least that many hexadecimal digits
abbrev pub hex_text : ℕ → ℕ → List ℕ
hex_text width n = hex_digits (max width (hex_places 16 n)) n

-- how many digits at least a value has beside that length in bytes: two a byte, of at most 8 bytes, and one where there is none
abbrev pub value_width : ℕ → ℕ
value_width len = max 1 (2 * min len 8)

-- the kinds of number fields: a number fits its type
abbrev pub hex64 : List ℕ → Result ℕ LineCause
hex64 word = hex 0xffffffffffffffff word

abbrev pub hex32 : List ℕ → Result ℕ LineCause
hex32 word = hex 0xffffffff word

abbrev pub hex16 : List ℕ → Result ℕ LineCause
hex16 word = hex 0xffff word

abbrev pub hex8 : List ℕ → Result ℕ LineCause
hex8 word = hex 0xff word

abbrev pub number64 : List ℕ → Result ℕ LineCause
number64 word = decimal_in 0 0xffffffffffffffff word

abbrev pub number16 : List ℕ → Result ℕ LineCause
number16 word = decimal_in 0 0xffff word

abbrev pub number8 : List ℕ → Result ℕ LineCause
number8 word = decimal_in 0 0xff word
