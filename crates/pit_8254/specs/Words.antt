-- Control words of an 8254 (Intel, 8254 programmable interval timer, control word format).
use Rattle.std.specs.Prelude.{◌/◌, ◌%◌, ℕ, Bool, true, false, not, ◌||◌, nat_eq, nat_lt, if◌then◌else◌, Option, Some, None}
use Rattle.pit_8254.specs.declared.words.Control.{Control}
use Rattle.pit_8254.specs.declared.words.Control.TheVariants.{Nothing, Latch, Bad, Program}
use Rattle.pit_8254.specs.declared.words.PitAccess.{PitAccess}
use Rattle.pit_8254.specs.declared.words.PitAccess.TheVariants.{Low, High, LowThenHigh}
use Rattle.pit_8254.specs.declared.words.PitMode.{PitMode}
use Rattle.pit_8254.specs.declared.words.PitMode.TheVariants.{TerminalCount, RateGenerator, SquareWave, SoftwareStrobe}

-- the modes 2 and 3
abbrev pub is_periodic : PitMode → Bool
is_periodic TerminalCount = false
is_periodic RateGenerator = true
is_periodic SquareWave = true
is_periodic SoftwareStrobe = false

-- the mode of three bits: 0, 2, 3 and 4, and 6 and 7 mean 2 and 3
abbrev pub mode_of : ℕ → Option PitMode
mode_of bits =
    if nat_eq bits 0 then Some TerminalCount
    else (if nat_eq bits 2 || nat_eq bits 6 then Some RateGenerator
    else (if nat_eq bits 3 || nat_eq bits 7 then Some SquareWave
    else (if nat_eq bits 4 then Some SoftwareStrobe
    else None)))

-- the access of two bits: the low byte, the high byte, or the low one and then the high one
abbrev pub access_of : ℕ → Option PitAccess
access_of bits =
    if nat_eq bits 1 then Some Low
    else (if nat_eq bits 2 then Some High
    else (if nat_eq bits 3 then Some LowThenHigh
    else None))

-- a byte is the high one of its count; `second` tells that the one before it was the low byte of two
abbrev pub is_high : PitAccess → Bool → Bool
is_high Low second = false
is_high High second = true
is_high LowThenHigh second = second

-- a byte is the low one of two
abbrev pub is_low_of_two : PitAccess → Bool → Bool
is_low_of_two Low second = false
is_low_of_two High second = false
is_low_of_two LowThenHigh second = not second

-- a word with bit 0 set, or of mode 1 or 5, is a bad word
abbrev pub set_by : Bool → Option PitMode → PitAccess → Control
set_by true mode access = Bad
set_by false None access = Bad
set_by false (Some mode) access = Program (record { mode = mode; access = access })

-- what a word of this access sets: the mode stands in bits 3..1
abbrev pub programmed : ℕ → PitAccess → Control
programmed word access = set_by (not (nat_eq (word % 2) 0)) (mode_of (word / 2 % 8)) access

-- a word with access 00 latches the count, and does nothing else
abbrev pub said_by : ℕ → Option PitAccess → Control
said_by word None = Latch
said_by word (Some access) = programmed word access

-- what a word says to channel 0, whose words have bits 7..6 clear; the access stands in bits 5..4
abbrev pub control_of : ℕ → Control
control_of word = if nat_lt word 64 then said_by word (access_of (word / 16 % 4)) else Nothing
