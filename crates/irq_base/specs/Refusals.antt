-- The numbers and words of the refusals, this board's own, and the first of several.
use Rattle.std.specs.Prelude.{ℕ, Bool, List, [], ◌∷◌, codes, if◌then◌else◌, Some, None}
use Rattle.std.specs.declared.option.Option.{Option}
use Rattle.irq_base.specs.declared.refusal.Refusal.{Refusal}
use Rattle.irq_base.specs.declared.refusal.Refusal.TheVariants.{NoGsi, NoCounter, BadRow, ChipTwice, Mixed, PinTwice, Busy}
use Rattle.irq_base.specs.declared.refusal.Refusal.TheVariants.{RoleClash, Full, Exists, NotThere, BadRange, ChipAddress, Over}
use Rattle.irq_base.specs.declared.refusal.Refusal.TheVariants.{BadCount, NoLine, BadMsi}

-- the number
abbrev pub refusal_number : Refusal → ℕ
refusal_number NoGsi = 1
refusal_number NoCounter = 2
refusal_number BadRow = 3
refusal_number ChipTwice = 4
refusal_number Mixed = 5
refusal_number PinTwice = 6
refusal_number Busy = 7
refusal_number RoleClash = 8
refusal_number Full = 9
refusal_number Exists = 10
refusal_number NotThere = 11
refusal_number BadRange = 12
refusal_number ChipAddress = 13
refusal_number Over = 14
refusal_number BadCount = 15
refusal_number NoLine = 16
refusal_number BadMsi = 17

-- the word
abbrev pub refusal_word : Refusal → List ℕ
refusal_word NoGsi = codes "no-gsi"
refusal_word NoCounter = codes "no-counter"
refusal_word BadRow = codes "bad-row"
refusal_word ChipTwice = codes "chip-twice"
refusal_word Mixed = codes "mixed"
refusal_word PinTwice = codes "pin-twice"
refusal_word Busy = codes "busy"
refusal_word RoleClash = codes "role-clash"
refusal_word Full = codes "full"
refusal_word Exists = codes "exists"
refusal_word NotThere = codes "not-there"
refusal_word BadRange = codes "bad-range"
refusal_word ChipAddress = codes "chip-address"
refusal_word Over = codes "over"
refusal_word BadCount = codes "bad-count"
refusal_word NoLine = codes "no-line"
refusal_word BadMsi = codes "bad-msi"

-- a refusal, and whether it holds
abbrev pub Reason : Type 0
Reason = Bool × Refusal

-- the first refusal of the list that holds, or none
abbrev pub first_of : List Reason → Option Refusal
first_of [] = None
first_of (reason ∷ reasons) = if reason.0 then Some reason.1 else first_of reasons
