-- Fields of a line, each right or wrong by a cause. Of several causes the first in their order is given.
use Rattle.std.specs.Prelude.{◌≡◌, ℕ, nat_le, Ok, Err, if◌then◌else◌}
use Rattle.std.specs.declared.result.Result.{Result}
use Rattle.irq_base.specs.declared.fault.LineCause.{LineCause}
use Rattle.irq_base.specs.declared.fault.LineCause.TheVariants.{Cut, Char, End, Word, Count, Number, Actor}
use Rattle.script_text.specs.declared.causes.LineFault.{LineFault}
use Rattle.script_text.specs.declared.causes.LineFault.TheVariants.{Bad, NoMemory}

-- the order in which causes are tried
abbrev pub order_of : LineCause → ℕ
order_of Cut = 0
order_of Char = 1
order_of End = 2
order_of Word = 3
order_of Count = 4
order_of Number = 5
order_of Actor = 6

-- the first of two causes
abbrev pub first_of : LineCause → LineCause → LineCause
first_of a b = if nat_le (order_of a) (order_of b) then a else b

-- two, three or five fields; where several are wrong, the cause is the first of theirs
abbrev pub both : {A B : Type 0} → Result A LineCause → Result B LineCause → Result (A × B) LineCause
both (Ok a) (Ok b) = Ok (a, b)
both (Ok a) (Err e) = Err e
both (Err d) (Ok b) = Err d
both (Err d) (Err e) = Err (first_of d e)

abbrev pub all_three : {A B C : Type 0} → Result A LineCause → Result B LineCause → Result C LineCause
    → Result (A × B × C) LineCause
all_three a b c = elim (both (both a b) c) [ Ok w ↦ Ok (w.0.0, w.0.1, w.1) | Err e ↦ Err e ]

abbrev pub all_five : {A B C D E : Type 0} → Result A LineCause → Result B LineCause → Result C LineCause
    → Result D LineCause → Result E LineCause → Result (A × B × C × D × E) LineCause
all_five a b c d e = elim (all_three (all_three a b c) d e) [ Ok w ↦ Ok (w.0.0, w.0.1, w.0.2, w.1, w.2) | Err e ↦ Err e ]

-- what fields make where all are right: `of_two Msi (hex64 address) (hex32 payload)`
abbrev pub of_one : {A X : Type 0} → (A → X) → Result A LineCause → Result X LineCause
of_one f a = elim a [ Ok a ↦ Ok (f a) | Err e ↦ Err e ]

abbrev pub of_two : {A B X : Type 0} → (A → B → X) → Result A LineCause → Result B LineCause → Result X LineCause
of_two f a b = elim (both a b) [ Ok w ↦ Ok (f w.0 w.1) | Err e ↦ Err e ]

abbrev pub of_three : {A B C X : Type 0} → (A → B → C → X) → Result A LineCause → Result B LineCause → Result C LineCause
    → Result X LineCause
of_three f a b c = elim (all_three a b c) [ Ok w ↦ Ok (f w.0 w.1 w.2) | Err e ↦ Err e ]

abbrev pub of_five : {A B C D E X : Type 0} → (A → B → C → D → E → X) → Result A LineCause → Result B LineCause
    → Result C LineCause → Result D LineCause → Result E LineCause → Result X LineCause
of_five f a b c d e = elim (all_five a b c d e) [ Ok w ↦ Ok (f w.0 w.1 w.2 w.3 w.4) | Err e ↦ Err e ]

-- where something was not read for want of memory, nothing is said
abbrev pub Says : {A : Type 0} → Result A LineFault → Result A LineCause → Type 0
Says (Ok x) read = read ≡ Ok x
Says (Err (Bad cause)) read = read ≡ Err cause
Says (Err NoMemory) read = Unit {0}
