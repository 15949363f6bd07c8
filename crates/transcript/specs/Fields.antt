-- How the fields of a transcript's lines are read: statuses, replies and events. Each judges itself, as those of a script do.
use Rattle.std.specs.Prelude.{ℕ, Bool, true, false, nat_eq, List, [], ◌∷◌, take, drop, length, codes, Some, None, Ok, Err, if◌then◌else◌}
use Rattle.std.specs.declared.option.Option.{Option}
use Rattle.std.specs.declared.result.Result.{Result}
use Rattle.irq_bits.specs.Members.{Numbers, members_of}
use Rattle.irq_base.specs.Refusals.{refusal_word}
use Rattle.irq_base.specs.declared.event.Event.{Event}
use Rattle.irq_base.specs.declared.event.Event.TheVariants.{Acked, Resampled, Watched, Rang, Injected, Resent, Ipi}
use Rattle.irq_base.specs.declared.event.Pin.{Pin}
use Rattle.irq_base.specs.declared.event.Pin.TheVariants.{Pic, Ioapic}
use Rattle.irq_base.specs.declared.fault.LineCause.{LineCause}
use Rattle.irq_base.specs.declared.fault.LineCause.TheVariants.{Word, Count, Number}
use Rattle.irq_base.specs.declared.refusal.Refusal.{Refusal}
use Rattle.irq_base.specs.declared.refusal.Refusal.TheVariants.{NoGsi, NoCounter, BadRow, ChipTwice, Mixed, PinTwice, Busy}
use Rattle.irq_base.specs.declared.refusal.Refusal.TheVariants.{RoleClash, Full, Exists, NotThere, BadRange, ChipAddress, Over}
use Rattle.irq_base.specs.declared.refusal.Refusal.TheVariants.{BadCount, NoLine, BadMsi}
use Rattle.irq_base.specs.declared.reply.Reply.{Reply}
use Rattle.irq_base.specs.declared.reply.Reply.TheVariants.{Signal, Done, Count as Counted, Empty, Removed, Value, Exit, Vector}
use Rattle.irq_base.specs.declared.reply.Reply.TheVariants.{Extint, Nmi, Ended, Nothing, Held, Refused}
use Rattle.irq_base.specs.declared.status.Cause.{Cause}
use Rattle.irq_base.specs.declared.status.Cause.TheVariants.{Masked, Unrouted, NoProcessor, BadVector, Mode}
use Rattle.irq_base.specs.declared.status.Status.{Status}
use Rattle.irq_base.specs.declared.status.Status.TheVariants.{Delivered, Coalesced, Ignored, Lowered}
use Rattle.script_text.specs.Causes.{of_one, of_two, of_three}
use Rattle.script_text.specs.Words.{same_text, none, one, two}
use Rattle.script_text.specs.Numbers.{hex64, hex8, number64, number16, number8}
use Rattle.script_text.specs.Commands.{fixed_word, three_fields}
use Rattle.irq_bits.specs.declared.limits.TheConstants.{MAX_CPUS}

-- ---- statuses

-- a set of processors behind its label, as `new=`: the word of the set in hexadecimal
abbrev pub set_field : List ℕ → List ℕ → Result Numbers LineCause
set_field label word =
    if same_text (take (length label) word) label then of_one (λ bits. members_of MAX_CPUS bits) (hex64 (drop (length label) word))
    else Err Number

-- whether the 8259A newly took it
abbrev pub pic_field : List ℕ → Result Bool LineCause
pic_field word = if same_text word (codes "pic=1") then Ok true else if same_text word (codes "pic=0") then Ok false else Err Number

abbrev pub cause : List ℕ → Result Cause LineCause
cause word =
    if same_text word (codes "masked") then Ok Masked
    else if same_text word (codes "unrouted") then Ok Unrouted
    else if same_text word (codes "no-processor") then Ok NoProcessor
    else if same_text word (codes "bad-vector") then Ok BadVector
    else if same_text word (codes "mode") then Ok Mode
    else Err Count

-- `new=HEX stood=HEX pic=0` or `pic=1`
abbrev pub delivered : List (List ℕ) → Result Status LineCause
delivered words =
    three_fields (λ new stood pic. Delivered new stood pic) (set_field (codes "new=")) (set_field (codes "stood=")) pic_field words

abbrev pub status_named : List ℕ → List (List ℕ) → Result Status LineCause
status_named name words =
    if same_text name (codes "delivered") then delivered words
    else if same_text name (codes "coalesced") then of_one (λ stood. Coalesced stood) (one words (set_field (codes "stood=")))
    else if same_text name (codes "ignored") then of_one (λ c. Ignored c) (one words cause)
    else if same_text name (codes "lowered") then none words Lowered
    else Err Word

abbrev pub status : List (List ℕ) → Result Status LineCause
status [] = Err Word
status (name ∷ words) = status_named name words

-- ---- refusals

-- the refusal that has this number
abbrev pub refusal_of : ℕ → Option Refusal
refusal_of n =
    if nat_eq n 1 then Some NoGsi
    else if nat_eq n 2 then Some NoCounter
    else if nat_eq n 3 then Some BadRow
    else if nat_eq n 4 then Some ChipTwice
    else if nat_eq n 5 then Some Mixed
    else if nat_eq n 6 then Some PinTwice
    else if nat_eq n 7 then Some Busy
    else if nat_eq n 8 then Some RoleClash
    else if nat_eq n 9 then Some Full
    else if nat_eq n 10 then Some Exists
    else if nat_eq n 11 then Some NotThere
    else if nat_eq n 12 then Some BadRange
    else if nat_eq n 13 then Some ChipAddress
    else if nat_eq n 14 then Some Over
    else if nat_eq n 15 then Some BadCount
    else if nat_eq n 16 then Some NoLine
    else if nat_eq n 17 then Some BadMsi
    else None

-- beside a refusal's number stands its own word
abbrev pub worded : Option Refusal → List ℕ → Result Refusal LineCause
worded None word = Err Number
worded (Some refusal) word = if same_text word (refusal_word refusal) then Ok refusal else Err Count

abbrev pub refusal_by : Result ℕ LineCause → List ℕ → Result Refusal LineCause
refusal_by (Ok n) word = worded (refusal_of n) word
refusal_by (Err e) word = Err e

abbrev pub refused : List (List ℕ) → Result Reply LineCause
refused words = two words (λ n word. of_one (λ refusal. Refused refusal) (refusal_by (number8 n) word))

-- ---- replies

-- what stands behind the arrow of an entry
abbrev pub reply : List (List ℕ) → Result Reply LineCause
reply [] = Err Word
reply (name ∷ words) =
    if same_text name (codes "done") then none words Done
    else if same_text name (codes "count") then of_one (λ n. Counted n) (one words number64)
    else if same_text name (codes "empty") then none words Empty
    else if same_text name (codes "removed") then of_one (λ n. Removed n) (one words number8)
    else if same_text name (codes "value") then of_one (λ v. Value v) (one words hex64)
    else if same_text name (codes "exit") then none words Exit
    else if same_text name (codes "vector") then of_one (λ v. Vector v) (one words hex8)
    else if same_text name (codes "extint") then of_one (λ v. Extint v) (one words hex8)
    else if same_text name (codes "nmi") then none words Nmi
    else if same_text name (codes "ended") then of_one (λ v. Ended v) (one words hex8)
    else if same_text name (codes "nothing") then none words Nothing
    else if same_text name (codes "held") then of_one (λ n. Held n) (one words number64)
    else if same_text name (codes "refused") then refused words
    else of_one (λ s. Signal s) (status_named name words)

-- ---- events

abbrev pub pin : List ℕ → List ℕ → Result Pin LineCause
pin kind n =
    if same_text kind (codes "pic") then of_one (λ n. Pic n) (number8 n)
    else if same_text kind (codes "io") then of_one (λ n. Ioapic n) (number8 n)
    else Err Count

-- a GSI, or a dash for none
abbrev pub gsi_or_none : List ℕ → Result (Option ℕ) LineCause
gsi_or_none word = if same_text word (codes "-") then Ok None else of_one (λ g. Some g) (number16 word)

-- `pic N gsi G` or `io N gsi G`
abbrev pub acked : List (List ℕ) → Result Event LineCause
acked (kind ∷ n ∷ label ∷ gsi ∷ []) = of_three (λ p _ g. Acked p g) (pin kind n) (fixed_word (codes "gsi") label) (gsi_or_none gsi)
acked _ = Err Count

-- `gsi G STATUS`; the status begins with the third word
abbrev pub injected : List (List ℕ) → Result Event LineCause
injected (label ∷ gsi ∷ words) = of_three (λ _ g s. Injected g s) (fixed_word (codes "gsi") label) (number16 gsi) (status words)
injected _ = Err Word

-- `N STATUS`
abbrev pub resent : List (List ℕ) → Result Event LineCause
resent (n ∷ words) = of_two (λ n s. Resent n s) (number8 n) (status words)
resent [] = Err Word

-- `resampled C`, `watched C` or `rang C`
abbrev pub signalled : List ℕ → List (List ℕ) → Result Event LineCause
signalled name words =
    if same_text name (codes "resampled") then of_one (λ c. Resampled c) (one words number16)
    else if same_text name (codes "watched") then of_one (λ c. Watched c) (one words number16)
    else if same_text name (codes "rang") then of_one (λ c. Rang c) (one words number16)
    else Err Word

-- what stands behind the `+` of an event's line
abbrev pub event : List (List ℕ) → Result Event LineCause
event [] = Err Word
event (name ∷ words) =
    if same_text name (codes "acked") then acked words
    else if same_text name (codes "injected") then injected words
    else if same_text name (codes "resent") then resent words
    else if same_text name (codes "ipi") then of_one (λ s. Ipi s) (status words)
    else signalled name words
