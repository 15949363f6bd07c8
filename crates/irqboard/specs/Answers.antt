-- What the program answers, and when.
use Rattle.std.specs.Prelude.{◌≡◌, ℕ, ◌<◌, ◌≤◌, List, [], ◌∷◌, ◌++◌, length, take, codes, Some, None}
use Rattle.std.specs.declared.option.Option.{Option}
use Rattle.std.specs.Fmt.{decimal}
use Rattle.irq_base.specs.declared.reply.Spent.{Spent as Limit}
use Rattle.irq_base.specs.declared.reply.Spent.TheVariants.{Calls, Publications}
use Rattle.irq_base.specs.Text.{line_cause_text}
use Rattle.irqboard.specs.Input.{IsBeyond, HasRead}
use Rattle.irqboard.specs.Works.{Works, HasBadLine, IsInGrammar}
use Rattle.irqboard.specs.declared.command.Command.{Command}
use Rattle.irqboard.specs.declared.usage.TheConstants.{USAGE}
use Rattle.irqboard.specs.declared.outcome.Outcome.{Outcome}
use Rattle.irqboard.specs.declared.outcome.Outcome.TheVariants.{Fine, Usage, BadInput, ReadFault, WriteFault, NoMemory, TooLong, NotLegal, Spent}

-- the exit status
abbrev pub status_of : Outcome → ℕ
status_of Fine = 0
status_of Usage = 1
status_of (BadInput line cause) = 2
status_of ReadFault = 3
status_of WriteFault = 4
status_of NoMemory = 5
status_of (TooLong bytes) = 6
status_of (NotLegal at flaw) = 7
status_of (Spent limit) = 8

-- a limit that is reached
abbrev pub limit_text : Limit → List ℕ
limit_text (Calls at) = decimal at ++ codes " calls"
limit_text (Publications at) = decimal at ++ codes " publications"

-- the line for standard error, without its line feed; empty where there is none
abbrev pub message_of : Outcome → List ℕ
message_of Fine = []
message_of Usage = USAGE.now
message_of (BadInput line cause) = codes "line " ++ (decimal line ++ (codes ": " ++ line_cause_text cause))
message_of ReadFault = codes "read fault"
message_of WriteFault = codes "write fault"
message_of NoMemory = codes "no memory"
message_of (TooLong bytes) = codes "input longer than 16777216 bytes"
message_of (NotLegal at flaw) = []
message_of (Spent limit) = codes "spent at " ++ limit_text limit

-- what is said on standard error: the line with its line feed, or nothing
abbrev pub with_feed : List ℕ → List ℕ
with_feed [] = []
with_feed (b ∷ bs) = (b ∷ bs) ++ codes "\n"

abbrev pub said_of : Outcome → List ℕ
said_of outcome = with_feed (message_of outcome)

-- more than the limit was read, by at most 4,096 bytes, exactly where that is the answer; where the words are none, nothing was read
abbrev pub ReadsRightly : Option (List ℕ) → Option (List ℕ) → Outcome → Type 0
ReadsRightly old new (TooLong bytes) = IsBeyond bytes × HasRead old new (λ n. n ≡ bytes)
ReadsRightly old new Usage = new ≡ old
ReadsRightly old new _ = HasRead old new (λ n. n ≤ 16777216)

-- the work of a command on an input was done, with this answer
abbrev pub Did : Command → List ℕ → Outcome → Type 0
Did command input outcome = (text : List ℕ) × Works command input outcome text

-- What an answer tells of the input, where the source tells it: that it was read whole, and has this first bad line with this cause; or
-- that it was read whole and the work was done, with this answer, or before the sink failed.
abbrev pub JudgesRightly : Command → Option (List ℕ) → Option (List ℕ) → Outcome → Type 0
JudgesRightly command (Some input) left (BadInput line cause) = HasBadLine command input line cause × (left ≡ Some [])
JudgesRightly command (Some input) left Fine = Did command input Fine × (left ≡ Some [])
JudgesRightly command (Some input) left (NotLegal at flaw) = Did command input (NotLegal at flaw) × (left ≡ Some [])
JudgesRightly command (Some input) left (Spent limit) = Did command input (Spent limit) × (left ≡ Some [])
JudgesRightly command (Some input) left WriteFault = ((outcome : Outcome) × Did command input outcome) × (left ≡ Some [])
JudgesRightly command _ left _ = Unit {0}

-- the whole text of the work was written
abbrev pub Wrote : Command → List ℕ → Outcome → List ℕ → Option (List ℕ) → Type 0
Wrote command input outcome held holds = (text : List ℕ) × Works command input outcome text × (holds ≡ Some (held ++ text))

-- a front of it was written that is not all of it
abbrev pub WroteFront : Command → List ℕ → List ℕ → Option (List ℕ) → Type 0
WroteFront command input held holds =
    (outcome : Outcome) × (text : List ℕ) × (n : ℕ) × Works command input outcome text × (n < length text)
    × (holds ≡ Some (held ++ take n text))

-- what an answer tells of the output, where the source tells the input and the sink what it holds: the whole text was written, or a
-- front of it
abbrev pub WritesRightly : Command → Option (List ℕ) → Option (List ℕ) → Option (List ℕ) → Outcome → Type 0
WritesRightly command (Some input) (Some held) holds Fine = Wrote command input Fine held holds
WritesRightly command (Some input) (Some held) holds (NotLegal at flaw) = Wrote command input (NotLegal at flaw) held holds
WritesRightly command (Some input) (Some held) holds (Spent limit) = Wrote command input (Spent limit) held holds
WritesRightly command (Some input) (Some held) holds WriteFault = WroteFront command input held holds
WritesRightly command _ _ holds _ = Unit {0}

-- where no work was done, nothing was written
abbrev pub KeepsSilent : Option (List ℕ) → Option (List ℕ) → Outcome → Type 0
KeepsSilent old new Fine = Unit {0}
KeepsSilent old new (NotLegal at flaw) = Unit {0}
KeepsSilent old new (Spent limit) = Unit {0}
KeepsSilent old new WriteFault = Unit {0}
KeepsSilent old new _ = new ≡ old

-- an input in the grammar and within the limit
abbrev pub IsGood : Command → Option (List ℕ) → Type 0
IsGood command (Some input) = IsInGrammar command input × (length input ≤ 16777216)
IsGood command None = ⊥

-- the work was done, with this answer, or there was want of memory
abbrev pub IsAnswered : Command → Option (List ℕ) → Outcome → Type 0
IsAnswered command _ NoMemory = Unit {0}
IsAnswered command (Some input) outcome = Did command input outcome
IsAnswered command None outcome = Unit {0}
