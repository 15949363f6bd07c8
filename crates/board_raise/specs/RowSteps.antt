-- How a sending goes through a row of local APICs, processor by processor.
use Rattle.std.specs.Prelude.{◌≡◌, ℕ, zero, suc, ◌+◌, ◌-◌, Bool, true, false, not, nat_eq, nat_lt, List, [], ◌∷◌, if◌then◌else◌, Some, None}
use Rattle.std.specs.List.{list_all}
use Rattle.std.specs.declared.option.Option.{Option}
use Rattle.std.specs.FinSet as set
use Rattle.irq_bits.specs.Members.{Numbers}
use Rattle.irq_base.specs.declared.message.Message.{Message}
use Rattle.irq_base.specs.declared.message.Mode.{Mode}
use Rattle.irq_base.specs.declared.message.Mode.TheVariants.{Lowest}
use Rattle.irq_base.specs.declared.message.DestView.{DestView}
use Rattle.dest_match.specs.Match.{does_match}
use Rattle.lapic.specs.declared.outcome.Accepted.{Accepted}
use Rattle.lapic.specs.declared.outcome.Accepted.TheVariants.{Stood}
use Rattle.lapic.specs.declared.outcome.Shorthand.{Shorthand}
use Rattle.lapic.specs.declared.outcome.Shorthand.TheVariants.{Field, OwnOnly, All, Others}
use Rattle.lapic.specs.Registers.{LocalApic}
use Rattle.lapic.specs.Priority.{ppr_of}
use Rattle.lapic.specs.Messages.{answer_to}
use Rattle.board_model.specs.Statuses.{Sent}
use Rattle.board_raise.specs.declared.sending.Naming.{Naming}
use Rattle.board_raise.specs.declared.sending.Reached.{Reached}
use Rattle.board_raise.specs.Named.{Processor, is_named}
use Rattle.board_raise.specs.OnRow.{Row, apic_in, accepted_at}

-- ---- numbers in order

-- so many numbers, from the first on
unfoldable pub numbers_from : ℕ → ℕ → List ℕ
numbers_from first zero = []
numbers_from first (suc count) = first ∷ numbers_from (first + 1) count

-- the numbers from the first on, below the end
unfoldable pub numbers_between : ℕ → ℕ → List ℕ
numbers_between first end = numbers_from first (end - first)

-- the numbers of these processors go up
unfoldable pub Ascends : List Processor → Type 0
Ascends [] = Unit {0}
Ascends (p ∷ ps) = (list_all (λ q. nat_lt p.number q.number) ps ≡ true) × Ascends ps

-- ---- the named processors

-- whether a processor of this view is addressed
abbrev pub is_addressed_as : DestView → ℕ → Message → Option (ℕ × Shorthand) → Bool
is_addressed_as view n message None = does_match view message
is_addressed_as view n message (Some (sender, Field)) = does_match view message
is_addressed_as view n message (Some (sender, OwnOnly)) = nat_eq n sender
is_addressed_as view n message (Some (sender, All)) = true
is_addressed_as view n message (Some (sender, Others)) = not (nat_eq n sender)

-- the processor priority of a processor, if its local APIC is in hand and the message names it
abbrev pub priority_named : ℕ → Option LocalApic → Message → Option (ℕ × Shorthand) → Option ℕ
priority_named n None message from = None
priority_named n (Some apic) message from = if is_named message from (record { number = n; apic = apic }) then Some (ppr_of apic) else None

-- one more is named: it is the only lowest, or one of them, or none of them
abbrev pub with_named : Naming → ℕ → ℕ → Naming
with_named s n priority =
    if nat_lt priority s.least then record { all = set.insert s.all n; lowest = set.insert set.empty n; least = priority }
    else if nat_eq priority s.least then record { all = set.insert s.all n; lowest = set.insert s.lowest n; least = s.least }
    else record { all = set.insert s.all n; lowest = s.lowest; least = s.least }

-- what is told of these processors, the last one first
unfoldable pub naming_of : List Processor → Naming
naming_of [] = record { all = set.empty; lowest = set.empty; least = 255 }
naming_of (p ∷ ps) = with_named (naming_of ps) p.number (ppr_of p.apic)

-- ---- the processors that accept

-- what is reached, as the model has it
abbrev pub sent_of : Reached → Sent
sent_of reached = record { new = reached.new; stood = reached.stood }

-- what a processor answers, if its local APIC is in hand
abbrev pub answer_at : Option LocalApic → Message → Option Accepted
answer_at None message = None
answer_at (Some apic) message = Some (answer_to apic message)

-- one more processor has answered, where one is there: its request stood before, or else it is new
abbrev pub with_answer : Reached → ℕ → Option Accepted → Reached
with_answer s n None = s
with_answer s n (Some Stood) = record s { stood = set.insert s.stood n }
with_answer s n (Some answer) = record s { new = set.insert s.new n }

-- what is reached where each of these processors that is in the set accepts the message and answers, one after another
unfoldable pub reached_after : Message → Numbers → List ℕ → Row → Reached → Reached
reached_after message takers [] row reached = reached
reached_after message takers (n ∷ ns) row reached =
    if set.contains takers n then reached_after message takers ns (accepted_at n (apic_in row n) message row)
    (with_answer reached n (answer_at (apic_in row n) message))
    else reached_after message takers ns row reached

-- whether a message goes to one processor of lowest priority (SDM volume 3, lowest priority delivery)
abbrev pub goes_to_lowest : Mode → Bool
goes_to_lowest Lowest = true
goes_to_lowest _ = false
