-- For which processors a message is, and which of them it is to reach (SDM volume 3, determining IPI destination, lowest
-- priority delivery, interrupt command register).
use Rattle.std.specs.Prelude.{◌≡◌, ℕ, ◌≤◌, Bool, true, not, ◌&&◌, ◌||◌, nat_eq, nat_le, List, [], ◌∷◌, All, Any, filter, Some, None}
use Rattle.std.specs.List.{list_all}
use Rattle.std.specs.declared.option.Option.{Option}
use Rattle.std.specs.FinSet as set
use Rattle.irq_bits.specs.Members.{Numbers}
use Rattle.irq_base.specs.declared.message.Mode.{Mode}
use Rattle.irq_base.specs.declared.message.Mode.TheVariants.{Lowest}
use Rattle.irq_base.specs.declared.message.Message.{Message}
use Rattle.lapic.specs.declared.outcome.Shorthand.{Shorthand}
use Rattle.lapic.specs.declared.outcome.Shorthand.TheVariants.{Field, OwnOnly, All as Everyone, Others}
use Rattle.lapic.specs.Registers.{LocalApic, is_enabled}
use Rattle.lapic.specs.Priority.{ppr_of}
use Rattle.lapic.specs.Messages.{is_nmi, dest_view}
use Rattle.dest_match.specs.Match.{does_match}

-- a processor of the board, with its local APIC as it is
pub record Processor : Type 0 where
  pub number : ℕ
  pub apic : LocalApic

-- ---- the named processors

-- whether a processor is one that the destination matches, or that the shorthand of an interprocessor interrupt tells
abbrev pub is_addressed : Message → Option (ℕ × Shorthand) → Processor → Bool
is_addressed message None p = does_match (dest_view p.apic) message
is_addressed message (Some (sender, Field)) p = does_match (dest_view p.apic) message
is_addressed message (Some (sender, OwnOnly)) p = nat_eq p.number sender
is_addressed message (Some (sender, Everyone)) p = true
is_addressed message (Some (sender, Others)) p = not (nat_eq p.number sender)

-- whether the local APIC hears messages of the mode: an NMI always, any other while it is enabled
abbrev pub does_hear : Mode → LocalApic → Bool
does_hear mode apic = is_nmi mode || is_enabled apic

-- whether a message names the processor
abbrev pub is_named : Message → Option (ℕ × Shorthand) → Processor → Bool
is_named message from p = is_addressed message from p && does_hear message.mode p.apic

-- the named ones of some processors, in their order
abbrev pub named_by : Message → Option (ℕ × Shorthand) → List Processor → List Processor
named_by message from processors = filter (is_named message from) processors

-- ---- the chosen processors

-- whether no processor of the list has a lower priority
abbrev pub is_lowest : List Processor → Processor → Bool
is_lowest named p = list_all (λ other. nat_le (ppr_of p.apic) (ppr_of other.apic)) named

-- those of lowest priority, in their order
abbrev pub lowest_of : List Processor → List Processor
lowest_of named = filter (is_lowest named) named

-- the first of a list alone, or nobody
abbrev pub first_alone : List Processor → List Processor
first_alone [] = []
first_alone (p ∷ ps) = p ∷ []

-- the first of a list, if there is one, else of another
abbrev pub first_or : List Processor → List Processor → List Processor
first_or [] others = first_alone others
first_or (p ∷ ps) others = p ∷ []

-- the first that is wished for, else the first
abbrev pub preferred : Numbers → List Processor → List Processor
preferred wish processors = first_or (filter (λ p. set.contains wish p.number) processors) processors

-- the chosen processors under a wish: one of those of lowest priority for a message sent to the lowest, else all named ones
abbrev pub chosen_of : Mode → Numbers → List Processor → List Processor
chosen_of Lowest wish named = preferred wish (lowest_of named)
chosen_of mode wish named = named

-- ---- which sets of processors a message may reach, whatever is wished

-- the numbers of some processors
abbrev pub numbers_of : List Processor → Numbers
numbers_of [] = set.empty
numbers_of (p ∷ ps) = set.insert (numbers_of ps) p.number

-- no named processor has a lower priority than p, and the set is p alone
pub record IsOneOfLowest (named : List Processor) (reached : Numbers) (p : Processor) : Type 0 where
  pub lowest : All (λ other. ppr_of p.apic ≤ ppr_of other.apic) named
  pub alone : reached ≡ set.insert set.empty p.number

-- the sets that may be reached: for a message sent to the lowest any one named processor of lowest priority (this board's own
-- rule: any of them on a tie), else all named ones
abbrev pub MayReach : Mode → List Processor → Numbers → Type 0
MayReach Lowest named reached = Any (IsOneOfLowest named reached) named
MayReach mode named reached = reached ≡ numbers_of named
