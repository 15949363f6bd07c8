-- Which vector goes first (SDM volume 3, task and processor priorities).
use Rattle.std.specs.Prelude.{ℕ, ◌*◌, ◌/◌, nat_lt, nat_le, if◌then◌else◌, Some, None}
use Rattle.std.specs.declared.option.Option.{Option}
use Rattle.std.specs.FinSet as set
use Rattle.irq_bits.specs.Members.{Numbers, greatest_vector}
use Rattle.lapic.specs.Registers.{LocalApic}

-- the priority class of a vector, or of a priority
abbrev pub class_of : ℕ → ℕ
class_of vector = vector / 16

-- TPR where its class is at least that of the highest vector in service (on a tie of classes this board's own rule), or none is
-- in service; else that vector with its low four bits 0
abbrev pub priority_over : ℕ → Option ℕ → ℕ
priority_over tpr None = tpr
priority_over tpr (Some vector) = if nat_le (class_of vector) (class_of tpr) then tpr else 16 * class_of vector

-- the processor priority, PPR
abbrev pub ppr_of : LocalApic → ℕ
ppr_of a = priority_over a.registers.tpr (greatest_vector a.isr)

-- the greatest vector whose class exceeds that of a priority, or none
unfoldable pub greatest_above : Numbers → ℕ → Option ℕ
greatest_above vectors priority = greatest_vector (set.retain vectors (λ vector. nat_lt (class_of priority) (class_of vector)))

-- the greatest request whose class exceeds that of PPR, or none, whether the APIC is enabled or not (this board's own rule)
abbrev pub giveable_of : LocalApic → Option ℕ
giveable_of a = greatest_above a.irr (ppr_of a)

-- a vector goes from the requests into service
abbrev pub given : LocalApic → Option ℕ → LocalApic
given a None = a
given a (Some vector) = record a { irr = set.remove a.irr vector; isr = set.insert a.isr vector }

-- a vector goes out of service
abbrev pub without_service : LocalApic → Option ℕ → LocalApic
without_service a None = a
without_service a (Some vector) = record a { isr = set.remove a.isr vector }

-- after an end of interrupt: the greatest vector is out of service
abbrev pub ended : LocalApic → LocalApic
ended a = without_service a (greatest_vector a.isr)
