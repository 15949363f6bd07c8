-- What a load and a store at an offset do (SDM volume 3, local APIC register address map).
use Rattle.std.specs.Prelude.{◌≡◌, ℕ, ◌-◌, ◌*◌, ◌^◌, ◌==◌, ◌&&◌, bit_and, bit_or, if◌then◌else◌, map, Some, None}
use Rattle.std.specs.declared.option.Option.{Option}
use Rattle.irq_bits.specs.Members.{row_of, greatest_vector}
use Rattle.reg_table.specs.declared.row.RegRow.{RegRow}
use Rattle.lapic.specs.declared.register.Register.{Register}
use Rattle.lapic.specs.declared.register.Register.TheVariants.{Id, Tpr, Ppr, Eoi, Ldr, Dfr, Svr, Isr, Tmr, Irr, Esr, IcrLow, IcrHigh}
use Rattle.lapic.specs.declared.register.Register.TheVariants.{Lint0, Lint1}
use Rattle.lapic.specs.declared.outcome.Effect.{Effect}
use Rattle.lapic.specs.declared.outcome.Effect.TheVariants.{Plain, Ended, Send}
use Rattle.lapic.specs.Registers.{Registers, LocalApic, row_for, reset_of, register_at, register_rows, power_on}
use Rattle.lapic.specs.Priority.{ppr_of, ended}
use Rattle.lapic.specs.Messages.{ipi_of}

-- the value of a register; ISR, TMR and IRR give 32 vectors a word, and the EOI register gives 0
abbrev pub value_of : LocalApic → Register → ℕ
value_of a Id = a.number * 2 ^ 24
value_of a Tpr = a.registers.tpr
value_of a Ppr = ppr_of a
value_of a Ldr = a.registers.ldr
value_of a Dfr = a.registers.dfr
value_of a Svr = a.registers.svr
value_of a (Isr k) = row_of k a.isr
value_of a (Tmr k) = row_of k a.tmr
value_of a (Irr k) = row_of k a.irr
value_of a Esr = a.registers.esr
value_of a IcrLow = a.registers.icr_low
value_of a IcrHigh = a.registers.icr_high
value_of a Lint0 = a.registers.lint0
value_of a Lint1 = a.registers.lint1
value_of a register = reset_of register

-- the bits of a value that a register keeps
abbrev pub kept : Register → ℕ → ℕ
kept register value = bit_and value (row_for register).writable

-- the APIC with other registers
abbrev pub with_registers : LocalApic → Registers → LocalApic
with_registers a registers = record a { registers = registers }

-- the APIC after a store to a register: bits 27 to 0 of DFR read 1, a write to ESR moves the errors recorded into it (this board's
-- own rule), and any write to the EOI register is an end of interrupt
abbrev pub stored : LocalApic → Register → ℕ → LocalApic
stored a Tpr value = with_registers a (record a.registers { tpr = kept Tpr value })
stored a Eoi value = ended a
stored a Ldr value = with_registers a (record a.registers { ldr = kept Ldr value })
stored a Dfr value = with_registers a (record a.registers { dfr = bit_or (kept Dfr value) (2 ^ 28 - 1) })
stored a Svr value = with_registers a (record a.registers { svr = kept Svr value })
stored a Esr value = with_registers a (record a.registers { esr = a.registers.errors; errors = 0 })
stored a IcrLow value = with_registers a (record a.registers { icr_low = kept IcrLow value })
stored a IcrHigh value = with_registers a (record a.registers { icr_high = kept IcrHigh value })
stored a Lint0 value = with_registers a (record a.registers { lint0 = kept Lint0 value })
stored a Lint1 value = with_registers a (record a.registers { lint1 = kept Lint1 value })
stored a _ value = a

-- what a store to a register brings about: the EOI register ends a vector, ICR low sends a message
abbrev pub effect_of : LocalApic → Register → ℕ → Effect
effect_of a Eoi value = Ended (greatest_vector a.isr)
effect_of a IcrLow value = Send (ipi_of (kept IcrLow value) a.registers.icr_high)
effect_of a _ value = Plain

-- the value of a register, or 0 where there is none
abbrev pub loaded : LocalApic → Option Register → ℕ
loaded a (Some register) = value_of a register
loaded a None = 0

-- a load at an offset
abbrev pub load_of : LocalApic → ℕ → ℕ
load_of a offset = loaded a (register_at offset)

-- the APIC after a store to a register, or as it was where there is none
abbrev pub stored_at : LocalApic → Option Register → ℕ → LocalApic
stored_at a (Some register) value = stored a register value
stored_at a None value = a

-- the APIC after a store at an offset
abbrev pub store_to : LocalApic → ℕ → ℕ → LocalApic
store_to a offset value = stored_at a (register_at offset) value

-- what a store to a register brings about, or nothing where there is none
abbrev pub effect_at : LocalApic → Option Register → ℕ → Effect
effect_at a (Some register) value = effect_of a register value
effect_at a None value = Plain

-- what a store at an offset brings about
abbrev pub store_effect : LocalApic → ℕ → ℕ → Effect
store_effect a offset value = effect_at a (register_at offset) value

-- ---- power-on

-- the value of a row on processor `number` at power-on: the identity is the number, LINT0 of processor 0 is unmasked in mode
-- ExtINT, and any other is as the row tells
abbrev pub start_of : ℕ → RegRow → ℕ
start_of number row =
    if row.offset == 0x20 then number * 2 ^ 24
    else if row.offset == 0x350 && number == 0 then 0x00000700
    else row.reset

-- what each register loads at power-on is the value of its row
abbrev pub RegistersStartAsTold : ℕ → Type 0
RegistersStartAsTold number = map (λ row. load_of (power_on number) row.offset) register_rows ≡ map (start_of number) register_rows
