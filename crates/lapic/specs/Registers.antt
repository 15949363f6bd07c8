-- A local APIC and the table of its registers (SDM volume 3, local APIC register address map).
use Rattle.std.specs.Prelude.{ℕ, ◌+◌, ◌*◌, Bool, true, false, ◌==◌, nat_lt, List, [], ◌∷◌, map, if◌then◌else◌, refl}
use Rattle.std.specs.declared.option.Option.{Option}
use Rattle.std.specs.Coded.{Coded, code_by, coded×, coded_ℕ, coded_bool}
use Rattle.std.specs.List.{find}
use Rattle.std.specs.FinSet as set
use Rattle.irq_bits.specs.Members.{Numbers, numbers_code, is_set}
use Rattle.reg_table.specs.declared.row.RegRow.{RegRow}
use Rattle.lapic.specs.declared.register.Register.{Register}
use Rattle.lapic.specs.declared.register.Register.TheVariants.{Id, Version, Tpr, Ppr, Eoi, Ldr, Dfr, Svr, Isr, Tmr, Irr, Esr, Cmci}
use Rattle.lapic.specs.declared.register.Register.TheVariants.{IcrLow, IcrHigh, Timer, Thermal, Performance, Lint0, Lint1, Error}

-- the registers that are written, each by the value that a load gives, and the errors recorded since ESR was last written
pub record Registers : Type 0 where
  pub tpr : ℕ
  pub ldr : ℕ
  pub dfr : ℕ
  pub svr : ℕ
  pub esr : ℕ
  pub errors : ℕ
  pub icr_low : ℕ
  pub icr_high : ℕ
  pub lint0 : ℕ
  pub lint1 : ℕ

-- one processor's APIC: the vectors requested, in service and level triggered, and whether an NMI is pending
pub record LocalApic : Type 0 where
  pub number : ℕ
  pub irr : Numbers
  pub isr : Numbers
  pub tmr : Numbers
  pub nmi : Bool
  pub registers : Registers

-- a row of the table, of a register that is read whole
abbrev pub row : ℕ → ℕ → ℕ → RegRow
row offset writable reset = record { offset = offset; readable = 0xffffffff; writable = writable; reset = reset }

-- each register's offset, writable bits and value at power-on; the EOI register alone is not to be read, and the identity,
-- PPR and LINT0 of processor 0 have values of their own. The version, that the identity cannot be written, and that the CMCI,
-- timer, thermal, performance and error entries are left out, each reading as at power-on, are this board's own rule
abbrev pub row_for : Register → RegRow
row_for Id = row 0x20 0 0
row_for Version = row 0x30 0 0x00050014
row_for Tpr = row 0x80 0x000000ff 0
row_for Ppr = row 0xa0 0 0
row_for Eoi = record { offset = 0xb0; readable = 0; writable = 0; reset = 0 }
row_for Ldr = row 0xd0 0xff000000 0
row_for Dfr = row 0xe0 0xf0000000 0xffffffff
row_for Svr = row 0xf0 0x000001ff 0x000000ff
row_for (Isr k) = row (0x100 + 16 * k) 0 0
row_for (Tmr k) = row (0x180 + 16 * k) 0 0
row_for (Irr k) = row (0x200 + 16 * k) 0 0
row_for Esr = row 0x280 0 0
row_for Cmci = row 0x2f0 0 0x00010000
row_for IcrLow = row 0x300 0x000ccfff 0
row_for IcrHigh = row 0x310 0xff000000 0
row_for Timer = row 0x320 0 0x00010000
row_for Thermal = row 0x330 0 0x00010000
row_for Performance = row 0x340 0 0x00010000
row_for Lint0 = row 0x350 0x0001a7ff 0x00010000
row_for Lint1 = row 0x360 0x0001a7ff 0x00010000
row_for Error = row 0x370 0 0x00010000

-- all registers; ISR, TMR and IRR have eight words each
unfoldable pub all_registers : List Register
all_registers =
    Id ∷ Version ∷ Tpr ∷ Ppr ∷ Eoi ∷ Ldr ∷ Dfr ∷ Svr
    ∷ Isr 0 ∷ Isr 1 ∷ Isr 2 ∷ Isr 3 ∷ Isr 4 ∷ Isr 5 ∷ Isr 6 ∷ Isr 7
    ∷ Tmr 0 ∷ Tmr 1 ∷ Tmr 2 ∷ Tmr 3 ∷ Tmr 4 ∷ Tmr 5 ∷ Tmr 6 ∷ Tmr 7
    ∷ Irr 0 ∷ Irr 1 ∷ Irr 2 ∷ Irr 3 ∷ Irr 4 ∷ Irr 5 ∷ Irr 6 ∷ Irr 7
    ∷ Esr ∷ Cmci ∷ IcrLow ∷ IcrHigh ∷ Timer ∷ Thermal ∷ Performance ∷ Lint0 ∷ Lint1 ∷ Error ∷ []

-- ISR, TMR and IRR have the words 0 to 7
abbrev pub is_there : Register → Bool
is_there (Isr k) = nat_lt k 8
is_there (Tmr k) = nat_lt k 8
is_there (Irr k) = nat_lt k 8
is_there _ = true

-- the register that lies at an offset, or none
unfoldable pub register_at : ℕ → Option Register
register_at offset = find (λ register. (row_for register).offset == offset) all_registers

-- the rows of all registers
abbrev pub register_rows : List RegRow
register_rows = map row_for all_registers

-- a register's value at power-on
abbrev pub reset_of : Register → ℕ
reset_of register = (row_for register).reset

-- the registers of processor `number` at power-on; LINT0 of processor 0 is unmasked in mode ExtINT, so that the 8259A
-- reaches it (this board's own rule)
abbrev pub registers_at_power_on : ℕ → Registers
registers_at_power_on number = record {
  tpr = reset_of Tpr;
  ldr = reset_of Ldr;
  dfr = reset_of Dfr;
  svr = reset_of Svr;
  esr = reset_of Esr;
  errors = 0;
  icr_low = reset_of IcrLow;
  icr_high = reset_of IcrHigh;
  lint0 = if number == 0 then 0x00000700 else reset_of Lint0;
  lint1 = reset_of Lint1;
}

-- the APIC of processor `number` at power-on
abbrev pub power_on : ℕ → LocalApic
power_on number =
    record {
      number = number;
      irr = set.empty;
      isr = set.empty;
      tmr = set.empty;
      nmi = false;
      registers = registers_at_power_on number;
    }

-- whether the APIC is enabled: bit 8 of SVR
abbrev pub is_enabled : LocalApic → Bool
is_enabled a = is_set a.registers.svr 8

-- an APIC is stored as its fields in pairs
abbrev pub registers_code : Coded Registers
registers_code =
    code_by (ℕ × (ℕ × (ℕ × (ℕ × (ℕ × (ℕ × (ℕ × (ℕ × (ℕ × ℕ)))))))))
    (coded× coded_ℕ (coded× coded_ℕ (coded× coded_ℕ (coded× coded_ℕ (coded× coded_ℕ
    (coded× coded_ℕ (coded× coded_ℕ (coded× coded_ℕ (coded× coded_ℕ coded_ℕ)))))))))
    (λ r. (r.tpr, (r.ldr, (r.dfr, (r.svr, (r.esr, (r.errors, (r.icr_low, (r.icr_high, (r.lint0, r.lint1))))))))))
    (λ p. record {
      tpr = p.0;
      ldr = p.1.0;
      dfr = p.1.1.0;
      svr = p.1.1.1.0;
      esr = p.1.1.1.1.0;
      errors = p.1.1.1.1.1.0;
      icr_low = p.1.1.1.1.1.1.0;
      icr_high = p.1.1.1.1.1.1.1.0;
      lint0 = p.1.1.1.1.1.1.1.1.0;
      lint1 = p.1.1.1.1.1.1.1.1.1;
    })
    (λ _. refl)

abbrev pub apic_code : Coded LocalApic
apic_code =
    code_by (ℕ × (Numbers × (Numbers × (Numbers × (Bool × Registers)))))
    (coded× coded_ℕ (coded× numbers_code (coded× numbers_code (coded× numbers_code (coded× coded_bool registers_code)))))
    (λ a. (a.number, (a.irr, (a.isr, (a.tmr, (a.nmi, a.registers))))))
    (λ p. record { number = p.0; irr = p.1.0; isr = p.1.1.0; tmr = p.1.1.1.0; nmi = p.1.1.1.1.0; registers = p.1.1.1.1.1 })
    (λ _. refl)
