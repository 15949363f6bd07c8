-- The registers of the I/O APIC, by their index.
-- 82093AA data sheet, IOREGSEL, IOWIN and the register map.
use Rattle.std.specs.Prelude.{ℕ, ◌+◌, ◌-◌, ◌*◌, ◌/◌, ◌%◌, ◌&&◌, nat_eq, nat_lt, nat_le, if◌then◌else◌, List, [], ◌∷◌}
use Rattle.reg_table.specs.declared.row.RegRow.{RegRow}
use Rattle.ioapic_82093aa.specs.declared.registers.Register.{Register}
use Rattle.ioapic_82093aa.specs.declared.registers.Register.TheVariants.{Identity, Version, Arbitration, LowHalf, HighHalf, Reserved}

-- the half of an entry, two registers an entry: the low half and then the high one
abbrev pub half_of : ℕ → Register
half_of n = if nat_eq (n % 2) 0 then LowHalf (n / 2) else HighHalf (n / 2)

-- the register of an index: the entries' halves stand from 10h to 3Fh
abbrev pub register_of : ℕ → Register
register_of index =
    if nat_eq index 0 then Identity
    else if nat_eq index 1 then Version
    else if nat_eq index 2 then Arbitration
    else if nat_le 16 index && nat_lt index 64 then half_of (index - 16)
    else Reserved

-- the register at a place of the table: the first three, and then the halves
abbrev pub nth_register : ℕ → Register
nth_register k = if nat_eq k 0 then Identity else if nat_eq k 1 then Version else if nat_eq k 2 then Arbitration else half_of (k - 3)

-- ---- the table

abbrev pub row : ℕ → ℕ → ℕ → ℕ → RegRow
row offset readable writable reset = record { offset = offset; readable = readable; writable = writable; reset = reset }

-- the rows of both halves of entry n, and then these
abbrev pub with_halves : ℕ → List RegRow → List RegRow
with_halves n rows = row (0x10 + 2 * n) 0x0001efff 0x0001afff 0x00010000 ∷ row (0x11 + 2 * n) 0xff000000 0xff000000 0 ∷ rows

abbrev pub entry_rows : List RegRow
entry_rows =
    with_halves 0 (with_halves 1 (with_halves 2 (with_halves 3 (with_halves 4 (with_halves 5 (with_halves 6 (with_halves 7
    (with_halves 8 (with_halves 9 (with_halves 10 (with_halves 11 (with_halves 12 (with_halves 13 (with_halves 14 (with_halves 15
    (with_halves 16 (with_halves 17 (with_halves 18 (with_halves 19 (with_halves 20 (with_halves 21 (with_halves 22 (with_halves 23 []
    )))))))))))))))))))))))

abbrev pub register_rows : List RegRow
register_rows = row 0x00 0x0f000000 0x0f000000 0 ∷ row 0x01 0x00170011 0 0x00170011 ∷ row 0x02 0x0f000000 0 0 ∷ entry_rows

-- the bits of a register that a write reaches
abbrev pub writable_of : Register → ℕ
writable_of Identity = 0x0f000000
writable_of (LowHalf _) = 0x0001afff
writable_of (HighHalf _) = 0xff000000
writable_of _ = 0
