-- The rows of a routing table at power-on.
use Rattle.std.specs.Prelude.{ℕ, zero, suc, List, [], ◌∷◌, ◌++◌}
use Rattle.irq_base.specs.declared.call.Row.{Row}
use Rattle.irq_base.specs.declared.call.Row.TheVariants.{Pic, Ioapic}

-- the 8259A pins of the GSIs below a number, each GSI its own
unfoldable pub pic_rows : ℕ → List Row
pic_rows zero = []
pic_rows (suc n) = pic_rows n ++ Pic n n ∷ []

-- the I/O APIC pins of the GSIs below a number, each GSI its own
unfoldable pub ioapic_rows : ℕ → List Row
ioapic_rows zero = []
ioapic_rows (suc n) = ioapic_rows n ++ Ioapic n n ∷ []

-- GSIs 0 to 15 go to the 8259A pins, and GSIs 0 to 23 to the I/O APIC pins
unfoldable pub default_rows : List Row
default_rows = pic_rows 16 ++ ioapic_rows 24
