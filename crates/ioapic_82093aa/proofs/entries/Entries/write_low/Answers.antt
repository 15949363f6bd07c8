use Rattle.std.proofs.Common.{slice_set, sym, subst}
use Rattle.irq_bits.specs.Members.{Numbers}
use Rattle.ioapic_82093aa.specs.Entries.{AreIn}
use Rattle.ioapic_82093aa.proofs.Vectors.{are_in_written}
use Rattle.ioapic_82093aa.proofs.entries.Entries.write_low.Goals as goal

pub invariant_of-self : goal.invariant_of-self
invariant_of-self c =
    let entries = slice_set c.self.inside.table.entries c.place-2.result c.write_low.new.self in
    subst (λ (vectors : Numbers). AreIn entries vectors) (sym c.insert.ensures)
    (are_in_written c.self.inside.table.entries c.self.inside.vectors c.place-2.result c.write_low.new.self c.self.invariant)
