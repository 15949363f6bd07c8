use Rattle.std.proofs.Common.{replicate, sym, ap, subst, ◌∙◌}
use Rattle.irq_bits.specs.Members.{Numbers}
use Rattle.std.specs.FinSet as set
use Rattle.ioapic_82093aa.specs.Entries.{AreIn}
use Rattle.ioapic_82093aa.proofs.Vectors.{are_in_first}
use Rattle.ioapic_82093aa.proofs.entries.Entries.power_on.Goals as goal

pub invariant_of-result : goal.invariant_of-result
invariant_of-result c =
    subst (λ (vectors : Numbers). AreIn (replicate 24 c.power_on.result) vectors) (sym (c.insert.ensures ∙ ap (λ s. set.insert s 0) c.empty-vectors.ensures))
    (are_in_first c.power_on.result c.power_on.ensures)
