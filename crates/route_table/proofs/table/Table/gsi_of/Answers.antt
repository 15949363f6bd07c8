-- The word of the pin tells the GSI.
use Rattle.std.proofs.Common.{ℕ, ◌<◌, IfSome, sym, ap, subst, ◌∙◌}
use Rattle.std.specs.declared.option.Option.{Option}
use Rattle.route_table.specs.Pins.{gsi_of}
use Rattle.route_table.specs.Pins.{gsi_told}
use Rattle.route_table.proofs.Filled.{pic_owner, ioapic_owner, pic_low, ioapic_low, told_low}
use Rattle.route_table.proofs.table.Table.gsi_of.Goals as goal

pub returns-in-Pic-clause-value : goal.returns-in-Pic-clause-value
returns-in-Pic-clause-value c = c.gsi_told.ensures ∙ ap gsi_told c.owner_at.ensures ∙ pic_owner _ _ _ _ c.in-Pic.number c.self.invariant ∙ (λ i. gsi_of (c.self.view_is i) (sym c.in-Pic.is i))

pub returns-in-Pic-clause-range : goal.returns-in-Pic-clause-range
returns-in-Pic-clause-range c = subst (λ (o : Option ℕ). IfSome o (λ gsi. gsi < 4096)) (sym (c.gsi_told.ensures ∙ ap gsi_told c.owner_at.ensures)) (told_low _ (pic_low _ _ _ _ c.in-Pic.number c.self.invariant))

pub returns-in-Ioapic-clause-value : goal.returns-in-Ioapic-clause-value
returns-in-Ioapic-clause-value c = c.gsi_told-in-Ioapic.ensures ∙ ap gsi_told c.owner_at-in-Ioapic.ensures ∙ ioapic_owner _ _ _ _ c.in-Ioapic.number c.self.invariant ∙ (λ i. gsi_of (c.self.view_is i) (sym c.in-Ioapic.is i))

pub returns-in-Ioapic-clause-range : goal.returns-in-Ioapic-clause-range
returns-in-Ioapic-clause-range c = subst (λ (o : Option ℕ). IfSome o (λ gsi. gsi < 4096)) (sym (c.gsi_told-in-Ioapic.ensures ∙ ap gsi_told c.owner_at-in-Ioapic.ensures)) (told_low _ (ioapic_low _ _ _ _ c.in-Ioapic.number c.self.invariant))
