-- Parts in hand that fit a shape fit it still after one of them has changed.
use Rattle.std.proofs.Common.{◌≡◌, ℕ, ◌+◌, ◌^◌, ◌<◌, ◌≤◌, length, Bool, not, filter, List, Some, None, sym, subst, ◌∙◌}
use Rattle.std.proofs.lemmas.List.Elements.{All-filter}
use Rattle.std.specs.Prelude.{option_map, IfSome, MatchOption}
use Rattle.std.specs.declared.option.Option.{Option}
use Rattle.irq_base.specs.declared.shape.Shape.{Shape}
use Rattle.ack_notifiers.specs.declared.watches.Watch.{Watch}
use Rattle.irqfd_set.specs.declared.irqfds.Irqfd.{Irqfd}
use Rattle.irqfd_set.specs.Rows.{is_named, without_row}
use Rattle.ioevent_set.specs.declared.row.IoRow.{IoRow}
use Rattle.board_raise.specs.declared.parts.Parts as code
use Rattle.board_raise.specs.declared.parts.RegistryPart as registry
use Rattle.board_raise.specs.Fit.{IrqfdFits, WatchFits, RegistrationsFit, LapicsFit, PinsFit}
use Rattle.board_raise.specs.InHand.{registry_of, parts_of, chips_of, OnlySignalled}
use Rattle.board_raise.specs.OnRow.{apic_in}
use Rattle.board_raise.proofs.Telling.{same_number}
use Rattle.board_ack.specs.OnHand.{OnlyAcked}
use Rattle.board_calls.specs.Done.{FitsShape, FitsButTick}

as_many : (n : ℕ) (old new : Option (List ℕ)) → option_map length new ≡ option_map length old → IfSome old (λ counts. length counts ≡ n) → IfSome new (λ counts. length counts ≡ n)
as_many n old None e fit = tt
as_many n None (Some counts) e fit = absurd (some_none e)
  where
    some_none : Some (length counts) ≡ None → ⊥
    some_none e = cc
as_many n (Some before) (Some counts) e fit = same e ∙ fit
  where
    same : Some (length counts) ≡ Some (length before) → length counts ≡ length before
    same e = cc

-- another registry whose registrations fit
pub fits_with_registry : (shape : Shape) (p : code.Parts) (old new : registry.RegistryPart) → p.registry ≡ Some old
    → (RegistrationsFit shape.counters (registry_of old) → RegistrationsFit shape.counters (registry_of new)) → FitsShape shape p → FitsShape shape (record p { registry = Some new })
fits_with_registry shape p old new there still fits = record {
  limits = fits.limits;
  counters = fits.counters;
  registrations = still (subst (λ (o : Option registry.RegistryPart). IfSome (option_map registry_of o) (RegistrationsFit shape.counters)) there fits.registrations);
  tick = fits.tick;
  lapics = record { places = fits.lapics.places; numbers = fits.lapics.numbers };
  pins = fits.pins;
}

module _ (counters : ℕ) (r : registry.RegistryPart) (fit : RegistrationsFit counters (registry_of r)) where
  -- fewer ioeventfds
  pub fewer_ioevents : (p : IoRow → Bool) → RegistrationsFit counters (registry_of (record r { ioevents = filter p r.ioevents }))
  fewer_ioevents p = record { irqfds = fit.irqfds; watches = fit.watches; ioevents = All-filter p (λ (e : IoRow). e.counter < counters) r.ioevents fit.ioevents }

  -- fewer notifiers
  pub fewer_watches : (p : Watch → Bool) → RegistrationsFit counters (registry_of (record r { watches = filter p r.watches }))
  fewer_watches p = record { irqfds = fit.irqfds; watches = All-filter p (WatchFits counters) r.watches fit.watches; ioevents = fit.ioevents }

  -- fewer irqfds
  pub fewer_irqfds : (p : Irqfd → Bool) → RegistrationsFit counters (registry_of (record r { irqfds = filter p r.irqfds }))
  fewer_irqfds p = record { irqfds = All-filter p (IrqfdFits counters) r.irqfds fit.irqfds; watches = fit.watches; ioevents = fit.ioevents }

-- an irqfd is gone, if there was one
pub removed_fits : (counters : ℕ) (old : registry.RegistryPart) (trigger gsi : ℕ) (new : registry.RegistryPart) (last : Option Bool)
    → MatchOption last (new ≡ old) (λ _. new ≡ record old { irqfds = without_row old.irqfds trigger gsi }) → RegistrationsFit counters (registry_of old) → RegistrationsFit counters (registry_of new)
removed_fits counters old trigger gsi new None after fit = subst (λ (r : registry.RegistryPart). RegistrationsFit counters (registry_of r)) (sym after) fit
removed_fits counters old trigger gsi new (Some is) after fit =
    subst (λ (r : registry.RegistryPart). RegistrationsFit counters (registry_of r)) (sym after) (fewer_irqfds counters old fit (λ row. not (is_named trigger gsi row)))

-- ---- after an acknowledge

module _ (shape : Shape) (p : code.Parts) (fits : FitsShape shape p) where
  -- a pin was acknowledged, and the pins fit
  pub fits_acked : (new : code.Parts) → OnlyAcked p new → PinsFit (chips_of new) → FitsShape shape new
  fits_acked new kept pins = record {
    limits = fits.limits;
    counters = as_many shape.counters p.counters new.counters kept.counters fits.counters;
    registrations = subst (λ (o : Option registry.RegistryPart). IfSome (option_map registry_of o) (RegistrationsFit shape.counters)) (sym kept.registry) fits.registrations;
    tick = kept.tick (2 ^ 40) fits.tick;
    lapics = record { places = kept.places ∙ fits.lapics.places; numbers = λ n. same_number n (apic_in new.lapics n) (apic_in p.lapics n) (kept.numbers n) (fits.lapics.numbers n) };
    pins = record { pic = pins.pic; ioapic = pins.ioapic };
  }

-- ---- after a signal

module _ (shape : Shape) (old new : code.Parts) (fits : FitsButTick shape old) (kept : OnlySignalled old new) (pins : PinsFit (chips_of new)) (lapics : LapicsFit shape (parts_of new)) where
  pub but_tick_signalled : FitsButTick shape new
  but_tick_signalled = record {
    others = record {
      limits = fits.others.limits;
      counters = subst (λ (p : code.Parts). IfSome p.counters (λ counts. length counts ≡ shape.counters)) (sym kept.others) fits.others.counters;
      registrations = subst (λ (p : code.Parts). IfSome (option_map registry_of p.registry) (RegistrationsFit shape.counters)) (sym kept.others) fits.others.registrations;
      tick = tt;
      lapics = record { places = lapics.places; numbers = lapics.numbers };
      pins = record { pic = pins.pic; ioapic = pins.ioapic };
    };
    pending = subst (λ (p : code.Parts). IfSome p.tick (λ tick. tick.pending ≤ 2 ^ 40 + 1)) (sym kept.others) fits.pending;
  }
