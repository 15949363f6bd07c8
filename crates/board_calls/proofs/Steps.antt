-- Calls that signal are their first steps and what follows.
use Rattle.std.proofs.Common.{◌≡◌, ℕ, Bool, true, false, nat_eq, if◌then◌else◌, List, Ok, Err, Some, None, refl}
use Rattle.std.specs.Prelude.{Result}
use Rattle.std.specs.declared.option.Option.{Option}
use Rattle.irq_base.specs.Refusals.{first_of}
use Rattle.irq_base.specs.declared.refusal.Refusal.{Refusal}
use Rattle.irq_base.specs.declared.reply.Reply.TheVariants.{Done, Removed, Held, Refused}
use Rattle.irq_base.specs.declared.shape.Part.TheVariants.{Registry, Counters, Tick, Lapic}
use Rattle.irq_base.specs.declared.shape.Shape.{Shape}
use Rattle.irq_base.specs.declared.status.Status.{Status}
use Rattle.irq_base.specs.declared.status.Status.TheVariants.{Delivered, Coalesced, Ignored, Lowered}
use Rattle.irq_bits.specs.Members.{greatest_vector}
use Rattle.irqfd_set.specs.declared.irqfds.Irqfd.{Irqfd}
use Rattle.irqfd_set.specs.Rows.{named_row}
use Rattle.lapic.specs.declared.outcome.Effect.{Effect}
use Rattle.lapic.specs.declared.outcome.Effect.TheVariants.{Plain}
use Rattle.lapic.specs.Registers.{LocalApic}
use Rattle.lapic.specs.Priority.{ended}
use Rattle.lapic.specs.Offsets.{store_to, store_effect}
use Rattle.tick_reinject.specs.declared.state.TickState.{TickState}
use Rattle.tick_reinject.specs.Ticks.{tick_injects, ticked, tick_injected}
use Rattle.board_model.specs.Registry.{RegistryPart}
use Rattle.board_model.specs.Routing.{Routing}
use Rattle.board_model.specs.Plan.{the_reply, Plan, done, look, put, reply, ◌>>=◌, ◌>>◌}
use Rattle.board_raise.specs.Shown.{without_sets}
use Rattle.board_ack.specs.Ticks.{inject_tick}
use Rattle.board_calls.specs.Accesses.{store_effects, lapic_stored, lapic_store}
use Rattle.board_calls.specs.Processors.{end_vector, ended_reply, end_of_interrupt}
use Rattle.board_calls.specs.Refusals.{assign_reasons}
use Rattle.board_calls.specs.Registrations.{unless_refused, release, deassigned, deassign, inject_count, assigned, assign}
use Rattle.board_calls.specs.Ticks.{tick_or_hold, tick}
use Rattle.board_calls.specs.Own.{changing, stored, storing}
use Rattle.board_calls.specs.Pieces.{removed, removing, added, adding, falling}

-- ---- an irqfd ends

-- after the row went
abbrev pub after_removal : Routing → ℕ → Option Bool → Plan (Unit {0})
after_removal routing gsi None = reply (Removed 0)
after_removal routing gsi (Some last) = release routing gsi last >> reply (Removed 1)

pub deassign_steps : (routing : Routing) (trigger gsi : ℕ) → (removing trigger gsi >>= after_removal routing gsi) ≡ deassign routing trigger gsi
deassign_steps routing trigger gsi = λ i. look Registry (λ v. at v (named_row v.irqfds trigger gsi) i)
  where
    at : (v : RegistryPart) (row : Option Irqfd) → (removed v trigger gsi row >>= after_removal routing gsi) ≡ deassigned routing v trigger gsi row
    at v None = refl
    at v (Some row) = refl

-- ---- an irqfd is made

-- after the row was added or refused
abbrev pub after_addition : Routing → Shape → ℕ → Option ℕ → Result Bool Refusal → Plan (Unit {0})
after_addition routing shape gsi resample (Err refusal) = reply (Refused refusal)
after_addition routing shape gsi resample (Ok found) = inject_count routing shape gsi resample found >> reply Done

pub assign_steps : (routing : Routing) (shape : Shape) (trigger gsi : ℕ) (resample : Option ℕ) → (adding trigger gsi resample >>= after_addition routing shape gsi resample) ≡ assign routing shape trigger gsi resample
assign_steps routing shape trigger gsi resample = λ i. look Registry (λ v. look Counters (λ counts. at v counts (first_of (assign_reasons v trigger resample)) i))
  where
    at : (v : RegistryPart) (counts : List ℕ) (r : Option Refusal) → (added v counts trigger gsi resample r >>= after_addition routing shape gsi resample) ≡ unless_refused r (assigned routing shape v counts trigger gsi resample)
    at v counts None = refl
    at v counts (Some refusal) = refl

-- ---- a tick falls

-- after the tick fell
abbrev pub after_fall : Routing → Shape → Option ℕ → Plan (Unit {0})
after_fall routing shape None = inject_tick routing shape (λ pic. the_reply pic)
after_fall routing shape (Some pending) = reply (Held pending)

pub tick_steps : (routing : Routing) (shape : Shape) → (falling >>= after_fall routing shape) ≡ tick routing shape
tick_steps routing shape = λ i. look Tick (λ v. put Tick (ticked v) (at v (tick_injects v) i))
  where
    at : (v : TickState) (t : Bool) → after_fall routing shape (if t then None else Some (ticked v).pending) ≡ tick_or_hold routing shape (ticked v) t
    at v true = refl
    at v false = refl

-- whom a message reached is nothing to the tick state
pub noted_alike : (status : Status) → ◌≡◌ {A = TickState → TickState} (λ s. tick_injected s status) (λ s. tick_injected s (without_sets status))
noted_alike (Delivered new stood pic) = refl
noted_alike (Coalesced stood) = refl
noted_alike (Ignored cause) = refl
noted_alike Lowered = refl

-- ---- an interrupt ends

-- after the vector went out of service
abbrev pub after_service : Routing → Shape → Option ℕ → Plan (Unit {0})
after_service routing shape vector = end_vector routing shape vector >> reply (ended_reply vector)

pub eoi_steps : (routing : Routing) (shape : Shape) (n : ℕ) → (changing n ended (λ apic. greatest_vector apic.isr) >>= after_service routing shape) ≡ end_of_interrupt routing shape n
eoi_steps routing shape n = refl

-- ---- a store to the local APIC

-- after the registers were written
abbrev pub after_store : Routing → Shape → ℕ → Effect → Plan (Unit {0})
after_store routing shape n effect = store_effects routing shape n effect >> reply Done

pub store_steps : (routing : Routing) (shape : Shape) (n offset len value : ℕ) → (storing n offset len value >>= after_store routing shape n) ≡ lapic_store routing shape n offset len value
store_steps routing shape n offset len value = λ i. look (Lapic n) (λ v. at v (nat_eq len 4) i)
  where
    at : (v : LocalApic) (t : Bool) → ((if t then stored n (store_to v offset value) (store_effect v offset value) else done Plain) >>= after_store routing shape n)
        ≡ ((if t then lapic_stored routing shape n (store_to v offset value) (store_effect v offset value) else done tt) >> reply Done)
    at v true = refl
    at v false = refl
