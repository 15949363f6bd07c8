-- What the calls of lines, messages, counters and registrations do (KVM_IRQ_LINE, KVM_SIGNAL_MSI, eventfd(2), KVM_IRQFD,
-- KVM_SET_GSI_ROUTING, KVM_IOEVENTFD; acknowledge notifiers are this board's own rule).
use Rattle.std.specs.Prelude.{ℕ, Bool, true, false, not, ◌&&◌, nat_eq, nat_lt, if◌then◌else◌, List, [], ◌∷◌, ◌++◌, slice_index}
use Rattle.std.specs.Prelude.{is_some, Some, None}
use Rattle.std.specs.declared.option.Option.{Option}
use Rattle.std.specs.FinSet as set
use Rattle.irq_base.specs.Refusals.{Reason, first_of}
use Rattle.irq_base.specs.declared.call.Row.{Row}
use Rattle.irq_base.specs.declared.event.Pin.{Pin}
use Rattle.irq_base.specs.declared.event.Pin.TheVariants as pins
use Rattle.irq_base.specs.declared.message.Source.{Source}
use Rattle.irq_base.specs.declared.message.Source.TheVariants.{Line, Pulse, Resample}
use Rattle.irq_base.specs.declared.reply.Reply.{Reply}
use Rattle.irq_base.specs.declared.reply.Reply.TheVariants.{Done, Count, Empty, Removed, Refused}
use Rattle.irq_base.specs.declared.refusal.Refusal.{Refusal}
use Rattle.irq_base.specs.declared.shape.Part.TheVariants.{Registry, Counters, Pic, Ioapic}
use Rattle.irq_base.specs.declared.shape.Shape.{Shape}
use Rattle.msi_decode.specs.Messages.{message_in}
use Rattle.source_levels.specs.Holds.{Hold, Holds}
use Rattle.route_table.specs.Rows.{Table, table_of}
use Rattle.route_table.specs.Pins.{gsi_of}
use Rattle.event_counter.specs.Counters.{written, taken, what_is_read}
use Rattle.irqfd_set.specs.declared.irqfds.Irqfd.{Irqfd}
use Rattle.irqfd_set.specs.Rows as irqfds
use Rattle.ack_notifiers.specs.Rows as watches
use Rattle.ioevent_set.specs.declared.row.IoRow.{IoRow}
use Rattle.ioevent_set.specs.Rows as ioevents
use Rattle.board_model.specs.declared.trigger.TriggerWord.{TriggerWord}
use Rattle.board_model.specs.Registry.{RegistryPart}
use Rattle.board_model.specs.Routing.{Routing}
use Rattle.board_model.specs.Chips.{PicPart, IoapicPart}
use Rattle.board_model.specs.Plan.{injected, the_reply, Plan, done, see, set as put_part, change, reply, ◌>>=◌, ◌>>◌}
use Rattle.board_raise.specs.Send.{send}
use Rattle.board_raise.specs.Signal.{raise, lower, inject, let_go}
use Rattle.board_calls.specs.Refusals.{write_reasons, assign_reasons, attach_reasons, detach_reasons, watch_reasons, unwatch_reasons}

-- a call that is refused answers why, and does nothing else
abbrev pub unless_refused : Option Refusal → Plan (Unit {0}) → Plan (Unit {0})
unless_refused None plan = plan
unless_refused (Some refusal) plan = reply (Refused refusal)

-- the first of the reasons that holds refuses a call
abbrev pub unless_one_of : List Reason → Plan (Unit {0}) → Plan (Unit {0})
unless_one_of reasons plan = unless_refused (first_of reasons) plan

-- ---- lines and messages

-- a line source of a GSI goes high or low (KVM_IRQ_LINE)
abbrev pub line_set : Routing → Shape → ℕ → ℕ → Bool → Plan (Unit {0})
line_set routing shape gsi line true = do
  status ← raise shape.cpus (routing.targets gsi) (Line line) (λ pic. the_reply pic)
  done tt
line_set routing shape gsi line false = lower (routing.targets gsi) (Line line)

-- a message is sent (KVM_SIGNAL_MSI)
abbrev pub message_sent : Shape → ℕ → ℕ → Plan (Unit {0})
message_sent shape address payload = do
  answer ← send shape.cpus (message_in address payload) None (the_reply None)
  done tt

-- ---- counters

-- an irqfd with a resample counter holds its pins until they are acknowledged, another pulses them (KVM_IRQFD)
abbrev pub source_of : Bool → Source
source_of true = Resample
source_of false = Pulse

-- an irqfd injects, and the status is the reply
abbrev pub trigger_written : Routing → Shape → TriggerWord → Plan (Unit {0})
trigger_written routing shape trigger = do
  status ← inject shape.cpus (routing.targets trigger.gsi) (source_of trigger.resample) (λ pic. the_reply pic)
  done tt

-- n more of a count, unless it would be past the greatest count
abbrev pub count_written : ℕ → ℕ → Plan (Unit {0})
count_written counter n = do
  counts ← see Counters
  unless_one_of (write_reasons counts counter n) (put_part Counters (written counts counter n) >> reply Done)

-- a count is added to a counter (eventfd(2), write); the trigger of an irqfd keeps the count 0 and injects once, and a write
-- of 0 to it does nothing
abbrev pub write : Routing → Shape → Option TriggerWord → ℕ → ℕ → Plan (Unit {0})
write routing shape None counter n = count_written counter n
write routing shape (Some trigger) counter n = if nat_eq n 0 then reply Done else trigger_written routing shape trigger

-- what a read of a counter answers
abbrev pub read_reply : Option ℕ → Reply
read_reply None = Empty
read_reply (Some count) = Count count

-- a counter is read and becomes 0 (eventfd(2), read)
abbrev pub take : ℕ → Plan (Unit {0})
take counter = do
  counts ← see Counters
  put_part Counters (taken counts counter)
  reply (read_reply (what_is_read (slice_index counts counter)))

-- ---- irqfds

-- the count that an irqfd finds at its trigger injects once
abbrev pub inject_count : Routing → Shape → ℕ → Option ℕ → Bool → Plan (Unit {0})
inject_count routing shape gsi resample false = done tt
inject_count routing shape gsi resample true = do
  status ← inject shape.cpus (routing.targets gsi) (source_of (is_some resample)) (λ pic. injected gsi pic)
  done tt

-- the row is there, and the count of its trigger is 0 from then on
abbrev pub assigned : Routing → Shape → RegistryPart → List ℕ → ℕ → ℕ → Option ℕ → Plan (Unit {0})
assigned routing shape registry counts trigger gsi resample = do
  put_part Registry (record registry { irqfds = irqfds.with_row registry.irqfds trigger gsi resample })
  put_part Counters (taken counts trigger)
  inject_count routing shape gsi resample (nat_lt 0 (slice_index counts trigger))
  reply Done

-- an irqfd is made (KVM_IRQFD)
abbrev pub assign : Routing → Shape → ℕ → ℕ → Option ℕ → Plan (Unit {0})
assign routing shape trigger gsi resample = do
  registry ← see Registry
  counts ← see Counters
  unless_one_of (assign_reasons registry trigger resample) (assigned routing shape registry counts trigger gsi resample)

-- whether this row was the last resampler of its GSI, by the rows that are left
abbrev pub was_last_resampler : Irqfd → List Irqfd → Bool
was_last_resampler row rows = is_some row.resample && not (irqfds.has_resampler rows row.gsi)

-- where the last resampler of a GSI leaves, Resample leaves the GSI's pins
abbrev pub release : Routing → ℕ → Bool → Plan (Unit {0})
release routing gsi true = let_go (routing.targets gsi) Resample
release routing gsi false = done tt

-- the row of that trigger and GSI goes, if there is one
abbrev pub deassigned : Routing → RegistryPart → ℕ → ℕ → Option Irqfd → Plan (Unit {0})
deassigned routing registry trigger gsi None = reply (Removed 0)
deassigned routing registry trigger gsi (Some row) = do
  put_part Registry (record registry { irqfds = irqfds.without_row registry.irqfds trigger gsi })
  release routing gsi (was_last_resampler row (irqfds.without_row registry.irqfds trigger gsi))
  reply (Removed 1)

-- an irqfd ends (KVM_IRQFD, deassign)
abbrev pub deassign : Routing → ℕ → ℕ → Plan (Unit {0})
deassign routing trigger gsi = do
  registry ← see Registry
  deassigned routing registry trigger gsi (irqfds.named_row registry.irqfds trigger gsi)

-- ---- the routing table

-- whether both are one GSI, or neither is one
abbrev pub is_same_gsi : Option ℕ → Option ℕ → Bool
is_same_gsi None None = true
is_same_gsi (Some a) (Some b) = nat_eq a b
is_same_gsi a b = false

-- whether two tables give the pin to one GSI, none included
abbrev pub keeps_gsi : Table → Table → Pin → Bool
keeps_gsi before after pin = is_same_gsi (gsi_of before pin) (gsi_of after pin)

-- the holds of the pins that keep their GSI; `chip` makes a pin of its number
abbrev pub kept_holds : Table → Table → (ℕ → Pin) → Holds → Holds
kept_holds before after chip holds = set.retain holds (λ (h : Hold). keeps_gsi before after (chip h.pin))

-- the routing table is replaced (KVM_SET_GSI_ROUTING): each pin whose GSI is another than before loses all its holds, and
-- nothing is raised (this board's own rule)
abbrev pub reroute : List Row → Plan (Unit {0})
reroute rows = do
  registry ← see Registry
  put_part Registry (record registry { table = table_of rows })
  change Pic (λ (pic : PicPart). record pic { holds = kept_holds registry.table (table_of rows) pins.Pic pic.holds })
  change Ioapic (λ (part : IoapicPart). record part { holds = kept_holds registry.table (table_of rows) pins.Ioapic part.holds })
  reply Done

-- ---- ioeventfds and acknowledge notifiers

-- an ioeventfd is made (KVM_IOEVENTFD)
abbrev pub attach : IoRow → Plan (Unit {0})
attach row = do
  registry ← see Registry
  unless_one_of (attach_reasons registry row)
      (put_part Registry (record registry { ioevents = registry.ioevents ++ row ∷ [] }) >> reply Done)

-- an ioeventfd ends (KVM_IOEVENTFD, deassign)
abbrev pub detach : IoRow → Plan (Unit {0})
detach row = do
  registry ← see Registry
  unless_one_of (detach_reasons registry row)
      (put_part Registry (record registry { ioevents = ioevents.without_row registry.ioevents row }) >> reply Done)

-- an acknowledge notifier is made
abbrev pub watch : ℕ → ℕ → Plan (Unit {0})
watch counter gsi = do
  registry ← see Registry
  unless_one_of (watch_reasons registry counter gsi)
      (put_part Registry (record registry { watches = watches.with_row registry.watches counter gsi }) >> reply Done)

-- an acknowledge notifier ends
abbrev pub unwatch : ℕ → ℕ → Plan (Unit {0})
unwatch counter gsi = do
  registry ← see Registry
  unless_one_of (unwatch_reasons registry counter gsi)
      (put_part Registry (record registry { watches = watches.without_row registry.watches counter gsi }) >> reply Done)
