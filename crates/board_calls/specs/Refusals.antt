-- Why a call is refused: the reasons of each call, in their order (this board's own rule, after the errors of the KVM API).
use Rattle.std.specs.Prelude.{ℕ, ◌+◌, ◌-◌, ◌*◌, ◌/◌, ◌^◌, Bool, true, false, not, ◌&&◌, ◌||◌, nat_eq, nat_lt, nat_le, List, [], ◌∷◌}
use Rattle.std.specs.Prelude.{length, slice_index, Some, None}
use Rattle.std.specs.List.{list_any}
use Rattle.std.specs.declared.option.Option.{Option}
use Rattle.irq_base.specs.Refusals.{Reason}
use Rattle.irq_base.specs.declared.call.Call.{Call}
use Rattle.irq_base.specs.declared.call.Call.TheVariants.{Line, Msi, Write, Take, Assign, Deassign, Reroute, Attach, Detach, Watch}
use Rattle.irq_base.specs.declared.call.Call.TheVariants.{Unwatch, PortOut, PortIn, Store, Load}
use Rattle.irq_base.specs.declared.call.Space.{Space}
use Rattle.irq_base.specs.declared.call.Space.TheVariants.{Port, Memory}
use Rattle.irq_base.specs.declared.refusal.Refusal.TheVariants.{NoGsi, NoCounter, Busy, RoleClash, Full, Exists, NotThere, BadRange}
use Rattle.irq_base.specs.declared.refusal.Refusal.TheVariants.{ChipAddress, Over, BadCount, NoLine, BadMsi}
use Rattle.irq_base.specs.declared.shape.Shape.{Shape}
use Rattle.irqfd_set.specs.declared.irqfds.Irqfd.{Irqfd}
use Rattle.irqfd_set.specs.Rows.{has_trigger}
use Rattle.ack_notifiers.specs.Rows as watches
use Rattle.ioevent_set.specs.declared.row.IoRow.{IoRow}
use Rattle.ioevent_set.specs.Rows as ioevents
use Rattle.pic_8259a.specs.Pair.{is_port}
use Rattle.route_table.specs.Rows.{reasons_after}
use Rattle.board_model.specs.Registry.{RegistryPart}

-- ---- the chips' addresses

-- FEC00000h to FEC000FFh are the I/O APIC's (82093AA data sheet)
abbrev pub is_ioapic_address : ℕ → Bool
is_ioapic_address address = nat_le 0xfec00000 address && nat_le address 0xfec000ff

-- FEE00000h to FEE00FFFh are the calling processor's own local APIC (SDM volume 3, local APIC register address map)
abbrev pub is_lapic_address : ℕ → Bool
is_lapic_address address = nat_le 0xfee00000 address && nat_le address 0xfee00fff

-- whether an address is one of a chip, in its space
abbrev pub is_chip_address : Space → ℕ → Bool
is_chip_address Port address = is_port address
is_chip_address Memory address = is_ioapic_address address || is_lapic_address address

-- ---- reasons of the arguments' range

-- a GSI of 4,096 or more
abbrev pub bad_gsi : ℕ → Reason
bad_gsi gsi = (nat_le 4096 gsi, NoGsi)

-- a counter that is not below the shape's number
abbrev pub bad_counter : Shape → ℕ → Reason
bad_counter shape counter = (nat_le shape.counters counter, NoCounter)

-- a resample counter, if there is one, that is not below the shape's number
abbrev pub bad_resample : Shape → Option ℕ → List Reason
bad_resample shape None = []
bad_resample shape (Some counter) = bad_counter shape counter ∷ []

-- the lengths of accesses, in bytes: 1, 2 and 4, and of memory also 8
abbrev pub is_length : Space → ℕ → Bool
is_length Port len = nat_eq len 1 || (nat_eq len 2 || nat_eq len 4)
is_length Memory len = nat_eq len 1 || (nat_eq len 2 || (nat_eq len 4 || nat_eq len 8))

-- whether a value has no more bytes than that
abbrev pub does_fit : ℕ → ℕ → Bool
does_fit value len = nat_lt value (2 ^ (8 * len))

-- an access with a length that there is not, or a value that does not fit it
abbrev pub bad_access : Space → ℕ → ℕ → Reason
bad_access space len value = (not (is_length space len && does_fit value len), BadRange)

-- where the addresses of a space end
abbrev pub end_of : Space → ℕ
end_of Port = 2 ^ 16
end_of Memory = 2 ^ 64

-- whether a match, if there is one, stands beside a length, and fits it
abbrev pub match_fits : Option ℕ → ℕ → Bool
match_fits None len = true
match_fits (Some value) len = not (nat_eq len 0) && does_fit value len

-- whether the address is in the space, and so many addresses from it on do not pass the end of the space
abbrev pub lies_within : Space → ℕ → ℕ → Bool
lies_within space address len = nat_lt address (end_of space) && nat_le (address + len) (end_of space)

-- an ioeventfd with a length that is neither 0 nor one of accesses, with a match that stands beside length 0 or does not fit,
-- or whose addresses pass the end of its space (KVM_IOEVENTFD)
abbrev pub bad_ioevent : Space → ℕ → ℕ → Option ℕ → Reason
bad_ioevent space address len want =
    (not ((nat_eq len 0 || is_length space len) && (match_fits want len && lies_within space address len)), BadRange)

-- the reasons of a call's arguments alone, in order
abbrev pub range_reasons : Shape → Call → List Reason
range_reasons shape (Line gsi line high) = bad_gsi gsi ∷ (nat_lt 7 line, NoLine) ∷ []
range_reasons shape (Msi address payload) = (not (nat_eq (address / 2 ^ 20) 0xfee), BadMsi) ∷ []
range_reasons shape (Write counter n) = bad_counter shape counter ∷ (nat_eq n (2 ^ 64 - 1), BadCount) ∷ []
range_reasons shape (Take counter) = bad_counter shape counter ∷ []
range_reasons shape (Assign trigger gsi resample) = bad_counter shape trigger ∷ bad_gsi gsi ∷ bad_resample shape resample
range_reasons shape (Deassign trigger gsi) = bad_counter shape trigger ∷ bad_gsi gsi ∷ []
range_reasons shape (Reroute rows) = (nat_lt 4096 (length rows), Full) ∷ reasons_after [] rows
range_reasons shape (Attach space address len counter want) =
    bad_ioevent space address len want ∷ bad_counter shape counter ∷ (is_chip_address space address, ChipAddress) ∷ []
range_reasons shape (Detach space address len counter want) = bad_ioevent space address len want ∷ bad_counter shape counter ∷ []
range_reasons shape (Watch counter gsi) = bad_counter shape counter ∷ bad_gsi gsi ∷ []
range_reasons shape (Unwatch counter gsi) = bad_counter shape counter ∷ bad_gsi gsi ∷ []
range_reasons shape (PortOut port len value) = bad_access Port len value ∷ []
range_reasons shape (PortIn port len) = bad_access Port len 0 ∷ []
range_reasons shape (Store address len value) = bad_access Memory len value ∷ []
range_reasons shape (Load address len) = bad_access Memory len 0 ∷ []
range_reasons shape _ = []

-- ---- reasons of what stands on the board

-- whether a counter is the trigger of a living irqfd
abbrev pub is_trigger : RegistryPart → ℕ → Bool
is_trigger registry counter = list_any (has_trigger counter) registry.irqfds

-- whether there is a counter, and it is this one
abbrev pub is_counter : ℕ → Option ℕ → Bool
is_counter counter None = false
is_counter counter (Some other) = nat_eq other counter

-- whether a row has this resample counter
abbrev pub has_resample : ℕ → Irqfd → Bool
has_resample counter row = is_counter counter row.resample

-- whether a counter is a resample counter, or that of an acknowledge notifier
abbrev pub is_signalled : RegistryPart → ℕ → Bool
is_signalled registry counter = list_any (has_resample counter) registry.irqfds || watches.has_counter registry.watches counter

-- whether a resample counter, if there is one, is this trigger or that of a living irqfd
abbrev pub resample_clashes : RegistryPart → ℕ → Option ℕ → Bool
resample_clashes registry trigger None = false
resample_clashes registry trigger (Some counter) = nat_eq counter trigger || is_trigger registry counter

-- a count past 2^64 - 2 (eventfd(2))
abbrev pub write_reasons : List ℕ → ℕ → ℕ → List Reason
write_reasons counts counter n = (nat_lt (2 ^ 64 - 2) (slice_index counts counter + n), Over) ∷ []

-- the trigger of a living irqfd; or a counter in two roles: a trigger that is signalled, or a resample counter that is a
-- trigger
abbrev pub assign_reasons : RegistryPart → ℕ → Option ℕ → List Reason
assign_reasons registry trigger resample =
    (is_trigger registry trigger, Busy) ∷
    (is_signalled registry trigger || resample_clashes registry trigger resample, RoleClash) ∷ []

-- an ioeventfd that collides with one, or where 256 are there
abbrev pub attach_reasons : RegistryPart → IoRow → List Reason
attach_reasons registry row =
    (list_any (λ other. ioevents.do_collide other row) registry.ioevents, Exists) ∷
    (nat_le 256 (length registry.ioevents), Full) ∷ []

-- an ioeventfd that is not there
abbrev pub detach_reasons : RegistryPart → IoRow → List Reason
detach_reasons registry row = (not (list_any (ioevents.is_same row) registry.ioevents), NotThere) ∷ []

-- a notifier of a trigger, one that is there, or where 256 are there
abbrev pub watch_reasons : RegistryPart → ℕ → ℕ → List Reason
watch_reasons registry counter gsi =
    (is_trigger registry counter, RoleClash) ∷
    (watches.has_row registry.watches counter gsi, Exists) ∷
    (nat_le 256 (length registry.watches), Full) ∷ []

-- a notifier that is not there
abbrev pub unwatch_reasons : RegistryPart → ℕ → ℕ → List Reason
unwatch_reasons registry counter gsi = (not (watches.has_row registry.watches counter gsi), NotThere) ∷ []
