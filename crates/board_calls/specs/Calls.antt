-- What each call does (this board's own rule: one plan a call).
use Rattle.std.specs.Prelude.{ℕ}
use Rattle.irq_base.specs.declared.call.Call.{Call}
use Rattle.irq_base.specs.declared.call.Call.TheVariants.{Line, Msi, Write, Take, Assign, Deassign, Reroute, Attach, Detach, Watch}
use Rattle.irq_base.specs.declared.call.Call.TheVariants.{Unwatch, Tick, TickMode, PortOut, PortIn, Store, Load, Ack, Inta, Eoi}
use Rattle.irq_base.specs.declared.call.Caller.{Caller}
use Rattle.irq_base.specs.declared.call.Caller.TheVariants.{Device, Cpu}
use Rattle.irq_base.specs.declared.call.Space.{Space}
use Rattle.irq_base.specs.declared.shape.Shape.{Shape}
use Rattle.std.specs.declared.option.Option.{Option}
use Rattle.ioevent_set.specs.declared.row.IoRow.{IoRow}
use Rattle.board_model.specs.Routing.{Routing}
use Rattle.board_model.specs.Plan.{Plan}
use Rattle.board_calls.specs.Refusals.{range_reasons}
use Rattle.board_calls.specs.Registrations.{unless_one_of, line_set, message_sent, write, take, assign, deassign, reroute, attach}
use Rattle.board_calls.specs.Registrations.{detach, watch, unwatch}
use Rattle.board_calls.specs.Ticks.{tick, tick_mode}
use Rattle.board_calls.specs.Processors.{end_of_interrupt, inta, next_interrupt}
use Rattle.board_calls.specs.Accesses.{port_out, port_in, store, load}

-- the number of the caller; calls that read it come from processors alone
abbrev pub number_of : Caller → ℕ
number_of (Device d) = d
number_of (Cpu n) = n

-- the row of an ioeventfd
abbrev pub io_row : Space → ℕ → ℕ → ℕ → Option ℕ → IoRow
io_row space address len counter want = record { space = space; address = address; len = len; counter = counter; want = want }

-- what a call does whose arguments are in range; n is the caller's number
abbrev pub plan_in_range : Routing → Shape → ℕ → Call → Plan (Unit {0})
plan_in_range routing shape n (Line gsi line high) = line_set routing shape gsi line high
plan_in_range routing shape n (Msi address payload) = message_sent shape address payload
plan_in_range routing shape n (Write counter count) = write routing shape (routing.trigger counter) counter count
plan_in_range routing shape n (Take counter) = take counter
plan_in_range routing shape n (Assign trigger gsi resample) = assign routing shape trigger gsi resample
plan_in_range routing shape n (Deassign trigger gsi) = deassign routing trigger gsi
plan_in_range routing shape n (Reroute rows) = reroute rows
plan_in_range routing shape n (Attach space address len counter want) = attach (io_row space address len counter want)
plan_in_range routing shape n (Detach space address len counter want) = detach (io_row space address len counter want)
plan_in_range routing shape n (Watch counter gsi) = watch counter gsi
plan_in_range routing shape n (Unwatch counter gsi) = unwatch counter gsi
plan_in_range routing shape n Tick = tick routing shape
plan_in_range routing shape n (TickMode reinject) = tick_mode reinject
plan_in_range routing shape n (PortOut port len value) = port_out routing shape port len value
plan_in_range routing shape n (PortIn port len) = port_in routing shape port len
plan_in_range routing shape n (Store address len value) = store routing shape n address len value
plan_in_range routing shape n (Load address len) = load n address len
plan_in_range routing shape n Ack = next_interrupt routing shape n
plan_in_range routing shape n Inta = inta routing shape
plan_in_range routing shape n Eoi = end_of_interrupt routing shape n

-- what a call does: arguments out of range are refused before anything is looked at
abbrev pub plan_of : Routing → Shape → Caller → Call → Plan (Unit {0})
plan_of routing shape caller call = unless_one_of (range_reasons shape call) (plan_in_range routing shape (number_of caller) call)
