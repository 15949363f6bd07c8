-- The routing table and the registrations, the first part of a board.
use Rattle.std.specs.Prelude.{List}
use Rattle.ack_notifiers.specs.declared.watches.Watch.{Watch}
use Rattle.ioevent_set.specs.declared.row.IoRow.{IoRow}
use Rattle.irqfd_set.specs.declared.irqfds.Irqfd.{Irqfd}
use Rattle.route_table.specs.Rows.{Table}

-- where each GSI goes (KVM_SET_GSI_ROUTING); the irqfds (KVM_IRQFD), the acknowledge notifiers and the ioeventfds
-- (KVM_IOEVENTFD), each in order of registration
pub record RegistryPart : Type 0 where
  pub table : Table
  pub irqfds : List Irqfd
  pub watches : List Watch
  pub ioevents : List IoRow
