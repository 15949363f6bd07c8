-- The room for the events of one call (this board's own limit).
use Rattle.std.specs.Prelude.{◌-◌, List, ◌++◌, length, take}
use Rattle.irq_base.specs.declared.event.Event.{Event}

-- events that are told after others: there is room for 640 in all, and what finds none is left out
unfoldable pub with_told : List Event → List Event → List Event
with_told events told = events ++ take (640 - length events) told
