-- What a workroom keeps between two calls, as equations (this board's own rule).
use Rattle.std.specs.Prelude.{ℕ, Bool, List, length, is_some, option_map}
use Rattle.std.specs.declared.option.Option.{Option}
use Rattle.part_rig.specs.declared.workroom.Workroom.{Workroom}
use Rattle.part_rig.specs.Rooms.{or_spare}

-- whether there is a registry, in hand or spare
abbrev pub has_registry_room : Workroom → Bool
has_registry_room room = is_some (or_spare room.rig.parts.registry room.registry)

-- how many counters there are, in hand or spare
abbrev pub counters_in : Workroom → Option ℕ
counters_in room = option_map (λ (c : List ℕ). length c) (or_spare room.rig.parts.counters room.counters)
