-- The channels that can be reached.
use Rattle.std.specs.Prelude.{IfSome}
use Rattle.pit_8254.specs.Clocks.{IsCounting}
use Rattle.pit_8254.specs.declared.channel.Channel.{Channel}

-- its count, where one runs, is one that can be reached
abbrev pub IsChannel : Channel → Type 0
IsChannel ch = IfSome ch.run IsCounting
