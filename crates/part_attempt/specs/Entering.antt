-- The entry of a call that was made on copies (this board's own).
use Rattle.std.specs.Prelude.{List}
use Rattle.irq_base.specs.declared.call.Call.{Call}
use Rattle.irq_base.specs.declared.event.Event.{Event}
use Rattle.irq_base.specs.declared.lists.Entry.{Entry}
use Rattle.board_step.specs.Bodies.{entry_of}
use Rattle.part_attempt.specs.declared.entering.Answered.{Answered}

-- the entry of a call that was answered so, with these events
abbrev pub entry_answered : Answered → Call → List Event → Entry
entry_answered answered call events = entry_of answered.caller call answered.reply events
