-- What a guest write rings, and what a refused call leaves (over this board's own definitions).
use Rattle.std.specs.Prelude.{[], ◌≡◌, ℕ, ◌+◌, ◌||◌, if◌then◌else◌, None}
use Rattle.std.specs.declared.option.Option.{Option}
use Rattle.irq_base.specs.declared.call.Call.{Call}
use Rattle.irq_base.specs.declared.call.Call.TheVariants.{PortOut, Store}
use Rattle.irq_base.specs.declared.call.Space.TheVariants as spaces
use Rattle.irq_base.specs.declared.lists.Entry.{Entry}
use Rattle.irq_base.specs.declared.refusal.Refusal.{Refusal}
use Rattle.irq_base.specs.declared.reply.Reply.TheVariants.{Refused}
use Rattle.pic_8259a.specs.Pair.{is_port}
use Rattle.ioevent_set.specs.Rows.{rung_by}
use Rattle.board_model.specs.Board.{Board}
use Rattle.board_calls.specs.Refusals.{is_ioapic_address, is_lapic_address}

-- the counter that a guest write rings: that of the ioeventfd which it fits, where it is to no chip
abbrev pub rung_on : Board → Call → Option ℕ
rung_on b (PortOut port len value) = if is_port port then None else rung_by b.registry.ioevents spaces.Port port len value
rung_on b (Store address len value) =
    if is_ioapic_address address || is_lapic_address address then None else rung_by b.registry.ioevents spaces.Memory address len value
rung_on b _ = None

-- a call that is refused: it tells no event, and changes nothing but the count of calls
pub record IsRefusedAlone (b : Board) (e : Entry) (c : Board) : Type 0 where
  pub refusal : Refusal
  pub reply : e.reply ≡ Refused refusal
  pub events : e.events ≡ []
  pub board : c ≡ record b { length = b.length + 1 }
