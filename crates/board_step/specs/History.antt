-- Legal histories: chains of steps from a board at power-on (this board's own rule).
use Rattle.std.specs.Prelude.{◌≡◌, if◌then◌else◌, List, [], ◌∷◌, ◌++◌, map, replicate, true}
use Rattle.std.specs.FinSet as set
use Rattle.irq_base.specs.declared.event.Event.{Event}
use Rattle.irq_base.specs.declared.event.Event.TheVariants.{Injected, Resent, Ipi}
use Rattle.irq_base.specs.declared.lists.Entry.{Entry}
use Rattle.irq_base.specs.declared.reply.Reply.{Reply}
use Rattle.irq_base.specs.declared.reply.Reply.TheVariants.{Signal}
use Rattle.irq_base.specs.declared.shape.Shape.{Shape}
use Rattle.pic_8259a.specs.Chip.{chip_at_power_on}
use Rattle.ioapic_82093aa.specs.Entries.{entry_at_power_on}
use Rattle.lapic.specs.Registers.{power_on}
use Rattle.route_table.specs.Rows.{table_of}
use Rattle.route_table.specs.Defaults.{default_rows}
use Rattle.tick_reinject.specs.Ticks.{in_mode}
use Rattle.board_model.specs.Registry.{RegistryPart}
use Rattle.board_model.specs.Chips.{PicPart, IoapicPart, without_pins}
use Rattle.board_model.specs.Board.{Board}
use Rattle.board_model.specs.Statuses.{Sent, is_empty, sets_of}
use Rattle.board_model.specs.Run.{Wishes}
use Rattle.board_model.specs.Following.{reached}
use Rattle.board_raise.specs.Send.{numbers_below}
use Rattle.board_step.specs.Step.{outcome_of, counted, Step}

-- ---- power-on

-- GSI n below 16 goes to 8259A pin n and to I/O APIC pin n, GSI n from 16 to 23 to I/O APIC pin n; nothing is registered
abbrev pub opening_registry : RegistryPart
opening_registry = record { table = table_of default_rows; irqfds = []; watches = []; ioevents = [] }

-- both chips of the pair at power-on, no pin held
abbrev pub opening_pic : PicPart
opening_pic = record { master = without_pins chip_at_power_on; slave = without_pins chip_at_power_on; holds = set.empty }

-- the I/O APIC at power-on, no pin held
abbrev pub opening_ioapic : IoapicPart
opening_ioapic = record { entries = replicate 24 entry_at_power_on; selected = 0; identity = 0; holds = set.empty }

-- the board of a shape at power-on: each chip is at its power-on, no count stands, and ticks are reinjected
abbrev pub opening : Shape → Board
opening shape = record {
  shape = shape;
  registry = opening_registry;
  counters = replicate shape.counters 0;
  tick = in_mode true;
  pic = opening_pic;
  ioapic = opening_ioapic;
  lapics = map power_on (numbers_below shape.cpus);
  length = 0;
  publications = 0;
}

-- ---- legal histories

-- entries lead from one board to another: each is a step to the next board
abbrev pub Leads : Board → List Entry → Board → Type 0
Leads b [] c = b ≡ c
Leads b (e ∷ es) c = (next : Board) × Step b e next × Leads next es c

-- a history is legal for a shape where it leads from the board at power-on to some board
abbrev pub Legal : Shape → List Entry → Type 0
Legal shape history = (last : Board) × Leads (opening shape) history last

-- ---- the board after a history

-- the processors that a status shows to be reached, if there are any
abbrev pub wish_of : Sent → Wishes
wish_of sent = if is_empty sent.new then (if is_empty sent.stood then [] else reached sent ∷ []) else reached sent ∷ []

-- the choice that an event shows
abbrev pub wish_shown : Event → Wishes
wish_shown (Injected gsi status) = wish_of (sets_of status)
wish_shown (Resent pin status) = wish_of (sets_of status)
wish_shown (Ipi status) = wish_of (sets_of status)
wish_shown _ = []

-- the choice that a reply shows
abbrev pub wish_replied : Reply → Wishes
wish_replied (Signal status) = wish_of (sets_of status)
wish_replied _ = []

-- the choices that events show, in order
abbrev pub wishes_told : List Event → Wishes
wishes_told [] = []
wishes_told (event ∷ events) = wish_shown event ++ wishes_told events

-- the choices that an entry shows: those of its events, and then that of its reply
abbrev pub wishes_shown : Entry → Wishes
wishes_shown e = wishes_told e.events ++ wish_replied e.reply

-- the board after an entry, by the choices that the entry shows
abbrev pub next_board : Board → Entry → Board
next_board b e = counted b e.call (outcome_of b e (wishes_shown e)).board

-- the board after a history, as a function of its entries
abbrev pub board_after : Board → List Entry → Board
board_after b [] = b
board_after b (e ∷ es) = board_after (next_board b e) es
