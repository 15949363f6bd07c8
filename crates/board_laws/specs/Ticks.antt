-- Ticks are conserved, and are injected where the state is free or by an acknowledge of their own (over this board's own definitions).
use Rattle.std.specs.Prelude.{◌≡◌, ◌≢◌, ℕ, ◌+◌, Bool, true, false, nat_eq, min, if◌then◌else◌, ◌⊎◌, List, [], ◌∷◌, ◌++◌, Some}
use Rattle.std.specs.List.{Contains, list_any}
use Rattle.std.specs.declared.option.Option.{Option}
use Rattle.irq_base.specs.declared.call.Call.{Call}
use Rattle.irq_base.specs.declared.call.Call.TheVariants.{Assign, Tick, TickMode}
use Rattle.irq_base.specs.declared.event.Event.{Event}
use Rattle.irq_base.specs.declared.event.Event.TheVariants.{Acked, Rang, Injected}
use Rattle.irq_base.specs.declared.event.Pin.{Pin}
use Rattle.irq_base.specs.declared.lists.Entry.{Entry}
use Rattle.irq_base.specs.declared.reply.Reply.TheVariants.{Held, Signal}
use Rattle.irq_base.specs.declared.shape.Part.{Part}
use Rattle.irq_base.specs.declared.shape.Part.TheVariants.{Tick as TickPart}
use Rattle.irq_base.specs.declared.shape.Shape.{Shape}
use Rattle.irq_base.specs.declared.status.Status.{Status}
use Rattle.tick_reinject.specs.Ticks.{ticked}
use Rattle.board_model.specs.Board.{Board, part_of}
use Rattle.board_step.specs.Step.{Step}
use Rattle.board_step.specs.History.{opening, next_board, board_after}
use Rattle.board_laws.specs.Points.{AtEachEntry, OfEachBoard}

-- one for a Tick, none for another call
abbrev pub is_tick : Call → ℕ
is_tick Tick = 1
is_tick _ = 0

-- how many Tick calls there are
abbrev pub ticks_in : List Entry → ℕ
ticks_in [] = 0
ticks_in (e ∷ es) = is_tick e.call + ticks_in es

-- one for an acknowledge of a pin of this GSI
abbrev pub is_ack_of : ℕ → Event → ℕ
is_ack_of gsi (Acked pin (Some g)) = if nat_eq g gsi then 1 else 0
is_ack_of gsi _ = 0

-- how many acknowledges of its pins there are
abbrev pub acks_in : ℕ → List Event → ℕ
acks_in gsi [] = 0
acks_in gsi (event ∷ events) = is_ack_of gsi event + acks_in gsi events

-- how many acknowledges of an entry find a tick pending: each takes one off
abbrev pub ticks_taken_by : Board → Entry → ℕ
ticks_taken_by b e = min (acks_in b.shape.tick e.events) b.tick.pending

-- how many do along a history
abbrev pub ticks_taken : Board → List Entry → ℕ
ticks_taken b [] = 0
ticks_taken b (e ∷ es) = ticks_taken_by b e + ticks_taken (next_board b e) es

-- whether a call sets the mode of ticks
abbrev pub is_tick_mode : Call → Bool
is_tick_mode (TickMode reinject) = true
is_tick_mode _ = false

-- whether an entry does
abbrev pub sets_mode : Entry → Bool
sets_mode e = is_tick_mode e.call

-- the last of these entries turns reinjection on
pub record TurnsReinjectionOn (early : List Entry) : Type 0 where
  pub before : List Entry
  pub last : Entry
  pub ends : early ≡ before ++ last ∷ []
  pub call : last.call ≡ TickMode true

-- reinjection starts after these entries: at power-on there are none, else the last of them turns it on
abbrev pub StartsReinjection : List Entry → Type 0
StartsReinjection early = (early ≡ []) ⊎ TurnsReinjectionOn early

-- in a history reinjection starts after the early entries, and in these that follow them the mode is not set
pub record IsStretch (early es history : List Entry) : Type 0 where
  pub more : List Entry
  pub parts : history ≡ early ++ (es ++ more)
  pub starts : StartsReinjection early
  pub stays : list_any sets_mode es ≡ false

-- from the start of reinjection on, and until the mode is set again, the ticks are those that are pending and those that
-- acknowledges took
abbrev pub TicksAreConserved : Shape → List Entry → Type 0
TicksAreConserved shape history =
    (early es : List Entry) → IsStretch early es history
    → ticks_in es ≡ (board_after (opening shape) (early ++ es)).tick.pending + ticks_taken (board_after (opening shape) early) es

-- ---- ticks inject where the state is free

-- a tick that is held back: it is pending, no event is told, and no part but the tick state changes
pub record HoldsBack (b : Board) (e : Entry) (c : Board) : Type 0 where
  pub reply : e.reply ≡ Held (b.tick.pending + 1)
  pub events : e.events ≡ []
  pub tick : c.tick ≡ ticked b.tick
  pub parts : (q : Part) → q ≢ TickPart → part_of c q ≡ part_of b q

-- in each step under reinjection a tick that falls where the state is not free is held back
abbrev pub BusyTicksAreHeldBack : Type 0
BusyTicksAreHeldBack =
    (b : Board) (e : Entry) (c : Board) → Step b e c → e.call ≡ Tick → b.tick.reinjects ≡ true → b.tick.free ≡ false
    → HoldsBack b e c

-- without reinjection the state is free
abbrev pub IsFreeUnlessReinjects : Board → Type 0
IsFreeUnlessReinjects b = b.tick.reinjects ≡ false → b.tick.free ≡ true

-- so it is of each board of a history
abbrev pub StateIsFreeUnlessReinjects : Shape → List Entry → Type 0
StateIsFreeUnlessReinjects = OfEachBoard IsFreeUnlessReinjects

-- a tick that falls is injected, with its status as the reply, only where the state is free; else it is held back
pub record FallsFree (b : Board) (e : Entry) (c : Board) : Type 0 where
  pub injected : (status : Status) → e.call ≡ Tick → e.reply ≡ Signal status → b.tick.free ≡ true
  pub held : e.call ≡ Tick → b.tick.free ≡ false → HoldsBack b e c

-- so it is at each entry of a history, in either mode
abbrev pub TicksInjectFree : Shape → List Entry → Type 0
TicksInjectFree = AtEachEntry (λ b e c. FallsFree b e c)

-- ---- other injections

-- whether an event is an acknowledge or an injection
abbrev pub acks_or_injects : Event → Bool
acks_or_injects (Acked pin gsi) = true
acks_or_injects (Injected gsi status) = true
acks_or_injects _ = false

-- before stands an acknowledge of this GSI, and after it neither an acknowledge nor an injection
pub record FollowsAcknowledge (gsi : ℕ) (before : List Event) : Type 0 where
  pub early : List Event
  pub pin : Pin
  pub mid : List Event
  pub told : before ≡ early ++ Acked pin (Some gsi) ∷ mid
  pub next : list_any acks_or_injects mid ≡ false

-- an entry that rings no ioeventfd and makes no irqfd
pub record SignalsNoIrqfd (e : Entry) : Type 0 where
  pub rings : (counter : ℕ) → Contains e.events (Rang counter) → ⊥
  pub makes : (trigger gsi : ℕ) (resample : Option ℕ) → e.call ≡ Assign trigger gsi resample → ⊥

-- an entry tells these events, and then an injection of the GSI
pub record Injects (e : Entry) (before : List Event) (gsi : ℕ) : Type 0 where
  pub status : Status
  pub after : List Event
  pub told : e.events ≡ before ++ Injected gsi status ∷ after

-- in an entry that rings no ioeventfd and makes no irqfd, each injection is of the tick, and has an acknowledge of the tick's
-- GSI to itself
abbrev pub InjectsAfterAcknowledges : Board → Entry → Board → Type 0
InjectsAfterAcknowledges b e c =
    SignalsNoIrqfd e → (before : List Event) (gsi : ℕ) → Injects e before gsi → (gsi ≡ b.shape.tick) × FollowsAcknowledge gsi before

-- so it is in each step
abbrev pub OtherInjectionsFollowAcknowledges : Type 0
OtherInjectionsFollowAcknowledges = (b : Board) (e : Entry) (c : Board) → Step b e c → InjectsAfterAcknowledges b e c

-- so it is at each entry of a history
abbrev pub InjectionsFollowAcknowledges : Shape → List Entry → Type 0
InjectionsFollowAcknowledges = AtEachEntry InjectsAfterAcknowledges
