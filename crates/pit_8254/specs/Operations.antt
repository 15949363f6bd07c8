-- Operations of a channel, made singly, and the ticks of a channel over a list of them.
use Rattle.std.specs.Prelude.{◌≡◌, ℕ, ◌+◌, ◌<◌, List, [], ◌∷◌, ◌++◌, length, All, Ok, Err}
use Rattle.std.specs.declared.result.Result.{Result}
use Rattle.face_asks.specs.Asks.{events_left, HasAnswered}
use Rattle.irq_base.specs.Faces.{PlacedEntry}
use Rattle.irq_base.specs.declared.event.Event.{Event}
use Rattle.irq_base.specs.declared.face.Face.{Ghosts}
use Rattle.pit_8254.specs.Accesses.{after_port_read, port_read, port_written, unset}
use Rattle.pit_8254.specs.Asks.{limit_of, IsTick}
use Rattle.pit_8254.specs.Clocks.{channel_after, channel_ticks}
use Rattle.pit_8254.specs.declared.channel.Channel.{Channel}
use Rattle.pit_8254.specs.declared.ticking.PitSpent.{PitSpent}

-- What is done to a channel: a byte is written to a port; a byte is read of a port, and this was it; or clocks are to go by, and so many of
-- them did, with this answer and these ticks, which were asked and answered
pub data Operation : Type 0 where
  write : ℕ → ℕ → Operation
  read : ℕ → ℕ → Operation
  advance : ℕ → ℕ → Result ℕ PitSpent → List PlacedEntry → Operation

-- all clocks went by, and the number of ticks is answered; or a limit barred the tick that falls in the next clock, and the number of those
-- before it is told
abbrev pub Tells : ℕ → ℕ → Result ℕ PitSpent → List PlacedEntry → Channel → Type 0
Tells clocks gone (Ok n) ticks now = (gone ≡ clocks) × (n ≡ length ticks)
Tells clocks gone (Err stop) ticks now = (gone < clocks) × (stop.ticks ≡ length ticks) × (channel_ticks 1 now ≡ 1)

-- clocks went by, and the calls that were asked are as many as the ticks that fall in them, each a tick
pub record GoBy (clocks gone : ℕ) (answer : Result ℕ PitSpent) (ticks : List PlacedEntry) (ch now : Channel) : Type 0 where
  pub stands : now ≡ channel_after gone ch
  pub many : length ticks ≡ channel_ticks gone ch
  pub each : All IsTick ticks
  pub told : Tells clocks gone answer ticks now

-- one operation leads from one channel to the next
abbrev pub IsStep : Channel → Operation → Channel → Type 0
IsStep ch (write port value) now = now ≡ port_written port value ch
IsStep ch (read port byte) now = (byte ≡ port_read port ch) × (now ≡ after_port_read port ch)
IsStep ch (advance clocks gone answer ticks) now = GoBy clocks gone answer ticks ch now

-- Clocks were to go by: a step of the channel, whose ticks the face answered, just these, one after another. The list of events has those of
-- the last ask
pub record Advances {F : Type 0} (face : Ghosts F) (clocks : ℕ) (answer : Result ℕ PitSpent) (before after : F) (ch now : Channel)
    (had has : List Event) : Type 0 where
  pub gone : ℕ
  pub ticks : List PlacedEntry
  pub step : IsStep ch (advance clocks gone answer ticks) now
  pub asked : HasAnswered face before after ticks
  pub events : has ≡ events_left (limit_of answer) ticks had

-- ---- over a list

-- operations lead one after another from one channel to another
abbrev pub Lead : Channel → List Operation → Channel → Type 0
Lead ch [] now = now ≡ ch
Lead ch (operation ∷ more) now = (next : Channel) × IsStep ch operation next × Lead next more now

-- the calls that were asked and answered in them
abbrev pub asked_in : List Operation → List PlacedEntry
asked_in [] = []
asked_in (write port value ∷ more) = asked_in more
asked_in (read port byte ∷ more) = asked_in more
asked_in (advance clocks gone answer ticks ∷ more) = ticks ++ asked_in more

-- the channel after the same writes, reads and clocks, and its ticks over them, by the definition
abbrev pub after_op : Operation → Channel → Channel
after_op (write port value) ch = port_written port value ch
after_op (read port byte) ch = after_port_read port ch
after_op (advance clocks gone answer ticks) ch = channel_after gone ch

abbrev pub ticks_at : Operation → Channel → ℕ
ticks_at (write port value) ch = 0
ticks_at (read port byte) ch = 0
ticks_at (advance clocks gone answer ticks) ch = channel_ticks gone ch

abbrev pub after_ops : List Operation → Channel → Channel
after_ops [] ch = ch
after_ops (operation ∷ more) ch = after_ops more (after_op operation ch)

abbrev pub ticks_over : List Operation → Channel → ℕ
ticks_over [] ch = 0
ticks_over (operation ∷ more) ch = ticks_at operation ch + ticks_over more (after_op operation ch)

-- the calls asked over operations since power-on are ticks, as many as those of the definition
pub record TicksOnce (operations : List Operation) (now : Channel) : Type 0 where
  pub stands : now ≡ after_ops operations unset
  pub many : length (asked_in operations) ≡ ticks_over operations unset
  pub each : All IsTick (asked_in operations)
