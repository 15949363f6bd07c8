-- What a caller's way to a board tells.
use Rattle.std.specs.Prelude.{◌≡◌, ℕ, ◌+◌, ◌-◌, ◌^◌, ◌<◌, ◌≤◌, min, Bool, true, false, List, [], ◌∷◌, ◌++◌, Some, None, Ok, Err}
use Rattle.std.specs.declared.option.Option.{Option}
use Rattle.std.specs.declared.result.Result.{Result}
use Rattle.irq_base.specs.declared.call.Call.{Call}
use Rattle.irq_base.specs.declared.call.Call.TheVariants.{Assign, Deassign, Reroute, Watch, Unwatch}
use Rattle.irq_base.specs.declared.call.Caller.{Caller}
use Rattle.irq_base.specs.declared.event.Event.{Event}
use Rattle.irq_base.specs.declared.lists.Entry.{Entry}
use Rattle.irq_base.specs.declared.reply.Done.{Done}
use Rattle.irq_base.specs.declared.reply.Spent.{Spent}

-- a kept count rose: it is greater, or stands at the last value that it can have
abbrev pub Rose : ℕ → ℕ → Type 0
Rose before now = min (before + 1) (2 ^ 64 - 1) ≤ now

-- an answer leaves the count of stops and the last of them; a call that is spent makes the count rise and is the last
abbrev pub StopsTell : Result Done Spent → ℕ → ℕ → Option Spent → Option Spent → Type 0
StopsTell (Ok done) before now last_before last_now = (now ≡ before) × (last_now ≡ last_before)
StopsTell (Err spent) before now last_before last_now = Rose before now × (last_now ≡ Some spent)

-- an answer's place is at least the floor before, and below the floor after
abbrev pub IsPlaced : Result Done Spent → ℕ → ℕ → Type 0
IsPlaced (Ok done) before now = (before ≤ done.at) × (done.at < now)
IsPlaced (Err spent) before now = before ≤ now

-- an entry and its place in the history
pub record PlacedEntry : Type 0 where
  pub entry : Entry
  pub at : ℕ

-- the caller's own entries after a call: one more at the place answered, or none
abbrev pub own_after : Caller → Call → List Event → Result Done Spent → List PlacedEntry → List PlacedEntry
own_after caller call events (Ok done) own =
    own ++ record { entry = record { caller = caller; call = call; reply = done.reply; events = events }; at = done.at } ∷ []
own_after caller call events (Err spent) own = own

-- what is told before is told after, and the two are so related; where nothing is told before, nothing is told after
abbrev pub WhereTold : {A : Type 0} → Option A → Option A → (A → A → Type 0) → Type 0
WhereTold (Some before) (Some now) P = P before now
WhereTold None None P = Unit {0}
WhereTold _ _ P = ⊥

-- each answer lowers the calls that are left by one
abbrev pub LeftFalls : Result Done Spent → ℕ → ℕ → Type 0
LeftFalls (Ok done) before now = now + 1 ≡ before
LeftFalls (Err spent) before now = now ≡ before

-- the calls that can change the published words
abbrev pub may_publish : Call → Bool
may_publish (Reroute rows) = true
may_publish (Assign trigger gsi resample) = true
may_publish (Deassign trigger gsi) = true
may_publish (Watch counter gsi) = true
may_publish (Unwatch counter gsi) = true
may_publish _ = false
