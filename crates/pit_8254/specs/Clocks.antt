-- What a clock does to a count, and the ticks of many clocks, by single clocks (this project's own rules, after the 8254).
use Rattle.std.specs.Prelude.{◌≡◌, ℕ, zero, suc, ◌+◌, ◌<◌, ◌≤◌, Bool, true, nat_eq, nat_le, if◌then◌else◌, Option, Some, None, IfSome, unwrap_or}
use Rattle.pit_8254.specs.Words.{is_periodic}
use Rattle.pit_8254.specs.declared.channel.Channel.{Channel}
use Rattle.pit_8254.specs.declared.countdown.Countdown.{Countdown}

-- the clocks since the load at which a tick falls: the count in modes 2 and 3, one more than the count in modes 0 and 4
abbrev pub due : Countdown → ℕ
due r = if is_periodic r.mode then r.count else r.count + 1

-- the next clock ticks: it makes the clocks since the load as many as that
abbrev pub ticks_next : Countdown → Bool
ticks_next r = nat_eq (r.elapsed + 1) (due r)

-- where a count begins anew, the next count takes its place, if there is one
abbrev pub reloaded : Countdown → Countdown
reloaded r = record r { count = unwrap_or r.next r.count; elapsed = 0; next = None }

-- one clock: in modes 2 and 3 the clocks since the load grow by one, and begin anew at the count; in modes 0 and 4 they grow by one
-- while they are at most the count
abbrev pub clocked : Countdown → Countdown
clocked r =
    if is_periodic r.mode
    then (if nat_eq (r.elapsed + 1) r.count then reloaded r else record r { elapsed = r.elapsed + 1 })
    else (if nat_le r.elapsed r.count then record r { elapsed = r.elapsed + 1 } else r)

-- the count after n clocks
unfoldable pub after_clocks : ℕ → Countdown → Countdown
after_clocks zero r = r
after_clocks (suc n) r = after_clocks n (clocked r)

-- how many ticks fall in n clocks
unfoldable pub ticks_within : ℕ → Countdown → ℕ
ticks_within zero r = 0
ticks_within (suc n) r = (if ticks_next r then 1 else 0) + ticks_within n (clocked r)

-- ---- a channel, whose count runs or is stopped

abbrev pub run_after : ℕ → Option Countdown → Option Countdown
run_after n None = None
run_after n (Some r) = Some (after_clocks n r)

abbrev pub ticks_of : ℕ → Option Countdown → ℕ
ticks_of n None = 0
ticks_of n (Some r) = ticks_within n r

-- the channel after n clocks
abbrev pub channel_after : ℕ → Channel → Channel
channel_after n channel = record channel { run = run_after n channel.run }

-- how many ticks fall in n clocks of a channel: none where it is stopped
abbrev pub channel_ticks : ℕ → Channel → ℕ
channel_ticks n channel = ticks_of n channel.run

-- ---- one clock before a tick

-- a count stands where it is after some of these clocks and so many ticks, and its next clock ticks
pub record CountStandsBefore (clocks ticks : ℕ) (before now : Countdown) : Type 0 where
  pub gone : ℕ
  pub within : gone < clocks
  pub stands : now ≡ after_clocks gone before
  pub ticked : ticks_within gone before ≡ ticks
  pub next : ticks_next now ≡ true

-- a channel stands where it is after some of these clocks and so many ticks, and a tick falls in its next clock
pub record StandsBefore (clocks ticks : ℕ) (before now : Channel) : Type 0 where
  pub gone : ℕ
  pub within : gone < clocks
  pub stands : now ≡ channel_after gone before
  pub ticked : channel_ticks gone before ≡ ticks
  pub next : channel_ticks 1 now ≡ 1

-- ---- the counts that can be reached

pub record IsCounting (r : Countdown) : Type 0 where
  pub some : 0 < r.count
  pub most : r.count ≤ 65536
  pub elapsed : r.elapsed ≤ due r
  pub periodic : is_periodic r.mode ≡ true → r.elapsed < r.count
  pub next : IfSome r.next (λ n. (0 < n) × (n ≤ 65536))
