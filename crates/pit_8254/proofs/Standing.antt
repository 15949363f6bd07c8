-- A channel that stands one clock before a tick.
use Rattle.std.proofs.Common.{rules, ◌≡◌, ℕ, ◌+◌, ◌-◌, ◌<◌, ◌≤◌, Option, Some, None, Ok, Err, IfErr, IfSome, IsOk, sym, ap, ◌∙◌, arith}
use Rattle.std.specs.declared.result.Result.{Result}
use Rattle.pit_8254.specs.Clocks.{channel_ticks, run_after, ticks_of, ticks_within, CountStandsBefore, StandsBefore}
use Rattle.pit_8254.specs.declared.channel.Channel.{Channel}
use Rattle.pit_8254.specs.declared.countdown.Countdown.{Countdown}
use Rattle.pit_8254.specs.declared.ticking.PitSpent.{PitSpent}
use Rattle.pit_8254.proofs.Clocking.{one_tick, ticks_sum}

channel_stands : (clocks ticks : ℕ) (ch : Channel) (r s : Countdown) → ch.run ≡ Some r → CountStandsBefore clocks ticks r s
    → StandsBefore clocks ticks ch (record ch { run = Some s })
channel_stands clocks ticks ch r s is stands = record {
  gone = stands.gone;
  within = stands.within;
  stands = ap (λ (run : Option Countdown). record ch { run = run }) (ap Some stands.stands ∙ sym (ap (run_after stands.gone) is));
  ticked = ap (ticks_of stands.gone) is ∙ stands.ticked;
  next = one_tick s stands.next;
}

-- the channel stands where its count stands
pub stands_so : (clocks : ℕ) (ch : Channel) (r s : Countdown) (answer : Result ℕ PitSpent) → ch.run ≡ Some r
    → IfErr answer (λ stop. CountStandsBefore clocks stop.ticks r s) → IfErr answer (λ stop. StandsBefore clocks stop.ticks ch (record ch { run = Some s }))
stands_so clocks ch r s (Ok n) is stands = tt
stands_so clocks ch r s (Err stop) is stands = channel_stands clocks stop.ticks ch r s is stands

-- there is one tick more, at least
more_ticks : (gone clocks : ℕ) (run : Option Countdown) → gone < clocks → ticks_of 1 (run_after gone run) ≡ 1 → ticks_of gone run < ticks_of clocks run
more_ticks gone clocks None below next = absurd (omega (arith, next))
more_ticks gone clocks (Some r) below next =
    let rest = clocks - (gone + 1) in
    let all : (gone + 1) + rest ≡ clocks = omega (arith, below) in
    let whole = ap (λ n. ticks_within n r) all in
    let first = ticks_sum gone 1 r in
    let both = ticks_sum (gone + 1) rest r in
    omega (arith, whole, first, both, next)

stands_more : (clocks ticks : ℕ) (before now : Channel) → StandsBefore clocks ticks before now → ticks < channel_ticks clocks before
stands_more clocks ticks before now stands =
    let next = ap (channel_ticks 1) (sym stands.stands) ∙ stands.next in
    let more = more_ticks stands.gone clocks before.run stands.within next in
    omega (arith, more, stands.ticked)

-- where as many calls are left as there are ticks, none is barred
pub none_barred : (answer : Result ℕ PitSpent) (left : Option ℕ) (clocks : ℕ) (before now : Channel)
    → IfErr answer (λ stop. StandsBefore clocks stop.ticks before now) → IfErr answer (λ stop. IfSome left (λ n. n ≤ stop.ticks))
    → IfSome left (λ n. channel_ticks clocks before ≤ n → IsOk answer)
none_barred (Ok n) (Some k) clocks before now stands none_left = λ _. search rules
none_barred (Ok n) None clocks before now stands none_left = tt
none_barred (Err stop) None clocks before now stands none_left = tt
none_barred (Err stop) (Some k) clocks before now stands none_left =
    λ enough. let more = stands_more clocks stop.ticks before now stands in absurd (omega (arith, more, none_left, enough))
