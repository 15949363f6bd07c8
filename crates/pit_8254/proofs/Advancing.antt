-- A loop from tick to tick: what went by until now.
use Rattle.std.proofs.Common.{◌≡◌, ℕ, ◌+◌, ◌-◌, ◌<◌, ◌≤◌, true, sym, ap, ◌∙◌, subst, arith, eq-eqb}
use Rattle.pit_8254.specs.Clocks.{after_clocks, clocked, due, ticks_next, ticks_within, CountStandsBefore, IsCounting}
use Rattle.pit_8254.specs.declared.countdown.Countdown.{Countdown}
use Rattle.pit_8254.proofs.Clocking.{clocks_sum, no_clocks, no_ticks, one_clock, one_tick, quiet_clocks, quiet_ticks, silent, ticks_sum}

none : (clocks : ℕ) → clocks - clocks ≡ 0
none clocks = omega arith

-- some clocks went by, and so many of them are left
pub record HasGone (clocks : ℕ) (start now : Countdown) (left ticks : ℕ) : Type 0 where
  pub counting : IsCounting now
  pub fewer : left ≤ clocks
  pub stands : now ≡ after_clocks (clocks - left) start
  pub ticked : ticks ≡ ticks_within (clocks - left) start

pub gone_none : (clocks : ℕ) (r : Countdown) → IsCounting r → HasGone clocks r r clocks 0
gone_none clocks r counting = record {
  counting = counting;
  fewer = omega arith;
  stands = sym (no_clocks r) ∙ ap (λ n. after_clocks n r) (sym (none clocks));
  ticked = sym (no_ticks r) ∙ ap (λ n. ticks_within n r) (sym (none clocks));
}

-- no tick falls in the clocks that are left
pub gone_all : (clocks : ℕ) (start now waited : Countdown) (left ticks : ℕ) → HasGone clocks start now left ticks
    → (now.elapsed < due now → now.elapsed + left < due now) → waited ≡ after_clocks left now
    → (waited ≡ after_clocks clocks start) × (ticks ≡ ticks_within clocks start)
gone_all clocks start now waited left ticks gone quiet waits =
    let gone_by = clocks - left in
    let all : gone_by + left ≡ clocks = omega (arith, gone.fewer) in
    let sum = ticks_sum gone_by left start in
    let here : ticks_within left (after_clocks gone_by start) ≡ 0 =
    ap (ticks_within left) (sym gone.stands) ∙ silent left now gone.counting quiet in
    let ticked = gone.ticked in
    let whole = ap (λ n. ticks_within n start) all in (
      waits ∙ ap (after_clocks left) gone.stands ∙ sym (clocks_sum gone_by left start) ∙ ap (λ n. after_clocks n start) all,
      omega (arith, sum, here, ticked, whole),
    )

-- a tick falls
module _ (clocks : ℕ) (start now waited : Countdown) (left ticks gap : ℕ) (gone : HasGone clocks start now left ticks)
    (some : 0 < gap) (within : gap ≤ left) (falls : now.elapsed + gap ≡ due now) (waits : waited ≡ after_clocks (gap - 1) now) where
  quiet : now.elapsed + (gap - 1) < due now
  quiet = omega (arith, some, falls)

  stands : waited ≡ after_clocks ((clocks - left) + (gap - 1)) start
  stands = waits ∙ ap (after_clocks (gap - 1)) gone.stands ∙ sym (clocks_sum (clocks - left) (gap - 1) start)

  ticked : ticks_within ((clocks - left) + (gap - 1)) start ≡ ticks
  ticked =
      let sum = ticks_sum (clocks - left) (gap - 1) start in
      let none : ticks_within (gap - 1) (after_clocks (clocks - left) start) ≡ 0 =
      ap (ticks_within (gap - 1)) (sym gone.stands) ∙ quiet_ticks (gap - 1) now quiet in
      let before = gone.ticked in
      omega (arith, sum, none, before)

  -- the next clock is the one that ticks
  pub tick_next : ticks_next waited ≡ true
  tick_next =
      let at = waits ∙ quiet_clocks (gap - 1) now quiet in
      let sum : (now.elapsed + (gap - 1)) + 1 ≡ due now = omega (arith, some, falls) in
      subst (λ w. ticks_next w ≡ true) (sym at) (eq-eqb _ _ sum)

  -- the count stands one clock before it
  pub stands_before : CountStandsBefore clocks ticks start waited
  stands_before = record {
    gone = (clocks - left) + (gap - 1);
    within = omega (arith, some, within, gone.fewer);
    stands = stands;
    ticked = ticked;
    next = tick_next;
  }

  -- and the clock went by
  pub gone_next : (next : Countdown) → next ≡ clocked waited → IsCounting next → HasGone clocks start next (left - gap) (ticks + 1)
  gone_next next clocks_now counting =
      let by = (clocks - left) + (gap - 1) in
      let sum : by + 1 ≡ clocks - (left - gap) = omega (arith, some, within, gone.fewer) in
      let ticks_all = ticks_sum by 1 start in
      let one : ticks_within 1 (after_clocks by start) ≡ 1 = ap (ticks_within 1) (sym stands) ∙ one_tick waited tick_next in
      let before = ticked in
      let whole = ap (λ n. ticks_within n start) sum in
      record {
        counting = counting;
        fewer = omega (arith, gone.fewer);
        stands = clocks_now ∙ sym (one_clock waited) ∙ ap (after_clocks 1) stands ∙ sym (clocks_sum by 1 start) ∙ ap (λ n. after_clocks n start) sum;
        ticked = omega (arith, ticks_all, one, before, whole);
      }
