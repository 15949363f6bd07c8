-- Many clocks: a sum of them, and those in which no tick falls.
use Rattle.std.proofs.Common.{◌≡◌, ℕ, zero, suc, ◌+◌, ◌<◌, ◌≤◌, true, false, refl, sym, ap, ◌∙◌, arith, zero-add, inl, inr}
use Rattle.std.proofs.lemmas.Bool.Decides.{leb_tells}
use Rattle.pit_8254.specs.Clocks.{after_clocks, clocked, due, ticks_next, ticks_within, IsCounting}
use Rattle.pit_8254.specs.Words.{is_periodic}
use Rattle.pit_8254.specs.declared.countdown.Countdown.{Countdown}

-- a clock before the one that ticks
clocked_quiet : (r : Countdown) → r.elapsed + 1 < due r → clocked r ≡ record r { elapsed = r.elapsed + 1 }
clocked_quiet r h = grind arith

not_next : (r : Countdown) → r.elapsed + 1 < due r → ticks_next r ≡ false
not_next r h = grind arith

-- clocks before the one that ticks
pub quiet_clocks : (n : ℕ) (r : Countdown) → r.elapsed + n < due r → after_clocks n r ≡ record r { elapsed = r.elapsed + n }
unfolding after_clocks
quiet_clocks zero r h = let same : r.elapsed ≡ r.elapsed + 0 = omega arith in ap (λ (e : ℕ). record r { elapsed = e }) same
quiet_clocks (suc n) r h =
    let first : r.elapsed + 1 < due r = omega arith in
    let less : (r.elapsed + 1) + n < due r = omega arith in
    let sum : (r.elapsed + 1) + n ≡ r.elapsed + suc n = omega arith in
    ap (after_clocks n) (clocked_quiet r first) ∙ quiet_clocks n (record r { elapsed = r.elapsed + 1 }) less
    ∙ ap (λ (e : ℕ). record r { elapsed = e }) sum

pub quiet_ticks : (n : ℕ) (r : Countdown) → r.elapsed + n < due r → ticks_within n r ≡ 0
unfolding ticks_within
quiet_ticks zero r h = refl
quiet_ticks (suc n) r h =
    let first : r.elapsed + 1 < due r = omega arith in
    let less : (r.elapsed + 1) + n < due r = omega arith in
    rw (not_next r first, clocked_quiet r first) (zero-add _ ∙ quiet_ticks n (record r { elapsed = r.elapsed + 1 }) less)

-- a count of modes 0 and 4 that has ticked stands still
clocked_spent : (r : Countdown) → is_periodic r.mode ≡ false → due r ≤ r.elapsed → clocked r ≡ r
clocked_spent r mode h = grind arith

not_again : (r : Countdown) → due r ≤ r.elapsed → ticks_next r ≡ false
not_again r h = grind arith

pub spent_clocks : (n : ℕ) (r : Countdown) → is_periodic r.mode ≡ false → due r ≤ r.elapsed → after_clocks n r ≡ r
unfolding after_clocks
spent_clocks zero r mode h = refl
spent_clocks (suc n) r mode h = ap (after_clocks n) (clocked_spent r mode h) ∙ spent_clocks n r mode h

pub spent_ticks : (n : ℕ) (r : Countdown) → is_periodic r.mode ≡ false → due r ≤ r.elapsed → ticks_within n r ≡ 0
unfolding ticks_within
spent_ticks zero r mode h = refl
spent_ticks (suc n) r mode h = rw (not_again r h, clocked_spent r mode h) (zero-add _ ∙ spent_ticks n r mode h)

-- no clocks, one clock, and clocks one after another
pub no_clocks : (r : Countdown) → after_clocks 0 r ≡ r
unfolding after_clocks
no_clocks r = refl

pub no_ticks : (r : Countdown) → ticks_within 0 r ≡ 0
unfolding ticks_within
no_ticks r = refl

pub one_clock : (r : Countdown) → after_clocks 1 r ≡ clocked r
unfolding after_clocks
one_clock r = refl

pub one_tick : (r : Countdown) → ticks_next r ≡ true → ticks_within 1 r ≡ 1
unfolding ticks_within
one_tick r h = rw h refl

pub clocks_sum : (m n : ℕ) (r : Countdown) → after_clocks (m + n) r ≡ after_clocks n (after_clocks m r)
unfolding after_clocks
clocks_sum zero n r = ap (λ k. after_clocks k r) (zero-add n)
clocks_sum (suc m) n r =
    let sum : suc m + n ≡ suc (m + n) = omega arith in
    ap (λ k. after_clocks k r) sum ∙ clocks_sum m n (clocked r)

pub ticks_sum : (m n : ℕ) (r : Countdown) → ticks_within (m + n) r ≡ ticks_within m r + ticks_within n (after_clocks m r)
unfolding after_clocks ticks_within
ticks_sum zero n r = ap (λ k. ticks_within k r) (zero-add n) ∙ sym (zero-add _)
ticks_sum (suc m) n r =
    let sum : suc m + n ≡ suc (m + n) = omega arith in
    let rest = ticks_sum m n (clocked r) in
    ap (λ k. ticks_within k r) sum ∙ omega (arith, rest)

-- no more ticks than clocks
pub ticks_most : (n : ℕ) (r : Countdown) → ticks_within n r ≤ n
unfolding ticks_within
ticks_most zero r = omega arith
ticks_most (suc n) r = let rest = ticks_most n (clocked r) in grind (arith, rest)

-- a count that has ticked for good is of modes 0 and 4
pub one_shot : (r : Countdown) → IsCounting r → due r ≤ r.elapsed → is_periodic r.mode ≡ false
one_shot r counting h = grind (arith, counting.periodic)

-- clocks in which no tick falls
pub silent : (n : ℕ) (r : Countdown) → IsCounting r → (r.elapsed < due r → r.elapsed + n < due r) → ticks_within n r ≡ 0
silent n r counting quiet =
    elim (leb_tells (due r) r.elapsed) [
      | inl past ↦ spent_ticks n r (one_shot r counting past.1) past.1
      | inr below ↦ quiet_ticks n r (quiet below.1)
    ]
