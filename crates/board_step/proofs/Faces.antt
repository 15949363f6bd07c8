-- What a face over a board on one thread keeps.
use Rattle.board_step.proofs.Basics.{◌≡◌, ℕ, ◌+◌, ◌-◌, ◌<◌, ◌≤◌, Bool, true, false, ◌&&◌, nat_eq, if◌then◌else◌, List, [], ◌∷◌, Some, None, refl, sym, ap, ◌∙◌, subst, arith, nat_tests, Option, Call, Caller, Entry, Refusal, Spent, Calls, Publications, Board, Leads, Step, is_there, may_publish, is_reached, KeepsTheFrame, publishes_unless, refusal_on as refusal_of, would_publish, spent_of}
use Rattle.board_step.proofs.Publishing.{steps_show_publications, steps_keep_the_frame}

some_none : {A : Type 0} (x : A) → Some x ≡ None → ⊥
some_none x e = cc

same_some : {A : Type 0} (x y : A) → Some x ≡ Some y → x ≡ y
same_some x y e = cc

-- ---- limits

-- by what a limit bars a call: the counts, and whether it is a publication
abbrev barred : ℕ → ℕ → ℕ → ℕ → Bool → Option Spent
barred length calls publications limit publishes =
    if nat_eq length calls then Some (Calls calls) else if publishes && nat_eq publications limit then Some (Publications limit) else None

same_nat : (n : ℕ) → nat_eq n n ≡ true
same_nat n = grind (arith, nat_tests)

-- a limit that bars a call is reached
pub spent_reached : (b : Board) (call : Call) (spent : Spent) → spent_of b call ≡ Some spent → is_reached b (Some spent) ≡ true
spent_reached b call spent h1 = grind arith

-- where calls are left, and the call can be no publication, no limit bars it
pub never_barred : (b : Board) (call : Call) (spent : Spent) → spent_of b call ≡ Some spent → 0 < b.shape.calls - b.length → may_publish call ≡ false → ⊥
never_barred b call spent is left quiet = some_none spent (sym is ∙ (λ i. if short i then Some (Calls b.shape.calls) else if (unless (refusal_of b call) call quiet) i && nat_eq b.publications b.shape.publications then Some (Publications b.shape.publications) else None))
  where
    short : nat_eq b.length b.shape.calls ≡ false
    short = grind (left, arith, nat_tests)

    unless : (r : Option Refusal) (call : Call) → may_publish call ≡ false → publishes_unless r b call ≡ false
    unless r call h1 = grind arith

-- ---- after an answer

module _ (b : Board) (e : Entry) (c : Board) (step : Step b e c) where
  frame : KeepsTheFrame b e c
  frame = steps_keep_the_frame b e c step

  pub answered_shape : c.shape ≡ b.shape
  answered_shape = frame.shape

  pub answered_there : (who : Caller) → is_there who b.shape ≡ true → is_there who c.shape ≡ true
  answered_there who there = subst (λ s. is_there who s ≡ true) (sym frame.shape) there

  pub answered_length : c.length ≡ b.length + 1
  answered_length = frame.length

  -- the length was below the limit
  pub below_limit : b.length ≤ b.shape.calls → b.length < b.shape.calls
  below_limit h1 = (let free = step.in_limits in grind (free, arith))

  pub answered_left : b.length ≤ b.shape.calls → c.shape.calls - c.length + 1 ≡ b.shape.calls - b.length
  answered_left most = (λ i. (frame.shape i).calls - frame.length i + 1) ∙ (let low = below_limit most in omega (arith, low))

  pub answered_place : (at : ℕ) → at ≡ b.length → (b.length ≤ at) × (at < c.length)
  answered_place at is = (omega (arith, is), let more = frame.length in omega (arith, is, more))

  -- a limit that was reached is reached still
  pub still_reached : (last : Option Spent) → is_reached b last ≡ true → is_reached c last ≡ true
  still_reached None is = refl
  still_reached (Some (Calls at)) is = absurd (barred_then (and_both (nat_eq at b.shape.calls) (nat_eq b.length at) is))
    where
      and_both : (s t : Bool) → (s && t) ≡ true → (s ≡ true) × (t ≡ true)
      and_both s t h1 = grind arith

      barred_then : (nat_eq at b.shape.calls ≡ true) × (nat_eq b.length at ≡ true) → ⊥
      barred_then h = (let p = h.0 in let q = h.1 in let long : nat_eq b.length b.shape.calls ≡ true = grind (p, q, arith, nat_tests) in
          some_none (Calls b.shape.calls) (sym (ap (λ t. if t then Some (Calls b.shape.calls) else if would_publish b e.call && nat_eq b.publications b.shape.publications then Some (Publications b.shape.publications) else None) long) ∙ step.in_limits))
  still_reached (Some (Publications at)) is = (λ i. nat_eq at (frame.shape i).publications && nat_eq ((frame.publications ∙ ap (λ t. if t then b.publications + 1 else b.publications) (sym (steps_show_publications b e c step) ∙ by (nat_eq b.length b.shape.calls) (would_publish b e.call) refl refl)) i) at) ∙ is
    where
      and_both : (s t : Bool) → (s && t) ≡ true → (s ≡ true) × (t ≡ true)
      and_both s t h1 = grind arith

      full : nat_eq b.publications b.shape.publications ≡ true
      full = (let h = and_both (nat_eq at b.shape.publications) (nat_eq b.publications at) is in let p = h.0 in let q = h.1 in grind (p, q, arith, nat_tests))

      by : (s t : Bool) → nat_eq b.length b.shape.calls ≡ s → would_publish b e.call ≡ t → t ≡ false
      by s t h1 h2 = grind arith

-- and after entries
pub stays_reached : (b : Board) (o : Option Spent) (es : List Entry) (c : Board) → Leads b es c → is_reached b o ≡ true → is_reached c o ≡ true
stays_reached b o [] c same is = subst (λ (x : Board). is_reached x o ≡ true) same is
stays_reached b o (e ∷ es) c (next, step, more) is = stays_reached next o es c more (still_reached b e next step o is)
