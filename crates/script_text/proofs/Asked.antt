-- What is left at a place in the lines.
use Rattle.std.proofs.Common.{◌≡◌, ℕ, zero, suc, ◌+◌, ◌-◌, ◌<◌, List, [], ◌∷◌, ◌++◌, Some, None, true, false, drop, refl, ap, sym, ◌∙◌, subst, ltb-false, ltb-true, nat_lt, if◌then◌else◌, fold, arith}
use Rattle.std.specs.declared.option.Option.{Option}
use Rattle.std.proofs.lemmas.List.Sums.{fold-append}
use Rattle.irq_base.specs.declared.call.Call.{Call}
use Rattle.irq_base.specs.declared.call.Call.TheVariants.{Ack}
use Rattle.irq_base.specs.declared.reply.Reply.{Reply}
use Rattle.irq_base.specs.declared.reply.Reply.TheVariants.{Signal, Done, Count, Empty, Removed, Value, Exit, Vector, Extint, Nmi, Ended, Nothing, Held, Refused}
use Rattle.script_text.specs.declared.task.Task.{Task}
use Rattle.script_text.specs.declared.task.Task.TheVariants.{Once, Repeat, Serve}
use Rattle.script_text.specs.declared.progress.Phase.{Phase}
use Rattle.script_text.specs.declared.progress.Phase.TheVariants.{Round}
use Rattle.script_text.specs.declared.progress.Progress.{Progress}
use Rattle.script_text.specs.Asks.{Asks, ask, no_more, next_call, answered, phase_after, goes_on, once, times, after_ack, rounds, unrolled, line_asks, rest_of_line, rest_of_lines, left_at}
use Rattle.script_text.specs.Index.{IsCounted}

times-suc : (n : ℕ) (call : Call) (rest : Asks) → times (suc n) call rest ≡ once call (times n call rest)
unfolding times
times-suc n call rest = refl

rounds-suc : (n : ℕ) (rest : Asks) → rounds (suc n) rest ≡ ask Ack (λ reply. after_ack reply (rounds n rest))
unfolding rounds
rounds-suc n rest = refl

times-none : (m : ℕ) (call : Call) (rest : Asks) → m ≡ 0 → times m call rest ≡ rest
unfolding times
times-none m call rest h = ap (λ k. times k call rest) h

rounds-none : (m : ℕ) (rest : Asks) → m ≡ 0 → rounds m rest ≡ rest
unfolding rounds
rounds-none m rest h = ap (λ k. rounds k rest) h

-- a line that is counted asks its call, or what the phase says
pub next-repeat : (n d : ℕ) (call : Call) (p : Phase) (rest : Asks) → 0 < n → next_call (rest_of_line (Repeat n call) d p rest) ≡ Some call
next-repeat zero d call p rest h = absurd (omega (arith, h))
next-repeat (suc n) d call p rest h = refl

pub next-round : (n d : ℕ) (rest : Asks) → 0 < n → next_call (rest_of_line (Serve n) d Round rest) ≡ Some Ack
next-round zero d rest h = absurd (omega (arith, h))
next-round (suc n) d rest h = refl

-- after a repetition: one more, or what stands behind the line
more-times : (m d : ℕ) (call : Call) (rest : Asks) →
    goes_on (Repeat (suc m) call) rest (if nat_lt (d + 1) (suc m) then Some (d + 1, Round) else None) ≡ times (m - d) call rest
more-times m d call rest =
    elim (nat_lt (d + 1) (suc m)) as (λ b. nat_lt (d + 1) (suc m) ≡ b → goes_on (Repeat (suc m) call) rest (if b then Some (d + 1, Round) else None) ≡ times (m - d) call rest) [
      | true ↦ λ below.
          let less = ltb-true (d + 1) (suc m) below in
          let e : m - d ≡ suc (m - (d + 1)) = omega arith in
          sym (ap (λ k. times k call rest) e ∙ times-suc (m - (d + 1)) call rest)
      | false ↦ λ past. let beyond = ltb-false (d + 1) (suc m) past in sym (times-none (m - d) call rest (omega arith))
    ] refl

more-rounds : (m d : ℕ) (rest : Asks) →
    goes_on (Serve (suc m)) rest (if nat_lt (d + 1) (suc m) then Some (d + 1, Round) else None) ≡ rounds (m - d) rest
more-rounds m d rest =
    elim (nat_lt (d + 1) (suc m)) as (λ b. nat_lt (d + 1) (suc m) ≡ b → goes_on (Serve (suc m)) rest (if b then Some (d + 1, Round) else None) ≡ rounds (m - d) rest) [
      | true ↦ λ below.
          let less = ltb-true (d + 1) (suc m) below in
          let e : m - d ≡ suc (m - (d + 1)) = omega arith in
          sym (ap (λ k. rounds k rest) e ∙ rounds-suc (m - (d + 1)) rest)
      | false ↦ λ past. let beyond = ltb-false (d + 1) (suc m) past in sym (rounds-none (m - d) rest (omega arith))
    ] refl

pub repeat-goes : (t : Task) (n d : ℕ) (call : Call) (p : Phase) (reply : Reply) (o : Option (ℕ × Phase)) (rest : Asks) → t ≡ Repeat n call → IsCounted t →
    o ≡ (if nat_lt (d + 1) n then Some (d + 1, Round) else None) → goes_on t rest o ≡ answered (rest_of_line t d p rest) reply
repeat-goes t n d call p reply o rest is counted e =
    subst (λ t. IsCounted t → goes_on t rest o ≡ answered (rest_of_line t d p rest) reply) (sym is)
    (λ some. ap (goes_on (Repeat n call) rest) e ∙ go n some) counted
  where
    go : (n : ℕ) → 0 < n → goes_on (Repeat n call) rest (if nat_lt (d + 1) n then Some (d + 1, Round) else None) ≡ answered (rest_of_line (Repeat n call) d p rest) reply
    go zero some = absurd (omega (arith, some))
    go (suc m) some = more-times m d call rest

-- a round that ends
pub round-goes : (t : Task) (n d : ℕ) (p : Phase) (reply : Reply) (o : Option (ℕ × Phase)) (rest : Asks) → t ≡ Serve n → IsCounted t →
    ((m : ℕ) → answered (rest_of_line (Serve (suc m)) d p rest) reply ≡ rounds (m - d) rest) →
    o ≡ (if nat_lt (d + 1) n then Some (d + 1, Round) else None) → goes_on t rest o ≡ answered (rest_of_line t d p rest) reply
round-goes t n d p reply o rest is counted over e =
    subst (λ t. IsCounted t → goes_on t rest o ≡ answered (rest_of_line t d p rest) reply) (sym is)
    (λ some. ap (goes_on (Serve n) rest) e ∙ go n some) counted
  where
    go : (n : ℕ) → 0 < n → goes_on (Serve n) rest (if nat_lt (d + 1) n then Some (d + 1, Round) else None) ≡ answered (rest_of_line (Serve n) d p rest) reply
    go zero some = absurd (omega (arith, some))
    go (suc m) some = more-rounds m d rest ∙ sym (over m)

-- what is left of a round and behind it, after the reply to its acknowledge
abbrev round_left : ℕ → ℕ → Asks → Option Phase → Asks
round_left m d rest None = rounds (m - d) rest
round_left m d rest (Some q) = rest_of_line (Serve (suc m)) d q rest

round-left : (m d : ℕ) (rest : Asks) (reply : Reply) → round_left m d rest (phase_after reply) ≡ after_ack reply (rounds (m - d) rest)
round-left m d rest (Vector v) = refl
round-left m d rest (Extint v) = refl
round-left m d rest (Signal s) = refl
round-left m d rest Done = refl
round-left m d rest (Count n) = refl
round-left m d rest Empty = refl
round-left m d rest (Removed n) = refl
round-left m d rest (Value v) = refl
round-left m d rest Exit = refl
round-left m d rest Nmi = refl
round-left m d rest (Ended v) = refl
round-left m d rest Nothing = refl
round-left m d rest (Held n) = refl
round-left m d rest (Refused r) = refl

after-round : (m d : ℕ) (rest : Asks) (reply : Reply) (p : Phase) (o r : Option Phase) → p ≡ Round → o ≡ phase_after reply → o ≡ r →
    round_left m d rest r ≡ answered (rest_of_line (Serve (suc m)) d p rest) reply
after-round m d rest reply p o r begins is e =
    ap (round_left m d rest) (sym e ∙ is) ∙ round-left m d rest reply ∙ ap (λ p. answered (rest_of_line (Serve (suc m)) d p rest) reply) (sym begins)

pub round-over : (m d : ℕ) (rest : Asks) (reply : Reply) (p : Phase) (o : Option Phase) → p ≡ Round → o ≡ phase_after reply → o ≡ None →
    answered (rest_of_line (Serve (suc m)) d p rest) reply ≡ rounds (m - d) rest
round-over m d rest reply p o begins is none = sym (after-round m d rest reply p o None begins is none)

-- a round that goes on
pub round-on : (t : Task) (n d : ℕ) (p q : Phase) (reply : Reply) (o : Option Phase) (rest : Asks) → t ≡ Serve n → IsCounted t →
    p ≡ Round → o ≡ phase_after reply → o ≡ Some q → rest_of_line t d q rest ≡ answered (rest_of_line t d p rest) reply
round-on t n d p q reply o rest is counted begins tells some =
    subst (λ t. IsCounted t → rest_of_line t d q rest ≡ answered (rest_of_line t d p rest) reply) (sym is) (go n) counted
  where
    go : (n : ℕ) → 0 < n → rest_of_line (Serve n) d q rest ≡ answered (rest_of_line (Serve n) d p rest) reply
    go zero none = absurd (omega (arith, none))
    go (suc m) few = after-round m d rest reply p o (Some q) begins tells some

-- the first line, not begun
line-begins : (t : Task) (rest : Asks) → rest_of_line t 0 Round rest ≡ line_asks t rest
line-begins (Once call) rest = refl
line-begins (Repeat zero call) rest = sym (times-none 0 call rest refl)
line-begins (Repeat (suc m) call) rest = ap (λ k. once call (times k call rest)) (omega arith) ∙ sym (times-suc m call rest)
line-begins (Serve zero) rest = sym (rounds-none 0 rest refl)
line-begins (Serve (suc m)) rest = ap (λ k. ask Ack (λ reply. after_ack reply (rounds k rest))) (omega arith) ∙ sym (rounds-suc m rest)

unrolled-first : (t : Task) (ts : List Task) → unrolled (t ∷ ts) ≡ line_asks t (unrolled ts)
unfolding unrolled
unrolled-first t ts = refl

unrolled-none : unrolled [] ≡ no_more
unfolding unrolled
unrolled-none = refl

begins : (ts : List Task) (k : ℕ) → rest_of_lines ts (record { line = k; done = 0; phase = Round }) ≡ unrolled ts
begins [] k = sym unrolled-none
begins (t ∷ ts) k = line-begins t (unrolled ts) ∙ sym (unrolled-first t ts)

pub left-begins : (tasks : List Task) (k : ℕ) → left_at tasks (record { line = k; done = 0; phase = Round }) ≡ unrolled (drop k tasks)
left-begins tasks k = begins (drop k tasks) k

-- a line that is done
pub line-over : (tasks : List Task) (p : Progress) (t : Task) (reply : Reply) →
    drop p.line tasks ≡ t ∷ drop (p.line + 1) tasks → ((rest : Asks) → rest ≡ answered (rest_of_line t p.done p.phase rest) reply) →
    left_at tasks (record { line = p.line + 1; done = 0; phase = Round }) ≡ answered (left_at tasks p) reply
line-over tasks p t reply here over =
    left-begins tasks (p.line + 1) ∙ over (unrolled (drop (p.line + 1) tasks)) ∙ sym (ap (λ ts. answered (rest_of_lines ts p) reply) here)

-- a reply more that was followed
pub one-followed : (a left next : Asks) (replies : List Reply) (reply : Reply) → next ≡ answered left reply → left ≡ fold answered a replies →
    next ≡ fold answered a (replies ++ reply ∷ [])
one-followed a left next replies reply is followed =
    is ∙ ap (λ x. answered x reply) followed ∙ sym (fold-append answered a replies (reply ∷ []))
