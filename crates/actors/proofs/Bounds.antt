-- An actor of a script asks no more than its lines can.
use Rattle.std.proofs.Common.{◌≡◌, ℕ, zero, suc, ◌+◌, ◌*◌, ◌<◌, ◌≤◌, Bool, true, false, cond, if◌then◌else◌, List, [], ◌∷◌, map, filter, length, All, Some, refl, sym, subst, arith}
use Rattle.std.proofs.lemmas.List.Elements.{All-head, All-tail}
use Rattle.irq_base.specs.declared.call.Call.{Call}
use Rattle.irq_base.specs.declared.call.Call.TheVariants.{Eoi, PortOut}
use Rattle.irq_base.specs.declared.call.Caller.{Caller}
use Rattle.irq_base.specs.declared.reply.Reply.{Reply}
use Rattle.irq_base.specs.declared.reply.Reply.TheVariants.{Vector, Extint}
use Rattle.script_text.specs.declared.task.Task.{Task}
use Rattle.script_text.specs.declared.task.Task.TheVariants.{Once, Repeat, Serve}
use Rattle.script_text.specs.declared.task.ActorLine.{ActorLine}
use Rattle.script_text.specs.Asks.{Asks, no_more, ask, once, times, rounds, to_master, after_ack, line_asks, unrolled, tasks_of, same_caller, next_call, answered}
use Rattle.script_text.specs.Fitting.{FitsTask, IsLine, IsScript}
use Rattle.script_text.specs.Scripts.{Script}
use Rattle.actors.specs.Bounds.{AsksAtMost}

pub at_most_more : (m n : ℕ) (a : Asks) → m ≤ n → AsksAtMost m a → AsksAtMost n a
at_most_more m n no_more le h = tt
at_most_more zero n (ask call k) le h = absurd h
at_most_more (suc m) zero (ask call k) le h = absurd (omega (arith, le))
at_most_more (suc m) (suc n) (ask call k) le h = λ reply. at_most_more m n (k reply) (omega (arith, le)) (h reply)

at_once : (n k : ℕ) (call : Call) (rest : Asks) → n + 1 ≤ k → AsksAtMost n rest → AsksAtMost k (once call rest)
at_once n zero call rest le h = absurd (omega (arith, le))
at_once n (suc k) call rest le h = λ reply. at_most_more n k rest (omega (arith, le)) h

at_times : (m n k : ℕ) (call : Call) (rest : Asks) → m + n ≤ k → AsksAtMost n rest → AsksAtMost k (times m call rest)
unfolding times
at_times zero n k call rest le h = at_most_more n k rest (omega (arith, le)) h
at_times (suc m) n zero call rest le h = absurd (omega (arith, le))
at_times (suc m) n (suc k) call rest le h = λ reply. at_times m n k call rest (omega (arith, le)) h

at_ack : (n k : ℕ) (reply : Reply) (rest : Asks) → n + 2 ≤ k → AsksAtMost n rest → AsksAtMost k (after_ack reply rest)
at_ack n k (Vector v) rest le h = at_once n k Eoi rest (omega (arith, le)) h
at_ack n k (Extint v) rest le h =
    at_once (n + 1) k (PortOut 0xa0 1 0x20) (to_master rest) (omega (arith, le)) (at_once n (n + 1) (PortOut 0x20 1 0x20) rest (omega arith) h)
at_ack n k reply rest le h = at_most_more n k rest (omega (arith, le)) h

at_rounds : (m n k : ℕ) (rest : Asks) → m * 3 + n ≤ k → AsksAtMost n rest → AsksAtMost k (rounds m rest)
unfolding rounds
at_rounds zero n k rest le h = at_most_more n k rest (omega (arith, le)) h
at_rounds (suc m) n zero rest le h = absurd (omega (arith, le))
at_rounds (suc m) n (suc k) rest le h = λ reply. at_ack (m * 3 + n) k reply (rounds m rest) (omega (arith, le)) (at_rounds m n (m * 3 + n) rest (omega arith) h)

at_line : (t : Task) (n k : ℕ) (rest : Asks) → FitsTask t → n + 3000000 ≤ k → AsksAtMost n rest → AsksAtMost k (line_asks t rest)
at_line (Once call) n k rest fits le h = at_once n k call rest (omega (arith, le)) h
at_line (Repeat m call) n k rest fits le h = at_times m n k call rest (let most = fits.0.1 in omega (arith, le, most)) h
at_line (Serve m) n k rest fits le h = at_rounds m n k rest (let most = fits.1 in omega (arith, le, most)) h

nothing : (who : Caller) → unrolled (tasks_of who []) ≡ no_more
unfolding tasks_of unrolled
nothing who = refl

of_line : (who : Caller) (line : ActorLine) (lines : List ActorLine)
    → unrolled (tasks_of who (line ∷ lines)) ≡ (if same_caller line.caller who then line_asks line.task (unrolled (tasks_of who lines)) else unrolled (tasks_of who lines))
unfolding tasks_of unrolled
of_line who line lines = by (same_caller line.caller who) (filter (λ line. same_caller line.caller who) lines)
  where
    by : (t : Bool) (ls : List ActorLine)
        → unrolled (map (λ line. line.task) (cond t (line ∷ ls) ls)) ≡ (if t then line_asks line.task (unrolled (map (λ line. line.task) ls)) else unrolled (map (λ line. line.task) ls))
    by true ls = refl
    by false ls = refl

with_line : (s : Script) (who : Caller) (line : ActorLine) (lines : List ActorLine) (t : Bool) → FitsTask line.task
    → AsksAtMost (length lines * 3000000) (unrolled (tasks_of who lines))
    → AsksAtMost (length (line ∷ lines) * 3000000) (if t then line_asks line.task (unrolled (tasks_of who lines)) else unrolled (tasks_of who lines))
with_line s who line lines true fits rest = at_line line.task (length lines * 3000000) (length (line ∷ lines) * 3000000) (unrolled (tasks_of who lines)) fits (omega arith) rest
with_line s who line lines false fits rest = at_most_more (length lines * 3000000) (length (line ∷ lines) * 3000000) (unrolled (tasks_of who lines)) (omega arith) rest

-- an actor asks at most three million calls a line
at_lines : (s : Script) (who : Caller) (lines : List ActorLine) → All (IsLine s.shape) lines → AsksAtMost (length lines * 3000000) (unrolled (tasks_of who lines))
at_lines s who [] fit = subst (AsksAtMost (length {A = ActorLine} [] * 3000000)) (sym (nothing who)) tt
at_lines s who (line ∷ lines) fit = subst (AsksAtMost (length (line ∷ lines) * 3000000)) (sym (of_line who line lines))
    (with_line s who line lines (same_caller line.caller who) (All-head (IsLine s.shape) line lines fit).1 (at_lines s who lines (All-tail (IsLine s.shape) line lines fit)))

pub most_of : (s : Script) (n : ℕ) → n ≡ length s.lines → IsScript s → (who : Caller) → AsksAtMost (n * 3000000) (unrolled (tasks_of who s.lines))
most_of s n many fits who = subst (λ m. AsksAtMost (m * 3000000) (unrolled (tasks_of who s.lines))) (sym many) (at_lines s who s.lines fits.lines)

-- where something is asked, one call less is left after its reply
pub one_less : (n : ℕ) (a : Asks) (call : Call) (reply : Reply) → next_call a ≡ Some call → AsksAtMost n a → (0 < n) × ((m : ℕ) → n ≡ m + 1 → AsksAtMost m (answered a reply))
one_less n no_more call reply is h = absurd (cc)
one_less zero (ask c k) call reply is h = absurd h
one_less (suc n) (ask c k) call reply is h = (omega arith, λ m e. at_most_more n m (k reply) (omega (arith, e)) (h reply))
