-- What actors ask, line by line.
use Rattle.std.proofs.Common.{◌≡◌, Bool, true, false, cond, List, [], ◌∷◌, map, filter, fold, if◌then◌else◌, None, refl, ap, ◌∙◌}
use Rattle.irq_base.specs.declared.call.Caller.{Caller}
use Rattle.irq_base.specs.declared.reply.Reply.{Reply}
use Rattle.script_text.specs.declared.task.Task.{Task}
use Rattle.script_text.specs.declared.task.ActorLine.{ActorLine}
use Rattle.script_text.specs.Asks.{Asks, no_more, same_caller, next_call, answered, line_asks, unrolled, tasks_of, next_ask}

pub tasks_nothing : (who : Caller) → tasks_of who [] ≡ []
unfolding tasks_of
tasks_nothing who = refl

pub tasks_of_line : (who : Caller) (line : ActorLine) (lines : List ActorLine)
    → tasks_of who (line ∷ lines) ≡ (if same_caller line.caller who then line.task ∷ tasks_of who lines else tasks_of who lines)
unfolding tasks_of
tasks_of_line who line lines = by (same_caller line.caller who) (filter (λ line. same_caller line.caller who) lines)
  where
    by : (t : Bool) (ls : List ActorLine)
        → map (λ line. line.task) (cond t (line ∷ ls) ls) ≡ (if t then line.task ∷ map (λ line. line.task) ls else map (λ line. line.task) ls)
    by true ls = refl
    by false ls = refl

pub unrolled_nothing : unrolled [] ≡ no_more
unfolding unrolled
unrolled_nothing = refl

pub unrolled_line : (t : Task) (ts : List Task) → unrolled (t ∷ ts) ≡ line_asks t (unrolled ts)
unfolding unrolled
unrolled_line t ts = refl

-- where nothing is asked, nothing is asked after replies
nothing_more : (replies : List Reply) → fold answered no_more replies ≡ no_more
nothing_more [] = refl
nothing_more (r ∷ rs) = nothing_more rs

-- a caller without lines asks nothing
pub lineless_ask_nothing : (who : Caller) (lines : List ActorLine) (replies : List Reply) → tasks_of who lines ≡ [] → next_ask who lines replies ≡ None
lineless_ask_nothing who lines replies none =
    ap (λ (a : Asks). next_call (fold answered a replies)) (ap unrolled none ∙ unrolled_nothing) ∙ ap next_call (nothing_more replies)
