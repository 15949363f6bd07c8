-- What a line asks is allowed to the caller that it names.
use Rattle.std.proofs.Common.{◌≡◌, ℕ, ◌+◌, Bool, true, false, nat_eq, List, [], ◌∷◌, drop, refl, ap, sym, ◌∙◌, if◌then◌else◌, Some, None, All, IfSome, MatchOption, arith}
use Rattle.std.specs.declared.option.Option.{Option}
use Rattle.std.proofs.lemmas.List.Elements.{All-nil, All-cons, All-head, All-tail, All-drop, All-same}
use Rattle.std.proofs.lemmas.Bool.Decides.{nat_tests}
use Rattle.irq_base.specs.declared.call.Caller.{Caller}
use Rattle.irq_base.specs.declared.call.Caller.TheVariants.{Device, Cpu}
use Rattle.irq_base.specs.declared.shape.Shape.{Shape}
use Rattle.script_text.specs.declared.task.Task.{Task}
use Rattle.script_text.specs.declared.task.ActorLine.{ActorLine}
use Rattle.script_text.specs.Asks.{same_caller, tasks_of}
use Rattle.script_text.specs.Scripts.{may_ask}
use Rattle.script_text.specs.Fitting.{IsLine}
use Rattle.script_text.proofs.Tasks.{tasks-first, tasks-none}

same-number : (a b : ℕ) → nat_eq a b ≡ true → a ≡ b
same-number a b h = grind (arith, nat_tests, h)

same-callers : (a b : Caller) → same_caller a b ≡ true → a ≡ b
same-callers (Device a) (Device b) h = ap (λ n. Device n) (same-number a b h)
same-callers (Cpu a) (Cpu b) h = ap (λ n. Cpu n) (same-number a b h)
same-callers (Device a) (Cpu b) h = absurd (cc)
same-callers (Cpu a) (Device b) h = absurd (cc)

abbrev May : Shape → Caller → Task → Type 0
May shape who t = may_ask shape who t ≡ true

tasks-allowed : (shape : Shape) (who : Caller) (lines : List ActorLine) → All (IsLine shape) lines → All (May shape who) (tasks_of who lines)
tasks-allowed shape who [] h = All-same (May shape who) (tasks_of who []) [] (tasks-none who) (All-nil (May shape who))
tasks-allowed shape who (x ∷ lines) h =
    All-same (May shape who) (tasks_of who (x ∷ lines)) _ (tasks-first who x lines)
    (either (same_caller x.caller who) (λ same. ap (λ c. may_ask shape c x.task) (sym (same-callers x.caller who same)) ∙ (All-head (IsLine shape) x lines h).2)
    (tasks-allowed shape who lines (All-tail (IsLine shape) x lines h)))
  where
    either : (b : Bool) → (b ≡ true → May shape who x.task) → All (May shape who) (tasks_of who lines) →
        All (May shape who) (if b then x.task ∷ tasks_of who lines else tasks_of who lines)
    either true may rest = All-cons (May shape who) x.task (tasks_of who lines) (may refl) rest
    either false may rest = rest

-- the task that stands at a place of an actor
pub task-allowed : {X : Type 0} (now : X → Task) (shape : Shape) (who : Caller) (lines : List ActorLine) (k : ℕ) (o : Option X) → All (IsLine shape) lines →
    MatchOption o (drop k (tasks_of who lines) ≡ []) (λ t. drop k (tasks_of who lines) ≡ now t ∷ drop (k + 1) (tasks_of who lines)) →
    IfSome o (λ t. may_ask shape who (now t) ≡ true)
task-allowed now shape who lines k None h at = tt
task-allowed now shape who lines k (Some t) h at =
    let tasks = tasks_of who lines in
    All-head (May shape who) (now t) (drop (k + 1) tasks)
    (All-same (May shape who) (now t ∷ drop (k + 1) tasks) (drop k tasks) (sym at) (All-drop (May shape who) k tasks (tasks-allowed shape who lines h)))
