-- Lines that ask one call each, replayed where no limit is near: each makes one entry, and no limit bars a call.
use Rattle.std.proofs.Common.{◌≡◌, ℕ, suc, ◌+◌, ◌<◌, ◌≤◌, Bool, true, false, cond, ◌&&◌, nat_eq, List, [], ◌∷◌, ◌++◌, map, filter, length, if◌then◌else◌, Some, None, refl, sym, ap, ◌∙◌, subst, All, arith}
use Rattle.std.specs.declared.option.Option.{Option}
use Rattle.std.proofs.lemmas.Bool.Decides.{nat_tests}
use Rattle.std.proofs.lemmas.List.Elements.{All-head, All-tail, All-cons, All-nil}
use Rattle.std.proofs.lemmas.List.Sums.{count_by-le-length}
use Rattle.irq_base.specs.declared.call.Call.{Call}
use Rattle.irq_base.specs.declared.call.Caller.{Caller}
use Rattle.irq_base.specs.declared.lists.Entry.{Entry}
use Rattle.irq_base.specs.declared.reply.Reply.TheVariants.{Nothing}
use Rattle.irq_base.specs.declared.reply.Spent.{Spent}
use Rattle.irq_base.specs.declared.reply.Spent.TheVariants.{Calls, Publications}
use Rattle.script_text.specs.declared.task.Task.{Task}
use Rattle.script_text.specs.declared.task.Task.TheVariants.{Once}
use Rattle.script_text.specs.declared.task.ActorLine.{ActorLine}
use Rattle.script_text.specs.Asks.{Asks, no_more, ask, same_caller, next_call, answered, once, line_asks, unrolled, tasks_of}
use Rattle.board_model.specs.Board.{Board}
use Rattle.board_step.specs.Step.{would_publish, spent_of, is_publication, Step}
use Rattle.board_step.specs.History.{Leads}
use Rattle.board_step.proofs.Publishing.{histories_keep_the_frame}
use Rattle.replaying.specs.declared.stops.Stop.{Stop}
use Rattle.replaying.specs.FileOrder.{with_stop, AsksInTurn, LineAsked, LinesAsked, first_stop}
use Rattle.replaying.proofs.Unwished.{leads_of}

-- ---- tasks of one call

pub record IsOnce (t : Task) : Type 0 where
  pub call : Call
  pub is : t ≡ Once call

abbrev pub AsksOnce : ActorLine → Type 0
AsksOnce line = IsOnce line.task

-- how many calls are still asked, where each is asked whatever is replied
abbrev depth : Asks → ℕ
depth no_more = 0
depth (ask call k) = suc (depth (k Nothing))

unrolled_nothing : unrolled [] ≡ no_more
unfolding unrolled
unrolled_nothing = refl

unrolled_line : (t : Task) (ts : List Task) → unrolled (t ∷ ts) ≡ line_asks t (unrolled ts)
unfolding unrolled
unrolled_line t ts = refl

unrolled_once : (t : Task) (ts : List Task) (is : IsOnce t) → unrolled (t ∷ ts) ≡ once is.call (unrolled ts)
unrolled_once t ts is = unrolled_line t ts ∙ ap (λ t. line_asks t (unrolled ts)) is.is

depth_is : (ts : List Task) → All IsOnce ts → depth (unrolled ts) ≡ length ts
depth_is [] h = ap depth unrolled_nothing
depth_is (t ∷ ts) h = ap depth (unrolled_once t ts (All-head IsOnce t ts h)) ∙ ap suc (depth_is ts (All-tail IsOnce t ts h))

-- entries asked in turn are no more than the calls, and leave the rest
record Turns (ts : List Task) (es : List Entry) (left : Asks) : Type 0 where
  pub few : length es ≤ length ts
  pub left_is : depth left + length es ≡ length ts

none_next : (call : Call) → next_call no_more ≡ Some call → ⊥
none_next call h = cc

turns : (who : Caller) (ts : List Task) (es : List Entry) (left : Asks) → All IsOnce ts → AsksInTurn who (unrolled ts) es left → Turns ts es left
turns who ts [] left are h = record { few = omega arith; left_is = (let d = ap depth (sym h) ∙ depth_is ts are in omega (arith, d)) }
turns who [] (e ∷ es) left are h = absurd (none_next e.call (sym (ap next_call unrolled_nothing) ∙ h.1))
turns who (t ∷ ts) (e ∷ es) left are h =
    let rest = unrolled_once t ts (All-head IsOnce t ts are) in
    let more = turns who ts es left (All-tail IsOnce t ts are) (subst (λ asks. AsksInTurn who (answered asks e.reply) es left) rest h.2) in
    record { few = omega (arith, more.few); left_is = omega (arith, more.left_is) }

-- the tasks of a caller
tasks_few : (who : Caller) (lines : List ActorLine) → All AsksOnce lines → All IsOnce (tasks_of who lines) × (length (tasks_of who lines) ≤ length lines)
unfolding tasks_of
tasks_few who [] are = (All-nil IsOnce, omega arith)
tasks_few who (line ∷ lines) are =
    let more = tasks_few who lines (All-tail AsksOnce line lines are) in
    let rest = filter (λ line. same_caller line.caller who) lines in
    elim (same_caller line.caller who) as (λ t. All IsOnce (map (λ line. line.task) (cond t (line ∷ rest) rest)) × (length (map (λ line. line.task) (cond t (line ∷ rest) rest)) ≤ suc (length lines))) [
      | true ↦ (All-cons IsOnce line.task (map (λ line. line.task) rest) (All-head AsksOnce line lines are) more.0, omega (arith, more.1))
      | false ↦ (more.0, omega (arith, more.1))
    ]

-- ---- boards far from their limits

-- so many calls more are below both limits
pub record HasRoom (b : Board) (more : ℕ) : Type 0 where
  pub calls : b.length + more < b.shape.calls
  pub counted : b.publications ≤ b.length
  pub publications : b.length + more < b.shape.publications

room_after : (b c : Board) (es : List Entry) (more : ℕ) → HasRoom b (length es + more) → Leads b es c → HasRoom c more
room_after b c es more room leads =
    let counts = histories_keep_the_frame b es c leads in
    let few = count_by-le-length is_publication es in
    let calls = ap (λ s. s.calls) counts.shape in
    let publications = ap (λ s. s.publications) counts.shape in
    record {
      calls = omega (arith, room.calls, counts.length, calls);
      counted = omega (arith, room.counted, counts.length, counts.publications, few);
      publications = omega (arith, room.publications, counts.length, publications);
    }

room_less : (b : Board) (more less : ℕ) → less ≤ more → HasRoom b more → HasRoom b less
room_less b more less h room = record { calls = omega (arith, h, room.calls); counted = room.counted; publications = omega (arith, h, room.publications) }

-- no limit bars a call there
free : (b : Board) (call : Call) → HasRoom b 0 → spent_of b call ≡ None
free b call room = by (nat_eq b.length b.shape.calls) (nat_eq b.publications b.shape.publications) (would_publish b call) (apart b.length b.shape.calls (omega (arith, room.calls))) (apart b.publications b.shape.publications (omega (arith, room.counted, room.publications)))
  where
    apart : (m n : ℕ) → m < n → nat_eq m n ≡ false
    apart m n h = grind (arith, nat_tests, h)

    by : (s t u : Bool) → s ≡ false → t ≡ false → (if s then Some (Calls b.shape.calls) else (if u && t then Some (Publications b.shape.publications) else None)) ≡ None
    by true t u hs ht = absurd (cc)
    by false true u hs ht = absurd (cc)
    by false false true hs ht = refl
    by false false false hs ht = refl

-- ---- lines

-- a line makes one entry, of its caller and its call, and no limit bars it
pub record AsksIts (line : ActorLine) (b : Board) (mine : List Entry) (c : Board) : Type 0 where
  pub entry : Entry
  pub alone : mine ≡ entry ∷ []
  pub caller : entry.caller ≡ line.caller
  pub task : line.task ≡ Once entry.call
  pub step : Step b entry c

one_entry : (line : ActorLine) (behind : Asks) (b : Board) (mine : List Entry) (c : Board) → AsksOnce line → length mine ≡ 1
    → AsksInTurn line.caller (line_asks line.task behind) mine behind → Leads b mine c → AsksIts line b mine c
one_entry line behind b [] c is h asked leads = absurd (omega (arith, h))
one_entry line behind b (e ∷ f ∷ es) c is h asked leads = absurd (omega (arith, h))
one_entry line behind b (e ∷ []) c is h asked (next, step, same) = record {
  entry = e;
  alone = refl;
  caller = asked.0;
  task = is.is ∙ ap Once (some_same is.call e.call (ap (λ t. next_call (line_asks t behind)) (sym is.is) ∙ asked.1));
  step = subst (λ d. Step b e d) same step;
}
  where
    some_same : (x y : Call) → Some x ≡ Some y → x ≡ y
    some_same x y h = cc

line_free : (line : ActorLine) (later : List ActorLine) (b : Board) (mine : List Entry) (stop : Option Spent) (c : Board)
    → All AsksOnce (line ∷ later) → HasRoom b (suc (length later)) → LineAsked line b mine stop c → (stop ≡ None) × AsksIts line b mine c
line_free line later b mine (Some spent) c are room takes =
    let taken = takes (unrolled (tasks_of line.caller later)) in
    let tasks = tasks_few line.caller later (All-tail AsksOnce line later are) in
    let all = All-cons IsOnce line.task (tasks_of line.caller later) (All-head AsksOnce line later are) tasks.0 in
    let t = turns line.caller (line.task ∷ tasks_of line.caller later) mine taken.left all
    (subst (λ asks. AsksInTurn line.caller asks mine taken.left) (sym (unrolled_line line.task (tasks_of line.caller later))) taken.asked) in
    let after = room_after b c mine 0 (room_less b (suc (length later)) (length mine + 0) (omega (arith, t.few, tasks.1)) room) (leads_of b mine c taken.leads) in
    absurd (none_some spent (sym (free c taken.leaves.0 after) ∙ taken.leaves.2))
  where
    none_some : (spent : Spent) → None ≡ Some spent → ⊥
    none_some spent h = cc
line_free line later b mine None c are room takes =
    let taken = takes (unrolled (tasks_of line.caller later)) in
    let tasks = tasks_few line.caller later (All-tail AsksOnce line later are) in
    let all = All-cons IsOnce line.task (tasks_of line.caller later) (All-head AsksOnce line later are) tasks.0 in
    let t = turns line.caller (line.task ∷ tasks_of line.caller later) mine taken.left all
    (subst (λ asks. AsksInTurn line.caller asks mine taken.left) (sym (unrolled_line line.task (tasks_of line.caller later))) taken.asked) in
    let d : depth taken.left ≡ length (tasks_of line.caller later) = ap depth taken.leaves ∙ depth_is (tasks_of line.caller later) tasks.0 in (
      refl,
      one_entry line (unrolled (tasks_of line.caller later)) b mine c (All-head AsksOnce line later are) (omega (arith, t.left_is, d))
          (subst (λ left. AsksInTurn line.caller (line_asks line.task (unrolled (tasks_of line.caller later))) mine left) taken.leaves taken.asked) (leads_of b mine c taken.leads),
    )

-- lines one after another: each makes one entry, which stands behind those before
abbrev pub Walked : List ActorLine → Board → List Entry → Board → Type 0
Walked [] b es c = (es ≡ []) × (b ≡ c)
Walked (line ∷ lines) b es c =
    (mine : List Entry) × (later : List Entry) × (mid : Board) × (es ≡ mine ++ later) × AsksIts line b mine mid × Walked lines mid later c

pub lines_walk : (lines : List ActorLine) (b : Board) (es : List Entry) (c : Board) (has : List Stop)
    → All AsksOnce lines → HasRoom b (length lines) → LinesAsked lines b [] es c has → (has ≡ []) × Walked lines b es c
unfolding LinesAsked
lines_walk [] b es c has are room (nothing, same, kept) = (sym kept, (nothing, same))
lines_walk (line ∷ lines) b es c has are room (mine, later, stop, mid, is, taken, more) =
    let here = line_free line lines b mine stop mid are room taken in
    let one : length mine ≡ 1 = ap length here.1.alone in
    let after = room_after b mid mine (length lines) (room_less b (suc (length lines)) (length mine + length lines) (omega (arith, one)) room) (leads_of b mine mid (taken (unrolled (tasks_of line.caller lines))).leads) in
    let rest = lines_walk lines mid later c has (All-tail AsksOnce line lines are) after (subst (λ o. LinesAsked lines mid (with_stop line.caller o []) later c has) here.0 more) in
    (rest.0, (mine, later, mid, is, here.1, rest.1))

-- no actor is stopped
pub nobody_stops : (lines : List ActorLine) → first_stop lines [] ≡ None
nobody_stops [] = refl
nobody_stops (line ∷ lines) = nobody_stops lines
