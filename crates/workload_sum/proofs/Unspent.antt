-- A generated script meets no limit: each of its replays makes one entry a line.
use Rattle.std.proofs.Common.{◌≡◌, ℕ, ◌≤◌, List, ◌∷◌, ◌++◌, length, None, refl, sym, ap, ◌∙◌, subst, All, arith}
use Rattle.std.specs.declared.option.Option.{Option}
use Rattle.std.proofs.lemmas.List.{length-append}
use Rattle.std.proofs.lemmas.List.Elements.{All-cons}
use Rattle.irq_base.specs.declared.call.Caller.TheVariants.{Device}
use Rattle.irq_base.specs.declared.lists.Entry.{Entry}
use Rattle.irq_base.specs.declared.reply.Spent.{Spent}
use Rattle.script_text.specs.declared.task.ActorLine.{ActorLine}
use Rattle.board_model.specs.Board.{Board}
use Rattle.board_step.specs.History.{opening}
use Rattle.replaying.specs.FileOrder.{first_stop}
use Rattle.replaying.specs.Laws.{ReplaysAreOne}
use Rattle.replaying.specs.Replays.{Replays}
use Rattle.workload_gen.specs.Workload.{asks, each_below, enable, reroute, trigger, set_up, drawn_line, shape_of, workload}
use Rattle.workload_gen.specs.Laws.{IsInRange}
use Rattle.workload_gen.proofs.Below.{all-append, each-holds, length-each}
use Rattle.workload_sum.specs.Counts.{summary_text}
use Rattle.workload_sum.specs.Summary.{IsSummary, SummariesAreOne}
use Rattle.workload_sum.proofs.Once.{AsksOnce, HasRoom, Walked, lines_walk, nobody_stops}

abbrev workload_lines : ℕ → ℕ → ℕ → List ActorLine
workload_lines start n c = set_up c ++ each_below (drawn_line start c) n

workload_once : (start n c : ℕ) → All AsksOnce (workload_lines start n c)
workload_once start n c =
    all-append AsksOnce (set_up c) (each_below (drawn_line start c) n)
    (all-append AsksOnce (each_below enable c) (asks (Device 0) (reroute c 0) ∷ each_below trigger 8)
    (each-holds AsksOnce enable c (λ k below. record { call = _; is = refl }))
    (All-cons AsksOnce (asks (Device 0) (reroute c 0)) (each_below trigger 8) (record { call = _; is = refl }) (each-holds AsksOnce trigger 8 (λ k below. record { call = _; is = refl }))))
    (each-holds AsksOnce (drawn_line start c) n (λ k below. record { call = _; is = refl }))

workload_few : (start n c : ℕ) → IsInRange n c → length (workload_lines start n c) ≤ 400073
workload_few start n c is =
    omega (
      arith,
      is.lines,
      is.cpus.1,
      length-append (set_up c) (each_below (drawn_line start c) n),
      length-append (each_below enable c) (asks (Device 0) (reroute c 0) ∷ each_below trigger 8),
      length-each enable c,
      length-each trigger 8,
      length-each (drawn_line start c) n,
    )

-- what a replay of these lines does, with no limit near
pub walks : (start n c : ℕ) (history : List Entry) (spent : Option Spent) → IsInRange n c → Replays (workload start n c) history spent
    → (spent ≡ None) × ((last : Board) × Walked (workload_lines start n c) (opening (shape_of c)) history last)
unfolding workload
walks start n c history spent is replay =
    let few = workload_few start n c is in
    let room : HasRoom (opening (shape_of c)) (length (workload_lines start n c)) = record { calls = omega (arith, few); counted = omega arith; publications = omega (arith, few) } in
    let order = replay.order in
    let w = lines_walk (workload_lines start n c) (opening (shape_of c)) history order.last order.stops (workload_once start n c) room order.lines in
    (order.first ∙ ap (first_stop (workload_lines start n c)) w.0 ∙ nobody_stops (workload_lines start n c), (order.last, w.1))

pub summary : (start n c : ℕ) (history : List Entry) (spent : Option Spent) (text : List ℕ) → IsInRange n c → Replays (workload start n c) history spent
    → ReplaysAreOne → text ≡ summary_text history → IsSummary start n c text
summary start n c history spent text is replay one counts = record {
  history = history;
  replays = subst (λ s. Replays (workload start n c) history s) (walks start n c history spent is replay).0 replay;
  only = λ other limit replays. (one (workload start n c) other history limit spent replays replay).0;
  counts = counts;
}

pub summaries_are_one : SummariesAreOne
summaries_are_one start n c one other first second =
    first.counts ∙ ap summary_text (second.only first.history None first.replays) ∙ sym second.counts
