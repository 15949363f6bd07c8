-- A script has one replay.
use Rattle.std.proofs.Common.{◌≡◌, List, [], ◌∷◌, ◌++◌, Some, None, refl, sym, ap, ◌∙◌, subst}
use Rattle.std.specs.declared.option.Option.{Option}
use Rattle.irq_base.specs.declared.call.Call.{Call}
use Rattle.irq_base.specs.declared.call.Caller.{Caller}
use Rattle.irq_base.specs.declared.event.Event.{Event}
use Rattle.irq_base.specs.declared.lists.Entry.{Entry}
use Rattle.irq_base.specs.declared.reply.Reply.{Reply}
use Rattle.irq_base.specs.declared.reply.Spent.{Spent}
use Rattle.script_text.specs.declared.task.ActorLine.{ActorLine}
use Rattle.script_text.specs.Asks.{Asks, no_more, next_call, answered, line_asks}
use Rattle.script_text.specs.Scripts.{Script}
use Rattle.board_model.specs.Board.{Board}
use Rattle.board_model.specs.Run.{Outcome, run}
use Rattle.board_step.specs.Applied.{UnwishedStep}
use Rattle.board_step.specs.History.{opening}
use Rattle.board_step.specs.Step.{spent_of, plan_on, outcome_of, counted}
use Rattle.replaying.specs.declared.stops.Stop.{Stop}
use Rattle.replaying.specs.FileOrder.{stop_of, with_stop, AsksInTurn, Leaves, LeadsUnwished, Asked, LineAsked, PassedOver, LinesAsked, first_stop}
use Rattle.replaying.specs.Laws.{ReplaysAreOne}
use Rattle.replaying.specs.Replays.{Replays}

same_head : {A : Type 0} (x y : A) → x ∷ [] ≡ y ∷ [] → x ≡ y
same_head x y e = cc

same_some : {A : Type 0} (x y : A) → Some x ≡ Some y → x ≡ y
same_some x y e = cc

none_some : {A : Type 0} (x : A) → None ≡ Some x → ⊥
none_some x e = cc

none_next : (call : Call) → next_call no_more ≡ Some call → ⊥
none_next call e = cc

-- ---- one call of which nothing is wished has one entry, and leads to one board

module _ (b d : Board) (e f : Entry) (c g : Board) (boards : b ≡ d) (callers : e.caller ≡ f.caller) (calls : e.call ≡ f.call)
    (one : UnwishedStep b e c) (other : UnwishedStep d f g) where
  outcomes : outcome_of b e one.0.wishes ≡ outcome_of d f other.0.wishes
  outcomes = λ i. run (plan_on (boards i) (callers i) (calls i)) (boards i) ((one.1 ∙ sym other.1) i)

  replies : e.reply ≡ f.reply
  replies = same_head e.reply f.reply (sym one.0.replied ∙ ap (λ (o : Outcome (Unit {0})). o.log.answers) outcomes ∙ other.0.replied)

  events : e.events ≡ f.events
  events = sym one.0.told ∙ ap (λ (o : Outcome (Unit {0})). o.log.events) outcomes ∙ other.0.told

  one_entry : e ≡ f
  one_entry = λ i. record { caller = callers i; call = calls i; reply = replies i; events = events i }

  one_next : c ≡ g
  one_next = sym one.0.leads ∙ (λ i. counted (boards i) (calls i) (outcomes i).board) ∙ other.0.leads

-- ---- what a caller asks in turn, up to its end or to its first call that a limit bars

-- who has asked all, or is barred, asks nothing that is answered
goes_on : (b d : Board) (left : Asks) (o : Option Spent) (call : Call) → Leaves b left no_more o → b ≡ d → next_call left ≡ Some call → spent_of d call ≡ None → ⊥
goes_on b d left None call over same next free = none_next call (sym (ap next_call over) ∙ next)
goes_on b d left (Some spent) call (own, asks, barred) same next free =
    none_some spent (sym free ∙ (λ i. spent_of (sym same i) (same_some call own (sym next ∙ asks) i)) ∙ barred)

-- two ends are one
one_end : (b d : Board) (left other : Asks) (o p : Option Spent) → b ≡ d → left ≡ other → Leaves b left no_more o → Leaves d other no_more p → o ≡ p
one_end b d left other None None same is over ends = refl
one_end b d left other None (Some spent) same is over (call, next, barred) = absurd (none_next call (sym (ap next_call (sym is ∙ over)) ∙ next))
one_end b d left other (Some spent) None same is (call, next, barred) over = absurd (none_next call (sym (ap next_call (is ∙ over)) ∙ next))
one_end b d left other (Some spent) (Some limit) same is (call, next, barred) (own, asks, bars) =
    sym barred ∙ (λ i. spent_of (same i) (same_some call own (sym next ∙ ap next_call is ∙ asks) i)) ∙ bars

-- entries, their end and the board that they lead to
record One (es fs : List Entry) (o p : Option Spent) (c g : Board) : Type 0 where
  pub entries : es ≡ fs
  pub stop : o ≡ p
  pub board : c ≡ g

module _ (who : Caller) where
  one_turn : (asks more : Asks) (b d : Board) (es fs : List Entry) (left other : Asks) (o p : Option Spent) (c g : Board) → asks ≡ more → b ≡ d
      → AsksInTurn who asks es left → LeadsUnwished b es c → Leaves c left no_more o
      → AsksInTurn who more fs other → LeadsUnwished d fs g → Leaves g other no_more p → One es fs o p c g
  one_turn asks more b d [] [] left other o p c g is same asked leads ends asks_too leads_too ends_too =
      let boards : c ≡ g = sym leads ∙ same ∙ leads_too in
      record { entries = refl; stop = one_end c g left other o p boards (sym asked ∙ is ∙ asks_too) ends ends_too; board = boards }
  one_turn asks more b d [] (f ∷ fs) left other o p c g is same asked leads ends (mine, next, rest) (then, step, leads_too) ends_too =
      absurd (goes_on c d left o f.call ends (sym leads ∙ same) (ap next_call (sym asked ∙ is) ∙ next) step.0.in_limits)
  one_turn asks more b d (e ∷ es) [] left other o p c g is same (mine, next, rest) (then, step, leads) ends asked leads_too ends_too =
      absurd (goes_on g b other p e.call ends_too (sym leads_too ∙ sym same) (ap next_call (sym asked ∙ sym is) ∙ next) step.0.in_limits)
  one_turn asks more b d (e ∷ es) (f ∷ fs) left other o p c g is same (mine, next, rest) (then, step, leads) ends (mine_too, next_too, rest_too) (then_too, step_too, leads_too) ends_too =
      let callers : e.caller ≡ f.caller = mine ∙ sym mine_too in
      let calls : e.call ≡ f.call = same_some e.call f.call (sym next ∙ ap next_call is ∙ next_too) in
      let entry : e ≡ f = one_entry b d e f then then_too same callers calls step step_too in
      let later = one_turn (answered asks e.reply) (answered more f.reply) then then_too es fs left other o p c g
      (λ i. answered (is i) (entry i).reply) (one_next b d e f then then_too same callers calls step step_too)
      rest leads ends rest_too leads_too ends_too
      in
      record { entries = (λ i. entry i ∷ later.entries i); stop = later.stop; board = later.board }

  one_asked : (asks : Asks) (b d : Board) (es fs : List Entry) (o p : Option Spent) (c g : Board) → b ≡ d
      → Asked who asks no_more b es o c → Asked who asks no_more d fs p g → One es fs o p c g
  one_asked asks b d es fs o p c g same one other =
      one_turn asks asks b d es fs one.left other.left o p c g refl same one.asked one.leads one.leaves other.asked other.leads other.leaves

-- ---- lines in file order

-- what lines come to: their entries, and the actors that were stopped
record OneOrder (es fs : List Entry) (has now : List Stop) : Type 0 where
  pub entries : es ≡ fs
  pub stops : has ≡ now

abbrev Taken : ActorLine → List ActorLine → Board → List Stop → List Entry → Board → List Stop → Type 0
Taken line lines b had entries c has =
    (mine : List Entry) × (later : List Entry) × (stop : Option Spent) × (mid : Board) × (entries ≡ mine ++ later)
    × LineAsked line b mine stop mid × LinesAsked lines mid (with_stop line.caller stop had) later c has

one_order : (lines : List ActorLine) (b d : Board) (had : List Stop) (es fs : List Entry) (c g : Board) (has now : List Stop) → b ≡ d
    → LinesAsked lines b had es c has → LinesAsked lines d had fs g now → OneOrder es fs has now
unfolding LinesAsked
one_order [] b d had es fs c g has now same (nothing, stays, kept) (nothing_too, stays_too, kept_too) = record {
  entries = nothing ∙ sym nothing_too;
  stops = sym kept ∙ kept_too;
}
one_order (line ∷ lines) b d had es fs c g has now same asked asked_too =
    by (λ b d had es fs. one_order lines b d had es fs c g has now) (stop_of line.caller had) asked asked_too
  where
    by : ((b d : Board) (had : List Stop) (es fs : List Entry) → b ≡ d → LinesAsked lines b had es c has → LinesAsked lines d had fs g now → OneOrder es fs has now)
        → (o : Option Spent) → PassedOver o (LinesAsked lines b had es c has) (Taken line lines b had es c has)
        → PassedOver o (LinesAsked lines d had fs g now) (Taken line lines d had fs g now) → OneOrder es fs has now
    by rec (Some spent) more more_too = rec b d had es fs same more more_too
    by rec None (mine, later, stop, mid, both, taken, more) (mine_too, later_too, stop_too, mid_too, both_too, taken_too, more_too) =
        let one = one_asked line.caller (line_asks line.task no_more) b d mine mine_too stop stop_too mid mid_too same (taken no_more) (taken_too no_more) in
        let rest = rec mid mid_too (with_stop line.caller stop had) later later_too one.board more
        (subst (λ o. LinesAsked lines mid_too (with_stop line.caller o had) later_too g now) (sym one.stop) more_too)
        in
        record { entries = both ∙ (λ i. one.entries i ++ rest.entries i) ∙ sym both_too; stops = rest.stops }

pub replays_are_one : ReplaysAreOne
replays_are_one s one other first second replay replay_too =
    let order = one_order s.lines (opening s.shape) (opening s.shape) [] one other replay.order.last replay_too.order.last
    replay.order.stops replay_too.order.stops refl replay.order.lines replay_too.order.lines
    in
    (order.entries, replay.order.first ∙ ap (first_stop s.lines) order.stops ∙ sym replay_too.order.first)
