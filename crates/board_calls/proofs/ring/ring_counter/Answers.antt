use Rattle.std.proofs.Common.{◌≡◌, Some, None, sym, subst, ap, ◌∙◌, is_some}
use Rattle.std.specs.declared.option.Option.{Option}
use Rattle.irq_base.specs.declared.shape.Part.TheVariants.{Counters}
use Rattle.irq_base.specs.Counts.{signalled}
use Rattle.board_model.specs.declared.trigger.TriggerWord.{TriggerWord}
use Rattle.board_model.specs.Hand.{part_in}
use Rattle.board_model.specs.Plan.{change}
use Rattle.board_model.specs.Published.{routing_of_words}
use Rattle.board_model.specs.Run.{run_on}
use Rattle.board_raise.specs.declared.parts.Parts as code
use Rattle.board_raise.specs.InHand.{parts_of}
use Rattle.board_raise.proofs.Composing.{does_on}
use Rattle.board_ack.specs.OnHand.{Adds}
use Rattle.board_calls.specs.Accesses.{ring_counter}
use Rattle.board_calls.proofs.Answering.{leaves_adds}
use Rattle.board_calls.proofs.ring.ring_counter.Goals as goal

pub returns-in-None-clause-does : goal.returns-in-None-clause-does
returns-in-None-clause-does g c = λ straight.
    let rig = c.args.rig.now in
    let shape = c.args.shape.now in
    let events = c.args.events.now.items in
    let asked = c.trigger.new.self in
    let left = c.signal.new.parts in
    let after = g.R.Rig.with_held asked left in
    let q = parts_of (g.R.Rig.held rig) in
    let ws = g.R.Rig.wishes rig in
    let r = parts_of (g.R.Rig.held after) in
    let vs = g.R.Rig.wishes after in
    let routing = routing_of_words (g.R.Rig.published rig) in
    let told = c.trigger.ensures.told (sym (g.met.R.Rig.astray_with asked left) ∙ straight) in
    let none : routing.trigger c.args.counter ≡ None = sym told ∙ c.in-None.is in
    let rung = change Counters (λ counts. signalled counts c.args.counter) in
    subst (λ (t : Option TriggerWord). Adds c.signal.result events events r vs (run_on (ring_counter routing shape c.args.counter t) q ws)) (sym none)
    (leaves_adds c.signal.result events r vs (run_on rung q ws)
    (does_on {S = Unit {0}} {A = Unit {0}} (λ _. tt) c.signal.result rung (g.R.Rig.held rig) c.parts.result.now left (g.R.Rig.held after) ws vs
    (c.parts.ensures.value ∙ c.trigger.ensures.kept) (g.met.R.Rig.held_with asked left) (g.met.R.Rig.wishes_with asked left ∙ c.trigger.ensures.wishes) (c.signal.ensures.does ws)))

pub returns-in-None-clause-held : goal.returns-in-None-clause-held
returns-in-None-clause-held g c = λ part.
    ap (λ (p : code.Parts). is_some (part_in (parts_of p) part)) (g.met.R.Rig.held_with c.trigger.new.self c.signal.new.parts)
    ∙ c.signal.ensures.held part
    ∙ ap (λ (p : code.Parts). is_some (part_in (parts_of p) part)) (c.parts.ensures.value ∙ c.trigger.ensures.kept)

pub returns-in-Some-clause-does : goal.returns-in-Some-clause-does
returns-in-Some-clause-does g c = λ straight.
    let rig = c.args.rig.now in
    let shape = c.args.shape.now in
    let after = c.inject_told.new.rig in
    let old = c.args.events.now.items in
    let new = c.inject_told.new.events.items in
    let q = parts_of (g.R.Rig.held rig) in
    let ws = g.R.Rig.wishes rig in
    let r = parts_of (g.R.Rig.held after) in
    let vs = g.R.Rig.wishes after in
    let routing = routing_of_words (g.R.Rig.published rig) in
    let asked = c.trigger.ensures in
    let told = asked.told (c.inject_told.ensures.strays straight) in
    let some : routing.trigger c.args.counter ≡ Some c.in-Some.trigger = sym told ∙ c.in-Some.is in
    subst (λ (t : Option TriggerWord). Adds c.inject_told.result old new r vs (run_on (ring_counter routing shape c.args.counter t) q ws)) (sym some)
    (subst (Adds c.inject_told.result old new r vs) (λ i. run_on (ring_counter (routing_of_words (asked.stands i)) shape c.args.counter (Some c.in-Some.trigger)) (parts_of (asked.kept i)) (asked.wishes i))
    (c.inject_told.ensures.does c.args.counter straight))
