use Rattle.std.proofs.Common.{ℕ, List, [], ◌∷◌, Ok, Err, subst}
use Rattle.irq_base.specs.declared.reply.Reply.{Reply}
use Rattle.irq_base.specs.declared.reply.Reply.TheVariants.{Done}
use Rattle.lapic.specs.declared.outcome.Effect.{Effect}
use Rattle.board_model.specs.Plan.{Plan}
use Rattle.board_model.specs.Published.{routing_of_words}
use Rattle.board_model.specs.Run.{run_on}
use Rattle.board_raise.specs.InHand.{parts_of}
use Rattle.board_calls.specs.Accesses.{store_effects, lapic_store}
use Rattle.board_calls.specs.Own.{storing}
use Rattle.board_calls.specs.Told.{TellsOn}
use Rattle.board_calls.proofs.Composed.{does_from, first_lacks}
use Rattle.board_calls.proofs.Steps.{after_store, store_steps}
use Rattle.board_calls.proofs.Telling.{second_tells, tells_then_said, lacks_before_said}
use Rattle.board_calls.proofs.page.lapic_store.Goals as goal

pub returns-in-Err-clause-does : goal.returns-in-Err-clause-does
returns-in-Err-clause-does g c = λ straight.
    let rig = c.args.rig.now in
    let shape = c.args.shape.now in
    let routing = routing_of_words (g.R.Rig.published rig) in
    let n = c.args.n in
    let ws = g.R.Rig.wishes rig in
    let left = c.store.new.parts in
    let after = g.R.Rig.with_held rig left in
    let first = storing n c.args.offset c.args.len c.args.value in
    first_lacks first (after_store routing shape n) (lapic_store routing shape n c.args.offset c.args.len c.args.value) (store_steps routing shape n c.args.offset c.args.len c.args.value) (parts_of (g.R.Rig.held rig)) ws c.in-Err.lacks.part
    (does_from {S = Effect} first c.store.result (Err c.in-Err.lacks) (g.R.Rig.held rig) c.parts.result.now left (g.R.Rig.held after) ws (g.R.Rig.wishes after)
    c.in-Err.is c.parts.ensures.value (g.met.R.Rig.held_with rig left) (g.met.R.Rig.wishes_with rig left) (c.store.ensures.does ws))

pub returns-in-Ok-bring_about-clause-does : goal.returns-in-Ok-bring_about-clause-does
returns-in-Ok-bring_about-clause-does g c = λ straight.
    let rig = c.args.rig.now in
    let shape = c.args.shape.now in
    let routing = routing_of_words (g.R.Rig.published rig) in
    let n = c.args.n in
    let q = parts_of (g.R.Rig.held rig) in
    let ws = g.R.Rig.wishes rig in
    let left = c.store.new.parts in
    let mid = g.R.Rig.with_held rig left in
    let r = parts_of (g.R.Rig.held mid) in
    let vs = g.R.Rig.wishes mid in
    let after = c.bring_about.new.rig in
    let s = parts_of (g.R.Rig.held after) in
    let later = g.R.Rig.wishes after in
    let old = c.args.events.now.items in
    let new = c.bring_about.new.events.items in
    let effect = c.in-Ok.effect in
    let first = storing n c.args.offset c.args.len c.args.value in
    subst (λ (plan : Plan (Unit {0})). TellsOn (λ (reply : Reply). reply ∷ []) (Ok Done) old new s later (run_on plan q ws)) (store_steps routing shape n c.args.offset c.args.len c.args.value)
    (second_tells first (after_store routing shape n) q ws (λ (reply : Reply). reply ∷ []) effect r vs
    (does_from {S = Effect} first c.store.result (Ok effect) (g.R.Rig.held rig) c.parts.result.now left (g.R.Rig.held mid) ws vs
    c.in-Ok.is c.parts.ensures.value (g.met.R.Rig.held_with rig left) (g.met.R.Rig.wishes_with rig left) (c.store.ensures.does ws))
    (Ok Done) old new s later
    (tells_then_said (store_effects routing shape n effect) Done r vs old new s later
    (subst (λ (words : List ℕ). TellsOn (λ (_ : Unit {0}). []) (Ok tt) old new s later (run_on (store_effects (routing_of_words words) shape n effect) r vs)) (g.met.R.Rig.published_with rig left) (c.in-Ok-bring_about.ensures.does straight))))

pub returns-in-Err-bring_about-clause-does : goal.returns-in-Err-bring_about-clause-does
returns-in-Err-bring_about-clause-does g c = λ straight.
    let rig = c.args.rig.now in
    let shape = c.args.shape.now in
    let routing = routing_of_words (g.R.Rig.published rig) in
    let n = c.args.n in
    let q = parts_of (g.R.Rig.held rig) in
    let ws = g.R.Rig.wishes rig in
    let left = c.store.new.parts in
    let mid = g.R.Rig.with_held rig left in
    let r = parts_of (g.R.Rig.held mid) in
    let vs = g.R.Rig.wishes mid in
    let after = c.bring_about.new.rig in
    let s = parts_of (g.R.Rig.held after) in
    let later = g.R.Rig.wishes after in
    let old = c.args.events.now.items in
    let new = c.bring_about.new.events.items in
    let effect = c.in-Ok.effect in
    let lacks = c.in-Err-bring_about.lacks in
    let first = storing n c.args.offset c.args.len c.args.value in
    subst (λ (plan : Plan (Unit {0})). TellsOn (λ (reply : Reply). reply ∷ []) (Err lacks) old new s later (run_on plan q ws)) (store_steps routing shape n c.args.offset c.args.len c.args.value)
    (second_tells first (after_store routing shape n) q ws (λ (reply : Reply). reply ∷ []) effect r vs
    (does_from {S = Effect} first c.store.result (Ok effect) (g.R.Rig.held rig) c.parts.result.now left (g.R.Rig.held mid) ws vs
    c.in-Ok.is c.parts.ensures.value (g.met.R.Rig.held_with rig left) (g.met.R.Rig.wishes_with rig left) (c.store.ensures.does ws))
    (Err lacks) old new s later
    (lacks_before_said (store_effects routing shape n effect) Done r vs old new s later lacks
    (subst (λ (words : List ℕ). TellsOn (λ (_ : Unit {0}). []) (Err lacks) old new s later (run_on (store_effects (routing_of_words words) shape n effect) r vs)) (g.met.R.Rig.published_with rig left) (c.in-Err-bring_about.ensures.does straight))))
