use Rattle.std.proofs.Common.{ℕ, List, ◌∷◌, [], Ok, Err, Some, None, refl, ap, subst, ◌∙◌}
use Rattle.std.specs.declared.option.Option.{Option}
use Rattle.irq_base.specs.declared.reply.Reply.{Reply}
use Rattle.irq_base.specs.declared.reply.Reply.TheVariants.{Exit}
use Rattle.board_model.specs.Plan.{reply}
use Rattle.board_model.specs.Published.{routing_of_words}
use Rattle.board_model.specs.Run.{run_on}
use Rattle.board_raise.specs.InHand.{parts_of}
use Rattle.board_calls.specs.Accesses.{ring, rung}
use Rattle.board_calls.specs.Accessed.{ringing}
use Rattle.board_calls.specs.Told.{TellsOn}
use Rattle.board_calls.proofs.Composed.{said, does_from, first_lacks}
use Rattle.board_calls.proofs.Room.{quiet_tells}
use Rattle.board_calls.proofs.Answering.{then_tells}
use Rattle.board_calls.proofs.ring.ring.Goals as goal

pub returns-in-Err-clause-does : goal.returns-in-Err-clause-does
returns-in-Err-clause-does g c = λ straight.
    let rig = c.args.rig.now in
    let shape = c.args.shape.now in
    let routing = routing_of_words (g.R.Rig.published rig) in
    let first = ringing c.args.space c.args.address c.args.len c.args.value in
    let ws = g.R.Rig.wishes rig in
    let left = c.parts.result.now in
    let after = g.R.Rig.with_held rig left in
    first_lacks first (rung routing shape) (ring routing shape c.args.space c.args.address c.args.len c.args.value) refl (parts_of (g.R.Rig.held rig)) ws c.in-Err.lacks.part
    (does_from {S = Option ℕ} first c.rung_by.result (Err c.in-Err.lacks) (g.R.Rig.held rig) left left (g.R.Rig.held after) ws (g.R.Rig.wishes after)
    c.in-Err.is c.parts.ensures.value (g.met.R.Rig.held_with rig left) (g.met.R.Rig.wishes_with rig left) (c.rung_by.ensures.does ws))

pub returns-in-Ok-None-clause-does : goal.returns-in-Ok-None-clause-does
returns-in-Ok-None-clause-does g c = λ straight.
    let rig = c.args.rig.now in
    let shape = c.args.shape.now in
    let routing = routing_of_words (g.R.Rig.published rig) in
    let first = ringing c.args.space c.args.address c.args.len c.args.value in
    let events = c.args.events.now.items in
    let ws = g.R.Rig.wishes rig in
    let left = c.parts.result.now in
    let after = g.R.Rig.with_held rig left in
    let r = parts_of (g.R.Rig.held after) in
    let vs = g.R.Rig.wishes after in
    then_tells first (rung routing shape) (ring routing shape c.args.space c.args.address c.args.len c.args.value) refl (parts_of (g.R.Rig.held rig)) ws None r vs
    (does_from {S = Option ℕ} first c.rung_by.result (Ok None) (g.R.Rig.held rig) left left (g.R.Rig.held after) ws vs
    (c.in-Ok-None.is ∙ ap Ok c.in-Ok-None.field-0-is) c.parts.ensures.value (g.met.R.Rig.held_with rig left) (g.met.R.Rig.wishes_with rig left) (c.rung_by.ensures.does ws))
    {S = Reply} (λ answer. answer ∷ []) (Ok Exit) events events r vs (quiet_tells (Ok Exit) events r vs (run_on (reply Exit) r vs) (said Exit r vs))

pub returns-in-Ok-Some-clause-does : goal.returns-in-Ok-Some-clause-does
returns-in-Ok-Some-clause-does g c = λ straight.
    let rig = c.args.rig.now in
    let shape = c.args.shape.now in
    let routing = routing_of_words (g.R.Rig.published rig) in
    let first = ringing c.args.space c.args.address c.args.len c.args.value in
    let counter = c.in-Ok-Some.counter in
    let ws = g.R.Rig.wishes rig in
    let left = c.parts.result.now in
    let between = g.R.Rig.with_held rig left in
    let after = c.ring_ioevent.new.rig in
    let r = parts_of (g.R.Rig.held between) in
    let vs = g.R.Rig.wishes between in
    let s = parts_of (g.R.Rig.held after) in
    let later = g.R.Rig.wishes after in
    let old = c.args.events.now.items in
    let new = c.ring_ioevent.new.events.items in
    then_tells first (rung routing shape) (ring routing shape c.args.space c.args.address c.args.len c.args.value) refl (parts_of (g.R.Rig.held rig)) ws (Some counter) r vs
    (does_from {S = Option ℕ} first c.rung_by.result (Ok (Some counter)) (g.R.Rig.held rig) left left (g.R.Rig.held between) ws vs
    (c.in-Ok-Some.is ∙ ap Ok c.in-Ok-Some.field-0-is) c.parts.ensures.value (g.met.R.Rig.held_with rig left) (g.met.R.Rig.wishes_with rig left) (c.rung_by.ensures.does ws))
    {S = Reply} (λ answer. answer ∷ []) c.ring_ioevent.result old new s later
    (subst (λ (words : List ℕ). TellsOn {S = Reply} (λ answer. answer ∷ []) c.ring_ioevent.result old new s later (run_on (rung (routing_of_words words) shape (Some counter)) r vs)) (g.met.R.Rig.published_with rig left) (c.ring_ioevent.ensures.does straight))
