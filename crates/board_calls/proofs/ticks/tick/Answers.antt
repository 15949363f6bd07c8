use Rattle.std.proofs.Common.{ℕ, List, Ok, Err, Some, None, ap, subst, ◌∙◌}
use Rattle.std.specs.declared.option.Option.{Option}
use Rattle.irq_base.specs.declared.reply.Reply.TheVariants.{Held}
use Rattle.board_model.specs.Plan.{the_reply}
use Rattle.board_model.specs.Published.{routing_of_words}
use Rattle.board_raise.specs.InHand.{parts_of}
use Rattle.board_ack.specs.Ticks.{inject_tick}
use Rattle.board_calls.specs.Ticks.{tick}
use Rattle.board_calls.specs.Done.{Replies}
use Rattle.board_calls.specs.Pieces.{falling}
use Rattle.board_calls.proofs.Composed.{said, does_from, second_replies, second_does, first_lacks}
use Rattle.board_calls.proofs.Steps.{after_fall, tick_steps}
use Rattle.board_calls.proofs.ticks.tick.Goals as goal

pub returns-in-Err-clause-does : goal.returns-in-Err-clause-does
returns-in-Err-clause-does g c = λ straight.
    let rig = c.args.rig.now in
    let shape = c.args.shape.now in
    let routing = routing_of_words (g.R.Rig.published rig) in
    let left = c.fall.new.parts in
    let after = g.R.Rig.with_held rig left in
    first_lacks falling (after_fall routing shape) (tick routing shape) (tick_steps routing shape) (parts_of (g.R.Rig.held rig)) (g.R.Rig.wishes rig) c.in-Err.lacks.part
    (does_from {S = Option ℕ} falling c.fall.result (Err c.in-Err.lacks) (g.R.Rig.held rig) c.parts.result.now left (g.R.Rig.held after) (g.R.Rig.wishes rig) (g.R.Rig.wishes after)
    c.in-Err.is c.parts.ensures.value (g.met.R.Rig.held_with rig left) (g.met.R.Rig.wishes_with rig left) (c.fall.ensures.does (g.R.Rig.wishes rig)))

pub returns-in-Ok-Some-clause-does : goal.returns-in-Ok-Some-clause-does
returns-in-Ok-Some-clause-does g c = λ straight.
    let rig = c.args.rig.now in
    let shape = c.args.shape.now in
    let routing = routing_of_words (g.R.Rig.published rig) in
    let left = c.fall.new.parts in
    let after = g.R.Rig.with_held rig left in
    let r = parts_of (g.R.Rig.held after) in
    let vs = g.R.Rig.wishes after in
    second_replies falling (after_fall routing shape) (tick routing shape) (tick_steps routing shape) (parts_of (g.R.Rig.held rig)) (g.R.Rig.wishes rig) (Some c.in-Ok-Some.pending) r vs
    (does_from {S = Option ℕ} falling c.fall.result (Ok (Some c.in-Ok-Some.pending)) (g.R.Rig.held rig) c.parts.result.now left (g.R.Rig.held after) (g.R.Rig.wishes rig) vs
    (c.in-Ok-Some.is ∙ ap Ok c.in-Ok-Some.field-0-is) c.parts.ensures.value (g.met.R.Rig.held_with rig left) (g.met.R.Rig.wishes_with rig left) (c.fall.ensures.does (g.R.Rig.wishes rig)))
    (Held c.in-Ok-Some.pending) r vs (said (Held c.in-Ok-Some.pending) r vs)

pub returns-in-Ok-None-clause-does : goal.returns-in-Ok-None-clause-does
returns-in-Ok-None-clause-does g c = λ straight.
    let rig = c.args.rig.now in
    let shape = c.args.shape.now in
    let routing = routing_of_words (g.R.Rig.published rig) in
    let left = c.fall.new.parts in
    let after = g.R.Rig.with_held rig left in
    let r = parts_of (g.R.Rig.held after) in
    let vs = g.R.Rig.wishes after in
    second_does falling (after_fall routing shape) (tick routing shape) (tick_steps routing shape) (parts_of (g.R.Rig.held rig)) (g.R.Rig.wishes rig) None r vs
    (does_from {S = Option ℕ} falling c.fall.result (Ok None) (g.R.Rig.held rig) c.parts.result.now left (g.R.Rig.held after) (g.R.Rig.wishes rig) vs
    (c.in-Ok-None.is ∙ ap Ok c.in-Ok-None.field-0-is) c.parts.ensures.value (g.met.R.Rig.held_with rig left) (g.met.R.Rig.wishes_with rig left) (c.fall.ensures.does (g.R.Rig.wishes rig)))
    c.inject_tick.result (parts_of (g.R.Rig.held c.inject_tick.new.rig)) (g.R.Rig.wishes c.inject_tick.new.rig)
    (subst (λ (words : List ℕ). Replies (inject_tick (routing_of_words words) shape (λ pic. the_reply pic)) (g.R.Rig.held after) vs c.inject_tick.result (g.R.Rig.held c.inject_tick.new.rig) (g.R.Rig.wishes c.inject_tick.new.rig))
    (g.met.R.Rig.published_with rig left) (c.inject_tick.ensures.does straight))
