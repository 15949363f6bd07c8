use Rattle.std.proofs.Common.{ℕ, List, [], ◌∷◌, Ok, Err, sym, subst}
use Rattle.std.specs.declared.option.Option.{Option}
use Rattle.irq_base.specs.declared.reply.Reply.{Reply}
use Rattle.irq_bits.specs.Members.{greatest_vector}
use Rattle.lapic.specs.Priority.{ended}
use Rattle.board_model.specs.Published.{routing_of_words}
use Rattle.board_model.specs.Run.{run_on}
use Rattle.board_raise.specs.InHand.{parts_of}
use Rattle.board_calls.specs.Processors.{end_vector, ended_reply, end_of_interrupt}
use Rattle.board_calls.specs.Own.{changing}
use Rattle.board_calls.specs.Told.{TellsOn}
use Rattle.board_calls.proofs.Composed.{does_from, first_lacks}
use Rattle.board_calls.proofs.Steps.{after_service, eoi_steps}
use Rattle.board_calls.proofs.Telling.{second_tells, tells_then_said, lacks_before_said}
use Rattle.board_calls.proofs.ends.end_of_interrupt.Goals as goal

pub returns-in-Err-clause-does : goal.returns-in-Err-clause-does
returns-in-Err-clause-does g c = λ straight.
    let rig = c.args.rig.now in
    let shape = c.args.shape.now in
    let routing = routing_of_words (g.R.Rig.published rig) in
    let n = c.args.n in
    let ws = g.R.Rig.wishes rig in
    let left = c.end_service.new.parts in
    let after = g.R.Rig.with_held rig left in
    let service = changing n ended (λ apic. greatest_vector apic.isr) in
    first_lacks service (after_service routing shape) (end_of_interrupt routing shape n) (eoi_steps routing shape n) (parts_of (g.R.Rig.held rig)) ws c.in-Err.lacks.part
    (does_from {S = Option ℕ} service c.end_service.result (Err c.in-Err.lacks) (g.R.Rig.held rig) c.parts.result.now left (g.R.Rig.held after) ws (g.R.Rig.wishes after)
    c.in-Err.is c.parts.ensures.value (g.met.R.Rig.held_with rig left) (g.met.R.Rig.wishes_with rig left) (c.end_service.ensures.does ws))

pub returns-in-Ok-end_vector-clause-does : goal.returns-in-Ok-end_vector-clause-does
returns-in-Ok-end_vector-clause-does g c = λ straight.
    let rig = c.args.rig.now in
    let shape = c.args.shape.now in
    let routing = routing_of_words (g.R.Rig.published rig) in
    let n = c.args.n in
    let q = parts_of (g.R.Rig.held rig) in
    let ws = g.R.Rig.wishes rig in
    let left = c.end_service.new.parts in
    let mid = g.R.Rig.with_held rig left in
    let r = parts_of (g.R.Rig.held mid) in
    let vs = g.R.Rig.wishes mid in
    let after = c.end_vector.new.rig in
    let s = parts_of (g.R.Rig.held after) in
    let later = g.R.Rig.wishes after in
    let old = c.args.events.now.items in
    let new = c.end_vector.new.events.items in
    let vector = c.in-Ok.vector in
    let service = changing n ended (λ apic. greatest_vector apic.isr) in
    subst (λ (answer : Reply). TellsOn (λ (reply : Reply). reply ∷ []) (Ok answer) old new s later (run_on (end_of_interrupt routing shape n) q ws)) (sym c.ended_reply.ensures)
    (second_tells service (after_service routing shape) q ws (λ (reply : Reply). reply ∷ []) vector r vs
    (does_from {S = Option ℕ} service c.end_service.result (Ok vector) (g.R.Rig.held rig) c.parts.result.now left (g.R.Rig.held mid) ws vs
    c.in-Ok.is c.parts.ensures.value (g.met.R.Rig.held_with rig left) (g.met.R.Rig.wishes_with rig left) (c.end_service.ensures.does ws))
    (Ok (ended_reply vector)) old new s later
    (tells_then_said (end_vector routing shape vector) (ended_reply vector) r vs old new s later
    (subst (λ (words : List ℕ). TellsOn (λ (_ : Unit {0}). []) (Ok tt) old new s later (run_on (end_vector (routing_of_words words) shape vector) r vs)) (g.met.R.Rig.published_with rig left) (c.in-Ok-end_vector.ensures.does straight))))

pub returns-in-Err-end_vector-clause-does : goal.returns-in-Err-end_vector-clause-does
returns-in-Err-end_vector-clause-does g c = λ straight.
    let rig = c.args.rig.now in
    let shape = c.args.shape.now in
    let routing = routing_of_words (g.R.Rig.published rig) in
    let n = c.args.n in
    let q = parts_of (g.R.Rig.held rig) in
    let ws = g.R.Rig.wishes rig in
    let left = c.end_service.new.parts in
    let mid = g.R.Rig.with_held rig left in
    let r = parts_of (g.R.Rig.held mid) in
    let vs = g.R.Rig.wishes mid in
    let after = c.end_vector.new.rig in
    let s = parts_of (g.R.Rig.held after) in
    let later = g.R.Rig.wishes after in
    let old = c.args.events.now.items in
    let new = c.end_vector.new.events.items in
    let vector = c.in-Ok.vector in
    let lacks = c.in-Err-end_vector.lacks in
    let service = changing n ended (λ apic. greatest_vector apic.isr) in
    second_tells service (after_service routing shape) q ws (λ (reply : Reply). reply ∷ []) vector r vs
    (does_from {S = Option ℕ} service c.end_service.result (Ok vector) (g.R.Rig.held rig) c.parts.result.now left (g.R.Rig.held mid) ws vs
    c.in-Ok.is c.parts.ensures.value (g.met.R.Rig.held_with rig left) (g.met.R.Rig.wishes_with rig left) (c.end_service.ensures.does ws))
    (Err lacks) old new s later
    (lacks_before_said (end_vector routing shape vector) (ended_reply vector) r vs old new s later lacks
    (subst (λ (words : List ℕ). TellsOn (λ (_ : Unit {0}). []) (Err lacks) old new s later (run_on (end_vector (routing_of_words words) shape vector) r vs)) (g.met.R.Rig.published_with rig left) (c.in-Err-end_vector.ensures.does straight)))
