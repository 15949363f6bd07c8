use Rattle.std.proofs.Common.{ℕ, List, [], Ok, Err, refl, sym, subst}
use Rattle.std.specs.declared.option.Option.{Option}
use Rattle.irq_bits.specs.Members.{Numbers}
use Rattle.board_model.specs.Published.{routing_of_words}
use Rattle.board_model.specs.Run.{run_on}
use Rattle.board_raise.specs.InHand.{parts_of}
use Rattle.board_raise.specs.Shown.{StopsAt}
use Rattle.board_raise.proofs.Composing.{does_on, stops_first}
use Rattle.board_ack.specs.Acknowledge.{acknowledge_each}
use Rattle.board_ack.specs.OnHand.{Adds}
use Rattle.board_calls.specs.Processors.{end_vector}
use Rattle.board_calls.specs.Own.{pins_marked, pins_seen}
use Rattle.board_calls.specs.Told.{TellsOn}
use Rattle.board_calls.proofs.Telling.{nothing_tells, second_tells}
use Rattle.board_calls.proofs.Answering.{adds_tells}
use Rattle.board_calls.proofs.ends.end_vector.Goals as goal

pub returns-in_default-clause-does : goal.returns-in_default-clause-does
returns-in_default-clause-does g c = λ straight.
    let rig = c.args.rig.now in
    let q = parts_of (g.R.Rig.held rig) in
    let ws = g.R.Rig.wishes rig in
    subst (λ (v : Option ℕ). TellsOn (λ (_ : Unit {0}). []) (Ok tt) c.args.events.now.items c.args.events.now.items q ws (run_on (end_vector (routing_of_words (g.R.Rig.published rig)) c.args.shape.now v) q ws)) (sym c.in_default.is)
    (nothing_tells c.args.events.now.items q ws)

pub returns-in-Ok-clause-does : goal.returns-in-Ok-clause-does
returns-in-Ok-clause-does g c = λ straight.
    let rig = c.args.rig.now in
    let routing = routing_of_words (g.R.Rig.published rig) in
    let shape = c.args.shape.now in
    let q = parts_of (g.R.Rig.held rig) in
    let ws = g.R.Rig.wishes rig in
    let lent = c.parts.result.now in
    let mid = g.R.Rig.with_held rig lent in
    let r = parts_of (g.R.Rig.held mid) in
    let vs = g.R.Rig.wishes mid in
    let after = c.acknowledge_marked.new.rig in
    let s = parts_of (g.R.Rig.held after) in
    let later = g.R.Rig.wishes after in
    let seen = pins_seen c.in-Some.vector in
    subst (λ (v : Option ℕ). TellsOn (λ (_ : Unit {0}). []) c.acknowledge_marked.result c.args.events.now.items c.acknowledge_marked.new.events.items s later (run_on (end_vector routing shape v) q ws)) (sym c.in-Some.is)
    (second_tells seen (acknowledge_each routing shape) q ws (λ (_ : Unit {0}). []) (pins_marked c.in-Ok.marks) r vs
    (does_on (λ (marks : Numbers). pins_marked marks) (Ok c.in-Ok.marks) seen (g.R.Rig.held rig) lent lent (g.R.Rig.held mid) ws vs c.parts.ensures.value (g.met.R.Rig.held_with rig lent) (g.met.R.Rig.wishes_with rig lent) (c.in-Ok.ensures.does ws))
    c.acknowledge_marked.result c.args.events.now.items c.acknowledge_marked.new.events.items s later
    (adds_tells c.args.events.now.items c.acknowledge_marked.new.events.items s later c.acknowledge_marked.result (run_on (acknowledge_each routing shape (pins_marked c.in-Ok.marks)) r vs)
    (subst (λ (words : List ℕ). Adds c.acknowledge_marked.result c.args.events.now.items c.acknowledge_marked.new.events.items s later (run_on (acknowledge_each (routing_of_words words) shape (pins_marked c.in-Ok.marks)) r vs))
    (g.met.R.Rig.published_with rig lent) (c.acknowledge_marked.ensures.does straight))))

pub returns-in-Err-clause-does : goal.returns-in-Err-clause-does
returns-in-Err-clause-does g c = λ straight.
    let rig = c.args.rig.now in
    let routing = routing_of_words (g.R.Rig.published rig) in
    let shape = c.args.shape.now in
    let q = parts_of (g.R.Rig.held rig) in
    let ws = g.R.Rig.wishes rig in
    let lent = c.parts.result.now in
    let seen = pins_seen c.in-Some.vector in
    subst (λ (v : Option ℕ). StopsAt c.in-Err.lacks.part (run_on (end_vector routing shape v) q ws)) (sym c.in-Some.is)
    (stops_first (acknowledge_each routing shape) seen q ws c.in-Err.lacks.part
    (does_on (λ (marks : Numbers). pins_marked marks) (Err c.in-Err.lacks) seen (g.R.Rig.held rig) lent lent lent ws ws c.parts.ensures.value refl refl (c.in-Err.ensures.does ws)))
