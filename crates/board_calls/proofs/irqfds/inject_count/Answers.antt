use Rattle.std.proofs.Common.{Bool, Some, [], subst}
use Rattle.board_model.specs.Published.{routing_of_words}
use Rattle.board_model.specs.Run.{run_on}
use Rattle.board_raise.specs.InHand.{parts_of}
use Rattle.board_calls.specs.Accesses.{ring_counter}
use Rattle.board_calls.specs.Told.{TellsOn}
use Rattle.board_calls.proofs.Answering.{adds_tells}
use Rattle.board_calls.proofs.irqfds.inject_count.Goals as goal

pub returns-clause-does : goal.returns-clause-does
returns-clause-does g c = λ straight.
    let start = c.args.rig.now in
    let after = parts_of (g.R.Rig.held c.inject_told.new.rig) in
    let later = g.R.Rig.wishes c.inject_told.new.rig in
    let routing = routing_of_words (g.R.Rig.published start) in
    let q = parts_of (g.R.Rig.held start) in
    let ws = g.R.Rig.wishes start in
    let old = c.args.events.now.items in
    let new = c.inject_told.new.events.items in
    let rang = λ (t : Bool). run_on (ring_counter routing c.args.shape.now 0 (Some (record { gsi = c.args.gsi; resample = t }))) q ws in
    subst (λ (t : Bool). TellsOn {S = Unit {0}} (λ _. []) c.inject_told.result old new after later (rang t)) c.is_some.ensures
    (adds_tells old new after later c.inject_told.result (rang c.is_some.result) (c.inject_told.ensures.does 0 straight))
