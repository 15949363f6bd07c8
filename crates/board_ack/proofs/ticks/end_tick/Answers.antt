use Rattle.std.proofs.Common.{◌≡◌, Bool, false, Ok, Err, refl, sym, ap, ◌∙◌, subst}
use Rattle.board_model.specs.Published.{routing_of_words}
use Rattle.board_model.specs.Run.{run_on}
use Rattle.board_raise.specs.InHand.{parts_of}
use Rattle.board_raise.specs.Shown.{in_event, about_at}
use Rattle.board_raise.proofs.Composing.{does_on}
use Rattle.board_ack.specs.OnHand.{ShowsTick}
use Rattle.board_ack.specs.Ticks.{free_tick, inject_tick}
use Rattle.board_ack.proofs.Stepping.{other_gsi, end_tick_lacks, no_next, next_injected, next_stops}
use Rattle.board_ack.proofs.ticks.end_tick.Goals as goal

pub returns-then-gsi-shape-clause-does : goal.returns-then-gsi-shape-clause-does
returns-then-gsi-shape-clause-does g c = λ straight.
    let rig = c.args.rig.now in
    other_gsi (routing_of_words (g.R.Rig.published rig)) c.args.shape.now c.args.gsi c.in-Some.gsi c.in-Some.is (parts_of (g.R.Rig.held rig)) (g.R.Rig.wishes rig) c.args.events.now.items c.if-gsi-shape.true

pub returns-in-Err-clause-does : goal.returns-in-Err-clause-does
returns-in-Err-clause-does g c = λ straight.
    let rig = c.args.rig.now in
    let ws = g.R.Rig.wishes rig in
    let left = c.free_tick.new.parts in
    end_tick_lacks (routing_of_words (g.R.Rig.published rig)) c.args.shape.now c.args.gsi c.in-Some.gsi c.in-Some.is (parts_of (g.R.Rig.held rig)) ws c.if-gsi-shape.false c.in-Err.lacks.part
    (does_on (λ (b : Bool). b) (Err c.in-Err.lacks) free_tick (g.R.Rig.held rig) c.parts-parts.result.now left left ws ws c.parts-parts.ensures.value refl refl (c.in-Err.ensures.does ws))

pub returns-then-not-injects-clause-does : goal.returns-then-not-injects-clause-does
returns-then-not-injects-clause-does g c = λ straight.
    let rig = c.args.rig.now in
    let ws = g.R.Rig.wishes rig in
    let left = c.free_tick.new.parts in
    let after = g.R.Rig.with_held rig left in
    no_next (routing_of_words (g.R.Rig.published rig)) c.args.shape.now c.args.gsi c.in-Some.gsi c.in-Some.is (parts_of (g.R.Rig.held rig)) ws c.if-gsi-shape.false c.in-Ok.injects (parts_of (g.R.Rig.held after)) (g.R.Rig.wishes after)
    (does_on (λ (b : Bool). b) (Ok c.in-Ok.injects) free_tick (g.R.Rig.held rig) c.parts-parts.result.now left (g.R.Rig.held after) ws (g.R.Rig.wishes after) c.parts-parts.ensures.value (g.met.R.Rig.held_with rig left) (g.met.R.Rig.wishes_with rig left) (c.in-Ok.ensures.does ws))
    c.args.events.now.items c.if-not-injects.true

pub returns-in-Ok-inject_tick-clause-does : goal.returns-in-Ok-inject_tick-clause-does
returns-in-Ok-inject_tick-clause-does g c = λ straight.
    let rig = c.args.rig.now in
    let ws = g.R.Rig.wishes rig in
    let left = c.free_tick.new.parts in
    let between = g.R.Rig.with_held rig left in
    let after = c.inject_tick.new.rig in
    let shape = c.args.shape.now in
    next_injected (routing_of_words (g.R.Rig.published rig)) shape c.args.gsi c.in-Some.gsi c.in-Some.is (parts_of (g.R.Rig.held rig)) ws c.if-gsi-shape.false c.in-Ok.injects (parts_of (g.R.Rig.held between)) (g.R.Rig.wishes between)
    (does_on (λ (b : Bool). b) (Ok c.in-Ok.injects) free_tick (g.R.Rig.held rig) c.parts-parts.result.now left (g.R.Rig.held between) ws (g.R.Rig.wishes between) c.parts-parts.ensures.value (g.met.R.Rig.held_with rig left) (g.met.R.Rig.wishes_with rig left) (c.in-Ok.ensures.does ws))
    c.if-not-injects.false c.in-Ok-inject_tick.status c.args.events.now.items c.tell.new.events.items (parts_of (g.R.Rig.held after)) (g.R.Rig.wishes after) c.tell.ensures
    (subst (λ words. ShowsTick (in_event shape.tick) (Ok c.in-Ok-inject_tick.status) (parts_of (g.R.Rig.held after)) (g.R.Rig.wishes after) (run_on (inject_tick (routing_of_words words) shape (about_at (in_event shape.tick))) (parts_of (g.R.Rig.held between)) (g.R.Rig.wishes between))) (g.met.R.Rig.published_with rig left)
    (c.in-Ok-inject_tick.ensures.does straight (in_event shape.tick)))

pub returns-in-Err-inject_tick-clause-does : goal.returns-in-Err-inject_tick-clause-does
returns-in-Err-inject_tick-clause-does g c = λ straight.
    let rig = c.args.rig.now in
    let ws = g.R.Rig.wishes rig in
    let left = c.free_tick.new.parts in
    let between = g.R.Rig.with_held rig left in
    let after = c.inject_tick.new.rig in
    let shape = c.args.shape.now in
    next_stops (routing_of_words (g.R.Rig.published rig)) shape c.args.gsi c.in-Some.gsi c.in-Some.is (parts_of (g.R.Rig.held rig)) ws c.if-gsi-shape.false c.in-Ok.injects (parts_of (g.R.Rig.held between)) (g.R.Rig.wishes between)
    (does_on (λ (b : Bool). b) (Ok c.in-Ok.injects) free_tick (g.R.Rig.held rig) c.parts-parts.result.now left (g.R.Rig.held between) ws (g.R.Rig.wishes between) c.parts-parts.ensures.value (g.met.R.Rig.held_with rig left) (g.met.R.Rig.wishes_with rig left) (c.in-Ok.ensures.does ws))
    c.if-not-injects.false c.in-Err-inject_tick.lacks.part
    (subst (λ words. ShowsTick (in_event shape.tick) (Err c.in-Err-inject_tick.lacks) (parts_of (g.R.Rig.held after)) (g.R.Rig.wishes after) (run_on (inject_tick (routing_of_words words) shape (about_at (in_event shape.tick))) (parts_of (g.R.Rig.held between)) (g.R.Rig.wishes between))) (g.met.R.Rig.published_with rig left)
    (c.in-Err-inject_tick.ensures.does straight (in_event shape.tick)))
