use Rattle.std.proofs.Common.{Ok, Err, List, ℕ, refl, sym, ap, subst, ◌∙◌}
use Rattle.irq_base.specs.declared.event.Pin.{Pin}
use Rattle.irq_base.specs.declared.event.Pin.TheVariants.{Ioapic}
use Rattle.board_model.specs.Published.{routing_of_words}
use Rattle.board_model.specs.Run.{run_on}
use Rattle.board_raise.specs.InHand.{parts_of}
use Rattle.board_ack.specs.Acknowledge.{acknowledge, acknowledge_each}
use Rattle.board_ack.specs.OnHand.{Adds}
use Rattle.board_ack.proofs.Adding.{nothing_adds}
use Rattle.board_calls.proofs.Marked.{none_marked, leads_first, leads_other, leads_marked, leads_stops, leads_last}
use Rattle.board_calls.proofs.ends.acknowledge_marked.Goals as goal
use Rattle.board_calls.proofs.ends.acknowledge_marked.Goals.{then-has_number+in-Ok, else-has_number}

pub loop-pin-init : goal.loop-pin-init
loop-pin-init g c = record {
  does = λ straight. leads_first (routing_of_words (g.R.Rig.published c.args.rig.now)) c.args.shape.now c.args.marks (parts_of (g.R.Rig.held c.args.rig.now)) (g.R.Rig.wishes c.args.rig.now) c.args.events.now.items;
  held = λ part. refl;
  fits = c.requires;
  published = refl;
  strays = λ straight. straight;
  noted = refl;
}

pub loop-pin-preserved : goal.loop-pin-preserved
loop-pin-preserved g c =
    let shape = c.args.shape.now in
    let marks = c.args.marks in
    let start = parts_of (g.R.Rig.held c.args.rig.now) in
    let first = g.R.Rig.wishes c.args.rig.now in
    let old = c.args.events.now.items in
    let words = g.R.Rig.published c.args.rig.now in
    let pin = c.loop-pin.pin in
    let rig = c.loop-pin.rig in
    let so_far = c.loop-pin.invariant in
    elim c.if-has_number.branch [
      | then-has_number+in-Ok w ↦
          let next = w.ack_pin.new.rig in
          let one = w.in-Ok.ensures in
          record {
            does = λ straight.
                let at_next = sym (ap g.R.Rig.astray w.rig-is) ∙ straight in
                rw (w.rig-is, w.events-is)
                (leads_marked (routing_of_words words) shape marks start first old pin (parts_of (g.R.Rig.held rig)) (g.R.Rig.wishes rig) c.loop-pin.events.items (so_far.does (one.strays at_next)) c.loop-pin-test.true (sym c.has_number.ensures ∙ w.if-has_number.true)
                w.ack_pin.new.events.items (parts_of (g.R.Rig.held next)) (g.R.Rig.wishes next)
                (subst (λ (ws : List ℕ). Adds (Ok tt) c.loop-pin.events.items w.ack_pin.new.events.items (parts_of (g.R.Rig.held next)) (g.R.Rig.wishes next) (run_on (acknowledge (routing_of_words ws) shape (Ioapic pin)) (parts_of (g.R.Rig.held rig)) (g.R.Rig.wishes rig))) so_far.published (one.does at_next)));
            held = λ part. rw w.rig-is (one.kept.held part ∙ so_far.held part);
            fits = rw w.rig-is one.fits;
            published = ap g.R.Rig.published w.rig-is ∙ one.published ∙ so_far.published;
            strays = λ straight. so_far.strays (one.strays (sym (ap g.R.Rig.astray w.rig-is) ∙ straight));
            noted = ap g.R.Rig.noted w.rig-is ∙ one.noted ∙ so_far.noted;
          }
      | else-has_number w ↦ record {
        does = λ straight.
            let at_rig = sym (ap g.R.Rig.astray w.rig-is) ∙ straight in
            rw (w.rig-is, w.events-is)
            (leads_other (routing_of_words words) shape marks start first old pin (parts_of (g.R.Rig.held rig)) (g.R.Rig.wishes rig) c.loop-pin.events.items (so_far.does at_rig) c.loop-pin-test.true (sym c.has_number.ensures ∙ w.if-has_number.false));
        held = λ part. rw w.rig-is (so_far.held part);
        fits = rw w.rig-is so_far.fits;
        published = ap g.R.Rig.published w.rig-is ∙ so_far.published;
        strays = λ straight. so_far.strays (sym (ap g.R.Rig.astray w.rig-is) ∙ straight);
        noted = ap g.R.Rig.noted w.rig-is ∙ so_far.noted;
      }
    ]

pub returns-then-is_empty-clause-does : goal.returns-then-is_empty-clause-does
returns-then-is_empty-clause-does g c = λ straight.
    let routing = routing_of_words (g.R.Rig.published c.args.rig.now) in
    let q = parts_of (g.R.Rig.held c.args.rig.now) in
    let ws = g.R.Rig.wishes c.args.rig.now in
    let old = c.args.events.now.items in
    subst (λ (ps : List Pin). Adds (Ok tt) old old q ws (run_on (acknowledge_each routing c.args.shape.now ps) q ws))
    (sym (none_marked c.args.marks (c.is_empty.ensures.0 c.if-is_empty.true)))
    (nothing_adds old q ws)

pub returns-in-Err-clause-does : goal.returns-in-Err-clause-does
returns-in-Err-clause-does g c = λ straight.
    let shape = c.args.shape.now in
    let marks = c.args.marks in
    let words = g.R.Rig.published c.args.rig.now in
    let rig = c.loop-pin.rig in
    let next = c.ack_pin.new.rig in
    let pin = c.loop-pin.pin in
    leads_stops (routing_of_words words) shape marks (parts_of (g.R.Rig.held c.args.rig.now)) (g.R.Rig.wishes c.args.rig.now) c.args.events.now.items pin (parts_of (g.R.Rig.held rig)) (g.R.Rig.wishes rig) c.loop-pin.events.items
    (c.loop-pin.invariant.does (c.in-Err.ensures.strays straight)) c.loop-pin-test.true (sym c.has_number.ensures ∙ c.if-has_number.true)
    c.in-Err.lacks c.ack_pin.new.events.items (parts_of (g.R.Rig.held next)) (g.R.Rig.wishes next)
    (subst (λ (ws : List ℕ). Adds (Err c.in-Err.lacks) c.loop-pin.events.items c.ack_pin.new.events.items (parts_of (g.R.Rig.held next)) (g.R.Rig.wishes next) (run_on (acknowledge (routing_of_words ws) shape (Ioapic pin)) (parts_of (g.R.Rig.held rig)) (g.R.Rig.wishes rig)))
    c.loop-pin.invariant.published (c.in-Err.ensures.does straight))

pub returns-clause-does : goal.returns-clause-does
returns-clause-does g c = λ straight.
    let rig = c.loop-pin.rig in
    leads_last (routing_of_words (g.R.Rig.published c.args.rig.now)) c.args.shape.now c.args.marks (parts_of (g.R.Rig.held c.args.rig.now)) (g.R.Rig.wishes c.args.rig.now) c.args.events.now.items
    c.loop-pin.pin (parts_of (g.R.Rig.held rig)) (g.R.Rig.wishes rig) c.loop-pin.events.items (c.loop-pin.invariant.does straight) c.loop-pin-test.false
