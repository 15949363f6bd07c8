use Rattle.std.proofs.Common.{sym, ap, ◌∙◌, subst}
use Rattle.turn_book.specs.Views.{view_of}
use Rattle.turn_copies.proofs.Given.{given_place, given_list, given_turns}
use Rattle.part_slots.specs.Commits.{Seen}
use Rattle.part_rig.specs.declared.known.Known.{Known}
use Rattle.part_rig.specs.Readings.{AreNoted}
use Rattle.part_reach.proofs.Ways.{came_home, given_notes}
use Rattle.part_reach.proofs.attempting.attempt.Goals as goal

pub returns-clause-came : goal.returns-clause-came
returns-clause-came c =
    let u : Seen = view_of c.args.pen.now.seat in
    let y : Seen = view_of c.until_answered-answer.new.pen.seat in
    let w : Seen = view_of c.give_all.new.pen.seat in
    let gave = c.give_all.ensures.view in
    let ps = c.as_slice.result.now in
    let list = given_list ps y in
    let place = given_place ps y in
    let turns = given_turns ps y in
    came_home c.args.shape.now c.args.caller c.args.call.now u y w c.until_answered-answer.new.events.items (
      ap (λ (v : Seen). v.seen) gave ∙ list.0,
      ap (λ (v : Seen). v.now) gave ∙ list.1,
      ap (λ (v : Seen). v.before) gave ∙ list.2,
      ap (λ (v : Seen). v.heard) gave ∙ list.3,
      ap (λ (v : Seen). v.looks) gave ∙ list.4,
      ap (λ (v : Seen). v.misses) gave ∙ list.5,
    ) (
      ap (λ (v : Seen). v.begin) gave ∙ place.0,
      ap (λ (v : Seen). v.spent) gave ∙ place.1,
      ap (λ (v : Seen). v.caller) gave ∙ place.2,
      ap (λ (v : Seen). v.is_desk) gave ∙ place.3,
      ap (λ (v : Seen). v.made) gave ∙ place.4,
      ap (λ (v : Seen). v.ended) gave ∙ place.5,
    )
    (ap (λ (v : Seen). v.took) gave ∙ turns.0, ap (λ (v : Seen). v.found) gave ∙ turns.1)
    c.until_answered-answer.result c.until_answered-answer.ensures.came

pub returns-clause-noted : goal.returns-clause-noted
returns-clause-noted c =
    let y : Seen = view_of c.until_answered-answer.new.pen.seat in
    let same = ap (λ (v : Seen). v.notes) c.give_all.ensures.view ∙ given_notes c.as_slice.result.now y in
    subst (λ ns. AreNoted ns c.begin.new.self.rig.known.places.items) (sym same)
    (subst (λ (k : Known). AreNoted y.notes k.places.items) (sym c.begin.ensures.known) c.until_answered-answer.ensures.noted)
