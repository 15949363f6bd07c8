use Rattle.std.proofs.Common.{is_some, refl, sym, ap, ◌∙◌, subst}
use Rattle.turn_book.specs.Hands.{held_at, slot_at}
use Rattle.turn_book.specs.Many.{HoldsJust}
use Rattle.turn_book.specs.Views.{view_of, slots_of, IsLegal}
use Rattle.part_slots.specs.Commits.{Seen}
use Rattle.part_slots.specs.Running.{Opens, IsStep}
use Rattle.part_attempt.specs.Entering.{entry_answered}
use Rattle.part_reach.proofs.Entered.{range_is, has_registry, leads_on, reach_held, has_drafted, all_fit, all_home}
use Rattle.part_reach.proofs.entering.enter.Goals as goal

pub draft-requires-clause-range : goal.draft-requires-clause-range
draft-requires-clause-range c =
    let e = entry_answered c.args.answered c.args.call.now c.args.events.now.items in
    range_is c.args.shape.now (view_of c.args.pen.now.seat) c.requires.begins c.requires.legal e c.args.places.now c.args.room.now.rig.parts c.requires.made

pub draft-requires-clause-knows : goal.draft-requires-clause-knows
draft-requires-clause-knows c = λ yes.
    let e = entry_answered c.args.answered c.args.call.now c.args.events.now.items in
    c.requires.knows (c.requires.just 0 ∙ has_registry c.args.shape.now (view_of c.args.pen.now.seat) c.requires.begins c.requires.legal e c.args.places.now c.args.room.now.rig.parts c.requires.made (sym c.did_publish-publish.ensures ∙ yes))

pub commit_answered-requires-clause-step : goal.commit_answered-requires-clause-step
commit_answered-requires-clause-step c =
    let e = entry_answered c.args.answered c.args.call.now c.args.events.now.items in
    leads_on c.args.shape.now (view_of c.args.pen.now.seat) c.requires.begins c.requires.legal e c.args.places.now c.args.room.now.rig.parts c.requires.made (view_of c.draft.new.pen.seat) (ap (λ (u : Seen). u.now) c.draft.ensures.rest) c.args.answered.had

pub commit_answered-requires-clause-reach : goal.commit_answered-requires-clause-reach
commit_answered-requires-clause-reach c =
    let e = entry_answered c.args.answered c.args.call.now c.args.events.now.items in
    reach_held c.args.shape.now (view_of c.args.pen.now.seat) c.requires.begins c.requires.legal e c.args.places.now c.args.room.now.rig.parts c.requires.made (view_of c.draft.new.pen.seat) (ap (λ (u : Seen). u.now) c.draft.ensures.rest) c.args.answered.had
    (λ p. ap (λ (u : Seen). is_some (held_at p u.held)) c.draft.ensures.rest ∙ c.requires.just p)

pub commit_answered-requires-clause-registry : goal.commit_answered-requires-clause-registry
commit_answered-requires-clause-registry c = λ yes.
    let e = entry_answered c.args.answered c.args.call.now c.args.events.now.items in
    ap (λ (u : Seen). is_some (held_at 0 u.held)) c.draft.ensures.rest ∙ c.requires.just 0
    ∙ has_registry c.args.shape.now (view_of c.args.pen.now.seat) c.requires.begins c.requires.legal e c.args.places.now c.args.room.now.rig.parts c.requires.made (sym c.did_publish-publish.ensures ∙ yes)

pub commit_answered-requires-clause-drafted : goal.commit_answered-requires-clause-drafted
commit_answered-requires-clause-drafted c = λ yes.
    let e = entry_answered c.args.answered c.args.call.now c.args.events.now.items in
    has_drafted c.args.shape.now (view_of c.args.pen.now.seat) c.requires.begins c.requires.legal e c.args.places.now c.args.room.now.rig.parts c.requires.made (view_of c.draft.new.pen.seat) (ap (λ (u : Seen). u.now) c.draft.ensures.rest) c.args.answered.had (sym c.did_publish-publish.ensures ∙ yes) (c.draft.ensures.drafted yes)

pub write_each-requires-clause-fits : goal.write_each-requires-clause-fits
write_each-requires-clause-fits c = λ k x within slot.
    let e = entry_answered c.args.answered c.args.call.now c.args.events.now.items in
    let v = view_of c.args.pen.now.seat in
    all_fit c.args.shape.now v c.requires.begins c.requires.legal e c.args.places.now c.args.room.now.rig.parts c.requires.made c.requires.holds k x
    (sym (c.requires.home k) ∙ ap (slot_at k) (sym (c.in-Ok.ensures.slots ∙ c.draft.ensures.slots)) ∙ slot)

pub returns-in-Ok-clause-home : goal.returns-in-Ok-clause-home
returns-in-Ok-clause-home c = λ k.
    let e = entry_answered c.args.answered c.args.call.now c.args.events.now.items in
    let v = view_of c.args.pen.now.seat in
    let w = view_of c.commit_answered.new.pen.seat in
    let just' : HoldsJust c.args.places.now w.held = (λ p. c.in-Ok.ensures.held p ∙ ap (λ (u : Seen). is_some (held_at p u.held)) c.draft.ensures.rest ∙ c.requires.just p) in
    let now = ap (λ (u : Seen). u.now) c.draft.ensures.rest in
    let cs = slots_of c.commit_answered.new.pen.seat in
    c.write_each.ensures.slots k
    ∙ all_home c.args.shape.now v c.requires.begins c.requires.legal e c.args.places.now c.args.room.now.rig.parts c.requires.made c.requires.holds w c.in-Ok.ensures.legal
    (c.in-Ok.ensures.place.0 ∙ ap (λ (u : Seen). u.begin) c.draft.ensures.rest ∙ c.requires.begins) c.in-Ok.ensures.holds c.requires.just just'
    (λ s t before after. c.in-Ok.ensures.follows s t (now ∙ before) after) c.args.room.now refl k (slot_at k cs) (ap (slot_at k) (c.in-Ok.ensures.slots ∙ c.draft.ensures.slots) ∙ c.requires.home k)
    ∙ ap (λ (u : Seen). held_at k u.held) (sym c.write_each.ensures.view)

pub returns-in-Ok-clause-legal : goal.returns-in-Ok-clause-legal
returns-in-Ok-clause-legal c = subst (λ (u : Seen). IsLegal Opens IsStep u) (sym c.write_each.ensures.view) c.in-Ok.ensures.legal
