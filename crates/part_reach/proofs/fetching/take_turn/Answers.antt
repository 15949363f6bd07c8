use Rattle.std.proofs.Common.{refl, ◌+◌, ◌∷◌, ◌++◌, [], ◌||◌, nat_eq, is_some, sym, ap, ◌∙◌, subst, arith}
use Rattle.std.proofs.lemmas.List.{length-append}
use Rattle.turn_book.specs.Hands.{held_at}
use Rattle.turn_book.specs.Views.{view_of}
use Rattle.part_slots.specs.Slots.{place}
use Rattle.part_reach.specs.UnderWay.{HoldsPlaces}
use Rattle.part_reach.proofs.Places.{in_push, below_push, apart_push, so_few}
use Rattle.part_reach.proofs.fetching.take_turn.Goals as goal

pub take-requires-clause-part : goal.take-requires-clause-part
take-requires-clause-part c = (let low = c.requires.there in let turns = c.requires.turns in let is = c.place-turn.ensures in omega (arith, low, turns, is))

pub take-requires-clause-free : goal.take-requires-clause-free
take-requires-clause-free c = ap (λ t. is_some (held_at t (view_of c.args.pen.now.seat).held)) c.place-turn.ensures ∙ c.requires.holds.just (place c.args.part) ∙ c.requires.free

pub push-requires : goal.push-requires
push-requires c = (
    let ps = c.args.places.now.items in
    let n = 5 + c.args.shape.now.cpus in
    let few = c.requires.few in
    let most = so_few n (ps ++ place c.args.part ∷ []) (below_push n (place c.args.part) ps c.requires.there c.requires.holds.below) (apart_push (place c.args.part) ps c.requires.free c.requires.holds.apart) in
    let count = length-append ps (place c.args.part ∷ []) in
    omega (arith, few, most, count)
    )

pub returns-in-Got-clause-holds : goal.returns-in-Got-clause-holds
returns-in-Got-clause-holds c =
    let ps = c.args.places.now.items in
    let n = 5 + c.args.shape.now.cpus in
    let turn = place c.args.part in
    let items = c.push.ensures.items ∙ ap (λ t. ps ++ t ∷ []) c.place-turn.ensures in
    subst (λ l. HoldsPlaces c.args.shape.now (view_of c.take.new.pen.seat) l) (sym items) (record {
      below = below_push n turn ps c.requires.there c.requires.holds.below;
      apart = apart_push turn ps c.requires.free c.requires.holds.apart;
      just = λ q. c.in-Got.ensures.just refl q ∙ (λ i. nat_eq (c.place-turn.ensures i) q || c.requires.holds.just q i) ∙ sym (in_push q turn ps);
    })
