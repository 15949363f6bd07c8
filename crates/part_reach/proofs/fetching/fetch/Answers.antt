use Rattle.std.proofs.Common.{◌+◌, [], sym, subst, arith}
use Rattle.std.proofs.lemmas.List.{append-nil}
use Rattle.std.proofs.lemmas.List.Elements.{All-nil}
use Rattle.turn_book.specs.Views.{view_of}
use Rattle.part_slots.specs.Slots.{place}
use Rattle.part_reach.specs.declared.want.Want.{Want}
use Rattle.part_reach.specs.Turns.{IsReachedBetween}
use Rattle.part_reach.specs.Wants.{IsWanted}
use Rattle.part_reach.proofs.Places.{so_few}
use Rattle.part_reach.proofs.Fetched.{reached_low, on_its_way, read_fewer, won_fewer, won_way, found_busy}
use Rattle.part_reach.proofs.fetching.fetch.Goals as goal

pub win_turn-requires-clause-there : goal.win_turn-requires-clause-there
win_turn-requires-clause-there c =
    let v = view_of c.args.pen.now.seat in
    let wants = subst (λ (w : Want). IsWanted c.args.room.now.rig.known c.args.shape.now c.args.caller c.args.call.now v c.args.places.now.items w) c.in-Turn.is c.requires.wants in
    reached_low c.args.shape.now c.args.caller c.args.call.now v.seen c.in-Turn.part c.requires.allowed wants.1

pub returns-in-Word-clause-way : goal.returns-in-Word-clause-way
returns-in-Word-clause-way c = λ u way.
    let v = view_of c.args.pen.now.seat in
    let w = view_of c.read_word.new.pen.seat in
    let ps = c.args.places.now.items in
    on_its_way c.args.shape.now c.args.caller v w c.args.had c.read_word.result [] c.read_word.ensures.again c.args.call.now u ps ps (sym (append-nil ps))
    (All-nil (IsReachedBetween c.args.shape.now c.args.caller c.args.call.now u.seen w.seen)) way

pub returns-in-Word-clause-fewer : goal.returns-in-Word-clause-fewer
returns-in-Word-clause-fewer c =
    let v = view_of c.args.pen.now.seat in
    let w = view_of c.read_word.new.pen.seat in
    let ps = c.args.places.now.items in
    let most = so_few (5 + c.args.shape.now.cpus) ps c.requires.holds.below c.requires.holds.apart in
    let few = c.requires.limits.cpus in
    read_fewer c.args.shape.now c.args.caller c.args.call.now v w c.args.had ps ps c.args.room.now.rig.known.places.items c.read_word.new.room.rig.known.places.items c.requires.looked
    c.read_word.result c.read_word.ensures.again (omega (arith, most, few)) c.read_word.ensures.few c.read_word.ensures.fewer

pub returns-in-Turn-clause-way : goal.returns-in-Turn-clause-way
returns-in-Turn-clause-way c =
    let v = view_of c.args.pen.now.seat in
    let w = view_of c.win_turn.new.pen.seat in
    let ps = c.args.places.now.items in
    let wants = subst (λ (w : Want). IsWanted c.args.room.now.rig.known c.args.shape.now c.args.caller c.args.call.now v ps w) c.in-Turn.is c.requires.wants in
    won_way c.args.shape.now c.args.caller c.args.call.now v w c.args.had ps c.win_turn.new.places.items c.args.room.now.rig.known.places.items c.win_turn.new.room.rig.known.places.items c.requires.looked
    c.win_turn.result c.in-Turn.part wants.1 c.win_turn.ensures.again c.win_turn.ensures.won

pub returns-in-Turn-clause-fewer : goal.returns-in-Turn-clause-fewer
returns-in-Turn-clause-fewer c =
    let v = view_of c.args.pen.now.seat in
    let w = view_of c.win_turn.new.pen.seat in
    let ps = c.args.places.now.items in
    won_fewer c.args.shape.now c.args.caller c.args.call.now v w c.args.had ps c.win_turn.new.places.items c.args.room.now.rig.known.places.items c.win_turn.new.room.rig.known.places.items c.requires.looked
    c.win_turn.result (place c.in-Turn.part) c.win_turn.ensures.again c.win_turn.ensures.won c.win_turn.ensures.few_places c.win_turn.ensures.few c.win_turn.ensures.same

pub returns-in-Turn-clause-busy : goal.returns-in-Turn-clause-busy
returns-in-Turn-clause-busy c =
    let v = view_of c.args.pen.now.seat in
    let w = view_of c.win_turn.new.pen.seat in
    let ps = c.args.places.now.items in
    let wants = subst (λ (w : Want). IsWanted c.args.room.now.rig.known c.args.shape.now c.args.caller c.args.call.now v ps w) c.in-Turn.is c.requires.wants in
    found_busy c.args.shape.now c.args.caller c.args.call.now v w c.args.had ps c.win_turn.new.places.items c.args.room.now.rig.known.places.items c.win_turn.new.room.rig.known.places.items c.requires.looked
    c.win_turn.result c.in-Turn.part wants.1 c.win_turn.ensures.other c.win_turn.ensures.list c.win_turn.ensures.place c.win_turn.ensures.turns
