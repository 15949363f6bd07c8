use Rattle.std.proofs.Common.{◌+◌, arith}
use Rattle.part_reach.proofs.Places.{so_few}
use Rattle.part_reach.proofs.fetching.win_turn.Goals as goal

pub returns-in-Found-clause-few_places : goal.returns-in-Found-clause-few_places
returns-in-Found-clause-few_places c =
    let holds = c.take_turn.ensures.holds in
    let most = so_few (5 + c.args.shape.now.cpus) c.take_turn.new.places.items holds.below holds.apart in
    let few = c.requires.few in omega (arith, most, few)

pub returns-in-Got-clause-few_places : goal.returns-in-Got-clause-few_places
returns-in-Got-clause-few_places c =
    let holds = c.take_turn.ensures.holds in
    let most = so_few (5 + c.args.shape.now.cpus) c.take_turn.new.places.items holds.below holds.apart in
    let few = c.requires.few in omega (arith, most, few)
