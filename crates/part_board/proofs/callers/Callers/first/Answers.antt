use Rattle.part_board.proofs.Sets.{first_cpu, first_device, nobody_there}
use Rattle.part_board.proofs.callers.Callers.first.Goals as goal

pub returns-in-Some : goal.returns-in-Some
returns-in-Some c = first_cpu c.args.self.now c.in-Some.n c.in-Some.ensures

pub returns-in-Some-least : goal.returns-in-Some-least
returns-in-Some-least c = first_device c.args.self.now c.in-Some-least.d c.in-None.ensures c.in-Some-least.ensures

pub returns-in-None-least : goal.returns-in-None-least
returns-in-None-least c = nobody_there c.args.self.now c.in-None.ensures c.in-None-least.ensures
