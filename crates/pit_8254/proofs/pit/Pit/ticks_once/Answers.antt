use Rattle.pit_8254.proofs.Leading.{ticks_once}
use Rattle.pit_8254.proofs.pit.Pit.ticks_once.Goals as goal

pub returns : goal.returns
returns c = record { once = λ operations lead. ticks_once operations c.args.self.now lead }
