use Rattle.pit_8254.proofs.Standing.{stands_so}
use Rattle.pit_8254.proofs.Asking.{ticked_none}
use Rattle.pit_8254.proofs.channel.Channel.advance.Goals as goal

pub returns-clause-stands : goal.returns-clause-stands
returns-clause-stands g c =
    stands_so c.args.clocks c.args.self.now c.in-Some.run' c.advance-answer.new.self c.advance-answer.result c.in-Some.is
    c.advance-answer.ensures.stands

pub returns-in_default-clause-asked : goal.returns-in_default-clause-asked
returns-in_default-clause-asked g c = ticked_none g.F.Face c.args.face.now c.args.events.now.items
