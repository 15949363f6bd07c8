use Rattle.replaying.proofs.Loops.{ends_stopped, ends_then}
use Rattle.replaying.proofs.player.Player.end_pair.Goals as goal

pub returns-in-Some-clause-played : goal.returns-in-Some-clause-played
returns-in-Some-clause-played c =
    ends_stopped c.args.caller c.end_at.result c.args.self.now.board c.args.self.now.history c.in_ok-spent.field-0 c.once.new.self.board c.once.new.self.history c.end_at.ensures
    (λ rest. c.in_ok-spent.ensures.played rest) c.in-Some.spent c.in-Some.is

pub returns-clause-played : goal.returns-clause-played
returns-clause-played c =
    ends_then c.args.caller c.end_at.result c.args.self.now.board c.args.self.now.history c.in_ok-spent.field-0 c.once.new.self.board c.once.new.self.history c.end_at.ensures
    (λ rest. c.in_ok-spent.ensures.played rest) c.end_at-2.result c.once-2.result c.once-2.new.self.board c.once-2.new.self.history c.in_default.is c.end_at-2.ensures c.once-2.ensures.played
