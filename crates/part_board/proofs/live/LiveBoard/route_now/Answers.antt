use Rattle.std.proofs.Common.{sym, subst}
use Rattle.part_board.specs.Routed.{IsRouted}
use Rattle.part_board.specs.Seen.{pass_seen}
use Rattle.part_board.proofs.live.LiveBoard.route_now.Goals as goal

pub returns-then-to-from-clause-routed : goal.returns-then-to-from-clause-routed
returns-then-to-from-clause-routed c =
    subst (λ t. IsRouted c.args.self.now.shape c.args.gsi t (pass_seen c.read-from.new.pass)) (sym c.named_by.ensures) (c.read-from.ensures.right c.if-to-from.true)
