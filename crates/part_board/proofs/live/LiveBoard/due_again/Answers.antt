use Rattle.part_board.specs.Seen.{pass_view}
use Rattle.part_board.proofs.Watches.{took_more, found_more}
use Rattle.part_board.proofs.live.LiveBoard.due_again.Goals as goal

pub returns-clause-took : goal.returns-clause-took
returns-clause-took c = λ who turns same grew. took_more who c.args.pass.now.caller same turns (pass_view c.args.pass.now).took (pass_view c.try_due.new.pass).took grew c.try_due.result c.try_due.ensures.took

pub returns-clause-found : goal.returns-clause-found
returns-clause-found c =
    λ who turns same grew. found_more who c.args.pass.now.caller same turns (pass_view c.args.pass.now).found (pass_view c.try_due.new.pass).found grew c.try_due.result c.try_due.ensures.busy c.try_due.ensures.found
