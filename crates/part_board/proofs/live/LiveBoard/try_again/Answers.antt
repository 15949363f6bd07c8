use Rattle.part_board.specs.Seen.{pass_seen, pass_view}
use Rattle.part_board.proofs.Reached.{reached_again, found_reached}
use Rattle.part_board.proofs.live.LiveBoard.try_again.Goals as goal

pub returns-clause-took : goal.returns-clause-took
returns-clause-took c = λ who first turns is from old.
    reached_again c.args.self.now.shape c.args.pass.now.caller who c.args.call.now c.try_call.new.events.items first (pass_seen c.args.pass.now) (pass_seen c.try_call.new.pass)
    turns (pass_view c.args.pass.now).took (pass_view c.try_call.new.pass).took c.try_call.result is from c.try_call.ensures.seen c.try_call.ensures.entered c.try_call.ensures.took old

pub returns-clause-found : goal.returns-clause-found
returns-clause-found c = λ who first turns is from old.
    reached_again c.args.self.now.shape c.args.pass.now.caller who c.args.call.now c.try_call.new.events.items first (pass_seen c.args.pass.now) (pass_seen c.try_call.new.pass)
    turns (pass_view c.args.pass.now).found (pass_view c.try_call.new.pass).found c.try_call.result is from c.try_call.ensures.seen c.try_call.ensures.entered
    (found_reached c.args.self.now.shape c.args.pass.now.caller c.args.call.now (pass_seen c.args.pass.now) (pass_seen c.try_call.new.pass) (pass_view c.args.pass.now).found (pass_view c.try_call.new.pass).found
    c.try_call.result c.try_call.ensures.seen c.try_call.ensures.found c.try_call.ensures.reached) old
