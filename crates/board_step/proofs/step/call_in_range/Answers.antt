use Rattle.board_step.proofs.Basics.{routing_of_words, run_on, parts_of, number_of, plan_in_range, quiet_tells}
use Rattle.board_step.proofs.step.call_in_range.Goals as goal

pub returns-in-Line-clause-does : goal.returns-in-Line-clause-does
returns-in-Line-clause-does g c = λ straight.
    let rig = c.args.rig.now in
    let after = c.device_call.new.rig in
    quiet_tells c.device_call.result c.args.events.now.items (parts_of (g.R.Rig.held after)) (g.R.Rig.wishes after)
    (run_on (plan_in_range (routing_of_words (g.R.Rig.published rig)) c.args.shape.now (number_of c.args.caller) c.args.call.now) (parts_of (g.R.Rig.held rig)) (g.R.Rig.wishes rig))
    (c.device_call.ensures.does (number_of c.args.caller) straight)

pub returns-in-Tick-clause-does : goal.returns-in-Tick-clause-does
returns-in-Tick-clause-does g c = λ straight.
    let rig = c.args.rig.now in
    let after = c.tick_call.new.rig in
    quiet_tells c.tick_call.result c.args.events.now.items (parts_of (g.R.Rig.held after)) (g.R.Rig.wishes after)
    (run_on (plan_in_range (routing_of_words (g.R.Rig.published rig)) c.args.shape.now (number_of c.args.caller) c.args.call.now) (parts_of (g.R.Rig.held rig)) (g.R.Rig.wishes rig))
    (c.tick_call.ensures.does (number_of c.args.caller) straight)
