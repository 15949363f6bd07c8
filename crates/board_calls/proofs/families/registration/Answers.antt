use Rattle.board_model.specs.Published.{routing_of_words}
use Rattle.board_model.specs.Run.{run_on}
use Rattle.board_raise.specs.InHand.{parts_of}
use Rattle.board_calls.specs.Calls.{plan_in_range}
use Rattle.board_calls.proofs.Room.{quiet_tells}
use Rattle.board_calls.proofs.families.registration.Goals as goal

pub returns-in_default : goal.returns-in_default
returns-in_default g c =
    let rig = c.args.rig.now in
    let after = c.quiet_registration.new.rig in
    record {
      does = λ n straight.
          quiet_tells c.quiet_registration.result c.args.events.now.items (parts_of (g.R.Rig.held after)) (g.R.Rig.wishes after)
          (run_on (plan_in_range (routing_of_words (g.R.Rig.published rig)) c.args.shape.now n c.args.call.now) (parts_of (g.R.Rig.held rig)) (g.R.Rig.wishes rig))
          (c.quiet_registration.ensures.does n straight);
      missing = c.quiet_registration.ensures.missing;
      held = c.quiet_registration.ensures.held;
      fits = c.quiet_registration.ensures.fits;
      published = c.quiet_registration.ensures.published;
      strays = c.quiet_registration.ensures.strays;
      noted = c.quiet_registration.ensures.noted;
    }
