use Rattle.std.proofs.Common.{◌∙◌, Ok, ap}
use Rattle.replaying.proofs.Turns.{answered_by, once-answered}
use Rattle.replaying.proofs.player.Player.once.Goals as goal

pub returns-in-Ok-Ok-clause-played : goal.returns-in-Ok-Ok-clause-played
returns-in-Ok-Ok-clause-played c = λ rest.
    once-answered c.args.caller c.args.call.now rest c.args.self.now.board c.args.self.now.history c.in-Ok-Ok.field-0-0 c.ask.new.self.board c.ask.new.self.history
    (answered_by c.args.caller c.args.call.now c.args.self.now.board c.args.self.now.history c.ask.result (Ok c.in-Ok-Ok.field-0-0) c.ask.new.self.board c.ask.new.self.history
    (c.in-Ok-Ok.is ∙ ap Ok c.in-Ok-Ok.field-0-is) c.ask.ensures.answered)
