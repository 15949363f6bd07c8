use Rattle.std.proofs.Common.{◌∙◌, Ok, Err, ap}
use Rattle.irq_base.specs.declared.call.Call.TheVariants.{Ack}
use Rattle.replaying.proofs.Turns.{answered_by}
use Rattle.replaying.proofs.Loops.{round_then, round_barred}
use Rattle.replaying.proofs.player.Player.round.Goals as goal

pub returns-in-Ok-Ok-clause-played : goal.returns-in-Ok-Ok-clause-played
returns-in-Ok-Ok-clause-played c =
    round_then c.args.caller c.in-Ok-Ok.reply c.args.self.now.board c.args.self.now.history c.ask.new.self.board c.ask.new.self.history c.go_on.result c.go_on.new.self.board c.go_on.new.self.history
    (answered_by c.args.caller Ack c.args.self.now.board c.args.self.now.history c.ask.result (Ok c.in-Ok-Ok.reply) c.ask.new.self.board c.ask.new.self.history
    (c.in-Ok-Ok.is ∙ ap Ok c.in-Ok-Ok.field-0-is) c.ask.ensures.answered)
    c.go_on.ensures.played

pub returns-in-Ok-Err-clause-played : goal.returns-in-Ok-Err-clause-played
returns-in-Ok-Err-clause-played c =
    round_barred c.args.caller c.args.self.now.board c.args.self.now.history c.in-Ok-Err.spent c.ask.new.self.board c.ask.new.self.history
    (answered_by c.args.caller Ack c.args.self.now.board c.args.self.now.history c.ask.result (Err c.in-Ok-Err.spent) c.ask.new.self.board c.ask.new.self.history
    (c.in-Ok-Err.is ∙ ap Ok c.in-Ok-Err.field-0-is) c.ask.ensures.answered)
