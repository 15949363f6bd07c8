use Rattle.std.proofs.Common.{List, [], ◌∷◌, ◌++◌, ◌∙◌, ap}
use Rattle.irq_base.specs.declared.event.Event.{Event}
use Rattle.board_step.specs.Bodies.{entry_of}
use Rattle.replaying.proofs.Answering.{step_shape}
use Rattle.replaying.proofs.player.Player.ask.Goals as goal

pub returns-in_err-keep-in-Ok-clause-shape : goal.returns-in_err-keep-in-Ok-clause-shape
returns-in_err-keep-in-Ok-clause-shape c =
    step_shape c.args.self.now.board (entry_of c.args.caller c.args.call.now c.in-Ok.done.reply c.apply.new.events.items) c.apply.new.self c.in-Ok.ensures.whole

pub returns-in_ok-keep-in-Ok-clause-shape : goal.returns-in_ok-keep-in-Ok-clause-shape
returns-in_ok-keep-in-Ok-clause-shape c =
    step_shape c.args.self.now.board (entry_of c.args.caller c.args.call.now c.in-Ok.done.reply c.apply.new.events.items) c.apply.new.self c.in-Ok.ensures.whole

pub returns-in_ok-keep-in-Ok-clause-answered : goal.returns-in_ok-keep-in-Ok-clause-answered
returns-in_ok-keep-in-Ok-clause-answered c = (
  c.apply.new.events.items,
  c.in-Ok.ensures.whole,
  c.in_ok-keep-in-Ok.ensures
      ∙ ap (λ (es : List Event). c.args.self.now.history ++ entry_of c.args.caller c.args.call.now c.in-Ok.done.reply es ∷ []) c.as_slice.ensures.value,
)
