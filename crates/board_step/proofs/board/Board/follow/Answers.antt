use Rattle.board_step.proofs.Basics.{true≢false, sym, ◌∙◌, arith}
use Rattle.board_step.proofs.Followed.{never_many, never_spent, had_leads, had_exactly}
use Rattle.board_step.proofs.board.Board.follow.Goals as goal

pub returns-then-len-gt560-clause-exactly : goal.returns-then-len-gt560-clause-exactly
returns-then-len-gt560-clause-exactly c =
    (λ is. absurd (true≢false (sym is)), λ on. absurd (never_many c.args.self.now c.keeps_sound.ensures c.args.caller c.args.call.now c.args.reply.now c.args.events.now (omega (c.if-len-gt560.true, c.len.ensures, arith)) on))

pub returns-in-Err-clause-exactly : goal.returns-in-Err-clause-exactly
returns-in-Err-clause-exactly c = (
  λ is. absurd (true≢false (sym is)),
  λ on. absurd (never_spent c.args.self.now c.keeps_sound.ensures c.args.caller c.args.call.now c.args.reply.now c.args.events.now c.in-Err.field-0 c.in-Err.ensures.spent on),
)

pub returns-in-Ok-clause-exactly : goal.returns-in-Ok-clause-exactly
returns-in-Ok-clause-exactly c =
    had_exactly c.args.self.now c.keeps_sound.ensures c.args.caller c.args.call.now c.args.reply.now c.args.events.now
    c.as_slice.result.now c.new-told.result.items c.step.new.events.items c.in-Ok.done c.step.new.self c.is_as_shown.result
    (c.as_slice.ensures ∙ c.wishes_shown-wishes.ensures) c.new-told.ensures c.in-Ok.ensures.ran c.in-Ok.ensures.applied c.is_as_shown.ensures

pub returns-in-Ok-clause-leads : goal.returns-in-Ok-clause-leads
returns-in-Ok-clause-leads c =
    had_leads c.args.self.now c.keeps_sound.ensures c.args.caller c.args.call.now c.args.reply.now c.args.events.now
    c.as_slice.result.now c.new-told.result.items c.step.new.events.items c.in-Ok.done c.step.new.self c.is_as_shown.result
    (c.as_slice.ensures ∙ c.wishes_shown-wishes.ensures) c.new-told.ensures c.in-Ok.ensures.ran c.in-Ok.ensures.applied c.is_as_shown.ensures
