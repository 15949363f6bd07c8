use Rattle.irq_base.specs.declared.reply.Reply.TheVariants.{Vector}
use Rattle.board_calls.proofs.pair.inta.Goals as goal

pub returns-in-Ok-clause-does : goal.returns-in-Ok-clause-does
returns-in-Ok-clause-does g c = λ straight. c.in-Ok.ensures.does (λ vector. Vector vector) straight

pub returns-in-Err-clause-does : goal.returns-in-Err-clause-does
returns-in-Err-clause-does g c = λ straight. c.in-Err.ensures.does (λ vector. Vector vector) straight
