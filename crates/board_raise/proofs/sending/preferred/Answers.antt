use Rattle.std.proofs.Common.{◌∙◌}
use Rattle.board_raise.proofs.Preferred.{preferred_wished, preferred_first, preferred_nobody}
use Rattle.board_raise.proofs.sending.preferred.Goals as goal

pub returns-in-Some : goal.returns-in-Some
returns-in-Some c = λ ps up is. c.alone.ensures ∙ preferred_wished c.args.lowest.now c.args.wish.now ps up is c.in-Some.n c.in-Some.ensures.least

pub returns-in-Some-least : goal.returns-in-Some-least
returns-in-Some-least c = λ ps up is. c.alone-in-Some-least.ensures ∙ preferred_first c.args.lowest.now c.args.wish.now ps up is c.in-None.ensures.least c.in-Some-least.n c.in-Some-least.ensures

pub returns-in-None-least : goal.returns-in-None-least
returns-in-None-least c = λ ps up is. c.empty.ensures ∙ preferred_nobody c.args.lowest.now c.args.wish.now ps up is c.in-None.ensures.least c.in-None-least.ensures
