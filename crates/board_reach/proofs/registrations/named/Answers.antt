use Rattle.board_reach.proofs.Basics.{sym, ap, ◌∙◌, if_of}
use Rattle.board_reach.proofs.SeenRows.{named_is}
use Rattle.board_reach.proofs.registrations.named.Goals as goal

pub returns : goal.returns
returns c = c.if_of.ensures ∙ ap (if_of c.args.gsi) c.of_trigger.ensures ∙ sym (named_is c.args.trigger c.args.gsi c.args.irqfds.now c.requires)
