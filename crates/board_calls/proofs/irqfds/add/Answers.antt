use Rattle.std.proofs.Common.{refl, sym, ap, is_some, Some}
use Rattle.board_raise.specs.declared.parts.Parts as code
use Rattle.board_calls.proofs.InHand.{in_hand}
use Rattle.board_calls.proofs.irqfds.add.Goals as goal

pub returns-in-Ok-clause-held : goal.returns-in-Ok-clause-held
returns-in-Ok-clause-held c =
    let p : code.Parts = c.args.parts.now in
    in_hand p (record p { registry = Some c.add_to.new.registry; counters = Some c.take.new.self }) (sym (ap is_some c.in-Some.is)) (sym (ap is_some c.in-Some-counters.is)) refl refl refl refl
