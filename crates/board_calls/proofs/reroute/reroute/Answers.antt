use Rattle.std.proofs.Common.{refl, sym, ap, is_some, Some}
use Rattle.board_raise.specs.declared.parts.Parts as code
use Rattle.board_calls.proofs.InHand.{in_hand}
use Rattle.board_calls.proofs.reroute.reroute.Goals as goal

pub returns-clause-held : goal.returns-clause-held
returns-clause-held c =
    let p : code.Parts = c.args.parts.now in
    in_hand p (record p { registry = Some c.replace.new.registry; pic = Some c.forget_moved_pics.new.part; ioapic = Some c.forget_moved_ioapics.new.part })
    (sym (ap is_some c.in-Some.is)) refl refl (sym (ap is_some c.in-Some-pic.is)) (sym (ap is_some c.in-Some-ioapic.is)) refl
