use Rattle.std.proofs.Common.{◌≡◌, List}
use Rattle.irq_base.specs.declared.lists.Entry.{Entry}
use Rattle.legal_check.specs.Standing.{HaveFollowed}
use Rattle.legal_check.proofs.Ended.{BarredSoFar}
use Rattle.legal_check.proofs.ending.are_barred.Given as goal

abbrev pub invariant-loop-actor : goal.invariant-loop-actor
invariant-loop-actor l =
    (l.board ≡ l.fn.board)
    × ((entries : List Entry) → HaveFollowed l.script entries l.all → BarredSoFar l.script entries l.fn.board l.actor l.some)
