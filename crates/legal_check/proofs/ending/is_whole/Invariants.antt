use Rattle.std.proofs.Common.{List}
use Rattle.irq_base.specs.declared.lists.Entry.{Entry}
use Rattle.legal_check.specs.Standing.{HaveFollowed}
use Rattle.legal_check.proofs.Ended.{AreDone}
use Rattle.legal_check.proofs.ending.is_whole.Given as goal

abbrev pub invariant-loop-actor : goal.invariant-loop-actor
invariant-loop-actor l = (entries : List Entry) → HaveFollowed l.script entries l.all → AreDone l.script entries l.actor
