use Rattle.std.proofs.Common.{◌≡◌, ◌∙◌, subst}
use Rattle.irq_base.specs.declared.call.Caller.{Caller}
use Rattle.turn_book.proofs.Lists.{prefix-trans}
use Rattle.part_board.specs.Seen.{pass_seen, pass_view, entries_by}
use Rattle.part_board.proofs.live.LiveBoard.due.Goals as goal

pub returns-in-Ok-clause-took : goal.returns-in-Ok-clause-took
returns-in-Ok-clause-took g c = c.in-Ok.ensures.took c.args.pass.now.caller (pass_view c.args.pass.now).took c.loop.invariant.3 c.loop.invariant.6

pub returns-in-Ok-clause-found : goal.returns-in-Ok-clause-found
returns-in-Ok-clause-found g c = c.in-Ok.ensures.found c.args.pass.now.caller (pass_view c.args.pass.now).found c.loop.invariant.3 c.loop.invariant.7

pub loop-preserved : goal.loop-preserved
loop-preserved g c =
    let first = pass_seen c.args.pass.now in
    let who = c.args.pass.now.caller in
    let inv = c.loop.invariant in
    let again = c.in-Err.ensures in (
      tt,
      tt,
      again.pass,
      again.caller ∙ inv.3,
      prefix-trans first (pass_seen c.loop.pass) (pass_seen c.due_again.new.pass) inv.4 again.learnt.seen,
      subst (λ (w : Caller). entries_by w (pass_seen c.due_again.new.pass) ≡ entries_by w (pass_seen c.loop.pass)) inv.3 again.learnt.own ∙ inv.5,
      again.took who (pass_view c.args.pass.now).took inv.3 inv.6,
      again.found who (pass_view c.args.pass.now).found inv.3 inv.7,
      again.misses ∙ inv.8,
    )
