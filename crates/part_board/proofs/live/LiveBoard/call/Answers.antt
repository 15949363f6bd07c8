use Rattle.std.proofs.Common.{◌≡◌, ◌∙◌, subst}
use Rattle.irq_base.specs.declared.call.Caller.{Caller}
use Rattle.turn_book.proofs.Lists.{prefix-trans}
use Rattle.part_board.specs.Seen.{pass_seen, pass_view, entries_by}
use Rattle.part_board.proofs.Calls.{entered_behind}
use Rattle.part_board.proofs.Reached.{reached_in}
use Rattle.part_board.proofs.live.LiveBoard.call.Goals as goal

pub returns-in-Ok-Ok-clause-entered : goal.returns-in-Ok-Ok-clause-entered
returns-in-Ok-Ok-clause-entered g c =
    entered_behind c.args.pass.now.caller c.loop.pass.caller c.args.call.now c.in-Ok-Ok.done c.try_again.new.events.items
    (pass_seen c.args.pass.now) (pass_seen c.loop.pass) (pass_seen c.try_again.new.pass)
    c.in-Ok-Ok.field-0 c.in-Ok-Ok.field-0-is c.loop.invariant.3 c.loop.invariant.4 c.loop.invariant.5 c.in-Ok-Ok.ensures.entered

pub returns-in-Ok-Ok-clause-took : goal.returns-in-Ok-Ok-clause-took
returns-in-Ok-Ok-clause-took g c =
    let first = pass_seen c.args.pass.now in
    reached_in c.args.self.now.shape c.args.pass.now.caller c.args.call.now first (pass_seen c.try_again.new.pass) (pass_view c.args.pass.now).took (pass_view c.try_again.new.pass).took c.in-Ok-Ok.field-0 _ c.in-Ok-Ok.field-0-is
    (c.in-Ok-Ok.ensures.took c.args.pass.now.caller first (pass_view c.args.pass.now).took c.loop.invariant.3 c.loop.invariant.4 c.loop.invariant.6)

pub returns-in-Ok-Ok-clause-found : goal.returns-in-Ok-Ok-clause-found
returns-in-Ok-Ok-clause-found g c =
    let first = pass_seen c.args.pass.now in
    reached_in c.args.self.now.shape c.args.pass.now.caller c.args.call.now first (pass_seen c.try_again.new.pass) (pass_view c.args.pass.now).found (pass_view c.try_again.new.pass).found c.in-Ok-Ok.field-0 _ c.in-Ok-Ok.field-0-is
    (c.in-Ok-Ok.ensures.found c.args.pass.now.caller first (pass_view c.args.pass.now).found c.loop.invariant.3 c.loop.invariant.4 c.loop.invariant.7)

pub returns-in-Ok-Err-clause-took : goal.returns-in-Ok-Err-clause-took
returns-in-Ok-Err-clause-took g c =
    let first = pass_seen c.args.pass.now in
    reached_in c.args.self.now.shape c.args.pass.now.caller c.args.call.now first (pass_seen c.try_again.new.pass) (pass_view c.args.pass.now).took (pass_view c.try_again.new.pass).took c.in-Ok-Err.field-0 _ c.in-Ok-Err.field-0-is
    (c.in-Ok-Err.ensures.took c.args.pass.now.caller first (pass_view c.args.pass.now).took c.loop.invariant.3 c.loop.invariant.4 c.loop.invariant.6)

pub returns-in-Ok-Err-clause-found : goal.returns-in-Ok-Err-clause-found
returns-in-Ok-Err-clause-found g c =
    let first = pass_seen c.args.pass.now in
    reached_in c.args.self.now.shape c.args.pass.now.caller c.args.call.now first (pass_seen c.try_again.new.pass) (pass_view c.args.pass.now).found (pass_view c.try_again.new.pass).found c.in-Ok-Err.field-0 _ c.in-Ok-Err.field-0-is
    (c.in-Ok-Err.ensures.found c.args.pass.now.caller first (pass_view c.args.pass.now).found c.loop.invariant.3 c.loop.invariant.4 c.loop.invariant.7)

pub loop-preserved : goal.loop-preserved
loop-preserved g c =
    let first = pass_seen c.args.pass.now in
    let who = c.args.pass.now.caller in
    let inv = c.loop.invariant in
    let again = c.in-Err.ensures in (
      tt,
      tt,
      again.pass,
      again.caller ∙ inv.3,
      prefix-trans first (pass_seen c.loop.pass) (pass_seen c.try_again.new.pass) inv.4 again.seen,
      subst (λ (w : Caller). entries_by w (pass_seen c.try_again.new.pass) ≡ entries_by w (pass_seen c.loop.pass)) inv.3 again.learnt.own ∙ inv.5,
      again.took who first (pass_view c.args.pass.now).took inv.3 inv.4 inv.6,
      again.found who first (pass_view c.args.pass.now).found inv.3 inv.4 inv.7,
    )
