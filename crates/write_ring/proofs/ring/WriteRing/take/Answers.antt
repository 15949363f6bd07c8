use Rattle.std.proofs.Common.{refl, ◌∙◌}
use Rattle.turn_book.proofs.Lists.{prefix-trans}
use Rattle.write_ring.specs.declared.machine.RingEntry.TheVariants.{Take}
use Rattle.write_ring.specs.Seen.{pass_seen}
use Rattle.write_ring.proofs.Attempts.{entered_behind, own_behind}
use Rattle.write_ring.proofs.ring.WriteRing.take.Goals as goal

pub returns-in-Ok-clause-entered : goal.returns-in-Ok-clause-entered
returns-in-Ok-clause-entered g c =
    let inv = c.loop.invariant in
    entered_behind (λ n. Take n c.try_take.new.out.items) (λ n. refl) c.args.pass.now.number c.loop.pass.number (pass_seen c.args.pass.now) (pass_seen c.loop.pass) (pass_seen c.try_take.new.pass) inv.3 inv.4 inv.5 c.in-Ok.ensures.entered

pub loop-preserved : goal.loop-preserved
loop-preserved g c =
    let inv = c.loop.invariant in
    let again = c.try_take.ensures in (
      tt,
      tt,
      again.pass,
      again.number ∙ inv.3,
      prefix-trans (pass_seen c.args.pass.now) (pass_seen c.loop.pass) (pass_seen c.try_take.new.pass) inv.4 again.seen,
      own_behind c.args.pass.now.number c.loop.pass.number (pass_seen c.args.pass.now) (pass_seen c.loop.pass) (pass_seen c.try_take.new.pass) inv.3 inv.5 c.in-Err-Busy.ensures.own,
    )
