use Rattle.std.proofs.Common.{◌<◌, ◌≤◌, sym, arith}
use Rattle.pit_8254.specs.Clocks.{due}
use Rattle.pit_8254.proofs.Clocking.{quiet_clocks, spent_clocks, one_shot}
use Rattle.pit_8254.proofs.countdown.Countdown.wait.Goals as goal

pub returns-then-self-due-clause-after : goal.returns-then-self-due-clause-after
returns-then-self-due-clause-after c =
    let r = c.args.self.now in
    let below : r.elapsed < due r = omega (arith, c.due.ensures) in
    sym (quiet_clocks c.args.clocks r (c.requires.quiet below))

pub returns-else-self-due-clause-after : goal.returns-else-self-due-clause-after
returns-else-self-due-clause-after c =
    let r = c.args.self.now in
    let past : due r ≤ r.elapsed = omega (arith, c.due.ensures) in
    sym (spent_clocks c.args.clocks r (one_shot r c.requires.counting past) past)
