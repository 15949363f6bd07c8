use Rattle.std.proofs.Common.{◌-◌, None, Some, refl, arith}
use Rattle.pit_8254.proofs.Advancing.{gone_none, gone_all, tick_next, stands_before, gone_next}
use Rattle.face_asks.proofs.Told.{stop_then}
use Rattle.pit_8254.proofs.Asking.{ticked_none, ticked_both, ticked_barred, most_left}
use Rattle.pit_8254.proofs.Clocking.{ticks_most}
use Rattle.pit_8254.proofs.countdown.Countdown.advance.Goals as goal

pub loop-gap-init : goal.loop-gap-init
loop-gap-init g c = record {
  gone = gone_none c.args.clocks c.args.self.now c.requires.counting;
  asked = ticked_none g.F.Face c.args.face.now c.args.events.now.items;
  stops = (refl, refl);
}

pub returns-in-Err-clause-stands : goal.returns-in-Err-clause-stands
returns-in-Err-clause-stands g c =
    let gap = c.in-Some.ensures.some in
    stands_before c.args.clocks c.args.self.now c.loop-gap.self c.wait.new.self c.loop-gap.left c.loop-gap.ticks c.in-Some.gap
    c.loop-gap.invariant.gone gap.0 gap.1 gap.2 c.wait.ensures.after

pub returns-in-Err-clause-asked : goal.returns-in-Err-clause-asked
returns-in-Err-clause-asked g c =
    ticked_barred g.F.Face c.loop-gap.ticks (Some c.in-Err.spent) c.args.face.now c.loop-gap.face c.ask_tick.new.face
    c.args.events.now.items c.loop-gap.events.items c.ask_tick.new.events.items c.loop-gap.invariant.asked c.in-Err.ensures.asked

pub returns-in-Err-clause-stops : goal.returns-in-Err-clause-stops
returns-in-Err-clause-stops g c =
    stop_then g.F.Face (Some c.in-Err.spent) c.args.face.now c.loop-gap.face c.ask_tick.new.face c.loop-gap.invariant.stops c.in-Err.ensures.stops

pub returns-in-Err-clause-none_left : goal.returns-in-Err-clause-none_left
returns-in-Err-clause-none_left g c =
    most_left g.F.Face c.loop-gap.ticks c.args.face.now c.loop-gap.face c.args.events.now.items c.loop-gap.events.items c.loop-gap.invariant.asked c.in-Err.ensures.none_left

pub tick-requires-clause-ticks : goal.tick-requires-clause-ticks
tick-requires-clause-ticks g c =
    let gap = c.in-Some.ensures.some in
    tick_next c.args.clocks c.args.self.now c.loop-gap.self c.wait.new.self c.loop-gap.left c.loop-gap.ticks c.in-Some.gap
    c.loop-gap.invariant.gone gap.0 gap.1 gap.2 c.wait.ensures.after

pub overflow_add-ticks : goal.overflow_add-ticks
overflow_add-ticks g c =
    let gone = c.loop-gap.invariant.gone in
    let most = ticks_most (c.args.clocks - c.loop-gap.left) c.args.self.now in
    let gap = c.in-Some.ensures.some in
    omega (arith, most, gone.ticked, gone.fewer, gap.0, gap.1)

pub loop-gap-preserved : goal.loop-gap-preserved
loop-gap-preserved g c =
    let start = c.args.face.now in
    let here = c.loop-gap.face in
    let next = c.ask_tick.new.face in
    let gap = c.in-Some.ensures.some in
    record {
      gone = gone_next c.args.clocks c.args.self.now c.loop-gap.self c.wait.new.self c.loop-gap.left c.loop-gap.ticks c.in-Some.gap
          c.loop-gap.invariant.gone gap.0 gap.1 gap.2 c.wait.ensures.after c.tick.new.self c.tick.ensures.after c.tick.ensures.counting;
      asked = ticked_both g.F.Face c.loop-gap.ticks 1 None start here next c.args.events.now.items c.loop-gap.events.items c.ask_tick.new.events.items
          c.loop-gap.invariant.asked c.in_default-ask_tick.ensures.asked;
      stops = stop_then g.F.Face None start here next c.loop-gap.invariant.stops c.in_default-ask_tick.ensures.stops;
    }

pub returns-clause-after : goal.returns-clause-after
returns-clause-after g c =
    (gone_all c.args.clocks c.args.self.now c.loop-gap.self c.wait-2.new.self c.loop-gap.left c.loop-gap.ticks
    c.loop-gap.invariant.gone c.in_default.ensures.none c.wait-2.ensures.after).0

pub returns-clause-ticks : goal.returns-clause-ticks
returns-clause-ticks g c =
    (gone_all c.args.clocks c.args.self.now c.loop-gap.self c.wait-2.new.self c.loop-gap.left c.loop-gap.ticks
    c.loop-gap.invariant.gone c.in_default.ensures.none c.wait-2.ensures.after).1
