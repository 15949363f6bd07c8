use Rattle.std.proofs.Common.{◌<◌, arith}
use Rattle.irq_base.specs.declared.event.Pin.TheVariants.{Pic}
use Rattle.route_table.specs.Pins.{gsi_of}
use Rattle.board_calls.proofs.Owners.{pic_owned, owned_next}
use Rattle.board_calls.proofs.reroute.pic_gsis.Goals as goal

pub loop-pin-preserved : goal.loop-pin-preserved
loop-pin-preserved c = owned_next (λ n. gsi_of c.args.table.now (Pic n)) 16 c.loop-pin.gsis c.loop-pin.pin c.gsi_of.result c.loop-pin-test.true c.gsi_of.ensures.value c.loop-pin.invariant

pub returns : goal.returns
returns c = λ n. pic_owned c.args.table.now c.keeps_the_rules.ensures.routes n c.loop-pin.gsis c.loop-pin.invariant.0 (λ below. let so_far : n < c.loop-pin.pin = omega arith in c.loop-pin.invariant.1 n so_far)
