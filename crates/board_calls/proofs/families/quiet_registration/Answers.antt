use Rattle.std.proofs.Common.{◌<◌, sym, subst}
use Rattle.ioevent_set.specs.declared.row.IoRow.{IoRow}
use Rattle.board_calls.specs.Done.{FitsShape}
use Rattle.board_calls.proofs.Ranges.{attached_counter}
use Rattle.board_calls.proofs.families.quiet_registration.Goals as goal

pub returns-in-Attach-clause-fits : goal.returns-in-Attach-clause-fits
returns-in-Attach-clause-fits g c =
    let a = c.in-Attach in
    let shape = c.args.shape.now in
    subst (FitsShape shape) (sym (g.met.R.Rig.held_with c.args.rig.now c.attach.new.parts))
    (c.attach.ensures.fits shape
    (subst (λ (row : IoRow). row.counter < shape.counters) (sym c.io_row.ensures) (attached_counter shape c.args.call.now a.space a.address a.len a.counter a.want a.is c.requires.range))
    (subst (FitsShape shape) (sym c.parts-in-Attach.ensures.value) c.requires.fits))
