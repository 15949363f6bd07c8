use Rattle.std.proofs.Common.{refl}
use Rattle.part_rig.proofs.Keeping.{same_readings}
use Rattle.part_rig.proofs.Rooms.{room_after}
use Rattle.part_rig.proofs.workroom.Workroom.step.Goals as goal

pub returns-clause-readings : goal.returns-clause-readings
returns-clause-readings c = same_readings c.args.self.now.rig.known c.step_on.new.rig.known c.step_on.ensures.noted

pub returns-clause-room : goal.returns-clause-room
returns-clause-room c = room_after c.args.shape.now c.args.self.now (record c.args.self.now { rig = c.step_on.new.rig }) refl refl c.step_on.ensures.held c.step_on.ensures.fits c.requires.room
