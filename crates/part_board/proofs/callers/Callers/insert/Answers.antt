use Rattle.part_board.proofs.Sets.{cpu_in, device_in}
use Rattle.part_board.proofs.callers.Callers.insert.Goals as goal

pub returns-in-Cpu : goal.returns-in-Cpu
returns-in-Cpu c = cpu_in c.args.self.now c.insert.new.self c.in-Cpu.n c.args.caller c.in-Cpu.is c.insert.ensures

pub returns-in-Device : goal.returns-in-Device
returns-in-Device c = device_in c.args.self.now c.insert-in-Device.new.self c.in-Device.d c.args.caller c.in-Device.is c.insert-in-Device.ensures
