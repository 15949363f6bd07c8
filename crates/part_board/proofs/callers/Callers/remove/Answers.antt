use Rattle.part_board.proofs.Sets.{cpu_out, device_out}
use Rattle.part_board.proofs.callers.Callers.remove.Goals as goal

pub returns-in-Cpu : goal.returns-in-Cpu
returns-in-Cpu c = cpu_out c.args.self.now c.remove.new.self c.in-Cpu.n c.args.caller c.in-Cpu.is c.remove.ensures

pub returns-in-Device : goal.returns-in-Device
returns-in-Device c = device_out c.args.self.now c.remove-in-Device.new.self c.in-Device.d c.args.caller c.in-Device.is c.remove-in-Device.ensures
