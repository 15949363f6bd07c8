-- What the registers read at power-on, computed by the checker.
use Rattle.std.proofs.Common.{refl}
use Rattle.ioapic_82093aa.specs.Pins.{RegistersStartAsTold}

pub registers_start_as_told : RegistersStartAsTold
registers_start_as_told = refl
