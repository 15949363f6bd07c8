-- The word of a pin, where it counts as noted.
use Rattle.std.proofs.Common.{◌≡◌, ℕ, ◌≤◌, false, nat_lt, Some, None, sym, arith}
use Rattle.std.specs.Prelude.{IfSome}
use Rattle.std.specs.declared.option.Option.{Option}
use Rattle.std.proofs.lemmas.Bool.Decides.{nat_tests}
use Rattle.irq_base.specs.declared.event.Pin.{Pin}
use Rattle.route_table.specs.Pins.{IsPin}
use Rattle.route_bank.specs.Indices.{index_of_pin}
use Rattle.part_rig.specs.Readings.{PinsFit}

within : (w : ℕ) → nat_lt 4096 w ≡ false → w ≤ 4096
within w e = grind (arith, nat_tests)

pub pin_fits : (told : ℕ → Option ℕ) → PinsFit told → (pin : Pin) → IsPin pin → (word : Option ℕ) → word ≡ told (index_of_pin pin) → IfSome word (λ w. w ≤ 4096)
pin_fits told fit pin is None e = tt
pin_fits told fit pin is (Some w) e = within w (fit pin w is (sym e))
