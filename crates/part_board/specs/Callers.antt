-- Sets of callers, and their order.
use Rattle.std.specs.Prelude.{◌≡◌, Bool, true, false, nat_lt}
use Rattle.std.specs.FinSet as set
use Rattle.irq_base.specs.declared.call.Caller.{Caller}
use Rattle.irq_base.specs.declared.call.Caller.TheVariants.{Device, Cpu}
use Rattle.part_board.specs.declared.callers.Callers.{Callers}
use Rattle.irq_bits.specs.declared.limits.TheConstants.{MAX_CPUS}
use Rattle.irq_base.specs.declared.limits.TheConstants.{MAX_DEVICES}

-- whether the caller is in the set
abbrev pub has_caller : Callers → Caller → Bool
has_caller callers (Cpu n) = set.contains callers.cpus n
has_caller callers (Device d) = set.contains callers.devices d

-- numbers below the limits
abbrev pub is_small : Caller → Bool
is_small (Cpu n) = nat_lt n MAX_CPUS
is_small (Device d) = nat_lt d MAX_DEVICES

-- processors come before devices, and lesser numbers before greater ones
abbrev pub is_before : Caller → Caller → Bool
is_before (Cpu n) (Cpu m) = nat_lt n m
is_before (Cpu n) (Device d) = true
is_before (Device d) (Cpu n) = false
is_before (Device d) (Device e) = nat_lt d e

-- the caller is of these, and none before it is
pub record IsFirst (of : Caller → Bool) (c : Caller) : Type 0 where
  pub among : of c ≡ true
  pub first : (d : Caller) → is_before d c ≡ true → of d ≡ false
