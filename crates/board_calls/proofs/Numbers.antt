-- A local APIC keeps its number, whatever its processor does with it.
use Rattle.std.proofs.Common.{◌≡◌, ℕ, Some, None, refl, arith}
use Rattle.std.specs.declared.option.Option.{Option}
use Rattle.lapic.specs.Registers.{LocalApic, register_at}
use Rattle.lapic.specs.Priority.{given, without_service}
use Rattle.lapic.specs.Offsets.{stored_at, store_to}

pub service_number : (a : LocalApic) (vector : Option ℕ) → (without_service a vector).number ≡ a.number
service_number a None = refl
service_number a (Some vector) = refl

pub given_number : (a : LocalApic) (vector : Option ℕ) → (given a vector).number ≡ a.number
given_number a None = refl
given_number a (Some vector) = refl

pub store_number : (a : LocalApic) (offset value : ℕ) → (store_to a offset value).number ≡ a.number
store_number a offset value =
    elim (register_at offset) as (λ o. (stored_at a o value).number ≡ a.number) [
      | None ↦ refl
      | Some register ↦ grind (arith, service_number)
    ]
