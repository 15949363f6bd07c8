-- Which pins a source may hold, and that a message leaves the number of a local APIC.
use Rattle.board_step.proofs.Basics.{◌≡◌, ℕ, ◌<◌, true, false, not, nat_lt, if◌then◌else◌, Some, refl, Message, Source, Resample, Targets, LocalApic, is_enabled, is_nmi, accepted, with_error, with_request, RegistryPart, HasResampler, Pin}

-- a message leaves the number
pub accepted_number : (a : LocalApic) (m : Message) → (accepted a m).number ≡ a.number
accepted_number a m = elim (is_nmi m.mode) as (λ t. (if t then record a { nmi = true } else if not (is_enabled a) then a else if nat_lt m.vector 16 then with_error a 6 else with_request a m).number ≡ a.number) [
  | true ↦ refl
  | false ↦ elim (is_enabled a) as (λ t. (if not t then a else if nat_lt m.vector 16 then with_error a 6 else with_request a m).number ≡ a.number) [
    | true ↦ elim (nat_lt m.vector 16) as (λ t. (if t then with_error a 6 else with_request a m).number ≡ a.number) [ true ↦ refl | false ↦ refl ]
    | false ↦ refl
  ]
]

-- pins that a source may hold: they are there, and where it is a resampler their GSI has one
pub record MayHold (r : RegistryPart) (targets : Targets) (source : Source) : Type 0 where
  pub pic : (pin : ℕ) → targets.pic ≡ Some pin → (pin < 16) × (source ≡ Resample → HasResampler r (Pin.Pic pin))
  pub ioapic : (pin : ℕ) → targets.ioapic ≡ Some pin → (pin < 24) × (source ≡ Resample → HasResampler r (Pin.Ioapic pin))
