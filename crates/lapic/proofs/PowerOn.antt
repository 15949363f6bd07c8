-- What the registers load at power-on: no vector is requested or in service.
use Rattle.std.proofs.Common.{◌≡◌, ℕ, ◌+◌, ◌*◌, ◌^◌, List, [], ◌∷◌, ◌++◌, map, if◌then◌else◌, ◌==◌, None, refl}
use Rattle.std.specs.Ordering.{nat_cmp}
use Rattle.std.specs.FinSet as set
use Rattle.std.specs.FinSet.{contains-empty}
use Rattle.irq_bits.specs.Members.{number_of, row_of, greatest_vector}
use Rattle.irq_bits.specs.SetLemmas.{greatest_vector-empty}
use Rattle.reg_table.specs.Rows.{ResetsAreReadable}
use Rattle.lapic.specs.Registers.{all_registers, register_at, register_rows}
use Rattle.lapic.specs.Priority.{priority_over}
use Rattle.lapic.specs.Offsets.{RegistersStartAsTold}

no_word : (k : ℕ) → row_of k set.empty ≡ 0
unfolding number_of
no_word k i = number_of 32 (λ j. contains-empty nat_cmp (32 * k + j) i)

no_vector : greatest_vector set.empty ≡ None
no_vector = greatest_vector-empty set.empty refl

pub registers_start_as_told : (number : ℕ) → RegistersStartAsTold number
unfolding all_registers register_at
registers_start_as_told number i =
    number * 2 ^ 24 ∷ 0x00050014 ∷ 0 ∷ priority_over 0 (no_vector i) ∷ 0 ∷ 0 ∷ 0xffffffff ∷ 0x000000ff ∷ (map (λ k. no_word k i) eight ++ (map (λ k. no_word k i) eight ++ (map (λ k. no_word k i) eight ++ rest)))
  where
    eight : List ℕ
    eight = 0 ∷ 1 ∷ 2 ∷ 3 ∷ 4 ∷ 5 ∷ 6 ∷ 7 ∷ []

    rest : List ℕ
    rest =
        0 ∷ 0x00010000 ∷ 0 ∷ 0 ∷ 0x00010000 ∷ 0x00010000 ∷ 0x00010000 ∷ (if number == 0 then 0x00000700 else 0x00010000)
        ∷ 0x00010000 ∷ 0x00010000 ∷ []

pub resets_are_readable : ResetsAreReadable register_rows
unfolding all_registers
resets_are_readable = refl

pub ruleset power_on_rules = (registers_start_as_told, resets_are_readable)
