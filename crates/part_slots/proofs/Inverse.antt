-- Numbers of callers, and places of parts.
use Rattle.std.proofs.Common.{◌≡◌, ◌≢◌, ℕ, zero, suc, ◌+◌, ◌*◌, Bool, true, false, nat_eq, refl, ap, ◌∙◌, arith}
use Rattle.irq_base.specs.declared.call.Caller.{Caller}
use Rattle.irq_base.specs.declared.call.Caller.TheVariants.{Device, Cpu}
use Rattle.irq_base.specs.declared.shape.Part.{Part}
use Rattle.irq_base.specs.declared.shape.Part.TheVariants.{Registry, Counters, Tick, Pic, Ioapic, Lapic}
use Rattle.part_slots.specs.Callers.{is_caller, caller_number, next_caller, caller_at, CallersAreNumbers}
use Rattle.part_slots.specs.Slots.{place, part_at, PartsHavePlaces}
use Rattle.part_slots.specs.declared.numbers.TheConstants.{FIXED_PARTS}

device_back : (d : ℕ) → caller_at (d * 2) ≡ Device d
device_back zero = refl
device_back (suc d) = ap caller_at (let e : suc d * 2 ≡ suc (suc (d * 2)) = omega arith in e) ∙ ap next_caller (device_back d)

cpu_back : (n : ℕ) → caller_at (n * 2 + 1) ≡ Cpu n
cpu_back zero = refl
cpu_back (suc n) = ap caller_at (let e : suc n * 2 + 1 ≡ suc (suc (n * 2 + 1)) = omega arith in e) ∙ ap next_caller (cpu_back n)

next_number : (c : Caller) → caller_number (next_caller c) ≡ suc (suc (caller_number c))
next_number (Device d) = omega arith
next_number (Cpu n) = omega arith

number_back : (k : ℕ) → caller_number (caller_at k) ≡ k
number_back zero = refl
number_back (suc zero) = refl
number_back (suc (suc k)) = next_number (caller_at k) ∙ ap (λ n. suc (suc n)) (number_back k)

-- two tests that hold together are equal
same_test : (a b c d : ℕ) → (a ≡ b → c ≡ d) → (c ≡ d → a ≡ b) → nat_eq a b ≡ nat_eq c d
same_test a b c d there back = by_tests (nat_eq a b) (nat_eq c d) refl refl
  where
    by_tests : (s t : Bool) → nat_eq a b ≡ s → nat_eq c d ≡ t → s ≡ t
    by_tests true true p q = refl
    by_tests false false p q = refl
    by_tests true false p q = let e : a ≡ b = grind arith in let f = there e in let no : ⊥ = grind arith in absurd no
    by_tests false true p q = let e : c ≡ d = grind arith in let f = back e in let no : ⊥ = grind arith in absurd no

numbers_apart : (c d : Caller) → nat_eq (caller_number c) (caller_number d) ≡ is_caller c d
numbers_apart (Device c) (Device d) = same_test (c * 2) (d * 2) c d (λ e. omega arith) (λ e. omega arith)
numbers_apart (Cpu c) (Cpu d) = same_test (c * 2 + 1) (d * 2 + 1) c d (λ e. omega arith) (λ e. omega arith)
numbers_apart (Device c) (Cpu d) = let no : c * 2 ≢ d * 2 + 1 = (λ e. omega arith) in grind arith
numbers_apart (Cpu c) (Device d) = let no : c * 2 + 1 ≢ d * 2 = (λ e. omega arith) in grind arith

pub callers_are_numbers : CallersAreNumbers
callers_are_numbers = record { caller = of_caller; number = number_back; apart = numbers_apart }
  where
    of_caller : (c : Caller) → caller_at (caller_number c) ≡ c
    of_caller (Device d) = device_back d
    of_caller (Cpu n) = cpu_back n

pub five_more : (n : ℕ) → n + FIXED_PARTS ≡ suc (suc (suc (suc (suc n))))
five_more n = omega arith

pub part_back : (p : Part) → part_at (place p) ≡ p
part_back Registry = refl
part_back Counters = refl
part_back Tick = refl
part_back Pic = refl
part_back Ioapic = refl
part_back (Lapic n) = ap part_at (five_more n)

pub place_back : (k : ℕ) → place (part_at k) ≡ k
place_back zero = refl
place_back (suc zero) = refl
place_back (suc (suc zero)) = refl
place_back (suc (suc (suc zero))) = refl
place_back (suc (suc (suc (suc zero)))) = refl
place_back (suc (suc (suc (suc (suc n))))) = five_more n

pub parts_have_places : PartsHavePlaces
parts_have_places = record { part = part_back; place = place_back }
