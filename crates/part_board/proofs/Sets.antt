-- Sets of callers.
use Rattle.std.proofs.Common.{◌≡◌, ◌<◌, ◌≤◌, ℕ, Bool, true, false, true≢false, not, ◌&&◌, ◌||◌, nat_eq, nat_lt, refl, sym, ap, ◌∙◌, subst, arith}
use Rattle.std.specs.FinSet as set
use Rattle.std.specs.FinSet.{contains-empty, contains-remove}
use Rattle.std.specs.Cmp.{nat_cmp_total, unsigned_tied}
use Rattle.std.specs.Ordering.{nat_cmp}
use Rattle.irq_bits.specs.Members.{Numbers, IsLeast}
use Rattle.irq_bits.specs.SetLemmas.{contains-insert_number}
use Rattle.irq_base.specs.declared.call.Caller.{Caller}
use Rattle.irq_base.specs.declared.call.Caller.TheVariants.{Device, Cpu}
use Rattle.part_slots.specs.Callers.{is_caller}
use Rattle.part_board.specs.declared.callers.Callers.{Callers}
use Rattle.part_board.specs.Callers.{has_caller, is_before, IsFirst}

contains-remove_number : (s : Numbers) (k n : ℕ) → set.contains (set.remove s k) n ≡ (not (nat_eq n k) && set.contains s n)
contains-remove_number s k n = contains-remove nat_cmp_total s k n ∙ ap (λ b. not b && set.contains s n) (unsigned_tied n k)

none_there : (s : Numbers) → s ≡ set.empty → (n : ℕ) → set.contains s n ≡ false
none_there s is n = ap (λ x. set.contains x n) is ∙ contains-empty nat_cmp n

-- the set with these processors and these devices
abbrev with_both : Numbers → Numbers → Callers
with_both cpus devices = record { cpus = cpus; devices = devices }

pub nobody : (cpus devices : Numbers) → cpus ≡ set.empty → devices ≡ set.empty → (c : Caller) → has_caller (with_both cpus devices) c ≡ false
nobody cpus devices p q (Cpu n) = none_there cpus p n
nobody cpus devices p q (Device d) = none_there devices q d

module _ (s : Callers) (t : Numbers) (n : ℕ) (caller : Caller) where
  pub cpu_in : caller ≡ Cpu n → t ≡ set.insert s.cpus n → (c : Caller) → has_caller (with_both t s.devices) c ≡ (is_caller c caller || has_caller s c)
  cpu_in is to (Cpu m) = ap (λ x. set.contains x m) to ∙ contains-insert_number s.cpus n m ∙ ap (λ k. is_caller (Cpu m) k || set.contains s.cpus m) (sym is)
  cpu_in is to (Device d) = ap (λ k. is_caller (Device d) k || set.contains s.devices d) (sym is)

  pub device_in : caller ≡ Device n → t ≡ set.insert s.devices n → (c : Caller) → has_caller (with_both s.cpus t) c ≡ (is_caller c caller || has_caller s c)
  device_in is to (Cpu m) = ap (λ k. is_caller (Cpu m) k || set.contains s.cpus m) (sym is)
  device_in is to (Device d) = ap (λ x. set.contains x d) to ∙ contains-insert_number s.devices n d ∙ ap (λ k. is_caller (Device d) k || set.contains s.devices d) (sym is)

  pub cpu_out : caller ≡ Cpu n → t ≡ set.remove s.cpus n → (c : Caller) → has_caller (with_both t s.devices) c ≡ (not (is_caller c caller) && has_caller s c)
  cpu_out is to (Cpu m) = ap (λ x. set.contains x m) to ∙ contains-remove_number s.cpus n m ∙ ap (λ k. not (is_caller (Cpu m) k) && set.contains s.cpus m) (sym is)
  cpu_out is to (Device d) = ap (λ k. not (is_caller (Device d) k) && set.contains s.devices d) (sym is)

  pub device_out : caller ≡ Device n → t ≡ set.remove s.devices n → (c : Caller) → has_caller (with_both s.cpus t) c ≡ (not (is_caller c caller) && has_caller s c)
  device_out is to (Cpu m) = ap (λ k. not (is_caller (Cpu m) k) && set.contains s.cpus m) (sym is)
  device_out is to (Device d) = ap (λ x. set.contains x d) to ∙ contains-remove_number s.devices n d ∙ ap (λ k. not (is_caller (Device d) k) && set.contains s.devices d) (sym is)

-- ---- the first

not_less : (s : Numbers) (n m : ℕ) → IsLeast s n → nat_lt m n ≡ true → set.contains s m ≡ false
not_less s n m least low = by_test (set.contains s m) refl
  where
    by_test : (t : Bool) → set.contains s m ≡ t → set.contains s m ≡ false
    by_test false is = is
    by_test true is = (let most : n ≤ m = least.no_less m is in let less : m < n = grind arith in absurd (omega arith))

pub first_cpu : (s : Callers) (n : ℕ) → IsLeast s.cpus n → IsFirst (has_caller s) (Cpu n)
first_cpu s n least = record { among = least.in_set; first = before }
  where
    before : (d : Caller) → is_before d (Cpu n) ≡ true → has_caller s d ≡ false
    before (Cpu m) low = not_less s.cpus n m least low
    before (Device d) low = absurd (true≢false (sym low))

pub first_device : (s : Callers) (n : ℕ) → s.cpus ≡ set.empty → IsLeast s.devices n → IsFirst (has_caller s) (Device n)
first_device s n none least = record { among = least.in_set; first = before }
  where
    before : (d : Caller) → is_before d (Device n) ≡ true → has_caller s d ≡ false
    before (Cpu m) low = none_there s.cpus none m
    before (Device d) low = not_less s.devices n d least low

pub nobody_there : (s : Callers) → s.cpus ≡ set.empty → s.devices ≡ set.empty → (c : Caller) → has_caller s c ≡ false
nobody_there s none no_device (Cpu n) = none_there s.cpus none n
nobody_there s none no_device (Device d) = none_there s.devices no_device d
