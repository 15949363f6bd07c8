-- Callers that are one.
use Rattle.std.proofs.Common.{◌≡◌, ℕ, Bool, true, false, nat_eq, refl, ap, sym, ◌∙◌, subst, arith}
use Rattle.std.proofs.lemmas.Bool.Decides.{nat_tests}
use Rattle.irq_base.specs.declared.call.Caller.{Caller}
use Rattle.irq_base.specs.declared.call.Caller.TheVariants.{Device, Cpu}
use Rattle.script_text.specs.Asks.{same_caller}

same_number : (a b : ℕ) → nat_eq a b ≡ true → a ≡ b
same_number a b h = grind (arith, nat_tests, h)

number_itself : (n : ℕ) → nat_eq n n ≡ true
number_itself n = grind (arith, nat_tests)

pub callers_same : (a b : Caller) → same_caller a b ≡ true → a ≡ b
callers_same (Device a) (Device b) h = ap (λ n. Device n) (same_number a b h)
callers_same (Cpu a) (Cpu b) h = ap (λ n. Cpu n) (same_number a b h)
callers_same (Device a) (Cpu b) h = absurd (cc)
callers_same (Cpu a) (Device b) h = absurd (cc)

pub caller_itself : (a : Caller) → same_caller a a ≡ true
caller_itself (Device n) = number_itself n
caller_itself (Cpu n) = number_itself n

pub same_callers : (a b : Caller) → a ≡ b → same_caller a b ≡ true
same_callers a b h = subst (λ (c : Caller). same_caller a c ≡ true) h (caller_itself a)

-- either way round
pub callers_apart : (a b : Caller) → same_caller a b ≡ false → same_caller b a ≡ false
callers_apart a b other = go (same_caller b a) (callers_same b a)
  where
    go : (t : Bool) → (t ≡ true → b ≡ a) → t ≡ false
    go true is = sym (same_callers a b (sym (is refl))) ∙ other
    go false is = refl
