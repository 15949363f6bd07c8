-- Pending bits that are cleared one after another.
use Rattle.std.proofs.Common.{◌≡◌, ℕ, zero, suc, Bool, true, false, not, ◌&&◌, ◌||◌, nat_eq, if◌then◌else◌, List, [], ◌∷◌, ◌++◌, get_or, set, refl, sym, ap, ◌∙◌, arith}
use Rattle.std.proofs.lemmas.Bool.Decides.{nat_tests}
use Rattle.std.proofs.lemmas.List.Sums.{fold_push}
use Rattle.msix_function.specs.Functions.{is_pending_at, is_held, is_due, cleared, all_cleared}
use Rattle.msix_function.specs.declared.function.Function.{Function}

-- a number is one of these
abbrev pub is_in : ℕ → List ℕ → Bool
is_in k [] = false
is_in k (n ∷ ns) = nat_eq n k || is_in k ns

-- these bits are cleared
abbrev pub bits_cleared : List Bool → List ℕ → List Bool
bits_cleared bits [] = bits
bits_cleared bits (k ∷ ks) = bits_cleared (set bits k false) ks

off : (t : Bool) → false ≡ (if t then false else false)
off true = refl
off false = refl

pub suc_same : (k j : ℕ) → nat_eq k j ≡ nat_eq (suc k) (suc j)
suc_same k j = grind (arith, nat_tests)

-- a bit after another or itself is cleared
cleared_bit : (bits : List Bool) (k j : ℕ) → get_or (set bits k false) j false ≡ (if nat_eq k j then false else get_or bits j false)
cleared_bit [] k j = off (nat_eq k j)
cleared_bit (b ∷ bits) zero zero = refl
cleared_bit (b ∷ bits) zero (suc j) = let differ : nat_eq 0 (suc j) ≡ false = grind (arith, nat_tests) in ap (λ t. if t then false else get_or bits j false) (sym differ)
cleared_bit (b ∷ bits) (suc k) zero = let differ : nat_eq (suc k) 0 ≡ false = grind (arith, nat_tests) in ap (λ t. if t then false else b) (sym differ)
cleared_bit (b ∷ bits) (suc k) (suc j) =
    let same : nat_eq k j ≡ nat_eq (suc k) (suc j) = suc_same k j in
    cleared_bit bits k j ∙ ap (λ t. if t then false else get_or bits j false) same

either : (s t : Bool) (b : Bool) → (if s then false else if t then false else b) ≡ (if t || s then false else b)
either true true b = refl
either true false b = refl
either false true b = refl
either false false b = refl

-- a bit is as it was, or cleared where its number is one of these
pub bit_after : (bits : List Bool) (ks : List ℕ) (j : ℕ) → get_or (bits_cleared bits ks) j false ≡ (if is_in j ks then false else get_or bits j false)
bit_after bits [] j = refl
bit_after bits (k ∷ ks) j =
    bit_after (set bits k false) ks j ∙ ap (λ b. if is_in j ks then false else b) (cleared_bit bits k j) ∙ either (is_in j ks) (nat_eq k j) (get_or bits j false)

module _ {N : ℕ} where
  -- all but the pending bits stay
  pub all_cleared_is : (f : Function N) (ks : List ℕ) → all_cleared f ks ≡ record f { is_pending = bits_cleared f.is_pending ks }
  all_cleared_is f [] = refl
  all_cleared_is f (k ∷ ks) = all_cleared_is (cleared f k) ks

  pub pending_after : (f : Function N) (ks : List ℕ) (j : ℕ) → is_pending_at (all_cleared f ks) j ≡ (if is_in j ks then false else is_pending_at f j)
  pending_after f ks j = ap (λ (g : Function N). is_pending_at g j) (all_cleared_is f ks) ∙ bit_after f.is_pending ks j

  -- what is due and not among them is due still
  pub due_still : (f now : Function N) (ks : List ℕ) (k : ℕ) → now ≡ all_cleared f ks → is_in k ks ≡ false → is_due now k ≡ is_due f k
  due_still f now ks k is out =
      ap (λ (g : Function N). is_due g k) (is ∙ all_cleared_is f ks)
      ∙ ap (λ b. f.enabled && (b && not (is_held f k))) (bit_after f.is_pending ks k ∙ ap (λ t. if t then false else is_pending_at f k) out)

  -- one more is cleared
  pub cleared_next : (f now : Function N) (ks : List ℕ) (k : ℕ) → now ≡ all_cleared f ks → cleared now k ≡ all_cleared f (ks ++ k ∷ [])
  cleared_next f now ks k is = ap (λ (g : Function N). cleared g k) is ∙ sym (fold_push cleared f ks k)
