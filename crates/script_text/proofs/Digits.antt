-- Digits one after another.
use Rattle.std.proofs.Common.{◌≡◌, ℕ, suc, ◌+◌, ◌*◌, ◌/◌, ◌%◌, ◌^◌, ◌<◌, ◌≤◌, List, [], ◌∷◌, ◌++◌, true, false, nat_eq, drop, length, get_or, drop-cons, refl, ap, sym, ◌∙◌, append_assoc, add-one, ◌-◌, if◌then◌else◌, lit<, arith, Some, None, Err}
use Rattle.std.specs.Prelude.{option_and_then}
use Rattle.std.proofs.lemmas.List.{append-nil}
use Rattle.std.specs.declared.option.Option.{Option}
use Rattle.std.proofs.Math.Nat.{pow-le-pow_right}
use Rattle.std.proofs.lemmas.Bool.Decides.{nat_tests}
use Rattle.std.proofs.lemmas.Grind.{pow_more}
use Rattle.irq_base.specs.declared.fault.LineCause.TheVariants.{Number}
use Rattle.script_text.specs.Numbers.{hex_value, hex_from, decimal_value, decimal_from, between, hex_digit, hex_digits, hex_places}

-- a number of i digits with one digit more, and the room for it
pub hex_bound : (i n v : ℕ) → n < 16 ^ i → v < 16 → 16 * n + v < 16 ^ (i + 1)
hex_bound i n v below digit = omega (arith, pow_more 16 i, below, digit)

pub hex_fits : (i n : ℕ) → i < 16 → n < 16 ^ i → n < 16 ^ 15
hex_fits i n few below =
    let most : 16 ^ i ≤ 16 ^ 15 = pow-le-pow_right {n = 16} (lit< tt) {i = i} {j = 15} (omega arith) in
    omega (arith, most, below)

-- one digit more
pub hex_from-step : (bs : List ℕ) (k n d : ℕ) → k < length bs → hex_from n (drop k bs) ≡ option_and_then (λ v. hex_from (16 * n + v) (drop (k + 1) bs)) (hex_value (get_or bs k d))
hex_from-step bs k n d below = ap (hex_from n) (drop-cons bs k d below ∙ ap (λ m. get_or bs k d ∷ drop m bs) (sym (add-one k)))

pub ruleset hex_rules = (hex_from-step, hex_bound, hex_fits)

pub decimal_from-step : (bs : List ℕ) (k n d : ℕ) → k < length bs → decimal_from n (drop k bs) ≡ option_and_then (λ v. decimal_from (10 * n + v) (drop (k + 1) bs)) (decimal_value (get_or bs k d))
decimal_from-step bs k n d below = ap (decimal_from n) (drop-cons bs k d below ∙ ap (λ m. get_or bs k d ∷ drop m bs) (sym (add-one k)))

-- digits only make a number greater
pub too_great : (least most n : ℕ) (bs : List ℕ) → most < n → between least most (decimal_from n bs) ≡ Err Number
too_great least most n [] above = grind (arith, nat_tests)
too_great least most n (b ∷ bs) above =
    go (decimal_value b) (λ v. too_great least most (10 * n + v) bs (omega (arith, above)))
  where
    go : (o : Option ℕ) → ((v : ℕ) → between least most (decimal_from (10 * n + v) bs) ≡ Err Number) → between least most (option_and_then (λ v. decimal_from (10 * n + v) bs) o) ≡ Err Number
    go None h = refl
    go (Some v) h = h v

pub ruleset decimal_rules = (decimal_from-step, too_great)

-- the highest of k digits, and those below it
pub hex_digits-step : (text : List ℕ) (k n : ℕ) → 0 < k → (text ++ hex_digit (n / 2 ^ (4 * (k - 1)) % 16) ∷ []) ++ hex_digits (k - 1) n ≡ text ++ hex_digits k n
unfolding hex_digits
hex_digits-step text k n some =
    let e : k ≡ suc (k - 1) = omega arith in
    append_assoc text (hex_digit (n / 2 ^ (4 * (k - 1)) % 16) ∷ []) (hex_digits (k - 1) n) ∙ ap (λ m. text ++ hex_digits m n) (sym e)

pub hex_digits-none : (text : List ℕ) (n : ℕ) → text ++ hex_digits 0 n ≡ text
unfolding hex_digits
hex_digits-none text n = append-nil text

pub ruleset digit_rules = (hex_digits-step, hex_digits-none)

pub hex_places-none : (n : ℕ) → hex_places 0 n ≡ 0
unfolding hex_places
hex_places-none n = refl

hex_places-step : (k n : ℕ) → hex_places (suc k) n ≡ (if nat_eq (n / 2 ^ (4 * k)) 0 then hex_places k n else suc k)
unfolding hex_places
hex_places-step k n = refl

-- the highest of k digits is 0, or it is the first
pub hex_places-zero : (k n : ℕ) → 0 < k → nat_eq (n / 2 ^ (4 * (k - 1))) 0 ≡ true → hex_places (k - 1) n ≡ hex_places k n
hex_places-zero k n some h =
    let e : k ≡ suc (k - 1) = omega arith in
    sym (ap (λ m. hex_places m n) e ∙ hex_places-step (k - 1) n ∙ ap (λ b. if b then hex_places (k - 1) n else suc (k - 1)) h)

pub hex_places-first : (k n : ℕ) → 0 < k → nat_eq (n / 2 ^ (4 * (k - 1))) 0 ≡ false → k ≡ hex_places k n
hex_places-first k n some h =
    let e : k ≡ suc (k - 1) = omega arith in
    sym (ap (λ m. hex_places m n) e ∙ hex_places-step (k - 1) n ∙ ap (λ b. if b then hex_places (k - 1) n else suc (k - 1)) h ∙ sym e)

pub ruleset place_rules = (hex_places-none, hex_places-zero, hex_places-first)
