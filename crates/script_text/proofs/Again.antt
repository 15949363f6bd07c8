-- A number's spelling is read as the number.
use Rattle.std.proofs.Common.{◌≡◌, ℕ, zero, suc, ◌+◌, ◌*◌, ◌/◌, ◌%◌, ◌^◌, ◌<◌, ◌≤◌, true, false, nat_eq, nat_lt, ◌&&◌, ◌||◌, max, List, [], ◌∷◌, length, get_or, Some, Ok, Err, if◌then◌else◌, inl, inr, refl, ap, sym, ◌∙◌, subst, lit<, arith}
use Rattle.std.specs.Prelude.{option_and_then, slice_index}
use Rattle.std.specs.Fmt.{decimal}
use Rattle.std.specs.Char.{digit_value}
use Rattle.std.specs.Str.Parse.{AllDigits, digits_value_after}
use Rattle.std.proofs.Math.Nat.{pow-le-pow_right, div-eq_of_lt, div-div-eq-div-mul, lt-div-mul-add}
use Rattle.std.proofs.lemmas.Nat.{pow-add}
use Rattle.std.proofs.lemmas.Bool.Decides.{nat_tests, Decides-eqb, eqb_tells}
use Rattle.std.proofs.lemmas.Str.{digit_value_digit}
use Rattle.std.proofs.lemmas.Str.Parse.{digit_from_value}
use Rattle.std.proofs.lemmas.Fmt.{decimal_is_IsNumeral, first_decimal, decimal_digit, decimal_nonempty}
use Rattle.irq_base.specs.declared.fault.LineCause.TheVariants.{Number}
use Rattle.script_text.specs.Numbers.{hex_value, hex_from, decimal_value, decimal_from, between, hex, decimal_in, hex_digit, hex_digits, hex_places, hex_text}

hex_value-digit : (v : ℕ) → v < 16 → hex_value (hex_digit v) ≡ Some v
hex_value-digit v below = grind (arith, nat_tests)

pub digits-suc : (k n : ℕ) → hex_digits (suc k) n ≡ hex_digit (n / 2 ^ (4 * k) % 16) ∷ hex_digits k n
unfolding hex_digits
digits-suc k n = refl

pub digits-zero : (n : ℕ) → hex_digits 0 n ≡ []
unfolding hex_digits
digits-zero n = refl

pub length-digits : (k n : ℕ) → length (hex_digits k n) ≡ k
length-digits zero n = ap length (digits-zero n)
length-digits (suc k) n = ap length (digits-suc k n) ∙ ap suc (length-digits k n)

-- the digits from a place on, and those below it
hex_from-digits : (k n : ℕ) → hex_from (n / 2 ^ (4 * k)) (hex_digits k n) ≡ Some n
hex_from-digits zero n = ap (hex_from (n / 1)) (digits-zero n) ∙ ap Some (omega arith)
hex_from-digits (suc k) n =
    let p = 2 ^ (4 * k) in
    let x = n / p in
    let v = x % 16 in
    let more : n / 2 ^ (4 * suc k) ≡ x / 16 = ap (λ m. n / m) (power k) ∙ sym (div-div-eq-div-mul n p 16) in
    ap (λ m. hex_from m (hex_digits (suc k) n)) more ∙ ap (hex_from (x / 16)) (digits-suc k n)
    ∙ ap (λ o. option_and_then (λ w. hex_from (16 * (x / 16) + w) (hex_digits k n)) o) (hex_value-digit v (omega arith))
    ∙ ap (λ m. hex_from m (hex_digits k n)) (parts x) ∙ hex_from-digits k n
  where
    power : (k : ℕ) → 2 ^ (4 * suc k) ≡ 2 ^ (4 * k) * 16
    power k = ap (λ m. 2 ^ m) (omega arith) ∙ pow-add 2 (4 * k) 4

    parts : (x : ℕ) → 16 * (x / 16) + x % 16 ≡ x
    parts x = omega arith

next_places : (k v : ℕ) → hex_places (suc k) v ≡ (if nat_eq (v / 2 ^ (4 * k)) 0 then hex_places k v else suc k)
unfolding hex_places
next_places k v = refl

no_places : (v : ℕ) → hex_places 0 v ≡ 0
unfolding hex_places
no_places v = refl

-- so many digits hold the number
places-enough : (k v : ℕ) → v / 2 ^ (4 * k) ≡ 0 → v / 2 ^ (4 * hex_places k v) ≡ 0
places-enough zero v h = ap (λ m. v / 2 ^ (4 * m)) (no_places v) ∙ h
places-enough (suc k) v h =
    elim (nat_eq (v / 2 ^ (4 * k)) 0) as (λ b. nat_eq (v / 2 ^ (4 * k)) 0 ≡ b → hex_places (suc k) v ≡ (if b then hex_places k v else suc k) → v / 2 ^ (4 * hex_places (suc k) v) ≡ 0) [
      | true ↦ λ none e. ap (λ m. v / 2 ^ (4 * m)) e ∙ places-enough k v ((Decides-eqb _ 0).0 none)
      | false ↦ λ _ e. ap (λ m. v / 2 ^ (4 * m)) e ∙ h
    ] refl (next_places k v)

places-few : (k v : ℕ) → hex_places k v ≤ k
places-few zero v = omega (arith, no_places v)
places-few (suc k) v =
    elim (nat_eq (v / 2 ^ (4 * k)) 0) as (λ b. hex_places (suc k) v ≡ (if b then hex_places k v else suc k) → hex_places (suc k) v ≤ suc k) [
      | true ↦ λ e. omega (arith, e, places-few k v)
      | false ↦ λ e. omega (arith, e)
    ] (next_places k v)

no-more : (j k v : ℕ) → v / 2 ^ (4 * j) ≡ 0 → j ≤ k → v / 2 ^ (4 * k) ≡ 0
no-more j k v h less =
    let most : 2 ^ (4 * j) ≤ 2 ^ (4 * k) = pow-le-pow_right {n = 2} (lit< tt) {i = 4 * j} {j = 4 * k} (omega arith) in
    let one : 2 ^ 0 ≤ 2 ^ (4 * j) = pow-le-pow_right {n = 2} (lit< tt) {i = 0} {j = 4 * j} (omega arith) in
    let near : v < 0 * 2 ^ (4 * j) + 2 ^ (4 * j) = subst (λ q. v < q * 2 ^ (4 * j) + 2 ^ (4 * j)) h (lt-div-mul-add {a = v} {b = 2 ^ (4 * j)} (omega (arith, one))) in
    let below : v < 2 ^ (4 * j) = omega (arith, near) in
    div-eq_of_lt (omega (arith, below, most))

pub in_range : (least most n : ℕ) → least ≤ n → n ≤ most → between least most (Some n) ≡ Ok n
in_range least most n above below = grind (arith, nat_tests, above, below)

pub hex-fits : (most : ℕ) (w : List ℕ) → 0 < length w → length w ≤ 16 → hex most w ≡ between 0 most (hex_from 0 w)
hex-fits most w some few = grind (arith, nat_tests, some, few)

-- what is spelled in hexadecimal is read
pub hex-again : (most width n : ℕ) → n ≤ most → n < 2 ^ 64 → 0 < width → width ≤ 16 → hex most (hex_text width n) ≡ Ok n
hex-again most width n below fits some few =
    let k = max width (hex_places 16 n) in
    let none : n / 2 ^ (4 * k) ≡ 0 = no-more (hex_places 16 n) k n (places-enough 16 n (div-eq_of_lt fits)) (omega arith) in
    let long : length (hex_digits k n) ≡ k = length-digits k n in
    hex-fits most (hex_digits k n) (omega (arith, long)) (omega (arith, long, places-few 16 n))
    ∙ ap (between 0 most) (ap (λ m. hex_from m (hex_digits k n)) (sym none) ∙ hex_from-digits k n) ∙ in_range 0 most n (omega arith) below

-- decimal digits
decimal_from-digits : (n : ℕ) (ds : List ℕ) → AllDigits 10 ds → decimal_from n ds ≡ Some (digits_value_after 10 n ds)
decimal_from-digits n [] h = refl
decimal_from-digits n (c ∷ cs) h =
    let range = digit_from_value c h.0 in
    let is = digit_value_digit c range in
    let value : decimal_value c ≡ Some (digit_value c) = value_is c (digit_value c) is h.0 in
    ap (option_and_then (λ v. decimal_from (10 * n + v) cs)) value ∙ ap (λ m. decimal_from m cs) (omega arith) ∙ decimal_from-digits (n * 10 + digit_value c) cs h.1
  where
    value_is : (c v : ℕ) → v + 48 ≡ c → v < 10 → decimal_value c ≡ Some v
    value_is c v is below = grind (arith, nat_tests)

plain-first : (ds : List ℕ) → 0 < length ds → 48 < get_or ds 0 0 → (nat_eq (length ds) 0 || (nat_lt 1 (length ds) && nat_eq (slice_index ds 0) 48)) ≡ false
plain-first ds some first = grind (arith, nat_tests, some, first)

plain-decimal : (n : ℕ) → n < 2 ^ 64 → (nat_eq (length (decimal n)) 0 || (nat_lt 1 (length (decimal n)) && nat_eq (slice_index (decimal n) 0) 48)) ≡ false
plain-decimal n fits = elim (eqb_tells n 0) [
  | inl h ↦ ap (λ ds. nat_eq (length ds) 0 || (nat_lt 1 (length ds) && nat_eq (slice_index ds 0) 48)) (ap decimal h.1 ∙ decimal_digit 0 (lit< tt))
  | inr h ↦ plain-first (decimal n) (decimal_nonempty n fits) (first_decimal n (positive n h.1) fits)
]
  where
    positive : (n : ℕ) → (n ≡ 0 → ⊥) → 0 < n
    positive n h = grind (arith, h)

-- what is spelled in decimal is read
pub decimal-again : (least most n : ℕ) → least ≤ n → n ≤ most → n < 2 ^ 64 → decimal_in least most (decimal n) ≡ Ok n
decimal-again least most n above below fits =
    let numeral = decimal_is_IsNumeral n fits in
    let plain : (nat_eq (length (decimal n)) 0 || (nat_lt 1 (length (decimal n)) && nat_eq (slice_index (decimal n) 0) 48)) ≡ false = plain-decimal n fits in
    ap (λ b. if b then Err Number else between least most (decimal_from 0 (decimal n))) plain
    ∙ ap (between least most) (decimal_from-digits 0 (decimal n) numeral.0.1 ∙ ap Some numeral.1) ∙ in_range least most n above below
