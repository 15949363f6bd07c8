-- Rows that are spelled are read again.
use Rattle.std.proofs.Common.{◌≡◌, ℕ, zero, suc, max, ◌*◌, ◌/◌, ◌%◌, ◌^◌, ◌<◌, ◌≤◌, ◌⊎◌, Bool, true, false, not, nat_eq, List, [], ◌∷◌, ◌++◌, map, codes, Ok, refl, ap, ◌∙◌, inl, inr, All, arith}
use Rattle.std.specs.Fmt.{decimal}
use Rattle.std.specs.Str.Parse.{AllDigits}
use Rattle.std.specs.List.{list_all}
use Rattle.std.proofs.lemmas.Bool.Decides.{nat_tests}
use Rattle.std.proofs.lemmas.List.Elements.{All-cons, All-nil, All-head, All-tail}
use Rattle.std.proofs.lemmas.List.Folds.{list_all-append}
use Rattle.std.proofs.lemmas.List.Splits.{slice_split_at, slice_split_none}
use Rattle.std.proofs.lemmas.Str.Parse.{digit_from_value}
use Rattle.std.proofs.lemmas.Fmt.{decimal_is_IsNumeral}
use Rattle.irq_base.specs.declared.call.Row.{Row}
use Rattle.irq_base.specs.declared.call.Row.TheVariants.{Pic, Ioapic, Msi as MsiRow}
use Rattle.script_text.specs.Causes.{of_two, of_three}
use Rattle.script_text.specs.Words.{parts_of}
use Rattle.script_text.specs.Numbers.{hex_digit, hex_digits, hex_places, hex_text}
use Rattle.script_text.specs.Commands.{row, rows, row_parts, to_target, with_row}
use Rattle.script_text.specs.Spelling.{row_word}
use Rattle.script_text.specs.Fitting.{FitsRow}
use Rattle.script_text.proofs.Again.{digits-suc, digits-zero}
use Rattle.script_text.proofs.WordsAgain.{is_word, are_words, is_graphic, both-true, and-left, and-right, decimal-graphic, hex-graphic, word-append}
use Rattle.script_text.proofs.CommandsAgain.{number16-again, number8-again, hex64-again, hex32-again, word16}

-- the text has no such byte
abbrev apart : ℕ → List ℕ → Bool
apart mark w = list_all (λ b. not (nat_eq b mark)) w

not-true : (b : Bool) → not b ≡ true → b ≡ false
not-true true h = absurd (cc)
not-true false h = refl

all-apart : (mark : ℕ) (w : List ℕ) → apart mark w ≡ true → All (λ b. nat_eq b mark ≡ false) w
all-apart mark [] h = All-nil (λ (b : ℕ). nat_eq b mark ≡ false)
all-apart mark (b ∷ w) h = All-cons (λ (b : ℕ). nat_eq b mark ≡ false) b w (not-true _ (and-left _ _ h)) (all-apart mark w (and-right _ _ h))

-- a point, or an equals sign
abbrev IsMark : ℕ → Type 0
IsMark mark = (mark ≡ 46) ⊎ (mark ≡ 61)

digits-apart : (mark : ℕ) (ds : List ℕ) → IsMark mark → AllDigits 10 ds → apart mark ds ≡ true
digits-apart mark [] is h = refl
digits-apart mark (c ∷ cs) is h = both-true _ _ (one c (digit_from_value c h.0) is) (digits-apart mark cs is h.1)
  where
    one : (c : ℕ) → (48 ≤ c) × (c ≤ 57) → IsMark mark → not (nat_eq c mark) ≡ true
    one c h (inl e) = grind (arith, nat_tests, h, e)
    one c h (inr e) = grind (arith, nat_tests, h, e)

decimal-apart : (mark n : ℕ) → IsMark mark → n < 2 ^ 64 → apart mark (decimal n) ≡ true
decimal-apart mark n is fits = digits-apart mark (decimal n) is (decimal_is_IsNumeral n fits).0.1

hex-apart : (mark k n : ℕ) → IsMark mark → apart mark (hex_digits k n) ≡ true
hex-apart mark zero n is = ap (apart mark) (digits-zero n)
hex-apart mark (suc k) n is =
    ap (apart mark) (digits-suc k n) ∙ both-true _ _ (one (n / 2 ^ (4 * k) % 16) (omega arith) is) (hex-apart mark k n is)
  where
    one : (v : ℕ) → v < 16 → IsMark mark → not (nat_eq (hex_digit v) mark) ≡ true
    one v h (inl e) = grind (arith, nat_tests, h, e)
    one v h (inr e) = grind (arith, nat_tests, h, e)

point : IsMark 46
point = inl refl

equals : IsMark 61
equals = inr refl

-- a text with such a byte after it, and one without
cut-once : (mark : ℕ) (v w : List ℕ) → apart mark v ≡ true → nat_eq mark mark ≡ true → parts_of mark (v ++ mark ∷ w) ≡ v ∷ parts_of mark w
cut-once mark v w h same = slice_split_at (λ b. nat_eq b mark) v mark w (all-apart mark v h) same

cut-never : (mark : ℕ) (w : List ℕ) → apart mark w ≡ true → parts_of mark w ≡ w ∷ []
cut-never mark w h = slice_split_none (λ b. nat_eq b mark) w (all-apart mark w h)

-- a GSI and a target, which has no equals sign
row-cut : (gsi : ℕ) (target : List ℕ) → gsi < 2 ^ 16 → apart 61 target ≡ true → row (decimal gsi ++ 61 ∷ target) ≡ to_target (decimal gsi) (parts_of 46 target)
row-cut gsi target g h =
    ap row_parts (cut-once 61 (decimal gsi) target (decimal-apart 61 gsi equals (omega (arith, g))) refl ∙ ap (λ ps. decimal gsi ∷ ps) (cut-never 61 target h))

pin-cut : (kind : List ℕ) (n : ℕ) → n < 2 ^ 8 → apart 46 kind ≡ true → parts_of 46 (kind ++ 46 ∷ decimal n) ≡ kind ∷ decimal n ∷ []
pin-cut kind n h k = cut-once 46 kind (decimal n) k refl ∙ ap (λ ps. kind ∷ ps) (cut-never 46 (decimal n) (decimal-apart 46 n point (omega (arith, h))))

row-again : (r : Row) → FitsRow r → row (row_word r) ≡ Ok r
row-again (Pic gsi n) h =
    row-cut gsi (codes "pic." ++ decimal n) h.0 (decimal-apart 61 n equals (omega (arith, h.1)))
    ∙ ap (to_target (decimal gsi)) (pin-cut (codes "pic") n h.1 refl) ∙ (λ i. of_two (λ g n. Pic g n) (number16-again gsi h.0 i) (number8-again n h.1 i))
row-again (Ioapic gsi n) h =
    row-cut gsi (codes "io." ++ decimal n) h.0 (decimal-apart 61 n equals (omega (arith, h.1)))
    ∙ ap (to_target (decimal gsi)) (pin-cut (codes "io") n h.1 refl) ∙ (λ i. of_two (λ g n. Ioapic g n) (number16-again gsi h.0 i) (number8-again n h.1 i))
row-again (MsiRow gsi address payload) h =
    let a = hex_text 8 address in
    let p = hex_text 8 payload in
    let a61 : apart 61 a ≡ true = hex-apart 61 (max 8 (hex_places 16 address)) address equals in
    let p61 : apart 61 p ≡ true = hex-apart 61 (max 8 (hex_places 16 payload)) payload equals in
    let a46 : apart 46 a ≡ true = hex-apart 46 (max 8 (hex_places 16 address)) address point in
    let p46 : apart 46 p ≡ true = hex-apart 46 (max 8 (hex_places 16 payload)) payload point in
    row-cut gsi (codes "msi." ++ (a ++ 46 ∷ p)) h.0 (list_all-append (λ b. not (nat_eq b 61)) a (46 ∷ p) ∙ both-true _ _ a61 p61)
    ∙ ap (to_target (decimal gsi)) (cut-once 46 (codes "msi") (a ++ 46 ∷ p) refl refl ∙ ap (λ ps. codes "msi" ∷ ps) (cut-once 46 a p a46 refl ∙ ap (λ ps. a ∷ ps) (cut-never 46 p p46)))
    ∙ (λ i. of_three (λ g a p. MsiRow g a p) (number16-again gsi h.0 i) (hex64-again 8 address (omega arith) (omega arith) h.1 i) (hex32-again 8 payload (omega arith) (omega arith) h.2 i))

pub rows-again : (rs : List Row) → All FitsRow rs → rows (map row_word rs) ≡ Ok rs
rows-again [] h = refl
rows-again (r ∷ rs) h = λ i. with_row (row-again r (All-head FitsRow r rs h) i) (rows-again rs (All-tail FitsRow r rs h) i)

row-is : (r : Row) → FitsRow r → is_word (row_word r) ≡ true
row-is (Pic gsi n) h = word-append (decimal gsi) (codes "=pic." ++ decimal n) (word16 gsi h.0) (decimal-graphic n (omega (arith, h.1)))
row-is (Ioapic gsi n) h = word-append (decimal gsi) (codes "=io." ++ decimal n) (word16 gsi h.0) (decimal-graphic n (omega (arith, h.1)))
row-is (MsiRow gsi address payload) h =
    let a = hex_text 8 address in
    let p = hex_text 8 payload in
    word-append (decimal gsi) (codes "=msi." ++ (a ++ 46 ∷ p)) (word16 gsi h.0)
    (list_all-append is_graphic a (46 ∷ p) ∙ both-true _ _ (hex-graphic (max 8 (hex_places 16 address)) address) (hex-graphic (max 8 (hex_places 16 payload)) payload))

pub rows-are : (rs : List Row) → All FitsRow rs → are_words (map row_word rs) ≡ true
rows-are [] h = refl
rows-are (r ∷ rs) h = both-true _ _ (row-is r (All-head FitsRow r rs h)) (rows-are rs (All-tail FitsRow r rs h))
