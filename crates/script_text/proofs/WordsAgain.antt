-- Words with one space between them are a line that is cut into these words.
use Rattle.std.proofs.Common.{◌≡◌, ℕ, zero, suc, max, ◌*◌, ◌/◌, ◌%◌, ◌^◌, ◌<◌, ◌≤◌, Bool, true, false, not, nat_eq, nat_le, ◌&&◌, ◌||◌, List, [], ◌∷◌, ◌++◌, length, refl, ap, ◌∙◌, All, arith}
use Rattle.std.specs.Fmt.{decimal}
use Rattle.std.specs.Str.Parse.{AllDigits}
use Rattle.std.specs.List.{list_all, list_any}
use Rattle.std.proofs.lemmas.Bool.Decides.{nat_tests}
use Rattle.std.proofs.lemmas.List.{append-nil}
use Rattle.std.proofs.lemmas.List.Elements.{All-cons, All-nil}
use Rattle.std.proofs.lemmas.List.Folds.{list_all-append}
use Rattle.std.proofs.lemmas.List.Splits.{slice_split_at, slice_split_none}
use Rattle.std.proofs.lemmas.Str.Parse.{digit_from_value}
use Rattle.std.proofs.lemmas.Fmt.{decimal_is_IsNumeral, decimal_nonempty}
use Rattle.script_text.specs.Words.{is_empty_word, words_of}
use Rattle.script_text.specs.Numbers.{hex_digit, hex_digits, hex_places, hex_text}
use Rattle.script_text.specs.Scripts.{is_printable}
use Rattle.script_text.specs.Spelling.{spaced}
use Rattle.script_text.proofs.Again.{digits-suc, digits-zero, length-digits}

-- a byte of a word: printable, and no space
abbrev pub is_graphic : ℕ → Bool
is_graphic b = nat_le 33 b && nat_le b 126

abbrev pub is_word : List ℕ → Bool
is_word word = not (is_empty_word word) && list_all is_graphic word

abbrev pub are_words : List (List ℕ) → Bool
are_words words = list_all is_word words

pub both-true : (a b : Bool) → a ≡ true → b ≡ true → (a && b) ≡ true
both-true a b h k = ap (λ x. x && b) h ∙ k

pub and-left : (a b : Bool) → (a && b) ≡ true → a ≡ true
and-left true b h = refl
and-left false b h = absurd (cc)

pub and-right : (a b : Bool) → (a && b) ≡ true → b ≡ true
and-right true b h = h
and-right false b h = absurd (cc)

no-space : (b : ℕ) → is_graphic b ≡ true → nat_eq b 32 ≡ false
no-space b h = grind (arith, nat_tests, h)

shown : (b : ℕ) → is_graphic b ≡ true → is_printable b ≡ true
shown b h = grind (arith, nat_tests, h)

all-no-space : (w : List ℕ) → list_all is_graphic w ≡ true → All (λ b. nat_eq b 32 ≡ false) w
all-no-space [] h = All-nil (λ (b : ℕ). nat_eq b 32 ≡ false)
all-no-space (b ∷ w) h = All-cons (λ (b : ℕ). nat_eq b 32 ≡ false) b w (no-space b (and-left _ _ h)) (all-no-space w (and-right _ _ h))

all-shown : (w : List ℕ) → list_all is_graphic w ≡ true → list_all is_printable w ≡ true
all-shown [] h = refl
all-shown (b ∷ w) h = both-true _ _ (shown b (and-left _ _ h)) (all-shown w (and-right _ _ h))

graphic-of : (w : List ℕ) → is_word w ≡ true → list_all is_graphic w ≡ true
graphic-of w h = and-right _ _ h

-- words are cut at the spaces between them
pub words-again : (w : List ℕ) (ws : List (List ℕ)) → is_word w ≡ true → are_words ws ≡ true → words_of (w ++ spaced ws) ≡ w ∷ ws
words-again w [] h hs = ap words_of (append-nil w) ∙ slice_split_none (λ b. nat_eq b 32) w (all-no-space w (graphic-of w h))
words-again w (v ∷ ws) h hs =
    slice_split_at (λ b. nat_eq b 32) w 32 (v ++ spaced ws) (all-no-space w (graphic-of w h)) refl
    ∙ ap (λ r. w ∷ r) (words-again v ws (and-left _ _ hs) (and-right _ _ hs))

-- no word of them is empty
not-empty : (a b : Bool) → (not a && b) ≡ true → a ≡ false
not-empty true b h = absurd (cc)
not-empty false b h = refl

pub none-empty : (ws : List (List ℕ)) → are_words ws ≡ true → list_any is_empty_word ws ≡ false
none-empty [] h = refl
none-empty (w ∷ ws) h =
    ap (λ b. b || list_any is_empty_word ws) (not-empty _ _ (and-left (is_word w) (are_words ws) h)) ∙ none-empty ws (and-right (is_word w) (are_words ws) h)

printable-spaced : (ws : List (List ℕ)) → are_words ws ≡ true → list_all is_printable (spaced ws) ≡ true
printable-spaced [] h = refl
printable-spaced (w ∷ ws) h =
    list_all-append is_printable w (spaced ws)
    ∙ both-true _ _ (all-shown w (graphic-of w (and-left (is_word w) (are_words ws) h))) (printable-spaced ws (and-right (is_word w) (are_words ws) h))

pub printable-joined : (w : List ℕ) (ws : List (List ℕ)) → is_word w ≡ true → are_words ws ≡ true → list_all is_printable (w ++ spaced ws) ≡ true
printable-joined w ws h hs = list_all-append is_printable w (spaced ws) ∙ both-true _ _ (all-shown w (graphic-of w h)) (printable-spaced ws hs)

-- a text of some bytes, none of which is a space or worse
pub word-of : (w : List ℕ) → 0 < length w → list_all is_graphic w ≡ true → is_word w ≡ true
word-of w some h = both-true _ _ (ap not (some-length (length w) some)) h
  where
    some-length : (n : ℕ) → 0 < n → nat_eq n 0 ≡ false
    some-length n h = grind (arith, nat_tests, h)

-- what is behind a word is a part of the word
pub word-append : (v w : List ℕ) → is_word v ≡ true → list_all is_graphic w ≡ true → is_word (v ++ w) ≡ true
word-append v w h g = word-of (v ++ w) (longer v w (some v h)) (list_all-append is_graphic v w ∙ both-true _ _ (graphic-of v h) g)
  where
    some : (v : List ℕ) → is_word v ≡ true → 0 < length v
    some [] h = absurd (cc)
    some (b ∷ v) h = omega arith

    longer : (v w : List ℕ) → 0 < length v → 0 < length (v ++ w)
    longer [] w h = absurd (omega (arith, h))
    longer (b ∷ v) w h = omega arith

-- numbers are words
digits-graphic : (ds : List ℕ) → AllDigits 10 ds → list_all is_graphic ds ≡ true
digits-graphic [] h = refl
digits-graphic (c ∷ cs) h = both-true _ _ (one c (digit_from_value c h.0)) (digits-graphic cs h.1)
  where
    one : (c : ℕ) → (48 ≤ c) × (c ≤ 57) → is_graphic c ≡ true
    one c h = grind (arith, nat_tests, h)

pub decimal-graphic : (n : ℕ) → n < 2 ^ 64 → list_all is_graphic (decimal n) ≡ true
decimal-graphic n fits = digits-graphic (decimal n) (decimal_is_IsNumeral n fits).0.1

pub decimal-word : (n : ℕ) → n < 2 ^ 64 → is_word (decimal n) ≡ true
decimal-word n fits = word-of (decimal n) (decimal_nonempty n fits) (decimal-graphic n fits)

pub hex-graphic : (k n : ℕ) → list_all is_graphic (hex_digits k n) ≡ true
hex-graphic zero n = ap (list_all is_graphic) (digits-zero n)
hex-graphic (suc k) n =
    ap (list_all is_graphic) (digits-suc k n) ∙ both-true _ _ (one (n / 2 ^ (4 * k) % 16) (omega arith)) (hex-graphic k n)
  where
    one : (v : ℕ) → v < 16 → is_graphic (hex_digit v) ≡ true
    one v h = grind (arith, nat_tests, h)

pub hex-word : (width n : ℕ) → 0 < width → is_word (hex_text width n) ≡ true
hex-word width n some = word-of (hex_text width n) (omega (arith, length-digits (max width (hex_places 16 n)) n)) (hex-graphic (max width (hex_places 16 n)) n)
