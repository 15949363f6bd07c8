-- The words of a line before its arrow.
use Rattle.std.proofs.Common.{◌≡◌, ℕ, ◌-◌, ◌<◌, Bool, true, false, nat_eq, cond, List, [], ◌∷◌, ◌++◌, length, take, codes, refl, ap, sym, ◌∙◌, subst, append_assoc, arith, Some, None, if◌then◌else◌}
use Rattle.std.specs.List.{onto_first}
use Rattle.std.proofs.lemmas.List.{append-nil, append_cancel_right, length-append}
use Rattle.std.proofs.Math.Seq.{take-append_seam}
use Rattle.std.proofs.lemmas.List.Splits.{length-slice_split}
use Rattle.script_text.specs.Words.{same_text, parts_of, more_words, BeginsWith}
use Rattle.transcript.specs.Reading.{before_arrow, behind_arrow}

onto-append : (x : ℕ) (ps qs : List (List ℕ)) → 0 < length ps → onto_first x (ps ++ qs) ≡ onto_first x ps ++ qs
onto-append x [] qs h = absurd (omega arith)
onto-append x (p ∷ ps) qs h = refl

-- a text with a space in it: the parts before it, and those behind it
parts-append : (xs ys : List ℕ) → parts_of 32 (xs ++ 32 ∷ ys) ≡ parts_of 32 xs ++ parts_of 32 ys
parts-append [] ys = refl
parts-append (x ∷ xs) ys = by (nat_eq x 32) (parts-append xs ys) (omega (arith, length-slice_split (λ b. nat_eq b 32) xs))
  where
    by : (b : Bool) → parts_of 32 (xs ++ 32 ∷ ys) ≡ parts_of 32 xs ++ parts_of 32 ys → 0 < length (parts_of 32 xs) →
        cond b ([] ∷ parts_of 32 (xs ++ 32 ∷ ys)) (onto_first x (parts_of 32 (xs ++ 32 ∷ ys))) ≡ cond b ([] ∷ parts_of 32 xs) (onto_first x (parts_of 32 xs)) ++ parts_of 32 ys
    by true rest some = ap (λ ps. [] ∷ ps) rest
    by false rest some = ap (onto_first x) rest ∙ onto-append x (parts_of 32 xs) (parts_of 32 ys) some

words-append : (xs ys : List ℕ) → more_words (xs ++ 32 ∷ ys) ≡ more_words xs ++ more_words (32 ∷ ys)
words-append [] ys = refl
words-append (x ∷ xs) ys = parts-append xs ys

-- a tail cut in two at a place where a tail begins
cut-words : (xs left : List ℕ) → BeginsWith 32 left → more_words (xs ++ left) ≡ more_words xs ++ more_words left
cut-words xs [] h = ap more_words (append-nil xs) ∙ sym (append-nil (more_words xs))
cut-words xs (b ∷ ys) h = subst (λ c. more_words (xs ++ c ∷ ys) ≡ more_words xs ++ more_words (c ∷ ys)) (sym h) (words-append xs ys)

front-of : (t a c : List ℕ) → t ≡ a ++ c → take (length t - length c) t ≡ a
front-of t a c e =
    let size : length (a ++ c) - length c ≡ length a = omega (arith, length-append a c) in
    subst (λ u. take (length u - length c) u ≡ a) (sym e) (ap (λ n. take n (a ++ c)) size ∙ take-append_seam a c)

-- a walk over the words of a tail stands at `left`, and no word before it is the arrow
pub record IsAt (tail left : List ℕ) : Type 0 where
  pub rest : take (length tail - length left) tail ++ left ≡ tail
  pub begins : BeginsWith 32 left
  pub before : before_arrow (more_words tail) ≡ more_words (take (length tail - length left) tail) ++ before_arrow (more_words left)
  pub behind : behind_arrow (more_words tail) ≡ behind_arrow (more_words left)

pub at-start : (tail : List ℕ) → BeginsWith 32 tail → IsAt tail tail
at-start tail h =
    let zero : length tail - length tail ≡ 0 = omega arith in
    let none : take (length tail - length tail) tail ≡ [] = ap (λ n. take n tail) zero in
    record {
      rest = ap (λ t. t ++ tail) none;
      begins = h;
      before = ap (λ t. more_words t ++ before_arrow (more_words tail)) (sym none);
      behind = refl;
    }

-- one word more
module _ (tail left word behind : List ℕ) (b : ℕ) (at : IsAt tail left) (whole : left ≡ b ∷ (word ++ behind))
    (words : more_words left ≡ word ∷ more_words behind) (begins : BeginsWith 32 behind) (other : same_text word (codes "->") ≡ false) where
  abbrev pre : List ℕ
  pre = take (length tail - length left) tail

  parts : tail ≡ (pre ++ b ∷ word) ++ behind
  parts = sym at.rest ∙ ap (λ t. pre ++ t) whole ∙ sym (append_assoc pre (b ∷ word) behind)

  front : take (length tail - length behind) tail ≡ pre ++ b ∷ word
  front = front-of tail (pre ++ b ∷ word) behind parts

  more : more_words (pre ++ b ∷ word) ≡ more_words pre ++ word ∷ []
  more = append_cancel_right (more_words (pre ++ b ∷ word)) (more_words pre ++ word ∷ []) (more_words behind)
      (sym (cut-words (pre ++ b ∷ word) behind begins) ∙ ap more_words (sym parts ∙ sym at.rest) ∙ cut-words pre left at.begins
      ∙ ap (λ ws. more_words pre ++ ws) words ∙ sym (append_assoc (more_words pre) (word ∷ []) (more_words behind)))

  pub at-next : IsAt tail behind
  at-next = record {
    rest = ap (λ t. t ++ behind) front ∙ sym parts;
    begins = begins;
    before = at.before ∙ ap (λ ws. more_words pre ++ before_arrow ws) words
        ∙ ap (λ t. more_words pre ++ (if t then [] else word ∷ before_arrow (more_words behind))) other
        ∙ sym (append_assoc (more_words pre) (word ∷ []) (before_arrow (more_words behind)))
        ∙ ap (λ ws. ws ++ before_arrow (more_words behind)) (sym more ∙ ap more_words (sym front));
    behind = at.behind ∙ ap behind_arrow words ∙ ap (λ t. if t then Some (more_words behind) else behind_arrow (more_words behind)) other;
  }

-- the arrow
pub before-found : (tail left word behind : List ℕ) → IsAt tail left → more_words left ≡ word ∷ more_words behind → same_text word (codes "->") ≡ true →
    more_words (take (length tail - length left) tail) ≡ before_arrow (more_words tail)
before-found tail left word behind at words same =
    let front = more_words (take (length tail - length left) tail) in
    sym (at.before ∙ ap (λ ws. front ++ before_arrow ws) words ∙ ap (λ t. front ++ (if t then [] else word ∷ before_arrow (more_words behind))) same ∙ append-nil front)

pub behind-found : (tail left word behind : List ℕ) → IsAt tail left → more_words left ≡ word ∷ more_words behind → same_text word (codes "->") ≡ true →
    behind_arrow (more_words tail) ≡ Some (more_words behind)
behind-found tail left word behind at words same =
    at.behind ∙ ap behind_arrow words ∙ ap (λ t. if t then Some (more_words behind) else behind_arrow (more_words behind)) same

-- no arrow
none-words : (ws : List (List ℕ)) (front : List (List ℕ)) → ws ≡ [] → front ++ ws ≡ front
none-words ws front e = ap (λ w. front ++ w) e ∙ append-nil front

pub before-none : (tail left : List ℕ) → IsAt tail left → more_words left ≡ [] → more_words tail ≡ before_arrow (more_words tail)
before-none tail left at none =
    let front = take (length tail - length left) tail in
    ap more_words (sym at.rest) ∙ cut-words front left at.begins ∙ none-words (more_words left) (more_words front) none
    ∙ sym (at.before ∙ ap (λ ws. more_words front ++ before_arrow ws) none ∙ append-nil (more_words front))

pub behind-none : (tail left : List ℕ) → IsAt tail left → more_words left ≡ [] → behind_arrow (more_words tail) ≡ None
behind-none tail left at none = at.behind ∙ ap behind_arrow none

pub ruleset arrow_rules = (at-start, before-found, behind-found, before-none, behind-none)
