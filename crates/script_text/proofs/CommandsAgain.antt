-- A call that is spelled is read again.
use Rattle.std.proofs.Common.{◌≡◌, ℕ, ◌^◌, ◌<◌, ◌≤◌, Bool, true, false, List, ◌∷◌, codes, Some, None, Ok, refl, ap, arith}
use Rattle.std.specs.Fmt.{decimal}
use Rattle.std.specs.declared.option.Option.{Option}
use Rattle.irq_base.specs.declared.call.Call.{Call}
use Rattle.irq_base.specs.declared.call.Call.TheVariants.{Attach, Detach}
use Rattle.irq_base.specs.declared.call.Space.{Space}
use Rattle.irq_base.specs.declared.call.Space.TheVariants.{Port, Memory}
use Rattle.script_text.specs.Causes.{of_two, of_five}
use Rattle.script_text.specs.Words.{same_text}
use Rattle.script_text.specs.Numbers.{hex_text, value_width, hex64, hex32, hex16, number64, number16, number8}
use Rattle.script_text.specs.Commands.{command, optional, level, switch}
use Rattle.script_text.specs.Spelling.{call_words, resample_words, match_words, binding_words, level_word, switch_word}
use Rattle.script_text.specs.Fitting.{FitsIfThere}
use Rattle.script_text.proofs.Again.{hex-again, decimal-again}
use Rattle.script_text.proofs.WordsAgain.{is_word, are_words, both-true, decimal-word, hex-word}

-- numbers of each kind
pub number64-again : (n : ℕ) → n < 2 ^ 64 → number64 (decimal n) ≡ Ok n
number64-again n h = decimal-again 0 0xffffffffffffffff n (omega arith) (omega (arith, h)) h

pub number16-again : (n : ℕ) → n < 2 ^ 16 → number16 (decimal n) ≡ Ok n
number16-again n h = decimal-again 0 0xffff n (omega arith) (omega (arith, h)) (omega (arith, h))

pub number8-again : (n : ℕ) → n < 2 ^ 8 → number8 (decimal n) ≡ Ok n
number8-again n h = decimal-again 0 0xff n (omega arith) (omega (arith, h)) (omega (arith, h))

pub hex64-again : (width n : ℕ) → 0 < width → width ≤ 16 → n < 2 ^ 64 → hex64 (hex_text width n) ≡ Ok n
hex64-again width n some few h = hex-again 0xffffffffffffffff width n (omega (arith, h)) h some few

pub hex32-again : (width n : ℕ) → 0 < width → width ≤ 16 → n < 2 ^ 32 → hex32 (hex_text width n) ≡ Ok n
hex32-again width n some few h = hex-again 0xffffffff width n (omega (arith, h)) (omega (arith, h)) some few

pub hex16-again : (width n : ℕ) → 0 < width → width ≤ 16 → n < 2 ^ 16 → hex16 (hex_text width n) ≡ Ok n
hex16-again width n some few h = hex-again 0xffff width n (omega (arith, h)) (omega (arith, h)) some few

pub width-fits : (len : ℕ) → (0 < value_width len) × (value_width len ≤ 16)
width-fits len = (omega arith, omega arith)

pub word16 : (n : ℕ) → n < 2 ^ 16 → is_word (decimal n) ≡ true
word16 n h = decimal-word n (omega (arith, h))

pub word8 : (n : ℕ) → n < 2 ^ 8 → is_word (decimal n) ≡ true
word8 n h = decimal-word n (omega (arith, h))

-- fixed words
pub level-again : (up : Bool) → level (level_word up) ≡ Ok up
level-again true = refl
level-again false = refl

pub level-is : (up : Bool) → is_word (level_word up) ≡ true
level-is true = refl
level-is false = refl

pub switch-again : (on : Bool) → switch (switch_word on) ≡ Ok on
switch-again true = refl
switch-again false = refl

pub switch-is : (on : Bool) → is_word (switch_word on) ≡ true
switch-is true = refl
switch-is false = refl

-- what may be left out
pub resample-again : (resample : Option ℕ) → FitsIfThere 16 resample → optional (codes "resample") number16 (resample_words resample) ≡ Ok resample
resample-again None h = refl
resample-again (Some c) h = ap (λ r. of_two (λ (_ : Bool) v. Some v) (Ok true) r) (number16-again c h)

pub resample-are : (resample : Option ℕ) → FitsIfThere 16 resample → are_words (resample_words resample) ≡ true
resample-are None h = refl
resample-are (Some c) h = both-true _ _ (word16 c h) refl

match-again : (len : ℕ) (want : Option ℕ) → FitsIfThere 64 want → optional (codes "match") hex64 (match_words len want) ≡ Ok want
match-again len None h = refl
match-again len (Some v) h = ap (λ r. of_two (λ (_ : Bool) v. Some v) (Ok true) r) (hex64-again (value_width len) v (width-fits len).0 (width-fits len).1 h)

match-are : (len : ℕ) (want : Option ℕ) → FitsIfThere 64 want → are_words (match_words len want) ≡ true
match-are len None h = refl
match-are len (Some v) h = both-true _ _ (hex-word (value_width len) v (width-fits len).0) refl

-- a call whose words are read again; its name is neither that of `repeat` nor of `serve`
pub record Again (call : Call) : Type 0 where
  pub name : List ℕ
  pub words : List (List ℕ)
  pub spelled : call_words call ≡ name ∷ words
  pub read : command name words ≡ Ok call
  pub are : are_words (name ∷ words) ≡ true
  pub once : same_text name (codes "repeat") ≡ false
  pub alone : same_text name (codes "serve") ≡ false

-- a binding, in either space
abbrev pub AsBinding : (Space → ℕ → ℕ → ℕ → Option ℕ → Call) → List ℕ → Type 0
AsBinding make name =
    (s : Space) (address len c : ℕ) (want : Option ℕ) → (address < 2 ^ 64) × (len < 2 ^ 8) × (c < 2 ^ 16) × FitsIfThere 64 want →
    command name (binding_words s address len c want) ≡ Ok (make s address len c want)

pub binding-are : (s : Space) (address len c : ℕ) (want : Option ℕ) → (address < 2 ^ 64) × (len < 2 ^ 8) × (c < 2 ^ 16) × FitsIfThere 64 want → are_words (binding_words s address len c want) ≡ true
binding-are Port address len c want h =
    both-true _ _ (hex-word 4 address (omega arith)) (both-true _ _ (word8 len h.1) (both-true _ _ (word16 c h.2) (match-are len want h.3)))
binding-are Memory address len c want h =
    both-true _ _ (hex-word 8 address (omega arith)) (both-true _ _ (word8 len h.1) (both-true _ _ (word16 c h.2) (match-are len want h.3)))

pub attach-again : AsBinding (λ s a l c w. Attach s a l c w) (codes "attach")
attach-again Port address len c want h i =
    of_five (λ s a l c w. Attach s a l c w) (Ok Port) (hex64-again 4 address (omega arith) (omega arith) h.0 i) (number8-again len h.1 i) (number16-again c h.2 i) (match-again len want h.3 i)
attach-again Memory address len c want h i =
    of_five (λ s a l c w. Attach s a l c w) (Ok Memory) (hex64-again 8 address (omega arith) (omega arith) h.0 i) (number8-again len h.1 i) (number16-again c h.2 i) (match-again len want h.3 i)

pub detach-again : AsBinding (λ s a l c w. Detach s a l c w) (codes "detach")
detach-again Port address len c want h i =
    of_five (λ s a l c w. Detach s a l c w) (Ok Port) (hex64-again 4 address (omega arith) (omega arith) h.0 i) (number8-again len h.1 i) (number16-again c h.2 i) (match-again len want h.3 i)
detach-again Memory address len c want h i =
    of_five (λ s a l c w. Detach s a l c w) (Ok Memory) (hex64-again 8 address (omega arith) (omega arith) h.0 i) (number8-again len h.1 i) (number16-again c h.2 i) (match-again len want h.3 i)
