-- Lines that are spelled are read again, one after another.
use Rattle.std.proofs.Common.{◌≡◌, ℕ, suc, ◌^◌, ◌<◌, ◌≤◌, true, false, not, nat_eq, nat_lt, ◌||◌, List, [], ◌∷◌, ◌++◌, length, codes, Ok, Err, if◌then◌else◌, refl, ap, ◌∙◌, arith}
use Rattle.std.specs.Fmt.{decimal}
use Rattle.std.specs.Str.Parse.{AllDigits}
use Rattle.std.specs.List.{list_all}
use Rattle.std.proofs.lemmas.Bool.Decides.{nat_tests}
use Rattle.std.proofs.lemmas.Str.Parse.{digit_from_value}
use Rattle.std.proofs.lemmas.Fmt.{decimal_is_IsNumeral, decimal_nonempty}
use Rattle.irq_base.specs.Text.{caller_text}
use Rattle.irq_base.specs.declared.fault.LineCause.TheVariants.{Char, End, Word, Actor}
use Rattle.irq_base.specs.declared.call.Call.{Call}
use Rattle.irq_base.specs.declared.call.Caller.{Caller}
use Rattle.irq_base.specs.declared.call.Caller.TheVariants.{Device, Cpu}
use Rattle.irq_base.specs.declared.shape.Shape.{Shape}
use Rattle.script_text.specs.declared.judging.Place.{Place}
use Rattle.script_text.specs.declared.task.Task.{Task}
use Rattle.script_text.specs.declared.task.Task.TheVariants.{Once, Repeat, Serve}
use Rattle.script_text.specs.declared.task.ActorLine.{ActorLine}
use Rattle.script_text.specs.Causes.{both, of_one, of_two}
use Rattle.script_text.specs.Words.{same_text, words_of}
use Rattle.script_text.specs.Numbers.{number16}
use Rattle.script_text.specs.Commands.{command, one_field}
use Rattle.script_text.specs.Scripts.{Script, is_passed_over, is_digit, caller, times_of, repeated, task, if_allowed, actor_line, is_over, by_place, worded, judge}
use Rattle.script_text.specs.Spelling.{call_words, task_words, actor_words, spaced}
use Rattle.script_text.specs.Fitting.{FitsTask, FitsCaller, IsLine, IsTimes}
use Rattle.script_text.proofs.Again.{decimal-again}
use Rattle.script_text.proofs.WordsAgain.{is_word, are_words, both-true, words-again, none-empty, printable-joined, decimal-word}
use Rattle.script_text.proofs.CommandsAgain.{number16-again}
use Rattle.script_text.proofs.CallsAgain.{call-again}

-- a line that begins with no `#` is judged by its words
not-passed : (b : ℕ) (bs : List ℕ) → nat_eq b 35 ≡ false → is_passed_over (b ∷ bs) ≡ false
not-passed b bs h = ap (λ x. x || nat_eq b 35) (not_zero (length bs)) ∙ h
  where
    not_zero : (n : ℕ) → nat_eq (suc n) 0 ≡ false
    not_zero n = grind (arith, nat_tests)

pub judged : (p : Place) (s : Script) (b : ℕ) (name : List ℕ) (words : List (List ℕ)) → is_over p ≡ false → nat_eq b 35 ≡ false →
    is_word (b ∷ name) ≡ true → are_words words ≡ true → judge p s ((b ∷ name) ++ spaced words) ≡ by_place p s ((b ∷ name) ∷ words)
unfolding judge
judged p s b name words begun plain is are =
    let line = (b ∷ name) ++ spaced words in
    ap (λ x. if not x then Err Char else if is_over p then Err End else if is_passed_over line then Ok (p, s) else worded p s (words_of line)) (printable-joined (b ∷ name) words is are)
    ∙ ap (λ x. if x then Err End else if is_passed_over line then Ok (p, s) else worded p s (words_of line)) begun
    ∙ ap (λ x. if x then Ok (p, s) else worded p s (words_of line)) (not-passed b (name ++ spaced words) plain)
    ∙ ap (worded p s) (words-again (b ∷ name) words is are)
    ∙ ap (λ x. if x then Err Word else by_place p s ((b ∷ name) ∷ words)) (none-empty ((b ∷ name) ∷ words) (both-true _ _ is are))

-- an actor's name
all-digits : (ds : List ℕ) → AllDigits 10 ds → list_all is_digit ds ≡ true
all-digits [] h = refl
all-digits (c ∷ cs) h = both-true _ _ (one c (digit_from_value c h.0)) (all-digits cs h.1)
  where
    one : (c : ℕ) → (48 ≤ c) × (c ≤ 57) → is_digit c ≡ true
    one c h = grind (arith, nat_tests, h)

-- three letters and a number
is-name : (a b c n : ℕ) → n < 2 ^ 16 → (nat_lt (length (a ∷ b ∷ c ∷ decimal n)) 4 || not (list_all is_digit (decimal n))) ≡ false
is-name a b c n h =
    let fits : n < 2 ^ 64 = omega (arith, h) in
    λ i. long (length (decimal n)) (decimal_nonempty n fits) i || not (all-digits (decimal n) (decimal_is_IsNumeral n fits).0.1 i)
  where
    long : (m : ℕ) → 0 < m → nat_lt (suc (suc (suc m))) 4 ≡ false
    long m h = grind (arith, nat_tests, h)

pub caller-again : (who : Caller) → FitsCaller who → caller (caller_text who) ≡ Ok who
caller-again (Cpu n) h =
    ap (λ x. if x then Err Word else of_one (λ n. Cpu n) (number16 (decimal n))) (is-name 99 112 117 n h) ∙ ap (of_one (λ n. Cpu n)) (number16-again n h)
caller-again (Device n) h =
    ap (λ x. if x then Err Word else of_one (λ n. Device n) (number16 (decimal n))) (is-name 100 101 118 n h) ∙ ap (of_one (λ n. Device n)) (number16-again n h)

-- what a line asks
pub record TaskAgain (t : Task) : Type 0 where
  pub name : List ℕ
  pub words : List (List ℕ)
  pub spelled : task_words t ≡ name ∷ words
  pub read : task name words ≡ Ok t
  pub are : are_words (name ∷ words) ≡ true

times-again : (n : ℕ) → IsTimes n → times_of (decimal n) ≡ Ok n
times-again n h = decimal-again 1 1000000 n h.0 h.1 (omega (arith, h.1))

times-is : (n : ℕ) → IsTimes n → is_word (decimal n) ≡ true
times-is n h = decimal-word n (omega (arith, h.1))

pub task-again : (t : Task) → FitsTask t → TaskAgain t
task-again (Once call) h =
    let again = call-again call h in
    record {
      name = again.name;
      words = again.words;
      spelled = again.spelled;
      read = once-read again.name again.words call again.once again.alone again.read;
      are = again.are;
    }
  where
    once-read : (name : List ℕ) (words : List (List ℕ)) (call : Call) → same_text name (codes "repeat") ≡ false → same_text name (codes "serve") ≡ false →
        command name words ≡ Ok call → task name words ≡ Ok (Once call)
    once-read name words call once alone read =
        ap (λ x. if x then repeated words else if same_text name (codes "serve") then one_field (λ n. Serve n) times_of words else of_one (λ c. Once c) (command name words)) once
        ∙ ap (λ x. if x then one_field (λ n. Serve n) times_of words else of_one (λ c. Once c) (command name words)) alone ∙ ap (of_one (λ c. Once c)) read
task-again (Repeat n call) h =
    let again = call-again call h.1 in
    record {
      name = codes "repeat";
      words = decimal n ∷ call_words call;
      spelled = refl;
      read = ap (λ ws. repeated (decimal n ∷ ws)) again.spelled ∙ (λ i. of_two (λ n c. Repeat n c) (times-again n h.0 i) (again.read i));
      are = both-true _ _ (times-is n h.0) (ap are_words again.spelled ∙ again.are);
    }
task-again (Serve n) h = record {
  name = codes "serve";
  words = decimal n ∷ [];
  spelled = refl;
  read = λ i. of_one (λ n. Serve n) (times-again n h i);
  are = both-true _ _ (times-is n h) refl;
}

-- an actor line
pub line-again : (shape : Shape) (line : ActorLine) → IsLine shape line → actor_line shape (actor_words line) ≡ Ok line
line-again shape line h =
    let again = task-again line.task h.1 in
    ap (λ ws. actor_line shape (caller_text line.caller ∷ ws)) again.spelled
    ∙ ap (if_allowed shape) (λ i. both (caller-again line.caller h.0 i) (again.read i))
    ∙ ap (λ x. if x then Ok line else Err Actor) h.2
