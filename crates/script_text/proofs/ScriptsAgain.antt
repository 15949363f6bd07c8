-- The text of a script is read as that script.
use Rattle.std.proofs.Common.{◌≡◌, ℕ, ◌+◌, ◌≤◌, Bool, true, false, not, nat_eq, List, [], ◌∷◌, ◌++◌, map, codes, Ok, Err, if◌then◌else◌, refl, ap, sym, ◌∙◌, append_assoc, All, arith}
use Rattle.std.specs.Fmt.{decimal}
use Rattle.std.specs.List.{list_all}
use Rattle.std.specs.declared.result.Result.{Result}
use Rattle.std.proofs.lemmas.Bool.Decides.{nat_tests}
use Rattle.std.proofs.lemmas.List.{append-nil}
use Rattle.std.proofs.lemmas.List.Elements.{All-cons, All-nil, All-head, All-tail}
use Rattle.std.proofs.lemmas.List.Splits.{slice_split_at}
use Rattle.irq_base.specs.Text.{caller_text}
use Rattle.irq_base.specs.declared.fault.LineCause.{LineCause}
use Rattle.irq_base.specs.declared.fault.LineCause.TheVariants.{Char, End}
use Rattle.irq_base.specs.declared.call.Caller.{Caller}
use Rattle.irq_base.specs.declared.call.Caller.TheVariants.{Device, Cpu}
use Rattle.script_text.specs.declared.judging.Place.{Place}
use Rattle.script_text.specs.declared.judging.Place.TheVariants.{Version, Cpus, Within, Over}
use Rattle.script_text.specs.declared.task.ActorLine.{ActorLine}
use Rattle.script_text.specs.Causes.{of_one}
use Rattle.script_text.specs.Words.{is_empty, words_of, ended_lines, is_ended, front_parts, last_part}
use Rattle.script_text.specs.Scripts.{Script, Standing, is_printable, is_passed_over, is_over, worded, judge, next_line, script_from, script_of, blank_script, actor_line, with_cpus, with_counters, with_tick, with_calls, with_publications, with_line}
use Rattle.script_text.specs.Spelling.{task_words, actor_words, spaced, joined, with_feeds, text_of}
use Rattle.script_text.specs.Fitting.{FitsCaller, IsLine, IsScript}
use Rattle.script_text.proofs.Again.{decimal-again}
use Rattle.script_text.proofs.WordsAgain.{are_words, both-true, and-left, and-right, decimal-graphic, decimal-word, word-append}
use Rattle.script_text.proofs.LineCuts.{some_part, front-more, last-more}
use Rattle.script_text.proofs.LinesAgain.{judged, task-again, line-again}
use Rattle.irq_bits.specs.declared.limits.TheConstants.{MAX_CPUS}

-- a line that is read has no line feed in it
printable-of : (b : Bool) (r : Result Standing LineCause) (t : Standing) → (if not b then Err Char else r) ≡ Ok t → b ≡ true
printable-of true r t h = refl
printable-of false r t h = absurd (cc)

read-printable : (p : Place) (s : Script) (line : List ℕ) (t : Standing) → judge p s line ≡ Ok t → list_all is_printable line ≡ true
unfolding judge
read-printable p s line t h =
    printable-of (list_all is_printable line) (if is_over p then Err End else if is_passed_over line then Ok (p, s) else worded p s (words_of line)) t h

pub no-feed : (line : List ℕ) → list_all is_printable line ≡ true → All (λ b. nat_eq b 10 ≡ false) line
no-feed [] h = All-nil (λ (b : ℕ). nat_eq b 10 ≡ false)
no-feed (b ∷ line) h = All-cons (λ (b : ℕ). nat_eq b 10 ≡ false) b line (one b (and-left _ _ h)) (no-feed line (and-right _ _ h))
  where
    one : (b : ℕ) → is_printable b ≡ true → nat_eq b 10 ≡ false
    one b h = grind (arith, nat_tests, h)

-- the script of bytes, from a place on
abbrev reading : Place → Script → ℕ → List ℕ → Result Script (ℕ × LineCause)
reading p s n bytes = script_from p s n (ended_lines bytes) (is_ended bytes)

-- the first line is read, and then the others
read-first : (p q : Place) (s t : Script) (n : ℕ) (line rest : List ℕ) → judge p s line ≡ Ok (q, t) → reading p s n (line ++ 10 ∷ rest) ≡ reading q t (n + 1) rest
read-first p q s t n line rest ok =
    let parts = slice_split_at (λ b. nat_eq b 10) line 10 rest (no-feed line (read-printable p s line (q, t) ok)) refl in
    let lines : ended_lines (line ++ 10 ∷ rest) ≡ line ∷ ended_lines rest = ap front_parts parts ∙ front-more line _ (some_part rest) in
    let whole : is_ended (line ++ 10 ∷ rest) ≡ is_ended rest = ap (λ ps. is_empty (last_part ps)) parts ∙ ap is_empty (last-more line _ (some_part rest)) in
    (λ i. script_from p s n (lines i) (whole i)) ∙ ap (λ r. next_line n r (λ t. script_from t.0 t.1 (n + 1) (ended_lines rest) (is_ended rest))) ok

-- the headers
version-again : (s : Script) → judge Version s (joined (codes "irqboard" ∷ codes "1" ∷ [])) ≡ Ok (Cpus, s)
version-again s = judged Version s 105 (codes "rqboard") (codes "1" ∷ []) refl refl refl refl

one-is : (n : ℕ) → n ≤ 4000000 → are_words (decimal n ∷ []) ≡ true
one-is n h = both-true _ _ (decimal-word n (omega (arith, h))) refl

cpus-again : (s : Script) (n : ℕ) → 1 ≤ n → n ≤ MAX_CPUS → judge Cpus s (joined (codes "cpus" ∷ decimal n ∷ [])) ≡ Ok (with_cpus s n)
cpus-again s n low high =
    judged Cpus s 99 (codes "pus") (decimal n ∷ []) refl refl refl (one-is n (omega (arith, high)))
    ∙ ap (of_one (with_cpus s)) (decimal-again 1 MAX_CPUS n low high (omega (arith, high)))

counters-again : (s : Script) (n : ℕ) → n ≤ 256 → judge (Within 0) s (joined (codes "counters" ∷ decimal n ∷ [])) ≡ Ok (with_counters s n)
counters-again s n high =
    judged (Within 0) s 99 (codes "ounters") (decimal n ∷ []) refl refl refl (one-is n (omega (arith, high)))
    ∙ ap (of_one (with_counters s)) (decimal-again 0 256 n (omega arith) high (omega (arith, high)))

tick-again : (s : Script) (n : ℕ) → n ≤ 4095 → judge (Within 1) s (joined (codes "tick" ∷ decimal n ∷ [])) ≡ Ok (with_tick s n)
tick-again s n high =
    judged (Within 1) s 116 (codes "ick") (decimal n ∷ []) refl refl refl (one-is n (omega (arith, high)))
    ∙ ap (of_one (with_tick s)) (decimal-again 0 4095 n (omega arith) high (omega (arith, high)))

calls-again : (s : Script) (n : ℕ) → 1 ≤ n → n ≤ 4000000 → judge (Within 2) s (joined (codes "calls" ∷ decimal n ∷ [])) ≡ Ok (with_calls s n)
calls-again s n low high =
    judged (Within 2) s 99 (codes "alls") (decimal n ∷ []) refl refl refl (one-is n high)
    ∙ ap (of_one (with_calls s)) (decimal-again 1 4000000 n low high (omega (arith, high)))

publications-again : (s : Script) (n : ℕ) → n ≤ 1048576 → judge (Within 3) s (joined (codes "publications" ∷ decimal n ∷ [])) ≡ Ok (with_publications s n)
publications-again s n high =
    judged (Within 3) s 112 (codes "ublications") (decimal n ∷ []) refl refl refl (one-is n (omega (arith, high)))
    ∙ ap (of_one (with_publications s)) (decimal-again 0 1048576 n (omega arith) high (omega (arith, high)))

-- an actor line
begins-well : (s : Script) (who : Caller) (words : List (List ℕ)) → FitsCaller who → are_words words ≡ true →
    judge (Within 4) s (caller_text who ++ spaced words) ≡ of_one (with_line s) (actor_line s.shape (caller_text who ∷ words))
begins-well s (Cpu n) words h are =
    judged (Within 4) s 99 (112 ∷ 117 ∷ decimal n) words refl refl (word-append (codes "cpu") (decimal n) refl (decimal-graphic n (omega (arith, h)))) are
begins-well s (Device n) words h are =
    judged (Within 4) s 100 (101 ∷ 118 ∷ decimal n) words refl refl (word-append (codes "dev") (decimal n) refl (decimal-graphic n (omega (arith, h)))) are

actor-again : (s : Script) (line : ActorLine) → IsLine s.shape line → judge (Within 4) s (joined (actor_words line)) ≡ Ok (with_line s line)
actor-again s line h =
    let again = task-again line.task h.1 in
    begins-well s line.caller (task_words line.task) h.0 (ap are_words again.spelled ∙ again.are)
    ∙ ap (of_one (with_line s)) (line-again s.shape line h)

-- all lines, and the end
lines-again : (s : Script) (n : ℕ) (lines : List ActorLine) → All (IsLine s.shape) lines →
    reading (Within 4) s n (with_feeds (map joined (map actor_words lines ++ (codes "end" ∷ []) ∷ []))) ≡ Ok (record s { lines = s.lines ++ lines })
lines-again s n [] h =
    read-first (Within 4) Over s s n (codes "end" ++ []) [] (judged (Within 4) s 101 (codes "nd") [] refl refl refl refl)
    ∙ ap (λ ls. Ok (record s { lines = ls })) (sym (append-nil s.lines))
lines-again s n (line ∷ lines) h =
    let t = record s { lines = s.lines ++ line ∷ [] } in
    read-first (Within 4) (Within 4) s t n (joined (actor_words line)) (with_feeds (map joined (map actor_words lines ++ (codes "end" ∷ []) ∷ [])))
    (actor-again s line (All-head (IsLine s.shape) line lines h))
    ∙ lines-again t (n + 1) lines (All-tail (IsLine s.shape) line lines h)
    ∙ ap (λ ls. Ok (record s { lines = ls })) (append_assoc s.lines (line ∷ []) lines)

-- a header's line
abbrev header : List ℕ → ℕ → List ℕ
header name n = joined (name ∷ decimal n ∷ [])

pub script-again : (s : Script) → IsScript s → script_of (text_of s) ≡ Ok s
script-again s is =
    let shape = s.shape in
    let h = is.header in
    let a = blank_script in
    let b = (with_cpus a shape.cpus).1 in
    let c = (with_counters b shape.counters).1 in
    let d = (with_tick c shape.tick).1 in
    let e = (with_calls d shape.calls).1 in
    let f = (with_publications e shape.publications).1 in
    let lines = with_feeds (map joined (map actor_words s.lines ++ (codes "end" ∷ []) ∷ [])) in
    let publications = header (codes "publications") shape.publications in
    let calls = header (codes "calls") shape.calls in
    let tick = header (codes "tick") shape.tick in
    let counters = header (codes "counters") shape.counters in
    let cpus = header (codes "cpus") shape.cpus in
    let behind_calls = publications ++ 10 ∷ lines in
    let behind_tick = calls ++ 10 ∷ behind_calls in
    let behind_counters = tick ++ 10 ∷ behind_tick in
    let behind_cpus = counters ++ 10 ∷ behind_counters in
    read-first Version Cpus a a 1 (joined (codes "irqboard" ∷ codes "1" ∷ [])) (cpus ++ 10 ∷ behind_cpus) (version-again a)
    ∙ read-first Cpus (Within 0) a b 2 cpus behind_cpus (cpus-again a shape.cpus h.cpus.0 h.cpus.1)
    ∙ read-first (Within 0) (Within 1) b c 3 counters behind_counters (counters-again b shape.counters h.counters)
    ∙ read-first (Within 1) (Within 2) c d 4 tick behind_tick (tick-again c shape.tick h.tick)
    ∙ read-first (Within 2) (Within 3) d e 5 calls behind_calls (calls-again d shape.calls h.calls.0 h.calls.1)
    ∙ read-first (Within 3) (Within 4) e f 6 publications lines (publications-again e shape.publications h.publications)
    ∙ lines-again f 7 s.lines is.lines
