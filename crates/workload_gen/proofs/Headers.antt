-- The text of a generated script is read as that script.
use Rattle.std.proofs.Common.{◌≡◌, ℕ, ◌+◌, ◌≤◌, Bool, true, false, not, List, [], ◌∷◌, ◌++◌, map, codes, Ok, Err, if◌then◌else◌, refl, ap, sym, ◌∙◌, append_assoc, All, arith}
use Rattle.std.specs.Fmt.{decimal}
use Rattle.std.specs.List.{list_all}
use Rattle.std.specs.declared.result.Result.{Result}
use Rattle.std.specs.Prelude.{nat_eq}
use Rattle.std.proofs.lemmas.List.{append-nil}
use Rattle.std.proofs.lemmas.List.Elements.{All-head, All-tail}
use Rattle.std.proofs.lemmas.List.Splits.{slice_split_at}
use Rattle.irq_base.specs.Text.{caller_text}
use Rattle.irq_base.specs.declared.fault.LineCause.{LineCause}
use Rattle.irq_base.specs.declared.fault.LineCause.TheVariants.{Char, End}
use Rattle.irq_base.specs.declared.call.Caller.{Caller}
use Rattle.irq_base.specs.declared.call.Caller.TheVariants.{Device, Cpu}
use Rattle.script_text.specs.declared.judging.Place.{Place}
use Rattle.script_text.specs.declared.judging.Place.TheVariants.{Version, Cpus, Within, Over}
use Rattle.script_text.specs.declared.task.ActorLine.{ActorLine}
use Rattle.script_text.specs.Causes.{of_one}
use Rattle.script_text.specs.Words.{is_empty, words_of, ended_lines, is_ended, front_parts, last_part}
use Rattle.script_text.specs.Scripts.{Script, Standing, is_printable, is_passed_over, is_over, worded, judge, next_line, script_from, script_of, blank_script, actor_line, with_cpus, with_counters, with_calls, with_line}
use Rattle.script_text.specs.Spelling.{task_words, actor_words, spaced, joined, with_feeds}
use Rattle.script_text.specs.Fitting.{FitsCaller, IsLine}
use Rattle.script_text.proofs.Again.{decimal-again}
use Rattle.script_text.proofs.WordsAgain.{are_words, both-true, decimal-graphic, decimal-word, word-append}
use Rattle.script_text.proofs.LineCuts.{some_part, front-more, last-more}
use Rattle.script_text.proofs.LinesAgain.{judged, task-again, line-again}
use Rattle.script_text.proofs.ScriptsAgain.{no-feed}
use Rattle.workload_gen.specs.Workload.{shape_of}
use Rattle.workload_gen.specs.Text.{header_words}
use Rattle.irq_bits.specs.declared.limits.TheConstants.{MAX_CPUS}

-- a line that is read has no line feed in it
printable-of : (b : Bool) (r : Result Standing LineCause) (t : Standing) → (if not b then Err Char else r) ≡ Ok t → b ≡ true
printable-of true r t h = refl
printable-of false r t h = absurd (cc)

read-printable : (p : Place) (s : Script) (line : List ℕ) (t : Standing) → judge p s line ≡ Ok t → list_all is_printable line ≡ true
unfolding judge
read-printable p s line t h =
    printable-of (list_all is_printable line) (if is_over p then Err End else if is_passed_over line then Ok (p, s) else worded p s (words_of line)) t h

-- the script of bytes, from a place on
abbrev reading : Place → Script → ℕ → List ℕ → Result Script (ℕ × LineCause)
reading p s n bytes = script_from p s n (ended_lines bytes) (is_ended bytes)

-- the first line is read, and then the others
read-first : (p q : Place) (s t : Script) (n : ℕ) (line rest : List ℕ) → judge p s line ≡ Ok (q, t) → reading p s n (line ++ 10 ∷ rest) ≡ reading q t (n + 1) rest
read-first p q s t n line rest ok =
    let parts = slice_split_at (λ b. nat_eq b 10) line 10 rest (no-feed line (read-printable p s line (q, t) ok)) refl in
    let lines : ended_lines (line ++ 10 ∷ rest) ≡ line ∷ ended_lines rest = ap front_parts parts ∙ front-more line _ (some_part rest) in
    let whole : is_ended (line ++ 10 ∷ rest) ≡ is_ended rest = ap (λ ps. is_empty (last_part ps)) parts ∙ ap is_empty (last-more line _ (some_part rest)) in
    (λ i. script_from p s n (lines i) (whole i)) ∙ ap (λ r. next_line n r (λ t. script_from t.0 t.1 (n + 1) (ended_lines rest) (is_ended rest))) ok

-- ---- actor lines: the first, behind the header `calls`, and the others

first-begins : (s : Script) (who : Caller) (words : List (List ℕ)) → FitsCaller who → are_words words ≡ true →
    judge (Within 3) s (caller_text who ++ spaced words) ≡ of_one (with_line s) (actor_line s.shape (caller_text who ∷ words))
first-begins s (Cpu n) words h are =
    judged (Within 3) s 99 (112 ∷ 117 ∷ decimal n) words refl refl (word-append (codes "cpu") (decimal n) refl (decimal-graphic n (omega (arith, h)))) are
first-begins s (Device n) words h are =
    judged (Within 3) s 100 (101 ∷ 118 ∷ decimal n) words refl refl (word-append (codes "dev") (decimal n) refl (decimal-graphic n (omega (arith, h)))) are

later-begins : (s : Script) (who : Caller) (words : List (List ℕ)) → FitsCaller who → are_words words ≡ true →
    judge (Within 4) s (caller_text who ++ spaced words) ≡ of_one (with_line s) (actor_line s.shape (caller_text who ∷ words))
later-begins s (Cpu n) words h are =
    judged (Within 4) s 99 (112 ∷ 117 ∷ decimal n) words refl refl (word-append (codes "cpu") (decimal n) refl (decimal-graphic n (omega (arith, h)))) are
later-begins s (Device n) words h are =
    judged (Within 4) s 100 (101 ∷ 118 ∷ decimal n) words refl refl (word-append (codes "dev") (decimal n) refl (decimal-graphic n (omega (arith, h)))) are

first-again : (s : Script) (line : ActorLine) → IsLine s.shape line → judge (Within 3) s (joined (actor_words line)) ≡ Ok (with_line s line)
first-again s line h =
    let again = task-again line.task h.1 in
    first-begins s line.caller (task_words line.task) h.0 (ap are_words again.spelled ∙ again.are)
    ∙ ap (of_one (with_line s)) (line-again s.shape line h)

later-again : (s : Script) (line : ActorLine) → IsLine s.shape line → judge (Within 4) s (joined (actor_words line)) ≡ Ok (with_line s line)
later-again s line h =
    let again = task-again line.task h.1 in
    later-begins s line.caller (task_words line.task) h.0 (ap are_words again.spelled ∙ again.are)
    ∙ ap (of_one (with_line s)) (line-again s.shape line h)

-- lines, and the end
abbrev closed_text : List ActorLine → List ℕ
closed_text lines = with_feeds (map joined (map actor_words lines ++ (codes "end" ∷ []) ∷ []))

lines-again : (s : Script) (n : ℕ) (lines : List ActorLine) → All (IsLine s.shape) lines →
    reading (Within 4) s n (closed_text lines) ≡ Ok (record s { lines = s.lines ++ lines })
lines-again s n [] h =
    read-first (Within 4) Over s s n (codes "end" ++ []) [] (judged (Within 4) s 101 (codes "nd") [] refl refl refl refl)
    ∙ ap (λ ls. Ok (record s { lines = ls })) (sym (append-nil s.lines))
lines-again s n (line ∷ lines) h =
    let t = record s { lines = s.lines ++ line ∷ [] } in
    read-first (Within 4) (Within 4) s t n (joined (actor_words line)) (closed_text lines) (later-again s line (All-head (IsLine s.shape) line lines h))
    ∙ lines-again t (n + 1) lines (All-tail (IsLine s.shape) line lines h)
    ∙ ap (λ ls. Ok (record s { lines = ls })) (append_assoc s.lines (line ∷ []) lines)

all-again : (s : Script) (n : ℕ) (lines : List ActorLine) → All (IsLine s.shape) lines →
    reading (Within 3) s n (closed_text lines) ≡ Ok (record s { lines = s.lines ++ lines })
all-again s n [] h =
    read-first (Within 3) Over s s n (codes "end" ++ []) [] (judged (Within 3) s 101 (codes "nd") [] refl refl refl refl)
    ∙ ap (λ ls. Ok (record s { lines = ls })) (sym (append-nil s.lines))
all-again s n (line ∷ lines) h =
    let t = record s { lines = s.lines ++ line ∷ [] } in
    read-first (Within 3) (Within 4) s t n (joined (actor_words line)) (closed_text lines) (first-again s line (All-head (IsLine s.shape) line lines h))
    ∙ lines-again t (n + 1) lines (All-tail (IsLine s.shape) line lines h)
    ∙ ap (λ ls. Ok (record s { lines = ls })) (append_assoc s.lines (line ∷ []) lines)

-- ---- the headers

cpus-again : (s : Script) (n : ℕ) → 1 ≤ n → n ≤ MAX_CPUS → judge Cpus s (joined (codes "cpus" ∷ decimal n ∷ [])) ≡ Ok (with_cpus s n)
cpus-again s n low high =
    judged Cpus s 99 (codes "pus") (decimal n ∷ []) refl refl refl (both-true _ _ (decimal-word n (omega (arith, high))) refl)
    ∙ ap (of_one (with_cpus s)) (decimal-again 1 MAX_CPUS n low high (omega (arith, high)))

counters-again : (s : Script) → judge (Within 0) s (joined (codes "counters" ∷ codes "16" ∷ [])) ≡ Ok (with_counters s 16)
counters-again s = judged (Within 0) s 99 (codes "ounters") (codes "16" ∷ []) refl refl refl refl

calls-again : (s : Script) → judge (Within 1) s (joined (codes "calls" ∷ codes "2000000" ∷ [])) ≡ Ok (with_calls s 2000000)
calls-again s = judged (Within 1) s 99 (codes "alls") (codes "2000000" ∷ []) refl refl refl refl

-- a script of these lines with the header of a generated one
pub text-again : (c : ℕ) (lines : List ActorLine) → 1 ≤ c → c ≤ MAX_CPUS → All (IsLine (shape_of c)) lines →
    script_of (with_feeds (map joined (header_words c ++ (map actor_words lines ++ (codes "end" ∷ []) ∷ [])))) ≡ Ok (record { shape = shape_of c; lines = lines })
text-again c lines some few are =
    let a = blank_script in
    let b = (with_cpus a c).1 in
    let d = (with_counters b 16).1 in
    let e = (with_calls d 2000000).1 in
    let cpus = joined (codes "cpus" ∷ decimal c ∷ []) in
    let counters = joined (codes "counters" ∷ codes "16" ∷ []) in
    let calls = joined (codes "calls" ∷ codes "2000000" ∷ []) in
    let behind_calls = closed_text lines in
    let behind_counters = calls ++ 10 ∷ behind_calls in
    let behind_cpus = counters ++ 10 ∷ behind_counters in
    read-first Version Cpus a a 1 (joined (codes "irqboard" ∷ codes "1" ∷ [])) (cpus ++ 10 ∷ behind_cpus) (judged Version a 105 (codes "rqboard") (codes "1" ∷ []) refl refl refl refl)
    ∙ read-first Cpus (Within 0) a b 2 cpus behind_cpus (cpus-again a c some few)
    ∙ read-first (Within 0) (Within 1) b d 3 counters behind_counters (counters-again b)
    ∙ read-first (Within 1) (Within 3) d e 4 calls behind_calls (calls-again d)
    ∙ all-again e 5 lines are
