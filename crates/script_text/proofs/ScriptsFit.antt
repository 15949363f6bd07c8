-- What is read is a script of the grammar.
use Rattle.std.proofs.Common.{◌≡◌, ℕ, ◌+◌, ◌<◌, ◌≤◌, Bool, true, false, not, ◌&&◌, nat_lt, ltb-true, List, [], ◌∷◌, ◌++◌, codes, Ok, Err, IfOk, if◌then◌else◌, refl, sym, subst, arith, All}
use Rattle.std.specs.List.{list_all, list_any}
use Rattle.std.specs.declared.result.Result.{Result}
use Rattle.std.proofs.lemmas.List.Elements.{All-append, All-cons, All-nil}
use Rattle.irq_base.specs.declared.fault.LineCause.{LineCause}
use Rattle.irq_base.specs.declared.fault.LineCause.TheVariants.{Char, End, Word, Count}
use Rattle.irq_base.specs.declared.shape.Shape.{Shape}
use Rattle.script_text.specs.declared.judging.Place.{Place}
use Rattle.script_text.specs.declared.judging.Place.TheVariants.{Version, Cpus, Within, Over}
use Rattle.script_text.specs.declared.task.ActorLine.{ActorLine}
use Rattle.script_text.specs.Words.{same_text, is_empty_word, words_of, ended_lines, is_ended, none}
use Rattle.script_text.specs.Numbers.{decimal_in}
use Rattle.script_text.specs.Commands.{one_field}
use Rattle.script_text.specs.Scripts.{Script, Standing, is_printable, is_passed_over, is_over, version, cpus, line_within, by_place, judge, at_end, next_line, script_from, script_of, blank_script, actor_line, with_cpus, with_counters, with_tick, with_calls, with_publications, with_line}
use Rattle.script_text.specs.declared.draft.Draft.{Draft}
use Rattle.script_text.specs.Draft.{script_in, IsIndexedDraft, IsKeptDraft}
use Rattle.script_text.specs.Fitting.{IsLine, IsHeader, IsScript}
use Rattle.script_text.proofs.WordsAgain.{and-left}
use Rattle.script_text.proofs.FieldsFit.{if-either, one-fits, none-fits, of-one, decimal-fits}
use Rattle.script_text.proofs.CommandsFit.{line-fits}
use Rattle.irq_bits.specs.declared.limits.TheConstants.{MAX_CPUS}

-- the script so far; while headers may come it has no line
abbrev Stands : Place → Script → Type 0
Stands Version s = IsHeader s.shape × (s.lines ≡ [])
Stands Cpus s = IsHeader s.shape × (s.lines ≡ [])
Stands (Within past) s = IsScript s × (past < 4 → s.lines ≡ [])
Stands Over s = IsScript s

abbrev StandsAt : Standing → Type 0
StandsAt t = Stands t.0 t.1

-- a header that is there, on a script without lines
begun : (past : ℕ) (shape : Shape) (s : Script) → s.lines ≡ [] → IsHeader shape → Stands (Within past) (record s { shape = shape })
begun past shape s none h = (
  record { header = h; lines = subst (λ ls. All (IsLine shape) ls) (sym none) (All-nil (IsLine shape)) },
  λ _. none,
)

version-stands : (s : Script) (words : List (List ℕ)) → Stands Version s → IfOk (version s words) StandsAt
version-stands s [] h = tt
version-stands s (name ∷ []) h = if-either StandsAt (same_text name (codes "irqboard")) (Err Count) (Err Word) tt tt
version-stands s (name ∷ number ∷ more) h =
    if-either StandsAt (same_text name (codes "irqboard") && same_text number (codes "1")) (none more (Cpus, s)) (Err Word) (none-fits StandsAt more (Cpus, s) h) tt

cpus-stands : (s : Script) (words : List (List ℕ)) → Stands Cpus s → IfOk (cpus s words) StandsAt
cpus-stands s [] h = tt
cpus-stands s (name ∷ words) h =
    if-either StandsAt (same_text name (codes "cpus")) (one_field (with_cpus s) (decimal_in 1 MAX_CPUS) words) (Err Word)
    (one-fits StandsAt words _ (λ w.
    of-one StandsAt (λ n. (1 ≤ n) × (n ≤ MAX_CPUS)) (with_cpus s) (decimal_in 1 MAX_CPUS w) (decimal-fits 1 MAX_CPUS w)
    (λ n r. begun 0 (record s.shape { cpus = n }) s h.1
    (record { cpus = r; counters = h.0.counters; tick = h.0.tick; calls = h.0.calls; publications = h.0.publications }))))
    tt

-- an answer of an arm whose test held, or of the other
if-held : {X : Type 0} (P : X → Type 0) (b : Bool) (r s : Result X LineCause) → (b ≡ true → IfOk r P) → IfOk s P → IfOk (if b then r else s) P
if-held P true r s h k = h refl
if-held P false r s h k = k

earlier : (past k : ℕ) (b : Bool) → (nat_lt past k && b) ≡ true → k ≤ 4 → past < 4
earlier past k b h few = let below = ltb-true past k (and-left (nat_lt past k) b h) in omega (arith, below, few)

added-stands : (s : Script) (line : ActorLine) → IsScript s → IsLine s.shape line → Stands (Within 4) (record s { lines = s.lines ++ line ∷ [] })
added-stands s line is h = (
  record { header = is.header; lines = All-append (IsLine s.shape) s.lines (line ∷ []) is.lines (All-cons (IsLine s.shape) line [] h (All-nil (IsLine s.shape))) },
  λ no. absurd (omega (arith, no)),
)

within-stands : (past : ℕ) (s : Script) (words : List (List ℕ)) → Stands (Within past) s → IfOk (line_within past s words) StandsAt
within-stands past s [] h = tt
within-stands past s (name ∷ words) h =
    let header = h.0.header in
    if-held StandsAt (nat_lt past 1 && same_text name (codes "counters")) _ _
    (λ e. one-fits StandsAt words _ (λ w.
    of-one StandsAt (λ n. (0 ≤ n) × (n ≤ 256)) (with_counters s) (decimal_in 0 256 w) (decimal-fits 0 256 w)
    (λ n r. begun 1 (record s.shape { counters = n }) s (h.1 (earlier past 1 _ e (omega arith)))
    (record { cpus = header.cpus; counters = r.1; tick = header.tick; calls = header.calls; publications = header.publications }))))
    (if-held StandsAt (nat_lt past 2 && same_text name (codes "tick")) _ _
    (λ e. one-fits StandsAt words _ (λ w.
    of-one StandsAt (λ n. (0 ≤ n) × (n ≤ 4095)) (with_tick s) (decimal_in 0 4095 w) (decimal-fits 0 4095 w)
    (λ n r. begun 2 (record s.shape { tick = n }) s (h.1 (earlier past 2 _ e (omega arith)))
    (record { cpus = header.cpus; counters = header.counters; tick = r.1; calls = header.calls; publications = header.publications }))))
    (if-held StandsAt (nat_lt past 3 && same_text name (codes "calls")) _ _
    (λ e. one-fits StandsAt words _ (λ w.
    of-one StandsAt (λ n. (1 ≤ n) × (n ≤ 4000000)) (with_calls s) (decimal_in 1 4000000 w) (decimal-fits 1 4000000 w)
    (λ n r. begun 3 (record s.shape { calls = n }) s (h.1 (earlier past 3 _ e (omega arith)))
    (record { cpus = header.cpus; counters = header.counters; tick = header.tick; calls = r; publications = header.publications }))))
    (if-held StandsAt (nat_lt past 4 && same_text name (codes "publications")) _ _
    (λ e. one-fits StandsAt words _ (λ w.
    of-one StandsAt (λ n. (0 ≤ n) × (n ≤ 1048576)) (with_publications s) (decimal_in 0 1048576 w) (decimal-fits 0 1048576 w)
    (λ n r. begun 4 (record s.shape { publications = n }) s (h.1 (earlier past 4 _ e (omega arith)))
    (record { cpus = header.cpus; counters = header.counters; tick = header.tick; calls = header.calls; publications = r.1 }))))
    (if-held StandsAt (same_text name (codes "end")) _ _ (λ _. none-fits StandsAt words (Over, s) h.0)
    (of-one StandsAt (IsLine s.shape) (with_line s) (actor_line s.shape (name ∷ words)) (line-fits s.shape (name ∷ words)) (λ line l. added-stands s line h.0 l))))))

place-stands : (p : Place) (s : Script) (words : List (List ℕ)) → Stands p s → IfOk (by_place p s words) StandsAt
place-stands Version s words h = version-stands s words h
place-stands Cpus s words h = cpus-stands s words h
place-stands (Within past) s words h = within-stands past s words h
place-stands Over s words h = tt

judge-stands : (p : Place) (s : Script) (line : List ℕ) → Stands p s → IfOk (judge p s line) StandsAt
unfolding judge
judge-stands p s line h =
    if-either StandsAt (not (list_all is_printable line)) (Err Char) _ tt
    (if-either StandsAt (is_over p) (Err End) _ tt
    (if-either StandsAt (is_passed_over line) (Ok (p, s)) _ h
    (if-either StandsAt (list_any is_empty_word (words_of line)) (Err Word) (by_place p s (words_of line)) tt (place-stands p s (words_of line) h))))

end-stands : (p : Place) (s : Script) (n : ℕ) (whole : Bool) → Stands p s → IfOk (at_end p s n whole) IsScript
end-stands Version s n true h = tt
end-stands Cpus s n true h = tt
end-stands (Within past) s n true h = tt
end-stands Over s n true h = h
end-stands p s n false h = tt

next-stands : (n : ℕ) (r : Result Standing LineCause) (rest : Standing → Result Script (ℕ × LineCause)) → IfOk r StandsAt → ((t : Standing) → StandsAt t → IfOk (rest t) IsScript) →
    IfOk (next_line n r rest) IsScript
next-stands n (Ok t) rest h k = k t h
next-stands n (Err e) rest h k = tt

lines-stand : (p : Place) (s : Script) (n : ℕ) (lines : List (List ℕ)) (whole : Bool) → Stands p s → IfOk (script_from p s n lines whole) IsScript
lines-stand p s n [] whole h = end-stands p s n whole h
lines-stand p s n (line ∷ lines) whole h =
    next-stands n (judge p s line) (λ t. script_from t.0 t.1 (n + 1) lines whole) (judge-stands p s line h) (λ t k. lines-stand t.0 t.1 (n + 1) lines whole k)

blank-header : IsHeader blank_script.shape
blank-header = record {
  cpus = (omega arith, omega arith);
  counters = omega arith;
  tick = omega arith;
  calls = (omega arith, omega arith);
  publications = omega arith;
}

pub script-fits : (bytes : List ℕ) → IfOk (script_of bytes) IsScript
script-fits bytes = lines-stand Version blank_script 1 (ended_lines bytes) (is_ended bytes) (blank-header, refl)

pub script-of-grammar : (bytes : List ℕ) (s : Script) → script_of bytes ≡ Ok s → IsScript s
script-of-grammar bytes s e = subst (λ (r : Result Script (ℕ × LineCause)). IfOk r IsScript) e (script-fits bytes)

-- a draft of what is read
pub kept : (bytes : List ℕ) (d : Draft) → script_of bytes ≡ Ok (script_in d) → IsIndexedDraft d → IsKeptDraft d
kept bytes d read index = record { index = index; fits = script-of-grammar bytes (script_in d) read }
