-- A text that was read is the text of its transcript.
use Rattle.std.proofs.Common.{◌≡◌, ℕ, ◌+◌, ◌<◌, Bool, true, false, nat_eq, cond, List, [], ◌∷◌, ◌++◌, length, codes, Some, None, Ok, Err, IfOk, if◌then◌else◌, refl, ap, sym, ◌∙◌, append_assoc, subst, arith}
use Rattle.std.specs.declared.option.Option.{Option}
use Rattle.std.specs.declared.result.Result.{Result}
use Rattle.std.specs.List.{list_all, list_any, slice_split, onto_first}
use Rattle.std.proofs.lemmas.List.{append-nil}
use Rattle.std.proofs.lemmas.Bool.Decides.{Decides-eqb}
use Rattle.std.proofs.lemmas.Slice.Eq.{slice_eq-Decides}
use Rattle.irq_base.specs.declared.call.Call.{Call}
use Rattle.irq_base.specs.declared.call.Caller.{Caller}
use Rattle.irq_base.specs.declared.event.Event.{Event}
use Rattle.irq_base.specs.declared.fault.LineCause.{LineCause}
use Rattle.irq_base.specs.declared.fault.LineCause.TheVariants.{Number}
use Rattle.irq_base.specs.declared.lists.Entry.{Entry}
use Rattle.irq_base.specs.declared.reply.Reply.{Reply}
use Rattle.script_text.specs.Causes.{of_one, of_three}
use Rattle.script_text.specs.Words.{same_text, is_empty, is_empty_word, words_of, one, front_parts, last_part, ended_lines, is_ended}
use Rattle.script_text.specs.Commands.{command}
use Rattle.script_text.specs.Scripts.{is_printable, caller}
use Rattle.script_text.specs.Spelling.{with_feeds}
use Rattle.script_text.specs.declared.script.ScriptFault.{ScriptFault}
use Rattle.script_text.proofs.LineCuts.{some_part}
use Rattle.transcript.specs.declared.reading.Stage.{Stage}
use Rattle.transcript.specs.declared.reading.Stage.TheVariants.{Awaited, Within, Over}
use Rattle.transcript.specs.declared.transcript.Transcript.{Transcript}
use Rattle.transcript.specs.Fields.{event}
use Rattle.transcript.specs.Text.{entry_line, event_line, ending_line, events_text, entry_text, entries_text, text_of}
use Rattle.transcript.specs.Reading.{exactly, spelled, before_arrow, behind_arrow, answer, asked_entry, entry, closed, entry_stage, with_event, event_stage, transcript, ending_stage, line_within, begins_with_digit, header as header_line, header_cause, worded, begun, judge, at_end, next_line, read_from, transcript_of, Reads}

abbrev header : List ℕ
header = codes "transcript 1\n"

-- the text that leads to a stage
abbrev stage_text : Stage → List ℕ
stage_text Awaited = []
stage_text (Within es last) = header ++ entries_text 0 (closed es last)
stage_text (Over run) = text_of run

-- what a line adds
abbrev Adds : Stage → List ℕ → Stage → Type 0
Adds s line t = stage_text s ++ (line ++ 10 ∷ []) ≡ stage_text t

same-is : (a b : List ℕ) → same_text a b ≡ true → a ≡ b
same-is a b h = (slice_eq-Decides Decides-eqb a b true (sym h)).0 refl

-- a line that was read is the spelling of what it says
pub record Said {A : Type 0} (f : A → Stage) (text : A → List ℕ) (line : List ℕ) (r : Result A LineCause) (t : Stage) : Type 0 where
  pub value : A
  pub read : r ≡ Ok value
  pub line_is : text value ≡ line
  pub stage : f value ≡ t

spelled-ok : {A : Type 0} (f : A → Stage) (text : A → List ℕ) (line : List ℕ) (r : Result A LineCause) (t : Stage) → of_one f (spelled text line r) ≡ Ok t → Said f text line r t
spelled-ok f text line (Err e) t h = absurd (cc)
spelled-ok {A} f text line (Ok a) t h = by (same_text (text a) line) refl h
  where
    by : (b : Bool) → same_text (text a) line ≡ b → of_one f (if b then Ok a else Err Number) ≡ Ok t → Said f text line (Ok a) t
    by true same h = record { value = a; read = refl; line_is = same-is (text a) line same; stage = cc }
    by false same h = absurd (cc)

-- an `if` that answers Ok, and each of its arms
if-ok : {P : Type 0} (b : Bool) (x y : Result Stage LineCause) (t : Stage) → (b ≡ true → x ≡ Ok t → P) → (b ≡ false → y ≡ Ok t → P) → (if b then x else y) ≡ Ok t → P
if-ok true x y t f g h = f refl h
if-ok false x y t f g h = g refl h

no-error : {P : Type 0} (e : LineCause) (t : Stage) → Err e ≡ Ok t → P
no-error e t h = absurd (cc)

exactly-ok : (text line : List ℕ) (s t : Stage) → exactly text line s ≡ Ok t → (text ≡ line) × (s ≡ t)
exactly-ok text line s t h = if-ok (same_text text line) (Ok s) (Err _) t (λ same e. (same-is text line same, cc)) (λ _ e. no-error _ t e) h

-- an entry tells no event yet
abbrev events_of : Result Entry LineCause → List Event
events_of (Ok e) = e.events
events_of (Err _) = []

no-events : (a : Result Caller LineCause) (b : Result Reply LineCause) (c : Result Call LineCause) (e : Entry) → of_three (λ w r c. asked_entry w c r) a b c ≡ Ok e → e.events ≡ []
no-events (Ok w) (Ok r) (Ok c) e h = sym (ap events_of h)
no-events (Ok w) (Ok r) (Err d) e h = absurd (cc)
no-events (Ok w) (Err d) (Ok c) e h = absurd (cc)
no-events (Ok w) (Err d) (Err f) e h = absurd (cc)
no-events (Err d) (Ok r) (Ok c) e h = absurd (cc)
no-events (Err d) (Ok r) (Err f) e h = absurd (cc)
no-events (Err d) (Err f) (Ok c) e h = absurd (cc)
no-events (Err d) (Err f) (Err g) e h = absurd (cc)

entry-silent : (words : List (List ℕ)) (e : Entry) → entry words ≡ Ok e → e.events ≡ []
entry-silent [] e h = absurd (cc)
entry-silent (who ∷ []) e h = absurd (cc)
entry-silent (who ∷ name ∷ words) e h = no-events (caller who) (answer (behind_arrow words)) (command name (before_arrow words)) e h

-- entries one after another
entries-more : (k : ℕ) (es : List Entry) (e : Entry) → entries_text k (es ++ e ∷ []) ≡ entries_text k es ++ entry_text (k + length es) e
entries-more k [] e = append-nil (entry_text k e) ∙ ap (λ n. entry_text n e) {y = k + 0} (omega arith)
entries-more k (x ∷ es) e =
    let n : k + 1 + length es ≡ k + length (x ∷ es) = omega arith in
    ap (λ t. entry_text k x ++ t) (entries-more (k + 1) es e ∙ ap (λ n. entries_text (k + 1) es ++ entry_text n e) n)
    ∙ sym (append_assoc (entry_text k x) (entries_text (k + 1) es) (entry_text (k + length (x ∷ es)) e))

last-entry : (es : List Entry) (e : Entry) → entries_text 0 (es ++ e ∷ []) ≡ entries_text 0 es ++ entry_text (length es) e
last-entry es e = entries-more 0 es e ∙ ap (λ n. entries_text 0 es ++ entry_text n e) {y = length es} (omega arith)

events-more : (ns : List Event) (n : Event) → events_text (ns ++ n ∷ []) ≡ events_text ns ++ (event_line n ++ 10 ∷ [])
events-more [] n = refl
events-more (m ∷ ns) n =
    ap (λ t. event_line m ++ 10 ∷ t) (events-more ns n) ∙ sym (append_assoc (event_line m) (10 ∷ events_text ns) (event_line n ++ 10 ∷ []))

-- an entry's line behind entries
adds-entry : (es : List Entry) (e : Entry) → e.events ≡ [] → (header ++ entries_text 0 es) ++ (entry_line (length es) e ++ 10 ∷ []) ≡ header ++ entries_text 0 (es ++ e ∷ [])
adds-entry es e silent =
    append_assoc header (entries_text 0 es) (entry_line (length es) e ++ 10 ∷ [])
    ∙ ap (λ t. header ++ t) (ap (λ v. entries_text 0 es ++ (entry_line (length es) e ++ 10 ∷ events_text v)) (sym silent) ∙ sym (last-entry es e))

-- an event's line behind an entry
adds-event : (es : List Entry) (e : Entry) (n : Event) → (header ++ entries_text 0 (es ++ e ∷ [])) ++ (event_line n ++ 10 ∷ []) ≡ header ++ entries_text 0 (es ++ with_event e n ∷ [])
adds-event es e n =
    let line = event_line n ++ 10 ∷ [] in
    let head = entry_line (length es) e in
    append_assoc header (entries_text 0 (es ++ e ∷ [])) line
    ∙ ap (λ t. header ++ t) (ap (λ t. t ++ line) (last-entry es e)
    ∙ append_assoc (entries_text 0 es) (entry_text (length es) e) line
    ∙ ap (λ t. entries_text 0 es ++ t) (append_assoc head (10 ∷ events_text e.events) line ∙ ap (λ t. head ++ 10 ∷ t) (sym (events-more e.events n)))
    ∙ sym (last-entry es (with_event e n)))

adds-ending : (es : List Entry) (spent : Bool) → (header ++ entries_text 0 es) ++ (ending_line spent (length es) ++ 10 ∷ []) ≡ text_of (transcript es spent)
adds-ending es spent = append_assoc header (entries_text 0 es) (ending_line spent (length es) ++ 10 ∷ [])

-- a line that is this text, and a stage that is that one
moved : (s t u : Stage) (line text : List ℕ) → Adds s text u → text ≡ line → u ≡ t → Adds s line t
moved s t u line text adds same there = subst (λ l. Adds s l t) same (subst (λ v. Adds s text v) there adds)

entry-adds : (es : List Entry) (last : Option Entry) (line : List ℕ) (words : List (List ℕ)) (t : Stage) → entry_stage (closed es last) line words ≡ Ok t → Adds (Within es last) line t
entry-adds es last line words t h =
    let xs = closed es last in
    let said = spelled-ok (λ e. Within xs (Some e)) (entry_line (length xs)) line (entry words) t h in
    moved (Within es last) t (Within xs (Some said.value)) line _ (adds-entry xs said.value (entry-silent words said.value said.read)) said.line_is said.stage

event-adds : (es : List Entry) (last : Option Entry) (line : List ℕ) (words : List (List ℕ)) (t : Stage) → event_stage es last line words ≡ Ok t → Adds (Within es last) line t
event-adds es None line words t h = no-error _ t h
event-adds es (Some e) line words t h =
    let said = spelled-ok (λ told. Within es (Some (with_event e told))) event_line line (event words) t h in
    moved (Within es (Some e)) t (Within es (Some (with_event e said.value))) line _ (adds-event es e said.value) said.line_is said.stage

one-ok : {P : Type 0} (words : List (List ℕ)) (f : List ℕ → Result Stage LineCause) (t : Stage) → ((w : List ℕ) → f w ≡ Ok t → P) → one words f ≡ Ok t → P
one-ok [] f t k h = no-error _ t h
one-ok (w ∷ []) f t k h = k w h
one-ok (w ∷ v ∷ ws) f t k h = no-error _ t h

ending-adds : (es : List Entry) (last : Option Entry) (spent : Bool) (line : List ℕ) (words : List (List ℕ)) (t : Stage) → ending_stage (closed es last) spent line words ≡ Ok t → Adds (Within es last) line t
ending-adds es last spent line words t h =
    let xs = closed es last in
    one-ok words (λ _. exactly (ending_line spent (length xs)) line (Over (transcript xs spent))) t
    (λ n r. let e = exactly-ok _ line _ t r in moved (Within es last) t (Over (transcript xs spent)) line (ending_line spent (length xs)) (adds-ending xs spent) e.0 e.1) h

within-adds : (es : List Entry) (last : Option Entry) (line : List ℕ) (words : List (List ℕ)) (t : Stage) → line_within es last line words ≡ Ok t → Adds (Within es last) line t
within-adds es last line [] t h = no-error _ t h
within-adds es last line (first ∷ words) t h =
    if-ok (begins_with_digit first) _ _ t (λ _ r. entry-adds es last line words t r)
    (λ _ r. if-ok (same_text first (codes "+")) _ _ t (λ _ r. event-adds es last line words t r)
    (λ _ r. if-ok (same_text first (codes "end")) _ _ t (λ _ r. ending-adds es last false line words t r)
    (λ _ r. if-ok (same_text first (codes "spent")) _ _ t (λ _ r. ending-adds es last true line words t r) (λ _ r. no-error _ t r) r) r) r) h

header-adds : (line : List ℕ) (words : List (List ℕ)) (t : Stage) → header_line line words ≡ Ok t → Adds Awaited line t
header-adds line words t h =
    if-ok (same_text (codes "transcript 1") line) (Ok (Within [] None)) (Err (header_cause words)) t
    (λ same e. moved Awaited t (Within [] None) line (codes "transcript 1") refl (same-is _ line same) (cc)) (λ _ e. no-error _ t e) h

worded-ok : {P : Type 0} (words : List (List ℕ)) (read : Result Stage LineCause) (t : Stage) → (read ≡ Ok t → P) → worded words read ≡ Ok t → P
worded-ok words read t f h = if-ok (list_any is_empty_word words) (Err _) read t (λ _ r. no-error _ t r) (λ _ r. f r) h

begun-adds : (s : Stage) (line : List ℕ) (words : List (List ℕ)) (t : Stage) → begun s line words ≡ Ok t → Adds s line t
begun-adds Awaited line words t h = worded-ok words _ t (header-adds line words t) h
begun-adds (Within es last) line words t h = worded-ok words _ t (within-adds es last line words t) h
begun-adds (Over run) line words t h = no-error _ t h

judge-adds : (s : Stage) (line : List ℕ) (t : Stage) → judge s line ≡ Ok t → Adds s line t
unfolding judge
judge-adds s line t h = if-ok (list_all is_printable line) _ (Err _) t (λ _ r. begun-adds s line (words_of line) t r) (λ _ r. no-error _ t r) h

end-text : (s : Stage) (n : ℕ) (whole : Bool) (run : Transcript) → at_end s n whole ≡ Ok run → (whole ≡ true) × (stage_text s ≡ text_of run)
end-text Awaited n true run h = absurd (cc)
end-text (Within xs last) n true run h = absurd (cc)
end-text (Over r) n true run h = (refl, ap text_of (cc))
end-text s n false run h = absurd (cc)

next-text : (s : Stage) (n : ℕ) (line rest : List ℕ) (whole : Bool) (r : Result Stage LineCause) (f : Stage → Result Transcript (ℕ × LineCause)) (run : Transcript) →
    ((t : Stage) → r ≡ Ok t → Adds s line t) → ((t : Stage) → f t ≡ Ok run → (whole ≡ true) × (stage_text t ++ rest ≡ text_of run)) →
    next_line n r f ≡ Ok run → (whole ≡ true) × (stage_text s ++ (line ++ 10 ∷ rest) ≡ text_of run)
next-text s n line rest whole (Ok t) f run adds more h =
    let m = more t h in (
      m.0,
      ap (λ x. stage_text s ++ x) (sym (append_assoc line (10 ∷ []) rest)) ∙ sym (append_assoc (stage_text s) (line ++ 10 ∷ []) rest) ∙ ap (λ x. x ++ rest) (adds t refl) ∙ m.1,
    )
next-text s n line rest whole (Err e) f run adds more h = absurd (cc)

read-text : (s : Stage) (n : ℕ) (lines : List (List ℕ)) (whole : Bool) (run : Transcript) → read_from s n lines whole ≡ Ok run → (whole ≡ true) × (stage_text s ++ with_feeds lines ≡ text_of run)
read-text s n [] whole run h = let e = end-text s n whole run h in (e.0, append-nil (stage_text s) ∙ e.1)
read-text s n (line ∷ lines) whole run h =
    next-text s n line (with_feeds lines) whole (judge s line) (λ t. read_from t (n + 1) lines whole) run (λ t r. judge-adds s line t r) (λ t r. read-text t (n + 1) lines whole run r) h

-- all parts but the last with their line feeds, and the last, are the text
abbrev join-parts : List (List ℕ) → List ℕ
join-parts ps = with_feeds (front_parts ps) ++ last_part ps

join-first : (x : ℕ) (ps : List (List ℕ)) → join-parts (onto_first x ps) ≡ x ∷ join-parts ps
join-first x [] = refl
join-first x (p ∷ []) = refl
join-first x (p ∷ q ∷ ps) = refl

join-feed : (ps : List (List ℕ)) → 0 < length ps → join-parts ([] ∷ ps) ≡ 10 ∷ join-parts ps
join-feed [] h = absurd (omega arith)
join-feed (p ∷ ps) h = refl

whole-text : (xs : List ℕ) → join-parts (slice_split (λ b. nat_eq b 10) xs) ≡ xs
whole-text [] = refl
whole-text (x ∷ xs) =
    elim (nat_eq x 10) as (λ b. nat_eq x 10 ≡ b → join-parts (cond b ([] ∷ slice_split (λ b. nat_eq b 10) xs) (onto_first x (slice_split (λ b. nat_eq b 10) xs))) ≡ x ∷ xs) [
      | true ↦ λ same. join-feed (slice_split (λ b. nat_eq b 10) xs) (some_part xs) ∙ ap (λ t. 10 ∷ t) (whole-text xs) ∙ ap (λ b. b ∷ xs) (sym ((Decides-eqb x 10).0 same))
      | false ↦ λ _. join-first x (slice_split (λ b. nat_eq b 10) xs) ∙ ap (λ t. x ∷ t) (whole-text xs)
    ] refl

empty-is : (xs : List ℕ) → is_empty xs ≡ true → xs ≡ []
empty-is [] h = refl
empty-is (x ∷ xs) h = absurd (cc)

-- the transcript that is read is the one whose text these bytes are
pub text-of-read : (n : ℕ) (bytes : List ℕ) (run : Transcript) → transcript_of n bytes ≡ Ok run → bytes ≡ text_of run
text-of-read n bytes run h =
    let all = read-text Awaited n (ended_lines bytes) (is_ended bytes) run h in
    sym (whole-text bytes) ∙ ap (λ t. with_feeds (ended_lines bytes) ++ t) (empty-is _ all.0) ∙ append-nil (with_feeds (ended_lines bytes)) ∙ all.1

pub text-found : (n : ℕ) (bytes : List ℕ) (r : Result Transcript ScriptFault) → Reads r (transcript_of n bytes) → IfOk r (λ run. bytes ≡ text_of run)
text-found n bytes (Ok run) h = text-of-read n bytes run h
text-found n bytes (Err e) h = tt

pub ruleset whole_rules = (text-found)
