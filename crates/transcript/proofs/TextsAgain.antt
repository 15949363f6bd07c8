-- The text of a transcript is read as that transcript.
use Rattle.std.proofs.Common.{◌≡◌, ℕ, ◌+◌, ◌^◌, ◌<◌, Bool, true, false, List, [], ◌∷◌, ◌++◌, length, codes, Some, None, Ok, Err, if◌then◌else◌, refl, ap, sym, ◌∙◌, append_assoc, subst, All, nat_eq, arith}
use Rattle.std.specs.List.{list_all}
use Rattle.std.specs.declared.option.Option.{Option}
use Rattle.std.specs.declared.result.Result.{Result}
use Rattle.std.proofs.lemmas.List.{append-nil, length-append}
use Rattle.std.proofs.lemmas.List.Elements.{All-head, All-tail}
use Rattle.std.proofs.lemmas.List.Splits.{slice_split_at}
use Rattle.irq_base.specs.declared.event.Event.{Event}
use Rattle.irq_base.specs.declared.fault.LineCause.{LineCause}
use Rattle.irq_base.specs.declared.fault.LineCause.TheVariants.{Char}
use Rattle.irq_base.specs.declared.lists.Entry.{Entry}
use Rattle.script_text.specs.Words.{is_empty, words_of, ended_lines, is_ended, front_parts, last_part}
use Rattle.script_text.specs.Scripts.{is_printable}
use Rattle.script_text.proofs.LineCuts.{some_part, front-more, last-more}
use Rattle.script_text.proofs.ScriptsAgain.{no-feed}
use Rattle.transcript.specs.declared.reading.Stage.{Stage}
use Rattle.transcript.specs.declared.reading.Stage.TheVariants.{Awaited, Within, Over}
use Rattle.transcript.specs.declared.transcript.Transcript.{Transcript}
use Rattle.transcript.specs.Text.{entry_line, event_line, ending_line, events_text, entry_text, entries_text, text_of}
use Rattle.transcript.specs.Reading.{closed, with_event, transcript, begun, judge, next_line, read_from, transcript_of}
use Rattle.transcript.specs.Fitting.{FitsEvent, FitsEntry, IsTranscript}
use Rattle.transcript.proofs.LinesAgain.{begun_entry, entry-judged, event-judged, ending-judged}

-- what the bytes are, from a stage on
abbrev reading : Stage → ℕ → List ℕ → Result Transcript (ℕ × LineCause)
reading s n bytes = read_from s n (ended_lines bytes) (is_ended bytes)

-- a line that is read has no line feed in it
printable-of : (b : Bool) (r : Result Stage LineCause) (t : Stage) → (if b then r else Err Char) ≡ Ok t → b ≡ true
printable-of true r t h = refl
printable-of false r t h = absurd (cc)

read-printable : (s : Stage) (line : List ℕ) (t : Stage) → judge s line ≡ Ok t → list_all is_printable line ≡ true
unfolding judge
read-printable s line t h = printable-of (list_all is_printable line) (begun s line (words_of line)) t h

read-first : (s t : Stage) (n : ℕ) (line rest : List ℕ) → judge s line ≡ Ok t → reading s n (line ++ 10 ∷ rest) ≡ reading t (n + 1) rest
read-first s t n line rest ok =
    let parts = slice_split_at (λ b. nat_eq b 10) line 10 rest (no-feed line (read-printable s line t ok)) refl in
    let lines : ended_lines (line ++ 10 ∷ rest) ≡ line ∷ ended_lines rest = ap front_parts parts ∙ front-more line _ (some_part rest) in
    let whole : is_ended (line ++ 10 ∷ rest) ≡ is_ended rest = ap (λ ps. is_empty (last_part ps)) parts ∙ ap is_empty (last-more line _ (some_part rest)) in
    (λ i. read_from s n (lines i) (whole i)) ∙ ap (λ r. next_line n r (λ u. read_from u (n + 1) (ended_lines rest) (is_ended rest))) ok

-- events behind an entry
abbrev with_events : Entry → List Event → Entry
with_events e more = record e { events = e.events ++ more }

record EventsRead (es : List Entry) (last : Entry) (n : ℕ) (bytes : List ℕ) (whole : Entry) (rest : List ℕ) : Type 0 where
  m : ℕ
  same : reading (Within es (Some last)) n bytes ≡ reading (Within es (Some whole)) m rest

events-read : (es : List Entry) (last : Entry) (more : List Event) (n : ℕ) (rest : List ℕ) → All FitsEvent more →
    EventsRead es last n (events_text more ++ rest) (with_events last more) rest
events-read es last [] n rest h = record {
  m = n;
  same = ap (λ v. reading (Within es (Some (record last { events = v }))) n rest) (sym (append-nil last.events));
}
events-read es last (e ∷ more) n rest h =
    let next = with_event last e in
    let line = event_line e in
    let r = events-read es next more (n + 1) rest (All-tail FitsEvent e more h) in
    record {
      m = r.m;
      same = ap (reading (Within es (Some last)) n) (append_assoc line (10 ∷ events_text more) rest)
          ∙ read-first (Within es (Some last)) (Within es (Some next)) n line (events_text more ++ rest) (event-judged es last e (All-head FitsEvent e more h))
          ∙ r.same
          ∙ ap (λ v. reading (Within es (Some (record last { events = v }))) r.m rest) (append_assoc last.events (e ∷ []) more);
    }

-- entries one after another
record EntriesRead (es : List Entry) (last : Option Entry) (n : ℕ) (bytes : List ℕ) (all : List Entry) (rest : List ℕ) : Type 0 where
  m : ℕ
  before : List Entry
  final : Option Entry
  same : reading (Within es last) n bytes ≡ reading (Within before final) m rest
  all_are : closed before final ≡ all

entries-read : (es : List Entry) (last : Option Entry) (more : List Entry) (n : ℕ) (rest : List ℕ) → All FitsEntry more → length (closed es last) + length more < 2 ^ 64 →
    EntriesRead es last n (entries_text (length (closed es last)) more ++ rest) (closed es last ++ more) rest
entries-read es last [] n rest h few = record { m = n; before = es; final = last; same = refl; all_are = sym (append-nil (closed es last)) }
entries-read es last (e ∷ more) n rest h few =
    let xs = closed es last in
    let k = length xs in
    let fits = All-head FitsEntry e more h in
    let line = entry_line k e in
    let behind = entries_text (k + 1) more ++ rest in
    let size : k + 1 ≡ length (xs ++ e ∷ []) = omega (arith, length-append xs (e ∷ [])) in
    let below : k < 2 ^ 64 = omega (arith, few) in
    let room : length (xs ++ e ∷ []) + length more < 2 ^ 64 = omega (arith, few, length-append xs (e ∷ [])) in
    let told = events-read xs (begun_entry e) e.events (n + 1) behind fits.events in
    let r = entries-read xs (Some e) more told.m rest (All-tail FitsEntry e more h) room in
    record {
      m = r.m;
      before = r.before;
      final = r.final;
      same = ap (reading (Within es last) n) (append_assoc (entry_text k e) (entries_text (k + 1) more) rest ∙ append_assoc line (10 ∷ events_text e.events) behind)
          ∙ read-first (Within es last) (Within xs (Some (begun_entry e))) n line (events_text e.events ++ behind) (entry-judged es last e fits below)
          ∙ told.same
          ∙ ap (λ j. reading (Within xs (Some e)) told.m (entries_text j more ++ rest)) size
          ∙ r.same;
      all_are = r.all_are ∙ append_assoc xs (e ∷ []) more;
    }

header-judged : judge Awaited (codes "transcript 1") ≡ Ok (Within [] None)
unfolding judge
header-judged = refl

pub text-again : (n : ℕ) (run : Transcript) → IsTranscript run → transcript_of n (text_of run) ≡ Ok run
text-again n run h =
    let ending = ending_line run.spent (length run.history) in
    let r = entries-read [] None run.history (n + 1) (ending ++ 10 ∷ []) h.entries (omega (arith, h.few)) in
    let small : length (closed r.before r.final) < 2 ^ 64 = subst (λ xs. length xs < 2 ^ 64) (sym r.all_are) h.few in
    let ended : judge (Within r.before r.final) ending ≡ Ok (Over run) =
    subst (λ xs. judge (Within r.before r.final) (ending_line run.spent (length xs)) ≡ Ok (Over (transcript xs run.spent))) r.all_are
    (ending-judged r.before r.final run.spent small) in
    read-first Awaited (Within [] None) n (codes "transcript 1") (entries_text 0 run.history ++ (ending ++ 10 ∷ [])) header-judged
    ∙ r.same ∙ read-first (Within r.before r.final) (Over run) r.m ending [] ended
