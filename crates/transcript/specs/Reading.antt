-- How a transcript is read, line by line: the first bad line with its cause, or the transcript whose text it is.
use Rattle.std.specs.Prelude.{◌≡◌, ℕ, ◌+◌, Bool, true, false, ◌&&◌, List, [], ◌∷◌, ◌++◌, length, codes, Some, None, Ok, Err, if◌then◌else◌}
use Rattle.std.specs.List.{list_all, list_any}
use Rattle.std.specs.declared.option.Option.{Option}
use Rattle.std.specs.declared.result.Result.{Result}
use Rattle.irq_base.specs.declared.call.Call.{Call}
use Rattle.irq_base.specs.declared.call.Caller.{Caller}
use Rattle.irq_base.specs.declared.event.Event.{Event}
use Rattle.irq_base.specs.declared.fault.LineCause.{LineCause}
use Rattle.irq_base.specs.declared.fault.LineCause.TheVariants.{Cut, Char, End, Word, Count, Number}
use Rattle.irq_base.specs.declared.lists.Entry.{Entry}
use Rattle.irq_base.specs.declared.reply.Reply.{Reply}
use Rattle.script_text.specs.Causes.{of_one, of_three}
use Rattle.script_text.specs.Words.{same_text, is_empty_word, ended_lines, is_ended, words_of, one}
use Rattle.script_text.specs.Commands.{command}
use Rattle.script_text.specs.Scripts.{is_printable, is_digit, caller}
use Rattle.script_text.specs.declared.script.ScriptFault.{ScriptFault}
use Rattle.script_text.specs.declared.script.ScriptFault.TheVariants.{BadLine, NoMemory}
use Rattle.transcript.specs.declared.reading.Stage.{Stage}
use Rattle.transcript.specs.declared.reading.Stage.TheVariants.{Awaited, Within, Over}
use Rattle.transcript.specs.declared.transcript.Transcript.{Transcript}
use Rattle.transcript.specs.Fields.{reply, event}
use Rattle.transcript.specs.Text.{entry_line, event_line, ending_line}

-- ---- lines

-- a line is the one spelling of what its words say; another spelling is a wrong number
abbrev pub exactly : {A : Type 0} → List ℕ → List ℕ → A → Result A LineCause
exactly text line value = if same_text text line then Ok value else Err Number

abbrev pub spelled : {A : Type 0} → (A → List ℕ) → List ℕ → Result A LineCause → Result A LineCause
spelled text line (Ok value) = exactly (text value) line value
spelled text line (Err e) = Err e

-- the words before the first arrow, and those behind it, where there is one
abbrev pub before_arrow : List (List ℕ) → List (List ℕ)
before_arrow [] = []
before_arrow (word ∷ words) = if same_text word (codes "->") then [] else word ∷ before_arrow words

abbrev pub behind_arrow : List (List ℕ) → Option (List (List ℕ))
behind_arrow [] = None
behind_arrow (word ∷ words) = if same_text word (codes "->") then Some words else behind_arrow words

-- a reply behind an arrow
abbrev pub answer : Option (List (List ℕ)) → Result Reply LineCause
answer None = Err Count
answer (Some words) = reply words

-- the words of an entry behind its place: who asks, a command, and behind an arrow its reply; no event is told yet
abbrev pub asked_entry : Caller → Call → Reply → Entry
asked_entry who call reply = record { caller = who; call = call; reply = reply; events = [] }

abbrev pub entry : List (List ℕ) → Result Entry LineCause
entry (who ∷ name ∷ words) =
    of_three (λ w r c. asked_entry w c r) (caller who) (answer (behind_arrow words)) (command name (before_arrow words))
entry _ = Err Word

abbrev pub begins_with_digit : List ℕ → Bool
begins_with_digit [] = false
begins_with_digit (b ∷ word) = is_digit b

-- ---- what stands before a line, and what a line makes of it

-- the entries with the last one, to which events may still come
abbrev pub closed : List Entry → Option Entry → List Entry
closed entries None = entries
closed entries (Some last) = entries ++ last ∷ []

-- the next entry, whose place is the number of those before it
abbrev pub entry_stage : List Entry → List ℕ → List (List ℕ) → Result Stage LineCause
entry_stage entries line words = of_one (λ e. Within entries (Some e)) (spelled (entry_line (length entries)) line (entry words))

-- an event of the last entry
abbrev pub with_event : Entry → Event → Entry
with_event e told = record e { events = e.events ++ told ∷ [] }

abbrev pub event_stage : List Entry → Option Entry → List ℕ → List (List ℕ) → Result Stage LineCause
event_stage entries None line words = Err Word
event_stage entries (Some last) line words =
    of_one (λ told. Within entries (Some (with_event last told))) (spelled event_line line (event words))

-- the ending, with the number of entries
abbrev pub transcript : List Entry → Bool → Transcript
transcript entries spent = record { history = entries; spent = spent }

abbrev pub ending_stage : List Entry → Bool → List ℕ → List (List ℕ) → Result Stage LineCause
ending_stage entries spent line words =
    one words (λ _. exactly (ending_line spent (length entries)) line (Over (transcript entries spent)))

-- an entry, an event or the ending, by the first word
abbrev pub line_within : List Entry → Option Entry → List ℕ → List (List ℕ) → Result Stage LineCause
line_within entries last line [] = Err Word
line_within entries last line (name ∷ words) =
    if begins_with_digit name then entry_stage (closed entries last) line words
    else if same_text name (codes "+") then event_stage entries last line words
    else if same_text name (codes "end") then ending_stage (closed entries last) false line words
    else if same_text name (codes "spent") then ending_stage (closed entries last) true line words
    else Err Word

-- `transcript 1`; what is wrong with another line
abbrev pub header_cause : List (List ℕ) → LineCause
header_cause [] = Word
header_cause (name ∷ []) = if same_text name (codes "transcript") then Count else Word
header_cause (name ∷ number ∷ more) = if same_text name (codes "transcript") && same_text number (codes "1") then Count else Word

abbrev pub header : List ℕ → List (List ℕ) → Result Stage LineCause
header line words = if same_text (codes "transcript 1") line then Ok (Within [] None) else Err (header_cause words)

-- a line by what stands before it; behind the ending no line stands, of any kind, and no word is empty
abbrev pub worded : List (List ℕ) → Result Stage LineCause → Result Stage LineCause
worded words read = if list_any is_empty_word words then Err Word else read

abbrev pub begun : Stage → List ℕ → List (List ℕ) → Result Stage LineCause
begun Awaited line words = worded words (header line words)
begun (Within entries last) line words = worded words (line_within entries last line words)
begun (Over run) line words = Err End

unfoldable pub judge : Stage → List ℕ → Result Stage LineCause
judge stage line = if list_all is_printable line then begun stage line (words_of line) else Err Char

-- ---- a whole text

-- the transcript, where the text ends at line n
abbrev pub at_end : Stage → ℕ → Bool → Result Transcript (ℕ × LineCause)
at_end stage n false = Err (n, Cut)
at_end (Over run) n true = Ok run
at_end stage n true = Err (n, End)

-- the lines from number n on
abbrev pub next_line : ℕ → Result Stage LineCause → (Stage → Result Transcript (ℕ × LineCause)) → Result Transcript (ℕ × LineCause)
next_line n (Ok stage) rest = rest stage
next_line n (Err cause) rest = Err (n, cause)

abbrev pub read_from : Stage → ℕ → List (List ℕ) → Bool → Result Transcript (ℕ × LineCause)
read_from stage n [] whole = at_end stage n whole
read_from stage n (line ∷ lines) whole = next_line n (judge stage line) (λ s. read_from s (n + 1) lines whole)

-- the transcript that these bytes are, their first line having number n, or the first bad line with its cause
abbrev pub transcript_of : ℕ → List ℕ → Result Transcript (ℕ × LineCause)
transcript_of n bytes = read_from Awaited n (ended_lines bytes) (is_ended bytes)

-- what the reading answers; for want of memory nothing is said
abbrev pub Reads : Result Transcript ScriptFault → Result Transcript (ℕ × LineCause) → Type 0
Reads (Ok run) read = read ≡ Ok run
Reads (Err (BadLine line cause)) read = read ≡ Err (line, cause)
Reads (Err NoMemory) read = Unit {0}
