-- The one spelling of a transcript.
use Rattle.std.specs.Prelude.{ℕ, ◌+◌, Bool, true, false, List, [], ◌∷◌, ◌++◌, length, codes}
use Rattle.std.specs.Fmt.{decimal}
use Rattle.irq_base.specs.Text.{caller_text, status_text, refusal_text, event_text}
use Rattle.irq_base.specs.declared.call.Call.{Call}
use Rattle.irq_base.specs.declared.call.Call.TheVariants.{Attach, Detach, PortOut, PortIn, Store, Load}
use Rattle.irq_base.specs.declared.reply.Reply.{Reply}
use Rattle.irq_base.specs.declared.reply.Reply.TheVariants.{Signal, Done, Count, Empty, Removed, Value, Exit, Vector, Extint, Nmi}
use Rattle.irq_base.specs.declared.reply.Reply.TheVariants.{Ended, Nothing, Held, Refused}
use Rattle.irq_base.specs.declared.event.Event.{Event}
use Rattle.irq_base.specs.declared.lists.Entry.{Entry}
use Rattle.script_text.specs.Numbers.{hex_text}
use Rattle.script_text.specs.Spelling.{call_words, spaced, value_text}
use Rattle.transcript.specs.declared.transcript.Transcript.{Transcript}

-- the length in bytes that a call has; 0 for a call that has none
abbrev pub len_of : Call → ℕ
len_of (Attach space address len c want) = len
len_of (Detach space address len c want) = len
len_of (PortOut port len value) = len
len_of (PortIn port len) = len
len_of (Store address len value) = len
len_of (Load address len) = len
len_of _ = 0

-- a vector has two digits
abbrev pub vector_text : ℕ → List ℕ
vector_text v = hex_text 2 v

-- the reply to a call of that length
abbrev pub reply_text : ℕ → Reply → List ℕ
reply_text len (Signal status) = status_text status
reply_text len Done = codes "done"
reply_text len (Count n) = codes "count " ++ decimal n
reply_text len Empty = codes "empty"
reply_text len (Removed n) = codes "removed " ++ decimal n
reply_text len (Value v) = codes "value " ++ value_text len v
reply_text len Exit = codes "exit"
reply_text len (Vector v) = codes "vector " ++ vector_text v
reply_text len (Extint v) = codes "extint " ++ vector_text v
reply_text len Nmi = codes "nmi"
reply_text len (Ended v) = codes "ended " ++ vector_text v
reply_text len Nothing = codes "nothing"
reply_text len (Held n) = codes "held " ++ decimal n
reply_text len (Refused refusal) = codes "refused " ++ refusal_text refusal

-- the line of an event
abbrev pub event_line : Event → List ℕ
event_line event = codes "+ " ++ event_text event

-- the line of an entry: its place, its caller, its call and, behind an arrow, its reply
abbrev pub answered_text : Call → Reply → List ℕ
answered_text call reply = spaced (call_words call) ++ (codes " -> " ++ reply_text (len_of call) reply)

abbrev pub entry_line : ℕ → Entry → List ℕ
entry_line place e = decimal place ++ (codes " " ++ (caller_text e.caller ++ answered_text e.call e.reply))

-- the last line, behind so many entries
abbrev pub ending_line : Bool → ℕ → List ℕ
ending_line true n = codes "spent " ++ decimal n
ending_line false n = codes "end " ++ decimal n

-- each event with its line feed
abbrev pub events_text : List Event → List ℕ
events_text [] = []
events_text (event ∷ events) = event_line event ++ 10 ∷ events_text events

-- an entry and its events
abbrev pub entry_text : ℕ → Entry → List ℕ
entry_text place e = entry_line place e ++ 10 ∷ events_text e.events

-- entries, the first of which stands at that place
abbrev pub entries_text : ℕ → List Entry → List ℕ
entries_text place [] = []
entries_text place (e ∷ es) = entry_text place e ++ entries_text (place + 1) es

-- the text of a transcript
abbrev pub text_of : Transcript → List ℕ
text_of run =
    codes "transcript 1\n" ++ (entries_text 0 run.history ++ (ending_line run.spent (length run.history) ++ codes "\n"))
