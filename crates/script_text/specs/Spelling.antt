-- How calls and scripts are spelled: words with one space between them, each number in its one spelling.
use Rattle.std.specs.Prelude.{ℕ, Bool, true, false, List, [], ◌∷◌, ◌++◌, map, codes, Some, None}
use Rattle.std.specs.declared.option.Option.{Option}
use Rattle.std.specs.Fmt.{decimal}
use Rattle.irq_base.specs.Text.{caller_text}
use Rattle.irq_base.specs.declared.call.Call.{Call}
use Rattle.irq_base.specs.declared.call.Call.TheVariants.{Line, Msi, Write, Take, Assign, Deassign, Reroute, Attach, Detach, Watch}
use Rattle.irq_base.specs.declared.call.Call.TheVariants.{Unwatch, Tick, TickMode, PortOut, PortIn, Store, Load, Ack, Inta, Eoi}
use Rattle.irq_base.specs.declared.call.Row.{Row}
use Rattle.irq_base.specs.declared.call.Row.TheVariants.{Pic, Ioapic, Msi as MsiRow}
use Rattle.irq_base.specs.declared.call.Space.{Space}
use Rattle.irq_base.specs.declared.call.Space.TheVariants.{Port, Memory}
use Rattle.irq_base.specs.declared.shape.Shape.{Shape}
use Rattle.script_text.specs.declared.task.Task.{Task}
use Rattle.script_text.specs.declared.task.Task.TheVariants.{Once, Repeat, Serve}
use Rattle.script_text.specs.declared.task.ActorLine.{ActorLine}
use Rattle.script_text.specs.Numbers.{hex_text, value_width}
use Rattle.script_text.specs.Scripts.{Script}

abbrev pub level_word : Bool → List ℕ
level_word true = codes "up"
level_word false = codes "down"

abbrev pub switch_word : Bool → List ℕ
switch_word true = codes "on"
switch_word false = codes "off"

abbrev pub row_word : Row → List ℕ
row_word (Pic gsi n) = decimal gsi ++ (codes "=pic." ++ decimal n)
row_word (Ioapic gsi n) = decimal gsi ++ (codes "=io." ++ decimal n)
row_word (MsiRow gsi address payload) =
    decimal gsi ++ (codes "=msi." ++ (hex_text 8 address ++ (codes "." ++ hex_text 8 payload)))

-- a value has two digits for each byte of a length, which counts as at most 8, and at least one
abbrev pub value_text : ℕ → ℕ → List ℕ
value_text len value = hex_text (value_width len) value

-- the words of a binding: SPACE ADDR LEN C, and `match VALUE`
abbrev pub space_words : Space → ℕ → List (List ℕ)
space_words Port address = codes "port" ∷ hex_text 4 address ∷ []
space_words Memory address = codes "mem" ∷ hex_text 8 address ∷ []

abbrev pub match_words : ℕ → Option ℕ → List (List ℕ)
match_words len None = []
match_words len (Some want) = codes "match" ∷ value_text len want ∷ []

abbrev pub binding_words : Space → ℕ → ℕ → ℕ → Option ℕ → List (List ℕ)
binding_words space address len c want =
    space_words space address ++ (decimal len ∷ decimal c ∷ match_words len want)

abbrev pub resample_words : Option ℕ → List (List ℕ)
resample_words None = []
resample_words (Some c) = codes "resample" ∷ decimal c ∷ []

-- the words of a call, as a command
abbrev pub call_words : Call → List (List ℕ)
call_words (Line gsi line up) = codes "line" ∷ decimal gsi ∷ decimal line ∷ level_word up ∷ []
call_words (Msi address payload) = codes "msi" ∷ hex_text 8 address ∷ hex_text 8 payload ∷ []
call_words (Write c n) = codes "write" ∷ decimal c ∷ decimal n ∷ []
call_words (Take c) = codes "take" ∷ decimal c ∷ []
call_words (Assign c gsi resample) = codes "assign" ∷ decimal c ∷ decimal gsi ∷ resample_words resample
call_words (Deassign c gsi) = codes "deassign" ∷ decimal c ∷ decimal gsi ∷ []
call_words (Reroute rows) = codes "reroute" ∷ map row_word rows
call_words (Attach space address len c want) = codes "attach" ∷ binding_words space address len c want
call_words (Detach space address len c want) = codes "detach" ∷ binding_words space address len c want
call_words (Watch c gsi) = codes "watch" ∷ decimal c ∷ decimal gsi ∷ []
call_words (Unwatch c gsi) = codes "unwatch" ∷ decimal c ∷ decimal gsi ∷ []
call_words Tick = codes "tick" ∷ []
call_words (TickMode reinject) = codes "tickmode" ∷ switch_word reinject ∷ []
call_words (PortOut port len value) = codes "out" ∷ hex_text 4 port ∷ decimal len ∷ value_text len value ∷ []
call_words (PortIn port len) = codes "in" ∷ hex_text 4 port ∷ decimal len ∷ []
call_words (Store address len value) = codes "store" ∷ hex_text 8 address ∷ decimal len ∷ value_text len value ∷ []
call_words (Load address len) = codes "load" ∷ hex_text 8 address ∷ decimal len ∷ []
call_words Ack = codes "ack" ∷ []
call_words Inta = codes "inta" ∷ []
call_words Eoi = codes "eoi" ∷ []

-- each word with a space before it
abbrev pub spaced : List (List ℕ) → List ℕ
spaced [] = []
spaced (word ∷ words) = 32 ∷ (word ++ spaced words)

-- words with one space between them
abbrev pub joined : List (List ℕ) → List ℕ
joined [] = []
joined (word ∷ words) = word ++ spaced words

-- the words of what a line asks, and of an actor line
abbrev pub task_words : Task → List (List ℕ)
task_words (Once call) = call_words call
task_words (Repeat n call) = codes "repeat" ∷ decimal n ∷ call_words call
task_words (Serve n) = codes "serve" ∷ decimal n ∷ []

abbrev pub actor_words : ActorLine → List (List ℕ)
actor_words line = caller_text line.caller ∷ task_words line.task

-- every header, whether it could be left out or not
abbrev pub header_words : Shape → List (List (List ℕ))
header_words shape =
    (codes "irqboard" ∷ codes "1" ∷ [])
    ∷ (codes "cpus" ∷ decimal shape.cpus ∷ [])
    ∷ (codes "counters" ∷ decimal shape.counters ∷ [])
    ∷ (codes "tick" ∷ decimal shape.tick ∷ [])
    ∷ (codes "calls" ∷ decimal shape.calls ∷ [])
    ∷ (codes "publications" ∷ decimal shape.publications ∷ [])
    ∷ []

-- the lines of a script, each as its words
abbrev pub script_words : Script → List (List (List ℕ))
script_words s = header_words s.shape ++ (map actor_words s.lines ++ (codes "end" ∷ []) ∷ [])

-- each line with its line feed
abbrev pub with_feeds : List (List ℕ) → List ℕ
with_feeds [] = []
with_feeds (line ∷ lines) = line ++ 10 ∷ with_feeds lines

-- the text of a script
abbrev pub text_of : Script → List ℕ
text_of s = with_feeds (map joined (script_words s))
