-- The grammar of scripts: header lines, actor lines, and the first bad line with its cause.
use Rattle.std.specs.Prelude.{ℕ, ◌+◌, Bool, true, false, not, ◌&&◌, ◌||◌, nat_eq, nat_lt, nat_le, List, [], ◌∷◌, ◌++◌, take, drop}
use Rattle.std.specs.Prelude.{length, slice_index, codes, Ok, Err, if◌then◌else◌}
use Rattle.std.specs.List.{list_all, list_any}
use Rattle.std.specs.declared.result.Result.{Result}
use Rattle.irq_base.specs.Callers.{is_allowed}
use Rattle.irq_base.specs.declared.call.Call.TheVariants.{Ack}
use Rattle.irq_base.specs.declared.call.Caller.{Caller}
use Rattle.irq_base.specs.declared.call.Caller.TheVariants.{Device, Cpu}
use Rattle.irq_base.specs.declared.shape.Shape.{Shape}
use Rattle.irq_base.specs.declared.fault.LineCause.{LineCause}
use Rattle.irq_base.specs.declared.fault.LineCause.TheVariants.{Cut, Char, End, Word, Count, Actor}
use Rattle.script_text.specs.declared.task.Task.{Task}
use Rattle.script_text.specs.declared.task.Task.TheVariants.{Once, Repeat, Serve}
use Rattle.script_text.specs.declared.task.ActorLine.{ActorLine}
use Rattle.script_text.specs.declared.judging.Place.{Place}
use Rattle.script_text.specs.declared.judging.Place.TheVariants.{Version, Cpus, Within, Over}
use Rattle.script_text.specs.Causes.{both, of_one, of_two}
use Rattle.script_text.specs.Words.{same_text, is_empty_word, ended_lines, is_ended, words_of, none}
use Rattle.script_text.specs.Numbers.{decimal_in, number16}
use Rattle.script_text.specs.Commands.{command, one_field}
use Rattle.irq_bits.specs.declared.limits.TheConstants.{MAX_CPUS}

-- a script: the board that it wants, and what its actors' lines ask, in the order of the file
pub record Script : Type 0 where
  pub shape : Shape
  pub lines : List ActorLine

-- a byte that a line may have
abbrev pub is_printable : ℕ → Bool
is_printable b = nat_le 0x20 b && nat_le b 0x7e

-- an empty line or a comment, which begins with `#`
abbrev pub is_passed_over : List ℕ → Bool
is_passed_over line = nat_eq (length line) 0 || nat_eq (slice_index line 0) 35

abbrev pub is_digit : ℕ → Bool
is_digit b = nat_le 48 b && nat_le b 57

-- an actor's name: `cpu` or `dev` and at least one digit; its number is one of 16 bits
abbrev pub caller : List ℕ → Result Caller LineCause
caller word =
    if nat_lt (length word) 4 || not (list_all is_digit (drop 3 word)) then Err Word
    else if same_text (take 3 word) (codes "cpu") then of_one (λ n. Cpu n) (number16 (drop 3 word))
    else if same_text (take 3 word) (codes "dev") then of_one (λ n. Device n) (number16 (drop 3 word))
    else Err Word

-- how often, at `repeat` and `serve`
abbrev pub times_of : List ℕ → Result ℕ LineCause
times_of word = decimal_in 1 1000000 word

-- `repeat N COMMAND`, where the command is one of the table
abbrev pub repeated : List (List ℕ) → Result Task LineCause
repeated (n ∷ name ∷ words) = of_two (λ n call. Repeat n call) (times_of n) (command name words)
repeated _ = Err Word

-- what a line asks
abbrev pub task : List ℕ → List (List ℕ) → Result Task LineCause
task name words =
    if same_text name (codes "repeat") then repeated words
    else if same_text name (codes "serve") then one_field (λ n. Serve n) times_of words
    else of_one (λ call. Once call) (command name words)

-- the actor is there and may ask this; `serve` asks what `ack` does
abbrev pub may_ask : Shape → Caller → Task → Bool
may_ask shape who (Once call) = is_allowed who call shape
may_ask shape who (Repeat n call) = is_allowed who call shape
may_ask shape who (Serve n) = is_allowed who Ack shape

abbrev pub if_allowed : Shape → Result (Caller × Task) LineCause → Result ActorLine LineCause
if_allowed shape (Ok (who, task)) = if may_ask shape who task then Ok (record { caller = who; task = task }) else Err Actor
if_allowed shape (Err cause) = Err cause

-- an actor line: a name and what is asked, each judged by itself, and then whether the actor may
abbrev pub actor_line : Shape → List (List ℕ) → Result ActorLine LineCause
actor_line shape (who ∷ name ∷ words) = if_allowed shape (both (caller who) (task name words))
actor_line shape _ = Err Word

-- where a script stands behind a line, and what it has by then
abbrev pub Standing : Type 0
Standing = Place × Script

-- `irqboard 1`
abbrev pub version : Script → List (List ℕ) → Result Standing LineCause
version s (name ∷ []) = if same_text name (codes "irqboard") then Err Count else Err Word
version s (name ∷ number ∷ more) =
    if same_text name (codes "irqboard") && same_text number (codes "1") then none more (Cpus, s) else Err Word
version s [] = Err Word

-- `cpus N`
abbrev pub with_cpus : Script → ℕ → Standing
with_cpus s n = (Within 0, record s { shape = record s.shape { cpus = n } })

abbrev pub cpus : Script → List (List ℕ) → Result Standing LineCause
cpus s (name ∷ words) = if same_text name (codes "cpus") then one_field (with_cpus s) (decimal_in 1 MAX_CPUS) words else Err Word
cpus s [] = Err Word

-- the other headers, of which those below `past` are over
abbrev pub with_counters : Script → ℕ → Standing
with_counters s n = (Within 1, record s { shape = record s.shape { counters = n } })

abbrev pub with_tick : Script → ℕ → Standing
with_tick s n = (Within 2, record s { shape = record s.shape { tick = n } })

abbrev pub with_calls : Script → ℕ → Standing
with_calls s n = (Within 3, record s { shape = record s.shape { calls = n } })

abbrev pub with_publications : Script → ℕ → Standing
with_publications s n = (Within 4, record s { shape = record s.shape { publications = n } })

-- behind an actor line no header stands
abbrev pub with_line : Script → ActorLine → Standing
with_line s line = (Within 4, record s { lines = s.lines ++ line ∷ [] })

-- `counters N`, `tick G`, `calls N` and `publications N`, each at most once and in this order; actor lines; `end`
abbrev pub line_within : ℕ → Script → List (List ℕ) → Result Standing LineCause
line_within past s (name ∷ words) =
    if nat_lt past 1 && same_text name (codes "counters") then one_field (with_counters s) (decimal_in 0 256) words
    else if nat_lt past 2 && same_text name (codes "tick") then one_field (with_tick s) (decimal_in 0 4095) words
    else if nat_lt past 3 && same_text name (codes "calls") then one_field (with_calls s) (decimal_in 1 4000000) words
    else if nat_lt past 4 && same_text name (codes "publications") then one_field (with_publications s) (decimal_in 0 1048576) words
    else if same_text name (codes "end") then none words (Over, s)
    else of_one (with_line s) (actor_line s.shape (name ∷ words))
line_within past s [] = Err Word

-- a line that is not passed over, by what is awaited
abbrev pub by_place : Place → Script → List (List ℕ) → Result Standing LineCause
by_place Version s words = version s words
by_place Cpus s words = cpus s words
by_place (Within past) s words = line_within past s words
by_place Over s words = Err End

-- no word is empty: words are parted by one space, with none at either end
abbrev pub worded : Place → Script → List (List ℕ) → Result Standing LineCause
worded place s words = if list_any is_empty_word words then Err Word else by_place place s words

abbrev pub is_over : Place → Bool
is_over Over = true
is_over _ = false

-- what a line makes of what stands before it; behind `end` no line stands, of any kind
unfoldable pub judge : Place → Script → List ℕ → Result Standing LineCause
judge place s line =
    if not (list_all is_printable line) then Err Char
    else if is_over place then Err End
    else if is_passed_over line then Ok (place, s)
    else worded place s (words_of line)

-- the script, where the input ends at line n
abbrev pub at_end : Place → Script → ℕ → Bool → Result Script (ℕ × LineCause)
at_end place s n false = Err (n, Cut)
at_end Over s n true = Ok s
at_end place s n true = Err (n, End)

-- the lines from number n on
abbrev pub next_line : ℕ → Result Standing LineCause → (Standing → Result Script (ℕ × LineCause))
    → Result Script (ℕ × LineCause)
next_line n (Ok standing) rest = rest standing
next_line n (Err cause) rest = Err (n, cause)

abbrev pub script_from : Place → Script → ℕ → List (List ℕ) → Bool → Result Script (ℕ × LineCause)
script_from place s n [] whole = at_end place s n whole
script_from place s n (line ∷ lines) whole = next_line n (judge place s line) (λ t. script_from t.0 t.1 (n + 1) lines whole)

-- a script of which nothing is read: what holds where a header is left out
abbrev pub blank_script : Script
blank_script = record {
  shape = record { cpus = 1; counters = 16; tick = 0; calls = 1000000; publications = 1048576 };
  lines = [];
}

-- the script that these bytes are, or the first bad line, from 1, with its cause
abbrev pub script_of : List ℕ → Result Script (ℕ × LineCause)
script_of bytes = script_from Version blank_script 1 (ended_lines bytes) (is_ended bytes)
