-- A script and a transcript behind it, in one input (this board's own rule).
use Rattle.std.specs.Prelude.{ℕ, ◌+◌, ◌-◌, Bool, List, [], ◌∷◌, length, take, drop, codes, if◌then◌else◌, Ok, Err}
use Rattle.std.specs.declared.result.Result.{Result}
use Rattle.irq_base.specs.declared.fault.LineCause.{LineCause}
use Rattle.script_text.specs.Words.{same_text, ended_lines}
use Rattle.script_text.specs.Scripts.{Script, script_of}
use Rattle.transcript.specs.declared.transcript.Transcript.{Transcript}
use Rattle.transcript.specs.Reading.{transcript_of}

abbrev pub is_end_line : List ℕ → Bool
is_end_line line = same_text line (codes "end")

-- how many of these lines there are up to and with the first line `end`; all where there is none
abbrev pub lines_to_end : List (List ℕ) → ℕ
lines_to_end [] = 0
lines_to_end (line ∷ lines) = if is_end_line line then 1 else lines_to_end lines + 1

-- how many bytes they have, with their line feeds; all of so many bytes where there is none
abbrev pub bytes_to_end : ℕ → List (List ℕ) → ℕ
bytes_to_end all [] = all
bytes_to_end all (line ∷ lines) = length line + 1 + (if is_end_line line then 0 else bytes_to_end (all - (length line + 1)) lines)

-- the script is the input up to and with its first line `end`, and the transcript what stands behind it
abbrev pub script_part : List ℕ → List ℕ
script_part input = take (bytes_to_end (length input) (ended_lines input)) input

abbrev pub transcript_part : List ℕ → List ℕ
transcript_part input = drop (bytes_to_end (length input) (ended_lines input)) input

-- the number of the transcript's first line; lines are counted through the whole input, from 1
abbrev pub transcript_line : List ℕ → ℕ
transcript_line input = lines_to_end (ended_lines input) + 1

-- both, where both are read; a fault of the script comes before any of the transcript
abbrev pub both_read : Result Script (ℕ × LineCause) → Result Transcript (ℕ × LineCause) → Result (Script × Transcript) (ℕ × LineCause)
both_read (Ok s) (Ok run) = Ok (s, run)
both_read (Ok s) (Err fault) = Err fault
both_read (Err fault) read = Err fault

-- the script and the transcript that an input is, or its first bad line with its cause
abbrev pub script_and_transcript : List ℕ → Result (Script × Transcript) (ℕ × LineCause)
script_and_transcript input =
    both_read (script_of (script_part input)) (transcript_of (transcript_line input) (transcript_part input))
