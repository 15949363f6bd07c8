-- Which words make a text out of their numbers, what is made of them, and what is told of it.
use Rattle.std.specs.Prelude.{◌≡◌, ℕ, ◌&&◌, nat_le, List, [], ◌∷◌, codes, if◌then◌else◌, Result, Ok, Err, Some, None, option_map}
use Rattle.std.specs.declared.option.Option.{Option}
use Rattle.std.specs.Io.KnownBytes.{Appends}
use Rattle.irq_bits.specs.declared.limits.TheConstants.{MAX_CPUS}
use Rattle.irq_base.specs.declared.fault.LineCause.{LineCause}
use Rattle.script_text.specs.Numbers.{number64}
use Rattle.script_text.specs.Words.{same_text}
use Rattle.workload_gen.specs.Laws.{IsInRange}
use Rattle.workload_gen.specs.Text.{workload_text}
use Rattle.workload_sum.specs.Summary.{IsSummary}
use Rattle.irqboard.specs.Commands.{command_of}
use Rattle.irqboard.specs.Output.{AppendsPart}
use Rattle.irqboard.specs.declared.making.Making.{Making}
use Rattle.irqboard.specs.declared.making.Making.TheVariants.{Gen, Sum}
use Rattle.irqboard.specs.declared.making.Storm.{Storm}
use Rattle.irqboard.specs.declared.outcome.Outcome.{Outcome}
use Rattle.irqboard.specs.declared.outcome.Outcome.TheVariants.{Fine, WriteFault, NoMemory}

-- ---- the words

-- a number of 64 bits, where it is one of a range
abbrev pub within : ℕ → ℕ → Result ℕ LineCause → Option ℕ
within least most (Ok n) = if nat_le least n && nat_le n most then Some n else None
within least most (Err cause) = None

-- a decimal number of a range, without leading zeros
abbrev pub number_in : ℕ → ℕ → List ℕ → Option ℕ
number_in least most word = within least most (number64 word)

-- three numbers, where all three are there
abbrev pub storm_with : Option ℕ → Option ℕ → Option ℕ → Option Storm
storm_with (Some start) (Some lines) (Some cpus) = Some (record { start = start; lines = lines; cpus = cpus })
storm_with _ _ _ = None

-- the numbers of a generated script: the start of 64 bits, at most 400,000 lines, and 1 to MAX_CPUS processors
abbrev pub storm_of : List (List ℕ) → Option Storm
storm_of (start ∷ (lines ∷ (cpus ∷ []))) =
    storm_with (number_in 0 0xffffffffffffffff start) (number_in 0 400000 lines) (number_in 1 MAX_CPUS cpus)
storm_of _ = None

-- a word, and its numbers behind it
abbrev pub making_of : List (List ℕ) → Option Making
making_of (word ∷ numbers) =
    if same_text word (codes "gen") then option_map Gen (storm_of numbers)
    else if same_text word (codes "sum") then option_map Sum (storm_of numbers)
    else None
making_of [] = None

-- the words ask for nothing that the program knows
abbrev pub AreNone : List (List ℕ) → Type 0
AreNone words = (command_of words ≡ None) × (making_of words ≡ None)

-- ---- what is made

-- the numbers are within the ranges of their word
abbrev pub CanBeMade : Making → Type 0
CanBeMade (Gen storm) = IsInRange storm.lines storm.cpus
CanBeMade (Sum storm) = IsInRange storm.lines storm.cpus

-- a text is the one that the word makes of its numbers: the generated script; the summary of its replay
abbrev pub IsMade : Making → List ℕ → Type 0
IsMade (Gen storm) text = text ≡ workload_text storm.start storm.lines storm.cpus
IsMade (Sum storm) text = IsSummary storm.start storm.lines storm.cpus text

-- what an answer tells of the output, where texts of this kind are made: a whole text was written; or a front of one that is not all of
-- it, where the sink failed; or nothing, where there was want of memory. There is no other answer
abbrev pub MakesRightly : (List ℕ → Type 0) → Option (List ℕ) → Option (List ℕ) → Outcome → Type 0
MakesRightly IsText old new Fine = (text : List ℕ) × IsText text × Appends old new text
MakesRightly IsText old new WriteFault = (text : List ℕ) × IsText text × AppendsPart old new text
MakesRightly IsText old new NoMemory = new ≡ old
MakesRightly IsText old new _ = ⊥
