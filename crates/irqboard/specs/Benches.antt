-- What stands on the bench after an answer of the program.
use Rattle.std.specs.Prelude.{ℕ, List, Some, None}
use Rattle.std.specs.declared.option.Option.{Option}
use Rattle.irq_base.specs.declared.reply.Spent.{Spent as Limit}
use Rattle.irqboard.specs.Runs.{IsLiveRun, Ran, RanInPart}
use Rattle.irqboard.specs.declared.command.Command.{Command}
use Rattle.irqboard.specs.declared.command.Command.TheVariants.{Run}
use Rattle.irqboard.specs.declared.live.Live.{Live}
use Rattle.irqboard.specs.declared.outcome.Outcome.{Outcome}
use Rattle.irqboard.specs.declared.outcome.Outcome.TheVariants.{Fine, WriteFault, Spent}

-- the board on which a script ran is there
abbrev pub HasRan : Option Live → Option (List ℕ) → Option (List ℕ) → Option (List ℕ) → Option (List ℕ) → Option Limit → Type 0
HasRan None left left' held holds spent = ⊥
HasRan (Some live) left left' held holds spent = Ran live left left' held holds spent

-- the same, where the sink failed
abbrev pub HasRanInPart : Option Live → Option (List ℕ) → Option (List ℕ) → Option (List ℕ) → Option (List ℕ) → Type 0
HasRanInPart None left left' held holds = ⊥
HasRanInPart (Some live) left left' held holds = RanInPart live left left' held holds

-- Where `run` wrote its whole text, or a front of it before the sink failed, the board on which the script ran is there. After other
-- answers, and for other words, nothing is said. `left` and `held` are what the source has left and the sink holds before, and the
-- others after
abbrev pub LeavesRun : Command → Option Live → Option (List ℕ) → Option (List ℕ) → Option (List ℕ) → Option (List ℕ) → Outcome → Type 0
LeavesRun Run live left left' held holds Fine = HasRan live left left' held holds None
LeavesRun Run live left left' held holds (Spent limit) = HasRan live left left' held holds (Some limit)
LeavesRun Run live left left' held holds WriteFault = HasRanInPart live left left' held holds
LeavesRun _ live left left' held holds _ = Unit {0}

-- the work of `run` on an input, where it was done: the board, its answer, and its text
abbrev pub WorksLive : Live → List ℕ → Outcome → List ℕ → Type 0
WorksLive live input Fine text = IsLiveRun live input None text
WorksLive live input (Spent limit) text = IsLiveRun live input (Some limit) text
WorksLive live input _ text = ⊥
