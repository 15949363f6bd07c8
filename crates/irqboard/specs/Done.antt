-- What the code of a command answers.
use Rattle.std.specs.Prelude.{ℕ, List, Some, None}
use Rattle.std.specs.declared.option.Option.{Option}
use Rattle.irq_base.specs.declared.reply.Spent.{Spent as Limit}
use Rattle.script_text.specs.declared.script.ScriptFault.{ScriptFault}
use Rattle.script_text.specs.declared.script.ScriptFault.TheVariants.{BadLine, NoMemory}
use Rattle.legal_check.specs.declared.verdict.Verdict.{Verdict}
use Rattle.legal_check.specs.declared.verdict.Verdict.TheVariants.{Legal, NotAt}
use Rattle.irqboard.specs.Works.{HasBadLine}
use Rattle.irqboard.specs.declared.command.Command.{Command}
use Rattle.irqboard.specs.declared.outcome.Outcome.{Outcome}
use Rattle.irqboard.specs.declared.outcome.Outcome.TheVariants.{Fine, NotLegal, Spent}

-- of a replay whose whole text was written, and of a check
abbrev pub answer_of_replay : Option Limit → Outcome
answer_of_replay None = Fine
answer_of_replay (Some limit) = Spent limit

abbrev pub answer_of_check : Verdict → Outcome
answer_of_check Legal = Fine
answer_of_check (NotAt at flaw) = NotLegal at flaw

-- where the work was not done, the input has that bad line; of want of memory nothing is said
abbrev pub HasFault : Command → List ℕ → ScriptFault → Type 0
HasFault command input (BadLine line cause) = HasBadLine command input line cause
HasFault command input NoMemory = Unit {0}
