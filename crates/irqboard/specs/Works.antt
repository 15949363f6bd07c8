-- What the work of a command on an input comes to, and what it writes.
use Rattle.std.specs.Prelude.{◌≡◌, ℕ, List, ◌++◌, codes, Ok, Err, Some, None}
use Rattle.std.specs.declared.option.Option.{Option}
use Rattle.std.specs.Fmt.{decimal}
use Rattle.irq_base.specs.declared.fault.LineCause.{LineCause}
use Rattle.irq_base.specs.declared.lists.Entry.{Entry}
use Rattle.irq_base.specs.declared.reply.Spent.{Spent as Limit}
use Rattle.script_text.specs.Scripts.{Script, script_of}
use Rattle.transcript.specs.declared.transcript.Transcript.{Transcript}
use Rattle.transcript.specs.Text.{text_of}
use Rattle.board_laws.specs.Lawful.{KeepsTheLaws}
use Rattle.replaying.specs.Replays.{run_of, Replays}
use Rattle.legal_check.specs.declared.verdict.Flaw.{Flaw}
use Rattle.legal_check.specs.declared.verdict.Flaw.TheVariants.{Asked, Reply, Ending}
use Rattle.legal_check.specs.declared.verdict.Verdict.{Verdict}
use Rattle.legal_check.specs.declared.verdict.Verdict.TheVariants.{Legal, NotAt}
use Rattle.legal_check.specs.Verdicts.{IsVerdict, KeepsIfLegal}
use Rattle.irqboard.specs.Parting.{script_and_transcript}
use Rattle.irqboard.specs.Runs.{IsLiveRun}
use Rattle.irqboard.specs.declared.live.Live.{Live}
use Rattle.irqboard.specs.declared.command.Command.{Command}
use Rattle.irqboard.specs.declared.command.Command.TheVariants.{Replay, Run, Check}
use Rattle.irqboard.specs.declared.outcome.Outcome.{Outcome}
use Rattle.irqboard.specs.declared.outcome.Outcome.TheVariants.{Fine, NotLegal, Spent}

-- ---- replay

-- the input is a script, and the text is the transcript of a replay of it, whose history keeps all laws; a limit stopped an actor, and the
-- first such actor at this one, or none did
pub record IsReplay (input : List ℕ) (spent : Option Limit) (text : List ℕ) : Type 0 where
  pub script : Script
  pub reads : script_of input ≡ Ok script
  pub history : List Entry
  pub replays : Replays script history spent
  pub laws : KeepsTheLaws script.shape history
  pub written : text ≡ text_of (run_of history spent)

-- ---- run

-- the input is a script, and the text is the transcript of a run of its actors on some running board
pub record IsRunText (input : List ℕ) (spent : Option Limit) (text : List ℕ) : Type 0 where
  pub live : Live
  pub run : IsLiveRun live input spent text

-- ---- check

abbrev pub flaw_text : Flaw → List ℕ
flaw_text Asked = codes "asked"
flaw_text Reply = codes "reply"
flaw_text Ending = codes "ending"

-- what is written of a verdict
abbrev pub verdict_text : Verdict → List ℕ
verdict_text Legal = codes "legal\n"
verdict_text (NotAt at flaw) = codes "not legal at " ++ (decimal at ++ (codes ": " ++ (flaw_text flaw ++ codes "\n")))

-- the input is a script and a transcript, and the text is that of the verdict on them
pub record IsCheck (input : List ℕ) (verdict : Verdict) (text : List ℕ) : Type 0 where
  pub script : Script
  pub run : Transcript
  pub reads : script_and_transcript input ≡ Ok (script, run)
  pub judged : IsVerdict script run verdict
  pub laws : KeepsIfLegal verdict script.shape run.history
  pub written : text ≡ verdict_text verdict

-- ---- a command

-- the work of a command on an input, where it was done: its answer, and the text that it writes
abbrev pub Works : Command → List ℕ → Outcome → List ℕ → Type 0
Works Replay input Fine text = IsReplay input None text
Works Replay input (Spent limit) text = IsReplay input (Some limit) text
Works Run input Fine text = IsRunText input None text
Works Run input (Spent limit) text = IsRunText input (Some limit) text
Works Check input Fine text = IsCheck input Legal text
Works Check input (NotLegal at flaw) text = IsCheck input (NotAt at flaw) text
Works _ input _ text = ⊥

-- the input has this first bad line, with this cause
abbrev pub HasBadLine : Command → List ℕ → ℕ → LineCause → Type 0
HasBadLine Replay input line cause = script_of input ≡ Err (line, cause)
HasBadLine Run input line cause = script_of input ≡ Err (line, cause)
HasBadLine Check input line cause = script_and_transcript input ≡ Err (line, cause)

-- the input has none
abbrev pub IsInGrammar : Command → List ℕ → Type 0
IsInGrammar Replay input = (s : Script) × (script_of input ≡ Ok s)
IsInGrammar Run input = (s : Script) × (script_of input ≡ Ok s)
IsInGrammar Check input = (both : Script × Transcript) × (script_and_transcript input ≡ Ok both)
