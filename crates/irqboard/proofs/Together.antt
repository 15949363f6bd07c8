-- Work that was done, put together.
use Rattle.std.proofs.Common.{◌≡◌, ℕ, List, Bool, is_some, Ok, Some, None, ap, ◌∙◌}
use Rattle.std.specs.declared.option.Option.{Option}
use Rattle.irq_base.specs.declared.lists.Entry.{Entry}
use Rattle.irq_base.specs.declared.reply.Spent.{Spent as Limit}
use Rattle.script_text.specs.Scripts.{Script, script_of}
use Rattle.transcript.specs.declared.transcript.Transcript.{Transcript}
use Rattle.transcript.specs.Reading.{transcript_of}
use Rattle.transcript.specs.Text.{text_of}
use Rattle.board_laws.specs.Lawful.{LegalHistoriesKeepTheLaws}
use Rattle.replaying.specs.Replays.{Replays}
use Rattle.legal_check.specs.declared.verdict.Verdict.{Verdict}
use Rattle.legal_check.specs.declared.verdict.Verdict.TheVariants.{Legal, NotAt}
use Rattle.legal_check.specs.Verdicts.{IsVerdict, KeepsIfLegal}
use Rattle.irqboard.specs.Parting.{script_part, transcript_part, transcript_line, both_read}
use Rattle.irqboard.specs.Works.{IsReplay, IsCheck, verdict_text, Works}
use Rattle.irqboard.specs.Done.{answer_of_replay, answer_of_check}
use Rattle.irqboard.specs.declared.command.Command.TheVariants.{Replay, Check}

abbrev pub run_with : List Entry → Bool → Transcript
run_with history is_spent = record { history = history; spent = is_spent }

pub replay_done : (input : List ℕ) (s : Script) (history : List Entry) (spent : Option Limit) (ends : Bool) (text : List ℕ)
    → LegalHistoriesKeepTheLaws → script_of input ≡ Ok s → Replays s history spent → ends ≡ is_some spent → text ≡ text_of (run_with history ends)
    → Works Replay input (answer_of_replay spent) text
replay_done input s history spent ends text lawful reads replays ends_so written = by spent done
  where
    done : IsReplay input spent text
    done = record {
      script = s;
      reads = reads;
      history = history;
      replays = replays;
      laws = lawful s.shape history (replays.fits.board, replays.fits.stand.legal);
      written = written ∙ ap (λ t. text_of (run_with history t)) ends_so;
    }

    by : (spent : Option Limit) → IsReplay input spent text → Works Replay input (answer_of_replay spent) text
    by None d = d
    by (Some limit) d = d

pub check_done : (input : List ℕ) (s : Script) (run : Transcript) (verdict : Verdict) (text : List ℕ)
    → script_of (script_part input) ≡ Ok s → transcript_of (transcript_line input) (transcript_part input) ≡ Ok run
    → IsVerdict s run verdict → KeepsIfLegal verdict s.shape run.history → text ≡ verdict_text verdict → Works Check input (answer_of_check verdict) text
check_done input s run verdict text script transcript judged laws written = by verdict done
  where
    done : IsCheck input verdict text
    done = record {
      script = s;
      run = run;
      reads = (λ i. both_read (script i) (transcript i));
      judged = judged;
      laws = laws;
      written = written;
    }

    by : (v : Verdict) → IsCheck input v text → Works Check input (answer_of_check v) text
    by Legal d = d
    by (NotAt at flaw) d = d
