-- A history that is said to be legal keeps all laws.
use Rattle.std.proofs.Common.{Ok, Err, IfOk}
use Rattle.std.specs.declared.result.Result.{Result}
use Rattle.script_text.specs.Scripts.{Script}
use Rattle.transcript.specs.declared.transcript.Transcript.{Transcript}
use Rattle.board_laws.specs.Lawful.{LegalHistoriesKeepTheLaws}
use Rattle.legal_check.specs.declared.verdict.Verdict.{Verdict}
use Rattle.legal_check.specs.declared.verdict.Verdict.TheVariants.{Legal, NotAt}
use Rattle.legal_check.specs.Verdicts.{IsVerdict, KeepsIfLegal}

pub kept_if_legal : {E : Type 0} (s : Script) (run : Transcript) (r : Result Verdict E) → LegalHistoriesKeepTheLaws → IfOk r (IsVerdict s run)
    → IfOk r (λ verdict. KeepsIfLegal verdict s.shape run.history)
kept_if_legal s run (Ok Legal) lawful fits = lawful s.shape run.history (fits.board, fits.stand.legal)
kept_if_legal s run (Ok (NotAt place flaw)) lawful is = tt
kept_if_legal s run (Err fault) lawful is = tt

pub ruleset kept_rules = (kept_if_legal)
