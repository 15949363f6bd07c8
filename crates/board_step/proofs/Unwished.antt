-- A call of which nothing is wished, with all its events.
use Rattle.board_step.proofs.Basics.{◌≡◌, ◌≤◌, List, [], length, Ok, Err, IfOk, refl, sym, ◌∙◌, subst, arith, take_all, with_told, Call, Caller, Event, Entry, DoneCall as Done, Spent, Board, Outcome, Applied, Ran, UnwishedStep, entry_of, IsSound, outcome_of, counted, Step}
use Rattle.std.specs.declared.result.Result.{Result}
use Rattle.board_step.proofs.CountingAnswers.{steps_tell_few}
use Rattle.board_step.proofs.Steps.{leads_to_one}

-- so few events have room
told_whole : (told : List Event) → length told ≤ 560 → with_told [] told ≡ told
unfolding with_told
told_whole told few = take_all 640 told (omega (arith, few))

module _ (b : Board) (who : Caller) (call : Call) (done : Done) (now : List Event) (c : Board)
    (sound : IsSound b) (applied : Applied b who call done [] now c) (ran : Ran b who call [] done.reply [] now) where
  abbrev entry : Entry
  entry = entry_of who call done.reply now

  abbrev outcome : Outcome (Unit {0})
  outcome = outcome_of b entry []

  -- the list has all events of the step
  step : Step b entry c
  step = subst (λ es. Step b (entry_of who call done.reply es) c)
      (sym (applied.events ∙ told_whole applied.told (steps_tell_few b (entry_of who call done.reply applied.told) c sound applied.step))) applied.step

  -- and of the run with no wish, whatever it leads to
  answered : (events : List Event) → events ≡ outcome.log.events → Step b (entry_of who call done.reply events) (counted b call outcome.board)
  answered events is = record {
    allowed = applied.step.allowed;
    in_limits = applied.step.in_limits;
    wishes = [];
    replied = ran.answers;
    told = sym is;
    leads = refl;
  }

  told : now ≡ outcome.log.events
  told = ran.events
      ∙ told_whole outcome.log.events (steps_tell_few b (entry_of who call done.reply outcome.log.events) (counted b call outcome.board) sound (answered outcome.log.events refl))

  pub unwished : UnwishedStep b entry c
  unwished =
      let leads = leads_to_one b entry (counted b call outcome.board) c (answered now told) step in (
        record {
          allowed = applied.step.allowed;
          in_limits = applied.step.in_limits;
          wishes = [];
          replied = ran.answers;
          told = sym told;
          leads = leads;
        },
        refl,
      )

-- in a list that was empty
pub unwished_by : (b : Board) (who : Caller) (call : Call) (result : Result Done Spent) (before now : List Event) (c : Board) → IsSound b → before ≡ []
    → IfOk result (λ done. Applied b who call done before now c) → IfOk result (λ done. Ran b who call [] done.reply before now)
    → IfOk result (λ done. UnwishedStep b (entry_of who call done.reply now) c)
unwished_by b who call (Ok done) before now c sound empty applied ran =
    unwished b who call done now c sound (subst (λ es. Applied b who call done es now c) empty applied) (subst (λ es. Ran b who call [] done.reply es now) empty ran)
unwished_by b who call (Err spent) before now c sound empty applied ran = tt

-- and the place
pub placed_by : (b : Board) (who : Caller) (call : Call) (result : Result Done Spent) (before now : List Event) (c : Board)
    → IfOk result (λ done. Applied b who call done before now c) → IfOk result (λ done. done.at ≡ b.length)
placed_by b who call (Ok done) before now c applied = applied.at
placed_by b who call (Err spent) before now c applied = tt

-- what `Board::apply` ensures, of the list that it has cleared
pub ruleset applied_whole = (unwished_by, placed_by)
