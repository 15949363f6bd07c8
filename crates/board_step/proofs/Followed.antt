-- A board in code follows an entry exactly where it is a step.
use Rattle.board_step.proofs.Basics.{◌≡◌, ◌+◌, ◌<◌, ◌≤◌, Bool, List, [], ◌∷◌, length, Some, None, sym, ap, ◌∙◌, subst, arith, with_told, Call, Caller, Event, Entry, Reply, Spent, Board, Wishes, Log, ◌↔◌, IsTrue, DoneCall as Done, told-fits, Applied, LeadsOn, Ran, entry_of, wishes_shown, IsSound, spent_of, outcome_of, Step}
use Rattle.board_step.proofs.CountingAnswers.{steps_tell_few}
use Rattle.board_step.proofs.Following.{steps_are_followed}

first_is : (r s : Reply) → r ∷ [] ≡ s ∷ [] → r ≡ s
first_is r s e = cc

none_is : (spent : Spent) → None ≡ Some spent → ⊥
none_is spent e = cc

-- all events of a step find room
all_told : (b : Board) (e : Entry) (c : Board) → IsSound b → Step b e c → with_told [] e.events ≡ e.events
all_told b e c sound step =
    let few : length e.events ≤ 560 = steps_tell_few b e c sound step in
    let fits : length {A = Event} [] + length e.events ≤ 640 = omega (arith, few) in
    told-fits [] e.events fits

module _ (b : Board) (sound : IsSound b) (caller : Caller) (call : Call) (reply : Reply) (events : List Event) where
  abbrev entry : Entry
  entry = entry_of caller call reply events

  -- no step tells so many events
  pub never_many : 560 < length events → LeadsOn b entry → ⊥
  never_many many (next, step) = let few : length events ≤ 560 = steps_tell_few b entry next sound step in omega (arith, many, few)

  -- no step is there where a limit bars the call
  pub never_spent : (spent : Spent) → spent_of b call ≡ Some spent → LeadsOn b entry → ⊥
  never_spent spent is (next, step) = none_is spent (sym step.in_limits ∙ is)

  -- a call was made under the wishes that the entry shows, and t tells whether it had this reply and these events
  module _ (ws : Wishes) (before now : List Event) (done : Done) (new : Board) (t : Bool) (shown : ws ≡ wishes_shown entry) (none : before ≡ [])
      (ran : Ran b caller call ws done.reply before now) (applied : Applied b caller call done before now new)
      (tells : IsTrue t ↔ ((done.reply ≡ reply) × (now ≡ events))) where
    -- where it had them, it made the step
    pub had_leads : IsTrue t → Step b entry new
    had_leads is =
        let had = tells.0 is in
        let all : applied.told ≡ events =
        sym (all_told b (entry_of caller call done.reply applied.told) new sound applied.step) ∙ (λ i. with_told (sym none i) applied.told) ∙ sym applied.events ∙ had.1 in
        subst (λ (x : Reply × List Event). Step b (entry_of caller call x.0 x.1) new) (λ i. (had.0 i, all i)) applied.step

    -- where there is a step, it had them
    leads_had : LeadsOn b entry → IsTrue t
    leads_had (next, step) =
        let followed = steps_are_followed b entry next step in
        let same : (outcome_of b entry ws).log ≡ (outcome_of b entry (wishes_shown entry)).log = ap (λ wishes. (outcome_of b entry wishes).log) shown in
        tells.1 (
          first_is done.reply reply (sym ran.answers ∙ ap (λ (l : Log). l.answers) same ∙ followed.replied),
          ran.events ∙ (λ i. with_told (none i) (same i).events) ∙ ap (with_told []) followed.told ∙ all_told b entry next sound step,
        )

    pub had_exactly : IsTrue t ↔ LeadsOn b entry
    had_exactly = (λ is. (new, had_leads is), leads_had)
