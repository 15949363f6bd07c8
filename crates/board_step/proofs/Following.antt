-- The choices of calls can be followed by what an entry shows.
use Rattle.board_step.proofs.Basics.{◌≡◌, true, not, List, [], ◌∷◌, ◌++◌, refl, sym, ap, ◌∙◌, append-nil, Call, Caller, Entry, Board, routing_of_registry, shown_wishes, Log, IsSteady, shown_followed, Manner, Keeps, steady_of, StepsAreFollowed, plan_on, outcome_of, counted, Step, wish_replied, wishes_told, wishes_shown, next_board, Leads, board_after}
use Rattle.board_step.proofs.CallManner.{replies_in, writes_in, refuses_in, call_keeps, or_true}
use Rattle.board_step.proofs.Shown.{wishes_replied, all_shown}

-- the manner of a call that may do all it can
abbrev free : Call → Manner
free call = record { replies = replies_in call; writes = true; refuses = true }

keeps_free : (b : Board) (caller : Caller) (call : Call) → Keeps (free call) (plan_on b caller call)
keeps_free b caller call = call_keeps (free call) (routing_of_registry b.registry b.shape.tick) b.shape caller call refl (record { replies = refl; writes = or_true (not (writes_in call)); refuses = or_true (not (refuses_in call)) })

pub calls_steadily : (b : Board) (caller : Caller) (call : Call) → IsSteady (plan_on b caller call)
calls_steadily b caller call = steady_of (free call) (plan_on b caller call) (keeps_free b caller call)

-- the wishes that an entry of a step shows are those of its sendings
pub wishes_are : (b : Board) (e : Entry) (c : Board) (s : Step b e c) → wishes_shown e ≡ shown_wishes (outcome_of b e s.wishes).log.sendings
wishes_are b e c s =
    ap (λ l. wishes_told e.events ++ l) (sym (append-nil (wish_replied e.reply)))
    ∙ ap (λ l. wishes_told l ++ wishes_replied (e.reply ∷ [])) (sym s.told)
    ∙ ap (λ l. wishes_told (outcome_of b e s.wishes).log.events ++ wishes_replied l) (sym s.replied)
    ∙ all_shown (free e.call) (plan_on b e.caller e.call) b s.wishes (keeps_free b e.caller e.call)

-- a step is followed by what its entry shows
pub steps_are_followed : StepsAreFollowed
steps_are_followed b e c s =
    let same = shown_followed (plan_on b e.caller e.call) b s.wishes (calls_steadily b e.caller e.call) in
    let log : (outcome_of b e (wishes_shown e)).log ≡ (outcome_of b e s.wishes).log = ap (λ ws. (outcome_of b e ws).log) (wishes_are b e c s) ∙ same.log in
    record {
      replied = ap (λ (l : Log). l.answers) log ∙ s.replied;
      told = ap (λ (l : Log). l.events) log ∙ s.told;
      logged = log;
      leads = ap (λ ws. counted b e.call (outcome_of b e ws).board) (wishes_are b e c s) ∙ ap (counted b e.call) same.board ∙ s.leads;
    }

-- one step leads to the board that its entry tells
pub next_is : (b : Board) (e : Entry) (c : Board) → Step b e c → next_board b e ≡ c
next_is b e c s = (steps_are_followed b e c s).leads

pub board_after_is_reached : (b : Board) (es : List Entry) (c : Board) → Leads b es c → board_after b es ≡ c
board_after_is_reached b [] c leads = leads
board_after_is_reached b (e ∷ es) c (next, step, leads) = ap (λ x. board_after x es) (next_is b e next step) ∙ board_after_is_reached next es c leads
