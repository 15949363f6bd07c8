-- A step shows in its entry whether it is a publication; a publication reaches the registry; a step keeps the frame.
use Rattle.board_step.proofs.Basics.{routing_on, ◌≡◌, ◌+◌, Bool, true, false, if◌then◌else◌, cond, List, [], ◌∷◌, ◌++◌, length, Some, None, refl, sym, ap, ◌∙◌, arith, Option, Reason, first_of, Call, Caller, Refusal, Reply, Done, Removed, Nothing, Registry, Irqfd, Board, Plan, reply, ◌>>◌, Wishes, Outcome, run, range_reasons, unless_refused, inject_count, assigned, was_last_resampler, release, deassigned, number_of, plan_in_range, is_some, zero-add, count_by, sum_by-cons, SameFrame, run-bind, frame_stays, later_reasons, refusal_on as refusal_of, does_publish, publishes_unless, would_publish, plan_on, outcome_of, with_counts, counted, is_done, is_removed, did_publish, is_publication, reach, opening, StepsShowPublications, PublicationsReachTheRegistry, StepsKeepTheFrame, HistoriesKeepTheFrame, LegalHistoriesCount, spent_by, LimitsAreTold, words, WordsStayAlong, named_row, without_row}
use Rattle.board_step.proofs.Refusing.{refuses_first}
use Rattle.board_step.proofs.SoundOpening.{apics_many}
use Rattle.board_step.proofs.WordsStay.{words_stay}

-- ---- reasons

-- no reason of two lists holds
none_of_both : (rs qs : List Reason) → first_of (rs ++ qs) ≡ None → (first_of rs ≡ None) × (first_of qs ≡ None)
none_of_both [] qs is = (refl, is)
none_of_both (r ∷ rs) qs is = by_reason (none_of_both rs qs) r.0 is
  where
    by_reason : (first_of (rs ++ qs) ≡ None → (first_of rs ≡ None) × (first_of qs ≡ None)) → (t : Bool) → (if t then Some r.1 else first_of (rs ++ qs)) ≡ None → ((if t then Some r.1 else first_of rs) ≡ None) × (first_of qs ≡ None)
    by_reason again true is = cc
    by_reason again false is = again is

-- ---- answers

-- the first reply, if there is one
abbrev first_reply : List Reply → Reply
first_reply [] = Nothing
first_reply (r ∷ rs) = r

-- the last of one reply
pub last_is_one : (rs : List Reply) (q r : Reply) → rs ++ q ∷ [] ≡ r ∷ [] → r ≡ q
last_is_one [] q r is = sym (ap first_reply is)
last_is_one (p ∷ []) q r is = cc
last_is_one (p ∷ o ∷ rs) q r is = cc

-- where a plan that answers at its end answers once, that is the answer
answers_last : {A : Type 0} (m : Plan A) (q r : Reply) (b : Board) (ws : Wishes) → (run (m >> reply q) b ws).log.answers ≡ r ∷ [] → r ≡ q
answers_last m q r b ws is = last_is_one (run m b ws).log.answers q r (sym (ap (λ (o : Outcome (Unit {0})). o.log.answers) (run-bind (λ _. reply q) m b ws)) ∙ is)

module _ (b : Board) (caller : Caller) (ws : Wishes) where
  -- what a plan answers
  abbrev answers_of : Plan (Unit {0}) → List Reply
  answers_of m = (run m b ws).log.answers

  -- a plan that is not refused
  is_free : (refused : Option Refusal) (plan : Plan (Unit {0})) → refused ≡ None → answers_of (unless_refused refused plan) ≡ answers_of plan
  is_free refused plan is = ap (λ o. answers_of (unless_refused o plan)) is

  -- whether a call in range that is not refused is a publication shows in its answer
  shows_in_range : (call : Call) (r : Reply) → first_of (later_reasons b call) ≡ None → answers_of (plan_in_range (routing_on b) b.shape (number_of caller) call) ≡ r ∷ [] → does_publish b call ≡ did_publish call r
  shows_in_range (Call.Reroute rows) r free answers = ap (λ l. is_done (first_reply l)) answers
  shows_in_range (Call.Assign trigger gsi resample) r free answers =
      sym (ap is_done (answers_last (inject_count (routing_on b) b.shape gsi resample _) Done r _ ws (sym (is_free _ (assigned (routing_on b) b.shape b.registry b.counters trigger gsi resample) free) ∙ answers)))
  shows_in_range (Call.Watch counter gsi) r free answers = ap (λ l. is_done (first_reply l)) (sym (is_free _ _ free) ∙ answers)
  shows_in_range (Call.Unwatch counter gsi) r free answers = ap (λ l. is_done (first_reply l)) (sym (is_free _ _ free) ∙ answers)
  shows_in_range (Call.Deassign trigger gsi) r free answers = by_row (named_row b.registry.irqfds trigger gsi) answers
    where
      by_row : (row : Option Irqfd) → answers_of (deassigned (routing_on b) b.registry trigger gsi row) ≡ r ∷ [] → is_some row ≡ is_removed r
      by_row None answers = ap (λ l. is_removed (first_reply l)) answers
      by_row (Some row) answers =
          sym (ap is_removed (answers_last (release (routing_on b) gsi (was_last_resampler row (without_row b.registry.irqfds trigger gsi))) (Removed 1) r _ ws answers))
  shows_in_range _ r free answers = refl

  shows : (call : Call) (r : Reply) → answers_of (plan_on b caller call) ≡ r ∷ [] → would_publish b call ≡ did_publish call r
  shows call r answers = by_refusal (refusal_of b call) refl
    where
      by_refusal : (refused : Option Refusal) → refusal_of b call ≡ refused → publishes_unless refused b call ≡ did_publish call r
      by_refusal None is =
          let none = none_of_both (range_reasons b.shape call) (later_reasons b call) is in
          shows_in_range call r none.1 (sym (is_free _ (plan_in_range (routing_on b) b.shape (number_of caller) call) none.0) ∙ answers)
      by_refusal (Some refusal) is =
          sym (ap (did_publish call) (ap first_reply (sym answers ∙ (refuses_first b caller call ws refusal is).answers)) ∙ (grind arith))

pub steps_show_publications : StepsShowPublications
steps_show_publications b e c step = shows b e.caller step.wishes e.call e.reply step.replied

-- ---- the registry is reached

pub publications_reach_the_registry : PublicationsReachTheRegistry
publications_reach_the_registry b caller call = by_refusal (refusal_of b call) refl
  where
    by_refusal : (refused : Option Refusal) → refusal_of b call ≡ refused → publishes_unless refused b call ≡ true → reach b caller call Registry ≡ true
    by_refusal refused h1 h2 = grind (arith, none_of_both)

-- ---- the frame

-- what is counted of a board
record Counts (t : Bool) (o c : Board) : Type 0 where
  shape : c.shape ≡ o.shape
  lapics : length c.lapics ≡ length o.lapics
  length : c.length ≡ o.length + 1
  publications : c.publications ≡ (if t then o.publications + 1 else o.publications)

counts_with : (t : Bool) (o : Board) → Counts t o (with_counts t o)
counts_with true o = record { shape = refl; lapics = refl; length = refl; publications = refl }
counts_with false o = record { shape = refl; lapics = refl; length = refl; publications = refl }

pub steps_keep_the_frame : StepsKeepTheFrame
steps_keep_the_frame b e c step =
    let o = (outcome_of b e step.wishes).board in
    let frame : SameFrame o b = frame_stays (plan_on b e.caller e.call) b step.wishes in
    let counts : Counts (would_publish b e.call) o (counted b e.call o) = counts_with (would_publish b e.call) o in
    record {
      shape = ap (λ (x : Board). x.shape) (sym step.leads) ∙ counts.shape ∙ frame.shape;
      lapics = ap (λ (x : Board). length x.lapics) (sym step.leads) ∙ counts.lapics ∙ frame.lapics;
      length = ap (λ (x : Board). x.length) (sym step.leads) ∙ counts.length ∙ ap (λ n. n + 1) frame.length;
      publications =
          ap (λ (x : Board). x.publications) (sym step.leads)
          ∙ counts.publications
          ∙ ap (λ t. if t then o.publications + 1 else o.publications) (steps_show_publications b e c step)
          ∙ ap (λ n. if is_publication e then n + 1 else n) frame.publications;
    }

-- ---- histories

pub histories_keep_the_frame : HistoriesKeepTheFrame
histories_keep_the_frame b [] c same = record {
  shape = ap (λ (x : Board). x.shape) (sym same);
  lapics = ap (λ (x : Board). length x.lapics) (sym same);
  length = (let e = ap (λ (x : Board). x.length) same in omega arith);
  publications = (let e = ap (λ (x : Board). x.publications) same in omega arith);
}
histories_keep_the_frame b (e ∷ es) c (next, step, later) =
    let first = steps_keep_the_frame b e next step in
    let rest = histories_keep_the_frame next es c later in
    record {
      shape = rest.shape ∙ first.shape;
      lapics = rest.lapics ∙ first.lapics;
      length = (let p = rest.length in let q = first.length in omega arith);
      publications =
          by_entry (is_publication e) first.publications rest.publications
          ∙ ap (λ n. b.publications + n) (sym (sum_by-cons (λ x. cond (is_publication x) 1 0) e es));
    }
  where
    by_entry : (t : Bool) → next.publications ≡ (if t then b.publications + 1 else b.publications)
        → c.publications ≡ next.publications + count_by is_publication es
        → c.publications ≡ b.publications + (cond t 1 0 + count_by is_publication es)
    by_entry t h1 h2 = grind arith

pub legal_histories_count : LegalHistoriesCount
legal_histories_count shape es last leads =
    let after = histories_keep_the_frame (opening shape) es last leads in
    record {
      shape = after.shape;
      lapics = after.lapics ∙ apics_many shape.cpus;
      length = after.length ∙ zero-add (length es);
      publications = after.publications ∙ zero-add (count_by is_publication es);
    }

pub limits_are_told : LimitsAreTold
limits_are_told shape es last call leads =
    let after = legal_histories_count shape es last leads in
    λ i. spent_by (after.shape i) (after.length i) (after.publications i) (would_publish last call)

pub words_stay_along : WordsStayAlong
words_stay_along b [] c same none = ap words (sym same)
words_stay_along b (e ∷ es) c (next, step, later) none =
    by_entry (words_stay_along next es c later) (is_publication e) refl (sym (sum_by-cons (λ x. cond (is_publication x) 1 0) e es) ∙ none)
  where
    by_entry : (count_by is_publication es ≡ 0 → words c ≡ words next) → (t : Bool) → is_publication e ≡ t → cond t 1 0 + count_by is_publication es ≡ 0 → words c ≡ words b
    by_entry again true is none = absurd (omega arith)
    by_entry again false is none =
        again (let n : count_by is_publication es ≡ 0 = omega arith in n)
        ∙ words_stay b e next step (steps_show_publications b e next step ∙ is)
