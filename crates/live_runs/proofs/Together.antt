-- The passes learn of each other after their actors ran: the history is what the first has seen, and a run of the script.
use Rattle.std.proofs.Common.{◌≡◌, ℕ, zero, suc, ◌<◌, ◌⊎◌, inl, inr, Bool, true, false, ◌||◌, List, [], ◌∷◌, length, All, is_some, Some, None, slice_index_or, refl, sym, ap, ◌∙◌, subst, arith}
use Rattle.std.proofs.lemmas.List.Elements.{All-head, All-tail}
use Rattle.std.specs.declared.option.Option.{Option}
use Rattle.irq_base.specs.declared.call.Call.{Call}
use Rattle.irq_base.specs.declared.call.Caller.{Caller}
use Rattle.irq_base.specs.declared.call.Caller.TheVariants.{Device}
use Rattle.irq_base.specs.declared.lists.Entry.{Entry}
use Rattle.irq_base.specs.declared.reply.Spent.{Spent}
use Rattle.irq_base.specs.declared.shape.Shape.{Shape}
use Rattle.script_text.specs.Asks.{actors_of}
use Rattle.script_text.specs.Scripts.{Script}
use Rattle.script_merging.specs.Merging.{next_of, Merges}
use Rattle.script_merging.proofs.Actors.{of-actors}
use Rattle.script_merging.proofs.Callers.{callers_same}
use Rattle.board_model.specs.Board.{Board}
use Rattle.board_step.specs.Applied.{is_reached}
use Rattle.board_step.specs.History.{opening, Leads, Legal, board_after}
use Rattle.board_step.specs.Step.{spent_of}
use Rattle.board_step.proofs.Following.{board_after_is_reached}
use Rattle.board_laws.specs.Lawful.{LegalHistoriesKeepTheLaws}
use Rattle.board_laws.proofs.Points.{split}
use Rattle.script_histories.specs.Merging.{EndsWell}
use Rattle.board_step.proofs.Faces.{spent_reached, stays_reached}
use Rattle.replaying.proofs.Barred.{stays_barred}
use Rattle.actors.specs.Runs.{calls_by}
use Rattle.turn_book.specs.Histories.{IsPrefix, is_in}
use Rattle.turn_book.proofs.Lists.{all_two}
use Rattle.part_slots.specs.Callers.{caller_number, is_caller}
use Rattle.part_board.specs.Closing.{has_pass, IsPassedOn}
use Rattle.part_board.specs.Facing.{placed_from, board_seen}
use Rattle.part_board.specs.declared.desk.Desk.{Desk}
use Rattle.part_board.specs.declared.pass.Pass.{Pass}
use Rattle.part_board.specs.Seen.{pass_seen, desk_view, has_made}
use Rattle.part_board.proofs.Faces.{own_stays}
use Rattle.live_runs.specs.Made.{callers_of, seen_by_first, HasLearnt, HasMadeJust}
use Rattle.live_runs.specs.Ran.{HasOwn, IsStopped, StopsAt, FirstStop, HaveRunBy}
use Rattle.live_runs.specs.Running.{WasBarred, ByNext, FirstBarred, IsRun}
use Rattle.live_runs.specs.Telling.{AllKnow}
use Rattle.live_runs.proofs.Passes.{callers_agree, same_passes}
use Rattle.live_runs.proofs.Places.{calls_are, own_is, own_none, silent_none}

none_some : {A : Type 0} (o : Option A) (x : A) → o ≡ None → o ≡ Some x → ⊥
none_some o x none some = cc

-- ---- callers of passes

module _ (Q : Caller → Type 0) where
  -- what holds of the caller of each pass, holds of each caller that has one
  of_pass : (passes : List Pass) → All (λ (p : Pass). Q p.caller) passes → (c : Caller) → has_pass passes c ≡ true → Q c
  of_pass [] all c has = absurd (cc)
  of_pass (p ∷ passes) all c has = by (of_pass passes (All-tail (λ (p : Pass). Q p.caller) p passes all) c) (is_caller p.caller c) refl has
    where
      by : (has_pass passes c ≡ true → Q c) → (t : Bool) → is_caller p.caller c ≡ t → (t || has_pass passes c) ≡ true → Q c
      by rest true is has = subst Q (callers_same p.caller c (sym (callers_agree p.caller c) ∙ is)) (All-head (λ (p : Pass). Q p.caller) p passes all)
      by rest false is has = rest has

  of_number : (passes : List Pass) → All (λ (p : Pass). Q p.caller) passes → (k : ℕ) → k < length (callers_of passes) → Q (slice_index_or (callers_of passes) k (Device 0))
  of_number [] all k low = absurd (omega (arith, low))
  of_number (p ∷ passes) all zero low = All-head (λ (p : Pass). Q p.caller) p passes all
  of_number (p ∷ passes) all (suc k) low = of_number passes (All-tail (λ (p : Pass). Q p.caller) p passes all) k (omega (arith, low))

  -- and of each actor, where there is a pass for each; another caller asks nothing
  of_actor : (s : Script) (passes : List Pass) → callers_of passes ≡ actors_of s.lines → All (λ (p : Pass). Q p.caller) passes → (c : Caller) → Q c ⊎ ((before : List Entry) → next_of s before c ≡ None)
  of_actor s passes callers all c = elim (of-actors s c) [
    | inl w ↦ inl (subst Q (ap (λ l. slice_index_or l w.0 (Device 0)) callers ∙ w.2) (of_number passes all w.0 (let low = w.1 in let many = ap length callers in omega (arith, low, many))))
    | inr silent ↦ inr silent
  ]

-- ---- boards on the way

-- what was barred, or reached, behind a part of a legal history still is behind all of it
module _ (shape : Shape) (point history : List Entry) (within : IsPrefix point history) (legal : Legal shape history) where
  leads : Leads (board_after (opening shape) point) within.0 legal.0
  leads = (split (opening shape) point within.0 legal.0 (subst (λ es. Leads (opening shape) es legal.0) (sym within.1) legal.1)).1

  ends : board_after (opening shape) history ≡ legal.0
  ends = board_after_is_reached (opening shape) history legal.0 legal.1

  pub still_barred : (call : Call) → is_some (spent_of (board_after (opening shape) point) call) ≡ true → is_some (spent_of legal.0 call) ≡ true
  still_barred call barred = stays_barred (board_after (opening shape) point) call within.0 legal.0 leads barred

  pub still_reached : (o : Option Spent) → is_reached (board_after (opening shape) point) o ≡ true → is_reached (board_after (opening shape) history) o ≡ true
  still_reached o is = subst (λ (b : Board). is_reached b o ≡ true) (sym ends) (stays_reached (board_after (opening shape) point) o within.0 legal.0 leads is)

-- ---- the first limit

by_next : (o : Option Call) (A C : Type 0) (B D : Call → Type 0) → (A → C) → ((call : Call) → B call → D call) → ByNext o A B → ByNext o C D
by_next None A C B D f g x = f x
by_next (Some call) A C B D f g x = g call x

module _ (s : Script) (history : List Entry) (spent : Option Spent) where
  abbrev OfShape : Pass → Type 0
  OfShape p = p.shape ≡ s.shape

  was_barred : (p : Pass) → OfShape p → IsPassedOn history p → (call : Call) → StopsAt spent p call → WasBarred s history spent p.caller call
  was_barred p shape on call (told, bars) = record {
    point = pass_seen p;
    within = on.seen;
    own = on.own;
    told = told;
    bars = subst (λ (sh : Shape). spent_of (board_after (opening sh) (pass_seen p)) call ≡ spent) shape bars;
  }

  first_barred : (passes : List Pass) → All OfShape passes → All (IsPassedOn history) passes → FirstStop s history spent passes → FirstBarred s history spent (callers_of passes)
  first_barred [] shapes each first = first
  first_barred (p ∷ passes) shapes each first =
      by_next (next_of s history p.caller)
      (FirstStop s history spent passes) (FirstBarred s history spent (callers_of passes)) (StopsAt spent p) (WasBarred s history spent p.caller)
      (first_barred passes (All-tail OfShape p passes shapes) (All-tail (IsPassedOn history) p passes each))
      (was_barred p (All-head OfShape p passes shapes) (All-head (IsPassedOn history) p passes each))
      first

  -- who was stopped, where a limit is told
  abbrev Someone : Type 0
  Someone = (who : Caller) × (call : Call) × (next_of s history who ≡ Some call) × WasBarred s history spent who call

  someone : (spent ≡ None → ⊥) → (cs : List Caller) → FirstBarred s history spent cs → Someone
  someone some [] first = absurd (some first)
  someone some (c ∷ cs) first = by (someone some cs) (next_of s history c) refl first
    where
      by : (FirstBarred s history spent cs → Someone) → (o : Option Call) → next_of s history c ≡ o → ByNext o (FirstBarred s history spent cs) (WasBarred s history spent c) → Someone
      by rest None is first = rest first
      by rest (Some call) is was = (c, call, is, was)

-- ---- a run

module _ (s : Script) (shape : Shape) (desk : Desk) (before now : List Pass) (history : List Entry) (spent : Option Spent)
    (shape_is : shape ≡ s.shape)
    (ran : HaveRunBy s history spent before)
    (know : AllKnow shape desk before now)
    (callers : callers_of before ≡ actors_of s.lines)
    (shapes : All (λ (p : Pass). p.shape ≡ s.shape) before)
    (made : (c : Caller) → has_made desk c ≡ has_pass before c) where
  abbrev list : List Entry
  list = seen_by_first now

  abbrev Same : Caller → Type 0
  Same c = calls_by c ran.calls ≡ calls_by c (placed_from 0 list)

  each_same : All (λ (p : Pass). Same p.caller) before
  each_same = all_two (HasOwn ran.calls) (IsPassedOn list) (λ (p : Pass). Same p.caller) before
      (λ p own on. own ∙ sym (own_stays p.caller (pass_seen p) list on.seen on.own) ∙ own_is p.caller list)
      ran.own know.each

  all_same : (c : Caller) → Same c
  all_same c = by (has_pass before c) refl
    where
      by : (t : Bool) → has_pass before c ≡ t → Same c
      by true has = of_pass Same before each_same c has
      by false lacks = elim (of_actor Same s before callers each_same c) [
        | inl same ↦ same
        | inr silent ↦ silent_none s c silent [] ran.calls (subst (Merges s []) ran.listed ran.merge)
            ∙ sym (sym (own_is c list) ∙ own_none c list (know.others c (made c ∙ lacks)))
      ]

  history_is : history ≡ list
  history_is = ran.listed ∙ calls_are ran.calls list ran.rising all_same

  legal : Legal s.shape history
  legal = subst (λ (sh : Shape). Legal sh history) shape_is (subst (Legal shape) (sym history_is) know.legal)

  each : All (IsPassedOn history) before
  each = subst (λ l. All (IsPassedOn l) before) (sym history_is) know.each

  first : FirstBarred s history spent (actors_of s.lines)
  first = subst (FirstBarred s history spent) callers (first_barred s history spent before shapes each ran.first)

  abbrev Barred : Caller → Type 0
  Barred c = (call : Call) → next_of s history c ≡ Some call → is_some (spent_of legal.0 call) ≡ true

  each_barred : All (λ (p : Pass). Barred p.caller) before
  each_barred = all_two (λ (p : Pass). (p.shape ≡ s.shape) × IsPassedOn history p) (IsStopped s history) (λ (p : Pass). Barred p.caller) before
      (λ p (is, on) stopped call next. still_barred s.shape (pass_seen p) history on.seen legal call
      (subst (λ (sh : Shape). is_some (spent_of (board_after (opening sh) (pass_seen p)) call) ≡ true) is (stopped call next)))
      (all_two (λ (p : Pass). p.shape ≡ s.shape) (IsPassedOn history) (λ (p : Pass). (p.shape ≡ s.shape) × IsPassedOn history p) before (λ p is on. (is, on)) shapes each)
      ran.stopped

  all_barred : (c : Caller) → Barred c
  all_barred c call next = elim (of_actor Barred s before callers each_barred c) [
    | inl barred ↦ barred call next
    | inr silent ↦ absurd (none_some (next_of s history c) call (silent history) next)
  ]

  stopped_at : (x : Spent) → spent ≡ Some x → Someone s history spent
  stopped_at x is = someone s history spent (λ none. none_some spent x none is) (actors_of s.lines) first

  well : (o : Option Spent) → spent ≡ o → EndsWell s history legal.0 (is_some o)
  well None is = ran.whole is
  well (Some x) is = (let (who, call, next, was) = stopped_at x is in record { who = who; left = ap is_some next; barred = all_barred })

  reached : (o : Option Spent) → spent ≡ o → is_reached (board_after (opening s.shape) history) spent ≡ true
  reached None is = subst (λ o. is_reached (board_after (opening s.shape) history) o ≡ true) (sym is) refl
  reached (Some x) is =
      let (who, call, next, was) = stopped_at x is in
      subst (λ o. is_reached (board_after (opening s.shape) history) o ≡ true) (sym is)
      (still_reached s.shape was.point history was.within legal (Some x) (spent_reached (board_after (opening s.shape) was.point) call x (was.bars ∙ is)))

  is_run : LegalHistoriesKeepTheLaws → IsRun s history spent
  is_run laws = record {
    fits = record { board = legal.0; stand = record { merge = ran.merge; legal = legal.1 }; ends = well spent refl };
    laws = laws s.shape history legal;
    first = first;
    reached = reached spent refl;
  }

  pub all_of_it : LegalHistoriesKeepTheLaws → IsRun s history spent × (history ≡ list) × All (HasLearnt history) now × HasMadeJust desk now
  all_of_it laws = (
    is_run laws,
    history_is,
    subst (λ l. All (HasLearnt l) now) (sym history_is) know.learnt,
    λ c. made c ∙ same_passes before now (sym know.callers) c,
  )

-- the desk that made the passes before the actors ran has made just those that came back
pub made_these : (start desk : Desk) (made before : List Pass) → (desk_view desk).made ≡ (desk_view start).made → HasMadeJust start made → callers_of made ≡ callers_of before
    → (c : Caller) → has_made desk c ≡ has_pass before c
made_these start desk made before same just callers c = ap (is_in (caller_number c)) same ∙ just c ∙ same_passes made before callers c
