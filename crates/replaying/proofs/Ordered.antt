-- A history in file order merges, and ends rightly.
use Rattle.std.proofs.Common.{◌≡◌, Bool, true, false, List, [], ◌∷◌, ◌++◌, append_assoc, if◌then◌else◌, is_some, Some, None, refl, sym, ap, ◌∙◌, subst}
use Rattle.std.proofs.lemmas.List.{append-nil}
use Rattle.std.specs.declared.option.Option.{Option}
use Rattle.irq_base.specs.declared.call.Call.{Call}
use Rattle.irq_base.specs.declared.call.Caller.{Caller}
use Rattle.irq_base.specs.declared.lists.Entry.{Entry}
use Rattle.irq_base.specs.declared.reply.Spent.{Spent}
use Rattle.script_text.specs.declared.task.ActorLine.{ActorLine}
use Rattle.script_text.specs.Asks.{Asks, no_more, same_caller, next_call, line_asks, unrolled, tasks_of, asks_after}
use Rattle.script_text.specs.Scripts.{Script}
use Rattle.board_model.specs.Board.{Board}
use Rattle.board_step.specs.Applied.{is_reached}
use Rattle.board_step.specs.History.{opening, board_after, Leads}
use Rattle.board_step.specs.Step.{spent_of}
use Rattle.board_step.proofs.Faces.{spent_reached, stays_reached}
use Rattle.board_step.proofs.Following.{board_after_is_reached}
use Rattle.replaying.specs.declared.stops.Stop.{Stop}
use Rattle.replaying.specs.FileOrder.{stop_of, with_stop, Leaves, Asked, LineAsked, PassedOver, LinesAsked, first_stop}
use Rattle.script_merging.specs.Merging.{replies_of, next_of, Merges, IsWhole}
use Rattle.script_histories.specs.Merging.{AreBarred, EndsWell}
use Rattle.script_merging.proofs.Callers.{callers_same, caller_itself}
use Rattle.script_merging.proofs.Asking.{tasks_nothing, tasks_of_line, unrolled_nothing, unrolled_line, lineless_ask_nothing}
use Rattle.script_merging.proofs.Merged.{no_replies, merges_append}
use Rattle.script_histories.proofs.Leading.{leads_append}
use Rattle.replaying.specs.Replays.{Replays}
use Rattle.replaying.proofs.Barred.{stays_barred}
use Rattle.replaying.proofs.Merged.{after, in_turn, others_stay}
use Rattle.replaying.proofs.Unwished.{leads_of}

some_none : {A : Type 0} (x : A) → Some x ≡ None → ⊥
some_none x e = cc

same_some : {A : Type 0} (x y : A) → Some x ≡ Some y → x ≡ y
same_some x y e = cc

-- where a caller stands: it asks what its later lines ask; or a limit stopped it, and bars its next call, and that limit is reached
abbrev Stands : Option Spent → Asks → Asks → Board → Type 0
Stands None now behind b = now ≡ behind
Stands (Some spent) now behind b =
    (call : Call) × (next_call now ≡ Some call) × (is_some (spent_of b call) ≡ true) × (is_reached b (Some spent) ≡ true)

-- a line of another is passed by
behind_same : (who : Caller) (line : ActorLine) (lines : List ActorLine) → same_caller line.caller who ≡ false → unrolled (tasks_of who (line ∷ lines)) ≡ unrolled (tasks_of who lines)
behind_same who line lines apart = ap unrolled (tasks_of_line who line lines ∙ ap (λ (t : Bool). if t then line.task ∷ tasks_of who lines else tasks_of who lines) apart)

behind_own : (line : ActorLine) (lines : List ActorLine) → unrolled (tasks_of line.caller (line ∷ lines)) ≡ line_asks line.task (unrolled (tasks_of line.caller lines))
behind_own line lines =
    ap unrolled (tasks_of_line line.caller line lines ∙ ap (λ (t : Bool). if t then line.task ∷ tasks_of line.caller lines else tasks_of line.caller lines) (caller_itself line.caller))
    ∙ unrolled_line line.task (tasks_of line.caller lines)

module _ (s : Script) where
  -- each caller stands somewhere, with these lines to come
  abbrev AllStand : Board → List Entry → List Stop → List ActorLine → Type 0
  AllStand b before had lines = (who : Caller) → Stands (stop_of who had) (after s who before) (unrolled (tasks_of who lines)) b

  -- a line that is passed over
  passed_over : (b : Board) (before : List Entry) (had : List Stop) (line : ActorLine) (lines : List ActorLine) (spent : Spent)
      → stop_of line.caller had ≡ Some spent → AllStand b before had (line ∷ lines) → AllStand b before had lines
  passed_over b before had line lines spent stopped stand who = by (same_caller line.caller who) refl
    where
      with_stop_of : (stop : Option Spent) → stop ≡ Some spent → Stands stop (after s who before) (unrolled (tasks_of who (line ∷ lines))) b
          → Stands stop (after s who before) (unrolled (tasks_of who lines)) b
      with_stop_of None is s = absurd (some_none spent (sym is))
      with_stop_of (Some other) is s = s

      by : (t : Bool) → same_caller line.caller who ≡ t → Stands (stop_of who had) (after s who before) (unrolled (tasks_of who lines)) b
      by true same = with_stop_of (stop_of who had) (ap (λ w. stop_of w had) (sym (callers_same line.caller who same)) ∙ stopped) (stand who)
      by false apart = subst (λ a. Stands (stop_of who had) (after s who before) a b) (behind_same who line lines apart) (stand who)

  -- a line that is taken
  module _ (b : Board) (before : List Entry) (had : List Stop) (line : ActorLine) (lines : List ActorLine) (mine : List Entry) (stop : Option Spent) (mid : Board)
      (free : stop_of line.caller had ≡ None) (stand : AllStand b before had (line ∷ lines)) (each : LineAsked line b mine stop mid) where
    abbrev behind : Asks
    behind = unrolled (tasks_of line.caller lines)

    abbrev taken : Asked line.caller (line_asks line.task behind) behind b mine stop mid
    taken = each behind

    led : Leads b mine mid
    led = leads_of b mine mid taken.leads

    own : after s line.caller before ≡ line_asks line.task behind
    own = subst (λ o. Stands o (after s line.caller before) (unrolled (tasks_of line.caller (line ∷ lines))) b) free (stand line.caller) ∙ behind_own line lines

    turned : Merges s before mine × (after s line.caller (before ++ mine) ≡ taken.left)
    turned = in_turn s line.caller _ taken.left before mine own taken.asked

    pub merges_line : Merges s before mine
    merges_line = turned.0

    -- the line's own caller
    own_stands : (stop : Option Spent) → Leaves mid taken.left behind stop → Stands (stop_of line.caller (with_stop line.caller stop had)) (after s line.caller (before ++ mine)) behind mid
    own_stands None leaves = subst (λ o. Stands o (after s line.caller (before ++ mine)) behind mid) (sym free) (turned.1 ∙ leaves)
    own_stands (Some spent) (call, next, barred) =
        subst (λ o. Stands o (after s line.caller (before ++ mine)) behind mid)
        (sym (ap (λ (t : Bool). if t then Some spent else stop_of line.caller had) (caller_itself line.caller)))
        (call, ap next_call turned.1 ∙ next, ap is_some barred, spent_reached mid call spent barred)

    -- another
    with_others : (who : Caller) (stop : Option Spent) → same_caller line.caller who ≡ false → stop_of who (with_stop line.caller stop had) ≡ stop_of who had
    with_others who None apart = refl
    with_others who (Some spent) apart = ap (λ (t : Bool). if t then Some spent else stop_of who had) apart

    moved : (o : Option Spent) (now a : Asks) → Stands o now a b → Stands o now a mid
    moved None now a s = s
    moved (Some spent) now a (call, next, barred, is) =
        (call, next, stays_barred b call mine mid led barred, stays_reached b (Some spent) mine mid led is)

    others_stand : (who : Caller) → same_caller line.caller who ≡ false → Stands (stop_of who (with_stop line.caller stop had)) (after s who (before ++ mine)) (unrolled (tasks_of who lines)) mid
    others_stand who apart =
        subst (λ o. Stands o (after s who (before ++ mine)) (unrolled (tasks_of who lines)) mid) (sym (with_others who stop apart))
        (subst (λ now. Stands (stop_of who had) now (unrolled (tasks_of who lines)) mid) (sym (others_stay s line.caller who _ taken.left before mine apart taken.asked))
        (moved (stop_of who had) (after s who before) (unrolled (tasks_of who lines))
        (subst (λ a. Stands (stop_of who had) (after s who before) a b) (behind_same who line lines apart) (stand who))))

    pub stand_after_line : AllStand mid (before ++ mine) (with_stop line.caller stop had) lines
    stand_after_line who = by (same_caller line.caller who) refl
      where
        by : (t : Bool) → same_caller line.caller who ≡ t → Stands (stop_of who (with_stop line.caller stop had)) (after s who (before ++ mine)) (unrolled (tasks_of who lines)) mid
        by true same = subst (λ w. Stands (stop_of w (with_stop line.caller stop had)) (after s w (before ++ mine)) (unrolled (tasks_of w lines)) mid) (callers_same line.caller who same) (own_stands stop taken.leaves)
        by false apart = others_stand who apart

  -- what lines in file order make
  record Made (b : Board) (before entries : List Entry) (c : Board) (has : List Stop) : Type 0 where
    pub merges : Merges s before entries
    pub leads : Leads b entries c
    pub stand : AllStand c (before ++ entries) has []

  lines_make : (lines : List ActorLine) (b : Board) (had : List Stop) (before entries : List Entry) (c : Board) (has : List Stop)
      → AllStand b before had lines → LinesAsked lines b had entries c has → Made b before entries c has
  unfolding LinesAsked
  lines_make [] b had before entries c has stand (nothing, same, kept) = record {
    merges = subst (λ es. Merges s before es) (sym nothing) tt;
    leads = subst (λ es. Leads b es c) (sym nothing) same;
    stand = subst (λ es. AllStand c (before ++ es) has []) (sym nothing) (subst (λ es. AllStand c es has []) (sym (append-nil before)) (subst (λ (x : Board). AllStand x before has []) same (subst (λ hs. AllStand b before hs []) kept stand)));
  }
  lines_make (line ∷ lines) b had before entries c has stand asked = by (λ b had before es. lines_make lines b had before es c has) (stop_of line.caller had) refl asked
    where
      by : ((b : Board) (had : List Stop) (before es : List Entry) → AllStand b before had lines → LinesAsked lines b had es c has → Made b before es c has)
          → (o : Option Spent) → stop_of line.caller had ≡ o
          → PassedOver o (LinesAsked lines b had entries c has)
          ((mine : List Entry) × (later : List Entry) × (stop : Option Spent) × (mid : Board) × (entries ≡ mine ++ later)
          × LineAsked line b mine stop mid × LinesAsked lines mid (with_stop line.caller stop had) later c has)
          → Made b before entries c has
      by rec (Some spent) stopped more = rec b had before entries (passed_over b before had line lines spent stopped stand) more
      by rec None free (mine, later, stop, mid, both, taken, more) =
          let rest = rec mid (with_stop line.caller stop had) (before ++ mine) later (stand_after_line b before had line lines mine stop mid free stand taken) more in
          record {
            merges = subst (λ es. Merges s before es) (sym both) (merges_append s before mine later (merges_line b before had line lines mine stop mid free stand taken) rest.merges);
            leads = subst (λ es. Leads b es c) (sym both) (leads_append b mid c mine later (leads_of b mine mid (taken (unrolled (tasks_of line.caller lines))).leads) rest.leads);
            stand = subst (λ es. AllStand c es has []) (append_assoc before mine later ∙ ap (λ es. before ++ es) (sym both)) rest.stand;
          }

-- ---- the first stop

-- a first stop is a stop
first_is_a_stop : (lines : List ActorLine) (stops : List Stop) (spent : Spent) → first_stop lines stops ≡ Some spent → (who : Caller) × (stop_of who stops ≡ Some spent)
first_is_a_stop [] stops spent is = absurd (some_none spent (sym is))
first_is_a_stop (line ∷ lines) stops spent is = by (first_is_a_stop lines stops spent) (stop_of line.caller stops) refl is
  where
    by : (first_stop lines stops ≡ Some spent → (who : Caller) × (stop_of who stops ≡ Some spent)) → (o : Option Spent) → stop_of line.caller stops ≡ o → elim o [ None ↦ first_stop lines stops | Some s ↦ Some s ] ≡ Some spent → (who : Caller) × (stop_of who stops ≡ Some spent)
    by rest None none more = rest more
    by rest (Some s) here more = (line.caller, here ∙ more)

-- without one, a caller that was stopped has no lines
none_has_lines : (lines : List ActorLine) (stops : List Stop) (who : Caller) (spent : Spent) → first_stop lines stops ≡ None → stop_of who stops ≡ Some spent → tasks_of who lines ≡ []
none_has_lines [] stops who spent none stopped = tasks_nothing who
none_has_lines (line ∷ lines) stops who spent none stopped = by (λ more. none_has_lines lines stops who spent more stopped) (stop_of line.caller stops) refl none
  where
    by : (first_stop lines stops ≡ None → tasks_of who lines ≡ []) → (o : Option Spent) → stop_of line.caller stops ≡ o → ◌≡◌ {A = Option Spent} (elim o [ None ↦ first_stop lines stops | Some s ↦ Some s ]) None → tasks_of who (line ∷ lines) ≡ []
    by rest (Some s) here more = absurd (some_none s more)
    by rest None free more = either (same_caller line.caller who) refl
      where
        either : (t : Bool) → same_caller line.caller who ≡ t → tasks_of who (line ∷ lines) ≡ []
        either true same = absurd (some_none spent (sym (sym free ∙ ap (λ w. stop_of w stops) (callers_same line.caller who same) ∙ stopped)))
        either false apart = tasks_of_line who line lines ∙ ap (λ (t : Bool). if t then line.task ∷ tasks_of who lines else tasks_of who lines) apart ∙ rest more

-- ---- a replay

over : (who : Caller) → unrolled (tasks_of who []) ≡ no_more
over who = ap unrolled (tasks_nothing who) ∙ unrolled_nothing

module _ (s : Script) (history : List Entry) (c : Board) (has : List Stop) (asked : LinesAsked s.lines (opening s.shape) [] history c has) where
  start : AllStand s (opening s.shape) [] [] s.lines
  start who = ap (asks_after who s.lines) (no_replies who)

  made : Made s (opening s.shape) [] history c has
  made = lines_make s s.lines (opening s.shape) [] [] history c has start asked

  whole : first_stop s.lines has ≡ None → IsWhole s history
  whole none who = by (stop_of who has) refl (made.stand who)
    where
      by : (o : Option Spent) → stop_of who has ≡ o → Stands o (after s who history) (unrolled (tasks_of who [])) c → next_call (after s who history) ≡ None
      by None free now = ap next_call (now ∙ over who)
      by (Some spent) stopped (call, next, barred, last) = absurd (some_none call (sym next ∙ lineless_ask_nothing who s.lines (replies_of who history) (none_has_lines s.lines has who spent none stopped)))

  barred_next : (who : Caller) (call : Call) → next_of s history who ≡ Some call → is_some (spent_of c call) ≡ true
  barred_next who call asks = by (stop_of who has) (made.stand who)
    where
      by : (o : Option Spent) → Stands o (after s who history) (unrolled (tasks_of who [])) c → is_some (spent_of c call) ≡ true
      by None now = absurd (some_none call (sym asks ∙ ap next_call (now ∙ over who)))
      by (Some spent) (own, next, barred, last) = (λ i. is_some (spent_of c (same_some call own (sym asks ∙ next) i))) ∙ barred

  spent_rightly : (limit : Spent) → first_stop s.lines has ≡ Some limit → AreBarred s history c
  spent_rightly limit is =
      let (who, stopped) = first_is_a_stop s.lines has limit is in
      let (call, next, barred, last) = subst (λ o. Stands o (after s who history) (unrolled (tasks_of who [])) c) stopped (made.stand who) in
      record { who = who; left = ap is_some next; barred = barred_next }

  ends : (o : Option Spent) → first_stop s.lines has ≡ o → EndsWell s history c (is_some o)
  ends None none = whole none
  ends (Some limit) is = spent_rightly limit is

  reached : board_after (opening s.shape) history ≡ c
  reached = board_after_is_reached (opening s.shape) history c made.leads

  -- the limit that is told is reached
  limit_reached : (o : Option Spent) → first_stop s.lines has ≡ o → is_reached (board_after (opening s.shape) history) o ≡ true
  limit_reached None none = refl
  limit_reached (Some limit) is =
      let (who, stopped) = first_is_a_stop s.lines has limit is in
      let (call, next, barred, last) = subst (λ o. Stands o (after s who history) (unrolled (tasks_of who [])) c) stopped (made.stand who) in
      (λ i. is_reached (reached i) (Some limit)) ∙ last

  pub replays : Replays s history (first_stop s.lines has)
  replays = record {
    fits = record { board = c; stand = record { merge = made.merges; legal = made.leads }; ends = ends (first_stop s.lines has) refl };
    order = record { last = c; stops = has; lines = asked; first = refl };
    reached = limit_reached (first_stop s.lines has) refl;
  }
