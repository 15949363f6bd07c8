-- What an attempt came to, from where it is under way.
use Rattle.std.proofs.Common.{◌≡◌, ℕ, List, [], ◌∷◌, ◌++◌, length, take, All, Some, refl, sym, ap, ◌∙◌, subst, append-nil}
use Rattle.std.specs.Prelude.{Ok, Err}
use Rattle.irq_base.specs.declared.call.Call.{Call}
use Rattle.irq_base.specs.declared.call.Caller.{Caller}
use Rattle.irq_base.specs.declared.event.Event.{Event}
use Rattle.irq_base.specs.declared.lists.Entry.{Entry}
use Rattle.irq_base.specs.declared.shape.Part.{Part}
use Rattle.irq_base.specs.declared.shape.Shape.{Shape}
use Rattle.board_step.specs.Bodies.{entry_of}
use Rattle.turn_book.specs.declared.view.Front.{Front}
use Rattle.turn_book.specs.Histories.{IsPrefix, Runs, entries_of}
use Rattle.turn_book.specs.Many.{given_all}
use Rattle.turn_book.specs.Views.{IsLegal, AddsNoneOfOwn, SamePlace, SameList, given_view}
use Rattle.turn_book.proofs.Lists.{all_more, prefix-trans}
use Rattle.part_slots.specs.Callers.{caller_number}
use Rattle.part_slots.specs.Commits.{Seen}
use Rattle.part_slots.specs.Running.{Opens, IsStep, caller_of}
use Rattle.part_slots.specs.Slots.{place}
use Rattle.part_attempt.specs.declared.not_now.NotNow.{NotNow}
use Rattle.part_attempt.specs.declared.not_now.NotNow.TheVariants as reasons
use Rattle.part_attempt.specs.Attempts.{Answer, EntersBehind, IsBarred, GaveWay, IsLost, IfEntered, IfBarred, IfGaveWay, OnNoEntry, OnAnswer, turns_found}
use Rattle.part_reach.specs.Turns.{IsReachedAfter, IsReachedBetween, AddsReached, FindsReached, seen_before_own}
use Rattle.part_reach.specs.UnderWay.{IsUnderWay, CameTo}

-- what was reached before a list's end was reached before that of a longer one
pub reached_before : (shape : Shape) (caller : Caller) (call : Call) (first last more : List Entry) (turns : List ℕ) → IsPrefix last more → All (IsReachedBetween shape caller call first last) turns → All (IsReachedBetween shape caller call first more) turns
reached_before shape caller call first last more turns longer reached =
    all_more (IsReachedBetween shape caller call first last) (IsReachedBetween shape caller call first more) turns (λ t r. record { list = r.list; from = r.from; to = prefix-trans r.list last more r.to longer; within = r.within }) reached

pub take_own : {A : Type 0} (xs : List A) (y : A) → take (length xs) (xs ++ y ∷ []) ≡ xs
take_own [] y = refl
take_own (x ∷ xs) y = ap (λ l. x ∷ l) (take_own xs y)

pub same_place : (u v w : Seen) → SamePlace u v → SamePlace v w → SamePlace u w
same_place u v w a b = (b.0 ∙ a.0, b.1 ∙ a.1, b.2 ∙ a.2, b.3 ∙ a.3, b.4 ∙ a.4, b.5 ∙ a.5)

-- a list that stayed is legal still
pub legal_same : (v w : Seen) → SameList v w → SamePlace v w → IsLegal Opens IsStep v → IsLegal Opens IsStep w
legal_same v w list place_is legal = (legal.0, legal.1, place_is.0 ∙ legal.2, legal.3, list.1 ∙ legal.4, subst (λ l. Runs IsStep legal.0 l legal.1) (sym list.0) legal.5)

-- when it began (u), at its last look (v), and after the run (y)
module _ (shape : Shape) (caller : Caller) (call : Call) (u v y : Seen) (had : Front) (places : List ℕ) (events : List Event) (named : v.caller ≡ Some (caller_number caller)) (way : IsUnderWay shape caller call u v had places) where
  named_first : u.caller ≡ Some (caller_number caller)
  named_first = sym way.place.2 ∙ named

  module _ (seen : IsPrefix v.seen y.seen) (legal : IsLegal Opens IsStep y) (place_is : SamePlace v y) (looks : y.looks ≡ v.looks) (turns : (y.took ≡ v.took) × (y.found ≡ v.found)) where
    took_until : (last : List Entry) → last ≡ v.seen → AddsReached shape caller call u.seen last u.took y.took
    took_until last is = record {
      turns = places;
      grew = turns.0 ∙ way.took;
      reached = subst (λ l. All (IsReachedBetween shape caller call u.seen l) places) (sym is) way.reached;
    }

    took_by : AddsReached shape caller call u.seen y.seen u.took y.took
    took_by = record { turns = places; grew = turns.0 ∙ way.took; reached = reached_before shape caller call u.seen v.seen y.seen places seen way.reached }

    found_none : y.found ≡ u.found ++ []
    found_none = turns.1 ∙ way.found ∙ sym (append-nil u.found)

    whole : IsPrefix u.seen y.seen
    whole = prefix-trans u.seen v.seen y.seen way.seen seen

    moved : (why : NotNow) → IsLost v y had why → GaveWay u y why
    moved (reasons.Busy part) lost = absurd lost.late
    moved (reasons.Moved from to) lost = record {
      had = had;
      found = lost.found;
      lost = record { earlier = way.earlier; looks = looks ∙ way.looks; misses = lost.misses ∙ ap (λ l. l ++ record { had = had; found = lost.found } ∷ []) way.misses; other = lost.other };
      from_is = lost.late.0;
      to_is = lost.late.1;
      differ = lost.late.2;
    }
    moved (reasons.Front before now) lost = record {
      had = had;
      found = lost.found;
      lost = record { earlier = way.earlier; looks = looks ∙ way.looks; misses = lost.misses ∙ ap (λ l. l ++ record { had = had; found = lost.found } ∷ []) way.misses; other = lost.other };
      generation = lost.late.0;
      had_is = lost.late.1;
      now_is = lost.late.2;
      differ = lost.late.3;
    }

    not_busy : (why : NotNow) → IsLost v y had why → (turns_found (Err why) ≡ []) × FindsReached shape caller call (Err why) y.seen
    not_busy (reasons.Busy part) lost = absurd lost.late
    not_busy (reasons.Moved from to) lost = (refl, tt)
    not_busy (reasons.Front before now) lost = (refl, tt)

    -- what a run answered
    pub answered : (r : Answer) → IfEntered r (λ done. y.seen ≡ v.seen ++ entry_of caller call done.reply events ∷ []) → IfEntered r (λ done. done.at ≡ length v.seen)
        → IfBarred r (λ spent. IsBarred shape call spent v.seen) → IfBarred r (λ _. y ≡ v) → IfGaveWay r (IsLost v y had) → OnAnswer r (y.misses ≡ v.misses) → OnNoEntry r (events ≡ [])
        → CameTo shape caller call u y r events
    answered (Ok (Ok done)) is at barred unmoved lost kept quiet = record {
      entered = record { others = v.seen; seen = way.seen; own = way.own (caller_number caller) named_first; entered = is; place = at };
      barred = tt;
      gave_way = tt;
      kept = kept ∙ way.misses;
      quiet = tt;
      own = tt;
      seen = whole;
      legal = legal;
      place = same_place u v y way.place place_is;
      took = took_until (take done.at y.seen) ((λ i. take (at i) (is i)) ∙ take_own v.seen (entry_of caller call done.reply events));
      found = found_none;
      reached = tt;
    }
    answered (Ok (Err spent)) is at barred unmoved lost kept quiet = record {
      entered = tt;
      barred = subst (λ l. IsBarred shape call spent l) (sym (ap (λ (x : Seen). x.seen) unmoved)) barred;
      gave_way = tt;
      kept = kept ∙ way.misses;
      quiet = quiet;
      own = λ c who. ap (λ (x : Seen). entries_of caller_of c x.seen) unmoved ∙ way.own c who;
      seen = whole;
      legal = legal;
      place = same_place u v y way.place place_is;
      took = took_by;
      found = found_none;
      reached = tt;
    }
    answered (Err why) is at barred unmoved lost kept quiet = record {
      entered = tt;
      barred = tt;
      gave_way = moved why lost;
      kept = tt;
      quiet = quiet;
      own = λ c who. lost.own c (way.place.2 ∙ who) ∙ way.own c who;
      seen = whole;
      legal = legal;
      place = same_place u v y way.place place_is;
      took = took_by;
      found = found_none ∙ ap (λ l. u.found ++ l) (sym (not_busy why lost).0);
      reached = (not_busy why lost).1;
    }

  -- a turn was found taken
  pub busy : (part : Part) → SameList v y → SamePlace v y → IsLegal Opens IsStep y → y.took ≡ v.took → y.found ≡ v.found ++ place part ∷ [] → events ≡ [] → IsReachedAfter shape caller call v.seen part → CameTo shape caller call u y (Err (reasons.Busy part)) events
  busy part list place_is legal took found quiet reached = record {
    entered = tt;
    barred = tt;
    gave_way = (found ∙ ap (λ l. l ++ place part ∷ []) way.found, list.5 ∙ way.misses);
    kept = tt;
    quiet = quiet;
    own = λ c who. ap (entries_of caller_of c) list.0 ∙ way.own c who;
    seen = subst (λ l. IsPrefix u.seen l) (sym list.0) way.seen;
    legal = legal;
    place = same_place u v y way.place place_is;
    took = record { turns = places; grew = took ∙ way.took; reached = subst (λ l. All (IsReachedBetween shape caller call u.seen l) places) (sym list.0) way.reached };
    found = found ∙ ap (λ l. l ++ place part ∷ []) way.found;
    reached = subst (λ l. IsReachedAfter shape caller call l part) (sym list.0) reached;
  }

-- what it came to, once all turns are given back
module _ (shape : Shape) (caller : Caller) (call : Call) (u y w : Seen) (events : List Event) (list : SameList y w) (place_is : SamePlace y w) (turns : (w.took ≡ y.took) × (w.found ≡ y.found)) where
  entered_home : (r : Answer) → IfEntered r (λ done. EntersBehind u y (entry_of caller call done.reply events) done.at) → IfEntered r (λ done. EntersBehind u w (entry_of caller call done.reply events) done.at)
  entered_home (Ok (Ok done)) e = record { others = e.others; seen = e.seen; own = e.own; entered = list.0 ∙ e.entered; place = e.place }
  entered_home (Ok (Err spent)) e = tt
  entered_home (Err why) e = tt

  barred_home : (r : Answer) → IfBarred r (λ spent. IsBarred shape call spent y.seen) → IfBarred r (λ spent. IsBarred shape call spent w.seen)
  barred_home r = subst (λ l. IfBarred r (λ spent. IsBarred shape call spent l)) (sym list.0)

  gave_home : (r : Answer) → IfGaveWay r (GaveWay u y) → IfGaveWay r (GaveWay u w)
  gave_home (Ok r) e = tt
  gave_home (Err (reasons.Busy part)) e = (turns.1 ∙ e.0, list.5 ∙ e.1)
  gave_home (Err (reasons.Moved from to)) e = record {
    had = e.had;
    found = e.found;
    lost = record { earlier = e.lost.earlier; looks = list.4 ∙ e.lost.looks; misses = list.5 ∙ e.lost.misses; other = e.lost.other };
    from_is = e.from_is;
    to_is = e.to_is;
    differ = e.differ;
  }
  gave_home (Err (reasons.Front before now)) e = record {
    had = e.had;
    found = e.found;
    lost = record { earlier = e.lost.earlier; looks = list.4 ∙ e.lost.looks; misses = list.5 ∙ e.lost.misses; other = e.lost.other };
    generation = e.generation;
    had_is = e.had_is;
    now_is = e.now_is;
    differ = e.differ;
  }

  kept_home : (r : Answer) → OnAnswer r (y.misses ≡ u.misses) → OnAnswer r (w.misses ≡ u.misses)
  kept_home (Ok r) e = list.5 ∙ e
  kept_home (Err why) e = tt

  own_home : (r : Answer) → OnNoEntry r (AddsNoneOfOwn caller_of u y) → OnNoEntry r (AddsNoneOfOwn caller_of u w)
  own_home (Ok (Ok done)) e = tt
  own_home (Ok (Err spent)) e = λ c who. ap (entries_of caller_of c) list.0 ∙ e c who
  own_home (Err why) e = λ c who. ap (entries_of caller_of c) list.0 ∙ e c who

  reached_home : (r : Answer) → FindsReached shape caller call r y.seen → FindsReached shape caller call r w.seen
  reached_home r = subst (λ l. FindsReached shape caller call r l) (sym list.0)

  pub came_home : (r : Answer) → CameTo shape caller call u y r events → CameTo shape caller call u w r events
  came_home r came = record {
    entered = entered_home r came.entered;
    barred = barred_home r came.barred;
    gave_way = gave_home r came.gave_way;
    kept = kept_home r came.kept;
    quiet = came.quiet;
    own = own_home r came.own;
    seen = subst (λ l. IsPrefix u.seen l) (sym list.0) came.seen;
    legal = legal_same y w list place_is came.legal;
    place = same_place u y w came.place place_is;
    took = record {
      turns = came.took.turns;
      grew = turns.0 ∙ came.took.grew;
      reached = subst (λ l. All (IsReachedBetween shape caller call u.seen (seen_before_own r l)) came.took.turns) (sym list.0) came.took.reached;
    };
    found = turns.1 ∙ came.found;
    reached = reached_home r came.reached;
  }

-- a part that is given back leaves the notes
pub given_notes : (ps : List ℕ) (v : Seen) → (given_all ps v).notes ≡ v.notes
given_notes [] v = refl
given_notes (p ∷ ps) v = given_notes ps (given_view p v)
