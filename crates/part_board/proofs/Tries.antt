-- What an attempt of a call comes to, from before it took all turns.
use Rattle.std.proofs.Common.{◌≡◌, ℕ, List, [], ◌∷◌, ◌++◌, ◌+◌, length, Some, None, refl, sym, ap, ◌∙◌, subst, is_some, true, false, true≢false, ◌<◌, arith, inl, inr}
use Rattle.std.proofs.lemmas.Bool.Decides.{leb_tells}
use Rattle.std.specs.Prelude.{Ok, Err, IfSome, option_map}
use Rattle.std.specs.declared.option.Option.{Option}
use Rattle.irq_base.specs.declared.call.Call.{Call}
use Rattle.irq_base.specs.declared.call.Caller.{Caller}
use Rattle.irq_base.specs.declared.event.Event.{Event}
use Rattle.irq_base.specs.declared.lists.Entry.{Entry}
use Rattle.irq_base.specs.declared.shape.Shape.{Shape}
use Rattle.board_step.specs.Bodies.{entry_of}
use Rattle.board_step.specs.History.{opening}
use Rattle.turn_book.specs.Histories.{IsPrefix, entries_of, is_in}
use Rattle.turn_book.specs.Views.{AddsNoneOfOwn, IsLegal}
use Rattle.part_slots.specs.Callers.{caller_number}
use Rattle.part_slots.specs.Commits.{Seen}
use Rattle.part_slots.specs.Running.{Opens, IsStep, caller_of}
use Rattle.part_attempt.specs.declared.not_now.NotNow.TheVariants as reasons
use Rattle.part_attempt.specs.Attempts.{Answer, EntersBehind, GaveWay, IfEntered, IfGaveWay, OnNoEntry, OnAnswer, turns_found}
use Rattle.part_board.specs.Seen.{entries_by, Learnt}
use Rattle.part_board.specs.Tried.{IsEntered}
use Rattle.part_board.proofs.Learnt.{own_are, learnt_at}

some_is : {A : Type 0} (x y : A) → Some x ≡ Some y → x ≡ y
some_is x y e = cc

-- the views of the pass before (v), with all turns (u), and after (w)
module _ (v u w : Seen) where
  pub entered : (caller : Caller) (call : Call) (events : List Event) (r : Answer) → u.seen ≡ v.seen → IfEntered r (λ done. EntersBehind u w (entry_of caller call done.reply events) done.at) → IfEntered r (λ done. IsEntered caller call done events v.seen w.seen)
  entered caller call events (Ok (Ok done)) same is = record {
    others = is.others;
    seen = subst (λ l. IsPrefix l is.others) same is.seen;
    own = own_are caller is.others v.seen (is.own ∙ ap (entries_of caller_of (caller_number caller)) same);
    entered = is.entered;
    at = is.place;
  }
  entered caller call events (Ok (Err spent)) same is = tt
  entered caller call events (Err why) same is = tt

  pub gave_way : (r : Answer) → u.looks ≡ v.looks → u.misses ≡ v.misses → turns_found r ≡ [] → IfGaveWay r (GaveWay u w) → IfGaveWay r (GaveWay v w)
  gave_way (Ok r) looks misses none is = tt
  gave_way (Err (reasons.Busy part)) looks misses none is = cc
  gave_way (Err (reasons.Moved from to)) looks misses none is = record {
    had = is.had;
    found = is.found;
    lost = record { earlier = is.lost.earlier; looks = is.lost.looks ∙ ap (λ l. l ++ (is.lost.earlier ++ is.had ∷ [])) looks; misses = is.lost.misses ∙ ap (λ l. l ++ record { had = is.had; found = is.found } ∷ []) misses; other = is.lost.other };
    from_is = is.from_is;
    to_is = is.to_is;
    differ = is.differ;
  }
  gave_way (Err (reasons.Front before now)) looks misses none is = record {
    had = is.had;
    found = is.found;
    lost = record { earlier = is.lost.earlier; looks = is.lost.looks ∙ ap (λ l. l ++ (is.lost.earlier ++ is.had ∷ [])) looks; misses = is.lost.misses ∙ ap (λ l. l ++ record { had = is.had; found = is.found } ∷ []) misses; other = is.lost.other };
    generation = is.generation;
    had_is = is.had_is;
    now_is = is.now_is;
    differ = is.differ;
  }

  pub learnt : (shape other : Shape) (caller : Caller) (r : Answer) → shape ≡ other → v.begin ≡ Some (opening shape) → v.caller ≡ Some (caller_number caller) → w.begin ≡ v.begin → u.caller ≡ v.caller → u.seen ≡ v.seen → IsPrefix v.seen w.seen → IsLegal Opens IsStep w → OnNoEntry r (AddsNoneOfOwn caller_of u w) → OnNoEntry r (Learnt other caller v.seen w.seen)
  learnt shape other caller (Ok (Ok done)) one begins named kept who same seen legal own = tt
  learnt shape other caller (Ok (Err spent)) one begins named kept who same seen legal own = learnt_at shape other caller v w w.seen one begins named kept seen legal (λ c is. own c (who ∙ is) ∙ ap (entries_of caller_of c) same) refl
  learnt shape other caller (Err why) one begins named kept who same seen legal own = learnt_at shape other caller v w w.seen one begins named kept seen legal (λ c is. own c (who ∙ is) ∙ ap (entries_of caller_of c) same) refl

  pub kept : (r : Answer) → u.misses ≡ v.misses → OnAnswer r (w.misses ≡ u.misses) → OnAnswer r (w.misses ≡ v.misses)
  kept (Ok r) same is = is ∙ same
  kept (Err why) same is = tt
