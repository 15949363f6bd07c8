-- Turns that several attempts of one call have won, or found taken.
use Rattle.std.proofs.Common.{◌≡◌, ℕ, List, [], ◌∷◌, ◌++◌, length, take, All, Ok, refl, sym, ap, ◌∙◌, subst, append_assoc, append-nil}
use Rattle.std.proofs.lemmas.List.Elements.{All-append, All-nil}
use Rattle.std.specs.Prelude.{Err}
use Rattle.std.specs.declared.result.Result.{Result}
use Rattle.irq_base.specs.declared.call.Call.{Call}
use Rattle.irq_base.specs.declared.call.Caller.{Caller}
use Rattle.irq_base.specs.declared.event.Event.{Event}
use Rattle.irq_base.specs.declared.lists.Entry.{Entry}
use Rattle.irq_base.specs.declared.reply.Done.{Done}
use Rattle.irq_base.specs.declared.reply.Spent.{Spent}
use Rattle.irq_base.specs.declared.shape.Shape.{Shape}
use Rattle.board_step.specs.Bodies.{entry_of}
use Rattle.turn_book.specs.Histories.{IsPrefix}
use Rattle.turn_book.proofs.Lists.{all_more, prefix-trans, prefix-nil}
use Rattle.part_attempt.specs.declared.not_now.NotNow.TheVariants as reasons
use Rattle.part_attempt.specs.Attempts.{Answer, IfEntered, turns_found}
use Rattle.part_reach.specs.Turns.{IsReachedBetween, AddsReached, FindsReached, seen_before_own}
use Rattle.part_reach.proofs.Fetched.{one_reached}
use Rattle.part_reach.proofs.Ways.{reached_before, take_own}
use Rattle.part_board.specs.Tried.{IsEntered}

-- no turn yet
pub none_yet : (shape : Shape) (caller : Caller) (call : Call) (first : List Entry) (turns : List ℕ) → AddsReached shape caller call first first turns turns
none_yet shape caller call first turns = record { turns = []; grew = sym (append-nil turns); reached = All-nil (IsReachedBetween shape caller call first first) }

-- those of the attempts before (from `first` to `mid`), and those of one more (from `mid` to `last`)
pub more_reached : (shape : Shape) (caller : Caller) (call : Call) (first mid last : List Entry) (a b c : List ℕ) → IsPrefix first mid → IsPrefix mid last
    → AddsReached shape caller call first mid a b → AddsReached shape caller call mid last b c → AddsReached shape caller call first last a c
more_reached shape caller call first mid last a b c from to old new = record {
  turns = old.turns ++ new.turns;
  grew = new.grew ∙ ap (λ l. l ++ new.turns) old.grew ∙ append_assoc a old.turns new.turns;
  reached = All-append (IsReachedBetween shape caller call first last) old.turns new.turns
      (reached_before shape caller call first mid last old.turns to old.reached)
      (all_more (IsReachedBetween shape caller call mid last) (IsReachedBetween shape caller call first last) new.turns (λ t r. record { list = r.list; from = prefix-trans first mid r.list from r.from; to = r.to; within = r.within }) new.reached);
}

-- all that was seen before stands before the call's own entry
own_prefix : (caller : Caller) (call : Call) (done : Done) (events : List Event) (before now : List Entry) → IsEntered caller call done events before now → IsPrefix before (take done.at now)
own_prefix caller call done events before now e = subst (IsPrefix before) (sym ((λ i. take (e.at i) (e.entered i)) ∙ take_own e.others (entry_of caller call done.reply events))) e.seen

-- all that was seen before stands before the call's own entry, if it has one
before_own : (caller : Caller) (call : Call) (events : List Event) (before now : List Entry) (r : Answer) → IsPrefix before now → IfEntered r (λ done. IsEntered caller call done events before now) → IsPrefix before (seen_before_own r now)
before_own caller call events before now (Ok (Ok done)) from entered = own_prefix caller call done events before now entered
before_own caller call events before now (Ok (Err spent)) from entered = from
before_own caller call events before now (Err why) from entered = from

-- those of the attempts before, and those of one more
pub reached_again : (shape : Shape) (caller who : Caller) (call : Call) (events : List Event) (first mid now : List Entry) (a b c : List ℕ) (r : Answer) → caller ≡ who → IsPrefix first mid → IsPrefix mid now
    → IfEntered r (λ done. IsEntered caller call done events mid now) → AddsReached shape caller call mid (seen_before_own r now) b c → AddsReached shape who call first mid a b → AddsReached shape who call first (seen_before_own r now) a c
reached_again shape caller who call events first mid now a b c r is from to entered new old =
    more_reached shape who call first mid (seen_before_own r now) a b c from (before_own caller call events mid now r to entered) old (subst (λ w. AddsReached shape w call mid (seen_before_own r now) b c) is new)

-- so it is of the answer that is handed on
pub reached_in : (shape : Shape) (who : Caller) (call : Call) (first now : List Entry) (a c : List ℕ) (answer other : Result Done Spent) → answer ≡ other → AddsReached shape who call first (seen_before_own (Ok answer) now) a c → AddsReached shape who call first (seen_before_own (Ok other) now) a c
reached_in shape who call first now a c answer other is = subst (λ r. AddsReached shape who call first (seen_before_own (Ok r) now) a c) is

-- what an attempt found taken
pub found_reached : (shape : Shape) (caller : Caller) (call : Call) (before now : List Entry) (a b : List ℕ) (r : Answer) → IsPrefix before now → b ≡ a ++ turns_found r → FindsReached shape caller call r now → AddsReached shape caller call before (seen_before_own r now) a b
found_reached shape caller call before now a b (Ok answer) from grew reached = record { turns = []; grew = grew; reached = All-nil (IsReachedBetween shape caller call before (seen_before_own (Ok answer) now)) }
found_reached shape caller call before now a b (Err (reasons.Busy part)) from grew reached = record { turns = turns_found (Err (reasons.Busy part)); grew = grew; reached = one_reached shape caller call before now now part from (prefix-nil now) reached }
found_reached shape caller call before now a b (Err (reasons.Moved x y)) from grew reached = record { turns = []; grew = grew; reached = All-nil (IsReachedBetween shape caller call before now) }
found_reached shape caller call before now a b (Err (reasons.Front x y)) from grew reached = record { turns = []; grew = grew; reached = All-nil (IsReachedBetween shape caller call before now) }
