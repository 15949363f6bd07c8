-- The first look of an attempt, behind the turn of a part that the call reaches on every board.
use Rattle.std.proofs.Common.{◌≡◌, ℕ, ◌<◌, ◌+◌, true, List, [], ◌∷◌, ◌++◌, All, Some, refl, sym, ap, ◌∙◌, subst, append-nil}
use Rattle.std.specs.Prelude.{IfOk, Ok, Err}
use Rattle.std.specs.declared.result.Result.{Result}
use Rattle.std.proofs.lemmas.List.Elements.{All-nil}
use Rattle.irq_base.specs.Callers.{is_allowed}
use Rattle.irq_base.specs.declared.call.Call.{Call}
use Rattle.irq_base.specs.declared.call.Caller.{Caller}
use Rattle.irq_base.specs.declared.shape.Part.{Part}
use Rattle.irq_base.specs.declared.shape.Shape.{Shape}
use Rattle.board_step.specs.History.{opening}
use Rattle.turn_book.specs.declared.view.Front.{Front}
use Rattle.turn_book.specs.Histories.{IsPrefix, entries_of}
use Rattle.turn_book.specs.Views.{IsLegal, SamePlace, SameList}
use Rattle.turn_book.proofs.Lists.{prefix-nil}
use Rattle.part_slots.specs.Callers.{caller_number}
use Rattle.part_slots.specs.Commits.{Seen}
use Rattle.part_slots.specs.Running.{Opens, IsStep, caller_of}
use Rattle.part_slots.specs.Slots.{place}
use Rattle.part_attempt.specs.declared.not_now.NotNow.TheVariants as reasons
use Rattle.part_attempt.proofs.Standing.{stands, leads}
use Rattle.part_reach.specs.Sure.{IsSure}
use Rattle.part_reach.specs.Turns.{IsReachedAfter, IsReachedBetween}
use Rattle.part_reach.specs.UnderWay.{HasLooked, IsUnderWay, LooksAgain, CameTo}
use Rattle.part_reach.proofs.Ways.{same_place}
use Rattle.part_reach.proofs.Fetched.{reached_low, one_reached, first_looked}

module _ (shape : Shape) (caller : Caller) (call : Call) (part : Part) (sure : IsSure shape caller call part) where
  -- it is reached on the board that a list leaves
  reached_after : (v : Seen) → v.begin ≡ Some (opening shape) → IsLegal Opens IsStep v → IsReachedAfter shape caller call v.seen part
  reached_after v begins legal = record { board = legal.1; after = leads shape v begins legal; reached = sure legal.1 (stands shape v begins legal).shape }

  -- its place is one of the board
  pub sure_low : is_allowed caller call shape ≡ true → place part < 5 + shape.cpus
  sure_low allowed = reached_low shape caller call [] part allowed (record { board = opening shape; after = refl; reached = sure (opening shape) refl })

  module _ (u : Seen) (begins : u.begin ≡ Some (opening shape)) where
    -- where its turn was won, the attempt is under way
    pub won : (w : Seen) (r : Result Front Part) (places : List ℕ) → IfOk r (LooksAgain u w (place part ∷ [])) → IfOk r (λ _. places ≡ place part ∷ []) → IfOk r (λ had. IsUnderWay shape caller call u w had places)
    won w (Err found) places again is = tt
    won w (Ok had) places again is = record {
      earlier = [];
      looks = again.looks;
      misses = again.misses;
      seen = again.seen;
      own = again.own;
      place = again.place;
      took = again.took ∙ ap (λ l. u.took ++ l) (sym is);
      found = again.found;
      reached = subst (λ l. All (IsReachedBetween shape caller call u.seen w.seen) l) (sym is)
          (one_reached shape caller call u.seen w.seen w.seen part again.seen (prefix-nil w.seen) (reached_after w (again.place.0 ∙ begins) again.legal));
    }

    -- where it was found taken, this is what the attempt came to
    pub taken : (x w : Seen) (had : Front) → SameList u x → SamePlace u x → (x.took ≡ u.took) × (x.found ≡ u.found ++ place part ∷ []) → LooksAgain x w [] had
        → CameTo shape caller call u w (Err (reasons.Busy part)) []
    taken x w had list place_is turns again = record {
      entered = tt;
      barred = tt;
      gave_way = (again.found ∙ turns.1, again.misses ∙ list.5);
      kept = tt;
      quiet = refl;
      own = λ c who. again.own c (place_is.2 ∙ who) ∙ ap (entries_of caller_of c) list.0;
      seen = subst (λ l. IsPrefix l w.seen) list.0 again.seen;
      legal = again.legal;
      place = same_place u x w place_is again.place;
      took = record {
        turns = [];
        grew = again.took ∙ append-nil x.took ∙ turns.0 ∙ sym (append-nil u.took);
        reached = All-nil (IsReachedBetween shape caller call u.seen w.seen);
      };
      found = again.found ∙ turns.1;
      reached = reached_after w (again.place.0 ∙ place_is.0 ∙ begins) again.legal;
    }

-- the first look behind the turn that was won
pub won_looked : (shape : Shape) (caller : Caller) (u w : Seen) (more : List ℕ) (r : Result Front Part) → u.begin ≡ Some (opening shape) → u.caller ≡ Some (caller_number caller) → IfOk r (LooksAgain u w more) → IfOk r (HasLooked shape caller w)
won_looked shape caller u w more (Err found) begins named again = tt
won_looked shape caller u w more (Ok had) begins named again = first_looked shape caller u w more had begins named again
