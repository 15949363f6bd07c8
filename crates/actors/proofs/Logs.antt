-- What a run of all actors leaves.
use Rattle.std.proofs.Common.{◌≡◌, ℕ, ◌<◌, Bool, true, false, true≢false, if◌then◌else◌, nat_eq, List, [], ◌∷◌, ◌++◌, map, All, is_some, Some, None, refl, sym, ap, ◌∙◌, subst, arith}
use Rattle.std.proofs.lemmas.Bool.Decides.{nat_tests}
use Rattle.std.proofs.lemmas.List.{map-append}
use Rattle.std.proofs.lemmas.List.Elements.{All-head, All-tail}
use Rattle.std.specs.declared.option.Option.{Option}
use Rattle.irq_base.specs.Faces.{PlacedEntry}
use Rattle.irq_base.specs.declared.face.Face.{Ghosts}
use Rattle.irq_base.specs.declared.reply.Spent.{Spent}
use Rattle.script_text.specs.Asks.{actors_of}
use Rattle.script_text.specs.Scripts.{Script}
use Rattle.actors.specs.Kept.{placed_of, placed_in}
use Rattle.actors.specs.Logged.{IsLogged}
use Rattle.actors.specs.Results.{first_of, first_in, entries_of_all, HavePlayed}
use Rattle.actors.specs.Runs.{all_of, AreOrdered, HaveRun, AreGathered, first_stop}
use Rattle.actors.proofs.Shares.{own_of}
use Rattle.actors.specs.declared.playing.Played.{Played}
use Rattle.actors.specs.declared.running.RunLog.{RunLog}

module _ {F : Type 0} (face : Ghosts F) (s : Script) where
  -- the calls that the faces answered, one list an actor
  answered_of : (fs : List F) (ps : List (Played F)) → HavePlayed face s fs ps → List (List PlacedEntry)
  answered_of [] [] h = []
  answered_of (f ∷ fs) (p ∷ ps) (h, more) = h.answered ∷ answered_of fs ps more
  answered_of [] (p ∷ ps) h = absurd h
  answered_of (f ∷ fs) [] h = absurd h

  ran_of : (fs : List F) (ps : List (Played F)) (h : HavePlayed face s fs ps) → HaveRun face s fs (map (λ (p : Played F). p.face) ps) (answered_of fs ps h)
  unfolding answered_of
  ran_of [] [] h = tt
  ran_of (f ∷ fs) (p ∷ ps) (h, more) = (h.ran, ran_of fs ps more)
  ran_of [] (p ∷ ps) h = absurd h
  ran_of (f ∷ fs) [] h = absurd h

  all_kept : (fs : List F) (ps : List (Played F)) (h : HavePlayed face s fs ps) → All (λ (p : Played F). p.kept.lost ≡ false) ps → placed_in (entries_of_all ps) ≡ all_of (answered_of fs ps h)
  unfolding answered_of
  all_kept [] [] h kept = refl
  all_kept (f ∷ fs) (p ∷ ps) (h, more) kept =
      map-append placed_of p.kept.entries.items (entries_of_all ps)
      ∙ (λ i. h.whole (All-head (λ (p : Played F). p.kept.lost ≡ false) p ps kept) i ++ all_kept fs ps more (All-tail (λ (p : Played F). p.kept.lost ≡ false) p ps kept) i)
  all_kept [] (p ∷ ps) h kept = absurd h
  all_kept (f ∷ fs) [] h kept = absurd h

  first_with : (n : ℕ) (last rest : Option Spent) → (0 < n → is_some last ≡ true) → first_of (if nat_eq n 0 then None else last) rest ≡ (if nat_eq n 0 then rest else last)
  first_with n last rest some = by (nat_eq n 0) refl
    where
      by : (t : Bool) → nat_eq n 0 ≡ t → first_of (if t then None else last) rest ≡ (if t then rest else last)
      by true is = refl
      by false is = there last (some (grind (is, arith, nat_tests)))
        where
          there : (o : Option Spent) → is_some o ≡ true → first_of o rest ≡ o
          there None e = absurd (true≢false (sym e))
          there (Some x) e = refl

  stops_of : (fs : List F) (ps : List (Played F)) → HavePlayed face s fs ps → first_in (map (λ (p : Played F). p.spent) ps) ≡ first_stop face (map (λ (p : Played F). p.face) ps)
  stops_of [] [] h = refl
  stops_of (f ∷ fs) (p ∷ ps) (h, more) =
      (λ i. first_of (h.spent_is i) (stops_of fs ps more i))
      ∙ first_with (face.stops p.face) (face.last p.face) (first_stop face (map (λ (p : Played F). p.face) ps)) (λ some. ap is_some (h.ran.stopped some).last)
  stops_of [] (p ∷ ps) h = absurd h
  stops_of (f ∷ fs) [] h = absurd h

  pub gathered_of : (fs : List F) (ps : List (Played F)) (log : RunLog F) → HavePlayed face s fs ps → IsLogged ps log → map face.who fs ≡ actors_of s.lines → AreGathered face s fs log.faces.items log.history
  gathered_of fs ps log h logged callers = record {
    answered = answered_of fs ps h;
    ran = ran;
    ordered = logged.ordered;
    order = order;
    own = own_of face s fs log.faces.items (answered_of fs ps h) logged.ordered ran order callers;
    listed = logged.listed;
  }
    where
      ran : HaveRun face s fs log.faces.items (answered_of fs ps h)
      ran = subst (λ l. HaveRun face s fs l (answered_of fs ps h)) (sym logged.faces) (ran_of fs ps h)

      order : AreOrdered (all_of (answered_of fs ps h)) logged.ordered
      order = subst (λ l. AreOrdered l logged.ordered) (all_kept fs ps h logged.kept) logged.order

  pub spent_of_log : (fs : List F) (ps : List (Played F)) (log : RunLog F) → HavePlayed face s fs ps → IsLogged ps log → log.spent ≡ first_stop face log.faces.items
  spent_of_log fs ps log h logged = logged.spent ∙ stops_of fs ps h ∙ ap (first_stop face) (sym logged.faces)
