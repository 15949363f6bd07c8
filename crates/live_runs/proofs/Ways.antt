-- From what faces tell of their actors to what is known of their passes.
use Rattle.std.proofs.Common.{◌≡◌, ◌<◌, Bool, true, false, nat_eq, if◌then◌else◌, List, [], ◌∷◌, ◌++◌, append_assoc, map, All, is_some, Some, None, refl, sym, ap, ◌∙◌, subst, arith}
use Rattle.std.proofs.lemmas.Bool.Decides.{nat_tests}
use Rattle.std.proofs.lemmas.List.{map-append}
use Rattle.std.proofs.lemmas.List.Elements.{All-nil, All-cons, All-head, All-tail}
use Rattle.std.specs.declared.option.Option.{Option}
use Rattle.irq_base.specs.Faces.{PlacedEntry, WhereTold}
use Rattle.irq_base.specs.declared.call.Call.{Call}
use Rattle.irq_base.specs.declared.face.Face.{Ghosts}
use Rattle.irq_base.specs.declared.lists.Entry.{Entry}
use Rattle.irq_base.specs.declared.reply.Spent.{Spent}
use Rattle.script_text.specs.Scripts.{Script}
use Rattle.script_merging.specs.Merging.{next_of, Merges, IsWhole}
use Rattle.board_step.specs.Step.{spent_of}
use Rattle.actors.specs.Turns.{HasRun}
use Rattle.actors.specs.Runs.{calls_by, HaveRun, AreOwn, AreGathered, first_stop, IsBack, AreBack}
use Rattle.part_board.specs.Facing.{home_of_pass, numbers_of, own_in, board_seen}
use Rattle.part_board.specs.declared.live.LiveBoard.{LiveBoard}
use Rattle.part_board.specs.declared.pass.Pass.{Pass}
use Rattle.part_board.specs.Seen.{pass_seen, IsPassOf}
use Rattle.part_board.proofs.Faces.{table_is}
use Rattle.live_runs.specs.Made.{callers_of, IsFresh}
use Rattle.live_runs.specs.Ran.{HasOwn, IsStopped, StopsAt, FirstStop, HaveRunBy}
use Rattle.live_runs.specs.Running.{ByNext}
use Rattle.live_runs.proofs.Places.{own_none}

some_is : {A : Type 0} (x y : A) → Some x ≡ Some y → x ≡ y
some_is x y e = cc

none_some : {A : Type 0} (o : Option A) (x : A) → o ≡ None → o ≡ Some x → ⊥
none_some o x none some = cc

-- what is told on both sides
told_of : {A : Type 0} (o p : Option A) (x y : A) (P : A → A → Type 0) → o ≡ Some x → p ≡ Some y → WhereTold o p P → P x y
told_of o p x y P is too told = subst (λ q. WhereTold (Some x) q P) too (subst (λ q. WhereTold q p P) is told)

-- one more that is pushed, where the next of those that are left is mapped from it
pub moved : {A B : Type 0} (f : A → B) (xs now : List A) (x : A) (y : B) (left rest all : List B) → now ≡ xs ++ x ∷ [] → f x ≡ y → left ≡ y ∷ rest → map f xs ++ left ≡ all → map f now ++ rest ≡ all
moved f xs now x y left rest all is same next whole =
    ap (λ l. map f l ++ rest) is ∙ ap (λ l. l ++ rest) (map-append f xs (x ∷ [])) ∙ append_assoc (map f xs) (f x ∷ []) rest ∙ ap (λ z. map f xs ++ z ∷ rest) same
    ∙ ap (λ l. map f xs ++ l) (sym next) ∙ whole

pub callers_mapped : {A : Type 0} (pass_of : A → Pass) (xs : List A) → map (λ x. (pass_of x).caller) xs ≡ callers_of (map pass_of xs)
callers_mapped pass_of [] = refl
callers_mapped pass_of (x ∷ xs) = ap (λ l. (pass_of x).caller ∷ l) (callers_mapped pass_of xs)

pub all_mapped : {A B : Type 0} (f : A → B) (P : B → Type 0) (xs : List A) → All P (map f xs) → All (λ x. P (f x)) xs
all_mapped f P [] all = λ k d low. absurd (omega (arith, low))
all_mapped f P (x ∷ xs) all = All-cons (λ y. P (f y)) x xs (All-head P (f x) (map f xs) all) (all_mapped f P xs (All-tail P (f x) (map f xs) all))

module _ {F : Type 0} (face : Ghosts F) (s : Script) (pass_of : F → Pass)
    (who_is : (f : F) → face.who f ≡ (pass_of f).caller)
    (own_is : (f : F) → face.own f ≡ Some (own_in (pass_of f).caller (pass_seen (pass_of f))))
    (home_is : (f : F) → face.home f ≡ Some (home_of_pass (pass_of f)))
    (shape_is : (f : F) → face.shape f ≡ (pass_of f).shape)
    (bars : (f : F) (call : Call) (spent : Spent) → face.barred f call spent → spent_of (board_seen (pass_of f)) call ≡ Some spent) where
  abbrev ways : List F → List Pass
  ways fs = map pass_of fs

  -- ---- of the board

  pub callers_back : (history : List Entry) (fs gs : List F) → AreBack face s history fs gs → callers_of (ways gs) ≡ callers_of (ways fs)
  callers_back history [] [] back = refl
  callers_back history (f ∷ fs) (g ∷ gs) (back, more) = (λ i. (sym (who_is g) ∙ back.caller ∙ who_is f) i ∷ callers_back history fs gs more i)
  callers_back history [] (g ∷ gs) back = absurd back
  callers_back history (f ∷ fs) [] back = absurd back

  one_of_board : (board : LiveBoard) (history : List Entry) (f g : F) → IsBack face s history f g → IsPassOf board (pass_of f) → IsPassOf board (pass_of g)
  one_of_board board history f g back of_board = record {
    book = table_is (pass_of g).pen.seat.table_id board.book.table.shared.table_id
        (some_is (home_of_pass (pass_of g)) (home_of_pass (pass_of f)) (sym (home_is g) ∙ back.home ∙ home_is f) ∙ ap numbers_of of_board.book);
    shape = sym (shape_is g) ∙ back.shape ∙ shape_is f ∙ of_board.shape;
  }

  pub of_board_back : (board : LiveBoard) (history : List Entry) (fs gs : List F) → AreBack face s history fs gs → All (λ f. IsPassOf board (pass_of f)) fs → All (IsPassOf board) (ways gs)
  of_board_back board history [] [] back all = All-nil (IsPassOf board)
  of_board_back board history (f ∷ fs) (g ∷ gs) (back, more) all =
      All-cons (IsPassOf board) (pass_of g) (ways gs)
      (one_of_board board history f g back (All-head (λ f. IsPassOf board (pass_of f)) f fs all))
      (of_board_back board history fs gs more (All-tail (λ f. IsPassOf board (pass_of f)) f fs all))
  of_board_back board history [] (g ∷ gs) back all = absurd back
  of_board_back board history (f ∷ fs) [] back all = absurd back

  -- ---- their calls

  one_own : (calls ps : List PlacedEntry) (f g : F) → HasRun face s f g ps → calls_by (face.who f) calls ≡ ps → own_in (pass_of f).caller (pass_seen (pass_of f)) ≡ [] → HasOwn calls (pass_of g)
  one_own calls ps f g run own none =
      ap (λ w. calls_by w calls) (sym (who_is g) ∙ run.caller) ∙ own
      ∙ sym (told_of (face.own f) (face.own g) (own_in (pass_of f).caller (pass_seen (pass_of f))) (own_in (pass_of g).caller (pass_seen (pass_of g)))
      (λ had has. has ≡ had ++ ps) (own_is f) (own_is g) run.own ∙ ap (λ l. l ++ ps) none)

  owns : (board : LiveBoard) (calls : List PlacedEntry) (fs gs : List F) (lists : List (List PlacedEntry)) → HaveRun face s fs gs lists → AreOwn face calls fs lists
      → All (λ f. IsFresh board (pass_of f)) fs → All (HasOwn calls) (ways gs)
  owns board calls [] [] [] ran own fresh = All-nil (HasOwn calls)
  owns board calls (f ∷ fs) (g ∷ gs) (ps ∷ lists) (run, ran) (own, more) fresh =
      All-cons (HasOwn calls) (pass_of g) (ways gs)
      (one_own calls ps f g run own (own_none (pass_of f).caller (pass_seen (pass_of f)) (All-head (λ f. IsFresh board (pass_of f)) f fs fresh).fresh))
      (owns board calls fs gs lists ran more (All-tail (λ f. IsFresh board (pass_of f)) f fs fresh))
  owns board calls [] [] (ps ∷ lists) ran own fresh = absurd ran
  owns board calls [] (g ∷ gs) lists ran own fresh = absurd ran
  owns board calls (f ∷ fs) [] lists ran own fresh = absurd ran
  owns board calls (f ∷ fs) (g ∷ gs) [] ran own fresh = absurd ran

  -- ---- limits

  one_stopped : (history : List Entry) (f g : F) → IsBack face s history f g → IsStopped s history (pass_of g)
  one_stopped history f g back call next = by (nat_eq (face.stops g) 0) refl
    where
      by : (t : Bool) → nat_eq (face.stops g) 0 ≡ t → is_some (spent_of (board_seen (pass_of g)) call) ≡ true
      by true is = absurd (none_some (next_of s history (face.who g)) call (ap (next_of s history) back.caller ∙ back.all (grind (is, arith, nat_tests))) (ap (next_of s history) (who_is g) ∙ next))
      by false is =
          let barred = back.barred (grind (is, arith, nat_tests)) in
          let same : barred.call ≡ call = some_is barred.call call (sym barred.next ∙ ap (next_of s history) (who_is g) ∙ next) in
          subst (λ c. is_some (spent_of (board_seen (pass_of g)) c) ≡ true) same (ap is_some (bars g barred.call barred.spent barred.barred))

  stopped : (history : List Entry) (fs gs : List F) → AreBack face s history fs gs → All (IsStopped s history) (ways gs)
  stopped history [] [] back = All-nil (IsStopped s history)
  stopped history (f ∷ fs) (g ∷ gs) (back, more) = All-cons (IsStopped s history) (pass_of g) (ways gs) (one_stopped history f g back) (stopped history fs gs more)
  stopped history [] (g ∷ gs) back = absurd back
  stopped history (f ∷ fs) [] back = absurd back

  firsts : (history : List Entry) (fs gs : List F) (lists : List (List PlacedEntry)) → HaveRun face s fs gs lists → AreBack face s history fs gs → FirstStop s history (first_stop face gs) (ways gs)
  firsts history [] [] [] ran back = refl
  firsts history (f ∷ fs) (g ∷ gs) (ps ∷ lists) (run, ran) (back, more) = by (nat_eq (face.stops g) 0) refl (firsts history fs gs lists ran more)
    where
      by : (t : Bool) → nat_eq (face.stops g) 0 ≡ t → FirstStop s history (first_stop face gs) (ways gs) → FirstStop s history (if t then first_stop face gs else face.last g) (pass_of g ∷ ways gs)
      by true is rest =
          let none : next_of s history (pass_of g).caller ≡ None = ap (next_of s history) (sym (who_is g) ∙ back.caller) ∙ back.all (grind (is, arith, nat_tests)) in
          subst (λ o. ByNext o (FirstStop s history (first_stop face gs) (ways gs)) (StopsAt (first_stop face gs) (pass_of g))) (sym none) rest
      by false is rest =
          let some : 0 < face.stops g = grind (is, arith, nat_tests) in
          let barred = back.barred some in
          let next : next_of s history (pass_of g).caller ≡ Some barred.call = ap (next_of s history) (sym (who_is g)) ∙ barred.next in
          subst (λ o. ByNext o (FirstStop s history (face.last g) (ways gs)) (StopsAt (face.last g) (pass_of g))) (sym next)
          (ap is_some barred.last, bars g barred.call barred.spent barred.barred ∙ sym barred.last)
  firsts history [] [] (ps ∷ lists) ran back = absurd ran
  firsts history [] (g ∷ gs) lists ran back = absurd ran
  firsts history (f ∷ fs) [] lists ran back = absurd ran
  firsts history (f ∷ fs) (g ∷ gs) [] ran back = absurd ran

  -- ---- together

  pub have_run : (board : LiveBoard) (history : List Entry) (spent : Option Spent) (fs gs : List F) → All (λ f. IsFresh board (pass_of f)) fs → AreGathered face s fs gs history
      → Merges s [] history → AreBack face s history fs gs → spent ≡ first_stop face gs → (spent ≡ None → IsWhole s history) → HaveRunBy s history spent (ways gs)
  have_run board history spent fs gs fresh gathered merge back is whole = record {
    calls = gathered.ordered;
    listed = gathered.listed;
    rising = gathered.order.rising;
    own = owns board gathered.ordered fs gs gathered.answered gathered.ran gathered.own fresh;
    merge = merge;
    whole = whole;
    stopped = stopped history fs gs back;
    first = subst (λ o. FirstStop s history o (ways gs)) (sym is) (firsts history fs gs gathered.answered gathered.ran back);
  }
