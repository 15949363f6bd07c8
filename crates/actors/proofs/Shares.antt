-- The calls of one actor among those of all.
use Rattle.std.proofs.Common.{◌≡◌, ℕ, ◌<◌, Bool, true, false, true≢false, if◌then◌else◌, nat_eq, cond, List, [], ◌∷◌, ◌++◌, map, filter, zero, suc, length, slice_index_or, inl, inr, None, is_some, refl, sym, ap, ◌∙◌, subst, arith}
use Rattle.std.proofs.lemmas.Bool.Decides.{nat_tests}
use Rattle.std.proofs.lemmas.List.{append-nil}
use Rattle.std.proofs.lemmas.List.Elements.{filter-append}
use Rattle.std.specs.List.{IsDistinct, AllByRecursion}
use Rattle.std.specs.declared.option.Option.{Option}
use Rattle.irq_base.specs.Faces.{PlacedEntry}
use Rattle.irq_base.specs.declared.call.Caller.{Caller}
use Rattle.irq_base.specs.declared.call.Caller.TheVariants.{Device}
use Rattle.irq_base.specs.declared.face.Face.{Ghosts}
use Rattle.irq_base.specs.declared.lists.Entry.{Entry}
use Rattle.irq_base.specs.declared.reply.Reply.{Reply}
use Rattle.irq_base.specs.declared.reply.Spent.{Spent}
use Rattle.script_text.specs.Asks.{same_caller, next_ask, actors_of}
use Rattle.script_text.specs.Scripts.{Script}
use Rattle.script_merging.specs.Merging.{replies_of, next_of, IsAsked, Merges, IsWhole}
use Rattle.script_merging.proofs.Callers.{callers_same, caller_itself, callers_apart}
use Rattle.script_merging.proofs.Merged.{no_replies, own_reply, others_reply}
use Rattle.script_merging.proofs.Actors.{actors-distinct, of-actors}
use Rattle.actors.specs.Turns.{entries_in, replies_in, AskedInTurn, HasRun}
use Rattle.actors.specs.Runs.{all_of, AreOrdered, HaveRun, AreOwn, AreGathered, first_stop, entries_by, Gains, AreBack}
use Rattle.actors.proofs.Orders.{RiseFrom, rise_of, rise_lower, rise_within, filtered_one}
use Rattle.face_asks.proofs.Told.{told_weaker}

-- whether a call is that caller's
abbrev is_by : Caller → PlacedEntry → Bool
is_by who p = same_caller p.entry.caller who

-- ---- one list of calls in turn

by_caller : (s : Script) (who other : Caller) (replies : List Reply) (ps : List PlacedEntry) (t : Bool) → same_caller who other ≡ t → AskedInTurn s who replies ps
    → filter (is_by other) ps ≡ (if t then ps else [])
by_caller s who other replies [] true is asked = refl
by_caller s who other replies [] false is asked = refl
by_caller s who other replies (p ∷ ps) true is (mine, next, more) =
    ap (λ t. cond t (p ∷ filter (is_by other) ps) (filter (is_by other) ps)) (ap (λ c. same_caller c other) mine ∙ is)
    ∙ ap (λ l. p ∷ l) (by_caller s who other (replies ++ p.entry.reply ∷ []) ps true is more)
by_caller s who other replies (p ∷ ps) false is (mine, next, more) =
    ap (λ t. cond t (p ∷ filter (is_by other) ps) (filter (is_by other) ps)) (ap (λ c. same_caller c other) mine ∙ is)
    ∙ by_caller s who other (replies ++ p.entry.reply ∷ []) ps false is more

-- calls in turn, caller by caller, merge
module _ (s : Script) where
  abbrev EachInTurn : List Entry → List PlacedEntry → Type 0
  EachInTurn before ps = (who : Caller) → AskedInTurn s who (replies_of who before) (filter (is_by who) ps)

  later_in_turn : (who : Caller) (before : List Entry) (p : PlacedEntry) (ps : List PlacedEntry) (t : Bool) → same_caller p.entry.caller who ≡ t
      → AskedInTurn s who (replies_of who before) (cond t (p ∷ filter (is_by who) ps) (filter (is_by who) ps))
      → AskedInTurn s who (replies_of who (before ++ p.entry ∷ [])) (filter (is_by who) ps)
  later_in_turn who before p ps true is (mine, next, more) = subst (λ rs. AskedInTurn s who rs (filter (is_by who) ps)) (sym (own_reply who before p.entry mine)) more
  later_in_turn who before p ps false is asked = subst (λ rs. AskedInTurn s who rs (filter (is_by who) ps)) (sym (others_reply who before p.entry is)) asked

  merges : (before : List Entry) (ps : List PlacedEntry) → EachInTurn before ps → Merges s before (entries_in ps)
  merges before [] each = tt
  merges before (p ∷ ps) each = (
    first (subst (λ t. AskedInTurn s p.entry.caller (replies_of p.entry.caller before) (cond t (p ∷ filter (is_by p.entry.caller) ps) (filter (is_by p.entry.caller) ps))) (caller_itself p.entry.caller) (each p.entry.caller)),
    merges (before ++ p.entry ∷ []) ps (λ who. later_in_turn who before p ps (same_caller p.entry.caller who) refl (each who)),
  )
    where
      first : AskedInTurn s p.entry.caller (replies_of p.entry.caller before) (p ∷ filter (is_by p.entry.caller) ps) → IsAsked s before p.entry
      first (mine, next, more) = next

  replies_are : (who : Caller) (ps : List PlacedEntry) → replies_of who (entries_in ps) ≡ replies_in (filter (is_by who) ps)
  unfolding replies_of
  replies_are who [] = refl
  replies_are who (p ∷ ps) = by (same_caller p.entry.caller who) (filter (λ (e : Entry). same_caller e.caller who) (entries_in ps)) (filter (is_by who) ps) (replies_are who ps)
    where
      by : (t : Bool) (es : List Entry) (qs : List PlacedEntry) → map (λ (e : Entry). e.reply) es ≡ replies_in qs → map (λ (e : Entry). e.reply) (cond t (p.entry ∷ es) es) ≡ replies_in (cond t (p ∷ qs) qs)
      by true es qs is = ap (λ l. p.entry.reply ∷ l) is
      by false es qs is = is

entries_are : (who : Caller) (ps : List PlacedEntry) → entries_by who (entries_in ps) ≡ entries_in (filter (is_by who) ps)
entries_are who [] = refl
entries_are who (p ∷ ps) = by (same_caller p.entry.caller who) (entries_by who (entries_in ps)) (filter (is_by who) ps) (entries_are who ps)
  where
    by : (t : Bool) (es : List Entry) (qs : List PlacedEntry) → es ≡ entries_in qs → cond t (p.entry ∷ es) es ≡ entries_in (cond t (p ∷ qs) qs)
    by true es qs is = ap (λ l. p.entry ∷ l) is
    by false es qs is = is

-- ---- those of all actors

module _ {F : Type 0} (face : Ghosts F) (s : Script) where
  abbrev Apart : Caller → List F → Type 0
  Apart who fs = AllByRecursion (λ y. same_caller who y ≡ false) (map face.who fs)

  abbrev AllApart : List F → Type 0
  AllApart fs = IsDistinct same_caller (map face.who fs)

  none_of : (who : Caller) (fs gs : List F) (lists : List (List PlacedEntry)) → HaveRun face s fs gs lists → Apart who fs → filter (is_by who) (all_of lists) ≡ []
  none_of who [] [] [] ran apart = refl
  none_of who (f ∷ fs) (g ∷ gs) (ps ∷ lists) (run, ran) (other, apart) =
      filter-append (is_by who) ps (all_of lists)
      ∙ (λ i. by_caller s (face.who f) who [] ps false (callers_apart who (face.who f) other) run.asked i ++ none_of who fs gs lists ran apart i)
  none_of who [] [] (ps ∷ lists) ran apart = absurd ran
  none_of who [] (g ∷ gs) lists ran apart = absurd ran
  none_of who (f ∷ fs) [] lists ran apart = absurd ran
  none_of who (f ∷ fs) (g ∷ gs) [] ran apart = absurd ran

  -- what holds of no calls, and of those of the actor with the caller, holds of those of the caller
  picked : (who : Caller) (Q : List PlacedEntry → Type 0) → Q [] → (fs gs : List F) (lists : List (List PlacedEntry)) → HaveRun face s fs gs lists → AllApart fs
      → ((f g : F) (ps : List PlacedEntry) → HasRun face s f g ps → face.who f ≡ who → Q ps) → Q (filter (is_by who) (all_of lists))
  unfolding IsDistinct
  picked who Q none [] [] [] ran apart each = none
  picked who Q none (f ∷ fs) (g ∷ gs) (ps ∷ lists) (run, ran) (other, apart) each =
      subst Q (sym (filter-append (is_by who) ps (all_of lists)))
      (one who Q f g fs gs ps lists run ran other (same_caller (face.who f) who) refl each (picked who Q none fs gs lists ran apart each))
    where
      one : (who : Caller) (Q : List PlacedEntry → Type 0) (f g : F) (fs gs : List F) (ps : List PlacedEntry) (lists : List (List PlacedEntry)) → HasRun face s f g ps → HaveRun face s fs gs lists → Apart (face.who f) fs
          → (t : Bool) → same_caller (face.who f) who ≡ t → ((f g : F) (ps : List PlacedEntry) → HasRun face s f g ps → face.who f ≡ who → Q ps)
          → Q (filter (is_by who) (all_of lists)) → Q (filter (is_by who) ps ++ filter (is_by who) (all_of lists))
      one who Q f g fs gs ps lists run ran other true is each rest =
          let same : face.who f ≡ who = callers_same (face.who f) who is in
          subst Q (sym ((λ i. by_caller s (face.who f) who [] ps true is run.asked i ++ none_of who fs gs lists ran (subst (λ w. Apart w fs) same other) i) ∙ append-nil ps)) (each f g ps run same)
      one who Q f g fs gs ps lists run ran other false is each rest =
          subst Q (sym (ap (λ l. l ++ filter (is_by who) (all_of lists)) (by_caller s (face.who f) who [] ps false is run.asked))) rest
  picked who Q none [] [] (ps ∷ lists) ran apart each = absurd ran
  picked who Q none [] (g ∷ gs) lists ran apart each = absurd ran
  picked who Q none (f ∷ fs) [] lists ran apart each = absurd ran
  picked who Q none (f ∷ fs) (g ∷ gs) [] ran apart each = absurd ran

  widen : (who : Caller) (front rest : List PlacedEntry) (fs : List F) (lists : List (List PlacedEntry)) → ((other : Caller) → same_caller who other ≡ false → filter (is_by other) front ≡ [])
      → Apart who fs → AreOwn face rest fs lists → AreOwn face (front ++ rest) fs lists
  widen who front rest [] [] none apart own = tt
  widen who front rest (f ∷ fs) (ps ∷ lists) none (other, apart) (own, more) =
      (filter-append (is_by (face.who f)) front rest ∙ (λ i. none (face.who f) other i ++ own i), widen who front rest fs lists none apart more)
  widen who front rest [] (ps ∷ lists) none apart own = absurd own
  widen who front rest (f ∷ fs) [] none apart own = absurd own

  own_all : (fs gs : List F) (lists : List (List PlacedEntry)) → HaveRun face s fs gs lists → AllApart fs → AreOwn face (all_of lists) fs lists
  unfolding IsDistinct
  own_all [] [] [] ran apart = tt
  own_all (f ∷ fs) (g ∷ gs) (ps ∷ lists) (run, ran) (other, apart) = (
    filter-append (is_by (face.who f)) ps (all_of lists)
        ∙ (λ i. by_caller s (face.who f) (face.who f) [] ps true (caller_itself (face.who f)) run.asked i ++ none_of (face.who f) fs gs lists ran other i)
        ∙ append-nil ps,
    widen (face.who f) ps (all_of lists) fs lists (λ w not_it. by_caller s (face.who f) w [] ps false not_it run.asked) other (own_all fs gs lists ran apart),
  )
  own_all [] [] (ps ∷ lists) ran apart = absurd ran
  own_all [] (g ∷ gs) lists ran apart = absurd ran
  own_all (f ∷ fs) [] lists ran apart = absurd ran
  own_all (f ∷ fs) (g ∷ gs) [] ran apart = absurd ran

  own_ordered : (all ordered : List PlacedEntry) (fs gs : List F) (lists : List (List PlacedEntry)) → AreOrdered all ordered → HaveRun face s fs gs lists → AreOwn face all fs lists → AreOwn face ordered fs lists
  own_ordered all ordered [] [] [] order ran own = tt
  own_ordered all ordered (f ∷ fs) (g ∷ gs) (ps ∷ lists) order (run, ran) (own, more) = (
    filtered_one (is_by (face.who f)) 0 (face.floor f) ordered all ps (rise_of 0 ordered order.rising (λ d some. omega arith)) order.same own (rise_within (face.floor f) (face.floor g) ps run.places),
    own_ordered all ordered fs gs lists order ran more,
  )
  own_ordered all ordered [] [] (ps ∷ lists) order ran own = absurd ran
  own_ordered all ordered [] (g ∷ gs) lists order ran own = absurd ran
  own_ordered all ordered (f ∷ fs) [] lists order ran own = absurd ran
  own_ordered all ordered (f ∷ fs) (g ∷ gs) [] order ran own = absurd ran

  -- ---- in the history

  next_is : (who : Caller) (history : List Entry) (ordered ps : List PlacedEntry) → history ≡ entries_in ordered → filter (is_by who) ordered ≡ ps → next_of s history who ≡ next_ask who s.lines (replies_in ps)
  next_is who history ordered ps is own = ap (next_ask who s.lines) (ap (replies_of who) is ∙ replies_are s who ordered ∙ ap replies_in own)

  backs : (history : List Entry) (ordered : List PlacedEntry) (fs gs : List F) (lists : List (List PlacedEntry)) → history ≡ entries_in ordered → HaveRun face s fs gs lists → AreOwn face ordered fs lists → AreBack face s history fs gs
  backs history ordered [] [] [] is ran own = tt
  backs history ordered (f ∷ fs) (g ∷ gs) (ps ∷ lists) is (run, ran) (own, more) = (
    record {
      caller = run.caller;
      shape = run.shape;
      home = run.home;
      own = told_weaker (face.own f) (face.own g) (λ had has. has ≡ had ++ ps) (Gains (face.who f) history) (λ had has behind. record {
        gained = ps;
        behind = behind;
        just = sym (ap (entries_by (face.who f)) is ∙ entries_are (face.who f) ordered ∙ ap entries_in own);
      }) run.own;
      all = λ none. next_is (face.who f) history ordered ps is own ∙ run.all none;
      barred = λ some. record {
        call = (run.stopped some).call;
        next = ap (next_of s history) run.caller ∙ next_is (face.who f) history ordered ps is own ∙ ap (λ w. next_ask w s.lines (replies_in ps)) (sym run.caller) ∙ (run.stopped some).next;
        spent = (run.stopped some).spent;
        last = (run.stopped some).last;
        barred = (run.stopped some).barred;
      };
    },
    backs history ordered fs gs lists is ran more,
  )
  backs history ordered [] [] (ps ∷ lists) is ran own = absurd ran
  backs history ordered [] (g ∷ gs) lists is ran own = absurd ran
  backs history ordered (f ∷ fs) [] lists is ran own = absurd ran
  backs history ordered (f ∷ fs) (g ∷ gs) [] is ran own = absurd ran

  -- where no limit is the first, no actor asks more
  none_left : (history : List Entry) (fs gs : List F) (lists : List (List PlacedEntry)) → HaveRun face s fs gs lists → AreBack face s history fs gs → first_stop face gs ≡ None
      → (k : ℕ) → k < length (map face.who fs) → next_of s history (slice_index_or (map face.who fs) k (Device 0)) ≡ None
  none_left history (f ∷ fs) (g ∷ gs) (ps ∷ lists) (run, ran) (back, more) none k low = by (λ none. none_left history fs gs lists ran more none) (nat_eq (face.stops g) 0) refl none
    where
      some_none : (o : Option Spent) → is_some o ≡ true → o ≡ None → ⊥
      some_none o some none = true≢false (sym some ∙ ap is_some none)

      at : (face.stops g ≡ 0) → ((j : ℕ) → j < length (map face.who fs) → next_of s history (slice_index_or (map face.who fs) j (Device 0)) ≡ None)
          → (k : ℕ) → k < length (map face.who (f ∷ fs)) → next_of s history (slice_index_or (map face.who (f ∷ fs)) k (Device 0)) ≡ None
      at zero_stops later zero low = back.all zero_stops
      at zero_stops later (suc j) low = later j (omega (arith, low))

      by : (first_stop face gs ≡ None → (j : ℕ) → j < length (map face.who fs) → next_of s history (slice_index_or (map face.who fs) j (Device 0)) ≡ None) → (t : Bool) → nat_eq (face.stops g) 0 ≡ t → (if t then first_stop face gs else face.last g) ≡ None → next_of s history (slice_index_or (map face.who (f ∷ fs)) k (Device 0)) ≡ None
      by rest true is none = at (grind (is, arith, nat_tests)) (rest none) k low
      by rest false is none = absurd (some_none (face.last g) (ap is_some (run.stopped (grind (is, arith, nat_tests))).last) none)
  none_left history [] gs lists ran back none k low = absurd (omega (arith, low))
  none_left history (f ∷ fs) [] lists ran back none k low = absurd ran
  none_left history (f ∷ fs) (g ∷ gs) [] ran back none k low = absurd ran

  -- ---- what a run ensures

  all_apart : (fs : List F) → map face.who fs ≡ actors_of s.lines → AllApart fs
  all_apart fs callers = subst (IsDistinct same_caller) (sym callers) (actors-distinct s.lines)

  pub own_of : (fs gs : List F) (lists : List (List PlacedEntry)) (ordered : List PlacedEntry) → HaveRun face s fs gs lists → AreOrdered (all_of lists) ordered → map face.who fs ≡ actors_of s.lines → AreOwn face ordered fs lists
  own_of fs gs lists ordered ran order callers = own_ordered (all_of lists) ordered fs gs lists order ran (own_all fs gs lists ran (all_apart fs callers))

  module _ (fs gs : List F) (history : List Entry) (gathered : AreGathered face s fs gs history) (callers : map face.who fs ≡ actors_of s.lines) where
    apart : AllApart fs
    apart = all_apart fs callers

    pub back_of : AreBack face s history fs gs
    back_of = backs history gathered.ordered fs gs gathered.answered gathered.listed gathered.ran gathered.own

    pub merge_of : Merges s [] history
    merge_of = subst (Merges s []) (sym gathered.listed) (merges s [] gathered.ordered (λ who.
        subst (λ rs. AskedInTurn s who rs (filter (is_by who) gathered.ordered)) (sym (no_replies who))
        (subst (AskedInTurn s who []) (sym (filtered_one (is_by who) 0 0 gathered.ordered (all_of gathered.answered) (filter (is_by who) (all_of gathered.answered))
        (rise_of 0 gathered.ordered gathered.order.rising (λ d some. omega arith)) gathered.order.same refl
        (picked who (RiseFrom 0) tt fs gs gathered.answered gathered.ran apart (λ f g ps run is. rise_lower (face.floor f) 0 ps (omega arith) (rise_within (face.floor f) (face.floor g) ps run.places)))))
        (picked who (AskedInTurn s who []) tt fs gs gathered.answered gathered.ran apart (λ f g ps run is. subst (λ w. AskedInTurn s w [] ps) is run.asked)))))

    pub whole_of : first_stop face gs ≡ None → IsWhole s history
    whole_of none who = elim (of-actors s who) [
      | inl w ↦ subst (λ c. next_of s history c ≡ None) (ap (λ l. slice_index_or l w.0 (Device 0)) callers ∙ w.2)
          (none_left history fs gs gathered.answered gathered.ran back_of none w.0 (let low = w.1 in let many = ap length callers in omega (arith, low, many)))
      | inr silent ↦ silent history
    ]
