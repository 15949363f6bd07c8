-- What is wanted was read, or its turn was won, and the front was looked at again.
use Rattle.std.proofs.Common.{◌≡◌, ℕ, ◌+◌, ◌-◌, ◌*◌, ◌^◌, ◌<◌, ◌≤◌, List, [], ◌∷◌, ◌++◌, length, All, is_some, true, Some, refl, sym, ap, ◌∙◌, subst, arith, cond, append_assoc, append-nil, inl, inr}
use Rattle.std.specs.Prelude.{count_by, IfOk, IfErr, Ok, Err}
use Rattle.std.specs.declared.option.Option.{Option}
use Rattle.std.specs.declared.result.Result.{Result}
use Rattle.std.proofs.lemmas.List.{length-append}
use Rattle.std.proofs.lemmas.Bool.Decides.{leb_tells}
use Rattle.std.proofs.lemmas.List.Elements.{All-append, All-cons, All-nil}
use Rattle.std.proofs.lemmas.List.Sums.{sum_by-append}
use Rattle.irq_base.specs.Callers.{is_allowed}
use Rattle.irq_base.specs.declared.call.Call.{Call}
use Rattle.irq_base.specs.declared.call.Caller.{Caller}
use Rattle.irq_base.specs.declared.lists.Entry.{Entry}
use Rattle.irq_base.specs.declared.shape.Part.{Part}
use Rattle.irq_base.specs.declared.shape.Part.TheVariants.{Registry, Counters, Tick, Pic, Ioapic, Lapic}
use Rattle.irq_base.specs.declared.shape.Shape.{Shape}
use Rattle.board_step.specs.History.{opening}
use Rattle.board_step.specs.Step.{is_publication}
use Rattle.board_step.proofs.Publishing.{legal_histories_count}
use Rattle.board_step.proofs.There.{reach_is_there}
use Rattle.turn_book.specs.declared.view.Front.{Front}
use Rattle.turn_book.specs.Hands.{held_at}
use Rattle.turn_book.specs.Histories.{IsPrefix, entries_of}
use Rattle.turn_book.specs.Views.{IsLegal, SamePlace, SameList}
use Rattle.turn_book.proofs.Lists.{prefix-trans}
use Rattle.part_slots.specs.Callers.{caller_number}
use Rattle.part_slots.specs.Commits.{Seen}
use Rattle.part_slots.specs.Running.{Opens, IsStep, caller_of}
use Rattle.part_slots.specs.Slots.{place}
use Rattle.part_slots.proofs.Inverse.{part_back}
use Rattle.part_rig.specs.declared.reading.Reading.{Reading}
use Rattle.part_rig.specs.Readings.{blanks_under}
use Rattle.part_attempt.specs.declared.not_now.NotNow.TheVariants as reasons
use Rattle.part_attempt.proofs.Standing.{stands}
use Rattle.part_reach.specs.Turns.{IsReachedAfter, IsReachedBetween}
use Rattle.part_reach.specs.UnderWay.{HasLooked, HoldsPlaces, IsUnderWay, LooksAgain, CameTo}
use Rattle.part_reach.proofs.Ways.{reached_before, same_place, legal_same, busy}
use Rattle.board_model.specs.declared.width.TheConstants.{WORDS}
use Rattle.part_attempt.specs.declared.places.TheConstants.{MAX_PLACES}

-- ---- where a reached part stands

pub reached_low : (shape : Shape) (caller : Caller) (call : Call) (now : List Entry) (part : Part) → is_allowed caller call shape ≡ true → IsReachedAfter shape caller call now part → place part < 5 + shape.cpus
reached_low shape caller call now Registry allowed r = omega arith
reached_low shape caller call now Counters allowed r = omega arith
reached_low shape caller call now Tick allowed r = omega arith
reached_low shape caller call now Pic allowed r = omega arith
reached_low shape caller call now Ioapic allowed r = omega arith
reached_low shape caller call now (Lapic n) allowed r =
    let frame = legal_histories_count shape now r.board r.after in
    let there : n < r.board.shape.cpus = reach_is_there r.board caller call n (subst (λ s. is_allowed caller call s ≡ true) (sym frame.shape) allowed) r.reached in
    let low : n < shape.cpus = subst (λ (s : Shape). n < s.cpus) frame.shape there in
    omega (arith, low)

-- the part that was wanted when the list ended there
pub one_reached : (shape : Shape) (caller : Caller) (call : Call) (first now more : List Entry) (part : Part) → IsPrefix first now → IsPrefix now more → IsReachedAfter shape caller call now part → All (IsReachedBetween shape caller call first more) (place part ∷ [])
one_reached shape caller call first now more part from to r =
    All-one (IsReachedBetween shape caller call first more) (place part) (record { list = now; from = from; to = to; within = subst (IsReachedAfter shape caller call now) (sym (part_back part)) r })
  where
    All-one : {A : Type 0} (P : A → Type 0) (x : A) → P x → All P (x ∷ [])
    All-one P x p = All-cons P x [] p (All-nil P)

-- ---- another look

module _ (shape : Shape) (caller : Caller) (v w : Seen) (had next : Front) (more : List ℕ) (again : LooksAgain v w more next) where
  pub has_looked : HasLooked shape caller v had → HasLooked shape caller w next
  has_looked looked = record {
    begins = again.place.0 ∙ looked.begins;
    named = again.place.2 ∙ looked.named;
    legal = again.legal;
    right = again.right;
    last_look = again.last_look;
    long = again.long;
    published = again.published;
    knows = again.knows;
  }

  pub on_its_way : (call : Call) (u : Seen) (places after : List ℕ) → after ≡ places ++ more → All (IsReachedBetween shape caller call u.seen w.seen) more → IsUnderWay shape caller call u v had places → IsUnderWay shape caller call u w next after
  on_its_way call u places after is reached way = record {
    earlier = way.earlier ++ had ∷ [];
    looks = again.looks ∙ ap (λ l. l ++ next ∷ []) way.looks ∙ append_assoc u.looks (way.earlier ++ had ∷ []) (next ∷ []);
    misses = again.misses ∙ way.misses;
    seen = prefix-trans u.seen v.seen w.seen way.seen again.seen;
    own = λ c who. again.own c (way.place.2 ∙ who) ∙ way.own c who;
    place = same_place u v w way.place again.place;
    took = again.took ∙ ap (λ l. l ++ more) way.took ∙ append_assoc u.took places more ∙ ap (λ l. u.took ++ l) (sym is);
    found = again.found ∙ way.found;
    reached = subst (λ l. All (IsReachedBetween shape caller call u.seen w.seen) l) (sym is)
        (All-append (IsReachedBetween shape caller call u.seen w.seen) places more (reached_before shape caller call u.seen v.seen w.seen places again.seen way.reached) reached);
  }

-- the first look of an attempt
pub first_looked : (shape : Shape) (caller : Caller) (u v : Seen) (more : List ℕ) (had : Front) → u.begin ≡ Some (opening shape) → u.caller ≡ Some (caller_number caller) → LooksAgain u v more had → HasLooked shape caller v had
first_looked shape caller u v more had begins named again = record {
  begins = again.place.0 ∙ begins;
  named = again.place.2 ∙ named;
  legal = again.legal;
  right = again.right;
  last_look = again.last_look;
  long = again.long;
  published = again.published;
  knows = again.knows;
}

pub first_way : (shape : Shape) (caller : Caller) (call : Call) (u v : Seen) (had : Front) (places : List ℕ) → places ≡ [] → LooksAgain u v [] had → IsUnderWay shape caller call u v had places
first_way shape caller call u v had places none again = record {
  earlier = [];
  looks = again.looks;
  misses = again.misses;
  seen = again.seen;
  own = again.own;
  place = again.place;
  took = again.took ∙ ap (λ l. u.took ++ l) (sym none);
  found = again.found;
  reached = subst (λ l. All (IsReachedBetween shape caller call u.seen v.seen) l) (sym none) (All-nil (IsReachedBetween shape caller call u.seen v.seen));
}

pub none_held : (shape : Shape) (v : Seen) (places : List ℕ) → places ≡ [] → v.held ≡ [] → HoldsPlaces shape v places
none_held shape v places none bare = subst (λ ps. HoldsPlaces shape v ps) (sym none) (record { below = tt; apart = tt; just = λ q. ap (λ hs. is_some (held_at q hs)) bare })

-- another look where the list and the parts held were those of an earlier view
pub looks_again : (v x w : Seen) (more : List ℕ) (next : Front) → x.seen ≡ v.seen → x.looks ≡ v.looks → x.misses ≡ v.misses → SamePlace v x → x.took ≡ v.took ++ more → x.found ≡ v.found → LooksAgain x w [] next → LooksAgain v w more next
looks_again v x w more next seen looks misses place_is took found again = record {
  looks = again.looks ∙ ap (λ l. l ++ next ∷ []) looks;
  last_look = again.last_look;
  long = again.long;
  published = again.published;
  misses = again.misses ∙ misses;
  seen = subst (λ l. IsPrefix l w.seen) seen again.seen;
  own = λ c who. again.own c (place_is.2 ∙ who) ∙ ap (entries_of caller_of c) seen;
  legal = again.legal;
  right = again.right;
  place = same_place v x w place_is again.place;
  took = again.took ∙ append-nil x.took ∙ took;
  found = again.found ∙ found;
  knows = again.knows;
}

-- ---- fewer wants

-- a longer list has no fewer publications
pub publications_rise : (xs ys : List Entry) → IsPrefix xs ys → count_by is_publication xs ≤ count_by is_publication ys
publications_rise xs ys (rest, is) =
    let both = sum_by-append (λ (e : Entry). cond (is_publication e) 1 0) xs rest in
    subst (λ l. count_by is_publication xs ≤ count_by is_publication l) is (omega (arith, both))

-- no legal history has more than 2^20
pub publications_end : (shape : Shape) (v : Seen) → v.begin ≡ Some (opening shape) → IsLegal Opens IsStep v → count_by is_publication v.seen ≤ 2 ^ 20
publications_end shape v begins legal =
    let is = stands shape v begins legal in
    let most = is.sound.publications in
    let limit = is.sound.limits.publications in
    let count = is.publications in
    omega (arith, most, limit, count)

-- so many turns and words can be wanted still: t turns, g publications to come, b words
left_less : (t t' g g' b b' : ℕ) → g ≤ g' → g' ≤ 2 ^ 20 → b' ≤ WORDS → ((g ≡ g') → (t' + b' < t + b)) → t' ≤ t → t' + (2 ^ 20 - g') * (WORDS + 1) + b' < t + (2 ^ 20 - g) * (WORDS + 1) + b
left_less t t' g g' b b' rise most few same turns = elim (leb_tells g' g) [
  | inl h ↦ (let low = h.1 in let is : g ≡ g' = omega (arith, low, rise) in let less = same is in omega (arith, is, less))
  | inr h ↦ (let high = h.1 in omega (arith, high, most, few, turns))
]

-- a word more was read, or a turn more won
pub fewer_left : (had next : Front) (n n' b b' : ℕ) → had.generation ≤ next.generation → next.generation ≤ 2 ^ 20 → b' ≤ WORDS → n' ≤ MAX_PLACES → ((had.generation ≡ next.generation) → b' + n < b + n') → n ≤ n'
    → (MAX_PLACES - n') + (2 ^ 20 - next.generation) * (WORDS + 1) + b' < (MAX_PLACES - n) + (2 ^ 20 - had.generation) * (WORDS + 1) + b
fewer_left had next n n' b b' rise most few turns same more = left_less (MAX_PLACES - n) (MAX_PLACES - n') had.generation next.generation b b' rise most few (λ is. (let less = same is in omega (arith, less, turns, more))) (omega (arith, turns, more))

-- ---- what is wanted, by what it was

module _ (shape : Shape) (caller : Caller) (call : Call) (v w : Seen) (had : Front) (places after : List ℕ) (old new : List (Option Reading)) (looked : HasLooked shape caller v had) where
  -- a word was read
  pub read_fewer : (next : Front) → LooksAgain v w [] next → length places ≤ MAX_PLACES → ((g : ℕ) → blanks_under g new ≤ WORDS) → blanks_under had.generation new + 1 ≡ blanks_under had.generation old
      → (MAX_PLACES - length places) + (2 ^ 20 - next.generation) * (WORDS + 1) + blanks_under next.generation new < (MAX_PLACES - length places) + (2 ^ 20 - had.generation) * (WORDS + 1) + blanks_under had.generation old
  read_fewer next again most few one = fewer_left had next (length places) (length places) (blanks_under had.generation old) (blanks_under next.generation new)
      (rises next [] again) (ends next [] again) (few next.generation) most
      (λ same. (let now : blanks_under next.generation new ≡ blanks_under had.generation new = ap (λ g. blanks_under g new) (sym same) in omega (arith, now, one))) (omega arith)
    where
      rises : (next : Front) (more : List ℕ) → LooksAgain v w more next → had.generation ≤ next.generation
      rises next more again = let rise = publications_rise v.seen w.seen again.seen in let a = looked.published in let b = again.published in omega (arith, rise, a, b)

      ends : (next : Front) (more : List ℕ) → LooksAgain v w more next → next.generation ≤ 2 ^ 20
      ends next more again = let most = publications_end shape w (again.place.0 ∙ looked.begins) again.legal in let b = again.published in omega (arith, most, b)

  -- a turn was won
  pub won_fewer : (r : Result Front Part) (turn : ℕ) → IfOk r (LooksAgain v w (turn ∷ [])) → IfOk r (λ next. after ≡ places ++ turn ∷ []) → length after ≤ MAX_PLACES → IfOk r (λ next. (g : ℕ) → blanks_under g new ≤ WORDS) → new ≡ old
      → IfOk r (λ next. (MAX_PLACES - length after) + (2 ^ 20 - next.generation) * (WORDS + 1) + blanks_under next.generation new < (MAX_PLACES - length places) + (2 ^ 20 - had.generation) * (WORDS + 1) + blanks_under had.generation old)
  won_fewer (Err p) turn again won most few same = tt
  won_fewer (Ok next) turn again won most few same = fewer_left had next (length places) (length after) (blanks_under had.generation old) (blanks_under next.generation new)
      rises ends (few next.generation) most
      (λ is. (let now : blanks_under next.generation new ≡ blanks_under had.generation old = (λ i. blanks_under (sym is i) (same i)) in omega (arith, now, count))) (omega (arith, count))
    where
      count : length after ≡ length places + 1
      count = ap length won ∙ length-append places (turn ∷ [])

      rises : had.generation ≤ next.generation
      rises = let rise = publications_rise v.seen w.seen again.seen in let a = looked.published in let b = again.published in omega (arith, rise, a, b)

      ends : next.generation ≤ 2 ^ 20
      ends = let most = publications_end shape w (again.place.0 ∙ looked.begins) again.legal in let b = again.published in omega (arith, most, b)

  -- and the attempt is on its way
  pub won_way : (r : Result Front Part) (part : Part) → IsReachedAfter shape caller call v.seen part → IfOk r (LooksAgain v w (place part ∷ [])) → IfOk r (λ next. after ≡ places ++ place part ∷ [])
      → IfOk r (λ next. (u : Seen) → IsUnderWay shape caller call u v had places → IsUnderWay shape caller call u w next after)
  won_way (Err p) part within again won = tt
  won_way (Ok next) part within again won = λ u way. on_its_way shape caller v w had next (place part ∷ []) again call u places after won (one_reached shape caller call u.seen v.seen w.seen part way.seen again.seen within) way

  -- or the turn was found taken
  pub found_busy : (r : Result Front Part) (part : Part) → IsReachedAfter shape caller call v.seen part → IfErr r (λ p. p ≡ part) → IfErr r (λ p. SameList v w) → IfErr r (λ p. SamePlace v w)
      → IfErr r (λ p. (w.took ≡ v.took) × (w.found ≡ v.found ++ place part ∷ [])) → IfErr r (λ p. (u : Seen) → IsUnderWay shape caller call u v had places → CameTo shape caller call u w (Err (reasons.Busy p)) [])
  found_busy (Ok next) part within other list place_is turns = tt
  found_busy (Err p) part within other list place_is turns = λ u way. subst (λ x. CameTo shape caller call u w (Err (reasons.Busy x)) []) (sym other)
      (busy shape caller call u v w had places [] looked.named way part list place_is (legal_same v w list place_is looked.legal) turns.0 turns.1 refl within)
