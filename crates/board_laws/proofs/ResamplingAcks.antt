-- What plans leave whose acknowledges resample: the counts that their events tell, and no pin more for Resample.
use Rattle.board_laws.proofs.Basics.{arith, Holds as HoldsOf, ◌≡◌, ℕ, Bool, true, false, cond, List, [], ◌∷◌, ◌++◌, map, Some, None, refl, sym, ap, subst, ◌∙◌, append_assoc, Option, unsigned_Decides, signalled_all, Event, Acked, Resampled, Watched, Pin, Resample, PinHolds as Holds, hold, has_resampler, resample_events, Table, targets_of, has_pin, gsi_of, RegistryPart, Board, with_part, Plan, ◌>>◌, Wishes, Outcome, then_run, run, let_go_pic, let_go_ioapic, say_each, signal_each, find, fold-append, is_same_pin as is_same, Part, counter_told, counters_told, IsReleased, contains, remove}
use Rattle.std.specs.FinMap as fin_map
use Rattle.board_laws.proofs.ResamplingPlans.{gone, NoMore, no_more, AreQuiet, Leaves, left}

-- ---- the pins of a GSI

find_passes : (p : ℕ → Bool) (xs : List ℕ) (g : ℕ) → find p xs ≡ Some g → p g ≡ true
find_passes p [] g e = cc
find_passes p (x ∷ xs) g e =
    elim (p x) as (λ b. p x ≡ b → cond b (Some x) (find p xs) ≡ Some g → p g ≡ true) [
      | true ↦ λ on found. let same : x ≡ g = cc in ap p (sym same) ∙ on
      | false ↦ λ _ rest. find_passes p xs g rest
    ] refl e

-- a GSI goes to each pin that is its own
pub has_it : (table : Table) (pin : Pin) (gsi : ℕ) → gsi_of table pin ≡ Some gsi → has_pin pin (targets_of table gsi) ≡ true
unfolding gsi_of
has_it table pin gsi e = find_passes (λ g. has_pin pin (targets_of table g)) (fin_map.keys table) gsi e

pub same_number : (o : Option ℕ) (n : ℕ) → is_same o (Some n) ≡ true → o ≡ Some n
same_number None n e = cc
same_number (Some m) n e = ap Some ((unsigned_Decides m n).0 e)

-- ---- what an outcome tells

module _ (r : RegistryPart) where
  -- after the Acked of a GSI with resamplers comes a Resampled for each of them, and on the last board Resample holds no pin
  -- of the GSI
  pub record Resamples (last : Board) (gsi : ℕ) (after : List Event) : Type 0 where
    pub more : List Event
    pub events : after ≡ resample_events r.irqfds gsi ++ more
    pub pic : IsReleased r gsi last.pic.holds Pin.Pic
    pub ioapic : IsReleased r gsi last.ioapic.holds Pin.Ioapic

  abbrev pub Followed : Board → Event → List Event → Type 0
  Followed last (Acked pin (Some gsi)) after = has_resampler r.irqfds gsi ≡ true → Resamples last gsi after
  Followed last _ after = Unit {0}

  abbrev pub Follows : Board → List Event → Type 0
  Follows last [] = Unit {0}
  Follows last (event ∷ events) = Followed last event events × Follows last events

  -- the counts are those before, signalled as the events tell, and each acknowledge resamples
  pub record Does {A : Type 0} (b : Board) (o : Outcome A) : Type 0 where
    pub registry : o.board.registry ≡ r
    pub counts : o.board.counters ≡ signalled_all b.counters (counters_told o.log.events)
    pub pic : NoMore b.pic.holds o.board.pic.holds
    pub ioapic : NoMore b.ioapic.holds o.board.ioapic.holds
    pub follows : Follows o.board o.log.events

  -- so does a plan on every board with that registry
  abbrev pub Acks : {A : Type 0} → Plan A → Type 0
  Acks m = (b : Board) (ws : Wishes) → b.registry ≡ r → Does b (run m b ws)

  -- ---- one after another

  pub told_both : (xs ys : List Event) → counters_told (xs ++ ys) ≡ counters_told xs ++ counters_told ys
  told_both [] ys = refl
  told_both (x ∷ xs) ys = ap (λ l. counter_told x ++ l) (told_both xs ys) ∙ sym (append_assoc (counter_told x) (counters_told xs) (counters_told ys))

  module _ (mid last : Board) (pic : NoMore mid.pic.holds last.pic.holds) (ioapic : NoMore mid.ioapic.holds last.ioapic.holds) where
    pub resamples_later : (gsi : ℕ) (xs ys : List Event) → Resamples mid gsi xs → Resamples last gsi (xs ++ ys)
    resamples_later gsi xs ys h = record {
      more = h.more ++ ys;
      events = ap (λ l. l ++ ys) h.events ∙ append_assoc (resample_events r.irqfds gsi) h.more ys;
      pic = λ pin e. pic pin (h.pic pin e);
      ioapic = λ pin e. ioapic pin (h.ioapic pin e);
    }

    followed_later : (x : Event) (xs ys : List Event) → Followed mid x xs → Followed last x (xs ++ ys)
    followed_later (Acked pin (Some gsi)) xs ys h = λ on. resamples_later gsi xs ys (h on)
    followed_later _ xs ys h = tt

    follow_both : (xs ys : List Event) → Follows mid xs → Follows last ys → Follows last (xs ++ ys)
    follow_both [] ys one two = two
    follow_both (x ∷ xs) ys one two = (followed_later x xs ys one.0, follow_both xs ys one.1 two)

  -- what an outcome does, and then the plan of its value
  pub then_does : {A B : Type 0} (b : Board) (o : Outcome A) (f : A → Plan B) → Does b o → Does o.board (run (f o.value) o.board o.wishes) → Does b (then_run o f)
  then_does {A} {B} b o f one two =
      let last : Outcome B = run (f o.value) o.board o.wishes in
      record {
        registry = two.registry;
        counts = (grind (arith, fold-append, told_both, one.counts, two.counts));
        pic = no_more b.pic.holds o.board.pic.holds last.board.pic.holds one.pic two.pic;
        ioapic = no_more b.ioapic.holds o.board.ioapic.holds last.board.ioapic.holds one.ioapic two.ioapic;
        follows = follow_both o.board last.board two.pic two.ioapic o.log.events last.log.events one.follows two.follows;
      }

  -- ---- a plan without an acknowledge

  quiet_told : (events : List Event) → AreQuiet events → counters_told events ≡ []
  quiet_told [] quiet = refl
  quiet_told (Acked pin gsi ∷ events) quiet = cc
  quiet_told (Resampled counter ∷ events) quiet = let never : false ≡ true = quiet.0 in cc
  quiet_told (Watched counter ∷ events) quiet = let never : false ≡ true = quiet.0 in cc
  quiet_told (_ ∷ events) quiet = quiet_told events quiet.1

  quiet_follows : (last : Board) (events : List Event) → AreQuiet events → Follows last events
  quiet_follows last [] quiet = tt
  quiet_follows last (Acked pin gsi ∷ events) quiet = let never : false ≡ true = quiet.0 in cc
  quiet_follows last (_ ∷ events) quiet = (tt, quiet_follows last events quiet.1)

  pub acks_quietly : {A : Type 0} (m : Plan A) → HoldsOf (left r) m → Acks m
  acks_quietly m h = λ b ws is.
      let o = run m b ws in
      let l : Leaves r b o = h b ws is in
      record {
        registry = l.stays.registry;
        counts = l.stays.counters ∙ ap (signalled_all b.counters) (sym (quiet_told o.log.events l.quiet));
        pic = l.stays.pic;
        ioapic = l.stays.ioapic;
        follows = quiet_follows o.board o.log.events l.quiet;
      }

  -- ---- signals of counters

  -- these events alone, on the board as it was
  pub record Said (events : List Event) (b : Board) (o : Outcome (Unit {0})) : Type 0 where
    pub told : o.log.events ≡ events
    pub board : o.board ≡ b

  pub said : (events : List Event) (b : Board) (ws : Wishes) → Said events b (run (say_each events) b ws)
  said [] b ws = record { told = refl; board = refl }
  said (event ∷ events) b ws = let s = said events b ws in record { told = ap (λ l. event ∷ l) s.told; board = s.board }

  -- these events tell these counters, and none is of an acknowledge
  pub record Tell (events : List Event) (counters : List ℕ) : Type 0 where
    pub told : counters_told events ≡ counters
    pub follow : (last : Board) → Follows last events

  pub resamples_tell : (counters : List ℕ) → Tell (map Resampled counters) counters
  resamples_tell [] = record { told = refl; follow = λ _. tt }
  resamples_tell (c ∷ counters) = let t = resamples_tell counters in record { told = ap (λ l. c ∷ l) t.told; follow = λ last. (tt, t.follow last) }

  pub watches_tell : (counters : List ℕ) → Tell (map Watched counters) counters
  watches_tell [] = record { told = refl; follow = λ _. tt }
  watches_tell (c ∷ counters) = let t = watches_tell counters in record { told = ap (λ l. c ∷ l) t.told; follow = λ last. (tt, t.follow last) }

  pub signal_acks : (counters : List ℕ) (events : List Event) → Tell events counters → Acks (signal_each counters events)
  signal_acks counters events t = λ b ws is.
      let after = with_part b Part.Counters (signalled_all b.counters counters) in
      let o : Outcome (Unit {0}) = run (say_each events) after ws in
      let s : Said events after o = said events after ws in
      record {
        registry = ap (λ (c : Board). c.registry) s.board ∙ is;
        counts = ap (λ (c : Board). c.counters) s.board ∙ ap (signalled_all b.counters) (sym (ap counters_told s.told ∙ t.told));
        pic = λ n free. ap (λ (c : Board). contains c.pic.holds (hold n Resample)) s.board ∙ free;
        ioapic = λ n free. ap (λ (c : Board). contains c.ioapic.holds (hold n Resample)) s.board ∙ free;
        follows = subst (λ l. Follows o.board l) (sym s.told) (t.follow o.board);
      }

  -- ---- Resample lets go

  pub record LetsGo (pic ioapic : Option ℕ) (o : Outcome (Unit {0})) : Type 0 where
    pub silent : o.log.events ≡ []
    pub free_pic : (pin : ℕ) → pic ≡ Some pin → contains o.board.pic.holds (hold pin Resample) ≡ false
    pub free_ioapic : (pin : ℕ) → ioapic ≡ Some pin → contains o.board.ioapic.holds (hold pin Resample) ≡ false

  let_gone : (holds : Holds) (n pin : ℕ) → Some n ≡ Some pin → contains (remove holds (hold n Resample)) (hold pin Resample) ≡ false
  let_gone holds n pin e = let same : n ≡ pin = cc in subst (λ k. contains (remove holds (hold n Resample)) (hold k Resample) ≡ false) same (gone holds (hold n Resample))

  pub lets_go : (pic ioapic : Option ℕ) (b : Board) (ws : Wishes) → LetsGo pic ioapic (run (let_go_pic pic Resample >> let_go_ioapic ioapic Resample) b ws)
  lets_go None None b ws = record { silent = refl; free_pic = λ pin e. cc; free_ioapic = λ pin e. cc }
  lets_go None (Some m) b ws = record { silent = refl; free_pic = λ pin e. cc; free_ioapic = λ pin e. let_gone b.ioapic.holds m pin e }
  lets_go (Some n) None b ws = record { silent = refl; free_pic = λ pin e. let_gone b.pic.holds n pin e; free_ioapic = λ pin e. cc }
  lets_go (Some n) (Some m) b ws = record { silent = refl; free_pic = λ pin e. let_gone b.pic.holds n pin e; free_ioapic = λ pin e. let_gone b.ioapic.holds m pin e }
