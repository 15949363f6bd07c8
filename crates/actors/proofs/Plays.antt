-- An actor among its calls.
use Rattle.std.proofs.Common.{◌≡◌, ℕ, ◌+◌, ◌<◌, ◌≤◌, Bool, true, false, true≢false, ◌&&◌, List, [], ◌∷◌, ◌++◌, append_assoc, length, map, Some, None, refl, sym, ap, ◌∙◌, subst, arith}
use Rattle.std.proofs.lemmas.List.{append-nil, map-append, length-append}
use Rattle.std.specs.Prelude.{Ok, Err, if◌then◌else◌, nat_eq, nat_lt, ◌-◌}
use Rattle.std.proofs.lemmas.Bool.Decides.{nat_tests}
use Rattle.std.specs.declared.option.Option.{Option}
use Rattle.std.proofs.lemmas.List.Sums.{fold-append}
use Rattle.irq_base.specs.Callers.{is_allowed, is_there}
use Rattle.irq_base.specs.Faces.{PlacedEntry, WhereTold, IsPlaced, StopsTell, own_after, LeftFalls}
use Rattle.irq_base.specs.declared.call.Call.{Call}
use Rattle.irq_base.specs.declared.call.Call.TheVariants.{Inta}
use Rattle.irq_base.specs.declared.call.Caller.TheVariants.{Device, Cpu}
use Rattle.irq_base.specs.declared.call.Caller.{Caller}
use Rattle.irq_base.specs.declared.event.Event.{Event}
use Rattle.irq_base.specs.declared.face.Face.{Ghosts}
use Rattle.irq_base.specs.declared.reply.Done.{Done}
use Rattle.irq_base.specs.declared.reply.Spent.{Spent}
use Rattle.irq_base.specs.declared.shape.Shape.{Shape}
use Rattle.irq_base.specs.declared.reply.Reply.{Reply}
use Rattle.face_asks.specs.Asks.{HasKept, answered_by}
use Rattle.face_asks.proofs.Told.{told_then, told_same, kept_none, kept_one, kept_then}
use Rattle.script_text.specs.declared.progress.Progress.{Progress}
use Rattle.script_text.specs.Asks.{next_ask, asks_after, answered as replied, unrolled, tasks_of, HasFollowed}
use Rattle.script_text.specs.Scripts.{Script}
use Rattle.actors.specs.Bounds.{AsksAtMost}
use Rattle.actors.specs.Kept.{placed_in, HasPlayed}
use Rattle.actors.specs.Turns.{replies_in, AskedInTurn, RiseWithin}
use Rattle.actors.proofs.Bounds.{one_less}
use Rattle.actors.specs.declared.kept.Kept.{Kept}
use Rattle.actors.specs.declared.kept.Placed.{Placed}

-- one call more in turn
pub asked_more : (s : Script) (who : Caller) (replies : List Reply) (ps : List PlacedEntry) (p : PlacedEntry) → AskedInTurn s who replies ps
    → p.entry.caller ≡ who → next_ask who s.lines (replies ++ replies_in ps) ≡ Some p.entry.call → AskedInTurn s who replies (ps ++ p ∷ [])
asked_more s who replies [] p tt mine next = (mine, ap (next_ask who s.lines) (sym (append-nil replies)) ∙ next, tt)
asked_more s who replies (q ∷ ps) p (own, first, more) mine next =
    (own, first, asked_more s who (replies ++ q.entry.reply ∷ []) ps p more mine (ap (next_ask who s.lines) (append_assoc replies (q.entry.reply ∷ []) (replies_in ps)) ∙ next))

-- one place more above the others
pub rise_more : (low mid high : ℕ) (ps : List PlacedEntry) (p : PlacedEntry) → RiseWithin low mid ps → mid ≤ p.at → p.at < high → RiseWithin low high (ps ++ p ∷ [])
rise_more low mid high [] p rise above below = (omega (arith, rise, above), omega (arith, below))
rise_more low mid high (q ∷ ps) p (first, rise) above below = (first, rise_more (q.at + 1) mid high ps p rise above below)

-- places stay below what is higher
pub rise_higher : (low mid high : ℕ) (ps : List PlacedEntry) → RiseWithin low mid ps → mid ≤ high → RiseWithin low high ps
rise_higher low mid high [] rise le = omega (arith, rise, le)
rise_higher low mid high (q ∷ ps) (first, rise) le = (first, rise_higher (q.at + 1) mid high ps rise le)

-- what an actor asks next, by its number
pub next_at : (who at : Caller) (s : Script) (replies : List Reply) (progress : Progress) (next : Option Call) → who ≡ at
    → ((rs : List Reply) → HasFollowed at s.lines rs progress → next ≡ next_ask at s.lines rs) → HasFollowed who s.lines replies progress → next ≡ next_ask who s.lines replies
next_at who at s replies progress next is asks followed = asks replies (subst (λ w. HasFollowed w s.lines replies progress) is followed) ∙ ap (λ w. next_ask w s.lines replies) (sym is)

pub follows_at : (who at : Caller) (s : Script) (reply : Reply) (progress later : Progress) → who ≡ at
    → ((rs : List Reply) → HasFollowed at s.lines rs progress → HasFollowed at s.lines (rs ++ reply ∷ []) later)
    → (rs : List Reply) → HasFollowed who s.lines rs progress → HasFollowed who s.lines (rs ++ reply ∷ []) later
follows_at who at s reply progress later is follows = subst (λ w. (rs : List Reply) → HasFollowed w s.lines rs progress → HasFollowed w s.lines (rs ++ reply ∷ []) later) (sym is) follows

module _ {F : Type 0} (face : Ghosts F) (s : Script) where
  -- an actor has asked so much, and at most so many calls are left
  pub record Plays (before now : F) (kept : Kept) (progress : Progress) (left : ℕ) : Type 0 where
    pub answered : List PlacedEntry
    pub caller : face.who now ≡ face.who before
    pub shape : face.shape now ≡ face.shape before
    pub home : face.home now ≡ face.home before
    pub stops : face.stops now ≡ 0
    pub own : WhereTold (face.own before) (face.own now) (λ had has. has ≡ had ++ answered)
    pub fewer : WhereTold (face.left before) (face.left now) (λ had has. has + length answered ≡ had)
    pub asked : AskedInTurn s (face.who before) [] answered
    pub places : RiseWithin (face.floor before) (face.floor now) answered
    pub as_promised : HasKept face before now answered
    pub followed : HasFollowed (face.who before) s.lines (replies_in answered) progress
    pub most : AsksAtMost left (asks_after (face.who before) s.lines (replies_in answered))
    pub whole : kept.lost ≡ false → placed_in kept.entries.items ≡ answered

  pub start : (f : F) (kept : Kept) (progress : Progress) (left : ℕ) → face.stops f ≡ 0 → kept.entries.items ≡ [] → HasFollowed (face.who f) s.lines [] progress
      → AsksAtMost left (unrolled (tasks_of (face.who f) s.lines)) → Plays f f kept progress left
  start f kept progress left none empty follows most = record {
    answered = [];
    caller = refl;
    shape = refl;
    home = refl;
    stops = none;
    own = told_same (face.own f) (λ had has. has ≡ had ++ []) (λ had. sym (append-nil had));
    fewer = told_same (face.left f) (λ had has. has + length {A = PlacedEntry} [] ≡ had) (λ had. omega arith);
    asked = tt;
    places = omega arith;
    as_promised = kept_none face f;
    followed = follows;
    most = most;
    whole = λ _. ap placed_list empty;
  }
    where
      placed_list : List Placed → List PlacedEntry
      placed_list ps = map (λ (p : Placed). record { entry = p.entry; at = p.at }) ps

  -- a call is answered
  module _ (before now next : F) (kept more : Kept) (progress later : Progress) (left : ℕ) (plays : Plays before now kept progress left)
      (caller : Caller) (call : Call) (events : List Event) (done : Done)
      (is_next : Some call ≡ next_ask (face.who before) s.lines (replies_in plays.answered)) where
    abbrev told : PlacedEntry
    told = record { entry = record { caller = face.who before; call = call; reply = done.reply; events = events }; at = done.at }

    -- the replies with the new one
    replies : replies_in (plays.answered ++ told ∷ []) ≡ replies_in plays.answered ++ done.reply ∷ []
    replies = map-append (λ (p : PlacedEntry). p.entry.reply) plays.answered (told ∷ [])

    asks_next : asks_after (face.who before) s.lines (replies_in plays.answered ++ done.reply ∷ []) ≡ replied (asks_after (face.who before) s.lines (replies_in plays.answered)) done.reply
    asks_next = fold-append replied (unrolled (tasks_of (face.who before) s.lines)) (replies_in plays.answered) (done.reply ∷ [])

    less : (0 < left) × ((m : ℕ) → left ≡ m + 1 → AsksAtMost m (replied (asks_after (face.who before) s.lines (replies_in plays.answered)) done.reply))
    less = one_less left (asks_after (face.who before) s.lines (replies_in plays.answered)) call done.reply (sym is_next) plays.most

    pub more_left : 0 < left
    more_left = less.0

    own_entry : WhereTold (face.own now) (face.own next) (λ had has. has ≡ own_after (face.who now) call events (Ok done) had) → WhereTold (face.own before) (face.own next) (λ had has. has ≡ had ++ (plays.answered ++ told ∷ []))
    own_entry own = told_then (face.own before) (face.own now) (face.own next) (λ had has. has ≡ had ++ plays.answered) (λ had has. has ≡ own_after (face.who now) call events (Ok done) had) (λ had has. has ≡ had ++ (plays.answered ++ told ∷ []))
        (λ x y z first second. second ∙ (λ i. own_after (plays.caller i) call events (Ok done) (first i)) ∙ append_assoc x plays.answered (told ∷ []))
        plays.own own

    fewer : WhereTold (face.left now) (face.left next) (LeftFalls (Ok done)) → WhereTold (face.left before) (face.left next) (λ had has. has + length (plays.answered ++ told ∷ []) ≡ had)
    fewer falls = told_then (face.left before) (face.left now) (face.left next) (λ had has. has + length plays.answered ≡ had) (LeftFalls (Ok done)) (λ had has. has + length (plays.answered ++ told ∷ []) ≡ had)
        (λ x y z first second. let long = length-append plays.answered (told ∷ []) in omega (arith, first, second, long)) plays.fewer falls

    pub answer : face.who next ≡ face.who now → face.shape next ≡ face.shape now → face.home next ≡ face.home now
        → IsPlaced (Ok done) (face.floor now) (face.floor next) → StopsTell (Ok done) (face.stops now) (face.stops next) (face.last now) (face.last next)
        → WhereTold (face.own now) (face.own next) (λ had has. has ≡ own_after (face.who now) call events (Ok done) had)
        → WhereTold (face.left now) (face.left next) (LeftFalls (Ok done))
        → face.keeps now call events (Ok done) next
        → caller ≡ face.who before
        → (more.lost ≡ false → kept.lost ≡ false)
        → (more.lost ≡ false → placed_in more.entries.items ≡ own_after caller call events (Ok done) (placed_in kept.entries.items))
        → ((rs : List Reply) → HasFollowed (face.who before) s.lines rs progress → HasFollowed (face.who before) s.lines (rs ++ done.reply ∷ []) later)
        → Plays before next more later (left - 1)
    answer who shape home place stops own falls promised mine were kept_more follows = record {
      answered = plays.answered ++ told ∷ [];
      caller = who ∙ plays.caller;
      shape = shape ∙ plays.shape;
      home = home ∙ plays.home;
      stops = stops.0 ∙ plays.stops;
      own = own_entry own;
      fewer = fewer falls;
      asked = asked_more s (face.who before) [] plays.answered told plays.asked refl (sym is_next);
      places = rise_more (face.floor before) (face.floor now) (face.floor next) plays.answered told plays.places place.0 place.1;
      as_promised = subst (λ w. HasKept face before next (plays.answered ++ answered_by w call events (Ok done))) plays.caller
          (kept_then face before now next plays.answered (answered_by (face.who now) call events (Ok done)) plays.caller plays.as_promised (kept_one face now next call events (Ok done) promised));
      followed = subst (λ rs. HasFollowed (face.who before) s.lines rs later) (sym replies) (follows (replies_in plays.answered) plays.followed);
      most = subst (AsksAtMost (left - 1)) (sym (ap (asks_after (face.who before) s.lines) replies ∙ asks_next)) (less.1 (left - 1) (let some = less.0 in omega (arith, some)));
      whole = λ kept_all. kept_more kept_all ∙ (λ i. own_after (mine i) call events (Ok done) (plays.whole (were kept_all) i));
    }

  -- a limit bars a call
  module _ (before now next : F) (kept : Kept) (progress : Progress) (left : ℕ) (plays : Plays before now kept progress left)
      (call : Call) (events : List Event) (is_next : Some call ≡ next_ask (face.who before) s.lines (replies_in plays.answered)) where
    pub barred : (spent : Spent) → face.who next ≡ face.who now → face.shape next ≡ face.shape now → face.home next ≡ face.home now
        → IsPlaced (Err spent) (face.floor now) (face.floor next) → StopsTell (Err spent) (face.stops now) (face.stops next) (face.last now) (face.last next)
        → WhereTold (face.own now) (face.own next) (λ had has. has ≡ own_after (face.who now) call events (Err spent) had)
        → WhereTold (face.left now) (face.left next) (LeftFalls (Err spent))
        → face.barred next call spent → face.keeps now call events (Err spent) next → HasPlayed face s before next kept (Some spent)
    barred spent who shape home place stops own falls bars promised = record {
      answered = plays.answered;
      ran = record {
        caller = who ∙ plays.caller;
        shape = shape ∙ plays.shape;
        home = home ∙ plays.home;
        own = told_then (face.own before) (face.own now) (face.own next) (λ had has. has ≡ had ++ plays.answered) (λ had has. has ≡ own_after (face.who now) call events (Err spent) had) (λ had has. has ≡ had ++ plays.answered) (λ x y z first second. second ∙ first) plays.own own;
        left = told_then (face.left before) (face.left now) (face.left next) (λ had has. has + length plays.answered ≡ had) (LeftFalls (Err spent)) (λ had has. has + length plays.answered ≡ had) (λ x y z first second. omega (arith, first, second)) plays.fewer falls;
        asked = plays.asked;
        places = rise_higher (face.floor before) (face.floor now) (face.floor next) plays.answered plays.places place;
        kept = subst (HasKept face before next) (append-nil plays.answered)
            (kept_then face before now next plays.answered [] plays.caller plays.as_promised (kept_one face now next call events (Err spent) promised));
        all = λ none. absurd (let up = some_stop in omega (arith, up, none));
        stopped = λ _. record {
          call = call;
          next = ap (λ w. next_ask w s.lines (replies_in plays.answered)) (who ∙ plays.caller) ∙ sym is_next;
          spent = spent;
          last = stops.1;
          barred = bars;
        };
      };
      whole = plays.whole;
      spent_is = sym (by (nat_eq (face.stops next) 0) refl);
    }
      where
        some_stop : 0 < face.stops next
        some_stop = (let rose = stops.0 in let none = plays.stops in omega (arith, rose, none))

        by : (t : Bool) → nat_eq (face.stops next) 0 ≡ t → (if t then None else face.last next) ≡ Some spent
        by true is = absurd (let up = some_stop in let z : face.stops next ≡ 0 = grind (is, arith, nat_tests) in omega (arith, up, z))
        by false is = stops.1

  -- an actor has asked all
  pub finish : (before now : F) (kept : Kept) (progress : Progress) (left : ℕ) (plays : Plays before now kept progress left)
      → None ≡ next_ask (face.who before) s.lines (replies_in plays.answered) → HasPlayed face s before now kept None
  finish before now kept progress left plays none = record {
    answered = plays.answered;
    ran = record {
      caller = plays.caller;
      shape = plays.shape;
      home = plays.home;
      own = plays.own;
      left = plays.fewer;
      asked = plays.asked;
      places = plays.places;
      kept = plays.as_promised;
      all = λ _. sym none;
      stopped = λ some. absurd (let none = plays.stops in omega (arith, some, none));
    };
    whole = plays.whole;
    spent_is = sym (ap (λ n. if nat_eq n 0 then None else face.last now) plays.stops);
  }

-- what a caller may ask on one board it may ask on each on which it is there
pub allowed_there : (who : Caller) (call : Call) (shape other : Shape) → is_allowed who call shape ≡ true → is_there who other ≡ true → is_allowed who call other ≡ true
allowed_there (Device d) call shape other allowed there = allowed
allowed_there (Cpu n) call shape other allowed there = by_call call allowed
  where
    second : (a b : Bool) → (a && b) ≡ true → b ≡ true
    second true b e = e
    second false b e = absurd (true≢false (sym e))

    by_call : (call : Call) → is_allowed (Cpu n) call shape ≡ true → is_allowed (Cpu n) call other ≡ true
    by_call Inta allowed = (λ i. there i && second (nat_lt n shape.cpus) (nat_eq n 0) allowed i)
    by_call call allowed = there
