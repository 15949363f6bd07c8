-- Calls that a face answers one after another are told together.
use Rattle.std.proofs.Common.{◌≡◌, ℕ, ◌+◌, ◌<◌, ◌≤◌, Bool, true, false, ◌&&◌, not, nat_lt, nat_eq, List, [], ◌∷◌, ◌++◌, length, All, Some, None, Ok, Err, OnErr, IfSome, IsOk, refl, sym, ap, ◌∙◌, subst, arith, append_assoc, length-append}
use Rattle.std.proofs.lemmas.Grind.{flat_map-append}
use Rattle.std.proofs.lemmas.List.{append-nil}
use Rattle.std.proofs.lemmas.List.Elements.{All-nil, All-cons, All-append}
use Rattle.std.specs.declared.option.Option.{Option}
use Rattle.std.specs.declared.result.Result.{Result}
use Rattle.irq_base.specs.Callers.{is_allowed, is_there, is_of_processor}
use Rattle.irq_base.specs.Faces.{PlacedEntry, WhereTold, Rose, IsPlaced, StopsTell, LeftFalls, own_after}
use Rattle.irq_base.specs.declared.call.Call.{Call}
use Rattle.irq_base.specs.declared.call.Call.TheVariants.{Inta}
use Rattle.irq_base.specs.declared.call.Caller.{Caller}
use Rattle.irq_base.specs.declared.call.Caller.TheVariants.{Device, Cpu}
use Rattle.irq_base.specs.declared.event.Event.{Event}
use Rattle.irq_base.specs.declared.face.Face.{Ghosts}
use Rattle.irq_base.specs.declared.reply.Done.{Done}
use Rattle.irq_base.specs.declared.reply.Spent.{Spent}
use Rattle.irq_base.specs.declared.shape.Shape.{Shape}
use Rattle.face_asks.specs.Asks.{Ask, answered_by, answered_in, limit_in, events_after, events_left, AreOf, WereAsked, HasKept, HasAnswered, StopTold, IsAnswered}

-- a caller that is there may ask what is not for processors alone
pub allowed_to_any : (who : Caller) (call : Call) (shape : Shape) → is_there who shape ≡ true → is_of_processor call ≡ false → is_allowed who call shape ≡ true
allowed_to_any (Device d) call shape there free = (λ i. there i && not (free i))
allowed_to_any (Cpu n) Inta shape there free = cc
allowed_to_any (Cpu n) call shape there free = there

-- what is told after one change and then another
pub told_then : {A : Type 0} (a b c : Option A) (P Q R : A → A → Type 0) → ((x y z : A) → P x y → Q y z → R x z) → WhereTold a b P → WhereTold b c Q → WhereTold a c R
told_then (Some x) (Some y) (Some z) P Q R both p q = both x y z p q
told_then None None None P Q R both p q = tt
told_then (Some x) (Some y) None P Q R both p q = q
told_then (Some x) None c P Q R both p q = absurd p
told_then None (Some y) c P Q R both p q = absurd p
told_then None None (Some z) P Q R both p q = q

pub told_same : {A : Type 0} (a : Option A) (P : A → A → Type 0) → ((x : A) → P x x) → WhereTold a a P
told_same (Some x) P same = same x
told_same None P same = tt

pub told_weaker : {A : Type 0} (a b : Option A) (P Q : A → A → Type 0) → ((x y : A) → P x y → Q x y) → WhereTold a b P → WhereTold a b Q
told_weaker (Some x) (Some y) P Q weaker p = weaker x y p
told_weaker None None P Q weaker p = tt
told_weaker (Some x) None P Q weaker p = absurd p
told_weaker None (Some y) P Q weaker p = absurd p

-- ---- the list of events

pub events_then : (ps qs : List PlacedEntry) (had : List Event) → events_after (ps ++ qs) had ≡ events_after qs (events_after ps had)
events_then [] qs had = refl
events_then (p ∷ ps) qs had = events_then ps qs p.entry.events

-- calls that were answered, and then others, or a limit
pub left_then : (spent : Option Spent) (ps qs : List PlacedEntry) (had has now : List Event) → has ≡ events_after ps had → now ≡ events_left spent qs has
    → now ≡ events_left spent (ps ++ qs) had
left_then None ps qs had has now first second = second ∙ ap (events_after qs) first ∙ sym (events_then ps qs had)
left_then (Some spent) ps qs had has now first second = second

-- one call
pub left_one : (who : Caller) (call : Call) (events had : List Event) (answer : Result Done Spent) → OnErr answer (events ≡ [])
    → events ≡ events_left (limit_in answer) (answered_by who call events answer) had
left_one who call events had (Ok done) quiet = refl
left_one who call events had (Err spent) quiet = quiet

module _ {F : Type 0} (face : Ghosts F) where
  -- ---- each as the face promises

  asked_then : (x y z : F) (one two : List Ask) → WereAsked face x one y → WereAsked face y two z → WereAsked face x (one ++ two) z
  asked_then x y z [] two same second = subst (λ w. WereAsked face w two z) same second
  asked_then x y z (a ∷ one) two (next, kept, more) second = (next, kept, asked_then next y z one two more second)

  pub kept_none : (x : F) → HasKept face x x []
  kept_none x = record { asks = []; asked = refl; just = refl }

  pub kept_one : (x y : F) (call : Call) (events : List Event) (answer : Result Done Spent) → face.keeps x call events answer y
      → HasKept face x y (answered_by (face.who x) call events answer)
  kept_one x y call events answer kept = record {
    asks = record { call = call; events = events; answer = answer } ∷ [];
    asked = (y, kept, refl);
    just = append-nil (answered_by (face.who x) call events answer);
  }

  pub kept_then : (x y z : F) (ps qs : List PlacedEntry) → face.who y ≡ face.who x → HasKept face x y ps → HasKept face y z qs → HasKept face x z (ps ++ qs)
  kept_then x y z ps qs who first second = record {
    asks = first.asks ++ second.asks;
    asked = asked_then x y z first.asks second.asks first.asked second.asked;
    just = flat_map-append (λ (a : Ask). answered_by (face.who x) a.call a.events a.answer) first.asks second.asks
        ∙ (λ i. first.just i ++ (ap (λ w. answered_in w second.asks) (sym who) ∙ second.just) i);
  }

  -- ---- what it tells

  -- nothing was asked
  pub answered_none : (x : F) → HasAnswered face x x []
  answered_none x = record {
    shape = refl;
    caller = refl;
    home = refl;
    floor = omega arith;
    own = told_same (face.own x) (λ had has. has ≡ had ++ []) (λ had. sym (append-nil had));
    left = told_same (face.left x) (λ had has. has + length {A = PlacedEntry} [] ≡ had) (λ had. omega arith);
    callers = All-nil (λ (p : PlacedEntry). p.entry.caller ≡ face.who x);
    kept = kept_none x;
  }

  -- more calls were answered after others
  pub answered_then : (x y z : F) (ps qs : List PlacedEntry) → HasAnswered face x y ps → HasAnswered face y z qs → HasAnswered face x z (ps ++ qs)
  answered_then x y z ps qs first second = record {
    shape = second.shape ∙ first.shape;
    caller = second.caller ∙ first.caller;
    home = second.home ∙ first.home;
    floor = (let one = first.floor in let two = second.floor in omega (arith, one, two));
    own = told_then (face.own x) (face.own y) (face.own z) (λ had has. has ≡ had ++ ps) (λ had has. has ≡ had ++ qs) (λ had has. has ≡ had ++ (ps ++ qs))
        (λ a b c one two. two ∙ ap (λ l. l ++ qs) one ∙ append_assoc a ps qs) first.own second.own;
    left = told_then (face.left x) (face.left y) (face.left z) (λ had has. has + length ps ≡ had) (λ had has. has + length qs ≡ had) (λ had has. has + length (ps ++ qs) ≡ had)
        (λ a b c one two. let long = length-append ps qs in omega (arith, one, two, long)) first.left second.left;
    callers = All-append (λ (p : PlacedEntry). p.entry.caller ≡ face.who x) ps qs first.callers (subst (λ who. AreOf who qs) first.caller second.callers);
    kept = kept_then x y z ps qs first.caller first.kept second.kept;
  }

  -- no limit barred a call, and then one did or none
  pub stop_then : (spent : Option Spent) (x y z : F) → StopTold face None x y → StopTold face spent y z → StopTold face spent x z
  stop_then None x y z first second = (second.0 ∙ first.0, second.1 ∙ first.1)
  stop_then (Some spent) x y z first second = (subst (λ n. Rose n (face.stops z)) first.0 second.0, second.1)

  -- what a face's clauses tell of a call
  module _ (before after : F) (call : Call) (events : List Event) where
    own_gained : (answer : Result Done Spent) (had has : List PlacedEntry) → has ≡ own_after (face.who before) call events answer had
        → has ≡ had ++ answered_by (face.who before) call events answer
    own_gained (Ok done) had has e = e
    own_gained (Err spent) had has e = e ∙ sym (append-nil had)

    left_falls : (answer : Result Done Spent) (had has : ℕ) → LeftFalls answer had has → has + length (answered_by (face.who before) call events answer) ≡ had
    left_falls (Ok done) had has e = e
    left_falls (Err spent) had has e = omega (arith, e)

    floor_rises : (answer : Result Done Spent) → IsPlaced answer (face.floor before) (face.floor after) → face.floor before ≤ face.floor after
    floor_rises (Ok done) place = omega (arith, place)
    floor_rises (Err spent) place = place

    of_caller : (answer : Result Done Spent) → AreOf (face.who before) (answered_by (face.who before) call events answer)
    of_caller (Ok done) = All-cons (λ (p : PlacedEntry). p.entry.caller ≡ face.who before) _ [] refl (All-nil (λ (p : PlacedEntry). p.entry.caller ≡ face.who before))
    of_caller (Err spent) = All-nil (λ (p : PlacedEntry). p.entry.caller ≡ face.who before)

    pub stop_told : (answer : Result Done Spent) → StopsTell answer (face.stops before) (face.stops after) (face.last before) (face.last after) → StopTold face (limit_in answer) before after
    stop_told (Ok done) tells = tells
    stop_told (Err spent) tells = tells

    pub answered_one : (answer : Result Done Spent) → face.shape after ≡ face.shape before → face.who after ≡ face.who before → face.home after ≡ face.home before
        → IsPlaced answer (face.floor before) (face.floor after)
        → WhereTold (face.own before) (face.own after) (λ had has. has ≡ own_after (face.who before) call events answer had)
        → WhereTold (face.left before) (face.left after) (LeftFalls answer)
        → face.keeps before call events answer after
        → HasAnswered face before after (answered_by (face.who before) call events answer)
    answered_one answer shape who home place own left kept = record {
      shape = shape;
      caller = who;
      home = home;
      floor = floor_rises answer place;
      own = told_weaker (face.own before) (face.own after) _ _ (own_gained answer) own;
      left = told_weaker (face.left before) (face.left after) _ _ (left_falls answer) left;
      callers = of_caller answer;
      kept = kept_one before after call events answer kept;
    }
