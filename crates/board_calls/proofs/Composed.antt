-- Calls in steps: what a plan answers by what its parts do.
use Rattle.std.proofs.Common.{◌≡◌, List, [], ◌∷◌, Ok, Err, None, refl, sym, ap, subst, ◌∙◌}
use Rattle.std.specs.Prelude.{Result}
use Rattle.std.proofs.lemmas.List.{append-nil}
use Rattle.irq_base.specs.declared.event.Event.{Event}
use Rattle.irq_base.specs.declared.message.Message.{Message}
use Rattle.irq_base.specs.declared.reply.Reply.{Reply}
use Rattle.irq_base.specs.declared.reply.Reply.TheVariants.{Signal}
use Rattle.irq_base.specs.declared.shape.Part.{Part}
use Rattle.irq_base.specs.declared.status.Status.{Status}
use Rattle.irq_base.specs.declared.status.Status.TheVariants.{Delivered, Coalesced, Ignored, Lowered}
use Rattle.board_model.specs.Hand.{Parts}
use Rattle.board_model.specs.Statuses.{TargetAnswer}
use Rattle.board_model.specs.Plan.{the_reply, Plan, done, reply, ◌>>=◌, ◌>>◌}
use Rattle.board_model.specs.Run.{Wishes, OnParts, gives, lacks, run_on}
use Rattle.board_raise.specs.declared.lacks.Lacks.{Lacks}
use Rattle.board_raise.specs.declared.parts.Parts as code
use Rattle.board_raise.specs.InHand.{parts_of}
use Rattle.board_raise.specs.Shown.{EndsWith, StopsAt, DoesQuietly}
use Rattle.board_raise.specs.Told.{heading_of, shown_with, answer_in, IsOfMessage, Tells}
use Rattle.board_raise.proofs.Composing.{does_on, then_ends, then_quiet, then_stops, stops_first}
use Rattle.board_calls.specs.Done.{IsReplied}

-- it is over, and nothing shows
pub over : (r : Parts) (vs : Wishes) → EndsWith tt [] [] r vs (run_on (done (tt {0})) r vs)
over r vs = record { value_is = refl; events_are = refl; replies_are = refl; parts = refl; wishes = refl }

-- it answers
pub said : (answer : Reply) (r : Parts) (vs : Wishes) → EndsWith tt [] (answer ∷ []) r vs (run_on (reply answer) r vs)
said answer r vs = record { value_is = refl; events_are = refl; replies_are = refl; parts = refl; wishes = refl }

-- a call on the parts that a rig lent, whose answer is known
pub does_from : {S : Type 0} (m : Plan S) (result known : Result S Lacks) (old lent left after : code.Parts) (ws later : Wishes) → result ≡ known → lent ≡ old → after ≡ left → later ≡ ws
    → DoesQuietly (λ (s : S). s) result (parts_of left) ws (run_on m (parts_of lent) ws) → DoesQuietly (λ (s : S). s) known (parts_of after) later (run_on m (parts_of old) ws)
does_from {S} m result known old lent left after ws later is was same others h =
    subst (λ (r : Result S Lacks). DoesQuietly (λ (s : S). s) r (parts_of after) later (run_on m (parts_of old) ws)) is
    (does_on {S = S} {A = S} (λ s. s) result m old lent left after ws later was same others h)

-- a plan that tells events, and then the answer
pub told_then_said : (m : Plan (Unit {0})) (answer : Reply) (q : Parts) (ws : Wishes) (told : List Event) (s : Parts) (later : Wishes) → EndsWith tt told [] s later (run_on m q ws) → EndsWith tt told (answer ∷ []) s later (run_on (m >> reply answer) q ws)
told_then_said m answer q ws told s later h =
    subst (λ es. EndsWith tt es (answer ∷ []) s later (run_on (m >> reply answer) q ws)) (append-nil told)
    (then_ends (λ _. reply answer) m q ws tt told [] s later tt [] (answer ∷ []) s later h (said answer s later))

-- ---- a plan that answers, with another after it; x stands for what a rig answered and told

module _ {X A : Type 0} (m : X → Plan A) (k : A → Plan (Unit {0})) (x told : X) (lent old : Parts) (ws olds : Wishes) (xs : x ≡ told) (ps : lent ≡ old) (us : ws ≡ olds) where
  by_told : (m x >>= k) ≡ (m told >>= k)
  by_told = λ i. m (xs i) >>= k

  abbrev at_told : (P : OnParts (Unit {0}) → Type 0) → P (run_on (m x >>= k) lent ws) → P (run_on (m told >>= k) old olds)
  at_told P h = subst P (λ i. run_on (by_told i) (ps i) (us i)) h

  module _ (a : A) (answer : Reply) (r : Parts) (vs : Wishes) (first : EndsWith a [] (answer ∷ []) r vs (run_on (m x) lent ws)) where
    pub replied_then : (s : Parts) (later : Wishes) → EndsWith tt [] [] s later (run_on (k a) r vs) → EndsWith tt [] (answer ∷ []) s later (run_on (m told >>= k) old olds)
    replied_then s later next = at_told (EndsWith tt [] (answer ∷ []) s later) (then_quiet k (m x) lent ws a [] (answer ∷ []) r vs tt s later first next)

    pub replied_lacks : (p : Part) → StopsAt p (run_on (k a) r vs) → StopsAt p (run_on (m told >>= k) old olds)
    replied_lacks p next = at_told (StopsAt p) (then_stops k (m x) lent ws a [] (answer ∷ []) r vs p first next)

  -- the same of one that tells events
  module _ (a : A) (es : List Event) (rs : List Reply) (r : Parts) (vs : Wishes) (first : EndsWith a es rs r vs (run_on (m x) lent ws)) where
    pub ends_then : (s : Parts) (later : Wishes) → EndsWith tt [] [] s later (run_on (k a) r vs) → EndsWith tt es rs s later (run_on (m told >>= k) old olds)
    ends_then s later next = at_told (EndsWith tt es rs s later) (then_quiet k (m x) lent ws a es rs r vs tt s later first next)

  pub lacks_at_once : (p : Part) → StopsAt p (run_on (m x) lent ws) → StopsAt p (run_on (m told >>= k) old olds)
  lacks_at_once p h = at_told (StopsAt p) (stops_first k (m x) lent ws p h)

-- ---- a plan in two steps, of which the first shows nothing

module _ {A : Type 0} (m : Plan A) (k : A → Plan (Unit {0})) (whole : Plan (Unit {0})) (steps : (m >>= k) ≡ whole) (q : Parts) (ws : Wishes) where
  abbrev at_whole : (P : OnParts (Unit {0}) → Type 0) → P (run_on (m >>= k) q ws) → P (run_on whole q ws)
  at_whole P h = subst P (ap (λ n. run_on n q ws) steps) h

  module _ (a : A) (r : Parts) (vs : Wishes) (first : EndsWith a [] [] r vs (run_on m q ws)) where
    pub second_replies : (answer : Reply) (s : Parts) (later : Wishes) → EndsWith tt [] (answer ∷ []) s later (run_on (k a) r vs) → EndsWith tt [] (answer ∷ []) s later (run_on whole q ws)
    second_replies answer s later next = at_whole (EndsWith tt [] (answer ∷ []) s later) (then_ends k m q ws a [] [] r vs tt [] (answer ∷ []) s later first next)

    pub second_ends : (es : List Event) (rs : List Reply) (s : Parts) (later : Wishes) → EndsWith tt es rs s later (run_on (k a) r vs) → EndsWith tt es rs s later (run_on whole q ws)
    second_ends es rs s later next = at_whole (EndsWith tt es rs s later) (then_ends k m q ws a [] [] r vs tt es rs s later first next)

    pub second_lacks : (p : Part) → StopsAt p (run_on (k a) r vs) → StopsAt p (run_on whole q ws)
    second_lacks p next = at_whole (StopsAt p) (then_stops k m q ws a [] [] r vs p first next)

    pub second_does : (result : Result Reply Lacks) (s : Parts) (later : Wishes) → IsReplied result s later (run_on (k a) r vs) → IsReplied result s later (run_on whole q ws)
    second_does (Ok answer) s later next = second_replies answer s later next
    second_does (Err l) s later next = second_lacks l.part next

  pub first_lacks : (p : Part) → StopsAt p (run_on m q ws) → StopsAt p (run_on whole q ws)
  first_lacks p h = at_whole (StopsAt p) (stops_first k m q ws p h)

-- ---- a message

shown_itself : (status : Status) → IsOfMessage status → shown_with None status ≡ status
shown_itself (Delivered new stood pic) e = ap (Delivered new stood) (sym e)
shown_itself (Coalesced stood) e = refl
shown_itself (Ignored cause) e = refl
shown_itself Lowered e = absurd e

-- the status of a message alone is the reply
pub message_replied : (message : Message) (status : Status) (after : Parts) (later : Wishes) (o : OnParts TargetAnswer) → IsOfMessage status → Tells (heading_of message None) (the_reply None) (Ok status) after later o
    → EndsWith (answer_in status) [] (Signal status ∷ []) after later o
message_replied message status after later (gives a l left others) alone h = record {
  value_is = h.answer;
  events_are = h.events;
  replies_are = ap (λ s. Signal s ∷ []) (sym (shown_itself status alone)) ∙ h.answers;
  parts = h.parts;
  wishes = h.wishes;
}
message_replied message status after later (lacks p) alone h = absurd h

pub message_lacks : (message : Message) (l : Lacks) (after : Parts) (later : Wishes) (o : OnParts TargetAnswer) → Tells (heading_of message None) (the_reply None) (Err l) after later o → StopsAt l.part o
message_lacks message l after later (gives a log left others) h = absurd h
message_lacks message l after later (lacks p) h = h
