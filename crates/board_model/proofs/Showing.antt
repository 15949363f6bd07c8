-- What shows of a run decides it.
use Rattle.std.proofs.Common.{◌≡◌, true, false, List, [], ◌∷◌, refl, sym, ap, ◌∙◌, subst, Some, None, if◌then◌else◌, arith}
use Rattle.std.specs.declared.option.Option.{Option}
use Rattle.std.specs.FinSet as set
use Rattle.irq_bits.specs.Members.{Numbers}
use Rattle.irq_base.specs.declared.event.Event.{Event}
use Rattle.irq_base.specs.declared.event.Event.TheVariants.{Injected, Resent, Ipi}
use Rattle.irq_base.specs.declared.reply.Reply.{Reply}
use Rattle.irq_base.specs.declared.reply.Reply.TheVariants.{Signal}
use Rattle.board_model.specs.Board.{Board, part_of, with_part}
use Rattle.board_model.specs.Statuses.{Sent, nobody, TargetAnswer, newly_taken, stood_already, no_effect, is_empty, status_of, status_sent, sets_of}
use Rattle.board_model.specs.Plan.{Heading, About, injected, resent, ipi, the_reply, Plan, done, look, put, tell, answer, choose}
use Rattle.board_model.specs.Run.{Log, Wishes, next_wish, later_wishes, told, answered, sending, run}
use Rattle.board_model.specs.Agreement.{SameOutcome}

-- ---- the sets that a status shows

sets-taken : (pic : Option TargetAnswer) (sent : Sent) → sets_of (status_of pic (Some newly_taken) sent) ≡ sent
sets-taken None sent = refl
sets-taken (Some newly_taken) sent = refl
sets-taken (Some stood_already) sent = refl
sets-taken (Some (no_effect cause)) sent = refl

sets-stood : (pic : Option TargetAnswer) (sent : Sent) → sent.new ≡ set.empty → sets_of (status_of pic (Some stood_already) sent) ≡ sent
sets-stood None sent none = λ i. record { new = sym none i; stood = sent.stood }
sets-stood (Some newly_taken) sent none = refl
sets-stood (Some stood_already) sent none = λ i. record { new = sym none i; stood = sent.stood }
sets-stood (Some (no_effect cause)) sent none = λ i. record { new = sym none i; stood = sent.stood }

empty-is : (s : Numbers) → is_empty s ≡ true → s ≡ set.empty
empty-is s h = set.empty_of_len s (grind (h, arith))

pub sets-sent : (pic : Option TargetAnswer) (sent : Sent) → sets_of (status_sent pic sent) ≡ sent
sets-sent pic sent = elim (is_empty sent.new) as (λ e. is_empty sent.new ≡ e → sets_of (status_of pic (Some (if e then stood_already else newly_taken)) sent) ≡ sent) [
  | true ↦ λ none. sets-stood pic sent (empty-is sent.new none)
  | false ↦ λ _. sets-taken pic sent
] refl

pub ruleset status_rules = (sets-sent)

-- ---- the choice shows in the event or in the answer

event_sets : List Event → Sent
event_sets (Injected gsi status ∷ xs) = sets_of status
event_sets (Resent pin status ∷ xs) = sets_of status
event_sets (Ipi status ∷ xs) = sets_of status
event_sets _ = nobody

answer_sets : List Reply → Sent
answer_sets (Signal status ∷ xs) = sets_of status
answer_sets _ = nobody

tail_of : {A : Type 0} → List A → List A
tail_of [] = []
tail_of (x ∷ xs) = xs

choice_shows : (m : Heading) (about : About) (s t : Sent) (x y : Log) → (sending m about s x).events ≡ (sending m about t y).events → (sending m about s x).answers ≡ (sending m about t y).answers → (s ≡ t) × (x.events ≡ y.events) × (x.answers ≡ y.answers)
unfolding event_sets answer_sets tail_of
choice_shows m (injected gsi pic) s t x y e a = (sym (sets-sent pic s) ∙ ap event_sets e ∙ sets-sent pic t, ap tail_of e, a)
choice_shows m (resent pin) s t x y e a = (sym (sets-sent None s) ∙ ap event_sets e ∙ sets-sent None t, ap tail_of e, a)
choice_shows m ipi s t x y e a = (sym (sets-sent None s) ∙ ap event_sets e ∙ sets-sent None t, ap tail_of e, a)
choice_shows m (the_reply pic) s t x y e a = (sym (sets-sent pic s) ∙ ap answer_sets a ∙ sets-sent pic t, e, ap tail_of a)

-- ---- events and answers decide the outcome

-- the parts of a log that are compared
log-same : (x y : Log) → x.events ≡ y.events → x.answers ≡ y.answers → x.sendings ≡ y.sendings → x ≡ y
log-same x y e a s = λ i. record { events = e i; answers = a i; sendings = s i }

pub shown_decides : {A : Type 0} (m : Plan A) (b : Board) (ws vs : Wishes) → (run m b ws).log.events ≡ (run m b vs).log.events → (run m b ws).log.answers ≡ (run m b vs).log.answers → SameOutcome (run m b ws) (run m b vs)
unfolding tail_of
shown_decides (done a) b ws vs e a' = record { value = refl; log = refl; board = refl }
shown_decides (look p k) b ws vs e a = shown_decides (k (part_of b p)) b ws vs e a
shown_decides (put p v rest) b ws vs e a = shown_decides rest (with_part b p v) ws vs e a
shown_decides (tell x rest) b ws vs e a =
    let r = shown_decides rest b ws vs (ap tail_of e) a in
    record { value = r.value; log = ap (told x) r.log; board = r.board }
shown_decides (answer x rest) b ws vs e a =
    let r = shown_decides rest b ws vs e (ap tail_of a) in
    record { value = r.value; log = ap (answered x) r.log; board = r.board }
shown_decides {A} (choose m about g k) b ws vs e a =
    let s = g (next_wish ws) in
    let t = g (next_wish vs) in
    let (same, es, as') = choice_shows m about s t (run (k s) b (later_wishes ws)).log (run (k t) b (later_wishes vs)).log e a in
    let P : Sent → Type 0 = λ r. (run (k s) b (later_wishes ws)).log.events ≡ (run (k r) b (later_wishes vs)).log.events → (run (k s) b (later_wishes ws)).log.answers ≡ (run (k r) b (later_wishes vs)).log.answers → SameOutcome (run (choose m about (λ _. s) k) b ws) (run (choose m about (λ _. r) k) b vs) in
    subst P same (λ es as'.
    let r = shown_decides (k s) b (later_wishes ws) (later_wishes vs) es as' in
    record { value = r.value; log = ap (sending m about s) r.log; board = r.board }) es as'
