-- Calls in steps that tell events.
use Rattle.std.proofs.Common.{◌≡◌, ℕ, List, [], ◌∷◌, Ok, Err, Some, refl, sym, ap, ◌∙◌}
use Rattle.std.specs.Prelude.{Result}
use Rattle.irq_base.specs.declared.event.Event.{Event}
use Rattle.irq_base.specs.declared.event.Event.TheVariants.{Ipi}
use Rattle.irq_base.specs.declared.reply.Reply.{Reply}
use Rattle.irq_base.specs.declared.status.Status.{Status}
use Rattle.irq_base.specs.Room.{with_told}
use Rattle.irq_base.proofs.Room.{told-none}
use Rattle.lapic.specs.declared.outcome.Ipi.{Ipi as Message}
use Rattle.board_model.specs.Hand.{Parts}
use Rattle.board_model.specs.Plan.{Heading, ipi, Plan, done, reply, ◌>>=◌, ◌>>◌}
use Rattle.board_model.specs.Run.{Wishes, OnParts, gives, lacks, run_on}
use Rattle.board_model.specs.Statuses.{TargetAnswer}
use Rattle.board_raise.specs.declared.lacks.Lacks.{Lacks}
use Rattle.board_raise.specs.Send.{send}
use Rattle.board_raise.specs.Shown.{EndsWith, StopsAt}
use Rattle.board_raise.specs.Told.{heading_of, answer_in, IsOfMessage, Tells}
use Rattle.board_raise.proofs.Telling.{shown_alone}
use Rattle.board_raise.proofs.Composing.{then_ends, then_stops, stops_first, then_done}
use Rattle.board_calls.specs.Told.{TellsOn}
use Rattle.board_calls.proofs.Composed.{told_then_said}

-- nothing is told
pub nothing_tells : (old : List Event) (q : Parts) (ws : Wishes) → TellsOn (λ (_ : Unit {0}). []) (Ok tt) old old q ws (run_on (done tt) q ws)
nothing_tells old q ws = ([], record { ends = record { value_is = refl; events_are = refl; replies_are = refl; parts = refl; wishes = refl }; room = sym (told-none old) })

-- ---- one plan after another

module _ {A : Type 0} (m : Plan A) (k : A → Plan (Unit {0})) (q : Parts) (ws : Wishes) where
  -- the first shows nothing
  pub second_tells : {S : Type 0} (replies : S → List Reply) (a : A) (r : Parts) (vs : Wishes) → EndsWith a [] [] r vs (run_on m q ws)
      → (result : Result S Lacks) (old new : List Event) (after : Parts) (later : Wishes) → TellsOn replies result old new after later (run_on (k a) r vs) → TellsOn replies result old new after later (run_on (m >>= k) q ws)
  second_tells replies a r vs first (Ok s) old new after later next = (
    next.0,
    record { ends = then_ends k m q ws a [] [] r vs tt next.0 (replies s) after later first next.1.ends; room = next.1.room },
  )
  second_tells replies a r vs first (Err l) old new after later next = then_stops k m q ws a [] [] r vs l.part first next

module _ (m : Plan (Unit {0})) (answer : Reply) (q : Parts) (ws : Wishes) (old new : List Event) (after : Parts) (later : Wishes) where
  -- a plan that tells events, and then the answer
  pub tells_then_said : TellsOn (λ (_ : Unit {0}). []) (Ok tt) old new after later (run_on m q ws) → TellsOn (λ (r : Reply). r ∷ []) (Ok answer) old new after later (run_on (m >> reply answer) q ws)
  tells_then_said h = (h.0, record { ends = told_then_said m answer q ws h.0 after later h.1.ends; room = h.1.room })

  pub lacks_before_said : (l : Lacks) → TellsOn (λ (_ : Unit {0}). []) (Err l) old new after later (run_on m q ws) → TellsOn (λ (r : Reply). r ∷ []) (Err l) old new after later (run_on (m >> reply answer) q ws)
  lacks_before_said l h = stops_first (λ _. reply answer) m q ws l.part h

-- ---- an interprocessor message

ipi_shown : (heading : Heading) (status : Status) (after : Parts) (later : Wishes) (o : OnParts TargetAnswer) → IsOfMessage status → Tells heading ipi (Ok status) after later o → EndsWith (answer_in status) (Ipi status ∷ []) [] after later o
ipi_shown heading status after later (gives a l left others) alone h = record {
  value_is = h.answer;
  events_are = ap (λ s. Ipi s ∷ []) (sym (shown_alone status alone)) ∙ h.events;
  replies_are = h.answers;
  parts = h.parts;
  wishes = h.wishes;
}
ipi_shown heading status after later (lacks p) alone h = absurd h

ipi_stops : (heading : Heading) (l : Lacks) (after : Parts) (later : Wishes) (o : OnParts TargetAnswer) → Tells heading ipi (Err l) after later o → StopsAt l.part o
ipi_stops heading l after later (gives a log left others) h = absurd h
ipi_stops heading l after later (lacks p) h = h

module _ (cpus n : ℕ) (message : Message) (q : Parts) (ws : Wishes) (old new : List Event) (after : Parts) (later : Wishes) where
  abbrev sending : Plan TargetAnswer
  sending = send cpus message.message (Some (n, message.to)) ipi

  pub ipi_tells : (status : Status) → IsOfMessage status → new ≡ with_told old (Ipi status ∷ []) → Tells (heading_of message.message (Some (n, message.to))) ipi (Ok status) after later (run_on sending q ws)
      → TellsOn (λ (_ : Unit {0}). []) (Ok tt) old new after later (run_on (sending >>= (λ _. done tt)) q ws)
  ipi_tells status alone tells h = (
    Ipi status ∷ [],
    record {
      ends = then_done (λ _. tt) sending q ws (answer_in status) (Ipi status ∷ []) [] after later (ipi_shown (heading_of message.message (Some (n, message.to))) status after later (run_on sending q ws) alone h);
      room = tells;
    },
  )

  pub ipi_lacks : (l : Lacks) → Tells (heading_of message.message (Some (n, message.to))) ipi (Err l) after later (run_on sending q ws) → TellsOn (λ (_ : Unit {0}). []) (Err l) old new after later (run_on (sending >>= (λ _. done tt)) q ws)
  ipi_lacks l h = stops_first (λ _. done tt) sending q ws l.part (ipi_stops (heading_of message.message (Some (n, message.to))) l after later (run_on sending q ws) h)
