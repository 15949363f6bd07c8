-- Accesses in steps: what a plan tells and then answers, by what its steps do.
use Rattle.std.proofs.Common.{◌≡◌, List, [], ◌∷◌, Ok, Err, refl, sym}
use Rattle.std.specs.Prelude.{Result}
use Rattle.irq_base.specs.declared.event.Event.{Event}
use Rattle.irq_base.specs.declared.reply.Reply.{Reply}
use Rattle.irq_base.proofs.Room.{told-none}
use Rattle.board_model.specs.Hand.{Parts}
use Rattle.board_model.specs.Plan.{Plan, done, reply, ◌>>=◌, ◌>>◌}
use Rattle.board_model.specs.Run.{Wishes, OnParts, gives, lacks, run_on}
use Rattle.board_raise.specs.declared.lacks.Lacks.{Lacks}
use Rattle.board_raise.specs.Shown.{EndsWith, Leaves}
use Rattle.board_raise.proofs.Composing.{stops_first}
use Rattle.board_ack.specs.OnHand.{Adds}
use Rattle.board_ack.proofs.Adding.{nothing_adds, adds_adds, ends_adds}
use Rattle.board_calls.specs.Told.{TellsOn}
use Rattle.board_calls.proofs.Composed.{told_then_said, second_ends, second_lacks}

-- what was added to the events was told
pub adds_tells : (old new : List Event) (after : Parts) (later : Wishes) (result : Result (Unit {0}) Lacks) (o : OnParts (Unit {0})) → Adds result old new after later o → TellsOn {S = Unit {0}} (λ _. []) result old new after later o
adds_tells old new after later (Ok u) (gives c l left others) h = (
  l.events,
  record { ends = record { value_is = refl; events_are = refl; replies_are = sym h.replies; parts = h.parts; wishes = h.wishes }; room = h.events },
)
adds_tells old new after later (Ok u) (lacks p) h = absurd h
adds_tells old new after later (Err l) o h = h

-- a plan that tells events, and then the answer
pub adds_answered : (n : Plan (Unit {0})) (answer : Reply) (q : Parts) (ws : Wishes) (result : Result (Unit {0}) Lacks) (old new : List Event) (s : Parts) (later : Wishes) → Adds result old new s later (run_on n q ws) → TellsOn {S = Unit {0}} (λ _. answer ∷ []) result old new s later (run_on (n >> reply answer) q ws)
adds_answered n answer q ws (Ok u) old new s later h = (
    let told = adds_tells old new s later (Ok u) (run_on n q ws) h in (
      told.0,
      record { ends = told_then_said n answer q ws told.0 s later told.1.ends; room = told.1.room },
    )
    )
adds_answered n answer q ws (Err l) old new s later h = stops_first (λ _. reply answer) n q ws l.part h

-- ---- a plan in two steps, of which the first shows nothing

module _ {A : Type 0} (m : Plan A) (k : A → Plan (Unit {0})) (whole : Plan (Unit {0})) (steps : (m >>= k) ≡ whole) (q : Parts) (ws : Wishes) (a : A) (r : Parts) (vs : Wishes) (first : EndsWith a [] [] r vs (run_on m q ws)) where
  -- the second tells events and answers
  pub then_tells : {S : Type 0} (replies : S → List Reply) (result : Result S Lacks) (old new : List Event) (s : Parts) (later : Wishes) → TellsOn replies result old new s later (run_on (k a) r vs) → TellsOn replies result old new s later (run_on whole q ws)
  then_tells replies (Ok answer) old new s later h = (h.0, record { ends = second_ends m k whole steps q ws a r vs first h.0 (replies answer) s later h.1.ends; room = h.1.room })
  then_tells replies (Err l) old new s later h = second_lacks m k whole steps q ws a r vs first l.part h

-- the second tells events, and then the answer is given
pub answered : {A : Type 0} (m : Plan A) (n : A → Plan (Unit {0})) (answer : A → Reply) (whole : Plan (Unit {0})) (steps : (m >>= (λ a. n a >> reply (answer a))) ≡ whole) (q : Parts) (ws : Wishes) (a : A) (r : Parts) (vs : Wishes) (first : EndsWith a [] [] r vs (run_on m q ws))
    → (result : Result (Unit {0}) Lacks) (old new : List Event) (s : Parts) (later : Wishes) → Adds result old new s later (run_on (n a) r vs) → TellsOn {S = Unit {0}} (λ _. answer a ∷ []) result old new s later (run_on whole q ws)
answered m n answer whole steps q ws a r vs first result old new s later h =
    then_tells m (λ a. n a >> reply (answer a)) whole steps q ws a r vs first {S = Unit {0}} (λ _. answer a ∷ []) result old new s later
    (adds_answered (n a) (answer a) r vs result old new s later h)

-- ---- parts that change quietly

-- what shows nothing adds no event
pub leaves_adds : (result : Result (Unit {0}) Lacks) (old : List Event) (after : Parts) (later : Wishes) (o : OnParts (Unit {0})) → Leaves {S = Unit {0}} result after later o → Adds result old old after later o
leaves_adds (Ok u) old after later o h = ends_adds [] old old after later o (sym (told-none old)) h
leaves_adds (Err l) old after later o h = h

-- a plan and then nothing
pub adds_only : (m : Plan (Unit {0})) (q : Parts) (ws : Wishes) (old new : List Event) (after : Parts) (later : Wishes) (result : Result (Unit {0}) Lacks) → Adds result old new after later (run_on m q ws) → Adds result old new after later (run_on (m >> done (tt {0})) q ws)
adds_only m q ws old new after later (Ok u) h = adds_adds m (done (tt {0})) q ws after later old new new after later (Ok u) h (nothing_adds new after later)
adds_only m q ws old new after later (Err l) h = stops_first (λ _. done (tt {0})) m q ws l.part h
