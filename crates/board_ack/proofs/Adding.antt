-- What a plan tells after other events, and what another tells after it.
use Rattle.std.proofs.Common.{◌≡◌, ℕ, ◌+◌, ◌≤◌, List, [], ◌∷◌, ◌++◌, length, false, Some, None, Ok, Err, refl, sym, ap, ◌∙◌, subst}
use Rattle.std.specs.Prelude.{Result, IfErr, is_some}
use Rattle.std.specs.declared.option.Option.{Option}
use Rattle.irq_base.specs.declared.event.Event.{Event}
use Rattle.irq_base.specs.declared.shape.Part.{Part}
use Rattle.irq_base.specs.declared.shape.Part.TheVariants.{Counters}
use Rattle.irq_base.specs.Counts.{signalled_all}
use Rattle.irq_base.specs.Room.{with_told}
use Rattle.irq_base.proofs.Room.{told-none, told-both, told-fits}
use Rattle.board_model.specs.Board.{ValueOf}
use Rattle.board_model.specs.Hand.{Parts, part_in, with_part_in}
use Rattle.board_model.specs.Plan.{Plan, done, look, put, ◌>>=◌, ◌>>◌}
use Rattle.board_model.specs.Run.{Log, Wishes, OnParts, gives, lacks, both, told, with_log_on, run_on, then_on}
use Rattle.board_model.proofs.Sequence.{run_on-bind}
use Rattle.board_model.proofs.OnParts.{lacking_is_not_held}
use Rattle.board_raise.specs.declared.lacks.Lacks.{Lacks}
use Rattle.board_raise.specs.declared.parts.Parts as code
use Rattle.board_raise.specs.InHand.{parts_of}
use Rattle.board_raise.specs.Shown.{EndsWith, StopsAt}
use Rattle.board_ack.specs.Acknowledge.{say_each, signal_each}
use Rattle.board_ack.specs.OnHand.{IsAdded, Adds, AddsAll}

-- events before those of a log
logged : (old mid new : List Event) (after : Parts) (later : Wishes) (l : Log) → mid ≡ with_told old l.events → l.answers ≡ [] → (result : Result (Unit {0}) Lacks) (o : OnParts (Unit {0})) → Adds result mid new after later o → Adds result old new after later (with_log_on (both l) o)
logged old mid new after later l tells quiet (Ok u) (gives b k left others) h = record {
  events = h.events ∙ ap (λ m. with_told m k.events) tells ∙ told-both old l.events k.events;
  replies = ap (λ r. r ++ k.answers) quiet ∙ h.replies;
  parts = h.parts;
  wishes = h.wishes;
}
logged old mid new after later l tells quiet (Ok u) (lacks p) h = absurd h
logged old mid new after later l tells quiet (Err e) (gives b k left others) h = absurd h
logged old mid new after later l tells quiet (Err e) (lacks p) h = h

module _ {A : Type 0} (f : A → Plan (Unit {0})) (m : Plan A) (q : Parts) (ws : Wishes) (a : A) where
  -- a plan that tells these events, and then another
  pub then_adds : (es : List Event) (r : Parts) (vs : Wishes) (old mid new : List Event) (after : Parts) (later : Wishes) (result : Result (Unit {0}) Lacks)
      → mid ≡ with_told old es → EndsWith a es [] r vs (run_on m q ws) → Adds result mid new after later (run_on (f a) r vs) → Adds result old new after later (run_on (m >>= f) q ws)
  then_adds es r vs old mid new after later result tells first next = subst (Adds result old new after later) (sym (run_on-bind f m q ws)) (from (run_on m q ws) first)
    where
      from : (o : OnParts A) → EndsWith a es [] r vs o → Adds result old new after later (then_on o f)
      from (gives c l left others) h =
          logged old mid new after later l (tells ∙ ap (with_told old) h.events_are) (sym h.replies_are) result (run_on (f c) left others)
          (subst (Adds result mid new after later) (λ i. run_on (f (h.value_is i)) (h.parts i) (h.wishes i)) next)
      from (lacks p) h = absurd h

  -- a plan that tells nothing, and then another
  pub quiet_adds : (r : Parts) (vs : Wishes) (old new : List Event) (after : Parts) (later : Wishes) (result : Result (Unit {0}) Lacks) → EndsWith a [] [] r vs (run_on m q ws) → Adds result old new after later (run_on (f a) r vs) → Adds result old new after later (run_on (m >>= f) q ws)
  quiet_adds r vs old new after later result first next = then_adds [] r vs old old new after later result (sym (told-none old)) first next

-- two that tell events
pub adds_adds : (m n : Plan (Unit {0})) (q : Parts) (ws : Wishes) (r : Parts) (vs : Wishes) (old mid new : List Event) (after : Parts) (later : Wishes) (result : Result (Unit {0}) Lacks)
    → Adds (Ok tt) old mid r vs (run_on m q ws) → Adds result mid new after later (run_on n r vs) → Adds result old new after later (run_on (m >> n) q ws)
adds_adds m n q ws r vs old mid new after later result first next = subst (Adds result old new after later) (sym (run_on-bind (λ _. n) m q ws)) (from (run_on m q ws) first)
  where
    from : (o : OnParts (Unit {0})) → Adds (Ok tt) old mid r vs o → Adds result old new after later (then_on o (λ _. n))
    from (gives c l left others) h = logged old mid new after later l h.events h.replies result (run_on n left others) (subst (Adds result mid new after later) (λ i. run_on n (h.parts i) (h.wishes i)) next)
    from (lacks p) h = absurd h

-- nothing is told
pub nothing_adds : (old : List Event) (q : Parts) (ws : Wishes) → Adds (Ok tt) old old q ws (run_on (done tt) q ws)
nothing_adds old q ws = record { events = sym (told-none old); replies = refl; parts = refl; wishes = refl }

-- these events are told
pub ends_adds : (es old new : List Event) (after : Parts) (later : Wishes) (o : OnParts (Unit {0})) → new ≡ with_told old es → EndsWith tt es [] after later o → Adds (Ok tt) old new after later o
ends_adds es old new after later (gives c l left others) tells h = record { events = tells ∙ ap (with_told old) h.events_are; replies = sym h.replies_are; parts = h.parts; wishes = h.wishes }
ends_adds es old new after later (lacks p) tells h = absurd h

-- the parts and wishes that equal those
pub adds_as : (old new : List Event) (q r : Parts) (ws vs : Wishes) (result : Result (Unit {0}) Lacks) (o : OnParts (Unit {0})) → q ≡ r → ws ≡ vs → Adds result old new r vs o → Adds result old new q ws o
adds_as old new q r ws vs (Ok u) (gives c l left others) same wished h = record { events = h.events; replies = h.replies; parts = same ∙ h.parts; wishes = wished ∙ h.wishes }
adds_as old new q r ws vs (Ok u) (lacks p) same wished h = absurd h
adds_as old new q r ws vs (Err e) o same wished h = h

-- where there is room, all events are told
pub adds_all : (old new : List Event) (after : Parts) (later : Wishes) (result : Result (Unit {0}) Lacks) (o : OnParts (Unit {0})) → Adds result old new after later o → AddsAll result old new o
adds_all old new after later (Ok u) (gives c l left others) h = λ room. h.events ∙ told-fits old l.events room
adds_all old new after later (Ok u) (lacks p) h = h
adds_all old new after later (Err e) o h = tt

-- ---- what is lacking is not in hand

pub missing_of : {A : Type 0} (m : Plan A) (q : Parts) (ws : Wishes) (part : Part) → StopsAt part (run_on m q ws) → is_some (part_in q part) ≡ false
missing_of {A} m q ws part h = ap is_some (lacking_is_not_held m q ws part (by (run_on m q ws) h))
  where
    by : (o : OnParts A) → StopsAt part o → o ≡ lacks part
    by (gives c l left others) h = absurd h
    by (lacks p) h = ap lacks (sym h)

pub missing_from : (m : Plan (Unit {0})) (q : Parts) (ws : Wishes) (old new : List Event) (after : Parts) (later : Wishes) (result : Result (Unit {0}) Lacks) → Adds result old new after later (run_on m q ws) → IfErr result (λ l. is_some (part_in q l.part) ≡ false)
missing_from m q ws old new after later (Ok u) h = tt
missing_from m q ws old new after later (Err l) h = missing_of m q ws l.part h

-- ---- events of counters

said_more : (event : Event) (es : List Event) (q : Parts) (ws : Wishes) (o : OnParts (Unit {0})) → EndsWith tt es [] q ws o → EndsWith tt (event ∷ es) [] q ws (with_log_on (told event) o)
said_more event es q ws (gives c l left others) h = record { value_is = h.value_is; events_are = ap (λ l. event ∷ l) h.events_are; replies_are = h.replies_are; parts = h.parts; wishes = h.wishes }
said_more event es q ws (lacks p) h = absurd h

said : (es : List Event) (q : Parts) (ws : Wishes) → EndsWith tt es [] q ws (run_on (say_each es) q ws)
said [] q ws = record { value_is = refl; events_are = refl; replies_are = refl; parts = refl; wishes = refl }
said (event ∷ es) q ws = said_more event es q ws (run_on (say_each es) q ws) (said es q ws)

-- a part in hand is looked at, and written
pub looked : {A : Type 0} (p : Part) (k : ValueOf p → Plan A) (q : Parts) (ws : Wishes) (v : ValueOf p) → part_in q p ≡ Some v → run_on (look p k) q ws ≡ run_on (k v) q ws
looked p k q ws v h = subst (λ (x : Option (ValueOf p)). (elim x [ None ↦ lacks p | Some u ↦ run_on (k u) q ws ]) ≡ run_on (k v) q ws) (sym h) refl

pub wrote : {A : Type 0} (p : Part) (w : ValueOf p) (rest : Plan A) (q : Parts) (ws : Wishes) (v : ValueOf p) → part_in q p ≡ Some v → run_on (put p w rest) q ws ≡ run_on rest (with_part_in q p w) ws
wrote p w rest q ws v h = subst (λ (x : Option (ValueOf p)). (elim x [ None ↦ lacks p | Some _ ↦ run_on rest (with_part_in q p w) ws ]) ≡ run_on rest (with_part_in q p w) ws) (sym h) refl

pub signals_each : (q : Parts) (ws : Wishes) (counts cs : List ℕ) (es : List Event) → q.counters ≡ Some counts → EndsWith tt es [] (record q { counters = Some (signalled_all counts cs) }) ws (run_on (signal_each cs es) q ws)
signals_each q ws counts cs es h =
    subst (EndsWith tt es [] (record q { counters = Some (signalled_all counts cs) }) ws)
    (sym (looked Counters (λ v. put Counters (signalled_all v cs) (say_each es)) q ws counts h ∙ wrote Counters (signalled_all counts cs) (say_each es) q ws counts h))
    (said es (record q { counters = Some (signalled_all counts cs) }) ws)

pub ruleset told_rules = (told-none)

-- ---- on the parts that a rig lent

pub adds_on : (m : Plan (Unit {0})) (was lent left after : code.Parts) (ws later : Wishes) (old new : List Event) (result : Result (Unit {0}) Lacks) → lent ≡ was → after ≡ left → later ≡ ws
    → Adds result old new (parts_of left) ws (run_on m (parts_of lent) ws) → Adds result old new (parts_of after) later (run_on m (parts_of was) ws)
adds_on m was lent left after ws later old new result same is others h =
    subst (λ (p : code.Parts). Adds result old new (parts_of after) later (run_on m (parts_of p) ws)) same
    (adds_as old new (parts_of after) (parts_of left) later ws result (run_on m (parts_of lent) ws) (ap parts_of is) others h)

-- the same under wishes that equal those
pub adds_from : (m : Plan (Unit {0})) (was lent : code.Parts) (ws vs : Wishes) (after : Parts) (later : Wishes) (old new : List Event) (result : Result (Unit {0}) Lacks) → lent ≡ was → vs ≡ ws
    → Adds result old new after later (run_on m (parts_of lent) vs) → Adds result old new after later (run_on m (parts_of was) ws)
adds_from m was lent ws vs after later old new result same others h = subst (Adds result old new after later) (λ i. run_on m (parts_of (same i)) (others i)) h

pub stops_from : {A : Type 0} (m : Plan A) (was lent : code.Parts) (ws vs : Wishes) (part : Part) → lent ≡ was → vs ≡ ws → StopsAt part (run_on m (parts_of lent) vs) → StopsAt part (run_on m (parts_of was) ws)
stops_from m was lent ws vs part same others h = subst (StopsAt part) (λ i. run_on m (parts_of (same i)) (others i)) h
