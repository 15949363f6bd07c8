-- One plan after another.
use Rattle.std.proofs.Common.{◌≡◌, Bool, true, false, ◌∷◌, ◌++◌, refl, sym, ap, ◌∙◌, append_assoc, ◌||◌, Some, None}
use Rattle.std.specs.declared.option.Option.{Option}
use Rattle.irq_base.specs.declared.shape.Part.{Part}
use Rattle.board_model.specs.Board.{ValueOf, Board, part_of, with_part, is_same}
use Rattle.board_model.specs.Hand.{Parts, part_in, with_part_in}
use Rattle.board_model.specs.Statuses.{Sent}
use Rattle.board_model.specs.Plan.{Heading, About, events_of, answers_of, Plan, done, look, put, tell, answer, choose, ◌>>=◌}
use Rattle.board_model.specs.Run.{Log, silence, both, told, answered, sending, Wishes, next_wish, later_wishes, with_log, run, then_run, reaches, OnParts, gives, lacks, with_log_on, run_on, then_on}

sending_adds : (m : Heading) (about : About) (s : Sent) (a b : Log) → sending m about s (both a b) ≡ both (sending m about s a) b
sending_adds m about s a b = λ i. record {
  events = sym (append_assoc (events_of about s) a.events b.events) i;
  answers = sym (append_assoc (answers_of about s) a.answers b.answers) i;
  sendings = record { heading = m; sent = s } ∷ (a.sendings ++ b.sendings);
}

or_assoc : (a b c : Bool) → ((a || b) || c) ≡ (a || (b || c))
or_assoc true b c = refl
or_assoc false b c = refl

module _ {A B : Type 0} (f : A → Plan B) where
  -- on a board
  pub run-bind : (m : Plan A) (b : Board) (ws : Wishes) → run (m >>= f) b ws ≡ then_run (run m b ws) f
  run-bind (done a) b ws = refl
  run-bind (look p k) b ws = run-bind (k (part_of b p)) b ws
  run-bind (put p v rest) b ws = run-bind rest (with_part b p v) ws
  run-bind (tell x rest) b ws = ap (with_log (told x)) (run-bind rest b ws)
  run-bind (answer x rest) b ws = ap (with_log (answered x)) (run-bind rest b ws)
  run-bind (choose m about g k) b ws =
      let s = g (next_wish ws) in
      let o = run (k s) b (later_wishes ws) in
      let r = run (f o.value) o.board o.wishes in
      ap (with_log (sending m about s)) (run-bind (k s) b (later_wishes ws))
      ∙ ap (λ l. record { value = r.value; log = l; board = r.board; wishes = r.wishes }) (sending_adds m about s o.log r.log)

  -- what is reached
  pub reaches-bind : (m : Plan A) (b : Board) (ws : Wishes) (q : Part) → reaches (m >>= f) b ws q ≡ (reaches m b ws q || reaches (f (run m b ws).value) (run m b ws).board (run m b ws).wishes q)
  reaches-bind (done a) b ws q = refl
  reaches-bind (look p k) b ws q = ap (λ t. is_same p q || t) (reaches-bind (k (part_of b p)) b ws q) ∙ sym (or_assoc (is_same p q) _ _)
  reaches-bind (put p v rest) b ws q = ap (λ t. is_same p q || t) (reaches-bind rest (with_part b p v) ws q) ∙ sym (or_assoc (is_same p q) _ _)
  reaches-bind (tell x rest) b ws q = reaches-bind rest b ws q
  reaches-bind (answer x rest) b ws q = reaches-bind rest b ws q
  reaches-bind (choose m about g k) b ws q = reaches-bind (k (g (next_wish ws))) b (later_wishes ws) q

  -- on parts in hand
  with_log-silence : (o : OnParts B) → o ≡ with_log_on (both silence) o
  with_log-silence (gives a l q ws) = refl
  with_log-silence (lacks p) = refl

  added : (h : Log → Log) (adds : (a b : Log) → h (both a b) ≡ both (h a) b) (l : Log) (o : OnParts B) → with_log_on h (with_log_on (both l) o) ≡ with_log_on (both (h l)) o
  added h adds l (gives a more q ws) = ap (λ l. gives a l q ws) (adds l more)
  added h adds l (lacks p) = refl

  added-then : (h : Log → Log) (adds : (a b : Log) → h (both a b) ≡ both (h a) b) (o : OnParts A) → with_log_on h (then_on o f) ≡ then_on (with_log_on h o) f
  added-then h adds (gives a l q ws) = added h adds l (run_on (f a) q ws)
  added-then h adds (lacks p) = refl

  pub run_on-bind : (m : Plan A) (q : Parts) (ws : Wishes) → run_on (m >>= f) q ws ≡ then_on (run_on m q ws) f
  run_on-bind (done a) q ws = with_log-silence (run_on (f a) q ws)
  run_on-bind (look p k) q ws = elim (part_in q p) as (λ (x : Option (ValueOf p)). (elim x [ None ↦ lacks p | Some v ↦ run_on (k v >>= f) q ws ]) ≡ then_on (elim x [ None ↦ lacks p | Some v ↦ run_on (k v) q ws ]) f) [
    | None ↦ refl
    | Some v ↦ run_on-bind (k v) q ws
  ]
  run_on-bind (put p w rest) q ws = elim (part_in q p) as (λ (x : Option (ValueOf p)). (elim x [ None ↦ lacks p | Some _ ↦ run_on (rest >>= f) (with_part_in q p w) ws ]) ≡ then_on (elim x [ None ↦ lacks p | Some _ ↦ run_on rest (with_part_in q p w) ws ]) f) [
    | None ↦ refl
    | Some v ↦ run_on-bind rest (with_part_in q p w) ws
  ]
  run_on-bind (tell x rest) q ws = ap (with_log_on (told x)) (run_on-bind rest q ws) ∙ added-then (told x) (λ a b. refl) (run_on rest q ws)
  run_on-bind (answer x rest) q ws = ap (with_log_on (answered x)) (run_on-bind rest q ws) ∙ added-then (answered x) (λ a b. refl) (run_on rest q ws)
  run_on-bind (choose m about g k) q ws = ap (with_log_on (sending m about (g (next_wish ws)))) (run_on-bind (k (g (next_wish ws))) q (later_wishes ws)) ∙ added-then (sending m about (g (next_wish ws))) (sending_adds m about (g (next_wish ws))) (run_on (k (g (next_wish ws))) q (later_wishes ws))

pub ruleset run_rules = (run-bind)

pub ruleset run_on_rules = (run_on-bind)

pub ruleset reaches_rules = (reaches-bind)
