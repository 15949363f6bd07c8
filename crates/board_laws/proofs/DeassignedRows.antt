-- The rows of irqfds along a history: each trigger has one row at most, and a trigger whose row went has none until one is made.
use Rattle.board_laws.proofs.Basics.{routing_on, last_is_one, ◌≡◌, ℕ, Bool, true, false, cond, not, ◌||◌, nat_eq, nat_lt, ◌⊎◌, inl, inr, List, [], ◌∷◌, ◌++◌, filter, refl, sym, ap, subst, ◌∙◌, arith, Some, None, find, list_any, first_so, unsigned_Decides, Option, eqb_tells, list_any-append, first_of, Call, Caller, Entry, Resample, Refusal, Busy, RoleClash, Reply, Done, Removed, Shape, Irqfd, taken, has_trigger, is_named, named_row, with_row, without_row, Board, RegistryPart, injected, Plan, done, reply, ◌>>◌, Wishes, Outcome, run, inject, range_reasons, is_trigger, is_signalled, resample_clashes, assign_reasons, attach_reasons, detach_reasons, watch_reasons, unwatch_reasons, unless_refused, source_of, inject_count, assigned, release, deassigned, number_of, io_row, plan_in_range, slice_index, is_some, no_reason, run-bind, Manner, Keeps, keeps_bind, registry_stays, let_go_keeps, inject_keeps, plan_on, outcome_of, Step, opening, EndsTrigger, MakesTrigger, replies_in, writes_in, refuses_in, ends, call_keeps, or_true, or_neither, or_both, none_fewer}
use Rattle.board_laws.proofs.ConservingAcks.{or_right}

-- ---- rows

-- each trigger has one row at most
abbrev pub AreApart : List Irqfd → Type 0
AreApart [] = Unit {0}
AreApart (row ∷ rows) = (list_any (has_trigger row.trigger) rows ≡ false) × AreApart rows

-- a test of an element more, which it fails
pub none_more : (p : Irqfd → Bool) (rows : List Irqfd) (row : Irqfd) → list_any p rows ≡ false → p row ≡ false → list_any p (rows ++ row ∷ []) ≡ false
none_more p rows row none off = list_any-append p rows (row ∷ []) ∙ or_both (list_any p rows) (p row || false) none (or_both (p row) false off refl)

-- a row more of a trigger that has none
pub apart_with : (rows : List Irqfd) (row : Irqfd) → AreApart rows → list_any (has_trigger row.trigger) rows ≡ false → AreApart (rows ++ row ∷ [])
apart_with [] row apart none = (refl, tt)
apart_with (x ∷ xs) row apart none =
    let each = or_neither (has_trigger row.trigger x) (list_any (has_trigger row.trigger) xs) none in
    (none_more (has_trigger x.trigger) xs row apart.0 (grind (arith, each.0)), apart_with xs row apart.1 each.1)

-- rows that go
pub apart_fewer : (keep : Irqfd → Bool) (rows : List Irqfd) → AreApart rows → AreApart (filter keep rows)
apart_fewer keep [] apart = tt
apart_fewer keep (x ∷ xs) apart = elim (keep x) as (λ t. AreApart (cond t (x ∷ filter keep xs) (filter keep xs))) [
  | true ↦ (none_fewer (has_trigger x.trigger) keep xs apart.0, apart_fewer keep xs apart.1)
  | false ↦ apart_fewer keep xs apart.1
]

-- a row that is found has its trigger
found_any : (trigger gsi : ℕ) (rows : List Irqfd) (row : Irqfd) → named_row rows trigger gsi ≡ Some row → list_any (has_trigger trigger) rows ≡ true
found_any trigger gsi [] row e = cc
found_any trigger gsi (x ∷ xs) row e = elim (is_named trigger gsi x) as (λ t. is_named trigger gsi x ≡ t → cond t (Some x) (find (is_named trigger gsi) xs) ≡ Some row → (has_trigger trigger x || list_any (has_trigger trigger) xs) ≡ true) [
  | true ↦ λ on _. ap (λ t. t || list_any (has_trigger trigger) xs) (first_so (has_trigger trigger x) (nat_eq x.gsi gsi) on)
  | false ↦ λ _ later. or_right (has_trigger trigger x) (list_any (has_trigger trigger) xs) (found_any trigger gsi xs row later)
] refl e

-- after the row of a trigger went, it has none
pub none_left : (trigger gsi : ℕ) (rows : List Irqfd) (row : Irqfd) → AreApart rows → named_row rows trigger gsi ≡ Some row → list_any (has_trigger trigger) (without_row rows trigger gsi) ≡ false
none_left trigger gsi [] row apart e = refl
none_left trigger gsi (x ∷ xs) row apart e = elim (is_named trigger gsi x) as (λ t. is_named trigger gsi x ≡ t → cond t (Some x) (find (is_named trigger gsi) xs) ≡ Some row → list_any (has_trigger trigger) (cond (not t) (x ∷ without_row xs trigger gsi) (without_row xs trigger gsi)) ≡ false) [
  | true ↦ λ on _.
      none_fewer (has_trigger trigger) (λ other. not (is_named trigger gsi other)) xs (subst (λ (n : ℕ). list_any (has_trigger n) xs ≡ false) ((unsigned_Decides x.trigger trigger).0 (first_so (has_trigger trigger x) (nat_eq x.gsi gsi) on)) apart.0)
  | false ↦ λ _ later. or_both (has_trigger trigger x) (list_any (has_trigger trigger) (without_row xs trigger gsi)) (another later) (none_left trigger gsi xs row apart.1 later)
] refl e
  where
    another : named_row xs trigger gsi ≡ Some row → has_trigger trigger x ≡ false
    another h1 = grind (arith, found_any)

-- ---- what a call does to the rows

-- a row is made, of a trigger that has none
pub record MakesRow (b : Board) (asked : Call) (left : List Irqfd) (replies : List Reply) : Type 0 where
  pub trigger : ℕ
  pub gsi : ℕ
  pub resample : Option ℕ
  pub call : asked ≡ Call.Assign trigger gsi resample
  pub first : is_trigger b.registry trigger ≡ false
  pub rows : left ≡ with_row b.registry.irqfds trigger gsi resample
  pub earlier : List Reply
  pub answers : replies ≡ earlier ++ Done ∷ []

-- rows go, if there are such
pub record EndsRow (b : Board) (left : List Irqfd) : Type 0 where
  pub trigger : ℕ
  pub gsi : ℕ
  pub rows : left ≡ without_row b.registry.irqfds trigger gsi

-- the rows stay, or one is made, or one goes
abbrev pub RowsAfter : Board → Call → Outcome (Unit {0}) → Type 0
RowsAfter b call o = (o.board.registry.irqfds ≡ b.registry.irqfds) ⊎ (MakesRow b call o.board.registry.irqfds o.log.answers ⊎ EndsRow b o.board.registry.irqfds)

-- the manner of a plan that never writes the registry
abbrev reading : Bool → Manner
reading replies = record { replies = replies; writes = false; refuses = true }

module _ (b : Board) (caller : Caller) (ws : Wishes) where
  unless_rows : (call : Call) (refusal : Option Refusal) (plan : Plan (Unit {0})) → (refusal ≡ None → RowsAfter b call (run plan b ws)) → RowsAfter b call (run (unless_refused refusal plan) b ws)
  unless_rows call None plan h = h refl
  unless_rows call (Some refusal) plan h = inl refl

  -- a call that never writes the registry
  unwritten : (call : Call) → not (writes_in call) ≡ true → RowsAfter b call (run (plan_on b caller call) b ws)
  unwritten call never =
      let w = reading (replies_in call) in
      inl (ap (λ (r : RegistryPart). r.irqfds) (registry_stays w (plan_on b caller call) b ws refl
      (call_keeps w (routing_on b) b.shape caller call refl (record { replies = refl; writes = ap (λ t. t || false) never; refuses = or_true (not (refuses_in call)) }))))

  -- an irqfd is made

  made : (trigger gsi : ℕ) (resample : Option ℕ) → first_of (assign_reasons b.registry trigger resample) ≡ None → RowsAfter b (Call.Assign trigger gsi resample) (run (assigned (routing_on b) b.shape b.registry b.counters trigger gsi resample) b ws)
  made trigger gsi resample none =
      let w = reading false in
      let injects = nat_lt 0 (slice_index b.counters trigger) in
      let m = inject_count (routing_on b) b.shape gsi resample injects in
      let during : Board = record b { registry = record b.registry { irqfds = with_row b.registry.irqfds trigger gsi resample }; counters = taken b.counters trigger } in
      inr (inl (record {
        trigger = trigger;
        gsi = gsi;
        resample = resample;
        call = refl;
        first = (no_reason (is_trigger b.registry trigger) Busy ((is_signalled b.registry trigger || resample_clashes b.registry trigger resample, RoleClash) ∷ []) none).0;
        rows = ap (λ (r : RegistryPart). r.irqfds) (registry_stays w (m >> reply Done) during ws refl (keeps_bind w (λ _. reply Done) m (count_keeps injects) (λ _. ends w Done refl refl)));
        earlier = (run m during ws).log.answers;
        answers = ap (λ (o : Outcome (Unit {0})). o.log.answers) (run-bind (λ _. reply Done) m during ws);
      }))
    where
      count_keeps : (injects : Bool) → Keeps (reading false) (inject_count (routing_on b) b.shape gsi resample injects)
      count_keeps false = tt
      count_keeps true =
          keeps_bind (reading false) (λ _. done tt) (inject b.shape.cpus ((routing_on b).targets gsi) (source_of (is_some resample)) (λ pic. injected gsi pic))
          (inject_keeps (reading false) b.shape.cpus ((routing_on b).targets gsi) (source_of (is_some resample)) (λ pic. injected gsi pic) (λ _. refl)) (λ _. tt)

  -- an irqfd ends

  release_keeps : (gsi : ℕ) (last : Bool) → Keeps (reading false) (release (routing_on b) gsi last)
  release_keeps gsi true = let_go_keeps (reading false) ((routing_on b).targets gsi) Resample
  release_keeps gsi false = tt

  pub gone : (trigger gsi : ℕ) (row : Irqfd) → (run (deassigned (routing_on b) b.registry trigger gsi (Some row)) b ws).board.registry.irqfds ≡ without_row b.registry.irqfds trigger gsi
  gone trigger gsi row = grind arith

  ended : (trigger gsi : ℕ) (row : Option Irqfd) → RowsAfter b (Call.Deassign trigger gsi) (run (deassigned (routing_on b) b.registry trigger gsi row) b ws)
  ended trigger gsi None = inl refl
  ended trigger gsi (Some row) = inr (inr (record { trigger = trigger; gsi = gsi; rows = gone trigger gsi row }))

  -- each call

  abbrev in_range : Call → Plan (Unit {0})
  in_range call = plan_in_range (routing_on b) b.shape (number_of caller) call

  pub rows_after : (call : Call) → RowsAfter b call (run (plan_on b caller call) b ws)
  rows_after (Call.Reroute rows) = unless_rows (Call.Reroute rows) (first_of (range_reasons b.shape (Call.Reroute rows))) (in_range (Call.Reroute rows)) (λ _. inl refl)
  rows_after (Call.Assign trigger gsi resample) = unless_rows (Call.Assign trigger gsi resample) (first_of (range_reasons b.shape (Call.Assign trigger gsi resample))) (in_range (Call.Assign trigger gsi resample))
      (λ _. unless_rows (Call.Assign trigger gsi resample) (first_of (assign_reasons b.registry trigger resample)) (assigned (routing_on b) b.shape b.registry b.counters trigger gsi resample) (made trigger gsi resample))
  rows_after (Call.Deassign trigger gsi) = unless_rows (Call.Deassign trigger gsi) (first_of (range_reasons b.shape (Call.Deassign trigger gsi))) (in_range (Call.Deassign trigger gsi)) (λ _. ended trigger gsi (named_row b.registry.irqfds trigger gsi))
  rows_after (Call.Attach space address len counter want) = unless_rows (Call.Attach space address len counter want) (first_of (range_reasons b.shape (Call.Attach space address len counter want))) (in_range (Call.Attach space address len counter want))
      (λ _. unless_rows (Call.Attach space address len counter want) (first_of (attach_reasons b.registry (io_row space address len counter want))) _ (λ _. inl refl))
  rows_after (Call.Detach space address len counter want) = unless_rows (Call.Detach space address len counter want) (first_of (range_reasons b.shape (Call.Detach space address len counter want))) (in_range (Call.Detach space address len counter want))
      (λ _. unless_rows (Call.Detach space address len counter want) (first_of (detach_reasons b.registry (io_row space address len counter want))) _ (λ _. inl refl))
  rows_after (Call.Watch counter gsi) = unless_rows (Call.Watch counter gsi) (first_of (range_reasons b.shape (Call.Watch counter gsi))) (in_range (Call.Watch counter gsi))
      (λ _. unless_rows (Call.Watch counter gsi) (first_of (watch_reasons b.registry counter gsi)) _ (λ _. inl refl))
  rows_after (Call.Unwatch counter gsi) = unless_rows (Call.Unwatch counter gsi) (first_of (range_reasons b.shape (Call.Unwatch counter gsi))) (in_range (Call.Unwatch counter gsi))
      (λ _. unless_rows (Call.Unwatch counter gsi) (first_of (unwatch_reasons b.registry counter gsi)) _ (λ _. inl refl))
  rows_after call = unwritten call refl

-- ---- along a history

-- the rows after a step are those of its outcome
rows_left : (b : Board) (e : Entry) (c : Board) (s : Step b e c) → (outcome_of b e s.wishes).board.registry.irqfds ≡ c.registry.irqfds
rows_left b e c s = sym (grind arith) ∙ ap (λ (d : Board). d.registry.irqfds) s.leads

pub step_apart : (b : Board) (e : Entry) (c : Board) → Step b e c → AreApart b.registry.irqfds → AreApart c.registry.irqfds
step_apart b e c s apart = subst AreApart (rows_left b e c s) (elim (rows_after b e.caller s.wishes e.call) [
  | inl stay ↦ subst AreApart (sym stay) apart
  | inr (inl makes) ↦ subst AreApart (sym makes.rows) (apart_with b.registry.irqfds (record { trigger = makes.trigger; gsi = makes.gsi; resample = makes.resample }) apart makes.first)
  | inr (inr goes) ↦ subst AreApart (sym goes.rows) (apart_fewer (λ row. not (is_named goes.trigger goes.gsi row)) b.registry.irqfds apart)
])

pub opening_apart : (shape : Shape) → AreApart (opening shape).registry.irqfds
opening_apart shape = tt

-- a counter that is no trigger is none after a step that makes it none
pub step_off : (trigger : ℕ) (b : Board) (e : Entry) (c : Board) → Step b e c → (MakesTrigger trigger e → ⊥) → is_trigger b.registry trigger ≡ false → is_trigger c.registry trigger ≡ false
step_off trigger b e c s never off = subst (λ (rows : List Irqfd). list_any (has_trigger trigger) rows ≡ false) (rows_left b e c s) (elim (rows_after b e.caller s.wishes e.call) [
  | inl stay ↦ ap (list_any (has_trigger trigger)) stay ∙ off
  | inr (inl makes) ↦ ap (list_any (has_trigger trigger)) makes.rows ∙ none_more (has_trigger trigger) b.registry.irqfds (record { trigger = makes.trigger; gsi = makes.gsi; resample = makes.resample }) off (another makes)
  | inr (inr goes) ↦ ap (list_any (has_trigger trigger)) goes.rows ∙ none_fewer (has_trigger trigger) (λ row. not (is_named goes.trigger goes.gsi row)) b.registry.irqfds off
])
  where
    another : (makes : MakesRow b e.call (outcome_of b e s.wishes).board.registry.irqfds (outcome_of b e s.wishes).log.answers) → nat_eq makes.trigger trigger ≡ false
    another makes = elim (eqb_tells makes.trigger trigger) [
      | inl same ↦ absurd (never (record {
        gsi = makes.gsi;
        resample = makes.resample;
        call = makes.call ∙ ap (λ t. Call.Assign t makes.gsi makes.resample) same.1;
        reply = last_is_one makes.earlier Done e.reply (sym makes.answers ∙ s.replied);
      }))
      | inr other ↦ other.0
    ]

-- ---- the end of an irqfd

-- a Deassign that answers Removed 1 found the row
pub ends_off : (trigger : ℕ) (b : Board) (e : Entry) (c : Board) → Step b e c → EndsTrigger trigger e → AreApart b.registry.irqfds → is_trigger c.registry trigger ≡ false
ends_off trigger b e c s ends apart =
    subst (λ (rows : List Irqfd). list_any (has_trigger trigger) rows ≡ false) (rows_left b e c s)
    (ap (λ call. list_any (has_trigger trigger) (run (plan_on b e.caller call) b s.wishes).board.registry.irqfds) ends.call ∙ by_range (first_of (range_reasons b.shape (Call.Deassign trigger ends.gsi)))
    (ap (λ call. (run (plan_on b e.caller call) b s.wishes).log.answers) (sym ends.call) ∙ s.replied ∙ ap (λ r. r ∷ []) ends.reply))
  where
    by_row : (row : Option Irqfd) → named_row b.registry.irqfds trigger ends.gsi ≡ row → (run (deassigned (routing_on b) b.registry trigger ends.gsi row) b s.wishes).log.answers ≡ Removed 1 ∷ [] → list_any (has_trigger trigger) (run (deassigned (routing_on b) b.registry trigger ends.gsi row) b s.wishes).board.registry.irqfds ≡ false
    by_row None is answers = cc
    by_row (Some row) is answers = ap (list_any (has_trigger trigger)) (gone b e.caller s.wishes trigger ends.gsi row) ∙ none_left trigger ends.gsi b.registry.irqfds row apart is

    by_range : (refusal : Option Refusal) → (run (unless_refused refusal (plan_in_range (routing_on b) b.shape (number_of e.caller) (Call.Deassign trigger ends.gsi))) b s.wishes).log.answers ≡ Removed 1 ∷ []
        → list_any (has_trigger trigger) (run (unless_refused refusal (plan_in_range (routing_on b) b.shape (number_of e.caller) (Call.Deassign trigger ends.gsi))) b s.wishes).board.registry.irqfds ≡ false
    by_range None answers = by_row (named_row b.registry.irqfds trigger ends.gsi) refl answers
    by_range (Some refusal) answers = cc
