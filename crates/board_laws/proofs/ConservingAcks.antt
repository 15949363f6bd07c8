-- What an outcome takes off the pending ticks, and which injections its events may tell; acknowledges take a tick each.
use Rattle.board_laws.proofs.Basics.{Walk, Holds, of_relation, ended, ◌≡◌, ℕ, ◌+◌, ◌-◌, Bool, true, false, ◌&&◌, ◌||◌, nat_eq, if◌then◌else◌, List, [], ◌∷◌, ◌++◌, refl, sym, ap, subst, ◌∙◌, arith, Some, None, Option, Event, Acked, Rang, Injected, Pin, TickSource, Part, Shape, Status, TickState, ack_injects, tick_acked, tick_injected, is_ignored, Routing, Board, with_part, ValueOf, is_same, TargetAnswer, About, injected, Plan, done, put, change, ◌>>=◌, ◌>>◌, Wishes, Outcome, run, then_run, inject, inject_tick, inject_next, acknowledge_tick, tell_concerned, end_level, end_tick, acknowledge, acknowledge_each, part_of-with_other, run-bind, is_ack_of, acks_in}
use Rattle.board_laws.proofs.ConservingOnce.{injects_before, inject_injects}
use Rattle.board_laws.proofs.ConservingQuiet.{is_quiet, shows_quietly, AreQuiet, still, inject_quiet, tell_quiet, level_quiet}

-- ---- which events may come

-- whether an event may come: that of an ioeventfd where one may be rung
abbrev pub allows : Bool → Event → Bool
allows rings (Rang counter) = rings
allows rings _ = true

-- each event may
abbrev pub Allowed : Bool → List Event → Type 0
Allowed rings [] = Unit {0}
Allowed rings (event ∷ events) = (allows rings event ≡ true) × Allowed rings events

-- ---- each acknowledge lets one injection come

-- whether an event is that of an ioeventfd
abbrev pub is_rang : Event → Bool
is_rang (Rang counter) = true
is_rang _ = false

-- whether an injection of the tick is due after an event: an acknowledge of its GSI makes it due, another acknowledge or an
-- injection ends that
abbrev pub due_after : ℕ → Bool → Event → Bool
due_after tick due (Acked pin None) = false
due_after tick due (Acked pin (Some gsi)) = nat_eq gsi tick
due_after tick due (Injected gsi status) = false
due_after tick due _ = due

-- whether an event may come where these GSIs may be injected, and the tick where it is due
abbrev pub admits : ℕ → (ℕ → Bool) → Bool → Event → Bool
admits tick may due (Injected gsi status) = may gsi || (due && nat_eq gsi tick)
admits tick may due _ = true

-- each event may come after those before it, until an ioeventfd is rung
abbrev pub Singly : ℕ → (ℕ → Bool) → Bool → List Event → Type 0
Singly tick may due [] = Unit {0}
Singly tick may due (event ∷ events) = (admits tick may due event ≡ true) × (is_rang event ≡ false → Singly tick may (due_after tick due event) events)

-- an outcome takes so many ticks off besides those of the acknowledges that it tells, changes no tick state without reinjection,
-- and tells what may come
pub record Conserves {A : Type 0} (tick : ℕ) (rings : Bool) (may : ℕ → Bool) (taken : ℕ) (b : Board) (o : Outcome A) : Type 0 where
  pub reinjects : o.board.tick.reinjects ≡ b.tick.reinjects
  pub pending : b.tick.reinjects ≡ true → o.board.tick.pending ≡ b.tick.pending - (taken + acks_in tick o.log.events)
  pub stays : b.tick.reinjects ≡ false → o.board.tick ≡ b.tick
  pub allowed : Allowed rings o.log.events
  pub singly : Singly tick may false o.log.events

pub acks_append : (gsi : ℕ) (xs ys : List Event) → acks_in gsi (xs ++ ys) ≡ acks_in gsi xs + acks_in gsi ys
acks_append gsi [] ys = omega arith
acks_append gsi (x ∷ xs) ys = ap (λ n. is_ack_of gsi x + n) (acks_append gsi xs ys) ∙ sum (is_ack_of gsi x) (acks_in gsi xs) (acks_in gsi ys)
  where
    sum : (a b c : ℕ) → a + (b + c) ≡ (a + b) + c
    sum a b c = omega arith

or_left : (a c : Bool) → a ≡ true → (a || c) ≡ true
or_left a c h1 = grind arith

pub or_right : (a c : Bool) → c ≡ true → (a || c) ≡ true
or_right a c h1 = grind arith

module _ (tick : ℕ) (may : ℕ → Bool) where
  -- what may come where no tick is due may come where one is
  singly_due : (due : Bool) (events : List Event) → Singly tick may false events → Singly tick may due events
  singly_due due [] h = tt
  singly_due due (Acked pin None ∷ xs) h = h
  singly_due due (Acked pin (Some gsi) ∷ xs) h = h
  singly_due due (Injected gsi status ∷ xs) h = ((grind (arith, h.0)), h.1)
  singly_due due (_ ∷ xs) h = (refl, λ quiet. singly_due due xs (h.1 quiet))

  singly_append : (due : Bool) (xs ys : List Event) → Singly tick may due xs → Singly tick may false ys → Singly tick may due (xs ++ ys)
  singly_append due [] ys h later = singly_due due ys later
  singly_append due (x ∷ xs) ys h later = (h.0, λ quiet. singly_append (due_after tick due x) xs ys (h.1 quiet) later)

  -- events that are quiet
  quiet_singly : (due : Bool) (events : List Event) → AreQuiet may events → Singly tick may due events
  quiet_singly due [] h = tt
  quiet_singly due (x ∷ xs) h = (one x h.0, λ _. quiet_singly (due_after tick due x) xs h.1)
    where
      one : (x : Event) → is_quiet may x ≡ true → admits tick may due x ≡ true
      one x h1 = grind arith

  -- events of which none injects come before
  silent_singly : (due : Bool) (xs ys : List Event) → AreQuiet (λ _. false) xs → Singly tick may due ys → Singly tick may due (xs ++ ys)
  silent_singly due [] ys h later = later
  silent_singly due (Acked pin gsi ∷ xs) ys h later = let never : false ≡ true = h.0 in cc
  silent_singly due (Rang counter ∷ xs) ys h later = let never : false ≡ true = h.0 in cc
  silent_singly due (Injected gsi status ∷ xs) ys h later = let never : false ≡ true = h.0 in cc
  silent_singly due (_ ∷ xs) ys h later = (refl, λ _. silent_singly due xs ys h.1 later)

module _ (tick : ℕ) (rings : Bool) where
  allowed_append : (xs ys : List Event) → Allowed rings xs → Allowed rings ys → Allowed rings (xs ++ ys)
  allowed_append [] ys h later = later
  allowed_append (x ∷ xs) ys h later = (h.0, allowed_append xs ys h.1 later)

  -- ---- quiet plans

  quiet_event : (may : ℕ → Bool) (event : Event) → is_quiet may event ≡ true → (allows rings event ≡ true) × (is_ack_of tick event ≡ 0)
  quiet_event may event h1 = grind arith

  quiet_events : (may : ℕ → Bool) (events : List Event) → AreQuiet may events → (acks_in tick events ≡ 0) × Allowed rings events
  quiet_events may [] h = (refl, tt)
  quiet_events may (x ∷ xs) h =
      let one = quiet_event may x h.0 in
      let more = quiet_events may xs h.1 in
      (none (is_ack_of tick x) (acks_in tick xs) one.1 more.0, (one.0, more.1))
    where
      none : (a b : ℕ) → a ≡ 0 → b ≡ 0 → a + b ≡ 0
      none a b e f = omega (arith, e, f)

-- a quiet plan tells no acknowledge
pub quiet_acks : {A : Type 0} (tick : ℕ) (may : ℕ → Bool) (m : Plan A) (b : Board) (ws : Wishes) → Holds (still may) m → acks_in tick (run m b ws).log.events ≡ 0
quiet_acks tick may m b ws h = (quiet_events tick true may (run m b ws).log.events (h b ws tt).1).0

-- ---- plans that conserve ticks

-- on every board, under all wishes
abbrev pub Conserving : {A : Type 0} → ℕ → Bool → (ℕ → Bool) → ℕ → Plan A → Type 0
Conserving tick rings may taken m = (b : Board) (ws : Wishes) → Conserves tick rings may taken b (run m b ws)

module _ (tick : ℕ) (rings : Bool) (may : ℕ → Bool) where
  pub quiet_conserving : {A : Type 0} (m : Plan A) → Holds (still may) m → Conserving tick rings may 0 m
  quiet_conserving m h = λ b ws.
      let o = h b ws tt in
      let told = quiet_events tick rings may (run m b ws).log.events o.1 in
      record {
        reinjects = ap (λ (s : TickState). s.reinjects) o.0;
        pending = λ _. none ((run m b ws).board.tick.pending) b.tick.pending (acks_in tick (run m b ws).log.events) (ap (λ (s : TickState). s.pending) o.0) told.0;
        stays = λ _. o.0;
        allowed = told.1;
        singly = quiet_singly tick may false (run m b ws).log.events o.1;
      }
    where
      none : (left was acks : ℕ) → left ≡ was → acks ≡ 0 → left ≡ was - (0 + acks)
      none left was acks same never = omega (arith, same, never)

  nothing_conserving : Conserving {A = Unit {0}} tick rings may 0 (done tt)
  nothing_conserving = quiet_conserving (done tt) (λ b ws fit. (refl, tt))

  -- one outcome after another
  pub join_conserves : {A B : Type 0} (i j : ℕ) (f : A → Plan B) (b : Board) (o : Outcome A) → Conserves tick rings may i b o → Conserves tick rings may j o.board (run (f o.value) o.board o.wishes) → Conserves tick rings may (i + j) b (then_run o f)
  join_conserves i j f b o first later =
      let r = run (f o.value) o.board o.wishes in
      record {
        reinjects = later.reinjects ∙ first.reinjects;
        pending = λ on. sum r.board.tick.pending o.board.tick.pending b.tick.pending (acks_in tick o.log.events) (acks_in tick r.log.events) (acks_in tick (o.log.events ++ r.log.events)) (later.pending (first.reinjects ∙ on)) (first.pending on) (acks_append tick o.log.events r.log.events);
        stays = λ off. later.stays (first.reinjects ∙ off) ∙ first.stays off;
        allowed = allowed_append tick rings o.log.events r.log.events first.allowed later.allowed;
        singly = singly_append tick may false o.log.events r.log.events first.singly later.singly;
      }
    where
      sum : (last mid was k l all : ℕ) → last ≡ mid - (j + l) → mid ≡ was - (i + k) → all ≡ k + l → last ≡ was - (i + j + all)
      sum last mid was k l all e f g = omega (arith, e, f, g)

  -- the first of two takes none
  pub bind_conserving : {A B : Type 0} (taken : ℕ) (f : A → Plan B) (m : Plan A) → Conserving tick rings may 0 m → ((a : A) → Conserving tick rings may taken (f a)) → Conserving tick rings may taken (m >>= f)
  bind_conserving {A} {B} taken f m first next = λ b ws.
      let o = run m b ws in
      let r = subst (λ (q : Outcome B). Conserves tick rings may (0 + taken) b q) (sym (run-bind f m b ws)) (join_conserves 0 taken f b o (first b ws) (next o.value o.board o.wishes)) in
      record { reinjects = r.reinjects; pending = λ on. same (run (m >>= f) b ws).board.tick.pending b.tick.pending (acks_in tick (run (m >>= f) b ws).log.events) (r.pending on); stays = r.stays; allowed = r.allowed; singly = r.singly }
    where
      same : (left was acks : ℕ) → left ≡ was - (0 + taken + acks) → left ≡ was - (taken + acks)
      same left was acks e = omega (arith, e)

  -- the tick state is written, with so many ticks taken off
  pub put_conserves : {A : Type 0} (taken : ℕ) (m : Plan A) (b : Board) (v : TickState) (ws : Wishes) → v.reinjects ≡ b.tick.reinjects → (b.tick.reinjects ≡ false → v ≡ b.tick) → (b.tick.reinjects ≡ true → v.pending ≡ b.tick.pending - taken) → Conserving tick rings may 0 m → Conserves tick rings may taken b (run (put Part.Tick v m) b ws)
  put_conserves taken m b v ws same still less later =
      let r = later (with_part b Part.Tick v) ws in
      record {
        reinjects = r.reinjects ∙ same;
        pending = λ on. sum (run m (with_part b Part.Tick v) ws).board.tick.pending v.pending b.tick.pending (acks_in tick (run m (with_part b Part.Tick v) ws).log.events) (r.pending (same ∙ on)) (less on);
        stays = λ off. r.stays (same ∙ off) ∙ still off;
        allowed = r.allowed;
        singly = r.singly;
      }
    where
      sum : (last mid was acks : ℕ) → last ≡ mid - (0 + acks) → mid ≡ was - taken → last ≡ was - (taken + acks)
      sum last mid was acks e f = omega (arith, e, f)

-- a write of another part
pub puts_conserve : {A : Type 0} (tick : ℕ) (rings : Bool) (may : ℕ → Bool) (p : Part) (v : ValueOf p) (b : Board) (o : Outcome A) → is_same p Part.Tick ≡ false → Conserves tick rings may 0 (with_part b p v) o → Conserves tick rings may 0 b o
puts_conserve tick rings may p v b o other r =
    let same = part_of-with_other b p Part.Tick v other in
    record {
      reinjects = r.reinjects ∙ ap (λ (s : TickState). s.reinjects) same;
      pending = λ on. r.pending (ap (λ (s : TickState). s.reinjects) same ∙ on) ∙ ap (λ (s : TickState). s.pending - (0 + acks_in tick o.log.events)) same;
      stays = λ off. r.stays (ap (λ (s : TickState). s.reinjects) same ∙ off) ∙ same;
      allowed = r.allowed;
      singly = r.singly;
    }

-- what takes no tick but by the acknowledges that it tells
abbrev pub conserving : ℕ → Bool → (ℕ → Bool) → Walk
conserving tick rings may = of_relation (record {
  Good = λ b o. Conserves tick rings may 0 b o;
  Fit = λ b. Unit {0};
  May = λ b p v. is_same p Part.Tick ≡ false;
  starts = λ a b ws fit. quiet_conserving tick rings may (done a) (ended (still may) a) b ws;
  puts = λ p v b o fit other h. puts_conserve tick rings may p v b o other h;
  fits = λ p v b fit other. tt;
  joins = λ f b o fit h next. join_conserves tick rings may 0 0 f b o h (next tt);
})

tick_injected_same : (s : TickState) (status : Status) → ((tick_injected s status).reinjects ≡ s.reinjects) × ((tick_injected s status).pending ≡ s.pending)
tick_injected_same s status = elim s.reinjects as (λ t. ((if t then record s { free = is_ignored status } else s).reinjects ≡ s.reinjects) × ((if t then record s { free = is_ignored status } else s).pending ≡ s.pending)) [ true ↦ (refl, refl) | false ↦ (refl, refl) ]

tick_acked_less : (s : TickState) → s.reinjects ≡ true → (tick_acked s).pending ≡ s.pending - 1
tick_acked_less s on = ap (λ t. (if t then record s { pending = s.pending - 1; free = true } else s).pending) on

-- without reinjection they leave the tick state
pub tick_injected_stays : (s : TickState) (status : Status) → s.reinjects ≡ false → tick_injected s status ≡ s
tick_injected_stays s status off = ap (λ t. if t then record s { free = is_ignored status } else s) off

tick_acked_stays : (s : TickState) → s.reinjects ≡ false → tick_acked s ≡ s
tick_acked_stays s off = ap (λ t. if t then record s { pending = s.pending - 1; free = true } else s) off

module _ (routing : Routing) (shape : Shape) (rings : Bool) where
  -- ---- a tick is injected

  pub tick_conserving : (may : ℕ → Bool) (about : Option TargetAnswer → About) → ((pic : Option TargetAnswer) → shows_quietly may (about pic) ≡ true) → Conserving shape.tick rings may 0 (inject_tick routing shape about)
  tick_conserving may about there =
      bind_conserving shape.tick rings may 0 (λ status. change Part.Tick (λ tick. tick_injected tick status)) (inject shape.cpus (routing.targets shape.tick) TickSource about)
      (quiet_conserving shape.tick rings may (inject shape.cpus (routing.targets shape.tick) TickSource about) (inject_quiet may shape.cpus (routing.targets shape.tick) TickSource about there))
      (λ status b ws. let same = tick_injected_same b.tick status in
      put_conserves shape.tick rings may 0 (done tt) b (tick_injected b.tick status) ws same.0 (tick_injected_stays b.tick status) (λ _. none same.1) (nothing_conserving shape.tick rings may))
    where
      none : {a b : ℕ} → a ≡ b → a ≡ b - 0
      none e = omega (arith, e)

  next_conserving : (may : ℕ → Bool) (injects : Bool) → may shape.tick ≡ true → Conserving shape.tick rings may 0 (inject_next routing shape injects)
  next_conserving may true h = tick_conserving may (λ pic. injected shape.tick pic) (λ _. h)
  next_conserving may false h = nothing_conserving shape.tick rings may

  -- ---- an acknowledge

  -- its last step takes a tick where the acknowledge that was told is of the tick's GSI
  end_tick_conserving : (pin : Pin) (gsi : Option ℕ) → Conserving shape.tick rings (λ _. true) (is_ack_of shape.tick (Acked pin gsi)) (end_tick routing shape gsi)
  end_tick_conserving pin None = nothing_conserving shape.tick rings (λ _. true)
  end_tick_conserving pin (Some gsi) = elim (nat_eq gsi shape.tick) as (λ t. Conserving shape.tick rings (λ _. true) (if t then 1 else 0) (if t then acknowledge_tick routing shape else done tt)) [
    | true ↦ λ b ws. put_conserves shape.tick rings (λ _. true) 1 (inject_next routing shape (ack_injects b.tick)) b (tick_acked b.tick) ws (elim b.tick.reinjects as (λ t. (if t then record b.tick { pending = b.tick.pending - 1; free = true } else b.tick).reinjects ≡ b.tick.reinjects) [ true ↦ refl | false ↦ refl ]) (tick_acked_stays b.tick) (tick_acked_less b.tick)
        (next_conserving (λ _. true) (ack_injects b.tick) refl)
    | false ↦ nothing_conserving shape.tick rings (λ _. true)
  ]

  -- ---- after its acknowledge the tick is injected once at most

  -- a plan tells what may come
  abbrev DueSingly : {A : Type 0} → (ℕ → Bool) → Bool → Plan A → Type 0
  DueSingly may due m = (b : Board) (ws : Wishes) → Singly shape.tick may due (run m b ws).log.events

  silent_then : {A B : Type 0} (may : ℕ → Bool) (due : Bool) (f : A → Plan B) (m : Plan A) → Holds (still (λ _. false)) m → ((a : A) → DueSingly may due (f a)) → DueSingly may due (m >>= f)
  silent_then {A} {B} may due f m quiet next = λ b ws.
      let o = run m b ws in
      subst (λ (q : Outcome B). Singly shape.tick may due q.log.events) (sym (run-bind f m b ws))
      (silent_singly shape.tick may due o.log.events (run (f o.value) o.board o.wishes).log.events (quiet b ws tt).1 (next o.value o.board o.wishes))

  inject_singly : (may : ℕ → Bool) → DueSingly may true (inject_tick routing shape (λ pic. injected shape.tick pic))
  inject_singly may = λ b ws.
      let one = injects_before shape.tick (λ status. change Part.Tick (λ tick. tick_injected tick status)) (inject shape.cpus (routing.targets shape.tick) TickSource (λ pic. injected shape.tick pic))
      (inject_injects shape.tick shape.cpus (routing.targets shape.tick) TickSource) (λ status b ws fit. refl) b ws in
      subst (λ (events : List Event). Singly shape.tick may true events) (sym one.1) (or_right (may shape.tick) (nat_eq shape.tick shape.tick) (same shape.tick), λ _. tt)
    where
      same : (n : ℕ) → nat_eq n n ≡ true
      same n = grind arith

  next_singly : (may : ℕ → Bool) (injects : Bool) → DueSingly may true (inject_next routing shape injects)
  next_singly may true = inject_singly may
  next_singly may false = λ b ws. tt

  end_tick_singly : (may : ℕ → Bool) (pin : Pin) (gsi : Option ℕ) → DueSingly may (due_after shape.tick false (Acked pin gsi)) (end_tick routing shape gsi)
  end_tick_singly may pin None = λ b ws. tt
  end_tick_singly may pin (Some gsi) = elim (nat_eq gsi shape.tick) as (λ t. DueSingly may t (if t then acknowledge_tick routing shape else done tt)) [
    | true ↦ λ b ws. next_singly may (ack_injects b.tick) (with_part b Part.Tick (tick_acked b.tick)) ws
    | false ↦ λ b ws. tt
  ]

  acknowledged_singly : (may : ℕ → Bool) (pin : Pin) (gsi : Option ℕ) → DueSingly may (due_after shape.tick false (Acked pin gsi)) (tell_concerned routing gsi >> (end_level shape.cpus pin >> end_tick routing shape gsi))
  acknowledged_singly may pin gsi =
      let due = due_after shape.tick false (Acked pin gsi) in
      silent_then may due (λ _. end_level shape.cpus pin >> end_tick routing shape gsi) (tell_concerned routing gsi) (tell_quiet (λ _. false) routing gsi)
      (λ _. silent_then may due (λ _. end_tick routing shape gsi) (end_level shape.cpus pin) (level_quiet (λ _. false) shape.cpus pin) (λ _. end_tick_singly may pin gsi))

  -- ---- a whole acknowledge

  acknowledge_conserving : (may : ℕ → Bool) (pin : Pin) → Conserving shape.tick rings may 0 (acknowledge routing shape pin)
  acknowledge_conserving may pin = λ b ws.
      let gsi = routing.gsi_of pin in
      let after : ℕ → Bool = λ _. true in
      let m = tell_concerned routing gsi in
      let f = λ (_ : Unit {0}). end_level shape.cpus pin >> end_tick routing shape gsi in
      let taken = is_ack_of shape.tick (Acked pin gsi) in
      let r = bind_conserving shape.tick rings after taken f m (quiet_conserving shape.tick rings after m (tell_quiet after routing gsi))
      (λ _. bind_conserving shape.tick rings after taken (λ _. end_tick routing shape gsi) (end_level shape.cpus pin) (quiet_conserving shape.tick rings after (end_level shape.cpus pin) (level_quiet after shape.cpus pin)) (λ _. end_tick_conserving pin gsi)) b ws in
      record { reinjects = r.reinjects; pending = λ on. same (run (m >>= f) b ws).board.tick.pending b.tick.pending taken (acks_in shape.tick (run (m >>= f) b ws).log.events) (r.pending on); stays = r.stays; allowed = (refl, r.allowed); singly = (refl, λ _. acknowledged_singly may pin gsi b ws) }
    where
      same : (left was taken acks : ℕ) → left ≡ was - (taken + acks) → left ≡ was - (0 + (taken + acks))
      same left was taken acks e = omega (arith, e)

  pub each_conserving : (may : ℕ → Bool) (list : List Pin) → Conserving shape.tick rings may 0 (acknowledge_each routing shape list)
  each_conserving may [] = nothing_conserving shape.tick rings may
  each_conserving may (pin ∷ list) = bind_conserving shape.tick rings may 0 (λ _. acknowledge_each routing shape list) (acknowledge routing shape pin) (acknowledge_conserving may pin) (λ _. each_conserving may list)
