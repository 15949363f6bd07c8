-- What an acknowledge leaves: each resample counter of its GSI is told at once, and no other; and Resample lets its pins go.
use Rattle.board_laws.proofs.Basics.{or_neither, Walk, Holds as HoldsOf, of_relation, ended, after, let_go_holds, resend_holds, end_tick_holds, Accesses, ◌≡◌, ℕ, true, false, not, ◌&&◌, ◌||◌, nat_eq, cond, filter, if◌then◌else◌, List, [], ◌∷◌, ◌++◌, map, Some, None, refl, sym, ap, subst, ◌∙◌, append_assoc, append-nil, filter_map, is_some, Option, cons_option, Event, Acked, Resampled, Watched, Pin, Resample, Targets, Shape, signalled_all, Irqfd, Watch, has_resampler, resample_of, resampled, resample_events, has_watch, watched, watch_events, targets_of, RegistryPart, Routing, routing_of_registry, Board, with_part, resent, Plan, done, tell, ◌>>◌, ipi, reply, Wishes, Outcome, then_run, run, send, let_go, resend, signal_each, resample, notify, resample_and_notify, tell_concerned, end_level, end_tick, acknowledge, acknowledge_each, run-bind, Part, signal_told, signals_told, signal_owed, signals_owed, counters_told}
use Rattle.board_laws.proofs.ResamplingPlans.{AreQuiet, no_more, Stays, same, left, shows_left, left_signals, left_ends}
use Rattle.board_laws.proofs.ResamplingAcks.{has_it, same_number, Resamples, Does, Acks, then_does, acks_quietly, resamples_later, said, resamples_tell, watches_tell, signal_acks, LetsGo, lets_go}

-- ---- what events tell and owe

no_resampler : (rows : List Irqfd) (gsi : ℕ) → has_resampler rows gsi ≡ false → resampled rows gsi ≡ []
no_resampler [] gsi none = refl
no_resampler (x ∷ xs) gsi none =
    elim (nat_eq x.gsi gsi) as (λ t. ((t && is_some x.resample) || has_resampler xs gsi) ≡ false → cons_option (if t then x.resample else None) (filter_map (resample_of gsi) xs) ≡ []) [
      | true ↦ elim x.resample as (λ o. (is_some o || has_resampler xs gsi) ≡ false → cons_option o (filter_map (resample_of gsi) xs) ≡ []) [
        | None ↦ λ rest. no_resampler xs gsi rest
        | Some counter ↦ λ never. cc
      ]
      | false ↦ λ rest. no_resampler xs gsi rest
    ] none

no_watch : (rows : List Watch) (gsi : ℕ) → has_watch rows gsi ≡ false → watched rows gsi ≡ []
no_watch [] gsi none = refl
no_watch (x ∷ xs) gsi none =
    elim (nat_eq x.gsi gsi) as (λ t. (t || has_watch xs gsi) ≡ false → map (λ (row : Watch). row.counter) (cond t (x ∷ filter (λ row. nat_eq row.gsi gsi) xs) (filter (λ row. nat_eq row.gsi gsi) xs)) ≡ []) [
      | true ↦ λ never. cc
      | false ↦ λ rest. no_watch xs gsi rest
    ] none

module _ (r : RegistryPart) where
  told_split : (xs ys : List Event) → signals_told (xs ++ ys) ≡ signals_told xs ++ signals_told ys
  told_split [] ys = refl
  told_split (x ∷ xs) ys = ap (λ l. signal_told x ++ l) (told_split xs ys) ∙ sym (append_assoc (signal_told x) (signals_told xs) (signals_told ys))

  owed_split : (xs ys : List Event) → signals_owed r (xs ++ ys) ≡ signals_owed r xs ++ signals_owed r ys
  owed_split [] ys = refl
  owed_split (x ∷ xs) ys = ap (λ l. signal_owed r x ++ l) (owed_split xs ys) ∙ sym (append_assoc (signal_owed r x) (signals_owed r xs) (signals_owed r ys))

  -- events that tell these signals and owe none
  record Gives (signals events : List Event) : Type 0 where
    pub told : signals_told events ≡ signals
    pub owed : signals_owed r events ≡ []

  give_both : (xs ys us vs : List Event) → Gives us xs → Gives vs ys → Gives (us ++ vs) (xs ++ ys)
  give_both xs ys us vs one two = record {
    told = told_split xs ys ∙ (λ i. one.told i ++ two.told i);
    owed = owed_split xs ys ∙ (λ i. one.owed i ++ two.owed i);
  }

  resamples_give : (counters : List ℕ) → Gives (map Resampled counters) (map Resampled counters)
  resamples_give [] = record { told = refl; owed = refl }
  resamples_give (c ∷ counters) = let g = resamples_give counters in record { told = ap (λ l. Resampled c ∷ l) g.told; owed = g.owed }

  watches_give : (counters : List ℕ) → Gives (map Watched counters) (map Watched counters)
  watches_give [] = record { told = refl; owed = refl }
  watches_give (c ∷ counters) = let g = watches_give counters in record { told = ap (λ l. Watched c ∷ l) g.told; owed = g.owed }

  quiet_give : (events : List Event) → AreQuiet events → Gives [] events
  quiet_give [] quiet = record { told = refl; owed = refl }
  quiet_give (Acked pin gsi ∷ events) quiet = let never : false ≡ true = quiet.0 in cc
  quiet_give (Resampled counter ∷ events) quiet = let never : false ≡ true = quiet.0 in cc
  quiet_give (Watched counter ∷ events) quiet = let never : false ≡ true = quiet.0 in cc
  quiet_give (_ ∷ events) quiet = let g = quiet_give events quiet.1 in record { told = g.told; owed = g.owed }

  -- ---- plans that tell what they owe

  pub record Pays {A : Type 0} (b : Board) (o : Outcome A) : Type 0 where
    pub does : Does r b o
    pub once : signals_told o.log.events ≡ signals_owed r o.log.events

  -- what an outcome pays, and then the plan of its value
  pub then_pays : {A B : Type 0} (f : A → Plan B) (b : Board) (o : Outcome A) → Pays b o → Pays o.board (run (f o.value) o.board o.wishes) → Pays b (then_run o f)
  then_pays f b o one two = record {
    does = then_does r b o f one.does two.does;
    once = told_split o.log.events (run (f o.value) o.board o.wishes).log.events ∙ (λ i. one.once i ++ two.once i) ∙ sym (owed_split o.log.events (run (f o.value) o.board o.wishes).log.events);
  }

  -- what is written first changes neither counts nor registry, and Resample holds no pin more
  pub put_pays : {A : Type 0} (b c : Board) (o : Outcome A) → Stays r b c → Pays c o → Pays b o
  put_pays b c o stays p = record {
    does = record {
      registry = p.does.registry;
      counts = p.does.counts ∙ ap (λ l. signalled_all l (counters_told o.log.events)) stays.counters;
      pic = no_more b.pic.holds c.pic.holds o.board.pic.holds stays.pic p.does.pic;
      ioapic = no_more b.ioapic.holds c.ioapic.holds o.board.ioapic.holds stays.ioapic p.does.ioapic;
      follows = p.does.follows;
    };
    once = p.once;
  }

  pub quiet_pays : {A : Type 0} (m : Plan A) (b : Board) (ws : Wishes) → Does r b (run m b ws) → AreQuiet (run m b ws).log.events → Pays b (run m b ws)
  quiet_pays m b ws does quiet = let g = quiet_give (run m b ws).log.events quiet in record { does = does; once = g.told ∙ sym g.owed }

  abbrev pub pays : Walk
  pays = of_relation (record {
    Good = λ b o. Pays b o;
    Fit = λ b. b.registry ≡ r;
    May = λ b p v. Stays r b (with_part b p v);
    starts = λ a b ws fit. quiet_pays (done a) b ws (acks_quietly r (done a) (ended (left r) a) b ws fit) tt;
    puts = λ p v b o fit may h. put_pays b (with_part b p v) o may h;
    fits = λ p v b fit may. may.registry;
    joins = λ f b o fit h next. then_pays f b o h (next h.does.registry);
  })

  -- so does a plan on every board with that registry
  abbrev pub Settles : {A : Type 0} → Plan A → Type 0
  Settles m = HoldsOf pays m

  pub settles_quietly : {A : Type 0} (m : Plan A) → HoldsOf (left r) m → Settles m
  settles_quietly m h = λ b ws is. quiet_pays m b ws (acks_quietly r m h b ws is) (h b ws is).quiet

  -- ---- steps 2 and 3

  -- what an outcome does that begins with the resampling of a GSI
  record Concerns (gsi : ℕ) (b : Board) (o : Outcome (Unit {0})) : Type 0 where
    pub does : Does r b o
    pub first : has_resampler r.irqfds gsi ≡ true → Resamples r o.board gsi o.log.events

  concerns_then : (gsi : ℕ) (m n : Plan (Unit {0})) → ((b : Board) (ws : Wishes) → b.registry ≡ r → Concerns gsi b (run m b ws)) → Acks r n → (b : Board) (ws : Wishes) → b.registry ≡ r → Concerns gsi b (run (m >> n) b ws)
  concerns_then gsi m n h next b ws is =
      let o = run m b ws in
      let one : Concerns gsi b o = h b ws is in
      let last : Outcome (Unit {0}) = run n o.board o.wishes in
      let two : Does r o.board last = next o.board o.wishes one.does.registry in
      subst (λ (x : Outcome (Unit {0})). Concerns gsi b x) (sym (run-bind (λ _. n) m b ws)) (record {
        does = then_does r b o (λ _. n) one.does two;
        first = λ on. resamples_later r o.board last.board two.pic two.ioapic gsi o.log.events last.log.events (one.first on);
      })

  module _ (shape : Shape) where
    abbrev routing : Routing
    routing = routing_of_registry r shape.tick

    released : (gsi : ℕ) (b : Board) (ws : Wishes) → b.registry ≡ r → Concerns gsi b (run (let_go (targets_of r.table gsi) Resample >> signal_each (resampled r.irqfds gsi) (resample_events r.irqfds gsi)) b ws)
    released gsi b ws is =
        let targets : Targets = targets_of r.table gsi in
        let next : Plan (Unit {0}) = signal_each (resampled r.irqfds gsi) (resample_events r.irqfds gsi) in
        let o : Outcome (Unit {0}) = run (let_go targets Resample) b ws in
        let l : LetsGo r targets.pic targets.ioapic o = lets_go r targets.pic targets.ioapic b ws in
        let one : Does r b o = acks_quietly r (let_go targets Resample) (let_go_holds (left r) shape.cpus (left_signals r) targets Resample) b ws is in
        let last : Outcome (Unit {0}) = run next o.board o.wishes in
        let two : Does r o.board last = (signal_acks r (resampled r.irqfds gsi) (resample_events r.irqfds gsi) (resamples_tell r (resampled r.irqfds gsi))) o.board o.wishes one.registry in
        subst (λ (x : Outcome (Unit {0})). Concerns gsi b x) (sym (run-bind (λ _. next) (let_go targets Resample) b ws)) (record {
          does = then_does r b o (λ _. next) one two;
          first = λ _. record {
            more = [];
            events = ap (λ l. l ++ last.log.events) l.silent ∙ (said r (resample_events r.irqfds gsi) (with_part o.board Part.Counters (signalled_all o.board.counters (resampled r.irqfds gsi))) o.wishes).told ∙ sym (append-nil (resample_events r.irqfds gsi));
            pic = λ pin e. two.pic pin (l.free_pic pin (same_number targets.pic pin (has_it r.table (Pin.Pic pin) gsi e)));
            ioapic = λ pin e. two.ioapic pin (l.free_ioapic pin (same_number targets.ioapic pin (has_it r.table (Pin.Ioapic pin) gsi e)));
          };
        })

    resample_concerns : (gsi : ℕ) (b : Board) (ws : Wishes) → b.registry ≡ r → Concerns gsi b (run (resample (targets_of r.table gsi) gsi r) b ws)
    resample_concerns gsi b ws is =
        elim (has_resampler r.irqfds gsi) as (λ t. has_resampler r.irqfds gsi ≡ t → Concerns gsi b (run (if not t then done tt else (let_go (targets_of r.table gsi) Resample >> signal_each (resampled r.irqfds gsi) (resample_events r.irqfds gsi))) b ws)) [
          | true ↦ λ _. released gsi b ws is
          | false ↦ λ off. record { does = acks_quietly r {A = Unit {0}} (done tt) (ended (left r) tt) b ws is; first = λ on. let never : false ≡ true = sym off ∙ on in cc }
        ] refl

    both_concern : (gsi : ℕ) (b : Board) (ws : Wishes) → b.registry ≡ r → Concerns gsi b (run (resample_and_notify routing gsi) b ws)
    both_concern gsi b ws is =
        subst (λ (q : RegistryPart). Concerns gsi b (run (resample (targets_of r.table gsi) gsi q >> notify gsi q) b ws)) (sym is)
        (concerns_then gsi (resample (targets_of r.table gsi) gsi r) (notify gsi r) (resample_concerns gsi) (signal_acks r (watched r.watches gsi) (watch_events r.watches gsi) (watches_tell r (watched r.watches gsi))) b ws is)

    -- a GSI with a resampler is marked
    tell_concerns : (gsi : ℕ) (b : Board) (ws : Wishes) → b.registry ≡ r → Concerns gsi b (run (tell_concerned routing (Some gsi)) b ws)
    tell_concerns gsi b ws is =
        elim (routing.marked gsi) as (λ t. routing.marked gsi ≡ t → Concerns gsi b (run (if t then resample_and_notify routing gsi else done tt) b ws)) [
          | true ↦ λ _. both_concern gsi b ws is
          | false ↦ λ off. record { does = acks_quietly r {A = Unit {0}} (done tt) (ended (left r) tt) b ws is; first = λ on. let never : false ≡ true = sym off ∙ ap (λ t. t || (has_watch r.watches gsi || nat_eq gsi shape.tick)) on in cc }
        ] refl

    -- ---- steps 4 and 5

    rest_left : (pin : Pin) (gsi : Option ℕ) → HoldsOf (left r) (end_level shape.cpus pin >> end_tick routing shape gsi)
    rest_left pin gsi = after (left r) (end_level shape.cpus pin) (end_tick routing shape gsi) ((left_ends r shape).levels pin) (end_tick_holds (left r) routing shape (left_ends r shape) gsi)

    -- ---- exactly these events

    resample_tells : (gsi : ℕ) (b : Board) (ws : Wishes) → (run (resample (targets_of r.table gsi) gsi r) b ws).log.events ≡ resample_events r.irqfds gsi
    resample_tells gsi b ws =
        let targets : Targets = targets_of r.table gsi in
        let next : Plan (Unit {0}) = signal_each (resampled r.irqfds gsi) (resample_events r.irqfds gsi) in
        let o : Outcome (Unit {0}) = run (let_go targets Resample) b ws in
        elim (has_resampler r.irqfds gsi) as (λ t. has_resampler r.irqfds gsi ≡ t → (run (if not t then done tt else (let_go targets Resample >> next)) b ws).log.events ≡ resample_events r.irqfds gsi) [
          | true ↦ λ _.
              ap (λ (x : Outcome (Unit {0})). x.log.events) (run-bind (λ _. next) (let_go targets Resample) b ws)
              ∙ ap (λ l. l ++ (run next o.board o.wishes).log.events) (lets_go r targets.pic targets.ioapic b ws).silent
              ∙ (said r (resample_events r.irqfds gsi) (with_part o.board Part.Counters (signalled_all o.board.counters (resampled r.irqfds gsi))) o.wishes).told
          | false ↦ λ off. ap (λ l. map Resampled l) (sym (no_resampler r.irqfds gsi off))
        ] refl

    both_tell : (gsi : ℕ) (b : Board) (ws : Wishes) → b.registry ≡ r → (run (resample_and_notify routing gsi) b ws).log.events ≡ resample_events r.irqfds gsi ++ watch_events r.watches gsi
    both_tell gsi b ws is =
        let m : Plan (Unit {0}) = resample (targets_of r.table gsi) gsi r in
        let o : Outcome (Unit {0}) = run m b ws in
        subst (λ (q : RegistryPart). (run (resample (targets_of r.table gsi) gsi q >> notify gsi q) b ws).log.events ≡ resample_events r.irqfds gsi ++ watch_events r.watches gsi) (sym is)
        (ap (λ (x : Outcome (Unit {0})). x.log.events) (run-bind (λ _. notify gsi r) m b ws)
        ∙ (λ i. resample_tells gsi b ws i ++ (said r (watch_events r.watches gsi) (with_part o.board Part.Counters (signalled_all o.board.counters (watched r.watches gsi))) o.wishes).told i))

    -- a GSI that is not marked has neither resamplers nor notifiers
    concern_tells : (gsi : ℕ) (b : Board) (ws : Wishes) → b.registry ≡ r → (run (tell_concerned routing (Some gsi)) b ws).log.events ≡ resample_events r.irqfds gsi ++ watch_events r.watches gsi
    concern_tells gsi b ws is =
        elim (routing.marked gsi) as (λ t. routing.marked gsi ≡ t → (run (if t then resample_and_notify routing gsi else done tt) b ws).log.events ≡ resample_events r.irqfds gsi ++ watch_events r.watches gsi) [
          | true ↦ λ _. both_tell gsi b ws is
          | false ↦ λ off. λ i. map Resampled (sym (no_resampler r.irqfds gsi (or_neither (has_resampler r.irqfds gsi) _ off).0) i) ++ map Watched (sym (no_watch r.watches gsi (or_neither (has_watch r.watches gsi) _ (or_neither (has_resampler r.irqfds gsi) _ off).1).0) i)
        ] refl

    all_told : (gsi : ℕ) (rest : Plan (Unit {0})) → HoldsOf (left r) rest → (b : Board) (ws : Wishes) → b.registry ≡ r →
        signals_told (run (tell_concerned routing (Some gsi) >> rest) b ws).log.events ≡ (resample_events r.irqfds gsi ++ watch_events r.watches gsi) ++ signals_owed r (run (tell_concerned routing (Some gsi) >> rest) b ws).log.events
    all_told gsi rest quietly b ws is =
        let due : List Event = resample_events r.irqfds gsi ++ watch_events r.watches gsi in
        let o : Outcome (Unit {0}) = run (tell_concerned routing (Some gsi)) b ws in
        let last : Outcome (Unit {0}) = run rest o.board o.wishes in
        let one : Gives due due = give_both (resample_events r.irqfds gsi) (watch_events r.watches gsi) (resample_events r.irqfds gsi) (watch_events r.watches gsi) (resamples_give (resampled r.irqfds gsi)) (watches_give (watched r.watches gsi)) in
        let whole : Gives (due ++ []) (due ++ last.log.events) = give_both due last.log.events due [] one (quiet_give last.log.events (quietly o.board o.wishes (tell_concerns gsi b ws is).does.registry).quiet) in
        let events : (run (tell_concerned routing (Some gsi) >> rest) b ws).log.events ≡ due ++ last.log.events = ap (λ (x : Outcome (Unit {0})). x.log.events) (run-bind (λ _. rest) (tell_concerned routing (Some gsi)) b ws) ∙ ap (λ l. l ++ last.log.events) (concern_tells gsi b ws is) in
        ap signals_told events ∙ whole.told ∙ sym (ap (λ l. due ++ l) (ap (signals_owed r) events ∙ whole.owed))

    -- ---- all five

    of_gsi : (pin : Pin) (gsi : Option ℕ) → Settles (tell (Acked pin gsi) (tell_concerned routing gsi >> (end_level shape.cpus pin >> end_tick routing shape gsi)))
    of_gsi pin None = λ b ws is.
        let p = settles_quietly (end_level shape.cpus pin >> end_tick routing shape None) (rest_left pin None) b ws is in
        record { does = record { registry = p.does.registry; counts = p.does.counts; pic = p.does.pic; ioapic = p.does.ioapic; follows = (tt, p.does.follows) }; once = p.once }
    of_gsi pin (Some gsi) = λ b ws is.
        let rest : Plan (Unit {0}) = end_level shape.cpus pin >> end_tick routing shape (Some gsi) in
        let c : Concerns gsi b (run (tell_concerned routing (Some gsi) >> rest) b ws) = concerns_then gsi (tell_concerned routing (Some gsi)) rest (tell_concerns gsi) (acks_quietly r rest (rest_left pin (Some gsi))) b ws is in
        record { does = record { registry = c.does.registry; counts = c.does.counts; pic = c.does.pic; ioapic = c.does.ioapic; follows = (c.first, c.does.follows) }; once = all_told gsi rest (rest_left pin (Some gsi)) b ws is }

    pub each_settles : (list : List Pin) → Settles (acknowledge_each routing shape list)
    each_settles [] = ended pays tt
    each_settles (pin ∷ list) = after pays (acknowledge routing shape pin) (acknowledge_each routing shape list) (of_gsi pin (routing.gsi_of pin)) (each_settles list)

    -- ---- accesses

    pub pays_accesses : Accesses pays routing shape
    pays_accesses = record {
      acks = each_settles;
      replies = λ answer plain. settles_quietly (reply answer) (λ b ws fit. record { stays = same r refl refl refl refl fit; quiet = tt });
      resends = λ pin message. settles_quietly (resend shape.cpus pin message) (resend_holds (left r) shape.cpus (left_signals r) pin (shows_left r (resent pin)) message);
      ipis = λ message from. settles_quietly (send shape.cpus message from ipi) ((shows_left r ipi).sends message from);
      pairs = λ pair b fit. same r refl refl refl refl fit;
      stores = λ offset value b fit. same r refl refl refl refl fit;
      registers = λ n offset value b fit. same r refl refl refl refl fit;
      services = λ n b fit. same r refl refl refl refl fit;
    }
