-- Plans that lose no request, and whose sendings leave one at each processor that they reach.
use Rattle.board_laws.proofs.Basics.{Walk, ◌≡◌, ℕ, ◌≤◌, zero, suc, Bool, true, false, not, ◌||◌, All, nat_eq, nat_lt, if◌then◌else◌, ◌⊎◌, inl, inr, List, [], ◌∷◌, ◌++◌, map, length, refl, sym, ap, subst, ◌∙◌, arith, slice_get, slice_set, unwrap_or, All-nil, All-append, Numbers, contains-insert_number, Message, Part, Lapic, LocalApic, power_on, is_enabled, is_nmi, accepted, with_error, with_request, ValueOf, Board, part_of, with_part, Plan, done, look, put, tell, answer, choose, ◌>>=◌, Sending, Wishes, next_wish, later_wishes, run, reached, Processor, does_hear, MayReach, see_each, is_illegal, processors_on, named_on, part_of-with_other, lapics-with, run-bind, seen_each, after_seen, sendings_of, contains}

-- ---- requests of one local APIC

-- whether a local APIC has the request of a message
abbrev pub has : LocalApic → Message → Bool
has a message = if is_nmi message.mode then a.nmi else contains a.irr message.vector

-- it has each request still
abbrev pub KeepsRequests : LocalApic → LocalApic → Type 0
KeepsRequests a c = (message : Message) → has a message ≡ true → has c message ≡ true

pub same_requests : (a c : LocalApic) → c.irr ≡ a.irr → c.nmi ≡ a.nmi → KeepsRequests a c
same_requests a c irr nmi message h = ap (λ t. if is_nmi message.mode then t else contains c.irr message.vector) nmi ∙ ap (λ (s : Numbers). if is_nmi message.mode then a.nmi else contains s message.vector) irr ∙ h

pub or_later : (a b : Bool) → b ≡ true → (a || b) ≡ true
or_later a b h1 = grind arith

-- a message takes no request away
pub accepted_keeps : (a : LocalApic) (m : Message) → KeepsRequests a (accepted a m)
accepted_keeps a m message h = elim (is_nmi m.mode) as (λ t. has (if t then record a { nmi = true } else if not (is_enabled a) then a else if nat_lt m.vector 16 then with_error a 6 else with_request a m) message ≡ true) [
  | true ↦ (grind (arith, h))
  | false ↦ elim (is_enabled a) as (λ t. has (if not t then a else if nat_lt m.vector 16 then with_error a 6 else with_request a m) message ≡ true) [
    | true ↦ elim (nat_lt m.vector 16) as (λ t. has (if t then with_error a 6 else with_request a m) message ≡ true) [ true ↦ h | false ↦ (grind (arith, contains-insert_number, or_later, h)) ]
    | false ↦ h
  ]
]

-- a legal message that is heard is a request
pub accepted_has : (a : LocalApic) (m : Message) → does_hear m.mode a ≡ true → is_illegal m ≡ false → has (accepted a m) m ≡ true
accepted_has a m h1 h2 = grind (arith, contains-insert_number)

-- ---- local APICs

-- the local APIC of that number
abbrev pub at : List LocalApic → ℕ → LocalApic
at apics n = unwrap_or (slice_get apics n) (power_on n)

-- there is one for each processor, and each has its number
pub record Fine (cpus : ℕ) (apics : List LocalApic) : Type 0 where
  pub places : cpus ≤ length apics
  pub numbers : (n : ℕ) → (at apics n).number ≡ n

put_either : (xs : List LocalApic) (n : ℕ) (v d : LocalApic) → (unwrap_or (slice_get (slice_set xs n v) n) d ≡ v) ⊎ (unwrap_or (slice_get (slice_set xs n v) n) d ≡ unwrap_or (slice_get xs n) d)
put_either [] n v d = inr refl
put_either (x ∷ xs) zero v d = inl refl
put_either (x ∷ xs) (suc n) v d = put_either xs n v d

-- what holds of each local APIC, and of one that is written, holds of each after the write
pub after_put : (P : ℕ → LocalApic → Type 0) (b : Board) (n : ℕ) (v : LocalApic) → P n v → ((k : ℕ) → P k (part_of b (Lapic k))) → (m : ℕ) → P m (part_of (with_part b (Lapic n) v) (Lapic m))
after_put P b n v written each m = elim (nat_eq n m) as (λ t. nat_eq n m ≡ t → P m (part_of (with_part b (Lapic n) v) (Lapic m))) [
  | true ↦ λ e. let same : n ≡ m = grind (e, arith) in subst (λ (k : ℕ). P k (part_of (with_part b (Lapic n) v) (Lapic k))) same (from (put_either b.lapics n v (power_on n)))
  | false ↦ λ e. subst (P m) (sym (part_of-with_other b (Lapic n) (Lapic m) v e)) (each m)
] refl
  where
    from : (part_of (with_part b (Lapic n) v) (Lapic n) ≡ v) ⊎ (part_of (with_part b (Lapic n) v) (Lapic n) ≡ part_of b (Lapic n)) → P n (part_of (with_part b (Lapic n) v) (Lapic n))
    from (inl e) = subst (P n) (sym e) written
    from (inr e) = subst (P n) (sym e) (each n)

-- ---- the sendings of a run

-- those of a plan and then another
pub sendings-bind : {A B : Type 0} (f : A → Plan B) (m : Plan A) (b : Board) (ws : Wishes) → sendings_of (m >>= f) b ws ≡ sendings_of m b ws ++ sendings_of (f (run m b ws).value) (run m b ws).board (run m b ws).wishes
sendings-bind f (done a) b ws = refl
sendings-bind f (look p k) b ws = sendings-bind f (k (part_of b p)) b ws
sendings-bind f (put p v rest) b ws = sendings-bind f rest (with_part b p v) ws
sendings-bind f (tell x rest) b ws = sendings-bind f rest b ws
sendings-bind f (answer x rest) b ws = sendings-bind f rest b ws
sendings-bind f (choose m about g k) b ws = ap (λ l. (b, record { heading = m; sent = g (next_wish ws) }) ∷ l) (sendings-bind f (k (g (next_wish ws))) b (later_wishes ws))

-- to look at processors sends nothing
none_seen : (b : Board) (ns : List ℕ) (ws : Wishes) → sendings_of (see_each ns) b ws ≡ []
none_seen b [] ws = refl
none_seen b (n ∷ ns) ws = sendings-bind (λ rest. done (record { number = n; apic = part_of b (Lapic n) } ∷ rest)) (see_each ns) b ws ∙ ap (λ l. l ++ []) (none_seen b ns ws)

pub seen_sendings : {A : Type 0} (f : List Processor → Plan A) (b : Board) (ns : List ℕ) (ws : Wishes) → sendings_of (see_each ns >>= f) b ws ≡ sendings_of (f (processors_on b ns)) b ws
seen_sendings f b ns ws = grind (arith, sendings-bind, none_seen, seen_each)

-- they are those that its log shows
pub logged : {A : Type 0} (m : Plan A) (b : Board) (ws : Wishes) → map (λ (x : Board × Sending). x.1) (sendings_of m b ws) ≡ (run m b ws).log.sendings
logged (done a) b ws = refl
logged (look p k) b ws = logged (k (part_of b p)) b ws
logged (put p v rest) b ws = logged rest (with_part b p v) ws
logged (tell x rest) b ws = logged rest b ws
logged (answer x rest) b ws = logged rest b ws
logged (choose m about g k) b ws = ap (λ l. record { heading = m; sent = g (next_wish ws) } ∷ l) (logged (k (g (next_wish ws))) b (later_wishes ws))

-- ---- a run

module _ (cpus : ℕ) where
  pub put_fine : (b : Board) (n : ℕ) (v : LocalApic) → Fine cpus b.lapics → v.number ≡ n → Fine cpus (with_part b (Lapic n) v).lapics
  put_fine b n v fine number = record {
    places = subst (λ (l : ℕ). cpus ≤ l) (sym (lapics-with b (Lapic n) v)) fine.places;
    numbers = after_put (λ k a. a.number ≡ k) b n v number fine.numbers;
  }

  -- a sending reached a set that it may reach, and each processor of it has the request among these local APICs
  pub record IsMade (apics : List LocalApic) (b : Board) (s : Sending) : Type 0 where
    pub chosen : MayReach s.heading.message.mode (named_on b cpus s.heading.message s.heading.from) (reached s.sent)
    pub pending : (n : ℕ) → contains (reached s.sent) n ≡ true → has (at apics n) s.heading.message ≡ true

  -- local APICs before and after a run with these sendings: no request is lost
  pub record Good (before after : List LocalApic) (made : List (Board × Sending)) : Type 0 where
    pub stands : Fine cpus after
    pub keeps : (n : ℕ) → KeepsRequests (at before n) (at after n)
    pub sent : All (λ (x : Board × Sending). IsMade after x.0 x.1) made

  pub quiet : (apics : List LocalApic) → Fine cpus apics → Good apics apics []
  quiet apics fine = record { stands = fine; keeps = λ n message h. h; sent = All-nil (λ (x : Board × Sending). IsMade apics x.0 x.1) }

  pub and_then : (before between after : List LocalApic) (first second : List (Board × Sending)) → Good before between first → Good between after second → Good before after (first ++ second)
  and_then before between after first second g h = record {
    stands = h.stands;
    keeps = λ n message had. h.keeps n message (g.keeps n message had);
    sent = All-append (λ (x : Board × Sending). IsMade after x.0 x.1) first second (λ k d below. later (g.sent k d below)) h.sent;
  }
    where
      later : {b : Board} {s : Sending} → IsMade between b s → IsMade after b s
      later {b} {s} made = record { chosen = made.chosen; pending = λ n there. h.keeps n s.heading.message (made.pending n there) }

  pub put_good : (b : Board) (n : ℕ) (v : LocalApic) → Fine cpus b.lapics → v.number ≡ n → KeepsRequests (part_of b (Lapic n)) v → Good b.lapics (with_part b (Lapic n) v).lapics []
  put_good b n v fine number keeps = record {
    stands = put_fine b n v fine number;
    keeps = after_put (λ k a. KeepsRequests (part_of b (Lapic k)) a) b n v keeps (λ k message h. h);
    sent = All-nil (λ (x : Board × Sending). IsMade (with_part b (Lapic n) v).lapics x.0 x.1);
  }

  -- the run of a plan on this board loses no request
  abbrev pub GoodRun : {A : Type 0} → Plan A → Board → Wishes → Type 0
  GoodRun m b ws = Good b.lapics (run m b ws).board.lapics (sendings_of m b ws)

  -- a plan that loses no request
  abbrev pub Safe : {A : Type 0} → Plan A → Type 0
  Safe m = (b : Board) (ws : Wishes) → Fine cpus b.lapics → GoodRun m b ws

  -- what may be written: a local APIC that keeps its number and its requests, and every other part
  abbrev pub Spares : Board → (p : Part) → ValueOf p → Type 0
  Spares b (Lapic n) v = (v.number ≡ n) × KeepsRequests (part_of b (Lapic n)) v
  Spares b _ v = Unit {0}

  pub safe_put : {A : Type 0} (p : Part) (v : ValueOf p) (rest : Plan A) (b : Board) (ws : Wishes) → Fine cpus b.lapics → Spares b p v → (Fine cpus (with_part b p v).lapics → GoodRun rest (with_part b p v) ws) → GoodRun (put p v rest) b ws
  safe_put (Lapic n) v rest b ws fine may next = and_then b.lapics (with_part b (Lapic n) v).lapics (run rest (with_part b (Lapic n) v) ws).board.lapics [] (sendings_of rest (with_part b (Lapic n) v) ws) (put_good b n v fine may.0 may.1) (next (put_fine b n v fine may.0))
  safe_put _ v rest b ws fine may next = next fine

  -- a run that is another one
  pub same_run : (before : List LocalApic) {xs ys : List LocalApic} {k l : List (Board × Sending)} → xs ≡ ys → k ≡ l → Good before ys l → Good before xs k
  same_run before apics made g = subst (λ (x : List LocalApic × List (Board × Sending)). Good before x.0 x.1) (λ i. (sym apics i, sym made i)) g

  -- so plans are safe whose parts are
  abbrev pub safe : Walk
  safe = record {
    At = λ m b ws. GoodRun m b ws;
    Fit = λ b. Fine cpus b.lapics;
    May = Spares;
    ends = λ a b ws fine. quiet b.lapics fine;
    looks = λ p k b ws h. h;
    puts = safe_put;
    binds = λ f m b ws fine h later.
        let o = run m b ws in
        same_run b.lapics (ap (λ r. r.board.lapics) (run-bind f m b ws)) (sendings-bind f m b ws)
        (and_then b.lapics o.board.lapics (run (f o.value) o.board o.wishes).board.lapics (sendings_of m b ws) (sendings_of (f o.value) o.board o.wishes) h (later o.value o.board o.wishes h.stands));
    sees = λ f ns b ws h. same_run b.lapics (ap (λ o. o.board.lapics) (after_seen f b ns ws)) (seen_sendings f b ns ws) h;
  }
