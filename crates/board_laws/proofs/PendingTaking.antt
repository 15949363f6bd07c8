-- Ack takes that request which its reply tells, and loses no other.
use Rattle.board_laws.proofs.Basics.{◌≡◌, ℕ, Bool, true, false, not, ◌&&◌, All, nat_eq, if◌then◌else◌, ◌⊎◌, inl, inr, List, [], ◌∷◌, refl, ap, ◌∙◌, arith, Some, None, Option, contains-remove, nat_cmp_total, All-nil, Message, Reply, Extint, Nmi, Lapic, Shape, has_output, cycle, LocalApic, is_nmi, giveable_of, given, Routing, Board, part_of, with_part, pair_of, Plan, Sending, Wishes, run, cycle_made, given_reply, give, hears_pair, give_of_pair, take_nmi, next_interrupt, unsigned_tied, given_number, sendings_of, takes_by, contains, remove}
use Rattle.board_laws.proofs.PendingPlans.{has, at, Fine, after_put, put_fine, IsMade, Good}
use Rattle.board_laws.proofs.PendingCalls.{cycle_safe}

-- ---- of one local APIC

-- a request is there still, or the reply takes it
abbrev IsLeft : LocalApic → Reply → Message → Type 0
IsLeft a r message = (has a message ≡ true) ⊎ (takes_by message r ≡ true)

given_leaves : (a : LocalApic) (vector : Option ℕ) (message : Message) → has a message ≡ true → IsLeft (given a vector) (given_reply vector) message
given_leaves a None message = λ h. inl h
given_leaves a (Some vector) message = elim (is_nmi message.mode) as (λ t. (if t then a.nmi else contains a.irr message.vector) ≡ true → ((if t then a.nmi else contains (remove a.irr vector) message.vector) ≡ true) ⊎ ((not t && nat_eq vector message.vector) ≡ true)) [
  | true ↦ λ h. inl h
  | false ↦ λ h. from (nat_eq vector message.vector) refl h
]
  where
    from : (t : Bool) → nat_eq vector message.vector ≡ t → contains a.irr message.vector ≡ true → (contains (remove a.irr vector) message.vector ≡ true) ⊎ (nat_eq vector message.vector ≡ true)
    from true is h = inr is
    from false other h =
        let flipped : nat_eq message.vector vector ≡ false = grind (other, arith) in
        inl (contains-remove nat_cmp_total a.irr vector message.vector ∙ ap (λ b. not b && contains a.irr message.vector) (unsigned_tied message.vector vector ∙ flipped) ∙ h)

nmi_leaves : (a : LocalApic) (message : Message) → has a message ≡ true → IsLeft (record a { nmi = false }) Nmi message
nmi_leaves a message = elim (is_nmi message.mode) as (λ t. (if t then a.nmi else contains a.irr message.vector) ≡ true → ((if t then false else contains a.irr message.vector) ≡ true) ⊎ (t ≡ true)) [ true ↦ λ h. inr refl | false ↦ λ h. inl h ]

-- ---- of all

module _ (cpus : ℕ) where
  -- local APICs before and after a run with these sendings and answers: a request is lost only where processor n takes it by
  -- the one answer
  pub record Taking (n : ℕ) (before after : List LocalApic) (made : List (Board × Sending)) (answers : List Reply) : Type 0 where
    pub stands : Fine cpus after
    pub keeps : (k : ℕ) (message : Message) → has (at before k) message ≡ true → (has (at after k) message ≡ true) ⊎ ((n ≡ k) × ((r : Reply) → answers ≡ r ∷ [] → takes_by message r ≡ true))
    pub sent : All (λ (x : Board × Sending). IsMade cpus after x.0 x.1) made

  -- the same of the run of a plan on this board
  abbrev pub TakingRun : ℕ → Plan (Unit {0}) → Board → Wishes → Type 0
  TakingRun n m b ws = Taking n b.lapics (run m b ws).board.lapics (sendings_of m b ws) (run m b ws).log.answers

  pub takes_none : (n : ℕ) (before after : List LocalApic) (made : List (Board × Sending)) (answers : List Reply) → Good cpus before after made → Taking n before after made answers
  takes_none n before after made answers g = record { stands = g.stands; keeps = λ k message h. inl (g.keeps k message h); sent = g.sent }

  put_taking : (n : ℕ) (b : Board) (v : LocalApic) (r : Reply) → Fine cpus b.lapics → v.number ≡ n → ((message : Message) → has (part_of b (Lapic n)) message ≡ true → IsLeft v r message) → Taking n b.lapics (with_part b (Lapic n) v).lapics [] (r ∷ [])
  put_taking n b v r fine number leaves = record {
    stands = put_fine cpus b n v fine number;
    keeps = after_put (λ k a. (message : Message) → has (part_of b (Lapic k)) message ≡ true → (has a message ≡ true) ⊎ ((n ≡ k) × ((q : Reply) → r ∷ [] ≡ q ∷ [] → takes_by message q ≡ true))) b n v
        (λ message h. (grind (arith, (leaves message h)))) (λ k message h. inl h);
    sent = All-nil (λ (x : Board × Sending). IsMade cpus (with_part b (Lapic n) v).lapics x.0 x.1);
  }
    where
      same : (q : Reply) → r ∷ [] ≡ q ∷ [] → r ≡ q
      same q e = cc

module _ (routing : Routing) (shape : Shape) where
  abbrev cpus : ℕ
  cpus = shape.cpus

  give_taking : (n : ℕ) (b : Board) (ws : Wishes) → Fine cpus b.lapics → TakingRun cpus n (give n (part_of b (Lapic n))) b ws
  give_taking n b ws fine =
      let apic = part_of b (Lapic n) in
      put_taking cpus n b (given apic (giveable_of apic)) (given_reply (giveable_of apic)) fine (given_number apic (giveable_of apic) ∙ fine.numbers n) (given_leaves apic (giveable_of apic))

  pub next_taking : (n : ℕ) (b : Board) (ws : Wishes) → Fine cpus b.lapics → TakingRun cpus n (next_interrupt routing shape n) b ws
  next_taking n b ws fine =
      let apic = part_of b (Lapic n) in
      let made = cycle_made routing shape b.pic (cycle (pair_of b.pic)) (Extint (cycle (pair_of b.pic)).vector) in
      elim apic.nmi as (λ t. TakingRun cpus n (if t then take_nmi n apic else if hears_pair n apic then give_of_pair routing shape n apic else give n apic) b ws) [
        | true ↦ put_taking cpus n b (record apic { nmi = false }) Nmi fine (fine.numbers n) (nmi_leaves apic)
        | false ↦ elim (hears_pair n apic) as (λ t. TakingRun cpus n (if t then give_of_pair routing shape n apic else give n apic) b ws) [
          | true ↦ elim (has_output (pair_of b.pic)) as (λ t. TakingRun cpus n (if t then made else give n apic) b ws) [
            | true ↦ takes_none cpus n b.lapics (run made b ws).board.lapics (sendings_of made b ws) (run made b ws).log.answers (cycle_safe routing shape (Extint (cycle (pair_of b.pic)).vector) refl b ws fine)
            | false ↦ give_taking n b ws fine
          ]
          | false ↦ give_taking n b ws fine
        ]
      ]
