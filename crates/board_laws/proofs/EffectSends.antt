-- A sending whose status is without effect: what the status says, and that it changes no request.
use Rattle.board_laws.proofs.Basics.{Walk, Holds, of_relation, either, ◌≡◌, ℕ, zero, suc, ◌<◌, Bool, true, false, not, ◌&&◌, ◌||◌, nat_eq, nat_lt, if◌then◌else◌, ◌⊎◌, inl, inr, List, [], ◌∷◌, ◌++◌, length, refl, sym, ap, ◌∙◌, subst, append-nil, true≢false, arith, Some, None, slice_get, slice_set, unwrap_or, Option, contains-empty, same_set, nat_cmp-IsAntisymmetric, nat_cmp, nat_cmp_total, Numbers, contains-insert_number, Message, Targets, Signal, Part, Lapic, Cause, NoProcessor, BadVector, BadMode, Status, Chip, PinOutcome, TickState, pin_outcome, LocalApic, power_on, is_enabled, is_nmi, is_taken, accepted, with_error, with_request, ValueOf, Board, part_of, with_part, PicPart, IoapicPart, pair_of, Sent, nobody, is_empty, TargetAnswer, newly_taken, stood_already, no_effect, message_answer, status_of, About, the_reply, Plan, done, put, answer, ◌>>=◌, Wishes, Outcome, run, Processor, named_by, numbers_of, MayReach, ignore, reached_by, see_each, is_illegal, accept_each, deliver, refuse_vector, send_to, send, pic_answer, processors_on, named_on, HasProcessors, IsSending, has_request_on, is_some, Mode, Lowest, chip_outcome, stands, part_of-with_other, run-bind, after_seen, wishes_reach_exactly, has_any, named_alike, message_on, PicStood, IoapicStood, RequestStood, pic_answer_on, message_answer_by, message_answer_on, other_answer_on, IsSaidOf, is_without_effect, SameRequests, contains, insert, empty_of_len, empty}
use Rattle.board_laws.proofs.EffectStood.{has_stood, pin_stood, ignored_for}

-- ---- plans that answer nothing and leave the requests of a board

-- a value of a part with the requests that the board has there
abbrev pub HasRequests : Board → (p : Part) → ValueOf p → Type 0
HasRequests b (Lapic n) v = v.irr ≡ (part_of b (Lapic n)).irr
HasRequests b _ v = Unit {0}

module _ (b : Board) where
  -- where one is written, whether it is there or not, its requests are those of the board
  written_there : (xs : List LocalApic) (n : ℕ) (v d : LocalApic) (r : Numbers) → v.irr ≡ r → (unwrap_or (slice_get xs n) d).irr ≡ r → (unwrap_or (slice_get (slice_set xs n v) n) d).irr ≡ r
  written_there [] n v d r new old = old
  written_there (x ∷ xs) zero v d r new old = new
  written_there (x ∷ xs) (suc n) v d r new old = written_there xs n v d r new old

  pub with_requests : (c : Board) (p : Part) (v : ValueOf p) → HasRequests b p v → SameRequests b c → SameRequests b (with_part c p v)
  with_requests c (Lapic n) v h same = λ m. elim (nat_eq n m) as (λ t. nat_eq n m ≡ t → (part_of (with_part c (Lapic n) v) (Lapic m)).irr ≡ (part_of b (Lapic m)).irr) [
    | true ↦ λ is. let e : n ≡ m = grind (is, arith) in
        subst (λ k. (part_of (with_part c (Lapic n) v) (Lapic k)).irr ≡ (part_of b (Lapic k)).irr) e (written_there c.lapics n v (power_on n) (part_of b (Lapic n)).irr h (same n))
    | false ↦ λ other. ap (λ (a : LocalApic). a.irr) (part_of-with_other c (Lapic n) (Lapic m) v other) ∙ same m
  ] refl
  with_requests c _ v h same = same

  -- an outcome answers nothing and leaves the requests, where such values alone are written
  abbrev pub spared : Walk
  spared = of_relation (record {
    Good = λ c o. (o.log.answers ≡ []) × (SameRequests b c → SameRequests b o.board);
    Fit = λ c. Unit {0};
    May = λ c p v. HasRequests b p v;
    starts = λ a c ws fit. (refl, λ same. same);
    puts = λ p v c o fit may h. (h.0, λ same. h.1 (with_requests c p v may same));
    fits = λ p v c fit may. tt;
    joins = λ f c o fit h next. let k = next tt in ((λ i. h.0 i ++ k.0 i), λ same. k.1 (h.1 same));
  })

-- ---- plans that answer one status

-- an outcome answers a status alone, which, where it is without effect, is said of the targets and leaves the requests
pub record Says {A : Type 0} (b : Board) (targets : Targets) (o : Outcome A) : Type 0 where
  pub status : Status
  pub answers : o.log.answers ≡ Signal status ∷ []
  pub effect : is_without_effect status ≡ true → IsSaidOf b targets status × SameRequests b o.board

module _ (b : Board) (targets : Targets) {A B : Type 0} (f : A → Plan B) (m : Plan A) (c : Board) (ws : Wishes) where
  -- after the status the rest is spared
  pub says_before : Says b targets (run m c ws) → ((a : A) → Holds (spared b) (f a)) → Says b targets (run (m >>= f) c ws)
  says_before first next =
      let o = run m c ws in
      subst (λ (x : Outcome B). Says b targets x) (sym (run-bind f m c ws)) (record {
        status = first.status;
        answers = ap (λ l. o.log.answers ++ l) (next o.value o.board o.wishes tt).0 ∙ append-nil o.log.answers ∙ first.answers;
        effect = λ quiet. let here = first.effect quiet in (here.0, (next o.value o.board o.wishes tt).1 here.1);
      })

  -- before the status all is spared
  pub says_after : Holds (spared b) m → SameRequests b c → ((a : A) (d : Board) (vs : Wishes) → SameRequests b d → Says b targets (run (f a) d vs)) → Says b targets (run (m >>= f) c ws)
  says_after first same next =
      let o = run m c ws in
      let later = next o.value o.board o.wishes ((first c ws tt).1 same) in
      subst (λ (x : Outcome B). Says b targets x) (sym (run-bind f m c ws)) (record {
        status = later.status;
        answers = ap (λ l. l ++ (run (f o.value) o.board o.wishes).log.answers) (first c ws tt).0 ∙ later.answers;
        effect = later.effect;
      })

-- ---- what a status says

-- a pin that is raised is not lowered
abbrev is_lowered : PinOutcome → Bool
is_lowered PinOutcome.Lowered = true
is_lowered _ = false

chip_never_lowers : (c : Chip) (pin : ℕ) → is_lowered (chip_outcome c pin true) ≡ false
chip_never_lowers c pin = grind arith

module _ (b : Board) (targets : Targets) where
  pic_stood : (pin : Option ℕ) → targets.pic ≡ pin → Some stood_already ≡ pic_answer_on b pin → PicStood b targets
  pic_stood None there says = absurd (true≢false (ap is_some says))
  pic_stood (Some pin) there says = of_outcome (pin_outcome (pair_of b.pic) pin true) refl (sym (ap stands says))
    where
      of_outcome : (o : PinOutcome) → pin_outcome (pair_of b.pic) pin true ≡ o → stands (Some (pic_answer o)) ≡ true → PicStood b targets
      of_outcome PinOutcome.New is h = absurd (true≢false (sym h))
      of_outcome PinOutcome.Stood is h = let found = pin_stood b.pic pin (ap has_stood is) in record { pin = pin; there = there; unmasked = found.0; stood = found.1 }
      of_outcome PinOutcome.Masked is h = absurd (true≢false (sym h))
      of_outcome PinOutcome.Lowered is h = absurd (true≢false (sym (ap is_lowered is) ∙ (grind arith)))

  -- what the other target's answer says, the request standing at these processors
  abbrev pub OtherSays : Option TargetAnswer → Numbers → Type 0
  OtherSays None stood = None ≡ other_answer_on b b.shape.cpus targets.ioapic targets.msi
  OtherSays (Some newly_taken) stood = Unit {0}
  OtherSays (Some stood_already) stood = IoapicStood b targets ⊎ RequestStood b targets stood
  OtherSays (Some (no_effect cause)) stood = Some (no_effect cause) ≡ other_answer_on b b.shape.cpus targets.ioapic targets.msi

  pub said_of : (pic other : Option TargetAnswer) (sent : Sent) → pic ≡ pic_answer_on b targets.pic → OtherSays other sent.stood → is_without_effect (status_of pic other sent) ≡ true → IsSaidOf b targets (status_of pic other sent)
  said_of (Some newly_taken) other sent is says quiet = absurd (true≢false (sym quiet))
  said_of _ (Some newly_taken) sent is says quiet = absurd (true≢false (sym quiet))
  said_of (Some stood_already) other sent is says quiet = inl (pic_stood targets.pic refl is)
  said_of pic (Some stood_already) sent is says quiet = inr says
  said_of pic other sent is says quiet = ignored_for b targets pic other is says refl refl

-- ---- what a local APIC keeps of its requests

-- what is there already is not put in
insert_there : (s : Numbers) (k : ℕ) → contains s k ≡ true → insert s k ≡ s
insert_there s k there = same_set nat_cmp_total nat_cmp-IsAntisymmetric _ _ (λ q. contains-insert_number s k q ∙ at q)
  where
    at : (q : ℕ) → (nat_eq q k || contains s q) ≡ contains s q
    at q = grind arith

by_tests : (a : LocalApic) (m : Message) (nmi enabled low : Bool) → (if nmi then a.nmi else contains a.irr m.vector) ≡ true
    → (if nmi then record a { nmi = true } else if not enabled then a else if low then with_error a 6 else with_request a m).irr ≡ a.irr
by_tests a m true enabled low has = refl
by_tests a m false false low has = refl
by_tests a m false true true has = refl
by_tests a m false true false has = insert_there a.irr m.vector has

-- nor does a message with an illegal vector
illegal_stays : (a : LocalApic) (m : Message) → is_illegal m ≡ true → (accepted a m).irr ≡ a.irr
illegal_stays a m h1 = grind arith

-- ---- a sending

-- a set that may be reached has a member
someone_reached : (mode : Mode) (p : Processor) (ps : List Processor) (s : Numbers) → MayReach mode (p ∷ ps) s → (k : ℕ) × (contains s k ≡ true)
someone_reached mode p ps s may = of_mode mode may
  where
    first : s ≡ numbers_of (p ∷ ps) → (k : ℕ) × (contains s k ≡ true)
    first is = (p.number, ap (λ t. contains t p.number) is ∙ contains-insert_number (numbers_of ps) p.number p.number ∙ itself p.number (contains (numbers_of ps) p.number))
      where
        itself : (n : ℕ) (t : Bool) → (nat_eq n n || t) ≡ true
        itself n t = grind arith

    of_mode : (mode : Mode) → MayReach mode (p ∷ ps) s → (k : ℕ) × (contains s k ≡ true)
    of_mode Lowest (k, q, below, at, one) = (q.number, ap (λ t. contains t q.number) one.alone ∙ contains-insert_number empty q.number q.number ∙ itself q.number (contains empty q.number))
      where
        itself : (n : ℕ) (t : Bool) → (nat_eq n n || t) ≡ true
        itself n t = grind arith
    of_mode _ is = first is

-- an empty set has no member
no_member : (s : Numbers) (k : ℕ) → is_empty s ≡ true → contains s k ≡ false
no_member s k none = let e : s ≡ empty = empty_of_len s (grind (none, arith)) in ap (λ t. contains t k) e ∙ contains-empty nat_cmp k

module _ (b : Board) (stand : HasProcessors b b.shape.cpus) (targets : Targets) (u : TickState) (v : PicPart) (w : IoapicPart) where
  -- the board, but for the tick, the pair and the I/O APIC
  abbrev pub d : Board
  d = record b { tick = u; pic = v; ioapic = w }

  stand_still : HasProcessors d b.shape.cpus
  stand_still = record { places = stand.places; numbers = stand.numbers }

  abbrev about : About
  about = the_reply (pic_answer_on b targets.pic)

  -- a target answers without a message sent
  pub shown_says : {A : Type 0} (a : A) (other : Option TargetAnswer) (ws : Wishes) → OtherSays b targets other empty → Says b targets (run (answer (Signal (status_of (pic_answer_on b targets.pic) other nobody)) (done a)) d ws)
  shown_says a other ws says = record {
    status = status_of (pic_answer_on b targets.pic) other nobody;
    answers = refl;
    effect = λ quiet. (said_of b targets (pic_answer_on b targets.pic) other nobody refl says quiet, λ n. refl);
  }

  module _ (message : Message) (sent : message_on b targets.ioapic targets.msi ≡ Some message) (answers : other_answer_on b b.shape.cpus targets.ioapic targets.msi ≡ Some (message_answer_on b b.shape.cpus message)) (ws : Wishes) where
    abbrev looked : List Processor
    looked = processors_on d (reached_by message None b.shape.cpus)

    abbrev f : List Processor → Plan TargetAnswer
    f processors = send_to message None about processors (named_by message None processors)

    -- the cause that is told is the one by the rule
    cause_says : (cause : Cause) → message_answer_on b b.shape.cpus message ≡ no_effect cause → OtherSays b targets (Some (no_effect cause)) empty
    cause_says cause is = sym (answers ∙ ap Some is)

    named_is : named_on d b.shape.cpus message None ≡ named_on b b.shape.cpus message None
    named_is = ap (named_by message None) (grind arith)

    -- the illegal vector is recorded alone
    refused_spares : (takers : Numbers) (ns : List ℕ) → is_illegal message ≡ true → Holds (spared b) (accept_each message takers (processors_on d ns))
    refused_spares takers [] illegal = λ c ws fit. (refl, λ same. same)
    refused_spares takers (n ∷ ns) illegal =
        let v = accepted (part_of b (Lapic n)) message in
        let rest = accept_each message takers (processors_on d ns) in
        either (spared b) (contains takers n) (put (Lapic n) v rest) rest
        (λ c ws fit. (spared b).puts (Lapic n) v rest c ws fit (illegal_stays (part_of b (Lapic n)) message illegal) (λ fit. refused_spares takers ns illegal (with_part c (Lapic n) v) ws fit))
        (refused_spares takers ns illegal)

    -- a message that was sent
    module _ (p : Processor) (ps : List Processor) (taken : is_taken message.mode ≡ true) (named : named_on d b.shape.cpus message None ≡ p ∷ ps) (legal : is_illegal message ≡ false) where
      sending_says : {s : Numbers} (o : Outcome TargetAnswer) → MayReach message.mode (named_on d b.shape.cpus message None) s → IsSending message None about d s o → Says b targets o
      sending_says {s} o may is = record {
        status = status_of (pic_answer_on b targets.pic) (Some (message_answer is.sent)) is.sent;
        answers = is.answers;
        effect = by_new (is_empty is.sent.new) refl;
      }
        where
          member : (k : ℕ) × (contains s k ≡ true)
          member = someone_reached message.mode p ps s (subst (λ l. MayReach message.mode l s) named may)

          -- where nobody newly took it, each one that it reached had the request
          had : is_empty is.sent.new ≡ true → (k : ℕ) → contains s k ≡ true → has_request_on b message k ≡ true
          had h1 k h2 = grind (arith, no_member)

          requests : is_empty is.sent.new ≡ true → SameRequests b o.board
          requests none n = ap (λ (a : LocalApic). a.irr) (is.after n) ∙ (elim (contains s n) as (λ t. contains s n ≡ t → (if t then accepted (part_of b (Lapic n)) message else part_of b (Lapic n)).irr ≡ (part_of b (Lapic n)).irr) [
            | true ↦ λ reached. (by_tests (part_of b (Lapic n)) message (is_nmi message.mode) (is_enabled (part_of b (Lapic n))) (nat_lt message.vector 16) (had none n reached))
            | false ↦ λ _. refl
          ] refl)

          stood : is_empty is.sent.new ≡ true → RequestStood b targets is.sent.stood
          stood none = record {
            message = message;
            sent = sent;
            processor = member.0;
            reached = is.stood member.0 ∙ ap (λ t. t && has_request_on b message member.0) member.1 ∙ had none member.0 member.1;
            had = had none member.0 member.1;
          }

          by_new : (t : Bool) → is_empty is.sent.new ≡ t → is_without_effect (status_of (pic_answer_on b targets.pic) (Some (if t then stood_already else newly_taken)) is.sent) ≡ true → IsSaidOf b targets (status_of (pic_answer_on b targets.pic) (Some (if t then stood_already else newly_taken)) is.sent) × SameRequests b o.board
          by_new true none quiet = (said_of b targets (pic_answer_on b targets.pic) (Some stood_already) is.sent refl (inr (stood none)) quiet, requests none)
          by_new false some quiet = absurd (true≢false (sym quiet ∙ (grind arith)))

      delivered_says : Says b targets (run (send b.shape.cpus message None about) d ws)
      delivered_says = let only_so = (wishes_reach_exactly b.shape.cpus message None about d stand_still (let some : 0 < length (p ∷ ps) = grind arith in record { taken = taken; someone = subst (λ l. 0 < length l) (sym named) some; legal = legal })).only ws in sending_says (run (send b.shape.cpus message None about) d ws) only_so.1 only_so.2

    by_mode : is_taken message.mode ≡ true → message_answer_on b b.shape.cpus message ≡ message_answer_by message (named_on b b.shape.cpus message None)
    by_mode taken = ap (λ t. if not t then no_effect BadMode else message_answer_by message (named_on b b.shape.cpus message None)) taken

    -- whatever processors are named
    named_says : is_taken message.mode ≡ true → (seen all : List Processor) → named_by message None looked ≡ seen → named_on d b.shape.cpus message None ≡ all → has_any seen ≡ has_any all → Says b targets (run (send b.shape.cpus message None about) d ws)
    named_says taken [] [] seen_is all_is alike =
        subst (λ (o : Outcome TargetAnswer). Says b targets o) (sym (grind (arith, after_seen, looked, taken, seen_is)))
        (shown_says (no_effect NoProcessor) (Some (no_effect NoProcessor)) ws (cause_says NoProcessor (by_mode taken ∙ ap (message_answer_by message) (sym named_is ∙ all_is))))
    named_says taken [] (p ∷ ps) seen_is all_is alike = absurd (true≢false (sym alike))
    named_says taken (q ∷ qs) [] seen_is all_is alike = absurd (true≢false alike)
    named_says taken (q ∷ qs) (p ∷ ps) seen_is all_is alike = of_vector (is_illegal message) refl
      where
        of_vector : (t : Bool) → is_illegal message ≡ t → Says b targets (run (send b.shape.cpus message None about) d ws)
        of_vector false legal = delivered_says p ps taken all_is legal
        of_vector true illegal =
            subst (λ (o : Outcome TargetAnswer). Says b targets o)
            (sym ((grind (arith, after_seen, looked, taken, seen_is)) ∙ ap (λ t. run (if t then refuse_vector message about looked (q ∷ qs) else deliver message None about looked (q ∷ qs)) d ws) illegal))
            (says_after b targets (λ _. ignore about BadVector) (accept_each message (numbers_of (q ∷ qs)) looked) d ws (refused_spares (numbers_of (q ∷ qs)) (reached_by message None b.shape.cpus) illegal) (λ n. refl)
            (λ _ c vs same. record {
              status = status_of (pic_answer_on b targets.pic) (Some (no_effect BadVector)) nobody;
              answers = refl;
              effect = λ quiet. (said_of b targets (pic_answer_on b targets.pic) (Some (no_effect BadVector)) nobody refl (cause_says BadVector (by_mode taken ∙ ap (message_answer_by message) (sym named_is ∙ all_is) ∙ ap (λ t. if t then no_effect BadVector else newly_taken) illegal)) quiet, same);
            }))

    -- a sending whose status is the reply
    pub send_says : Says b targets (run (send b.shape.cpus message None about) d ws)
    send_says = of_mode (is_taken message.mode) refl
      where
        of_mode : (t : Bool) → is_taken message.mode ≡ t → Says b targets (run (send b.shape.cpus message None about) d ws)
        of_mode true taken = named_says taken (named_by message None looked) (named_on d b.shape.cpus message None) refl refl (named_alike d b.shape.cpus message stand_still)
        of_mode false other =
            subst (λ (o : Outcome TargetAnswer). Says b targets o) (sym (ap (λ t. run (if not t then ignore about BadMode else (see_each (reached_by message None b.shape.cpus) >>= f)) d ws) other))
            (shown_says (no_effect BadMode) (Some (no_effect BadMode)) ws (cause_says BadMode (ap (λ t. if not t then no_effect BadMode else message_answer_by message (named_on b b.shape.cpus message None)) other)))
