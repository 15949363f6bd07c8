-- A sending loses no request, reaches a set that it may reach, and leaves its request at each processor of it.
use Rattle.board_laws.proofs.Basics.{Shows, ignored, ◌≡◌, ℕ, ◌<◌, ◌≤◌, zero, suc, Bool, true, false, All, cond, ◌+◌, not, nat_eq, nat_lt, if◌then◌else◌, ◌⊎◌, inl, inr, filter, List, [], ◌∷◌, ◌++◌, map, length, refl, sym, ap, subst, ◌∙◌, arith, length-append, Option, All-nil, Numbers, Message, Lapic, Cause, NoProcessor, BadVector, BadMode, Shorthand, LocalApic, is_taken, accepted, Board, part_of, with_part, Sent, TargetAnswer, message_answer, About, the_reply, Plan, done, put, ◌>>=◌, ◌>>◌, Sending, Wishes, next_wish, later_wishes, run, reached, Processor, does_hear, named_by, chosen_of, numbers_of, MayReach, show, ignore, numbers_below, only, reached_by, see_each, is_illegal, parted, accept_each, deliver, refuse_vector, send_to, send, processors_on, named_on, IsSending, All-cons, filter-append, frame_stays, is_addressed, is_named_cpu as is_named, Each, both_hold, each_passing, each_chosen, each_weaker, told_of, after_seen, of_reached, all_reached, wishes_reach_exactly, sendings_of, accepted_number, contains}
use Rattle.board_laws.proofs.PendingPlans.{logged, has, KeepsRequests, accepted_keeps, accepted_has, at, Fine, after_put, IsMade, quiet, GoodRun, Safe, safe_put, same_run, safe, seen_sendings}

first_of_one : {X : Type 0} (x y : X) → x ∷ [] ≡ y ∷ [] → x ≡ y
first_of_one x y e = cc

-- ---- somebody is named

module _ (b : Board) (p : Processor → Bool) where
  abbrev on : ℕ → Processor
  on n = record { number = n; apic = part_of b (Lapic n) }

  abbrev Names : List ℕ → Type 0
  Names ns = 0 < length (filter p (processors_on b ns))

  names_more : (xs ys : List ℕ) → filter p (processors_on b (xs ++ ys)) ≡ filter p (processors_on b xs) ++ filter p (processors_on b ys)
  names_more xs ys = ap (filter p) (each xs) ∙ filter-append p (processors_on b xs) (processors_on b ys)
    where
      each : (xs : List ℕ) → processors_on b (xs ++ ys) ≡ processors_on b xs ++ processors_on b ys
      each [] = refl
      each (n ∷ xs) = ap (λ l. on n ∷ l) (each xs)

  names_one : (k cpus : ℕ) → k < cpus → p (on k) ≡ true → Names (numbers_below cpus)
  names_one k zero below passes = absurd (omega (below, arith))
  names_one k (suc c) below passes = subst (λ (l : List Processor). 0 < length l) (sym (names_more (numbers_below c) (c ∷ [])))
      (subst (λ (n : ℕ). 0 < n) (sym (length-append (filter p (processors_on b (numbers_below c))) (filter p (processors_on b (c ∷ []))))) (from (λ less. names_one k c less passes) (nat_eq k c) refl))
    where
      from : (k < c → Names (numbers_below c)) → (t : Bool) → nat_eq k c ≡ t → 0 < length (filter p (processors_on b (numbers_below c))) + length (filter p (processors_on b (c ∷ [])))
      from h1 t h2 = grind arith

  names_alone : (d cpus : ℕ) → Names (only d cpus) → Names (numbers_below cpus)
  names_alone d cpus = elim (nat_lt d cpus) as (λ t. nat_lt d cpus ≡ t → Names (if t then d ∷ [] else []) → Names (numbers_below cpus)) [
    | true ↦ λ is some. let below : d < cpus = grind (is, arith) in of_one below (p (on d)) refl some
    | false ↦ λ _ none. absurd (omega (none, arith))
  ] refl
    where
      of_one : d < cpus → (t : Bool) → p (on d) ≡ t → 0 < length (cond t (on d ∷ []) []) → Names (numbers_below cpus)
      of_one below true passes some = names_one d cpus below passes
      of_one below false fails none = absurd (omega (none, arith))

-- processors that were looked at are as the board has them
as_seen : (b : Board) (ns : List ℕ) → Each (λ p. p.apic ≡ part_of b (Lapic p.number)) (processors_on b ns)
unfolding Each
as_seen b [] = tt
as_seen b (n ∷ ns) = (refl, as_seen b ns)

-- ---- a sending

module _ (cpus : ℕ) where
  show_safe : (about : About) (other : Option TargetAnswer) → Safe cpus (show about other)
  show_safe (the_reply pic) other = λ b ws fine. quiet cpus b.lapics fine
  show_safe _ other = λ b ws fine. quiet cpus b.lapics fine

  ignore_safe : (about : About) (cause : Cause) → Safe cpus (ignore about cause)
  ignore_safe about cause = ignored (safe cpus) about (show_safe about) cause

  module _ (message : Message) (takers : Numbers) (b : Board) (numbers : (n : ℕ) → (part_of b (Lapic n)).number ≡ n) where
    -- a local APIC is as it was, or has accepted the message
    abbrev MayAccept : ℕ → LocalApic → Type 0
    MayAccept k a = (a ≡ part_of b (Lapic k)) ⊎ (a ≡ accepted (part_of b (Lapic k)) message)

    keeps_either : (n : ℕ) (a : LocalApic) → MayAccept n a → KeepsRequests a (accepted (part_of b (Lapic n)) message)
    keeps_either n a (inl e) = subst (λ (c : LocalApic). KeepsRequests c (accepted (part_of b (Lapic n)) message)) (sym e) (accepted_keeps (part_of b (Lapic n)) message)
    keeps_either n a (inr e) = subst (λ (c : LocalApic). KeepsRequests c (accepted (part_of b (Lapic n)) message)) (sym e) (λ _ h. h)

    accept_good : {A : Type 0} (rest : Plan A) → Safe cpus rest → (ns : List ℕ) (c : Board) (ws : Wishes) → Fine cpus c.lapics → ((k : ℕ) → MayAccept k (part_of c (Lapic k))) → GoodRun cpus (accept_each message takers (processors_on b ns) >> rest) c ws
    accept_good rest h [] c ws fine each = h c ws fine
    accept_good rest h (n ∷ ns) c ws fine each =
        let v = accepted (part_of b (Lapic n)) message in
        elim (contains takers n) as (λ t. GoodRun cpus ((if t then put (Lapic n) (accepted (part_of b (Lapic n)) message) (accept_each message takers (processors_on b ns)) else accept_each message takers (processors_on b ns)) >> rest) c ws) [
          | true ↦ safe_put cpus (Lapic n) v (accept_each message takers (processors_on b ns) >> rest) c ws fine ((accepted_number (part_of b (Lapic n)) message ∙ numbers n), keeps_either n (part_of c (Lapic n)) (each n))
              (λ fits. accept_good rest h ns (with_part c (Lapic n) v) ws fits (after_put MayAccept c n v (inr refl) each))
          | false ↦ accept_good rest h ns c ws fine each
        ]

    none_made : {A : Type 0} (a : A) (ns : List ℕ) (c : Board) (ws : Wishes) → sendings_of (accept_each message takers (processors_on b ns) >> done a) c ws ≡ []
    none_made a [] c ws = refl
    none_made a (n ∷ ns) c ws = grind (arith, none_made a ns, none_made a ns c ws)

  module _ (message : Message) (from : Option (ℕ × Shorthand)) (about : About) (b : Board) (ws : Wishes) (fine : Fine cpus b.lapics) where
    abbrev ns : List ℕ
    ns = reached_by message from cpus

    abbrev seen : List Processor
    seen = processors_on b ns

    abbrev f : List Processor → Plan TargetAnswer
    f processors = send_to message from about processors (named_by message from processors)

    abbrev GoodSend : Type 0
    GoodSend = GoodRun cpus (send cpus message from about) b ws

    -- a message of a mode that is taken is sent to those that are looked at
    of_seen : is_taken message.mode ≡ true → GoodRun cpus (send_to message from about seen (named_by message from seen)) b ws → GoodSend
    of_seen taken good = subst (λ (t : Bool). GoodRun cpus (if not t then ignore about BadMode else (see_each ns >>= f)) b ws) (sym taken)
        (same_run cpus b.lapics (ap (λ o. o.board.lapics) (after_seen f b ns ws)) (seen_sendings f b ns ws) good)

    -- of a processor that is named: it hears, and it is as the board has it
    abbrev Hears : Processor → Type 0
    Hears p = does_hear message.mode (part_of b (Lapic p.number)) ≡ true

    hears_each : Each Hears (named_by message from seen)
    hears_each = each_weaker (λ p. (p.apic ≡ part_of b (Lapic p.number)) × (is_named message from p ≡ true)) Hears
        (λ p h. ap (does_hear message.mode) (sym h.0) ∙ (both_hold (is_addressed message from p) (does_hear message.mode p.apic) h.1).1)
        (named_by message from seen)
        (each_passing (λ p. p.apic ≡ part_of b (Lapic p.number)) (is_named message from) seen (as_seen b ns))

    module _ (q : Processor) (qs : List Processor) (named : named_by message from seen ≡ q ∷ qs) (taken : is_taken message.mode ≡ true) (legal : is_illegal message ≡ false) where
      someone : 0 < length (named_on b cpus message from)
      someone = of_reached message cpus (λ l. Names b (is_named message from) l → Names b (is_named message from) (numbers_below cpus)) (λ h. h) (λ d. names_alone b (is_named message from) d cpus) from
          (subst (λ (l : List Processor). 0 < length l) (sym named) (omega arith))

      -- who is reached, in two parts
      abbrev parts : Sent
      parts = parted message (chosen_of message.mode (next_wish ws) (q ∷ qs))

      abbrev made : Sending
      made = record { heading = record { message = message; from = from }; sent = parts }

      one_sending : sendings_of (send cpus message from about) b ws ≡ (b, made) ∷ []
      one_sending =
          ap (λ t. sendings_of (if not t then ignore about BadMode else (see_each ns >>= f)) b ws) taken
          ∙ seen_sendings f b ns ws
          ∙ ap (λ l. sendings_of (send_to message from about seen l) b ws) named
          ∙ ap (λ t. sendings_of (if t then refuse_vector message about seen (q ∷ qs) else deliver message from about seen (q ∷ qs)) b ws) legal
          ∙ ap (λ l. (b, made) ∷ l) (none_made message (reached parts) b fine.numbers (message_answer parts) ns b (later_wishes ws))

      good_for : (s : Numbers) → MayReach message.mode (named_on b cpus message from) s → IsSending message from about b s (run (send cpus message from about) b ws) → GoodSend
      good_for s may is = record {
        stands = record { places = subst (λ (l : ℕ). cpus ≤ l) (sym (frame_stays (send cpus message from about) b ws).lapics) fine.places; numbers = λ n. after n (λ a. a.number ≡ n) (fine.numbers n) (accepted_number (part_of b (Lapic n)) message ∙ fine.numbers n) };
        keeps = λ n. after n (λ a. KeepsRequests (part_of b (Lapic n)) a) (λ _ h. h) (accepted_keeps (part_of b (Lapic n)) message);
        sent = subst (All (λ (x : Board × Sending). IsMade cpus final x.0 x.1)) (sym one_sending) (All-cons (λ (x : Board × Sending). IsMade cpus final x.0 x.1) (b, made) [] the_one (All-nil (λ (x : Board × Sending). IsMade cpus final x.0 x.1)));
      }
        where
          final : List LocalApic
          final = (run (send cpus message from about) b ws).board.lapics

          after : (n : ℕ) (P : LocalApic → Type 0) → P (part_of b (Lapic n)) → P (accepted (part_of b (Lapic n)) message) → P (at final n)
          after n P same other = subst P (sym (is.after n)) (elim (contains s n) as (λ t. P (if t then accepted (part_of b (Lapic n)) message else part_of b (Lapic n))) [ true ↦ other | false ↦ same ])

          same_sent : parts ≡ is.sent
          same_sent = ap (λ (x : Sending). x.sent) (first_of_one made (record { heading = record { message = message; from = from }; sent = is.sent })
              (sym (ap (map (λ (x : Board × Sending). x.1)) one_sending) ∙ logged (send cpus message from about) b ws ∙ is.once))

          all_of : reached parts ≡ s
          all_of = ap reached same_sent ∙ is.reaches

          hears : (n : ℕ) → contains (reached parts) n ≡ true → does_hear message.mode (part_of b (Lapic n)) ≡ true
          hears n there = told_of (λ n. does_hear message.mode (part_of b (Lapic n))) (chosen_of message.mode (next_wish ws) (q ∷ qs))
              (each_chosen Hears message.mode (next_wish ws) (q ∷ qs) (subst (Each Hears) named hears_each))
              n (ap (λ t. contains t n) (sym (all_reached message (chosen_of message.mode (next_wish ws) (q ∷ qs)))) ∙ there)

          the_one : IsMade cpus final b made
          the_one = record {
            chosen = subst (MayReach message.mode (named_on b cpus message from)) (sym all_of) may;
            pending = λ n there.
                ap (λ a. has a message) (is.after n)
                ∙ ap (λ t. has (if t then accepted (part_of b (Lapic n)) message else part_of b (Lapic n)) message) (ap (λ t. contains t n) (sym all_of) ∙ there)
                ∙ accepted_has (part_of b (Lapic n)) message (hears n there) legal;
          }

      good_legal : GoodSend
      good_legal = of_reach ((wishes_reach_exactly cpus message from about b (record { places = fine.places; numbers = λ n _. fine.numbers n }) (record { taken = taken; someone = someone; legal = legal })).only ws)
        where
          of_reach : ((s : Numbers) × MayReach message.mode (named_on b cpus message from) s × IsSending message from about b s (run (send cpus message from about) b ws)) → GoodSend
          of_reach (s, may, is) = good_for s may is

    good_send : GoodSend
    good_send = of_mode (is_taken message.mode) refl
      where
        of_vector : (q : Processor) (qs : List Processor) → named_by message from seen ≡ q ∷ qs → is_taken message.mode ≡ true → (t : Bool) → is_illegal message ≡ t → GoodSend
        of_vector q qs named taken false legal = good_legal q qs named taken legal
        of_vector q qs named taken true illegal = of_seen taken (subst (λ (l : List Processor). GoodRun cpus (send_to message from about seen l) b ws) (sym named)
            (subst (λ (t : Bool). GoodRun cpus (if t then refuse_vector message about seen (q ∷ qs) else deliver message from about seen (q ∷ qs)) b ws) (sym illegal)
            (accept_good message (numbers_of (q ∷ qs)) b fine.numbers (ignore about BadVector) (ignore_safe about BadVector) ns b ws fine (λ k. inl refl))))

        of_named : (l : List Processor) → named_by message from seen ≡ l → is_taken message.mode ≡ true → GoodSend
        of_named [] named taken = of_seen taken (subst (λ (l : List Processor). GoodRun cpus (send_to message from about seen l) b ws) (sym named) (ignore_safe about NoProcessor b ws fine))
        of_named (q ∷ qs) named taken = of_vector q qs named taken (is_illegal message) refl

        of_mode : (t : Bool) → is_taken message.mode ≡ t → GoodSend
        of_mode true taken = of_named (named_by message from seen) refl taken
        of_mode false taken = subst (λ (t : Bool). GoodRun cpus (if not t then ignore about BadMode else (see_each ns >>= f)) b ws) (sym taken) (ignore_safe about BadMode b ws fine)

  pub shows : (about : About) → Shows (safe cpus) cpus about
  shows about = record { shown = show_safe about; sends = λ message from b ws fine. good_send message from about b ws fine }
