-- A sending reaches exactly the sets that may be reached.
use Rattle.std.proofs.Common.{◌≡◌, ℕ, zero, suc, ◌<◌, ◌≤◌, Bool, true, false, cond, not, ◌&&◌, ◌||◌, nat_eq, nat_lt, if◌then◌else◌, filter, List, [], ◌∷◌, ◌++◌, length, slice_get, slice_set, unwrap_or, refl, sym, ap, ◌∙◌, subst, append-nil, true≢false, arith, Some, None}
use Rattle.std.specs.declared.option.Option.{Option}
use Rattle.std.specs.FinSet as set
use Rattle.std.specs.List.{list_any}
use Rattle.std.specs.FinSet.{contains-empty, contains-union, same_set, nat_cmp-IsAntisymmetric}
use Rattle.std.specs.Ordering.{nat_cmp}
use Rattle.std.specs.Cmp.{nat_cmp_total}
use Rattle.irq_bits.specs.Members.{Numbers}
use Rattle.irq_bits.specs.SetLemmas.{contains-insert_number}
use Rattle.irq_base.specs.declared.message.Message.{Message}
use Rattle.irq_base.specs.declared.shape.Part.TheVariants.{Lapic}
use Rattle.irq_base.specs.declared.status.Cause.TheVariants.{Mode as BadMode}
use Rattle.lapic.specs.declared.outcome.Shorthand.{Shorthand}
use Rattle.lapic.specs.declared.outcome.Shorthand.TheVariants.{Field, OwnOnly, All, Others}
use Rattle.lapic.specs.Messages.{accepted, dest_view}
use Rattle.dest_match.specs.Match.{does_match}
use Rattle.dest_match.specs.declared.destination.TheConstants.{BROADCAST}
use Rattle.board_model.specs.Board.{Board, part_of, with_part}
use Rattle.board_model.specs.Statuses.{TargetAnswer, message_answer}
use Rattle.board_model.specs.Plan.{About, events_of, answers_of, Plan, done, put, ◌>>=◌, ◌>>◌}
use Rattle.board_model.specs.Run.{Wishes, Outcome, silence, next_wish, later_wishes, run, then_run}
use Rattle.board_model.specs.Following.{reached}
use Rattle.board_model.proofs.Lens.{part_of-with_other, lapics-with}
use Rattle.board_model.proofs.Sequence.{run-bind}
use Rattle.lapic.specs.Registers.{power_on}
use Rattle.board_raise.specs.Named.{Processor, does_hear, is_named, named_by, chosen_of, numbers_of}
use Rattle.board_raise.specs.Send.{ignore, numbers_below, only, reached_by, see_each, has_request, parted, accept_each, deliver, refuse_vector, send_to, send}
use Rattle.board_raise.specs.Laws.{processors_on, named_on, HasProcessors, IsSent, IsSending, ChoosesExactly, WishesReachExactly}
use Rattle.board_raise.proofs.Choice.{wishes_choose_exactly}
use Rattle.board_raise.proofs.Each.{Each, each_filtered, each_chosen, each_weaker, told, told_of}

-- ---- the processors that are looked at

abbrev pub seen : Board → List Processor → Wishes → Outcome (List Processor)
seen b ps ws = record { value = ps; log = silence; board = b; wishes = ws }

pub seen_each : (b : Board) (ns : List ℕ) (ws : Wishes) → run (see_each ns) b ws ≡ seen b (processors_on b ns) ws
seen_each b [] ws = refl
seen_each b (n ∷ ns) ws =
    let f : List Processor → Plan (List Processor) = λ rest. done (record { number = n; apic = part_of b (Lapic n) } ∷ rest)
    in run-bind f (see_each ns) b ws ∙ ap (λ o. then_run o f) (seen_each b ns ws)

pub after_seen : {A : Type 0} (f : List Processor → Plan A) (b : Board) (ns : List ℕ) (ws : Wishes) → run (see_each ns >>= f) b ws ≡ run (f (processors_on b ns)) b ws
after_seen f b ns ws = run-bind f (see_each ns) b ws ∙ ap (λ o. then_run o f) (seen_each b ns ws)

-- ---- nobody is named who is not looked at

module _ (b : Board) where
  processors-append : (xs ys : List ℕ) → processors_on b (xs ++ ys) ≡ processors_on b xs ++ processors_on b ys
  processors-append [] ys = refl
  processors-append (n ∷ xs) ys = ap (λ l. record { number = n; apic = part_of b (Lapic n) } ∷ l) (processors-append xs ys)

  module _ (p : Processor → Bool) where
    filter-append : (xs ys : List Processor) → filter p (xs ++ ys) ≡ filter p xs ++ filter p ys
    filter-append [] ys = refl
    filter-append (x ∷ xs) ys = elim (p x) as (λ t. cond t (x ∷ filter p (xs ++ ys)) (filter p (xs ++ ys)) ≡ cond t (x ∷ filter p xs) (filter p xs) ++ filter p ys) [
      | true ↦ ap (λ l. x ∷ l) (filter-append xs ys)
      | false ↦ filter-append xs ys
    ]

    abbrev on : ℕ → Processor
    on n = record { number = n; apic = part_of b (Lapic n) }

    abbrev passing : List ℕ → List Processor
    passing ns = filter p (processors_on b ns)

    one_more : (c : ℕ) → passing (numbers_below (suc c)) ≡ passing (numbers_below c) ++ passing (c ∷ [])
    one_more c = ap (filter p) (processors-append (numbers_below c) (c ∷ [])) ∙ filter-append (processors_on b (numbers_below c)) (processors_on b (c ∷ []))

    only_below : (d c : ℕ) → nat_lt d c ≡ true → only d c ≡ d ∷ []
    only_below d c h = ap (λ t. if t then d ∷ [] else []) h

    only_above : (d c : ℕ) → nat_lt d c ≡ false → only d c ≡ []
    only_above d c h = ap (λ t. if t then d ∷ [] else []) h

    fails_alone : (n : ℕ) → p (on n) ≡ false → passing (n ∷ []) ≡ []
    fails_alone n fails = ap (λ t. cond t (on n ∷ []) []) fails

    -- where the last one does not pass, whether it is looked at or not
    step_out : (d c : ℕ) → p (on c) ≡ false → passing (only d (suc c)) ≡ passing (only d c)
    step_out d c fails = elim (nat_lt d c) as (λ t. nat_lt d c ≡ t → passing (only d (suc c)) ≡ passing (only d c)) [
      | true ↦ λ below. let later : nat_lt d (suc c) ≡ true = grind (below, arith) in ap passing (only_below d (suc c) later ∙ sym (only_below d c below))
      | false ↦ λ above. elim (nat_lt d (suc c)) as (λ t. nat_lt d (suc c) ≡ t → passing (only d (suc c)) ≡ passing (only d c)) [
        | true ↦ λ later. let same : d ≡ c = grind (above, later, arith) in
            ap passing (only_below d (suc c) later) ∙ ap (λ n. passing (n ∷ [])) same ∙ fails_alone c fails ∙ sym (ap passing (only_above d c above))
        | false ↦ λ later. ap passing (only_above d (suc c) later ∙ sym (only_above d c above))
      ] refl
    ] refl

    -- where no other number passes, it is enough to look at one
    one_enough : (d cpus : ℕ) → ((n : ℕ) → n < cpus → p (on n) ≡ true → n ≡ d) → passing (only d cpus) ≡ passing (numbers_below cpus)
    one_enough d zero sole = let above : nat_lt d 0 ≡ false = grind arith in ap passing (only_above d 0 above)
    one_enough d (suc c) sole = elim (p (on c)) as (λ t. p (on c) ≡ t → passing (only d (suc c)) ≡ passing (numbers_below (suc c))) [
      | true ↦ λ passes.
          let last : c < suc c = omega arith in
          let same : c ≡ d = sole c last passes in
          let later : nat_lt d (suc c) ≡ true = grind (same, arith) in
          let above : nat_lt d c ≡ false = grind (same, arith) in
          let earlier : passing (only d c) ≡ passing (numbers_below c) = one_enough d c (λ n below. sole n (omega (below, arith))) in
          ap passing (only_below d (suc c) later)
          ∙ ap (λ n. passing (n ∷ [])) (sym same)
          ∙ ap (λ l. l ++ passing (c ∷ [])) (sym (ap passing (only_above d c above)) ∙ earlier)
          ∙ sym (one_more c)
      | false ↦ λ fails.
          let earlier : passing (only d c) ≡ passing (numbers_below c) = one_enough d c (λ n below. sole n (omega (below, arith))) in
          step_out d c fails ∙ earlier ∙ sym (append-nil (passing (numbers_below c))) ∙ ap (λ l. passing (numbers_below c) ++ l) (sym (fails_alone c fails)) ∙ sym (one_more c)
    ] refl

-- a physical destination that is matched is the number
matched : (logical matches hears : Bool) (d n : ℕ) → logical ≡ false → nat_eq d BROADCAST ≡ false → ((if logical then matches else (nat_eq d BROADCAST || nat_eq d n)) && hears) ≡ true → n ≡ d
matched logical matches hears d n physical single h = grind (physical, single, h, arith)

is_number : (n sender : ℕ) (hears : Bool) → (nat_eq n sender && hears) ≡ true → n ≡ sender
is_number n sender hears h = grind (h, arith)

module _ (b : Board) (cpus : ℕ) (message : Message) (numbered : HasProcessors b cpus) where
  -- whatever the destination is, where the named ones are those that match
  by_destination : (p : Processor → Bool) → ((q : Processor) → p q ≡ (does_match (dest_view q.apic) message && does_hear message.mode q.apic))
      → filter p (processors_on b (if message.logical then numbers_below cpus else if nat_eq message.dest BROADCAST then numbers_below cpus else only message.dest cpus)) ≡ filter p (processors_on b (numbers_below cpus))
  by_destination p is = elim message.logical as (λ l. message.logical ≡ l → filter p (processors_on b (if l then numbers_below cpus else if nat_eq message.dest BROADCAST then numbers_below cpus else only message.dest cpus)) ≡ filter p (processors_on b (numbers_below cpus))) [
    | true ↦ λ _. refl
    | false ↦ λ physical. elim (nat_eq message.dest BROADCAST) as (λ t. nat_eq message.dest BROADCAST ≡ t → filter p (processors_on b (if t then numbers_below cpus else only message.dest cpus)) ≡ filter p (processors_on b (numbers_below cpus))) [
      | true ↦ λ _. refl
      | false ↦ λ single. one_enough b p message.dest cpus (λ n below passes.
          sym (numbered.numbers n below)
          ∙ matched message.logical _ (does_hear message.mode (part_of b (Lapic n))) message.dest (part_of b (Lapic n)).number physical single
          (sym (is (record { number = n; apic = part_of b (Lapic n) })) ∙ passes))
    ] refl
  ] refl

  none_overlooked : (from : Option (ℕ × Shorthand)) → named_by message from (processors_on b (reached_by message from cpus)) ≡ named_on b cpus message from
  none_overlooked None = by_destination (is_named message None) (λ q. refl)
  none_overlooked (Some (sender, Field)) = by_destination (is_named message (Some (sender, Field))) (λ q. refl)
  none_overlooked (Some (sender, OwnOnly)) = one_enough b (is_named message (Some (sender, OwnOnly))) sender cpus (λ n below passes. is_number n sender _ passes)
  none_overlooked (Some (sender, All)) = refl
  none_overlooked (Some (sender, Others)) = refl

-- ---- who is reached

module _ (message : Message) where
  both_parts : (ps : List Processor) (q : ℕ)
      → (set.contains (numbers_of (filter (λ p. not (has_request message p)) ps)) q || set.contains (numbers_of (filter (has_request message) ps)) q) ≡ set.contains (numbers_of ps) q
  both_parts [] q = ap (λ t. t || set.contains (numbers_of []) q) (contains-empty nat_cmp q)
  both_parts (p ∷ ps) q = elim (has_request message p) as (λ t. (set.contains (numbers_of (cond (not t) (p ∷ news) news)) q || set.contains (numbers_of (cond t (p ∷ olds) olds)) q) ≡ set.contains (set.insert (numbers_of ps) p.number) q) [
    | true ↦ ap (λ t. set.contains (numbers_of news) q || t) (contains-insert_number (numbers_of olds) p.number q) ∙ last_in _ _ _ _ (both_parts ps q) ∙ sym (contains-insert_number (numbers_of ps) p.number q)
    | false ↦ ap (λ t. t || set.contains (numbers_of olds) q) (contains-insert_number (numbers_of news) p.number q) ∙ first_in _ _ _ _ (both_parts ps q) ∙ sym (contains-insert_number (numbers_of ps) p.number q)
  ]
    where
      news : List Processor
      news = filter (λ p. not (has_request message p)) ps

      olds : List Processor
      olds = filter (has_request message) ps

      first_in : (e a c s : Bool) → (a || c) ≡ s → ((e || a) || c) ≡ (e || s)
      first_in true a c s h = refl
      first_in false a c s h = h

      last_in : (e a c s : Bool) → (a || c) ≡ s → (a || (e || c)) ≡ (e || s)
      last_in true true c s h = refl
      last_in true false c s h = refl
      last_in false a c s h = h

  pub all_reached : (chosen : List Processor) → reached (parted message chosen) ≡ numbers_of chosen
  all_reached chosen = same_set nat_cmp_total nat_cmp-IsAntisymmetric _ _ (λ q. contains-union nat_cmp_total _ _ q ∙ both_parts chosen q)

  -- to accept shows nothing, and goes on
  shows_nothing : {A : Type 0} (a : A) (takers : Numbers) (ps : List Processor) (b : Board) (ws : Wishes) → (run (accept_each message takers ps >> done a) b ws).log ≡ silence
  shows_nothing a takers [] b ws = refl
  shows_nothing a takers (p ∷ ps) b ws = elim (set.contains takers p.number) as (λ t. (run ((if t then put (Lapic p.number) (accepted p.apic message) (accept_each message takers ps) else accept_each message takers ps) >> done a) b ws).log ≡ silence) [
    | true ↦ shows_nothing a takers ps (with_part b (Lapic p.number) (accepted p.apic message)) ws
    | false ↦ shows_nothing a takers ps b ws
  ]

  ends_with : {A : Type 0} (a : A) (takers : Numbers) (ps : List Processor) (b : Board) (ws : Wishes) → (run (accept_each message takers ps >> done a) b ws).value ≡ a
  ends_with a takers [] b ws = refl
  ends_with a takers (p ∷ ps) b ws = elim (set.contains takers p.number) as (λ t. (run ((if t then put (Lapic p.number) (accepted p.apic message) (accept_each message takers ps) else accept_each message takers ps) >> done a) b ws).value ≡ a) [
    | true ↦ ends_with a takers ps (with_part b (Lapic p.number) (accepted p.apic message)) ws
    | false ↦ ends_with a takers ps b ws
  ]

  -- ---- where the request was there before

  -- the processor is as the board has it
  abbrev IsOn : Board → Processor → Type 0
  IsOn b p = p.apic ≡ part_of b (Lapic p.number)

  -- the number is among these
  abbrev is_in : ℕ → List ℕ → Bool
  is_in k ns = list_any (λ n. nat_eq n k) ns

  abbrev IsIn : List ℕ → Processor → Type 0
  IsIn ns p = is_in p.number ns ≡ true

  or_later : (a b : Bool) → b ≡ true → (a || b) ≡ true
  or_later true b h = refl
  or_later false b h = h

  module _ (b : Board) where
    seen_are_on : (ns : List ℕ) → Each (IsOn b) (processors_on b ns)
    unfolding Each
    seen_are_on [] = tt
    seen_are_on (n ∷ ns) = (refl, seen_are_on ns)

    seen_are_in : (ns : List ℕ) → Each (IsIn ns) (processors_on b ns)
    unfolding Each
    seen_are_in [] = tt
    seen_are_in (n ∷ ns) = (itself n ns, each_weaker (IsIn ns) (IsIn (n ∷ ns)) (λ p h. or_later (nat_eq n p.number) (is_in p.number ns) h) (processors_on b ns) (seen_are_in ns))
      where
        itself : (n : ℕ) (ns : List ℕ) → (nat_eq n n || is_in n ns) ≡ true
        itself n ns = let same : nat_eq n n ≡ true = grind arith in ap (λ t. t || is_in n ns) same

    -- a test of processors that the board decides by the number
    those_passing : (t : Processor → Bool) (ps : List Processor) → Each (IsOn b) ps → (n : ℕ) → set.contains (numbers_of (filter t ps)) n ≡ (set.contains (numbers_of ps) n && t (record { number = n; apic = part_of b (Lapic n) }))
    those_passing t ps on = told t (λ n. t (record { number = n; apic = part_of b (Lapic n) })) ps (each_weaker (IsOn b) (λ p. t (record { number = p.number; apic = part_of b (Lapic p.number) }) ≡ t p) (λ p h. ap (λ a. t (record { number = p.number; apic = a })) (sym h)) ps on)

-- ---- the local APICs after it

get_set : {X : Type 0} (xs : List X) (i : ℕ) (x d : X) → i < length xs → unwrap_or (slice_get (slice_set xs i x) i) d ≡ x
get_set [] i x d h = absurd (omega (h, arith))
get_set (y ∷ ys) zero x d h = refl
get_set (y ∷ ys) (suc i) x d h = get_set ys i x d (omega (h, arith))

-- no number stands twice
unfoldable pub Apart : List ℕ → Type 0
Apart [] = Unit {0}
Apart (n ∷ ns) = (list_any (λ m. nat_eq m n) ns ≡ false) × Apart ns

pub neither : (a b : Bool) → (a || b) ≡ false → (a ≡ false) × (b ≡ false)
neither false b h = (refl, h)
neither true b h = absurd (true≢false h)

module _ (message : Message) (takers : Numbers) (b : Board) where
  module _ {A : Type 0} (a : A) where
    untouched : (ns : List ℕ) (k : ℕ) → list_any (λ n. nat_eq n k) ns ≡ false → (c : Board) (ws : Wishes)
        → part_of (run (accept_each message takers (processors_on b ns) >> done a) c ws).board (Lapic k) ≡ part_of c (Lapic k)
    untouched [] k h c ws = refl
    untouched (n ∷ ns) k h c ws =
        let not_here = neither (nat_eq n k) (list_any (λ m. nat_eq m k) ns) h in
        elim (set.contains takers n) as (λ t. part_of (run ((if t then put (Lapic n) (accepted (part_of b (Lapic n)) message) (accept_each message takers (processors_on b ns)) else accept_each message takers (processors_on b ns)) >> done a) c ws).board (Lapic k) ≡ part_of c (Lapic k)) [
          | true ↦ untouched ns k not_here.1 (with_part c (Lapic n) (accepted (part_of b (Lapic n)) message)) ws ∙ part_of-with_other c (Lapic n) (Lapic k) (accepted (part_of b (Lapic n)) message) not_here.0
          | false ↦ untouched ns k not_here.1 c ws
        ]

    taken_first : (n : ℕ) (ns : List ℕ) → list_any (λ m. nat_eq m n) ns ≡ false → (c : Board) (ws : Wishes) → part_of c (Lapic n) ≡ part_of b (Lapic n) → n < length c.lapics
        → part_of (run (accept_each message takers (processors_on b (n ∷ ns)) >> done a) c ws).board (Lapic n) ≡ (if set.contains takers n then accepted (part_of b (Lapic n)) message else part_of b (Lapic n))
    taken_first n ns apart c ws same there =
        elim (set.contains takers n) as (λ t. part_of (run ((if t then put (Lapic n) (accepted (part_of b (Lapic n)) message) (accept_each message takers (processors_on b ns)) else accept_each message takers (processors_on b ns)) >> done a) c ws).board (Lapic n) ≡ (if t then accepted (part_of b (Lapic n)) message else part_of b (Lapic n))) [
          | true ↦ untouched ns n apart (with_part c (Lapic n) (accepted (part_of b (Lapic n)) message)) ws ∙ get_set c.lapics n (accepted (part_of b (Lapic n)) message) (power_on n) there
          | false ↦ untouched ns n apart c ws ∙ same
        ]

    taken : (ns : List ℕ) → Apart ns → (k : ℕ) → list_any (λ n. nat_eq n k) ns ≡ true → (c : Board) (ws : Wishes) → part_of c (Lapic k) ≡ part_of b (Lapic k) → k < length c.lapics
        → part_of (run (accept_each message takers (processors_on b ns) >> done a) c ws).board (Lapic k) ≡ (if set.contains takers k then accepted (part_of b (Lapic k)) message else part_of b (Lapic k))
    unfolding Apart
    taken [] apart k h c ws same there = absurd (true≢false (sym h))
    taken (n ∷ ns) apart k h c ws same there =
        elim (nat_eq n k) as (λ t. nat_eq n k ≡ t → (t || list_any (λ m. nat_eq m k) ns) ≡ true → part_of (run (accept_each message takers (processors_on b (n ∷ ns)) >> done a) c ws).board (Lapic k) ≡ (if set.contains takers k then accepted (part_of b (Lapic k)) message else part_of b (Lapic k))) [
          | true ↦ λ is _.
              let e : n ≡ k = grind (is, arith) in
              subst (λ j. part_of c (Lapic j) ≡ part_of b (Lapic j) → j < length c.lapics → part_of (run (accept_each message takers (processors_on b (n ∷ ns)) >> done a) c ws).board (Lapic j) ≡ (if set.contains takers j then accepted (part_of b (Lapic j)) message else part_of b (Lapic j)))
              e (taken_first n ns apart.0 c ws) same there
          | false ↦ λ other later.
              elim (set.contains takers n) as (λ t. part_of (run ((if t then put (Lapic n) (accepted (part_of b (Lapic n)) message) (accept_each message takers (processors_on b ns)) else accept_each message takers (processors_on b ns)) >> done a) c ws).board (Lapic k) ≡ (if set.contains takers k then accepted (part_of b (Lapic k)) message else part_of b (Lapic k))) [
                | true ↦ taken ns apart.1 k later (with_part c (Lapic n) (accepted (part_of b (Lapic n)) message)) ws
                    (part_of-with_other c (Lapic n) (Lapic k) (accepted (part_of b (Lapic n)) message) other ∙ same)
                    (subst (λ l. k < l) (sym (lapics-with c (Lapic n) (accepted (part_of b (Lapic n)) message))) there)
                | false ↦ taken ns apart.1 k later c ws same there
              ]
        ] refl h

-- the processors that are looked at: no number stands twice, and each is of the board
apart_push : (ns : List ℕ) (c : ℕ) → Apart ns → list_any (λ n. nat_eq n c) ns ≡ false → Apart (ns ++ c ∷ [])
unfolding Apart
apart_push [] c apart new = (refl, tt)
apart_push (n ∷ ns) c apart new =
    let here = neither (nat_eq n c) (list_any (λ m. nat_eq m c) ns) new in
    (any_push ns here.0 apart.0, apart_push ns c apart.1 here.1)
  where
    any_push : (ms : List ℕ) → nat_eq n c ≡ false → list_any (λ m. nat_eq m n) ms ≡ false → list_any (λ m. nat_eq m n) (ms ++ c ∷ []) ≡ false
    any_push [] other h = let flipped : nat_eq c n ≡ false = grind (other, arith) in ap (λ t. t || false) flipped
    any_push (m ∷ ms) other h = let each = neither (nat_eq m n) (list_any (λ m. nat_eq m n) ms) h in ap (λ t. t || list_any (λ m. nat_eq m n) (ms ++ c ∷ [])) each.0 ∙ any_push ms other each.1

any_append : (k : ℕ) (ns ms : List ℕ) → list_any (λ n. nat_eq n k) (ns ++ ms) ≡ (list_any (λ n. nat_eq n k) ns || list_any (λ n. nat_eq n k) ms)
any_append k [] ms = refl
any_append k (n ∷ ns) ms = ap (λ t. nat_eq n k || t) (any_append k ns ms) ∙ moved (nat_eq n k) _ _
  where
    moved : (a b c : Bool) → (a || (b || c)) ≡ ((a || b) || c)
    moved true b c = refl
    moved false b c = refl

below_is : (k cpus : ℕ) → list_any (λ n. nat_eq n k) (numbers_below cpus) ≡ true → k < cpus
below_is k zero h = absurd (true≢false (sym h))
below_is k (suc c) h = from (list_any (λ n. nat_eq n k) (numbers_below c)) (nat_eq c k) (below_is k c) refl (sym (any_append k (numbers_below c) (c ∷ [])) ∙ h)
  where
    from : (a e : Bool) → (a ≡ true → k < c) → nat_eq c k ≡ e → (a || (e || false)) ≡ true → k < suc c
    from true e f is _ = let less : k < c = f refl in omega (less, arith)
    from false true f is _ = let same : c ≡ k = grind (is, arith) in omega (same, arith)
    from false false f is h = absurd (true≢false (sym h))

pub below_apart : (cpus : ℕ) → Apart (numbers_below cpus)
unfolding Apart
below_apart zero = tt
below_apart (suc c) = apart_push (numbers_below c) c (below_apart c) (from (list_any (λ n. nat_eq n c) (numbers_below c)) refl)
  where
    from : (t : Bool) → list_any (λ n. nat_eq n c) (numbers_below c) ≡ t → t ≡ false
    from true is = let less : c < c = below_is c c is in absurd (omega (less, arith))
    from false is = refl

module _ (message : Message) (cpus : ℕ) (P : List ℕ → Type 0) (every : P (numbers_below cpus)) (alone : (d : ℕ) → P (only d cpus)) where
  by_dest : P (reached_by message None cpus)
  by_dest = elim message.logical as (λ l. P (if l then numbers_below cpus else if nat_eq message.dest BROADCAST then numbers_below cpus else only message.dest cpus)) [
    | true ↦ every
    | false ↦ elim (nat_eq message.dest BROADCAST) as (λ t. P (if t then numbers_below cpus else only message.dest cpus)) [ true ↦ every | false ↦ alone message.dest ]
  ]

  -- what holds of all processors and of each alone, holds of those that are looked at
  pub of_reached : (from : Option (ℕ × Shorthand)) → P (reached_by message from cpus)
  of_reached None = by_dest
  of_reached (Some (sender, Field)) = by_dest
  of_reached (Some (sender, OwnOnly)) = alone sender
  of_reached (Some (sender, All)) = every
  of_reached (Some (sender, Others)) = every

pub only_apart : (cpus d : ℕ) → Apart (only d cpus)
unfolding Apart
only_apart cpus d = elim (nat_lt d cpus) as (λ t. Apart (if t then d ∷ [] else [])) [ true ↦ (refl, tt) | false ↦ tt ]

only_below_is : (cpus d k : ℕ) → list_any (λ n. nat_eq n k) (only d cpus) ≡ true → k < cpus
only_below_is cpus d k = elim (nat_lt d cpus) as (λ t. nat_lt d cpus ≡ t → list_any (λ n. nat_eq n k) (if t then d ∷ [] else []) ≡ true → k < cpus) [
  | true ↦ λ below h. one (nat_eq d k) refl below h
  | false ↦ λ _ h. absurd (true≢false (sym h))
] refl
  where
    one : (e : Bool) → nat_eq d k ≡ e → nat_lt d cpus ≡ true → (e || false) ≡ true → k < cpus
    one true is below _ = let same : d ≡ k = grind (is, arith) in let less : d < cpus = grind (below, arith) in omega (same, less, arith)
    one false is below h = absurd (true≢false (sym h))

-- ---- exactly

module _ (cpus : ℕ) (message : Message) (from : Option (ℕ × Shorthand)) (about : About) (b : Board) (places : cpus ≤ length b.lapics) where
  abbrev f : List Processor → Plan TargetAnswer
  f processors = send_to message from about processors (named_by message from processors)

  -- a message that comes to be sent is delivered to the named ones
  is_delivered : (named : List Processor) → IsSent message named → named_by message from (processors_on b (reached_by message from cpus)) ≡ named → (ws : Wishes)
      → run (send cpus message from about) b ws ≡ run (deliver message from about (processors_on b (reached_by message from cpus)) named) b ws
  is_delivered [] sent is ws = absurd (omega (sent.someone, arith))
  is_delivered (p ∷ ps) sent is ws =
      ap (λ t. run (if not t then ignore about BadMode else (see_each (reached_by message from cpus) >>= f)) b ws) sent.taken
      ∙ after_seen f b (reached_by message from cpus) ws
      ∙ ap (λ l. run (send_to message from about (processors_on b (reached_by message from cpus)) l) b ws) is
      ∙ ap (λ t. run (if t then refuse_vector message about (processors_on b (reached_by message from cpus)) (p ∷ ps) else deliver message from about (processors_on b (reached_by message from cpus)) (p ∷ ps)) b ws) sent.legal

  is_sending : (named : List Processor) → IsSent message named → named_by message from (processors_on b (reached_by message from cpus)) ≡ named → (ws : Wishes)
      → IsSending message from about b (numbers_of (chosen_of message.mode (next_wish ws) named)) (run (send cpus message from about) b ws)
  is_sending named is_sent is ws = record {
    sent = parted message (chosen_of message.mode (next_wish ws) named);
    once = ap (λ o. o.log.sendings) delivered
        ∙ ap (λ l. record { heading = record { message = message; from = from }; sent = parted message (chosen_of message.mode (next_wish ws) named) } ∷ l.sendings) quiet;
    reaches = all_reached message (chosen_of message.mode (next_wish ws) named);
    stood = those_passing message b (has_request message) (chosen_of message.mode (next_wish ws) named) on;
    new = those_passing message b (λ p. not (has_request message p)) (chosen_of message.mode (next_wish ws) named) on;
    events = ap (λ o. o.log.events) delivered ∙ ap (λ l. events_of about (parted message (chosen_of message.mode (next_wish ws) named)) ++ l.events) quiet ∙ append-nil _;
    answers = ap (λ o. o.log.answers) delivered ∙ ap (λ l. answers_of about (parted message (chosen_of message.mode (next_wish ws) named)) ++ l.answers) quiet ∙ append-nil _;
    after = λ k. ap (λ o. part_of o.board (Lapic k)) delivered ∙ by_place k ∙ ap (λ s. if set.contains s k then accepted (part_of b (Lapic k)) message else part_of b (Lapic k)) (all_reached message (chosen_of message.mode (next_wish ws) named));
    value = ap (λ o. o.value) delivered ∙ ends_with message _ _ (processors_on b (reached_by message from cpus)) b (later_wishes ws);
  }
    where
      delivered : run (send cpus message from about) b ws ≡ run (deliver message from about (processors_on b (reached_by message from cpus)) named) b ws
      delivered = is_delivered named is_sent is ws

      on : Each (IsOn message b) (chosen_of message.mode (next_wish ws) named)
      on = each_chosen (IsOn message b) message.mode (next_wish ws) named
          (subst (Each (IsOn message b)) is (each_filtered (IsOn message b) (is_named message from) (processors_on b (reached_by message from cpus)) (seen_are_on message b (reached_by message from cpus))))

      within : (k : ℕ) → set.contains (reached (parted message (chosen_of message.mode (next_wish ws) named))) k ≡ true → list_any (λ n. nat_eq n k) (reached_by message from cpus) ≡ true
      within k h = told_of (λ n. list_any (λ m. nat_eq m n) (reached_by message from cpus)) (chosen_of message.mode (next_wish ws) named)
          (each_chosen (IsIn message (reached_by message from cpus)) message.mode (next_wish ws) named
          (subst (Each (IsIn message (reached_by message from cpus))) is (each_filtered (IsIn message (reached_by message from cpus)) (is_named message from) (processors_on b (reached_by message from cpus)) (seen_are_in message b (reached_by message from cpus)))))
          k (ap (λ s. set.contains s k) (sym (all_reached message (chosen_of message.mode (next_wish ws) named))) ∙ h)

      by_place : (k : ℕ)
          → part_of (run (accept_each message (reached (parted message (chosen_of message.mode (next_wish ws) named))) (processors_on b (reached_by message from cpus)) >> done (message_answer (parted message (chosen_of message.mode (next_wish ws) named)))) b (later_wishes ws)).board (Lapic k)
          ≡ (if set.contains (reached (parted message (chosen_of message.mode (next_wish ws) named))) k then accepted (part_of b (Lapic k)) message else part_of b (Lapic k))
      by_place k = at (list_any (λ n. nat_eq n k) (reached_by message from cpus)) refl
        where
          at : (t : Bool) → list_any (λ n. nat_eq n k) (reached_by message from cpus) ≡ t
              → part_of (run (accept_each message (reached (parted message (chosen_of message.mode (next_wish ws) named))) (processors_on b (reached_by message from cpus)) >> done (message_answer (parted message (chosen_of message.mode (next_wish ws) named)))) b (later_wishes ws)).board (Lapic k)
              ≡ (if set.contains (reached (parted message (chosen_of message.mode (next_wish ws) named))) k then accepted (part_of b (Lapic k)) message else part_of b (Lapic k))
          at true is_there =
              let below : k < cpus = of_reached message cpus (λ ns. list_any (λ n. nat_eq n k) ns ≡ true → k < cpus) (below_is k cpus) (λ d. only_below_is cpus d k) from is_there in
              taken message (reached (parted message (chosen_of message.mode (next_wish ws) named))) b _ (reached_by message from cpus)
              (of_reached message cpus Apart (below_apart cpus) (only_apart cpus) from) k is_there b (later_wishes ws) refl (omega (below, places, arith))
          at false elsewhere =
              untouched message (reached (parted message (chosen_of message.mode (next_wish ws) named))) b _ (reached_by message from cpus) k elsewhere b (later_wishes ws)
              ∙ sym (ap (λ t. if t then accepted (part_of b (Lapic k)) message else part_of b (Lapic k)) (not_taken _ refl))
            where
              not_taken : (t : Bool) → set.contains (reached (parted message (chosen_of message.mode (next_wish ws) named))) k ≡ t → set.contains (reached (parted message (chosen_of message.mode (next_wish ws) named))) k ≡ false
              not_taken true h = absurd (true≢false (sym (within k h) ∙ elsewhere))
              not_taken false h = h

      quiet : (run (accept_each message (reached (parted message (chosen_of message.mode (next_wish ws) named))) (processors_on b (reached_by message from cpus)) >> done (message_answer (parted message (chosen_of message.mode (next_wish ws) named)))) b (later_wishes ws)).log ≡ silence
      quiet = shows_nothing message _ _ (processors_on b (reached_by message from cpus)) b (later_wishes ws)

pub wishes_reach_exactly : WishesReachExactly
wishes_reach_exactly cpus message from about b numbered is_sent = record {
  only = λ ws. (numbers_of (chosen_of message.mode (next_wish ws) (named_on b cpus message from)), chooses.only (next_wish ws), is_sending cpus message from about b numbered.places (named_on b cpus message from) is_sent overlooked ws);
  every = λ s may. let wished = chooses.every s may in (wished.0, subst (λ r. IsSending message from about b r (run (send cpus message from about) b (wished.0 ∷ []))) wished.1 (is_sending cpus message from about b numbered.places (named_on b cpus message from) is_sent overlooked (wished.0 ∷ [])));
}
  where
    chooses : ChoosesExactly message.mode (named_on b cpus message from)
    chooses = wishes_choose_exactly message.mode (named_on b cpus message from) is_sent.someone

    overlooked : named_by message from (processors_on b (reached_by message from cpus)) ≡ named_on b cpus message from
    overlooked = none_overlooked b cpus message numbered from
