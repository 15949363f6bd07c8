-- A message that the local APICs of a row accept one after another is sent as the model tells.
use Rattle.std.proofs.Common.{◌≡◌, ℕ, zero, suc, ◌+◌, ◌-◌, ◌<◌, ◌≤◌, Bool, true, false, not, ◌&&◌, ◌||◌, nat_eq, nat_lt, filter, if◌then◌else◌, List, [], ◌∷◌, refl, sym, ap, ◌∙◌, arith, true≢false, Some, None}
use Rattle.std.specs.List.{list_any}
use Rattle.std.specs.declared.option.Option.{Option}
use Rattle.std.specs.FinSet as set
use Rattle.std.specs.FinSet.{contains-empty, same_set, nat_cmp-IsAntisymmetric}
use Rattle.std.specs.Ordering.{nat_cmp}
use Rattle.std.specs.Cmp.{nat_cmp_total}
use Rattle.irq_bits.specs.Members.{Numbers}
use Rattle.irq_bits.specs.SetLemmas.{contains-insert_number}
use Rattle.irq_base.specs.declared.message.Message.{Message}
use Rattle.lapic.specs.declared.outcome.Accepted.{Accepted}
use Rattle.lapic.specs.declared.outcome.Accepted.TheVariants.{New, Stood, BadVector, Disabled}
use Rattle.lapic.specs.declared.outcome.Shorthand.{Shorthand}
use Rattle.lapic.specs.Registers.{LocalApic, is_enabled}
use Rattle.lapic.specs.Messages.{is_nmi, answer_to}
use Rattle.board_model.specs.Following.{reached}
use Rattle.board_raise.specs.declared.sending.Reached.{Reached}
use Rattle.board_raise.specs.Named.{Processor, does_hear, is_addressed, is_named, lowest_of, chosen_of, numbers_of}
use Rattle.board_raise.specs.Send.{has_request, is_illegal, parted}
use Rattle.board_raise.specs.OnRow.{Row, apic_in, with_processor, processors_in, accepted_at, accepted_by, named_in, sent_in}
use Rattle.board_raise.specs.RowSteps.{numbers_from, numbers_between, answer_at, with_answer, reached_after, sent_of}
use Rattle.board_raise.proofs.SendExactly.{Apart, all_reached}
use Rattle.board_raise.proofs.Rows.{Same, same_itself, same_accepted}
use Rattle.board_raise.proofs.Each.{Each, each_passing, each_filtered, each_chosen, each_weaker, told, told_of}

-- ---- what an answer tells

abbrev is_new : Option Accepted → Bool
is_new None = false
is_new (Some Stood) = false
is_new (Some New) = true
is_new (Some BadVector) = true
is_new (Some Disabled) = true

abbrev is_standing : Option Accepted → Bool
is_standing None = false
is_standing (Some Stood) = true
is_standing (Some New) = false
is_standing (Some BadVector) = false
is_standing (Some Disabled) = false

none_more : (e g : Bool) → g ≡ ((e && false) || g)
none_more true g = refl
none_more false g = refl

one_more : (s : Numbers) (n k : ℕ) → set.contains (set.insert s n) k ≡ ((nat_eq k n && true) || set.contains s k)
one_more s n k = contains-insert_number s n k ∙ ap (λ e. e || set.contains s k) (always (nat_eq k n))
  where
    always : (e : Bool) → e ≡ (e && true)
    always true = refl
    always false = refl

adds_new : (s : Reached) (n : ℕ) (answer : Option Accepted) (k : ℕ) → set.contains (with_answer s n answer).new k ≡ ((nat_eq k n && is_new answer) || set.contains s.new k)
adds_new s n None k = none_more (nat_eq k n) (set.contains s.new k)
adds_new s n (Some Stood) k = none_more (nat_eq k n) (set.contains s.new k)
adds_new s n (Some New) k = one_more s.new n k
adds_new s n (Some BadVector) k = one_more s.new n k
adds_new s n (Some Disabled) k = one_more s.new n k

adds_standing : (s : Reached) (n : ℕ) (answer : Option Accepted) (k : ℕ) → set.contains (with_answer s n answer).stood k ≡ ((nat_eq k n && is_standing answer) || set.contains s.stood k)
adds_standing s n None k = none_more (nat_eq k n) (set.contains s.stood k)
adds_standing s n (Some Stood) k = one_more s.stood n k
adds_standing s n (Some New) k = none_more (nat_eq k n) (set.contains s.stood k)
adds_standing s n (Some BadVector) k = none_more (nat_eq k n) (set.contains s.stood k)
adds_standing s n (Some Disabled) k = none_more (nat_eq k n) (set.contains s.stood k)

-- ---- all answers together

abbrev is_in : ℕ → List ℕ → Bool
is_in k ns = list_any (λ n. nat_eq n k) ns

joins : (e i t v g : Bool) → (e ≡ true → i ≡ false) → (e ≡ true → t ≡ true) → (((e && v) || g) || (i && (t && v))) ≡ (g || ((e || i) && (t && v)))
joins true i t v g apart taken = ap (λ i. (v || g) || (i && (t && v))) (apart refl) ∙ swapped v g ∙ ap (λ t. g || (t && v)) (sym (taken refl))
  where
    swapped : (v g : Bool) → ((v || g) || false) ≡ (g || v)
    swapped true true = refl
    swapped true false = refl
    swapped false true = refl
    swapped false false = refl
joins false i t v g apart taken = refl

passes : (e i t v g : Bool) → (e ≡ true → t ≡ false) → (g || (i && (t && v))) ≡ (g || ((e || i) && (t && v)))
passes true i t v g fails = ap (λ t. g || (i && (t && v))) (fails refl) ∙ ap (λ b. g || b) (never i) ∙ sym (ap (λ t. g || (t && v)) (fails refl))
  where
    never : (i : Bool) → (i && false) ≡ false
    never true = refl
    never false = refl
passes false i t v g fails = refl

module _ (message : Message) (takers : Numbers) (row : Row) (get : Reached → Numbers) (is : Option Accepted → Bool)
    (adds : (s : Reached) (n : ℕ) (answer : Option Accepted) (k : ℕ) → set.contains (get (with_answer s n answer)) k ≡ ((nat_eq k n && is answer) || set.contains (get s) k)) where
  abbrev tells : ℕ → Bool
  tells k = is (answer_at (apic_in row k) message)

  after : (ns : List ℕ) → Apart ns → (now : Row) → Same now row ns → (s : Reached) (k : ℕ)
      → set.contains (get (reached_after message takers ns now s)) k ≡ (set.contains (get s) k || (is_in k ns && (set.contains takers k && tells k)))
  unfolding reached_after Apart Same
  after [] apart now same s k = or_false (set.contains (get s) k)
    where
      or_false : (b : Bool) → b ≡ (b || false)
      or_false true = refl
      or_false false = refl
  after (n ∷ ns) apart now same s k =
      elim (set.contains takers n) as (λ t. set.contains takers n ≡ t
      → set.contains (get (if t then reached_after message takers ns (accepted_at n (apic_in now n) message now) (with_answer s n (answer_at (apic_in now n) message)) else reached_after message takers ns now s)) k
      ≡ (set.contains (get s) k || ((nat_eq n k || is_in k ns) && (set.contains takers k && tells k)))) [
        | true ↦ λ taken.
            after ns apart.1 (accepted_at n (apic_in now n) message now) (same_accepted now row n (apic_in now n) message ns apart.0 same.1) (with_answer s n (answer_at (apic_in now n) message)) k
            ∙ ap (λ b. b || (is_in k ns && (set.contains takers k && tells k))) (adds s n (answer_at (apic_in now n) message) k)
            ∙ ap (λ b. (b || set.contains (get s) k) || (is_in k ns && (set.contains takers k && tells k))) (ap (λ x. nat_eq k n && is (answer_at x message)) same.0 ∙ at_number)
            ∙ joins (nat_eq n k) (is_in k ns) (set.contains takers k) (tells k) (set.contains (get s) k) (λ e. ap (λ m. is_in m ns) (sym (number e)) ∙ apart.0) (λ e. ap (λ m. set.contains takers m) (sym (number e)) ∙ taken)
        | false ↦ λ passed.
            after ns apart.1 now same.1 s k
            ∙ passes (nat_eq n k) (is_in k ns) (set.contains takers k) (tells k) (set.contains (get s) k) (λ e. ap (λ m. set.contains takers m) (sym (number e)) ∙ passed)
      ] refl
    where
      number : nat_eq n k ≡ true → n ≡ k
      number e = grind (e, arith)

      at_number : (nat_eq k n && tells n) ≡ (nat_eq n k && tells k)
      at_number = from (nat_eq n k) refl
        where
          from : (e : Bool) → nat_eq n k ≡ e → (nat_eq k n && tells n) ≡ (e && tells k)
          from true e = let turned : nat_eq k n ≡ true = grind (e, arith) in ap (λ t. t && tells n) turned ∙ ap (λ m. tells m) (number e)
          from false e = let turned : nat_eq k n ≡ false = grind (e, arith) in ap (λ t. t && tells n) turned

-- ---- who may be chosen

-- its local APIC is in the row, it is among those numbers, and it hears the message
abbrev IsThere : Row → List ℕ → Message → Processor → Type 0
IsThere row ns message p = (apic_in row p.number ≡ Some p.apic) × (is_in p.number ns ≡ true) × (does_hear message.mode p.apic ≡ true)

module _ (row : Row) where
  abbrev IsSeen : List ℕ → Processor → Type 0
  IsSeen ns p = (apic_in row p.number ≡ Some p.apic) × (is_in p.number ns ≡ true)

  or_later : (a b : Bool) → b ≡ true → (a || b) ≡ true
  or_later true b h = refl
  or_later false b h = h

  seen_later : (n : ℕ) (ns : List ℕ) → Each (IsSeen ns) (processors_in row ns) → Each (IsSeen (n ∷ ns)) (processors_in row ns)
  seen_later n ns seen = each_weaker (IsSeen ns) (IsSeen (n ∷ ns)) (λ p seen. (seen.0, or_later (nat_eq n p.number) (is_in p.number ns) seen.1)) (processors_in row ns) seen

  each_seen : (ns : List ℕ) → Each (IsSeen ns) (processors_in row ns)
  unfolding Each
  each_seen [] = tt
  each_seen (n ∷ ns) =
      elim (apic_in row n) as (λ (x : Option LocalApic). apic_in row n ≡ x → Each (IsSeen (n ∷ ns)) (with_processor n x (processors_in row ns))) [
        | None ↦ λ _. seen_later n ns (each_seen ns)
        | Some a ↦ λ here. let itself : nat_eq n n ≡ true = grind arith in ((here, ap (λ t. t || is_in n ns) itself), seen_later n ns (each_seen ns))
      ] refl

  module _ (message : Message) (from : Option (ℕ × Shorthand)) (ns : List ℕ) where
    second : (a b : Bool) → (a && b) ≡ true → b ≡ true
    second true b h = h
    second false b h = absurd (true≢false (sym h))

    each_named : Each (IsThere row ns message) (named_in row ns message from)
    each_named = each_weaker (λ p. IsSeen ns p × (is_named message from p ≡ true)) (IsThere row ns message)
        (λ p named. (named.0.0, named.0.1, second (is_addressed message from p) (does_hear message.mode p.apic) named.1))
        (named_in row ns message from) (each_passing (IsSeen ns) (is_named message from) (processors_in row ns) (each_seen ns))

-- ---- the two sets

answers_new : (nmi pending enabled low has : Bool) → (nmi || enabled) ≡ true → (if nmi then false else low) ≡ false
    → is_new (Some (if nmi then (if pending then Stood else New) else if not enabled then Disabled else if low then BadVector else if has then Stood else New)) ≡ not (if nmi then pending else has)
answers_new true true enabled low has hears legal = refl
answers_new true false enabled low has hears legal = refl
answers_new false pending false low has hears legal = absurd (true≢false (sym hears))
answers_new false pending true true has hears legal = absurd (true≢false legal)
answers_new false pending true false true hears legal = refl
answers_new false pending true false false hears legal = refl

answers_standing : (nmi pending enabled low has : Bool) → (nmi || enabled) ≡ true → (if nmi then false else low) ≡ false
    → is_standing (Some (if nmi then (if pending then Stood else New) else if not enabled then Disabled else if low then BadVector else if has then Stood else New)) ≡ (if nmi then pending else has)
answers_standing true true enabled low has hears legal = refl
answers_standing true false enabled low has hears legal = refl
answers_standing false pending false low has hears legal = absurd (true≢false (sym hears))
answers_standing false pending true true has hears legal = absurd (true≢false legal)
answers_standing false pending true false true hears legal = refl
answers_standing false pending true false false hears legal = refl

turned : (i t v : Bool) → (false || (i && (t && v))) ≡ (t && (i && v))
turned true t v = refl
turned false true v = refl
turned false false v = refl

module _ (row : Row) (ns : List ℕ) (apart : Apart ns) (message : Message) (legal : is_illegal message ≡ false) (chosen : List Processor) (there : Each (IsThere row ns message) chosen) where
  abbrev nobody_yet : Reached
  nobody_yet = record { new = set.empty; stood = set.empty }

  module _ (get : Reached → Numbers) (is : Option Accepted → Bool) (none : get nobody_yet ≡ set.empty) (t : Processor → Bool)
      (adds : (s : Reached) (n : ℕ) (answer : Option Accepted) (k : ℕ) → set.contains (get (with_answer s n answer)) k ≡ ((nat_eq k n && is answer) || set.contains (get s) k))
      (answers : (p : Processor) → does_hear message.mode p.apic ≡ true → is (Some (answer_to p.apic message)) ≡ t p) where
    same_part : get (reached_after message (numbers_of chosen) ns row nobody_yet) ≡ numbers_of (filter t chosen)
    same_part = same_set nat_cmp_total nat_cmp-IsAntisymmetric _ _ (λ k.
        after message (numbers_of chosen) row get is adds ns apart row (same_itself row ns) nobody_yet k
        ∙ ap (λ b. b || (is_in k ns && (set.contains (numbers_of chosen) k && is (answer_at (apic_in row k) message)))) (ap (λ s. set.contains s k) none ∙ contains-empty nat_cmp k)
        ∙ turned (is_in k ns) (set.contains (numbers_of chosen) k) (is (answer_at (apic_in row k) message))
        ∙ sym (told t (λ k. is_in k ns && is (answer_at (apic_in row k) message)) chosen
        (each_weaker (IsThere row ns message) (λ p. (is_in p.number ns && is (answer_at (apic_in row p.number) message)) ≡ t p)
        (λ p h. ap (λ b. b && is (answer_at (apic_in row p.number) message)) h.1 ∙ ap (λ x. is (answer_at x message)) h.0 ∙ answers p h.2) chosen there) k))

  new_part : (reached_after message (numbers_of chosen) ns row nobody_yet).new ≡ numbers_of (filter (λ p. not (has_request message p)) chosen)
  new_part = same_part (λ s. s.new) is_new refl (λ p. not (has_request message p)) adds_new
      (λ p hears. answers_new (is_nmi message.mode) p.apic.nmi (is_enabled p.apic) (nat_lt message.vector 16) (set.contains p.apic.irr message.vector) hears legal)

  stood_part : (reached_after message (numbers_of chosen) ns row nobody_yet).stood ≡ numbers_of (filter (has_request message) chosen)
  stood_part = same_part (λ s. s.stood) is_standing refl (has_request message) adds_standing
      (λ p hears. answers_standing (is_nmi message.mode) p.apic.nmi (is_enabled p.apic) (nat_lt message.vector 16) (set.contains p.apic.irr message.vector) hears legal)

  same_sent : sent_of (reached_after message (numbers_of chosen) ns row nobody_yet) ≡ parted message chosen
  same_sent = λ i. record { new = new_part i; stood = stood_part i }

module _ (row : Row) (ns : List ℕ) (message : Message) (from : Option (ℕ × Shorthand)) (wish takers : Numbers) (is : takers ≡ numbers_of (chosen_of message.mode wish (named_in row ns message from))) where
  pub delivered : Apart ns → is_illegal message ≡ false → sent_of (reached_after message takers ns row (record { new = set.empty; stood = set.empty })) ≡ sent_in row ns message from wish
  delivered apart legal =
      ap (λ t. sent_of (reached_after message t ns row (record { new = set.empty; stood = set.empty }))) is
      ∙ same_sent row ns apart message legal (chosen_of message.mode wish (named_in row ns message from)) (each_chosen (IsThere row ns message) message.mode wish (named_in row ns message from) (each_named row message from ns))

  pub row_delivered : accepted_by message takers ns row ≡ accepted_by message (reached (sent_in row ns message from wish)) ns row
  row_delivered = ap (λ t. accepted_by message t ns row) (is ∙ sym (all_reached message (chosen_of message.mode wish (named_in row ns message from))))

-- ---- the numbers are few

below_from : (row : Row) (first count limit : ℕ) → first + count ≤ limit → Each (λ p. nat_lt p.number limit ≡ true) (processors_in row (numbers_from first count))
unfolding numbers_from Each
below_from row first zero limit h = tt
below_from row first (suc count) limit h =
    let rest : (first + 1) + count ≤ limit = omega (h, arith) in
    elim (apic_in row first) as (λ (x : Option LocalApic). Each (λ p. nat_lt p.number limit ≡ true) (with_processor first x (processors_in row (numbers_from (first + 1) count)))) [
      | None ↦ below_from row (first + 1) count limit rest
      | Some a ↦ let here : nat_lt first limit ≡ true = grind (h, arith) in (here, below_from row (first + 1) count limit rest)
    ]

below_between : (row : Row) (first end limit : ℕ) → first ≤ end → end ≤ limit → Each (λ p. nat_lt p.number limit ≡ true) (processors_in row (numbers_between first end))
unfolding numbers_between
below_between row first end limit up h = below_from row first (end - first) limit (omega (up, h, arith))

-- a number of the lowest is below what the numbers are below
pub lowest_below : (row : Row) (first end limit : ℕ) (message : Message) (from : Option (ℕ × Shorthand)) → first ≤ end → end ≤ limit → (k : ℕ) → set.contains (numbers_of (lowest_of (named_in row (numbers_between first end) message from))) k ≡ true → k < limit
lowest_below row first end limit message from up h k c =
    let below : nat_lt k limit ≡ true = told_of (λ k. nat_lt k limit) (lowest_of (named_in row (numbers_between first end) message from))
    (each_filtered (λ p. nat_lt p.number limit ≡ true) _ _ (each_filtered (λ p. nat_lt p.number limit ≡ true) _ _ (below_between row first end limit up h))) k c in
    grind (below, arith)
