-- Of the processors that are looked at some is named exactly where some is of all of the board.
use Rattle.std.proofs.Common.{◌≡◌, ℕ, zero, suc, ◌<◌, Bool, true, false, cond, ◌&&◌, ◌||◌, nat_eq, nat_lt, if◌then◌else◌, List, [], ◌∷◌, ◌++◌, filter, refl, sym, ap, ◌∙◌, arith, None}
use Rattle.std.specs.List.{list_any}
use Rattle.irq_base.specs.declared.message.Message.{Message}
use Rattle.irq_base.specs.declared.shape.Part.TheVariants.{Lapic}
use Rattle.dest_match.specs.declared.destination.TheConstants.{BROADCAST}
use Rattle.board_model.specs.Board.{Board, part_of}
use Rattle.board_raise.specs.Named.{Processor, does_hear, is_named, named_by}
use Rattle.board_raise.specs.Send.{numbers_below, only, reached_by}
use Rattle.board_raise.specs.Laws.{processors_on, named_on, HasProcessors}

-- whether a list has an element
abbrev pub has_any : {X : Type 0} → List X → Bool
has_any [] = false
has_any (x ∷ xs) = true

module _ (b : Board) where
  abbrev on : ℕ → Processor
  on n = record { number = n; apic = part_of b (Lapic n) }

  any_on : (p : Processor → Bool) (ns : List ℕ) → has_any (filter p (processors_on b ns)) ≡ list_any (λ n. p (on n)) ns
  any_on p [] = refl
  any_on p (n ∷ ns) = elim (p (on n)) as (λ t. has_any (cond t (on n ∷ filter p (processors_on b ns)) (filter p (processors_on b ns))) ≡ (t || list_any (λ n. p (on n)) ns)) [
    | true ↦ refl
    | false ↦ any_on p ns
  ]

any_append : (q : ℕ → Bool) (xs ys : List ℕ) → list_any q (xs ++ ys) ≡ (list_any q xs || list_any q ys)
any_append q [] ys = refl
any_append q (x ∷ xs) ys = ap (λ t. q x || t) (any_append q xs ys) ∙ moved (q x) _ _
  where
    moved : (a b c : Bool) → (a || (b || c)) ≡ ((a || b) || c)
    moved true b c = refl
    moved false b c = refl

-- where no other number passes, some number passes exactly where that one does
any_below : (q : ℕ → Bool) (d cpus : ℕ) → ((n : ℕ) → n < cpus → q n ≡ true → n ≡ d) → list_any q (numbers_below cpus) ≡ (nat_lt d cpus && q d)
any_below q d zero sole = let none : nat_lt d 0 ≡ false = grind arith in sym (ap (λ t. t && q d) none)
any_below q d (suc c) sole =
    any_append q (numbers_below c) (c ∷ [])
    ∙ ap (λ t. t || (q c || false)) (any_below q d c (λ n below. sole n (omega (below, arith))))
    ∙ last (q c) refl
  where
    last : (t : Bool) → q c ≡ t → ((nat_lt d c && q d) || (t || false)) ≡ (nat_lt d (suc c) && q d)
    last true passes =
        let same : c ≡ d = sole c (omega arith) passes in
        let later : nat_lt d (suc c) ≡ true = grind (same, arith) in
        or_true (nat_lt d c && q d) ∙ sym (ap (λ t. t && q d) later ∙ sym (ap q same) ∙ passes)
      where
        or_true : (t : Bool) → (t || true) ≡ true
        or_true true = refl
        or_true false = refl
    last false fails = elim (nat_eq d c) as (λ t. nat_eq d c ≡ t → ((nat_lt d c && q d) || false) ≡ (nat_lt d (suc c) && q d)) [
      | true ↦ λ is.
          let same : d ≡ c = grind (is, arith) in
          let none : q d ≡ false = ap q same ∙ fails in
          ap (λ t. (nat_lt d c && t) || false) none ∙ both_false (nat_lt d c) (nat_lt d (suc c)) ∙ sym (ap (λ t. nat_lt d (suc c) && t) none)
      | false ↦ λ other.
          let alike : nat_lt d c ≡ nat_lt d (suc c) = grind (other, arith) in
          or_false (nat_lt d c && q d) ∙ ap (λ t. t && q d) alike
    ] refl
      where
        or_false : (t : Bool) → (t || false) ≡ t
        or_false true = refl
        or_false false = refl

        both_false : (t u : Bool) → ((t && false) || false) ≡ (u && false)
        both_false true true = refl
        both_false true false = refl
        both_false false true = refl
        both_false false false = refl

-- where no other number passes, it is enough to look at that one
any_only : (q : ℕ → Bool) (d cpus : ℕ) → ((n : ℕ) → n < cpus → q n ≡ true → n ≡ d) → list_any q (only d cpus) ≡ list_any q (numbers_below cpus)
any_only q d cpus sole = of_number (nat_lt d cpus) ∙ sym (any_below q d cpus sole)
  where
    of_number : (t : Bool) → list_any q (if t then d ∷ [] else []) ≡ (t && q d)
    of_number true = or_false (q d)
      where
        or_false : (t : Bool) → (t || false) ≡ t
        or_false true = refl
        or_false false = refl
    of_number false = refl

-- a physical destination that is matched is the number
is_destination : (logical matches hears : Bool) (d n : ℕ) → logical ≡ false → nat_eq d BROADCAST ≡ false → ((if logical then matches else (nat_eq d BROADCAST || nat_eq d n)) && hears) ≡ true → n ≡ d
is_destination logical matches hears d n physical single h = grind (physical, single, h, arith)

-- a message that is no interprocessor interrupt names somebody of those who are looked at exactly where it names somebody
pub named_alike : (b : Board) (cpus : ℕ) (message : Message) → HasProcessors b cpus → has_any (named_by message None (processors_on b (reached_by message None cpus))) ≡ has_any (named_on b cpus message None)
named_alike b cpus message numbered =
    any_on b (is_named message None) (reached_by message None cpus) ∙ looked_at ∙ sym (any_on b (is_named message None) (numbers_below cpus))
  where
    q : ℕ → Bool
    q n = is_named message None (record { number = n; apic = part_of b (Lapic n) })

    looked_at : list_any q (reached_by message None cpus) ≡ list_any q (numbers_below cpus)
    looked_at = elim message.logical as (λ l. message.logical ≡ l → list_any q (if l then numbers_below cpus else if nat_eq message.dest BROADCAST then numbers_below cpus else only message.dest cpus) ≡ list_any q (numbers_below cpus)) [
      | true ↦ λ _. refl
      | false ↦ λ physical. elim (nat_eq message.dest BROADCAST) as (λ t. nat_eq message.dest BROADCAST ≡ t → list_any q (if t then numbers_below cpus else only message.dest cpus) ≡ list_any q (numbers_below cpus)) [
        | true ↦ λ _. refl
        | false ↦ λ single. any_only q message.dest cpus (λ n below passes.
            sym (numbered.numbers n below)
            ∙ is_destination message.logical _ (does_hear message.mode (part_of b (Lapic n))) message.dest (part_of b (Lapic n)).number physical single passes)
      ] refl
    ] refl
