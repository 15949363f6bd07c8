-- The numbers of processors go up in a row, so that the first is the least; the preferred processor by the sets.
use Rattle.std.proofs.Common.{◌≡◌, ℕ, zero, suc, ◌+◌, ◌-◌, ◌<◌, ◌≤◌, Bool, true, false, cond, ◌&&◌, ◌||◌, nat_eq, nat_lt, filter, List, [], ◌∷◌, refl, sym, ap, ◌∙◌, subst, arith, true≢false, Some, None}
use Rattle.std.specs.List.{list_all}
use Rattle.std.specs.FinSet as set
use Rattle.std.specs.FinSet.{contains-empty, contains-intersection, same_set, nat_cmp-IsAntisymmetric}
use Rattle.std.specs.Ordering.{nat_cmp}
use Rattle.std.specs.Cmp.{nat_cmp_total}
use Rattle.std.specs.declared.option.Option.{Option}
use Rattle.irq_bits.specs.Members.{Numbers, IsLeast}
use Rattle.irq_bits.specs.SetLemmas.{contains-insert_number}
use Rattle.irq_base.specs.declared.message.Mode.{Mode}
use Rattle.irq_base.specs.declared.message.Mode.TheVariants.{Fixed, Lowest, Smi, Nmi, Init, Startup, ExtInt, Reserved}
use Rattle.lapic.specs.Registers.{LocalApic}
use Rattle.board_raise.specs.Named.{Processor, lowest_of, first_alone, first_or, preferred, chosen_of, numbers_of}
use Rattle.board_raise.specs.OnRow.{Row, apic_in, with_processor, processors_in}
use Rattle.board_raise.specs.RowSteps.{numbers_from, numbers_between, Ascends, goes_to_lowest}
use Rattle.board_raise.proofs.Each.{both_hold, Each, told, nobody_told}
use Rattle.irq_bits.specs.declared.limits.TheConstants.{MAX_CPUS}

-- ---- numbers that go up

all_filtered : (c t : Processor → Bool) (ps : List Processor) → list_all c ps ≡ true → list_all c (filter t ps) ≡ true
all_filtered c t [] h = refl
all_filtered c t (p ∷ ps) h =
    let each = both_hold (c p) (list_all c ps) h in
    elim (t p) as (λ b. list_all c (cond b (p ∷ filter t ps) (filter t ps)) ≡ true) [
      | true ↦ ap (λ b. b && list_all c (filter t ps)) each.0 ∙ all_filtered c t ps each.1
      | false ↦ all_filtered c t ps each.1
    ]

pub ascends_filtered : (t : Processor → Bool) (ps : List Processor) → Ascends ps → Ascends (filter t ps)
unfolding Ascends
ascends_filtered t [] h = tt
ascends_filtered t (p ∷ ps) h = elim (t p) as (λ b. Ascends (cond b (p ∷ filter t ps) (filter t ps))) [
  | true ↦ (all_filtered (λ q. nat_lt p.number q.number) t ps h.0, ascends_filtered t ps h.1)
  | false ↦ ascends_filtered t ps h.1
]

module _ (row : Row) where
  above : (m first count : ℕ) → m < first → list_all (λ q. nat_lt m q.number) (processors_in row (numbers_from first count)) ≡ true
  unfolding numbers_from
  above m first zero h = refl
  above m first (suc count) h =
      let later : m < first + 1 = omega (h, arith) in
      elim (apic_in row first) as (λ (x : Option LocalApic). list_all (λ q. nat_lt m q.number) (with_processor first x (processors_in row (numbers_from (first + 1) count))) ≡ true) [
        | None ↦ above m (first + 1) count later
        | Some a ↦ let here : nat_lt m first ≡ true = grind (h, arith) in
            ap (λ b. b && list_all (λ q. nat_lt m q.number) (processors_in row (numbers_from (first + 1) count))) here ∙ above m (first + 1) count later
      ]

  ascends_from : (first count : ℕ) → Ascends (processors_in row (numbers_from first count))
  unfolding numbers_from Ascends
  ascends_from first zero = tt
  ascends_from first (suc count) =
      elim (apic_in row first) as (λ (x : Option LocalApic). Ascends (with_processor first x (processors_in row (numbers_from (first + 1) count)))) [
        | None ↦ ascends_from (first + 1) count
        | Some a ↦ let next : first < first + 1 = omega arith in (above first (first + 1) count next, ascends_from (first + 1) count)
      ]

  pub ascends_between : (first end : ℕ) → Ascends (processors_in row (numbers_between first end))
  unfolding numbers_between
  ascends_between first end = ascends_from first (end - first)

-- ---- the first is the least

is_above : (m : ℕ) (ps : List Processor) → list_all (λ q. nat_lt m q.number) ps ≡ true → (k : ℕ) → set.contains (numbers_of ps) k ≡ true → m < k
is_above m [] h k c = absurd (true≢false (sym c ∙ contains-empty nat_cmp k))
is_above m (p ∷ ps) h k c =
    let each = both_hold (nat_lt m p.number) (list_all (λ q. nat_lt m q.number) ps) h in
    from (nat_eq k p.number) refl each.0 (sym (contains-insert_number (numbers_of ps) p.number k) ∙ c) (is_above m ps each.1 k)
  where
    from : (e : Bool) → nat_eq k p.number ≡ e → nat_lt m p.number ≡ true → (e || set.contains (numbers_of ps) k) ≡ true → (set.contains (numbers_of ps) k ≡ true → m < k) → m < k
    from true same here _ _ = grind (same, here, arith)
    from false _ _ later f = f later

least_first : (p : Processor) (ps : List Processor) → Ascends (p ∷ ps) → (n : ℕ) → IsLeast (numbers_of (p ∷ ps)) n → n ≡ p.number
unfolding Ascends
least_first p ps up n least = from (nat_eq n p.number) refl (sym (contains-insert_number (numbers_of ps) p.number n) ∙ least.in_set)
  where
    here : set.contains (numbers_of (p ∷ ps)) p.number ≡ true
    here = let itself : nat_eq p.number p.number ≡ true = grind arith in contains-insert_number (numbers_of ps) p.number p.number ∙ ap (λ t. t || set.contains (numbers_of ps) p.number) itself

    from : (e : Bool) → nat_eq n p.number ≡ e → (e || set.contains (numbers_of ps) n) ≡ true → n ≡ p.number
    from true same _ = grind (same, arith)
    from false _ later =
        let over : p.number < n = is_above p.number ps up.0 n later in
        let under : n ≤ p.number = least.no_less p.number here in
        absurd (omega (over, under, arith))

-- the first alone
pub first_told : (ps qs : List Processor) → Ascends ps → (n : ℕ) → IsLeast (numbers_of ps) n → set.insert set.empty n ≡ numbers_of (first_or ps qs)
first_told [] qs up n least = absurd (true≢false (sym least.in_set ∙ contains-empty nat_cmp n))
first_told (p ∷ ps) qs up n least = ap (λ m. set.insert set.empty m) (least_first p ps up n least)

pub alone_told : (ps : List Processor) → Ascends ps → (n : ℕ) → IsLeast (numbers_of ps) n → set.insert set.empty n ≡ numbers_of (first_alone ps)
alone_told [] up n least = absurd (true≢false (sym least.in_set ∙ contains-empty nat_cmp n))
alone_told (p ∷ ps) up n least = ap (λ m. set.insert set.empty m) (least_first p ps up n least)

each_any : (wish : Numbers) (ps : List Processor) → Each (λ p. set.contains wish p.number ≡ set.contains wish p.number) ps
unfolding Each
each_any wish [] = tt
each_any wish (p ∷ ps) = (refl, each_any wish ps)

wished : (wish : Numbers) (ps : List Processor) → set.intersection (numbers_of ps) wish ≡ numbers_of (filter (λ p. set.contains wish p.number) ps)
wished wish ps = same_set nat_cmp_total nat_cmp-IsAntisymmetric _ _ (λ k.
    contains-intersection nat_cmp_total (numbers_of ps) wish k
    ∙ sym (told (λ p. set.contains wish p.number) (λ k. set.contains wish k) ps (each_any wish ps) k))

module _ (lowest wish : Numbers) (ps : List Processor) (up : Ascends ps) (is : lowest ≡ numbers_of ps) where
  same_wished : set.intersection lowest wish ≡ numbers_of (filter (λ p. set.contains wish p.number) ps)
  same_wished = ap (λ s. set.intersection s wish) is ∙ wished wish ps

  -- one that is wished for
  pub preferred_wished : (n : ℕ) → IsLeast (set.intersection lowest wish) n → set.insert set.empty n ≡ numbers_of (preferred wish ps)
  preferred_wished n least = first_told (filter (λ p. set.contains wish p.number) ps) ps (ascends_filtered _ ps up) n (subst (λ s. IsLeast s n) same_wished least)

  module _ (none : set.intersection lowest wish ≡ set.empty) where
    others : preferred wish ps ≡ first_alone ps
    others = ap (λ l. first_or l ps) (nobody_told _ (sym same_wished ∙ none))

    -- else the first
    pub preferred_first : (n : ℕ) → IsLeast lowest n → set.insert set.empty n ≡ numbers_of (preferred wish ps)
    preferred_first n least = alone_told ps up n (subst (λ s. IsLeast s n) is least) ∙ ap numbers_of (sym others)

    pub preferred_nobody : lowest ≡ set.empty → set.empty ≡ numbers_of (preferred wish ps)
    preferred_nobody nobody = ap (λ l. numbers_of (first_alone l)) (sym (nobody_told ps (sym is ∙ nobody))) ∙ ap numbers_of (sym others)

-- ---- the least number that two sets have

pub common_least : (a b : Numbers) (n : ℕ) → set.contains a n ≡ true → set.contains b n ≡ true → ((k : ℕ) → k < n → (set.contains a k && set.contains b k) ≡ false) → IsLeast (set.intersection a b) n
common_least a b n in_a in_b before = record {
  in_set = contains-intersection nat_cmp_total a b n ∙ ap (λ t. t && set.contains b n) in_a ∙ in_b;
  no_less = λ k h. at k (nat_lt k n) refl (sym (contains-intersection nat_cmp_total a b k) ∙ h);
}
  where
    at : (k : ℕ) (t : Bool) → nat_lt k n ≡ t → (set.contains a k && set.contains b k) ≡ true → n ≤ k
    at k true less h = let under : k < n = grind (less, arith) in absurd (true≢false (sym h ∙ before k under))
    at k false more h = grind (more, arith)

pub common_none : (a b : Numbers) → ((k : ℕ) → k < MAX_CPUS → (set.contains a k && set.contains b k) ≡ false) → ((k : ℕ) → set.contains a k ≡ true → k < MAX_CPUS) → set.intersection a b ≡ set.empty
common_none a b none few = same_set nat_cmp_total nat_cmp-IsAntisymmetric _ _ (λ k. contains-intersection nat_cmp_total a b k ∙ at k (set.contains a k) refl ∙ sym (contains-empty nat_cmp k))
  where
    at : (k : ℕ) (t : Bool) → set.contains a k ≡ t → (set.contains a k && set.contains b k) ≡ false
    at k true h = none k (few k h)
    at k false h = ap (λ t. t && set.contains b k) h

-- ---- the mode

-- of a message to the lowest the preferred one is chosen
pub chosen_lowest : (mode : Mode) (wish : Numbers) (ps : List Processor) → goes_to_lowest mode ≡ true → chosen_of mode wish ps ≡ preferred wish (lowest_of ps)
chosen_lowest Lowest wish ps h = refl
chosen_lowest Fixed wish ps h = absurd (true≢false (sym h))
chosen_lowest Smi wish ps h = absurd (true≢false (sym h))
chosen_lowest Nmi wish ps h = absurd (true≢false (sym h))
chosen_lowest Init wish ps h = absurd (true≢false (sym h))
chosen_lowest Startup wish ps h = absurd (true≢false (sym h))
chosen_lowest ExtInt wish ps h = absurd (true≢false (sym h))
chosen_lowest Reserved wish ps h = absurd (true≢false (sym h))

-- of another all named ones are
pub chosen_all : (mode : Mode) (wish : Numbers) (ps : List Processor) → goes_to_lowest mode ≡ false → chosen_of mode wish ps ≡ ps
chosen_all Lowest wish ps h = absurd (true≢false h)
chosen_all Fixed wish ps h = refl
chosen_all Smi wish ps h = refl
chosen_all Nmi wish ps h = refl
chosen_all Init wish ps h = refl
chosen_all Startup wish ps h = refl
chosen_all ExtInt wish ps h = refl
chosen_all Reserved wish ps h = refl

-- nothing is in common with no numbers
pub common_with_none : (one other : Numbers) → other ≡ set.empty → set.intersection one other ≡ set.empty
common_with_none one other none = ap (set.intersection one) none ∙ same_set nat_cmp_total nat_cmp-IsAntisymmetric _ _ (λ k. contains-intersection nat_cmp_total one set.empty k ∙ ap (λ b. set.contains one k && b) (contains-empty nat_cmp k) ∙ and_false (set.contains one k) ∙ sym (contains-empty nat_cmp k))
  where
    and_false : (b : Bool) → (b && false) ≡ false
    and_false true = refl
    and_false false = refl
