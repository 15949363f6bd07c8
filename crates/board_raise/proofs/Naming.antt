-- The named processors of a row, and those of them with the least priority.
use Rattle.std.proofs.Common.{◌≡◌, ℕ, ◌+◌, ◌<◌, ◌≤◌, Bool, true, false, cond, ◌&&◌, nat_eq, nat_lt, nat_le, filter, if◌then◌else◌, List, [], ◌∷◌, refl, sym, ap, ◌∙◌, arith, true≢false, Some, None}
use Rattle.std.specs.List.{list_all}
use Rattle.std.specs.declared.option.Option.{Option}
use Rattle.std.specs.FinSet as set
use Rattle.irq_bits.specs.Members.{Numbers}
use Rattle.irq_base.specs.declared.message.Message.{Message}
use Rattle.lapic.specs.declared.outcome.Shorthand.{Shorthand}
use Rattle.lapic.specs.Registers.{LocalApic}
use Rattle.lapic.specs.Priority.{ppr_of}
use Rattle.board_raise.specs.declared.sending.Naming.{Naming}
use Rattle.board_raise.specs.Named.{Processor, is_named, is_lowest, lowest_of, numbers_of}
use Rattle.board_raise.specs.OnRow.{Row, apic_in, with_processor, processors_in, named_in}
use Rattle.board_raise.specs.RowSteps.{numbers_between, priority_named, with_named, naming_of}
use Rattle.board_raise.proofs.Between.{between_next}
use Rattle.board_raise.proofs.Each.{both_hold}
use Rattle.board_raise.proofs.Choice.{at_most_all}

-- the priority is a byte
abbrev pub is_small : Processor → Bool
is_small p = nat_le (ppr_of p.apic) 255

-- ---- one processor more

module _ (row : Row) (n k end : ℕ) (message : Message) (from : Option (ℕ × Shorthand)) (below : n < end) (next : k ≡ n + 1) where
  step : named_in row (numbers_between n end) message from ≡ filter (is_named message from) (with_processor n (apic_in row n) (processors_in row (numbers_between k end)))
  step =
      ap (λ l. named_in row l message from) (between_next n end below)
      ∙ ap (λ j. filter (is_named message from) (with_processor n (apic_in row n) (processors_in row (numbers_between j end)))) (sym next)

  pub named_none : None ≡ priority_named n (apic_in row n) message from → named_in row (numbers_between n end) message from ≡ named_in row (numbers_between k end) message from
  named_none h = step ∙ at (apic_in row n) h
    where
      at : (x : Option LocalApic) → None ≡ priority_named n x message from → filter (is_named message from) (with_processor n x (processors_in row (numbers_between k end))) ≡ named_in row (numbers_between k end) message from
      at None h = refl
      at (Some a) h = elim (is_named message from (record { number = n; apic = a })) as (λ t. None ≡ (if t then Some (ppr_of a) else None)
          → cond t (record { number = n; apic = a } ∷ named_in row (numbers_between k end) message from) (named_in row (numbers_between k end) message from) ≡ named_in row (numbers_between k end) message from) [
            | true ↦ λ h. absurd (cc)
            | false ↦ λ _. refl
          ] h

  pub named_some : (priority : ℕ) → Some priority ≡ priority_named n (apic_in row n) message from
      → (apic : LocalApic) × (ppr_of apic ≡ priority) × (named_in row (numbers_between n end) message from ≡ record { number = n; apic = apic } ∷ named_in row (numbers_between k end) message from)
  named_some priority h = at (apic_in row n) refl h
    where
      at : (x : Option LocalApic) → apic_in row n ≡ x → Some priority ≡ priority_named n x message from
          → (apic : LocalApic) × (ppr_of apic ≡ priority) × (named_in row (numbers_between n end) message from ≡ record { number = n; apic = apic } ∷ named_in row (numbers_between k end) message from)
      at None is h = absurd (cc)
      at (Some a) is h = elim (is_named message from (record { number = n; apic = a })) as (λ t. is_named message from (record { number = n; apic = a }) ≡ t → Some priority ≡ (if t then Some (ppr_of a) else None)
          → (apic : LocalApic) × (ppr_of apic ≡ priority) × (named_in row (numbers_between n end) message from ≡ record { number = n; apic = apic } ∷ named_in row (numbers_between k end) message from)) [
            | true ↦ λ named h.
                let same : ppr_of a ≡ priority = cc in (
                  a,
                  same,
                  step
                      ∙ ap (λ x. filter (is_named message from) (with_processor n x (processors_in row (numbers_between k end)))) is
                      ∙ ap (λ t. cond t (record { number = n; apic = a } ∷ named_in row (numbers_between k end) message from) (named_in row (numbers_between k end) message from)) named,
                )
            | false ↦ λ _ h. absurd (cc)
          ] refl h

  pub naming_more : (s : Naming) (priority : ℕ) → s ≡ naming_of (named_in row (numbers_between k end) message from) → Some priority ≡ priority_named n (apic_in row n) message from
      → with_named s n priority ≡ naming_of (named_in row (numbers_between n end) message from)
  unfolding naming_of
  naming_more s priority rest h =
      let (apic, same, more) = named_some priority h in
      ap (λ s. with_named s n priority) rest
      ∙ ap (λ p. with_named (naming_of (named_in row (numbers_between k end) message from)) n p) (sym same)
      ∙ ap naming_of (sym more)

  pub small_more : (priority : ℕ) → priority < 256 → list_all is_small (named_in row (numbers_between k end) message from) ≡ true → Some priority ≡ priority_named n (apic_in row n) message from
      → list_all is_small (named_in row (numbers_between n end) message from) ≡ true
  small_more priority range rest h =
      let (apic, same, more) = named_some priority h in
      let small : nat_le (ppr_of apic) 255 ≡ true = grind (same, range, arith) in
      ap (list_all is_small) more ∙ ap (λ t. t && list_all is_small (named_in row (numbers_between k end) message from)) small ∙ rest

-- ---- what is told of them all

-- one of three
abbrev pick : Bool → Bool → Naming → Naming → Naming → Naming
pick less same a b c = if less then a else if same then b else c

pick-all : (less same : Bool) (a b c : Naming) → b.all ≡ a.all → c.all ≡ a.all → (pick less same a b c).all ≡ a.all
pick-all true same a b c g h = refl
pick-all false true a b c g h = g
pick-all false false a b c g h = h

pick-least : (less same : Bool) (a b c : Naming) → c.least ≡ b.least → (pick less same a b c).least ≡ (if less then a.least else b.least)
pick-least true same a b c h = refl
pick-least false true a b c h = refl
pick-least false false a b c h = h

pub naming-all : (ps : List Processor) → (naming_of ps).all ≡ numbers_of ps
unfolding naming_of
naming-all [] = refl
naming-all (p ∷ ps) = pick-all (nat_lt (ppr_of p.apic) (naming_of ps).least) (nat_eq (ppr_of p.apic) (naming_of ps).least) _ _ _ refl refl ∙ ap (λ s. set.insert s p.number) (naming-all ps)

-- the least priority of these processors
least_of : List Processor → ℕ
least_of ps = (naming_of ps).least

least_next : (p : Processor) (ps : List Processor) → least_of (p ∷ ps) ≡ (if nat_lt (ppr_of p.apic) (least_of ps) then ppr_of p.apic else least_of ps)
unfolding least_of naming_of
least_next p ps = pick-least (nat_lt (ppr_of p.apic) (naming_of ps).least) (nat_eq (ppr_of p.apic) (naming_of ps).least) _ _ _ refl

all_at_least : (ps : List Processor) → list_all (λ o. nat_le (least_of ps) (ppr_of o.apic)) ps ≡ true
all_at_least [] = refl
all_at_least (p ∷ ps) = ap (λ l. list_all (λ o. nat_le l (ppr_of o.apic)) (p ∷ ps)) (least_next p ps) ∙ at (nat_lt (ppr_of p.apic) (least_of ps)) refl (all_at_least ps)
  where
    at : (t : Bool) → nat_lt (ppr_of p.apic) (least_of ps) ≡ t → list_all (λ o. nat_le (least_of ps) (ppr_of o.apic)) ps ≡ true
        → list_all (λ o. nat_le (if t then ppr_of p.apic else least_of ps) (ppr_of o.apic)) (p ∷ ps) ≡ true
    at true less rest =
        let itself : nat_le (ppr_of p.apic) (ppr_of p.apic) ≡ true = grind arith in
        let under : ppr_of p.apic ≤ least_of ps = grind (less, arith) in
        ap (λ t. t && list_all (λ o. nat_le (ppr_of p.apic) (ppr_of o.apic)) ps) itself ∙ at_most_all (λ (o : Processor). ppr_of o.apic) (least_of ps) (ppr_of p.apic) under ps rest
    at false more rest =
        let over : nat_le (least_of ps) (ppr_of p.apic) ≡ true = grind (more, arith) in
        ap (λ t. t && list_all (λ o. nat_le (least_of ps) (ppr_of o.apic)) ps) over ∙ rest

at_most_least : (k : ℕ) → k ≤ 255 → (ps : List Processor) → list_all (λ o. nat_le k (ppr_of o.apic)) ps ≡ true → k ≤ least_of ps
unfolding least_of naming_of
at_most_least k small [] h = small
at_most_least k small (p ∷ ps) h =
    let each = both_hold (nat_le k (ppr_of p.apic)) (list_all (λ o. nat_le k (ppr_of o.apic)) ps) h in
    let later : k ≤ least_of ps = at_most_least k small ps each.1 in
    at (nat_lt (ppr_of p.apic) (least_of ps)) (least_of (p ∷ ps)) (least_next p ps) each.0 later
  where
    at : (t : Bool) (l : ℕ) → l ≡ (if t then ppr_of p.apic else least_of ps) → nat_le k (ppr_of p.apic) ≡ true → k ≤ least_of ps → k ≤ l
    at true l is here later = grind (is, here, arith)
    at false l is here later = grind (is, later, arith)

pub naming_none : (all lowest : Numbers) → all ≡ set.empty → lowest ≡ set.empty → record { all = all; lowest = lowest; least = 255 } ≡ naming_of []
unfolding naming_of
naming_none all lowest a l = λ i. record { all = a i; lowest = l i; least = 255 }

-- nobody has a priority below what all have at least
none_equal : (k j : ℕ) → k < j → (ps : List Processor) → list_all (λ o. nat_le j (ppr_of o.apic)) ps ≡ true → filter (λ o. nat_eq (ppr_of o.apic) k) ps ≡ []
none_equal k j less [] h = refl
none_equal k j less (p ∷ ps) h =
    let each = both_hold (nat_le j (ppr_of p.apic)) (list_all (λ o. nat_le j (ppr_of o.apic)) ps) h in
    let other : nat_eq (ppr_of p.apic) k ≡ false = grind (less, each.0, arith) in
    ap (λ t. cond t (p ∷ filter (λ o. nat_eq (ppr_of o.apic) k) ps) (filter (λ o. nat_eq (ppr_of o.apic) k) ps)) other ∙ none_equal k j less ps each.1

-- those of a priority
abbrev those_of : ℕ → List Processor → List Processor
those_of k ps = filter (λ o. nat_eq (ppr_of o.apic) k) ps

abbrev with_p : Bool → Processor → ℕ → List Processor → List Processor
with_p t p k ps = cond t (p ∷ those_of k ps) (those_of k ps)

lowest_equal : (ps : List Processor) → (naming_of ps).lowest ≡ numbers_of (those_of (least_of ps) ps)
unfolding naming_of least_of
lowest_equal [] = refl
lowest_equal (p ∷ ps) = at (nat_lt (ppr_of p.apic) (least_of ps)) (nat_eq (ppr_of p.apic) (least_of ps)) refl refl (lowest_equal ps) ∙ ap (λ l. numbers_of (those_of l (p ∷ ps))) (sym (least_next p ps))
  where
    at : (less same : Bool) → nat_lt (ppr_of p.apic) (least_of ps) ≡ less → nat_eq (ppr_of p.apic) (least_of ps) ≡ same → (naming_of ps).lowest ≡ numbers_of (those_of (least_of ps) ps)
        → (pick less same (record { all = set.insert (naming_of ps).all p.number; lowest = set.insert set.empty p.number; least = ppr_of p.apic })
        (record { all = set.insert (naming_of ps).all p.number; lowest = set.insert (naming_of ps).lowest p.number; least = (naming_of ps).least })
        (record { all = set.insert (naming_of ps).all p.number; lowest = (naming_of ps).lowest; least = (naming_of ps).least })).lowest
        ≡ numbers_of (those_of (if less then ppr_of p.apic else least_of ps) (p ∷ ps))
    at true same less other rest =
        let itself : nat_eq (ppr_of p.apic) (ppr_of p.apic) ≡ true = grind arith in
        let under : ppr_of p.apic < least_of ps = grind (less, arith) in
        sym (ap (λ t. numbers_of (with_p t p (ppr_of p.apic) ps)) itself ∙ ap (λ l. set.insert (numbers_of l) p.number) (none_equal (ppr_of p.apic) (least_of ps) under ps (all_at_least ps)))
    at false true more equal rest = ap (λ s. set.insert s p.number) rest ∙ sym (ap (λ t. numbers_of (with_p t p (least_of ps) ps)) equal)
    at false false more other rest = rest ∙ sym (ap (λ t. numbers_of (with_p t p (least_of ps) ps)) other)

-- where two tests agree wherever a third holds, and it holds of all, they let the same through
filter_alike : {X : Type 0} (c t u : X → Bool) → ((x : X) → c x ≡ true → t x ≡ u x) → (xs : List X) → list_all c xs ≡ true → filter t xs ≡ filter u xs
filter_alike c t u alike [] h = refl
filter_alike c t u alike (x ∷ xs) h =
    let each = both_hold (c x) (list_all c xs) h in
    ap (λ b. cond b (x ∷ filter t xs) (filter t xs)) (alike x each.0)
    ∙ ap (λ l. cond (u x) (x ∷ l) l) (filter_alike c t u alike xs each.1)

both_all : {X : Type 0} (c d : X → Bool) → (xs : List X) → list_all c xs ≡ true → list_all d xs ≡ true → list_all (λ x. c x && d x) xs ≡ true
both_all c d [] g h = refl
both_all c d (x ∷ xs) g h =
    let one = both_hold (c x) (list_all c xs) g in
    let other = both_hold (d x) (list_all d xs) h in
    ap (λ b. b && list_all (λ x. c x && d x) xs) (ap (λ b. b && d x) one.0 ∙ other.0) ∙ both_all c d xs one.1 other.1

-- a priority that is at most 255 and at least the least is the least exactly where none is lower
is_lowest_equal : (ps : List Processor) (o : Processor) → (nat_le (least_of ps) (ppr_of o.apic) && nat_le (ppr_of o.apic) 255) ≡ true → is_lowest ps o ≡ nat_eq (ppr_of o.apic) (least_of ps)
is_lowest_equal ps o h = at (is_lowest ps o) (nat_eq (ppr_of o.apic) (least_of ps)) refl refl
  where
    at : (t e : Bool) → is_lowest ps o ≡ t → nat_eq (ppr_of o.apic) (least_of ps) ≡ e → t ≡ e
    at true true _ _ = refl
    at false false _ _ = refl
    at true false lowest other =
        let each = both_hold (nat_le (least_of ps) (ppr_of o.apic)) (nat_le (ppr_of o.apic) 255) h in
        let small : ppr_of o.apic ≤ 255 = grind (each.1, arith) in
        let under : ppr_of o.apic ≤ least_of ps = at_most_least (ppr_of o.apic) small ps lowest in
        let equal : nat_eq (ppr_of o.apic) (least_of ps) ≡ true = grind (under, each.0, arith) in
        absurd (true≢false (sym equal ∙ other))
    at false true not_lowest equal =
        let same : least_of ps ≡ ppr_of o.apic = grind (equal, arith) in
        absurd (true≢false (sym (ap (λ k. list_all (λ p. nat_le k (ppr_of p.apic)) ps) (sym same) ∙ all_at_least ps) ∙ not_lowest))

pub naming-lowest : (ps : List Processor) → list_all is_small ps ≡ true → (naming_of ps).lowest ≡ numbers_of (lowest_of ps)
naming-lowest ps small =
    lowest_equal ps
    ∙ ap numbers_of (sym (filter_alike (λ o. nat_le (least_of ps) (ppr_of o.apic) && is_small o) (is_lowest ps) (λ o. nat_eq (ppr_of o.apic) (least_of ps)) (is_lowest_equal ps) ps
    (both_all (λ o. nat_le (least_of ps) (ppr_of o.apic)) is_small ps (all_at_least ps) small)))
