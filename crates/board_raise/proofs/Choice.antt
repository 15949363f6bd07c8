-- Wishes choose exactly the sets that may be reached.
use Rattle.std.proofs.Common.{◌≡◌, ℕ, zero, suc, ◌≤◌, Bool, true, false, cond, ◌&&◌, ◌||◌, nat_eq, nat_le, filter, List, [], ◌∷◌, Any, All, refl, sym, ap, ◌∙◌, subst, suc-le-suc, le_of_suc-le-suc, zero-le, arith, true≢false}
use Rattle.std.specs.List.{list_all}
use Rattle.std.proofs.lemmas.List.Sums.{AllPass-from_list_all, list_all-from_AllPass}
use Rattle.std.specs.FinSet as set
use Rattle.std.specs.FinSet.{contains-empty}
use Rattle.std.specs.Ordering.{nat_cmp}
use Rattle.irq_bits.specs.SetLemmas.{contains-insert_number}
use Rattle.irq_bits.specs.Members.{Numbers}
use Rattle.irq_base.specs.declared.message.Mode.TheVariants.{Fixed, Lowest, Smi, Nmi, Init, Startup, ExtInt, Reserved}
use Rattle.lapic.specs.Priority.{ppr_of}
use Rattle.board_raise.specs.Named.{Processor, is_lowest, lowest_of, first_or, preferred, numbers_of, IsOneOfLowest}
use Rattle.board_raise.specs.Laws.{WishesChooseExactly}

-- ---- some element of a list

module _ {X : Type 0} where
  here : {P : X → Type 0} (x : X) (xs : List X) → P x → Any P (x ∷ xs)
  here x xs h = (0, x, suc-le-suc zero-le, refl, h)

  there : {P : X → Type 0} (x : X) (xs : List X) → Any P xs → Any P (x ∷ xs)
  there x xs (k, y, below, at, h) = (suc k, y, suc-le-suc below, at, h)

  either : {P : X → Type 0} {Q : Type 0} (x : X) (xs : List X) → (P x → Q) → (Any P xs → Q) → Any P (x ∷ xs) → Q
  either {P} x xs f g (zero, y, below, at, h) = f (subst P (sym at) h)
  either x xs f g (suc k, y, below, at, h) = g (k, y, le_of_suc-le-suc below, at, h)

  nowhere : {P : X → Type 0} {Q : Type 0} → Any P [] → Q
  nowhere (k, y, below, at, h) = absurd (omega (below, arith))

  weaker : {P Q : X → Type 0} (xs : List X) → ((x : X) → P x → Q x) → Any P xs → Any Q xs
  weaker xs f (k, y, below, at, h) = (k, y, below, at, f y h)

  module _ (p : X → Bool) {P : X → Type 0} where
    unfiltered : (xs : List X) → Any P (filter p xs) → Any (λ x. (p x ≡ true) × P x) xs
    unfiltered [] h = nowhere h
    unfiltered (x ∷ xs) h = elim (p x) as (λ t. p x ≡ t → Any P (cond t (x ∷ filter p xs) (filter p xs)) → Any (λ x. (p x ≡ true) × P x) (x ∷ xs)) [
      | true ↦ λ passes h. either x (filter p xs) (λ px. here x xs (passes, px)) (λ later. there x xs (unfiltered xs later)) h
      | false ↦ λ _ h. there x xs (unfiltered xs h)
    ] refl h

    filtered : (xs : List X) → ((x : X) → P x → p x ≡ true) → Any P xs → Any P (filter p xs)
    filtered [] passes h = nowhere h
    filtered (x ∷ xs) passes h = elim (p x) as (λ t. p x ≡ t → Any P (cond t (x ∷ filter p xs) (filter p xs))) [
      | true ↦ λ _. either x xs (λ px. here x (filter p xs) px) (λ later. there x (filter p xs) (filtered xs passes later)) h
      | false ↦ λ fails. either x xs (λ px. absurd (true≢false (sym (passes x px) ∙ fails))) (λ later. filtered xs passes later) h
    ] refl

-- ---- the lowest

-- what is at most a is at most all that a is at most
pub at_most_all : {X : Type 0} (f : X → ℕ) (a b : ℕ) → b ≤ a → (xs : List X) → list_all (λ o. nat_le a (f o)) xs ≡ true → list_all (λ o. nat_le b (f o)) xs ≡ true
at_most_all f a b less [] h = refl
at_most_all f a b less (x ∷ xs) h = elim (nat_le a (f x)) as (λ t. nat_le a (f x) ≡ t → (t && list_all (λ o. nat_le a (f o)) xs) ≡ true → (nat_le b (f x) && list_all (λ o. nat_le b (f o)) xs) ≡ true) [
  | true ↦ λ first rest. let first_too : nat_le b (f x) ≡ true = grind (less, first, arith) in ap (λ t. t && list_all (λ o. nat_le b (f o)) xs) first_too ∙ at_most_all f a b less xs rest
  | false ↦ λ _ rest. absurd (true≢false (sym rest))
] refl h

-- a list has an element that is at most all of it
some_least : {X : Type 0} (f : X → ℕ) (x : X) (xs : List X) → Any (λ q. list_all (λ o. nat_le (f q) (f o)) (x ∷ xs) ≡ true) (x ∷ xs)
some_least f x [] = let itself : (nat_le (f x) (f x) && true) ≡ true = grind arith in here x [] itself
some_least {X} f x (y ∷ ys) = from (some_least f y ys)
  where
    from : Any (λ q. list_all (λ o. nat_le (f q) (f o)) (y ∷ ys) ≡ true) (y ∷ ys) → Any (λ q. list_all (λ o. nat_le (f q) (f o)) (x ∷ y ∷ ys) ≡ true) (x ∷ y ∷ ys)
    from (k, m, below, at, least) = elim (nat_le (f x) (f m)) as (λ t. nat_le (f x) (f m) ≡ t → Any (λ q. list_all (λ o. nat_le (f q) (f o)) (x ∷ y ∷ ys) ≡ true) (x ∷ y ∷ ys)) [
      | true ↦ λ less.
          let itself : nat_le (f x) (f x) ≡ true = grind arith in
          let under : f x ≤ f m = grind (less, arith)
          in here x (y ∷ ys) (ap (λ t. t && list_all (λ o. nat_le (f x) (f o)) (y ∷ ys)) itself ∙ at_most_all f (f m) (f x) under (y ∷ ys) least)
      | false ↦ λ more.
          let under : nat_le (f m) (f x) ≡ true = grind (more, arith)
          in there x (y ∷ ys) (k, m, below, at, ap (λ t. t && list_all (λ o. nat_le (f m) (f o)) (y ∷ ys)) under ∙ least)
    ] refl

-- ---- the preferred one

abbrev alone : ℕ → Numbers
alone n = set.insert set.empty n

alone_has : (n k : ℕ) → set.contains (alone n) k ≡ nat_eq k n
alone_has n k = contains-insert_number set.empty n k ∙ ap (λ b. nat_eq k n || b) (contains-empty nat_cmp k) ∙ or_false (nat_eq k n)
  where
    or_false : (b : Bool) → (b || false) ≡ b
    or_false true = refl
    or_false false = refl

-- of some processors one is preferred, alone
one_preferred : (wish : Numbers) (xs : List Processor) → Any (λ _. Unit {0}) xs → Any (λ q. numbers_of (preferred wish xs) ≡ alone q.number) xs
one_preferred wish [] h = nowhere h
one_preferred wish (x ∷ xs) _ = from (filter (λ p. set.contains wish p.number) (x ∷ xs)) refl
  where
    from : (wished : List Processor) → filter (λ p. set.contains wish p.number) (x ∷ xs) ≡ wished → Any (λ q. numbers_of (first_or wished (x ∷ xs)) ≡ alone q.number) (x ∷ xs)
    from [] is = here x xs refl
    from (w ∷ ws) is =
        weaker (x ∷ xs) (λ q h. h.1)
        (unfiltered (λ p. set.contains wish p.number) (x ∷ xs) (subst (λ l. Any (λ q. alone w.number ≡ alone q.number) l) (sym is) (here w ws refl)))

-- where one of that number is among them, the wish for it is granted
granted : (n : ℕ) (xs : List Processor) → Any (λ q. q.number ≡ n) xs → numbers_of (preferred (alone n) xs) ≡ alone n
granted n xs h = from (filter (λ p. set.contains (alone n) p.number) xs) refl
  where
    within : (q : Processor) → q.number ≡ n → set.contains (alone n) q.number ≡ true
    within q is = alone_has n q.number ∙ grind (is, arith)

    from : (wished : List Processor) → filter (λ p. set.contains (alone n) p.number) xs ≡ wished → numbers_of (first_or wished xs) ≡ alone n
    from [] is = nowhere (subst (λ l. Any (λ q. q.number ≡ n) l) is (filtered (λ p. set.contains (alone n) p.number) xs within h))
    from (w ∷ ws) is = ap alone (same (unfiltered (λ p. set.contains (alone n) p.number) xs (subst (λ l. Any (λ q. w.number ≡ q.number) l) (sym is) (here w ws refl))))
      where
        same : Any (λ q. (set.contains (alone n) q.number ≡ true) × (w.number ≡ q.number)) xs → w.number ≡ n
        same (k, q, below, at, (wished, is)) = let number : q.number ≡ n = grind (sym (alone_has n q.number) ∙ wished, arith) in is ∙ number

-- ---- exactly

test_at_most : (a b : ℕ) → nat_le a b ≡ true → a ≤ b
test_at_most a b h = grind (h, arith)

at_most_tested : (a b : ℕ) → a ≤ b → nat_le a b ≡ true
at_most_tested a b h = grind (h, arith)

lowest_only : (wish : Numbers) (p : Processor) (ps : List Processor) → Any (IsOneOfLowest (p ∷ ps) (numbers_of (preferred wish (lowest_of (p ∷ ps))))) (p ∷ ps)
lowest_only wish p ps =
    weaker (p ∷ ps) (λ q (least, one). record { lowest = at_most q least; alone = one })
    (unfiltered (is_lowest (p ∷ ps)) (p ∷ ps) (one_preferred wish (lowest_of (p ∷ ps)) someone))
  where
    someone : Any (λ _. Unit {0}) (lowest_of (p ∷ ps))
    someone = weaker (lowest_of (p ∷ ps)) (λ q _. tt) (filtered (is_lowest (p ∷ ps)) (p ∷ ps) (λ q least. least) (some_least (λ o. ppr_of o.apic) p ps))

    at_most : (q : Processor) → is_lowest (p ∷ ps) q ≡ true → All (λ other. ppr_of q.apic ≤ ppr_of other.apic) (p ∷ ps)
    at_most q least k d below = test_at_most _ _ (AllPass-from_list_all (λ o. nat_le (ppr_of q.apic) (ppr_of o.apic)) (p ∷ ps) least k d below)

lowest_every : (s : Numbers) (named : List Processor) → Any (IsOneOfLowest named s) named → (wish : Numbers) × (numbers_of (preferred wish (lowest_of named)) ≡ s)
lowest_every s named (k, q, below, at, is) = (alone q.number, granted q.number (lowest_of named) among ∙ sym is.alone)
  where
    least : is_lowest named q ≡ true
    least = list_all-from_AllPass (λ o. nat_le (ppr_of q.apic) (ppr_of o.apic)) named (λ k d below. at_most_tested _ _ (is.lowest k d below))

    among : Any (λ o. o.number ≡ q.number) (lowest_of named)
    among = weaker {P = λ o. o ≡ q} (lowest_of named) (λ o e. ap (λ (x : Processor). x.number) e) (filtered (is_lowest named) named (λ o e. ap (is_lowest named) e ∙ least) (k, q, below, at, refl))

pub wishes_choose_exactly : WishesChooseExactly
wishes_choose_exactly mode [] someone = absurd (omega (someone, arith))
wishes_choose_exactly Lowest (p ∷ ps) someone = record { only = λ wish. lowest_only wish p ps; every = λ s is. lowest_every s (p ∷ ps) is }
wishes_choose_exactly Fixed (p ∷ ps) someone = record { only = λ wish. refl; every = λ s is. (set.empty, sym is) }
wishes_choose_exactly Smi (p ∷ ps) someone = record { only = λ wish. refl; every = λ s is. (set.empty, sym is) }
wishes_choose_exactly Nmi (p ∷ ps) someone = record { only = λ wish. refl; every = λ s is. (set.empty, sym is) }
wishes_choose_exactly Init (p ∷ ps) someone = record { only = λ wish. refl; every = λ s is. (set.empty, sym is) }
wishes_choose_exactly Startup (p ∷ ps) someone = record { only = λ wish. refl; every = λ s is. (set.empty, sym is) }
wishes_choose_exactly ExtInt (p ∷ ps) someone = record { only = λ wish. refl; every = λ s is. (set.empty, sym is) }
wishes_choose_exactly Reserved (p ∷ ps) someone = record { only = λ wish. refl; every = λ s is. (set.empty, sym is) }
