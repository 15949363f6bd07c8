use Rattle.std.proofs.Common.{◌≡◌, ℕ, ◌≤◌, Bool, true, false, ◌&&◌, nat_eq, nat_lt, refl, sym, ap, ◌∙◌, arith}
use Rattle.std.proofs.lemmas.Bool.Decides.{nat_tests, Decides-eqb}
use Rattle.std.specs.Ordering.{nat_cmp}
use Rattle.std.specs.FinSet as set
use Rattle.ioapic_82093aa.specs.Entries.{entry_in, vector_is}
use Rattle.ioapic_82093aa.specs.declared.entry.Entry.{Entry}
use Rattle.ioapic_82093aa.proofs.Vectors.{none_has, one_more, no_more}
use Rattle.ioapic_82093aa.proofs.entries.Entries.with.Goals as goal
use Rattle.ioapic_82093aa.proofs.entries.Entries.with.Goals.{then-at-vector, else-at-vector}

pub returns-then-not-has : goal.returns-then-not-has
returns-then-not-has c pin below =
    ap (λ s. set.contains s pin) c.none.ensures ∙ set.contains-empty nat_cmp pin
    ∙ none_has c.self.inside.table.entries c.self.inside.vectors c.args.vector pin c.self.invariant (sym c.has.ensures ∙ c.if-not-has.true) below
    ∙ ap (λ entries. vector_is entries c.args.vector pin) c.self.view_is

pub loop-number-init : goal.loop-number-init
loop-number-init c n below = ap (λ s. set.contains s n) c.none-pins.ensures ∙ set.contains-empty nat_cmp n ∙ none_before
  where
    none_before : false ≡ (nat_lt n 0 && vector_is c.args.self.now c.args.vector n)
    none_before = grind (arith, nat_tests)

pub loop-number-preserved : goal.loop-number-preserved
loop-number-preserved c n below =
    let has = vector_is c.args.self.now c.args.vector in
    let here : nat_eq c.at.result.vector c.args.vector ≡ has c.loop-number.number =
    ap (λ (e : Entry). nat_eq e.vector c.args.vector) (c.at.ensures ∙ ap (entry_in c.args.self.now) c.of-pin.ensures) in
    elim c.if-at-vector.branch [
      | then-at-vector w ↦
          ap (λ s. set.contains s n) (w.pins-is ∙ w.insert.ensures ∙ ap (set.insert c.loop-number.pins) c.of-pin.ensures)
          ∙ one_more has c.loop-number.pins c.loop-number.number n (c.loop-number.invariant n below) (sym here ∙ (Decides-eqb c.at.result.vector c.args.vector).1 w.if-at-vector.true)
      | else-at-vector w ↦
          ap (λ s. set.contains s n) w.pins-is
          ∙ no_more has c.loop-number.pins c.loop-number.number n (c.loop-number.invariant n below) (sym here ∙ not_same c.at.result.vector c.args.vector w.if-at-vector.false)
    ]
  where
    not_same : (a b : ℕ) → (a ≡ b → ⊥) → nat_eq a b ≡ false
    not_same a b other = elim (nat_eq a b) as (λ t. nat_eq a b ≡ t → t ≡ false) [
      | true ↦ λ e. absurd (other ((Decides-eqb a b).0 e))
      | false ↦ λ _. refl
    ] refl

pub returns : goal.returns
returns c pin below =
    c.loop-number.invariant pin below
    ∙ (let past = c.loop-number-test.false in all_before (vector_is c.args.self.now c.args.vector pin) c.loop-number.number past)
  where
    all_before : (b : Bool) (k : ℕ) → 24 ≤ k → (nat_lt pin k && b) ≡ b
    all_before b k past = grind (arith, nat_tests)
