-- Endings are judged by what each actor asks next.
use Rattle.std.proofs.Common.{◌≡◌, ℕ, ◌+◌, ◌<◌, ◌≤◌, ◌↔◌, inl, inr, Bool, true, false, IsTrue, List, is_some, refl, ap, sym, ◌∙◌, subst, Some, None, arith}
use Rattle.std.specs.declared.option.Option.{Option}
use Rattle.std.proofs.lemmas.Bool.Decides.{eqb_tells}
use Rattle.irq_base.specs.declared.call.Call.{Call}
use Rattle.irq_base.specs.declared.call.Caller.{Caller}
use Rattle.irq_base.specs.declared.lists.Entry.{Entry}
use Rattle.board_model.specs.Board.{Board}
use Rattle.board_step.specs.Step.{spent_of}
use Rattle.script_text.specs.Asks.{caller_at}
use Rattle.script_text.specs.Scripts.{Script}
use Rattle.script_merging.specs.Merging.{next_of, IsWhole}
use Rattle.script_histories.specs.Merging.{AreBarred}
use Rattle.legal_check.specs.Standing.{actors_in}
use Rattle.legal_check.proofs.Known.{of-actors}

-- what an actor asks next behind these entries
abbrev pub next_at : Script → List Entry → ℕ → Option Call
next_at s entries k = next_of s entries (caller_at s.lines k)

none-some : {A : Type 0} {x : A} → None ≡ Some x → ⊥
none-some e = cc

some-none : {A : Type 0} (o : Option A) → o ≡ None → is_some o ≡ true → ⊥
some-none o none some = absurd (wrong (sym (ap is_some none) ∙ some))
  where
    wrong : false ≡ true → ⊥
    wrong e = cc

last-or-below : (P : ℕ → Type 0) (n : ℕ) → ((k : ℕ) → k < n → P k) → P n → (k : ℕ) → k < n + 1 → P k
last-or-below P n each last k below = elim (eqb_tells k n) [
  | inl h ↦ subst P (sym h.1) last
  | inr h ↦ each k (less h.1)
]
  where
    less : (k ≡ n → ⊥) → k < n
    less apart = grind (arith, below, apart)

-- the first n actors ask nothing more
abbrev pub AreDone : Script → List Entry → ℕ → Type 0
AreDone s entries n = (k : ℕ) → k < n → next_at s entries k ≡ None

pub one-done : (s : Script) (entries : List Entry) (n : ℕ) → AreDone s entries n → next_at s entries n ≡ None → AreDone s entries (n + 1)
one-done s entries n done this = last-or-below (λ k. next_at s entries k ≡ None) n done this

pub all-done : (s : Script) (entries : List Entry) → AreDone s entries (actors_in s) → IsWhole s entries
all-done s entries done who = elim (of-actors s who) [
  | inl w ↦ subst (λ (c : Caller). next_of s entries c ≡ None) w.2 (done w.0 w.1)
  | inr silent ↦ silent entries
]

pub not-whole : (s : Script) (entries : List Entry) (k : ℕ) (call : Call) → next_at s entries k ≡ Some call → IsWhole s entries → ⊥
not-whole s entries k call some whole = none-some (sym (whole (caller_at s.lines k)) ∙ some)

-- of the first n actors a limit bars each that asks more; whether there is one
pub record BarredSoFar (s : Script) (entries : List Entry) (b : Board) (n : ℕ) (some : Bool) : Type 0 where
  pub barred : (k : ℕ) → k < n → (call : Call) → next_at s entries k ≡ Some call → is_some (spent_of b call) ≡ true
  pub left : some ≡ true → (k : ℕ) × (k < n) × (is_some (next_at s entries k) ≡ true)
  pub done : some ≡ false → AreDone s entries n

pub none-yet : (s : Script) (entries : List Entry) (b : Board) → BarredSoFar s entries b 0 false
none-yet s entries b = record {
  barred = λ k below. absurd (omega (arith, below));
  left = λ h. absurd (cc);
  done = λ _ k below. absurd (omega (arith, below));
}

pub one-passed : (s : Script) (entries : List Entry) (b : Board) (n : ℕ) (some : Bool) → next_at s entries n ≡ None → BarredSoFar s entries b n some →
    BarredSoFar s entries b (n + 1) some
one-passed s entries b n some none far = record {
  barred = last-or-below (λ k. (call : Call) → next_at s entries k ≡ Some call → is_some (spent_of b call) ≡ true) n far.barred
      (λ call is. absurd (none-some (sym none ∙ is)));
  left = λ h. let (k, below, is) = far.left h in (k, omega (arith, below), is);
  done = λ h. one-done s entries n (far.done h) none;
}

pub one-barred : (s : Script) (entries : List Entry) (b : Board) (n : ℕ) (some : Bool) (call : Call) → next_at s entries n ≡ Some call →
    is_some (spent_of b call) ≡ true → BarredSoFar s entries b n some → BarredSoFar s entries b (n + 1) true
one-barred s entries b n some call asks spent far = record {
  barred = last-or-below (λ k. (call : Call) → next_at s entries k ≡ Some call → is_some (spent_of b call) ≡ true) n far.barred
      (λ other is. subst (λ (c : Call). is_some (spent_of b c) ≡ true) (one call other (sym asks ∙ is)) spent);
  left = λ _. (n, omega arith, ap is_some asks);
  done = λ h. absurd (cc);
}
  where
    one : (x y : Call) → Some x ≡ Some y → x ≡ y
    one x y h = cc

pub not-barred : (s : Script) (entries : List Entry) (b : Board) (k : ℕ) (call : Call) → next_at s entries k ≡ Some call →
    (is_some (spent_of b call) ≡ true → ⊥) → AreBarred s entries b → ⊥
not-barred s entries b k call asks free all = free (all.barred (caller_at s.lines k) call asks)

pub all-barred : (s : Script) (entries : List Entry) (b : Board) (n : ℕ) (some : Bool) → actors_in s ≤ n → BarredSoFar s entries b n some →
    IsTrue some ↔ AreBarred s entries b
all-barred s entries b n true over far = ((λ _. barred), (λ _. refl))
  where
    each : (other : Caller) (call : Call) → next_of s entries other ≡ Some call → is_some (spent_of b call) ≡ true
    each other call asks = elim (of-actors s other) [
      | inl w ↦ far.barred w.0 (omega (arith, over, w.1)) call (ap (next_of s entries) w.2 ∙ asks)
      | inr silent ↦ absurd (none-some (sym (silent entries) ∙ asks))
    ]

    barred : AreBarred s entries b
    barred = let (k, below, is) = far.left refl in record { who = caller_at s.lines k; left = is; barred = each }
all-barred s entries b n false over far = ((λ h. absurd (cc)), (λ all. absurd (some-none (next_of s entries all.who) (all-done s entries (λ k below. far.done refl k (omega (arith, over, below))) all.who) all.left)))

pub false-not : false ≡ true → ⊥
false-not e = cc
