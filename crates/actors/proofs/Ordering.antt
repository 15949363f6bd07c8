-- Entries in the order of their places.
use Rattle.std.proofs.Common.{◌≡◌, ℕ, ◌<◌, ◌≤◌, Bool, true, false, not, ◌&&◌, nat_eq, cond, slice_index_or, zero, suc, List, [], ◌∷◌, filter, length, refl, sym, ap, ◌∙◌, subst, arith}
use Rattle.std.proofs.lemmas.Bool.Decides.{nat_tests}
use Rattle.std.specs.List.Sorted.{IsNonDecreasingBy, IsStableByKey, ties}
use Rattle.std.specs.Ordering.{is_lt, nat_cmp}
use Rattle.irq_base.specs.Faces.{PlacedEntry}
use Rattle.irq_base.specs.declared.call.Call.TheVariants.{Tick}
use Rattle.irq_base.specs.declared.call.Caller.TheVariants.{Device}
use Rattle.irq_base.specs.declared.reply.Reply.TheVariants.{Empty}
use Rattle.actors.specs.Kept.{placed_of, placed_in}
use Rattle.actors.specs.Runs.{at_place, AreOrdered}
use Rattle.actors.specs.declared.kept.Placed.{Placed}

-- some entry at this place
abbrev some_at : ℕ → Placed
some_at at = record { entry = record { caller = Device 0; call = Tick; reply = Empty; events = [] }; at = at }

-- elements that tie with it stand at its place
tie_is : (at n : ℕ) → (not (is_lt (nat_cmp at n)) && not (is_lt (nat_cmp n at))) ≡ nat_eq n at
tie_is at n = grind (arith, nat_tests)

filter_agree : {A : Type 0} (p q : A → Bool) → ((x : A) → p x ≡ q x) → (xs : List A) → filter p xs ≡ filter q xs
filter_agree p q same [] = refl
filter_agree p q same (x ∷ xs) = λ i. cond (same x i) (x ∷ filter_agree p q same xs i) (filter_agree p q same xs i)

placed_with : (at : ℕ) (p : Placed) (ps : List Placed) (t : Bool) → at_place at (placed_in ps) ≡ placed_in (filter (λ (p : Placed). nat_eq p.at at) ps)
    → cond t (placed_of p ∷ at_place at (placed_in ps)) (at_place at (placed_in ps)) ≡ placed_in (cond t (p ∷ filter (λ (p : Placed). nat_eq p.at at) ps) (filter (λ (p : Placed). nat_eq p.at at) ps))
placed_with at p ps true rest = ap (λ l. placed_of p ∷ l) rest
placed_with at p ps false rest = rest

placed_at : (at : ℕ) (ps : List Placed) → at_place at (placed_in ps) ≡ placed_in (filter (λ (p : Placed). nat_eq p.at at) ps)
placed_at at [] = refl
placed_at at (p ∷ ps) = placed_with at p ps (nat_eq p.at at) (placed_at at ps)

many_placed : (ps : List Placed) → length (placed_in ps) ≡ length ps
many_placed [] = refl
many_placed (p ∷ ps) = (let more = many_placed ps in omega (arith, more))

get_placed : (ps : List Placed) (i : ℕ) (d : PlacedEntry) (e : Placed) → i < length ps → (slice_index_or (placed_in ps) i d).at ≡ (slice_index_or ps i e).at
get_placed [] i d e low = absurd (omega (arith, low))
get_placed (p ∷ ps) zero d e low = refl
get_placed (p ∷ ps) (suc i) d e low = get_placed ps i d e (omega (arith, low))

pub ordered : (old new : List Placed) → IsNonDecreasingBy (λ (p : Placed). p.at) new → IsStableByKey (λ (p : Placed). p.at) nat_cmp old new → AreOrdered (placed_in old) (placed_in new)
ordered old new rising stable = record {
  rising = λ i j d le low. (let many : length (placed_in new) ≡ length new = many_placed new in
      let e : Placed = some_at 0 in
      let here : j < length new = omega (arith, many, low) in
      subst (λ n. n ≤ (slice_index_or (placed_in new) j d).at) (sym (get_placed new i d e (omega (arith, here, le))))
      (subst (λ n. (slice_index_or new i e).at ≤ n) (sym (get_placed new j d e here)) (rising i j e le here)));
  same = λ at.
      placed_at at new
      ∙ ap placed_in (sym (filter_agree (λ (p : Placed). ties (λ x y. is_lt (nat_cmp x.at y.at)) (some_at at) p) (λ (p : Placed). nat_eq p.at at) (λ p. tie_is at p.at) new)
      ∙ stable (some_at at)
      ∙ filter_agree (λ (p : Placed). ties (λ x y. is_lt (nat_cmp x.at y.at)) (some_at at) p) (λ (p : Placed). nat_eq p.at at) (λ p. tie_is at p.at) old)
      ∙ sym (placed_at at old);
}
