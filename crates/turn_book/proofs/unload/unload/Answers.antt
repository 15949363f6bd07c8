use Rattle.std.proofs.Common.{◌≡◌, ◌≢◌, ◌<◌, true, false, refl, sym, ap, ◌∙◌, subst, arith, take, add-one, slice_index_or}
use Rattle.std.specs.Prelude.{slice_set, nat_eq, ◌++◌, ◌∷◌, []}
use lib.ListN.{get_elem?}
use Rattle.std.specs.Mem.Slots.{slots_items, slots_filled}
use Rattle.turn_book.proofs.Lists.{or_other, or_same, take_more}
use Rattle.turn_book.proofs.unload.unload.Goals as goal

pub loop-i-preserved : goal.loop-i-preserved
loop-i-preserved g c =
    let inv = c.loop-i.invariant in
    let i = c.loop-i.i in
    let o = c.take.ensures.others in
    let below : i < c.slot_count-n.result = c.loop-i-test.true in
    let fl = slots_filled c.loop-i.closed.slots in
    let items = slots_items c.args.closed.now.slots in (
      inv.0,
      o.2 ∙ inv.1,
      omega arith,
      (λ k low high. ap (λ l. slice_index_or l k false) o.1 ∙ or_other fl i k false false (λ e. omega arith) ∙ inv.3 k (omega arith) (let s = o.2 in omega arith)),
      (λ k high. ap (λ l. slice_index_or l k false) o.1 ∙ elim (nat_eq i k) as (λ b. nat_eq i k ≡ b → slice_index_or (slice_set fl i false) k false ≡ false) [
        | true ↦ λ t. (let same : i ≡ k = grind arith in subst (λ n. slice_index_or (slice_set fl i false) n false ≡ false) same (or_same fl i false))
        | false ↦ λ t. (let other : i ≢ k = λ e. (let no_way : ⊥ = grind arith in no_way) in or_other fl i k false false other ∙ inv.4 k (omega arith))
      ] refl),
      o.0 ∙ inv.5,
      c.push_reserved.ensures.items ∙ ap (λ l. l ++ c.take.result ∷ []) inv.6 ∙ take_more items i c.take.result (ap (λ l. get_elem? l i) (sym inv.5) ∙ c.take.ensures.value) ∙ ap (λ n. take n items) (sym (add-one i)),
      (let a = c.push_reserved.ensures.capacity in let b = inv.7 in omega arith),
    )
