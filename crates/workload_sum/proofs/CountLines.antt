-- Entries counted one after another.
use Rattle.std.proofs.Common.{◌≡◌, ℕ, ◌+◌, Bool, true, false, cond, List, ◌∷◌, ◌++◌, Some, drop, drop-cons, codes, ap, sym, ◌∙◌, append_assoc, add-one, if◌then◌else◌, ◌≤◌, arith}
use Rattle.std.specs.Prelude.{length}
use Rattle.std.specs.List.{slice_get}
use Rattle.std.proofs.lemmas.Option.{slice_get_within, get_or_from_slice_get}
use Rattle.std.proofs.lemmas.List.Sums.{sum_by-cons}
use Rattle.irq_base.specs.declared.lists.Entry.{Entry}
use Rattle.workload_sum.specs.declared.kind.Kind.{Kind}
use Rattle.workload_sum.specs.declared.kind.Kind.TheVariants.{Delivered, Coalesced, Ignored, Vectors, Ended, Taken, Refused}
use Rattle.workload_sum.specs.Counts.{is_of, counted, count_line, summary_text}

drop-at : {A : Type 0} (xs : List A) (k : ℕ) (x : A) → slice_get xs k ≡ Some x → drop k xs ≡ x ∷ drop (k + 1) xs
drop-at xs k x h =
    drop-cons xs k x (slice_get_within xs k x h) ∙ (λ i. get_or_from_slice_get xs k x x h i ∷ drop ((sym (add-one k)) i) xs)

-- an entry counts where its reply is of the kind
pub count-next : (kind : Kind) (es : List Entry) (k : ℕ) (e : Entry) (before now : ℕ) → slice_get es k ≡ Some e →
    now ≡ before + (if is_of kind e.reply then 1 else 0) → now + counted kind (drop (k + 1) es) ≡ before + counted kind (drop k es)
count-next kind es k e before now at is =
    let h : counted kind (drop k es) ≡ cond (is_of kind e.reply) 1 0 + counted kind (drop (k + 1) es) =
    ap (counted kind) (drop-at es k e at) ∙ sum_by-cons (λ e. cond (is_of kind e.reply) 1 0) e (drop (k + 1) es) in
    omega (arith, h, is)

pub one-few : (t : Bool) (before now k : ℕ) → before ≤ k → now ≡ before + (if t then 1 else 0) → now ≤ k + 1
one-few true before now k h is = omega (arith, h, is)
one-few false before now k h is = omega (arith, h, is)

-- the eight lines, one after another
pub eight-lines : (text : List ℕ) (history : List Entry) →
    (((((((text ++ count_line (codes "calls") (length history))
    ++ count_line (codes "delivered") (counted Delivered history))
    ++ count_line (codes "coalesced") (counted Coalesced history))
    ++ count_line (codes "ignored") (counted Ignored history))
    ++ count_line (codes "vectors") (counted Vectors history))
    ++ count_line (codes "ended") (counted Ended history))
    ++ count_line (codes "taken") (counted Taken history))
    ++ count_line (codes "refused") (counted Refused history)
    ≡ text ++ summary_text history
unfolding summary_text
eight-lines text history =
    let a = count_line (codes "calls") (length history) in
    let b = count_line (codes "delivered") (counted Delivered history) in
    let c = count_line (codes "coalesced") (counted Coalesced history) in
    let d = count_line (codes "ignored") (counted Ignored history) in
    let e = count_line (codes "vectors") (counted Vectors history) in
    let f = count_line (codes "ended") (counted Ended history) in
    let g = count_line (codes "taken") (counted Taken history) in
    let h = count_line (codes "refused") (counted Refused history) in
    append_assoc ((((((text ++ a) ++ b) ++ c) ++ d) ++ e) ++ f) g h
    ∙ append_assoc (((((text ++ a) ++ b) ++ c) ++ d) ++ e) f (g ++ h)
    ∙ append_assoc ((((text ++ a) ++ b) ++ c) ++ d) e (f ++ (g ++ h))
    ∙ append_assoc (((text ++ a) ++ b) ++ c) d (e ++ (f ++ (g ++ h)))
    ∙ append_assoc ((text ++ a) ++ b) c (d ++ (e ++ (f ++ (g ++ h))))
    ∙ append_assoc (text ++ a) b (c ++ (d ++ (e ++ (f ++ (g ++ h)))))
    ∙ append_assoc text a (b ++ (c ++ (d ++ (e ++ (f ++ (g ++ h))))))

pub ruleset line_rules = (eight-lines)
