-- The desk takes in the passes, and what then stands of each.
use Rattle.std.proofs.Common.{◌≡◌, ℕ, ◌≤◌, Bool, true, false, true≢false, not, ◌&&◌, ◌||◌, nat_eq, List, [], ◌∷◌, length, is_some, All, Some, refl, sym, ap, ◌∙◌, subst, arith}
use Rattle.std.specs.Prelude.{None}
use Rattle.std.specs.List.{list_any}
use Rattle.std.proofs.lemmas.List.{append-nil}
use Rattle.std.proofs.lemmas.List.Elements.{All-head, All-tail, All-cons}
use Rattle.irq_base.specs.declared.call.Caller.{Caller}
use Rattle.irq_base.specs.declared.lists.Entry.{Entry}
use Rattle.irq_base.specs.declared.shape.Shape.{Shape}
use Rattle.turn_book.specs.declared.view.Ended.{Ended}
use Rattle.turn_book.specs.Ending.{AllEnded}
use Rattle.turn_book.specs.Histories.{IsPrefix, entries_of, is_in}
use Rattle.turn_book.specs.Views.{ended_at}
use Rattle.turn_book.proofs.Lists.{prefix-trans, prefix-whole, all_two}
use Rattle.part_slots.specs.Callers.{caller_number, caller_at, is_caller}
use Rattle.part_slots.specs.Commits.{Seen}
use Rattle.part_slots.specs.Running.{caller_of}
use Rattle.part_slots.proofs.Inverse.{callers_are_numbers}
use Rattle.part_board.specs.declared.closed.Closed.{Closed}
use Rattle.part_board.specs.declared.desk.Desk.{Desk}
use Rattle.part_board.specs.declared.pass.Pass.{Pass}
use Rattle.part_board.specs.Closing.{has_pass, is_missing, IsPassedOn, IsClosed}
use Rattle.part_board.specs.Joining.{end_of, ends_after, JoinsAll, IsEnded}
use Rattle.part_board.specs.Seen.{pass_seen, desk_view, has_made}
use Rattle.part_board.proofs.Learnt.{own_are, none_are}

-- ---- the desk takes in the passes

pub joins_none : (v : Seen) → JoinsAll v [] v
joins_none v = record { seen = ([], append-nil v.seen); lists = λ k d low. absurd (omega arith); ended = refl; made = refl }

pub joins_more : (v w u : Seen) (pass : Pass) (rest : List Pass) → IsPrefix v.seen w.seen → IsPrefix (pass_seen pass) w.seen → w.ended ≡ end_of pass ∷ v.ended → w.made ≡ v.made → JoinsAll w rest u → JoinsAll v (pass ∷ rest) u
joins_more v w u pass rest seen learnt ended made joins = record {
  seen = prefix-trans v.seen w.seen u.seen seen joins.seen;
  lists = All-cons (λ (p : Pass). IsPrefix (pass_seen p) u.seen) pass rest (prefix-trans (pass_seen pass) w.seen u.seen learnt joins.seen) joins.lists;
  ended = joins.ended ∙ ap (ends_after rest) ended;
  made = joins.made ∙ made;
}

-- ---- each pass has ended

kept_ended : (Q : Ended Entry → Type 0) (passes : List Pass) (ended : List (Ended Entry)) → All Q (ends_after passes ended) → All Q ended
kept_ended Q [] ended all = all
kept_ended Q (p ∷ passes) ended all = All-tail Q (end_of p) ended (kept_ended Q passes (end_of p ∷ ended) all)

each_ended : (Q : Ended Entry → Type 0) (passes : List Pass) (ended : List (Ended Entry)) → All Q (ends_after passes ended) → All (λ (p : Pass). Q (end_of p)) passes
each_ended Q [] ended all = λ k d low. absurd (omega arith)
each_ended Q (p ∷ passes) ended all =
    All-cons (λ (x : Pass). Q (end_of x)) p passes (All-head Q (end_of p) ended (kept_ended Q passes (end_of p ∷ ended) all)) (each_ended Q passes (end_of p ∷ ended) all)

one_ended : (k : ℕ) (x : Ended Entry) (ended : List (Ended Entry)) → is_some (ended_at k ended) ≡ true → is_some (ended_at k (x ∷ ended)) ≡ true
one_ended k x ended there = by_test (nat_eq x.caller k) refl
  where
    by_test : (t : Bool) → nat_eq x.caller k ≡ t → is_some (elim t [ true ↦ Some x.entries | false ↦ ended_at k ended ]) ≡ true
    by_test true is = refl
    by_test false is = there

stays_ended : (k : ℕ) (passes : List Pass) (ended : List (Ended Entry)) → is_some (ended_at k ended) ≡ true → is_some (ended_at k (ends_after passes ended)) ≡ true
stays_ended k [] ended there = there
stays_ended k (p ∷ passes) ended there = stays_ended k passes (end_of p ∷ ended) (one_ended k (end_of p) ended there)

has_ended : (c : Caller) (passes : List Pass) (ended : List (Ended Entry)) → has_pass passes c ≡ true → is_some (ended_at (caller_number c) (ends_after passes ended)) ≡ true
has_ended c [] ended has = absurd (true≢false (sym has))
has_ended c (p ∷ passes) ended has = by_test (λ more. has_ended c passes (end_of p ∷ ended) more) (is_caller p.caller c) refl has
  where
    by_test : (has_pass passes c ≡ true → is_some (ended_at (caller_number c) (ends_after passes (end_of p ∷ ended))) ≡ true) → (t : Bool) → is_caller p.caller c ≡ t → (t || has_pass passes c) ≡ true → is_some (ended_at (caller_number c) (ends_after passes (end_of p ∷ ended))) ≡ true
    by_test rest true is has =
        stays_ended (caller_number c) passes (end_of p ∷ ended)
        (ap (λ t. is_some (elim t [ true ↦ Some (end_of p).entries | false ↦ ended_at (caller_number c) ended ])) (callers_are_numbers.apart p.caller c ∙ is))
    by_test rest false is has = rest has

-- where none is missing, each pass that was made has ended
pub all_ended : (desk : Desk) (passes : List Pass) (w : Seen) → ((c : Caller) → is_missing desk passes c ≡ false) → JoinsAll (desk_view desk) passes w → AllEnded w
all_ended desk passes w none joins k among = subst (λ n. is_some (ended_at n w.ended) ≡ true) number (ap (λ l. is_some (ended_at (caller_number c) l)) joins.ended ∙ has_ended c passes (desk_view desk).ended (by_test (has_pass passes c) refl (none c)))
  where
    c : Caller
    c = caller_at k

    number : caller_number c ≡ k
    number = callers_are_numbers.number k

    made : has_made desk c ≡ true
    made = ap (λ n. is_in n (desk_view desk).made) number ∙ ap (is_in k) (sym joins.made) ∙ among

    by_test : (t : Bool) → has_pass passes c ≡ t → (not t && has_made desk c) ≡ false → has_pass passes c ≡ true
    by_test true is none = is
    by_test false is none = absurd (true≢false (sym made ∙ none))

-- ---- the history of all

pub closed_are : (shape : Shape) (desk : Desk) (passes : List Pass) (w : Seen) (closed : Closed) → ((c : Caller) → is_missing desk passes c ≡ false) → JoinsAll (desk_view desk) passes w → IsEnded shape w closed → IsClosed shape desk passes closed
closed_are shape desk passes w closed none joins ends = record {
  history = ends.history;
  legal = ends.legal;
  counted = ends.counted;
  publications = ends.publications;
  seen = prefix-trans (desk_view desk).seen w.seen ends.history joins.seen ends.seen;
  each = all_two
      (λ (p : Pass). IsPrefix (pass_seen p) w.seen)
      (λ (p : Pass). entries_of caller_of (end_of p).caller ends.history ≡ (end_of p).entries)
      (IsPassedOn ends.history)
      passes
      (λ p seen own. (let long = prefix-trans (pass_seen p) w.seen ends.history seen ends.seen in
      record { seen = long; own = own_are p.caller ends.history (pass_seen p) own; whole = λ many. prefix-whole (pass_seen p) ends.history long (omega (arith, many)) }))
      joins.lists
      (each_ended (λ x. entries_of caller_of x.caller ends.history ≡ x.entries) passes (desk_view desk).ended
      (subst (λ l. All (λ (x : Ended Entry). entries_of caller_of x.caller ends.history ≡ x.entries) l) joins.ended ends.ended));
  others = λ c never. none_are c ends.history (ends.others (caller_number c) (ap (is_in (caller_number c)) joins.made ∙ unmade c never));
}
  where
    unmade : (c : Caller) → has_pass passes c ≡ false → has_made desk c ≡ false
    unmade c never = ap (λ t. not t && has_made desk c) (sym never) ∙ none c
