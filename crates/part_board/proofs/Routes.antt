-- Where a GSI goes, from a published word that was read between two looks at one generation.
use Rattle.std.proofs.Common.{◌≡◌, ℕ, ◌<◌, ◌≤◌, Bool, true, false, List, [], ◌∷◌, ◌++◌, Some, IsTrue, All, cond, refl, sym, ap, ◌∙◌, subst, arith}
use Rattle.std.proofs.lemmas.List.{append_assoc}
use Rattle.std.proofs.lemmas.List.Elements.{All-head}
use Rattle.std.proofs.lemmas.List.Sums.{sum_by-append}
use Rattle.std.specs.Prelude.{count_by, IfSome}
use Rattle.irq_base.specs.declared.call.Caller.{Caller}
use Rattle.irq_base.specs.declared.lists.Entry.{Entry}
use Rattle.irq_base.specs.declared.message.Targets.{Targets}
use Rattle.irq_base.specs.declared.shape.Shape.{Shape}
use Rattle.route_table.specs.Rows.{targets_of}
use Rattle.route_table.specs.Words.{no_targets, is_route, is_word_of, is_marked, named_by, given_where, targets_word, targets_in}
use Rattle.route_table.proofs.WordLaws.{targets_in-encoded}
use Rattle.board_model.specs.Board.{Board}
use Rattle.board_model.specs.Routing as routing
use Rattle.board_step.specs.History.{opening}
use Rattle.board_step.specs.Publications.{words}
use Rattle.board_step.specs.Step.{is_publication}
use Rattle.route_bank.proofs.Places.{words_stand}
use Rattle.turn_book.specs.declared.view.Front.{Front}
use Rattle.turn_book.specs.declared.view.Note.{Note}
use Rattle.turn_book.specs.Banks.{IsRight, NotesAreRight}
use Rattle.turn_book.specs.Histories.{IsPrefix, entries_of, last_of}
use Rattle.turn_book.specs.Views.{IsLegal, AddsNoneOfOwn, SameTurns, noted_view}
use Rattle.turn_book.proofs.Lists.{prefix-trans}
use Rattle.part_slots.specs.Callers.{caller_number}
use Rattle.part_slots.specs.Commits.{Seen}
use Rattle.part_slots.specs.Running.{Opens, IsStep, caller_of}
use Rattle.part_attempt.proofs.Standing.{some_is, stands, leads}
use Rattle.part_board.specs.Routed.{IsRouted, LookedTwice}
use Rattle.part_board.specs.Seen.{Learnt}
use Rattle.part_board.proofs.Learnt.{learnt_at}

-- the word of a route names it
named_is : (word : ℕ) (t : Targets) (m : Bool) → IsTrue (is_route t) → word ≡ targets_word t m → named_by word ≡ t
unfolding targets_in
named_is word t m route e = by_test (is_word_of word (named_by word) (is_marked word)) (targets_in-encoded word t m route e)
  where
    by_test : (b : Bool) → given_where b (named_by word) (is_marked word) ≡ (t, m) → named_by word ≡ t
    by_test true is = ap (λ p. p.0) is
    by_test false is =
        let none : no_targets ≡ t = ap (λ p. p.0) is in
        let unmarked : false ≡ m = ap (λ p. p.1) is in
        ap named_by (e ∙ (λ i. targets_word (sym none i) (sym unmarked i))) ∙ none

-- a look that finds the generation under which the word of a GSI was read shows the word to be the published one
pub routed_at : (shape other : Shape) (gsi word generation : ℕ) (v w u : Seen) → shape ≡ other → gsi < 4096 → u.begin ≡ Some (opening shape)
    → IsLegal Opens IsStep u → w ≡ noted_view gsi word generation v → u.notes ≡ w.notes → generation ≡ count_by is_publication u.seen
    → NotesAreRight words is_publication u → IsRouted other gsi (named_by word) u.seen
routed_at shape other gsi word generation v w u one low begins legal noted same counted right = subst (λ s. IsRouted s gsi (named_by word) u.seen) one (record {
  last = b;
  after = leads shape u begins legal;
  routed = named_is word (targets_of b.registry.table gsi) (routing.is_marked b.registry b.shape.tick gsi) ((stands shape u begins legal).sound.registry.table.routes gsi) published;
})
  where
    b : Board
    b = legal.1

    IsPublished : Note → Type 0
    IsPublished = IsRight (words b) (count_by is_publication u.seen)

    all : All IsPublished u.notes
    all = subst (λ o. IfSome o (λ s. All (IsRight (words s) (count_by is_publication u.seen)) u.notes)) legal.4 right

    here : IsPublished (record { index = gsi; value = word; generation = generation })
    here = All-head IsPublished (record { index = gsi; value = word; generation = generation }) v.notes (subst (λ l. All IsPublished l) (same ∙ ap (λ (x : Seen). x.notes) noted) all)

    published : word ≡ targets_word (targets_of b.registry.table gsi) (routing.is_marked b.registry b.shape.tick gsi)
    published = some_is _ _ (sym (here.1 counted) ∙ (words_stand b.registry b.shape.tick).gsis gsi low)

-- a longer list has at least as many publications
count_more : (es fs : List Entry) → IsPrefix es fs → count_by is_publication es ≤ count_by is_publication fs
count_more es fs (rest, all) = let sum = sum_by-append (λ e. cond (is_publication e) 1 0) es rest in let whole = ap (count_by is_publication) all in omega (arith, sum, whole)

-- the word was noted under the look before it
pub noted_under : (gsi word : ℕ) (u x : Seen) (had : Front) → last_of u.looks ≡ Some had → IfSome (last_of u.looks) (λ f. x ≡ noted_view gsi word f.generation u) → x ≡ noted_view gsi word had.generation u
noted_under gsi word u x had last noted = subst (λ o. IfSome o (λ f. x ≡ noted_view gsi word f.generation u)) last noted

-- the views of a pass before (v), behind its first look (u), with the word (x), and behind its second look (w)
module _ (v u x w : Seen) (had now : Front) (gsi word : ℕ) (noted : x ≡ noted_view gsi word had.generation u) where
  pub learnt_twice : (shape other : Shape) (caller : Caller) → shape ≡ other → v.begin ≡ Some (opening shape) → v.caller ≡ Some (caller_number caller)
      → u.begin ≡ v.begin → u.caller ≡ v.caller → w.begin ≡ x.begin → IsPrefix v.seen u.seen → IsPrefix x.seen w.seen → IsLegal Opens IsStep w
      → AddsNoneOfOwn caller_of v u → AddsNoneOfOwn caller_of x w → Learnt other caller v.seen w.seen
  learnt_twice shape other caller one begins named first who later seen more legal own none =
      learnt_at shape other caller v w w.seen one begins named (later ∙ ap (λ (y : Seen). y.begin) noted ∙ first)
      (prefix-trans v.seen u.seen w.seen seen (subst (λ (y : Seen). IsPrefix y.seen w.seen) noted more)) legal
      (λ k is. none k (ap (λ (y : Seen). y.caller) noted ∙ who ∙ is) ∙ ap (λ (y : Seen). entries_of caller_of k y.seen) noted ∙ own k is) refl

  pub turns_stay : SameTurns v u → SameTurns x w → SameTurns v w
  turns_stay first later = (
    later.0 ∙ ap (λ (y : Seen). y.held) noted ∙ first.0,
    later.1 ∙ ap (λ (y : Seen). y.took) noted ∙ first.1,
    later.2 ∙ ap (λ (y : Seen). y.found) noted ∙ first.2,
  )

  pub misses_stay : u.misses ≡ v.misses → w.misses ≡ x.misses → w.misses ≡ v.misses
  misses_stay first later = later ∙ ap (λ (y : Seen). y.misses) noted ∙ first

  pub looked_twice : u.looks ≡ v.looks ++ had ∷ [] → w.looks ≡ x.looks ++ now ∷ [] → LookedTwice v w had.generation now.generation
  looked_twice first later = record {
    first = had;
    second = now;
    looks = later ∙ ap (λ (y : Seen). y.looks ++ now ∷ []) noted ∙ ap (λ l. l ++ now ∷ []) first ∙ append_assoc v.looks (had ∷ []) (now ∷ []);
    from_is = refl;
    to_is = refl;
  }

  pub in_order : had.generation ≡ count_by is_publication u.seen → now.generation ≡ count_by is_publication w.seen → IsPrefix x.seen w.seen → had.generation ≤ now.generation
  in_order first later more = let longer = count_more u.seen w.seen (subst (λ (y : Seen). IsPrefix y.seen w.seen) noted more) in omega (arith, first, later, longer)
