-- When a registry may be put, and what is drafted then
use Rattle.std.proofs.Common.{◌≡◌, ℕ, ◌+◌, ◌<◌, ◌^◌, length, refl, sym, ap, ◌∙◌, subst, arith}
use Rattle.std.specs.Prelude.{Some, count_by}
use Rattle.turn_book.specs.declared.view.Front.{Front}
use Rattle.turn_book.specs.declared.view.View.{View}
use Rattle.turn_book.specs.Banks.{AreDrafted}
use Rattle.turn_book.specs.Views.{IsLegal}
use Rattle.turn_book.specs.Plays.{LeadsOn, HasDrafted}
use Rattle.turn_book.proofs.Lists.{some_is}
use Rattle.book_rows.specs.declared.bank_machine.Registry.{Registry}
use Rattle.book_rows.specs.declared.bank_machine.Change.{Change}
use Rattle.book_rows.specs.declared.bank_machine.Change.TheVariants.{Put, Pass}
use Rattle.book_rows.specs.declared.bank_machine.Board.{Board}
use Rattle.book_rows.specs.Putting.{IsNew, Changed, is_put, words_in, words_of, puts-counted}

abbrev pub Sight : Type 0
Sight = View Board Change Registry

-- entries and puts of the state are those of the list
counts_are : (v : Sight) (s : Board) → IsLegal IsNew Changed v → v.now ≡ Some s → (s.changes ≡ length v.seen) × (s.puts ≡ count_by is_put v.seen)
counts_are v s (o, t, begin, opens, is, runs) now =
    let a = puts-counted o v.seen t runs in
    let same : t ≡ s = some_is t s (sym is ∙ now) in
    let b : t.changes ≡ s.changes = ap (λ (x : Board). x.changes) same in
    let d : t.puts ≡ s.puts = ap (λ (x : Board). x.puts) same in
    (omega (arith, a.0, opens.0, b), omega (arith, a.1, opens.1, d))

pub may_pass : (v : Sight) (had : Front) (c : ℕ) → IsLegal IsNew Changed v → had.length < 2 ^ 40 → LeadsOn Changed had v (Pass c)
may_pass v had c legal room s (count, now) =
    let a = counts_are v s legal now in
    (record { registry = s.registry; changes = s.changes + 1; puts = s.puts }, (omega (arith, a.0, count, room), refl))

may_put : (v : Sight) (had : Front) (c : ℕ) (r : Registry) → IsLegal IsNew Changed v → had.length < 2 ^ 40 → had.generation ≡ count_by is_put v.seen → had.generation < 2 ^ 20 → LeadsOn Changed had v (Put c r)
may_put v had c r legal room same few s (count, now) =
    let a = counts_are v s legal now in
    (record { registry = r; changes = s.changes + 1; puts = s.puts + 1 }, (omega (arith, a.0, count, room), omega (arith, a.1, same, few), refl))

-- a put leads on, and its words are drafted, from a view that drafted them and is else the same
pub put_leads : (v w : Sight) (had : Front) (e : Change) (c : ℕ) (r : Registry) → e ≡ Put c r → w ≡ record v { drafts = w.drafts } → IsLegal IsNew Changed v → had.length < 2 ^ 40
    → had.generation ≡ count_by is_put v.seen → had.generation < 2 ^ 20 → LeadsOn Changed had w e
put_leads v w had e c r is rest legal room same few =
    subst (λ e. LeadsOn Changed had w e) (sym is) (subst (λ u. LeadsOn Changed had u (Put c r)) (sym rest) (may_put v had c r legal room same few))

pub put_drafted : (w : Sight) (had : Front) (e : Change) (c : ℕ) (r : Registry) → e ≡ Put c r → AreDrafted (words_in r) w.drafts → HasDrafted Changed words_of had w e
put_drafted w had e c r is drafted =
    subst (λ e. HasDrafted Changed words_of had w e) (sym is)
    (λ s t at step. subst (λ (x : Registry). AreDrafted (words_in x) w.drafts) (sym (ap (λ (y : Board). y.registry) step.2)) drafted)
