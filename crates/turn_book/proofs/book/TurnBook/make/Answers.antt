use Rattle.std.proofs.Common.{◌≡◌, ap, ◌∙◌, sym, subst, arith}
use Rattle.std.specs.Prelude.{length}
use Rattle.atomic_table.specs.Table.{opening}
use Rattle.turn_book.specs.Rule.{IsKept, workings}
use Rattle.turn_book.specs.Views.{first_view}
use Rattle.turn_book.proofs.Beginning.{begun, first_words}
use Rattle.turn_book.proofs.book.TurnBook.make.Goals as goal

pub new-requires : goal.new-requires
new-requires g c =
    let m = g.M.Machine in
    let w = workings m.opens m.steps m.parts m.published m.caller m.is_publication in
    let ps = c.args.parts.items in
    let words = c.args.words.items in
    let count : c.len-count.result ≡ length ps = (let ok = c.args.parts.ok in let l = c.len-count.ensures in grind arith) in
    let row : c.as_slice-2.result.now ≡ first_words (length ps) words =
    c.as_slice-2.ensures.value
    ∙ c.in-Ok-first_words.ensures
    ∙ ap (λ k. first_words k c.as_slice.result.now) count
    ∙ ap (λ l. first_words (length ps) l) c.as_slice.ensures.value in
    let parts_key : c.of.result.value.items ≡ ps = ap (λ v. v.items) c.of.ensures in
    let words_key : c.of-2.result.value.items ≡ words = ap (λ v. v.items) c.of-2.ensures in
    subst (λ ks. IsKept w (m.opening ks) (length c.of-2.result.value.items) (opening c.as_slice-2.result.now ps (first_view (m.opening ks)))) (sym parts_key)
    (subst (λ ks. IsKept w (m.opening ps) (length ks) (opening c.as_slice-2.result.now ps (first_view (m.opening ps)))) (sym words_key)
    (subst (λ ws. IsKept w (m.opening ps) (length words) (opening ws ps (first_view (m.opening ps)))) (sym row)
    (begun w (m.opening ps) ps words c.requires.opens c.requires.parts c.requires.words)))
