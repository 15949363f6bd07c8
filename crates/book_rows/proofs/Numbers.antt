-- When a number may be posted, and what two notes tell
use Rattle.std.proofs.Common.{◌≡◌, ℕ, zero, suc, ◌+◌, ◌<◌, ◌^◌, List, [], ◌∷◌, length, refl, sym, ap, ◌∙◌, subst, arith}
use Rattle.std.proofs.lemmas.List.Elements.{All-head, All-tail}
use Rattle.std.specs.Prelude.{Option, Some, None, IfSome, slice_get, count_by, All}
use Rattle.turn_book.specs.declared.view.Draft.{Draft}
use Rattle.turn_book.specs.declared.view.Front.{Front}
use Rattle.turn_book.specs.declared.view.Note.{Note}
use Rattle.turn_book.specs.declared.view.View.{View}
use Rattle.turn_book.specs.Banks.{draft_at, AreDrafted, IsRight}
use Rattle.turn_book.specs.Views.{IsLegal}
use Rattle.turn_book.specs.Plays.{LeadsOn}
use Rattle.turn_book.proofs.Lists.{some_is, none_not}
use Rattle.book_rows.specs.declared.posting.Post.{Post}
use Rattle.book_rows.specs.declared.posting.Post.TheVariants.{Set, Pass}
use Rattle.book_rows.specs.declared.posting.Posts.{Posts}
use Rattle.book_rows.specs.Posting.{IsNew, Posted, is_post, words_of, posts-counted}

abbrev pub Sight : Type 0
Sight = View Posts Post ℕ

-- entries and posts of the state are those of the list
counts_are : (v : Sight) (s : Posts) → IsLegal IsNew Posted v → v.now ≡ Some s → (s.changes ≡ length v.seen) × (s.posts ≡ count_by is_post v.seen)
counts_are v s (o, t, begin, opens, is, runs) now =
    let a = posts-counted o v.seen t runs in
    let same : t ≡ s = some_is t s (sym is ∙ now) in
    let b : t.changes ≡ s.changes = ap (λ (x : Posts). x.changes) same in
    let d : t.posts ≡ s.posts = ap (λ (x : Posts). x.posts) same in
    (omega (arith, a.0, opens.0, b), omega (arith, a.1, opens.1, d))

pub may_pass : (v : Sight) (had : Front) (c : ℕ) → IsLegal IsNew Posted v → had.length < 2 ^ 40 → LeadsOn Posted had v (Pass c)
may_pass v had c legal room s (count, now) =
    let a = counts_are v s legal now in
    (record { posted = s.posted; changes = s.changes + 1; posts = s.posts }, (omega (arith, a.0, count, room), refl))

pub may_set : (v : Sight) (had : Front) (c x : ℕ) → IsLegal IsNew Posted v → had.length < 2 ^ 40 → had.generation ≡ count_by is_post v.seen → had.generation < 2 ^ 20 → x < 2 ^ 63 → LeadsOn Posted had v (Set c x)
may_set v had c x legal room same few small s (count, now) =
    let a = counts_are v s legal now in
    (record { posted = x; changes = s.changes + 1; posts = s.posts + 1 }, (small, omega (arith, a.0, count, room), omega (arith, a.1, same, few), refl))

-- both words of a number, drafted one after the other
pub both_drafted : (x : ℕ) (t : Posts) (drafts : List Draft) → t.posted ≡ x → AreDrafted (words_of t) (record { index = 1; value = x + 1 } ∷ record { index = 0; value = x } ∷ drafts)
both_drafted x t drafts is zero y h = ap (λ n. Some n) (sym is) ∙ h
both_drafted x t drafts is (suc zero) y h = ap (λ n. Some (n + 1)) (sym is) ∙ h
both_drafted x t drafts is (suc (suc i)) y h = absurd (none_not y h)

-- the two newest notes, of one generation, tell both words
pub both_right : (s : Posts) (g x y : ℕ) (rest : List Note) → All (IsRight (words_of s) g) (record { index = 1; value = y; generation = g } ∷ record { index = 0; value = x; generation = g } ∷ rest) → words_of s ≡ x ∷ y ∷ []
both_right s g x y rest right =
    let P : Note → Type 0 = IsRight (words_of s) g in
    let first : Note = record { index = 0; value = x; generation = g } in
    let second : Note = record { index = 1; value = y; generation = g } in
    let b = (All-head P second (first ∷ rest) right).1 refl in
    let a = (All-head P first rest (All-tail P second (first ∷ rest) right)).1 refl in
    (λ i. some_is s.posted x a i ∷ some_is (s.posted + 1) y b i ∷ [])

pub right_words : (o : Option Posts) (g h x y : ℕ) (notes rest : List Note) → h ≡ g → notes ≡ record { index = 1; value = y; generation = g } ∷ record { index = 0; value = x; generation = g } ∷ rest → IfSome o (λ s. All (IsRight (words_of s) h) notes) → IfSome o (λ s. words_of s ≡ x ∷ y ∷ [])
right_words None g h x y notes rest same are right = tt
right_words (Some s) g h x y notes rest same are right = both_right s g x y rest (subst (λ k. All (IsRight (words_of s) k) (record { index = 1; value = y; generation = g } ∷ record { index = 0; value = x; generation = g } ∷ rest)) same (subst (All (IsRight (words_of s) h)) are right))
