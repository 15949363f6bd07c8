-- A number that is posted: what an entry does, and the laws of the machine
use Rattle.std.proofs.Common.{◌≡◌, ℕ, zero, suc, ◌+◌, ◌<◌, ◌≤◌, ◌^◌, List, [], ◌∷◌, length, Bool, true, false, cond, refl, sym, ap, ◌∙◌, arith}
use Rattle.std.specs.Prelude.{Some, None, slice_get, slice_index, nat_eq, count_by}
use Rattle.std.proofs.lemmas.List.Sums.{sum_by-cons}
use Rattle.turn_book.specs.declared.view.Note.{Note}
use Rattle.turn_book.specs.declared.view.View.{View}
use Rattle.turn_book.specs.Histories.{Runs}
use Rattle.turn_book.specs.Laws.{DependsOnReach, IsBounded}
use Rattle.book_rows.specs.declared.posting.Post.{Post}
use Rattle.book_rows.specs.declared.posting.Post.TheVariants.{Set, Pass}
use Rattle.book_rows.specs.declared.posting.Posts.{Posts}

abbrev pub poster_of : Post → ℕ
poster_of (Set c x) = c
poster_of (Pass c) = c

abbrev pub is_post : Post → Bool
is_post (Set c x) = true
is_post (Pass c) = false

-- a post depends on the number and changes it
abbrev pub post_reach : Post → ℕ → Bool
post_reach (Set c x) p = nat_eq p 0
post_reach (Pass c) p = false

abbrev pub numbers_of : Posts → List ℕ
numbers_of s = s.posted ∷ []

-- the number is published, and the one after it
abbrev pub words_of : Posts → List ℕ
words_of s = s.posted ∷ (s.posted + 1) ∷ []

abbrev pub IsNew : Posts → Type 0
IsNew s = (s.changes ≡ 0) × (s.posts ≡ 0)

abbrev pub posts_with : List ℕ → Posts
posts_with parts = record { posted = slice_index parts 0; changes = 0; posts = 0 }

-- there are at most 2^40 entries and 2^20 posts
abbrev pub has_post_room : Posts → Post → Type 0
has_post_room s (Set c x) = (s.changes < 2 ^ 40) × (s.posts < 2 ^ 20)
has_post_room s (Pass c) = s.changes < 2 ^ 40

abbrev pub Posted : Posts → Post → Posts → Type 0
Posted s (Set c x) t = (x < 2 ^ 63) × (s.changes < 2 ^ 40) × (s.posts < 2 ^ 20) × (t ≡ record { posted = x; changes = s.changes + 1; posts = s.posts + 1 })
Posted s (Pass c) t = (s.changes < 2 ^ 40) × (t ≡ record { posted = s.posted; changes = s.changes + 1; posts = s.posts })

-- the newest note of a view has this index, value and generation
abbrev pub HasNewest : ℕ → ℕ → ℕ → View Posts Post ℕ → Type 0
HasNewest i x g v = (rest : List Note) × (v.notes ≡ record { index = i; value = x; generation = g } ∷ rest)

pub one_post : (s : Posts) (e : Post) (t u : Posts) → Posted s e t → Posted s e u → t ≡ u
one_post s (Set c x) t u h k = h.3 ∙ sym k.3
one_post s (Pass c) t u h k = h.1 ∙ sym k.1

pub one_number : (s : Posts) (e : Post) (t : Posts) → Posted s e t → length (numbers_of t) ≡ length (numbers_of s)
one_number s e t h = refl

pub two_words : (s : Posts) (e : Post) (t : Posts) → Posted s e t → length (words_of t) ≡ length (words_of s)
two_words s e t h = refl

pub unposted_stays : (s : Posts) (e : Post) (t : Posts) (p : ℕ) → Posted s e t → post_reach e p ≡ false → slice_get (numbers_of t) p ≡ slice_get (numbers_of s) p
unposted_stays s (Set c x) t zero h off = absurd (let q : true ≡ false = off in cc)
unposted_stays s (Set c x) t (suc p) h off = refl
unposted_stays s (Pass c) t p h off = ap (λ (y : Posts). slice_get (numbers_of y) p) h.1

pub posts_depend : DependsOnReach IsNew Posted numbers_of words_of (λ s e. post_reach e) has_post_room
posts_depend o s u t h k (Set c x) opens runs runs' step agree room =
    ((λ p. refl), (record { posted = x; changes = u.changes + 1; posts = u.posts + 1 }, (step.0, room.0, room.1, refl), λ p on. sym (ap (λ (y : Posts). slice_get (numbers_of y) p) step.3)))
posts_depend o s u t h k (Pass c) opens runs runs' step agree room =
    ((λ p. refl), (record { posted = u.posted; changes = u.changes + 1; posts = u.posts }, (room, refl), λ p on. absurd (let q : false ≡ true = on in cc)))

pub unposted_words : (s : Posts) (e : Post) (t : Posts) → Posted s e t → is_post e ≡ false → words_of t ≡ words_of s
unposted_words s (Set c x) t h off = absurd (let q : true ≡ false = off in cc)
unposted_words s (Pass c) t h off = ap words_of h.1

-- entries and posts of a state are counted
pub posts-counted : (s : Posts) (h : List Post) (t : Posts) → Runs Posted s h t → (t.changes ≡ s.changes + length h) × (t.posts ≡ s.posts + count_by is_post h)
posts-counted s [] t runs = (let e = ap (λ (x : Posts). x.changes) runs in omega arith, let e = ap (λ (x : Posts). x.posts) runs in omega arith)
posts-counted s (Set c x ∷ es) t (m, step, more) =
    let a = posts-counted m es t more in
    let b = ap (λ (y : Posts). y.changes) step.3 in
    let d = ap (λ (y : Posts). y.posts) step.3 in
    let n = sum_by-cons (λ y. cond (is_post y) 1 0) (Set c x) es in
    (omega (arith, a.0), omega (arith, a.1))
posts-counted s (Pass c ∷ es) t (m, step, more) =
    let a = posts-counted m es t more in
    let b = ap (λ (y : Posts). y.changes) step.1 in
    let d = ap (λ (y : Posts). y.posts) step.1 in
    let n = sum_by-cons (λ y. cond (is_post y) 1 0) (Pass c) es in
    (omega (arith, a.0), omega (arith, a.1))

low_posts : (s : Posts) (h : List Post) (t : Posts) → Runs Posted s h t → s.changes ≤ 2 ^ 40 → s.posts ≤ 2 ^ 20 → (t.changes ≤ 2 ^ 40) × (t.posts ≤ 2 ^ 20)
low_posts s [] t runs low few = (let e = ap (λ (x : Posts). x.changes) runs in omega arith, let e = ap (λ (x : Posts). x.posts) runs in omega arith)
low_posts s (Set c x ∷ es) t (m, step, more) low few =
    let b = ap (λ (y : Posts). y.changes) step.3 in
    let d = ap (λ (y : Posts). y.posts) step.3 in
    low_posts m es t more (omega (arith, step.1, b)) (omega (arith, step.2, d))
low_posts s (Pass c ∷ es) t (m, step, more) low few =
    let b = ap (λ (y : Posts). y.changes) step.1 in
    let d = ap (λ (y : Posts). y.posts) step.1 in
    low_posts m es t more (omega (arith, step.0, b)) (omega (arith, d, few))

pub posts_bounded : IsBounded IsNew Posted is_post
posts_bounded o t h opens runs =
    let a = posts-counted o h t runs in
    let b = low_posts o h t runs (omega (arith, opens.0)) (omega (arith, opens.1)) in
    (omega (arith, a.0, b.0, opens.0), omega (arith, a.1, b.1, opens.1))
