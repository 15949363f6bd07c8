-- A registry that is put in the place of another: what an entry does, and the laws of the machine
use Rattle.std.proofs.Common.{◌≡◌, ℕ, zero, suc, ◌+◌, ◌<◌, ◌≤◌, ◌^◌, List, [], ◌∷◌, length, Bool, true, false, cond, refl, sym, ap, ◌∙◌, arith}
use Rattle.std.specs.Prelude.{slice_get, nat_eq, count_by}
use Rattle.std.proofs.lemmas.List.Sums.{sum_by-cons}
use Rattle.turn_book.specs.Histories.{Runs}
use Rattle.turn_book.specs.Laws.{DependsOnReach, IsBounded}
use Rattle.route_table.specs.Rows.{table_of}
use Rattle.route_bank.specs.Indices.{words_with}
use Rattle.board_model.proofs.Words.{length-words_of}
use Rattle.book_rows.specs.declared.bank_machine.Registry.{Registry}
use Rattle.book_rows.specs.declared.bank_machine.Change.{Change}
use Rattle.book_rows.specs.declared.bank_machine.Change.TheVariants.{Put, Pass}
use Rattle.book_rows.specs.declared.bank_machine.Board.{Board}

abbrev pub caller_of : Change → ℕ
caller_of (Put c x) = c
caller_of (Pass c) = c

abbrev pub is_put : Change → Bool
is_put (Put c x) = true
is_put (Pass c) = false

-- a put depends on the registry and changes it
abbrev pub put_reach : Change → ℕ → Bool
put_reach (Put c x) p = nat_eq p 0
put_reach (Pass c) p = false

abbrev pub registries_of : Board → List Registry
registries_of s = s.registry ∷ []

-- the words of a registry, ticks going to GSI 2
abbrev pub words_in : Registry → List ℕ
words_in r = words_with r.table r.irqfds r.watches 2

abbrev pub words_of : Board → List ℕ
words_of s = words_in s.registry

abbrev pub IsNew : Board → Type 0
IsNew s = (s.changes ≡ 0) × (s.puts ≡ 0)

abbrev pub first_of : List Registry → Registry
first_of [] = record { table = table_of []; irqfds = []; watches = [] }
first_of (r ∷ rs) = r

abbrev pub board_with : List Registry → Board
board_with parts = record { registry = first_of parts; changes = 0; puts = 0 }

-- there are at most 2^40 entries and 2^20 puts
abbrev pub has_room : Board → Change → Type 0
has_room s (Put c x) = (s.changes < 2 ^ 40) × (s.puts < 2 ^ 20)
has_room s (Pass c) = s.changes < 2 ^ 40

abbrev pub Changed : Board → Change → Board → Type 0
Changed s (Put c x) t = (s.changes < 2 ^ 40) × (s.puts < 2 ^ 20) × (t ≡ record { registry = x; changes = s.changes + 1; puts = s.puts + 1 })
Changed s (Pass c) t = (s.changes < 2 ^ 40) × (t ≡ record { registry = s.registry; changes = s.changes + 1; puts = s.puts })

pub one_change : (s : Board) (e : Change) (t u : Board) → Changed s e t → Changed s e u → t ≡ u
one_change s (Put c x) t u h k = h.2 ∙ sym k.2
one_change s (Pass c) t u h k = h.1 ∙ sym k.1

pub one_registry : (s : Board) (e : Change) (t : Board) → Changed s e t → length (registries_of t) ≡ length (registries_of s)
one_registry s e t h = refl

pub as_many_words : (s : Board) (e : Change) (t : Board) → Changed s e t → length (words_of t) ≡ length (words_of s)
as_many_words s e t h = length-words_of _ ∙ sym (length-words_of _)

pub unput_stays : (s : Board) (e : Change) (t : Board) (p : ℕ) → Changed s e t → put_reach e p ≡ false →
    slice_get (registries_of t) p ≡ slice_get (registries_of s) p
unput_stays s (Put c x) t zero h off = absurd (let q : true ≡ false = off in cc)
unput_stays s (Put c x) t (suc p) h off = refl
unput_stays s (Pass c) t p h off = ap (λ (y : Board). slice_get (registries_of y) p) h.1

pub puts_depend : DependsOnReach IsNew Changed registries_of words_of (λ s e. put_reach e) has_room
puts_depend o s u t h k (Put c x) opens runs runs' step agree room =
    ((λ p. refl), (record { registry = x; changes = u.changes + 1; puts = u.puts + 1 }, (room.0, room.1, refl), λ p on. sym (ap (λ (y : Board). slice_get (registries_of y) p) step.2)))
puts_depend o s u t h k (Pass c) opens runs runs' step agree room =
    ((λ p. refl), (record { registry = u.registry; changes = u.changes + 1; puts = u.puts }, (room, refl), λ p on. absurd (let q : false ≡ true = on in cc)))

pub unput_words : (s : Board) (e : Change) (t : Board) → Changed s e t → is_put e ≡ false → words_of t ≡ words_of s
unput_words s (Put c x) t h off = absurd (let q : true ≡ false = off in cc)
unput_words s (Pass c) t h off = ap words_of h.1

-- entries and puts of a state are counted
pub puts-counted : (s : Board) (h : List Change) (t : Board) → Runs Changed s h t →
    (t.changes ≡ s.changes + length h) × (t.puts ≡ s.puts + count_by is_put h)
puts-counted s [] t runs = (let e = ap (λ (x : Board). x.changes) runs in omega arith, let e = ap (λ (x : Board). x.puts) runs in omega arith)
puts-counted s (Put c x ∷ es) t (m, step, more) =
    let a = puts-counted m es t more in
    let b = ap (λ (y : Board). y.changes) step.2 in
    let d = ap (λ (y : Board). y.puts) step.2 in
    let n = sum_by-cons (λ y. cond (is_put y) 1 0) (Put c x) es in
    (omega (arith, a.0), omega (arith, a.1))
puts-counted s (Pass c ∷ es) t (m, step, more) =
    let a = puts-counted m es t more in
    let b = ap (λ (y : Board). y.changes) step.1 in
    let d = ap (λ (y : Board). y.puts) step.1 in
    let n = sum_by-cons (λ y. cond (is_put y) 1 0) (Pass c) es in
    (omega (arith, a.0), omega (arith, a.1))

low_puts : (s : Board) (h : List Change) (t : Board) → Runs Changed s h t → s.changes ≤ 2 ^ 40 → s.puts ≤ 2 ^ 20 →
    (t.changes ≤ 2 ^ 40) × (t.puts ≤ 2 ^ 20)
low_puts s [] t runs low few = (let e = ap (λ (x : Board). x.changes) runs in omega arith, let e = ap (λ (x : Board). x.puts) runs in omega arith)
low_puts s (Put c x ∷ es) t (m, step, more) low few =
    let b = ap (λ (y : Board). y.changes) step.2 in
    let d = ap (λ (y : Board). y.puts) step.2 in
    low_puts m es t more (omega (arith, step.0, b)) (omega (arith, step.1, d))
low_puts s (Pass c ∷ es) t (m, step, more) low few =
    let b = ap (λ (y : Board). y.changes) step.1 in
    let d = ap (λ (y : Board). y.puts) step.1 in
    low_puts m es t more (omega (arith, step.0, b)) (omega (arith, d, few))

pub puts_bounded : IsBounded IsNew Changed is_put
puts_bounded o t h opens runs =
    let a = puts-counted o h t runs in
    let b = low_puts o h t runs (omega (arith, opens.0)) (omega (arith, opens.1)) in
    (omega (arith, a.0, b.0, opens.0), omega (arith, a.1, b.1, opens.1))
