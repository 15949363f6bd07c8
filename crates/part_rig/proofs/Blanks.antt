-- A word that is read where none was read under that generation leaves one blank less.
use Rattle.std.proofs.Common.{◌≡◌, ℕ, zero, suc, ◌+◌, ◌<◌, ◌≤◌, nat_eq, true, [], ◌∷◌, length, get_or, slice_set, cond, if◌then◌else◌, is_none, Some, None, refl, ap, ◌∙◌, arith}
use Rattle.std.specs.declared.option.Option.{Option}
use Rattle.std.specs.List.{count_by}
use Rattle.std.proofs.lemmas.List.Sums.{sum_by-set, count_by-le-length}
use Rattle.part_rig.specs.declared.reading.Reading.{Reading}
use Rattle.part_rig.specs.Readings.{Places, read_at, word_under, blanks_under}

abbrev worth : ℕ → Option Reading → ℕ
worth g r = cond (is_none (word_under g r)) 1 0

read_or : (places : Places) (k : ℕ) → get_or places k None ≡ read_at places k
read_or [] k = refl
read_or (r ∷ places) zero = refl
read_or (r ∷ places) (suc k) = read_or places k

filled : (g w : ℕ) → word_under g (Some (record { word = w; generation = g })) ≡ Some w
filled g w = let t : nat_eq g g ≡ true = grind arith in ap (λ b. if b then Some w else None) t

pub few_blanks : (places : Places) (n g : ℕ) → length places ≡ n → blanks_under g places ≤ n
unfolding blanks_under
few_blanks places n g count = let most = count_by-le-length (λ r. is_none (word_under g r)) places in omega (arith, most, count)

pub one_fewer : (places : Places) (k w g : ℕ) → k < length places → word_under g (read_at places k) ≡ None → blanks_under g (slice_set places k (Some (record { word = w; generation = g }))) + 1 ≡ blanks_under g places
unfolding blanks_under
one_fewer places k w g low none =
    let r : Option Reading = Some (record { word = w; generation = g }) in
    let sum : count_by (λ r. is_none (word_under g r)) (slice_set places k r) + worth g (get_or places k None) ≡ count_by (λ r. is_none (word_under g r)) places + worth g r
    = sum_by-set (worth g) places k r None low in
    let one : worth g (get_or places k None) ≡ 1 = ap (worth g) (read_or places k) ∙ ap (λ o. cond (is_none o) 1 0) none in
    let nothing : worth g r ≡ 0 = ap (λ o. cond (is_none o) 1 0) (filled g w) in
    omega (arith, sum, one, nothing)
