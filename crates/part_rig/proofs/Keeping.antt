-- All that is kept of words stands in one list.
use Rattle.std.proofs.Common.{◌≡◌, ℕ, Bool, true, false, if◌then◌else◌, List, [], ◌∷◌, Some, None, refl, sym}
use Rattle.std.specs.declared.option.Option.{Option}
use Rattle.part_rig.specs.declared.known.Known.{Known}
use Rattle.part_rig.specs.declared.reading.Reading.{Reading}
use Rattle.part_rig.specs.Readings.{Places}
use Rattle.part_rig.specs.Noted.{listed, listed_by}
use Rattle.part_rig.specs.Knowing.{kept_of, SameReadings}
use Rattle.part_rig.proofs.Telling.{some_is, none_some}

tail_is : (x y : Option ℕ) (xs ys : List (Option ℕ)) → x ∷ xs ≡ y ∷ ys → xs ≡ ys
tail_is x y xs ys e = cc

head_is : (x y : Option ℕ) (xs ys : List (Option ℕ)) → x ∷ xs ≡ y ∷ ys → x ≡ y
head_is x y xs ys e = cc

one_reading : (r s : Option Reading) (xs ys : List (Option ℕ)) → listed_by r xs ≡ listed_by s ys → (r ≡ s) × (xs ≡ ys)
one_reading None None xs ys e = (refl, tail_is None None xs ys (tail_is None None (None ∷ xs) (None ∷ ys) e))
one_reading None (Some s) xs ys e = cc
one_reading (Some r) None xs ys e = cc
one_reading (Some r) (Some s) xs ys e =
    let word : r.word ≡ s.word = some_is r.word s.word (head_is (Some r.word) (Some s.word) (Some r.generation ∷ xs) (Some s.generation ∷ ys) e) in
    let rest : Some r.generation ∷ xs ≡ Some s.generation ∷ ys = tail_is (Some r.word) (Some s.word) (Some r.generation ∷ xs) (Some s.generation ∷ ys) e in
    let generation : r.generation ≡ s.generation = some_is r.generation s.generation (head_is (Some r.generation) (Some s.generation) xs ys rest) in
    ((λ i. Some (record { word = word i; generation = generation i })), tail_is (Some r.generation) (Some s.generation) xs ys rest)

not_listed : (r : Option Reading) (xs : List (Option ℕ)) → [] ≡ listed_by r xs → ⊥
not_listed None xs e = cc
not_listed (Some r) xs e = cc

same_listed : (xs ys : Places) → listed xs ≡ listed ys → xs ≡ ys
same_listed [] [] e = refl
same_listed [] (y ∷ ys) e = absurd (not_listed y (listed ys) e)
same_listed (x ∷ xs) [] e = absurd (not_listed x (listed xs) (sym e))
same_listed (x ∷ xs) (y ∷ ys) e =
    let (first, rest) = one_reading x y (listed xs) (listed ys) e in
    let others = same_listed xs ys rest in
    λ i. first i ∷ others i

abbrev mark_of : Bool → Option ℕ
mark_of b = if b then Some 1 else None

same_mark : (a b : Bool) → mark_of a ≡ mark_of b → a ≡ b
same_mark true true e = refl
same_mark false false e = refl
same_mark true false e = absurd (none_some 1 (sym e))
same_mark false true e = absurd (none_some 1 e)

pub same_readings : (old new : Known) → kept_of new ≡ kept_of old → SameReadings old new
same_readings old new e = record {
  places = same_listed new.places.items old.places.items (tail_is (mark new) (mark old) (listed new.places.items) (listed old.places.items) rest);
  looked = some_is new.looked old.looked (head_is (Some new.looked) (Some old.looked) (behind new) (behind old) e);
  settled = same_mark new.settled old.settled (head_is (mark new) (mark old) (listed new.places.items) (listed old.places.items) rest);
}
  where
    mark : Known → Option ℕ
    mark k = mark_of k.settled

    behind : Known → List (Option ℕ)
    behind k = mark k ∷ listed k.places.items

    rest : behind new ≡ behind old
    rest = tail_is (Some new.looked) (Some old.looked) (behind new) (behind old) e
