-- Lines of a text, and words of a line.
use Rattle.std.specs.Prelude.{◌≡◌, ℕ, ◌+◌, Bool, true, false, nat_eq, List, [], ◌∷◌, take, drop, length, position, if◌then◌else◌}
use Rattle.std.specs.Prelude.{Some, None, Ok, Err}
use Rattle.std.specs.declared.option.Option.{Option}
use Rattle.std.specs.declared.result.Result.{Result}
use Rattle.std.specs.List.{slice_split}
use Rattle.std.specs.Cmp.Lexicographic.{pointwise}
use Rattle.irq_base.specs.declared.fault.LineCause.{LineCause}
use Rattle.irq_base.specs.declared.fault.LineCause.TheVariants.{Count}

-- two texts are one
abbrev pub same_text : List ℕ → List ℕ → Bool
same_text a b = pointwise nat_eq a b

abbrev pub is_empty : {A : Type 0} → List A → Bool
is_empty [] = true
is_empty (x ∷ xs) = false

abbrev pub is_empty_word : List ℕ → Bool
is_empty_word word = nat_eq (length word) 0

-- the parts of a text between bytes of that value
abbrev pub parts_of : ℕ → List ℕ → List (List ℕ)
parts_of byte text = slice_split (λ b. nat_eq b byte) text

-- all parts but the last, and the last
abbrev pub front_parts : List (List ℕ) → List (List ℕ)
front_parts [] = []
front_parts (p ∷ []) = []
front_parts (p ∷ q ∷ ps) = p ∷ front_parts (q ∷ ps)

abbrev pub last_part : List (List ℕ) → List ℕ
last_part [] = []
last_part (p ∷ []) = p
last_part (p ∷ q ∷ ps) = last_part (q ∷ ps)

-- the lines of a text, each of which a line feed ends
abbrev pub ended_lines : List ℕ → List (List ℕ)
ended_lines bytes = front_parts (parts_of 10 bytes)

-- nothing stands behind the last line feed
abbrev pub is_ended : List ℕ → Bool
is_ended bytes = is_empty (last_part (parts_of 10 bytes))

-- the words of a line, parted by single spaces
abbrev pub words_of : List ℕ → List (List ℕ)
words_of line = parts_of 32 line

-- what stands before the first byte of that value, and what stands behind it
abbrev pub cut_by : List ℕ → Option ℕ → Option (List ℕ × List ℕ)
cut_by bytes None = None
cut_by bytes (Some k) = Some (take k bytes, drop (k + 1) bytes)

abbrev pub cut_at : ℕ → List ℕ → Option (List ℕ × List ℕ)
cut_at byte bytes = cut_by bytes (position (λ b. nat_eq b byte) bytes)

-- the parts in a tail, which is nothing, or a byte of that value and parts behind it
abbrev pub more_parts : ℕ → List ℕ → List (List ℕ)
more_parts byte [] = []
more_parts byte (b ∷ text) = parts_of byte text

-- nothing, or a text that begins with that byte
abbrev pub BeginsWith : ℕ → List ℕ → Type 0
BeginsWith byte [] = Unit {0}
BeginsWith byte (b ∷ text) = b ≡ byte

abbrev pub more_words : List ℕ → List (List ℕ)
more_words tail = more_parts 32 tail

-- exactly so many words
abbrev pub one_of : List (List ℕ) → Option (List ℕ)
one_of (a ∷ []) = Some a
one_of _ = None

abbrev pub two_of : List (List ℕ) → Option (List ℕ × List ℕ)
two_of (a ∷ b ∷ []) = Some (a, b)
two_of _ = None

abbrev pub three_of : List (List ℕ) → Option (List ℕ × List ℕ × List ℕ)
three_of (a ∷ b ∷ c ∷ []) = Some (a, b, c)
three_of _ = None

-- so many words, or the line's count is wrong
abbrev pub none : {A : Type 0} → List (List ℕ) → A → Result A LineCause
none words x = if is_empty words then Ok x else Err Count

abbrev pub one : {A : Type 0} → List (List ℕ) → (List ℕ → Result A LineCause) → Result A LineCause
one words f = elim (one_of words) [ None ↦ Err Count | Some w ↦ f w ]

abbrev pub two : {A : Type 0} → List (List ℕ) → (List ℕ → List ℕ → Result A LineCause) → Result A LineCause
two words f = elim (two_of words) [ None ↦ Err Count | Some w ↦ f w.0 w.1 ]

abbrev pub three : {A : Type 0} → List (List ℕ) → (List ℕ → List ℕ → List ℕ → Result A LineCause) → Result A LineCause
three words f = elim (three_of words) [ None ↦ Err Count | Some w ↦ f w.0 w.1 w.2 ]
