-- The rows of different GSIs are different rows: the events of acknowledges of pins whose GSIs differ are few.
use Rattle.board_step.proofs.Basics.{◌≡◌, ℕ, ◌+◌, ◌≤◌, Bool, true, false, cond, nat_eq, if◌then◌else◌, List, [], ◌∷◌, length, map, filter, refl, sym, ap, ◌∙◌, subst, arith, Some, None, is_some, Option, Watched, Pin, Shape, Irqfd, Watch, resample_events, watch_events, RegistryPart, Routing, rows_for, ticks_for, again_for, each_events}

-- ---- totals over a list

-- f of each element, added up
abbrev pub total : {X : Type 0} → (X → ℕ) → List X → ℕ
total f [] = 0
total f (x ∷ xs) = f x + total f xs

module _ {X : Type 0} where
  total_zero : (xs : List X) → total (λ x. 0) xs ≡ 0
  total_zero [] = refl
  total_zero (x ∷ xs) = omega (arith, total_zero xs)

  total_plus : (f g : X → ℕ) (xs : List X) → total (λ x. f x + g x) xs ≡ total f xs + total g xs
  total_plus f g [] = refl
  total_plus f g (x ∷ xs) = omega (arith, total_plus f g xs)

  pub total_at_most : (f g : X → ℕ) → ((x : X) → f x ≤ g x) → (xs : List X) → total f xs ≤ total g xs
  total_at_most f g less [] = omega arith
  total_at_most f g less (x ∷ xs) = omega (arith, less x, total_at_most f g less xs)

  pub total_of_some : (p : X → Bool) (f : X → ℕ) (xs : List X) → total f (filter p xs) ≤ total f xs
  total_of_some p f [] = omega arith
  total_of_some p f (x ∷ xs) = elim (p x) as (λ t. total f (cond t (x ∷ filter p xs) (filter p xs)) ≤ f x + total f xs) [
    | true ↦ omega (arith, total_of_some p f xs)
    | false ↦ omega (arith, total_of_some p f xs)
  ]

-- a table may be added up by rows or by columns
total_swapped : {X Y : Type 0} (f : X → Y → ℕ) (xs : List X) (ys : List Y) → total (λ x. total (f x) ys) xs ≡ total (λ y. total (λ x. f x y) xs) ys
total_swapped f xs [] = total_zero xs
total_swapped f xs (y ∷ ys) = total_plus (λ x. f x y) (λ x. total (f x) ys) xs ∙ ap (λ n. total (λ x. f x y) xs + n) (total_swapped f xs ys)

-- ---- what counts for a GSI

-- whether there is a GSI, and it is this one
abbrev is_at : ℕ → Option ℕ → Bool
is_at place None = false
is_at place (Some gsi) = nat_eq place gsi

-- the weight of what is at a place, where the GSI is that place
abbrev pub counted_at : ℕ → ℕ → Option ℕ → ℕ
counted_at place weight gsi = if is_at place gsi then weight else 0

module _ {X : Type 0} (gsi_of : X → Option ℕ) where
  -- no two of these have one GSI
  abbrev pub AreApart : List X → Type 0
  AreApart xs = (place : ℕ) → total (λ x. counted_at place 1 (gsi_of x)) xs ≤ 1

  counted_never : (place weight : ℕ) (xs : List X) → total (λ x. counted_at place 1 (gsi_of x)) xs ≤ 0 → total (λ x. counted_at place weight (gsi_of x)) xs ≤ 0
  counted_never place weight [] none = omega arith
  counted_never place weight (x ∷ xs) none = elim (is_at place (gsi_of x)) as (λ t. (if t then 1 else 0) + total (λ x. counted_at place 1 (gsi_of x)) xs ≤ 0 → (if t then weight else 0) + total (λ x. counted_at place weight (gsi_of x)) xs ≤ 0) [
    | true ↦ λ none. absurd (omega (arith, none))
    | false ↦ λ none. omega (arith, counted_never place weight xs (omega (arith, none)))
  ] none

  counted_once : (place weight : ℕ) (xs : List X) → total (λ x. counted_at place 1 (gsi_of x)) xs ≤ 1 → total (λ x. counted_at place weight (gsi_of x)) xs ≤ weight
  counted_once place weight [] once = omega arith
  counted_once place weight (x ∷ xs) once = elim (is_at place (gsi_of x)) as (λ t. (if t then 1 else 0) + total (λ x. counted_at place 1 (gsi_of x)) xs ≤ 1 → (if t then weight else 0) + total (λ x. counted_at place weight (gsi_of x)) xs ≤ weight) [
    | true ↦ λ once. omega (arith, counted_never place weight xs (omega (arith, once)))
    | false ↦ λ once. omega (arith, counted_once place weight xs (omega (arith, once)))
  ] once

  -- each row counts once at most
  rows_once : {Row : Type 0} (place weight : Row → ℕ) (rows : List Row) (xs : List X) → AreApart xs → total (λ x. total (λ row. counted_at (place row) (weight row) (gsi_of x)) rows) xs ≤ total weight rows
  rows_once place weight rows xs apart =
      subst (λ n. n ≤ total weight rows) (sym (total_swapped (λ x row. counted_at (place row) (weight row) (gsi_of x)) xs rows))
      (total_at_most (λ row. total (λ x. counted_at (place row) (weight row) (gsi_of x)) xs) weight (λ row. counted_once (place row) (weight row) xs (apart (place row))) rows)

-- ---- the rows of a registry

-- an irqfd counts where it has a resample counter
abbrev pub resample_weight : Irqfd → ℕ
resample_weight row = if is_some row.resample then 1 else 0

-- the irqfds with a resample counter
abbrev pub resamplers : RegistryPart → ℕ
resamplers registry = total resample_weight registry.irqfds

resample_events-count : (gsi : ℕ) (rows : List Irqfd) → length (resample_events rows gsi) ≡ total (λ row. counted_at row.gsi (resample_weight row) (Some gsi)) rows
resample_events-count gsi [] = refl
resample_events-count gsi (row ∷ rows) = grind (arith, (resample_events-count gsi rows))
  where
    rest : ℕ
    rest = total (λ row. counted_at row.gsi (resample_weight row) (Some gsi)) rows

watch_events-count : (gsi : ℕ) (rows : List Watch) → length (watch_events rows gsi) ≡ total (λ row. counted_at row.gsi 1 (Some gsi)) rows
watch_events-count gsi [] = refl
watch_events-count gsi (row ∷ rows) = elim (nat_eq row.gsi gsi) as (λ t. length (map Watched (map (λ row. row.counter) (cond t (row ∷ filter (λ row. nat_eq row.gsi gsi) rows) (filter (λ row. nat_eq row.gsi gsi) rows)))) ≡ (if t then 1 else 0) + rest) [
  | true ↦ omega (arith, watch_events-count gsi rows)
  | false ↦ watch_events-count gsi rows ∙ omega arith
]
  where
    rest : ℕ
    rest = total (λ row. counted_at row.gsi 1 (Some gsi)) rows

-- the events of the rows of a GSI, row by row
abbrev irqfd_total : RegistryPart → Option ℕ → ℕ
irqfd_total registry gsi = total (λ row. counted_at row.gsi (resample_weight row) gsi) registry.irqfds

abbrev watch_total : RegistryPart → Option ℕ → ℕ
watch_total registry gsi = total (λ row. counted_at row.gsi 1 gsi) registry.watches

rows_for-count : (registry : RegistryPart) (gsi : Option ℕ) → rows_for registry gsi ≡ irqfd_total registry gsi + watch_total registry gsi
rows_for-count registry None = omega (arith, total_zero registry.irqfds, total_zero registry.watches)
rows_for-count registry (Some gsi) = omega (arith, resample_events-count gsi registry.irqfds, watch_events-count gsi registry.watches)

ticks_for-count : (shape : Shape) (gsi : Option ℕ) → ticks_for shape gsi ≡ counted_at shape.tick 1 gsi
ticks_for-count shape gsi = grind arith

total_ones : {X : Type 0} (xs : List X) → total (λ x. 1) xs ≡ length xs
total_ones [] = refl
total_ones (x ∷ xs) = omega (arith, total_ones xs)

-- ---- acknowledges of pins whose GSIs differ

-- the pins that may be sent again
abbrev pub again_total : List Pin → ℕ
again_total pins = total again_for pins

-- one event of each pin, those of the pins that are sent again, one of each row that a GSI may have, and one of the tick
abbrev pub apart_events : RegistryPart → List Pin → ℕ
apart_events registry pins = length pins + again_total pins + resamplers registry + length registry.watches + 1

module _ (routing : Routing) (shape : Shape) (registry : RegistryPart) where
  each_events-count : (pins : List Pin) →
      each_events routing shape registry pins ≡ length pins + again_total pins + total (λ pin. irqfd_total registry (routing.gsi_of pin)) pins + total (λ pin. watch_total registry (routing.gsi_of pin)) pins + total (λ pin. counted_at shape.tick 1 (routing.gsi_of pin)) pins
  each_events-count [] = refl
  each_events-count (pin ∷ pins) = omega (arith, each_events-count pins, rows_for-count registry (routing.gsi_of pin), ticks_for-count shape (routing.gsi_of pin))

  pub each_events-apart : (pins : List Pin) → AreApart routing.gsi_of pins → each_events routing shape registry pins ≤ apart_events registry pins
  each_events-apart pins apart =
      omega (arith, each_events-count pins, (rows_once routing.gsi_of (λ row. row.gsi) resample_weight registry.irqfds pins apart), (rows_once routing.gsi_of (λ row. row.gsi) (λ row. 1) registry.watches pins apart), total_ones registry.watches, apart shape.tick)

  -- of some pins of a chip there are no more
  pub each_events-some : (chip : ℕ → Pin) (p : ℕ → Bool) (numbers : List ℕ) → each_events routing shape registry (map chip (filter p numbers)) ≤ each_events routing shape registry (map chip numbers)
  each_events-some chip p [] = omega arith
  each_events-some chip p (n ∷ ns) = elim (p n) as (λ t. each_events routing shape registry (map chip (cond t (n ∷ filter p ns) (filter p ns))) ≤ each_events routing shape registry (map chip (n ∷ ns))) [
    | true ↦ omega (arith, each_events-some chip p ns)
    | false ↦ omega (arith, each_events-some chip p ns)
  ]
