-- The counters of the rows from a place on, one row further.
use Rattle.std.proofs.Common.{◌≡◌, ◌≢◌, ℕ, ◌+◌, ◌<◌, List, ◌∷◌, length, drop, get_or, ap, ◌∙◌, arith}
use Rattle.std.proofs.lemmas.Bool.Decides.{nat_tests}
use Rattle.std.proofs.lemmas.List.{drop_more}
use Rattle.ack_notifiers.specs.declared.watches.Watch.{Watch}
use Rattle.ack_notifiers.specs.Rows.{watched}

-- one row of the GSI in front
pub watched-row : (row : Watch) (rows : List Watch) (gsi : ℕ) → row.gsi ≡ gsi → watched (row ∷ rows) gsi ≡ row.counter ∷ watched rows gsi
watched-row row rows gsi same = grind (arith, nat_tests, same)

-- one row of another GSI in front
pub other-row : (row : Watch) (rows : List Watch) (gsi : ℕ) → row.gsi ≢ gsi → watched (row ∷ rows) gsi ≡ watched rows gsi
other-row row rows gsi apart = grind (arith, nat_tests, apart)

pub next_row : (rows : List Watch) (k gsi : ℕ) (d : Watch) → k < length rows → (get_or rows k d).gsi ≡ gsi → watched (drop k rows) gsi ≡ (get_or rows k d).counter ∷ watched (drop (k + 1) rows) gsi
next_row rows k gsi d below same = ap (λ rest. watched rest gsi) (drop_more rows k d below) ∙ watched-row (get_or rows k d) (drop (k + 1) rows) gsi same

pub passed_row : (rows : List Watch) (k gsi : ℕ) (d : Watch) → k < length rows → (get_or rows k d).gsi ≢ gsi → watched (drop k rows) gsi ≡ watched (drop (k + 1) rows) gsi
passed_row rows k gsi d below apart = ap (λ rest. watched rest gsi) (drop_more rows k d below) ∙ other-row (get_or rows k d) (drop (k + 1) rows) gsi apart
