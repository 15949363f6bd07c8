-- The resample counters of the rows from a place on, one row further.
use Rattle.std.proofs.Common.{◌≡◌, ℕ, ◌+◌, ◌<◌, List, length, drop, get_or, Option, None, sym, ap, subst, ◌∙◌}
use Rattle.std.specs.List.{cons_option}
use Rattle.std.proofs.lemmas.List.{drop_more}
use Rattle.irqfd_set.specs.declared.irqfds.Irqfd.{Irqfd}
use Rattle.resampler.specs.Resample.{resample_of, resampled}

-- the row that stands for none
abbrev pub no_row : Irqfd
no_row = record { trigger = 0; gsi = 0; resample = None }

pub next_row : (walked rows : List Irqfd) (k gsi : ℕ) (next : Option ℕ) → walked ≡ rows → k < length walked → next ≡ resample_of gsi (get_or walked k no_row) → (found : Option ℕ) → next ≡ found →
    resampled (drop k rows) gsi ≡ cons_option found (resampled (drop (k + 1) rows) gsi)
next_row walked rows k gsi next same below is found e =
    subst (λ list. resampled (drop k list) gsi ≡ cons_option found (resampled (drop (k + 1) list) gsi)) same
    (ap (λ rest. resampled rest gsi) (drop_more walked k no_row below) ∙ ap (λ r. cons_option r (resampled (drop (k + 1) walked) gsi)) (sym is ∙ e))
