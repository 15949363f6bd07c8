-- Rows one after another.
use Rattle.std.proofs.Common.{◌≡◌, List, [], ◌∷◌, ◌++◌, refl, ap, ◌∙◌, append_assoc, Ok, Err}
use Rattle.std.specs.declared.result.Result.{Result}
use Rattle.std.proofs.lemmas.List.{append-nil}
use Rattle.irq_base.specs.declared.call.Row.{Row}
use Rattle.irq_base.specs.declared.fault.LineCause.{LineCause}
use Rattle.script_text.specs.Causes.{of_one}
use Rattle.script_text.specs.Commands.{with_row}

-- a row that is right
pub rows-more : (rs : List Row) (r : Row) (read : Result (List Row) LineCause) →
    of_one (λ ts. (rs ++ r ∷ []) ++ ts) read ≡ of_one (λ ts. rs ++ ts) (with_row (Ok r) read)
rows-more rs r (Ok ts) = ap Ok (append_assoc rs (r ∷ []) ts)
rows-more rs r (Err e) = refl

pub rows-end : (rs : List Row) (read : Result (List Row) LineCause) → read ≡ Ok [] → of_one (λ ts. rs ++ ts) read ≡ Ok rs
rows-end rs (Ok ts) h = ap (λ r. of_one (λ us. rs ++ us) r) h ∙ ap Ok (append-nil rs)
rows-end rs (Err e) h = absurd (cc)

pub ruleset row_rules = (rows-more, rows-end)
