-- A set of processors is given back by its word.
use Rattle.std.proofs.Common.{◌≡◌, ℕ, ◌<◌, ◌^◌, sym, ap, ◌∙◌}
use Rattle.std.specs.Cmp.{nat_cmp_total}
use Rattle.std.specs.FinSet as set
use Rattle.std.specs.FinSet.{same_set, nat_cmp-IsAntisymmetric}
use Rattle.irq_bits.specs.Members.{Numbers, is_set, members_of, word_of}
use Rattle.irq_bits.specs.Words.{cpu-bit}
use Rattle.transcript.specs.Fitting.{FitsSet}

pub given_back : (s : Numbers) (word : ℕ) → word < 2 ^ 64 → word ≡ word_of 64 s → ((n : ℕ) → is_set word n ≡ set.contains s n) → FitsSet s
given_back s word fits is each =
    ap (members_of 64) (sym is) ∙ same_set nat_cmp_total nat_cmp-IsAntisymmetric _ _ (λ n. sym (cpu-bit word n fits) ∙ each n)
