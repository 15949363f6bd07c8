-- Which sources hold which pins (KVM_IRQ_LINE, KVM_IRQFD): a line that several devices share is high while one of them holds
-- it.
use Rattle.std.specs.Prelude.{◌≡◌, ℕ, ◌+◌, ◌<◌, zero, suc, Bool, nat_eq, refl}
use Rattle.std.proofs.Common.{ap, arith}
use Rattle.std.specs.Coded.{Coded, coded_ℕ, coded×, code_by}
use Rattle.std.specs.FinSet as set
use Rattle.std.specs.List.{list_any}
use Rattle.std.specs.declared.cmp.Ordering.{Ordering}
use Rattle.std.specs.Ordering.{nat_cmp, on, then_cmp}
use Rattle.irq_base.specs.declared.message.Source.{Source}
use Rattle.irq_base.specs.declared.message.Source.TheVariants.{Line, Pulse, Resample, Tick}

-- a source holds a pin
pub record Hold : Type 0 where
  pub pin : ℕ
  pub source : Source

abbrev pub hold : ℕ → Source → Hold
hold pin source = record { pin = pin; source = source }

-- the number of a source; no two sources have one number
unfoldable pub number_of : Source → ℕ
number_of Pulse = 0
number_of Resample = 1
number_of Tick = 2
number_of (Line n) = n + 3

-- the source of a number
abbrev pub source_of : ℕ → Source
source_of zero = Pulse
source_of (suc zero) = Resample
source_of (suc (suc zero)) = Tick
source_of (suc (suc (suc n))) = Line n

-- the order of holds: by the pin, and then by the source's number
abbrev pub hold_cmp : Hold → Hold → Ordering
hold_cmp = then_cmp (on (λ h. h.pin) nat_cmp) (on (λ h. number_of h.source) nat_cmp)

-- a set of holds
abbrev pub Holds : Type 0
Holds = set.FinSet hold_cmp

-- whether a hold is of the pin
abbrev pub is_of : ℕ → Hold → Bool
is_of pin h = nat_eq h.pin pin

-- whether some source holds the pin
unfoldable pub is_high : Holds → ℕ → Bool
is_high holds pin = list_any (is_of pin) (set.items holds)

-- a source that can hold a pin: lines are numbered 0 to 7
abbrev pub IsSource : Source → Type 0
IsSource (Line n) = n < 8
IsSource _ = Unit {0}

pub source_given_back : (s : Source) → source_of (number_of s) ≡ s
unfolding number_of
source_given_back Pulse = refl
source_given_back Resample = refl
source_given_back Tick = refl
source_given_back (Line n) = let three : n + 3 ≡ suc (suc (suc n)) = omega arith in ap source_of three

-- a hold is stored as its pin and the number of its source
abbrev pub hold_code : Coded Hold
hold_code =
    code_by (ℕ × ℕ) (coded× coded_ℕ coded_ℕ) (λ h. (h.pin, number_of h.source)) (λ p. hold p.0 (source_of p.1)) (λ h i.
    hold h.pin (source_given_back h.source i))

abbrev pub holds_code : Coded Holds
holds_code = set.code hold_code
