-- What a sound registry tells of triggers, of signalled counters and of pins.
use Rattle.board_step.proofs.Basics.{arith, ◌≡◌, ℕ, Bool, true, false, true≢false, cond, ◌&&◌, ◌||◌, nat_eq, if◌then◌else◌, List, [], ◌∷◌, map, filter, All, Some, None, refl, sym, ap, subst, ◌∙◌, IsTrue, filter_map, find, list_any, cons_option, unsigned_Decides, Option, All-head, All-tail, Pin, Source, Resample, Shape, Irqfd, Watch, Row, TriggerWord, has_trigger, resamples, of_trigger, has_resampler, resample_of, resampled, watched, has_counter, Table, table_of, targets_of, refusal_of, has_pin, gsi_of, RegistryPart, trigger_of, IsSoundTable, IsSoundRegistry, RegistrationsFit, is_trigger, is_counter, has_resample, is_signalled, option_map, is_same_pin as is_same, sound_of, is_same-some, gsi_of_pin, pin_of_gsi, HasResampler, AreDistinct}
use borrow.Author.Tests.{ltb-true}
use Rattle.board_step.proofs.SoundCounts.{NoTriggers}
use Rattle.board_step.proofs.SoundSends.{MayHold}

-- a registry of a sound board of this shape
pub record RegistryFine (shape : Shape) (r : RegistryPart) : Type 0 where
  pub sound : IsSoundRegistry r shape.tick
  pub named : RegistrationsFit shape.counters r
  pub distinct : AreDistinct r

-- ---- counters

-- what no row's trigger passes, no trigger passes
pub no_such_trigger : (f : ℕ → Bool) (rows : List Irqfd) → All (λ (row : Irqfd). f row.trigger ≡ false) rows → (c : ℕ) → f c ≡ true → list_any (has_trigger c) rows ≡ false
no_such_trigger f [] none c on = refl
no_such_trigger f (x ∷ xs) none c on =
    elim (nat_eq x.trigger c) as (λ t. nat_eq x.trigger c ≡ t → (t || list_any (has_trigger c) xs) ≡ false) [
      | true ↦ λ e. absurd (true≢false (sym on ∙ ap f (sym ((unsigned_Decides x.trigger c).0 e)) ∙ All-head (λ (row : Irqfd). f row.trigger ≡ false) x xs none))
      | false ↦ λ _. no_such_trigger f xs (All-tail (λ (row : Irqfd). f row.trigger ≡ false) x xs none) c on
    ] refl

or_first : (a b : Bool) → a ≡ true → (a || b) ≡ true
or_first true b e = refl
or_first false b e = cc

or_later : (a b : Bool) → b ≡ true → (a || b) ≡ true
or_later true b e = refl
or_later false b e = e

itself : (n : ℕ) → nat_eq n n ≡ true
itself n = (unsigned_Decides n n).1 refl

resampled_none : (r : RegistryPart) (gsi : ℕ) (rows : List Irqfd) → ((c : ℕ) → list_any (has_resample c) rows ≡ true → is_trigger r c ≡ false) → NoTriggers r (resampled rows gsi)
resampled_none r gsi [] none = tt
resampled_none r gsi (x ∷ xs) none =
    let rest : NoTriggers r (filter_map (resample_of gsi) xs) = resampled_none r gsi xs (λ c on. none c (or_later (has_resample c x) (list_any (has_resample c) xs) on)) in
    elim (nat_eq x.gsi gsi) as (λ t. NoTriggers r (cons_option (if t then x.resample else None) (filter_map (resample_of gsi) xs))) [
      | true ↦ elim (x.resample) as (λ (o : Option ℕ). x.resample ≡ o → NoTriggers r (cons_option o (filter_map (resample_of gsi) xs))) [
        | None ↦ λ _. rest
        | Some c ↦ λ e. (none c (or_first (is_counter c x.resample) (list_any (has_resample c) xs) (ap (is_counter c) e ∙ itself c)), rest)
      ] refl
      | false ↦ rest
    ]

watched_none : (r : RegistryPart) (gsi : ℕ) (rows : List Watch) → ((c : ℕ) → has_counter rows c ≡ true → is_trigger r c ≡ false) → NoTriggers r (watched rows gsi)
watched_none r gsi [] none = tt
watched_none r gsi (x ∷ xs) none =
    let rest : NoTriggers r (watched xs gsi) = watched_none r gsi xs (λ c on. none c (or_later (nat_eq x.counter c) (has_counter xs c) on)) in
    elim (nat_eq x.gsi gsi) as (λ t. NoTriggers r (map (λ (row : Watch). row.counter) (cond t (x ∷ filter (λ row. nat_eq row.gsi gsi) xs) (filter (λ row. nat_eq row.gsi gsi) xs)))) [
      | true ↦ (none x.counter (or_first (nat_eq x.counter x.counter) (has_counter xs x.counter) (itself x.counter)), rest)
      | false ↦ rest
    ]

module _ (shape : Shape) (r : RegistryPart) (fine : RegistryFine shape r) where
  signalled_none : (c : ℕ) → is_signalled r c ≡ true → is_trigger r c ≡ false
  signalled_none c on = no_such_trigger (is_signalled r) r.irqfds fine.distinct.roles c on

  -- no counter that an acknowledge signals is a trigger
  pub resampled_free : (gsi : ℕ) → NoTriggers r (resampled r.irqfds gsi)
  resampled_free gsi = resampled_none r gsi r.irqfds (λ c on. signalled_none c (or_first (list_any (has_resample c) r.irqfds) (has_counter r.watches c) on))

  pub watched_free : (gsi : ℕ) → NoTriggers r (watched r.watches gsi)
  watched_free gsi = watched_none r gsi r.watches (λ c on. signalled_none c (or_later (list_any (has_resample c) r.irqfds) (has_counter r.watches c) on))

-- ---- the irqfd of a trigger

pub no_irqfd : (rows : List Irqfd) (c : ℕ) → option_map trigger_of (of_trigger rows c) ≡ None → list_any (has_trigger c) rows ≡ false
no_irqfd [] c e = refl
no_irqfd (x ∷ xs) c e =
    elim (nat_eq x.trigger c) as (λ t. option_map trigger_of (cond t (Some x) (find (has_trigger c) xs)) ≡ None → (t || list_any (has_trigger c) xs) ≡ false) [
      | true ↦ λ some. absurd (some_is_none (trigger_of x) some)
      | false ↦ λ rest. no_irqfd xs c rest
    ] e
  where
    some_is_none : (t : TriggerWord) → Some t ≡ None → ⊥
    some_is_none t e = cc

-- a trigger that resamples has a row that does
pub irqfd_resamples : (rows : List Irqfd) (c : ℕ) (t : TriggerWord) → option_map trigger_of (of_trigger rows c) ≡ Some t → t.resample ≡ true → IsTrue (has_resampler rows t.gsi)
irqfd_resamples [] c t e on = absurd (none_is_some t e)
  where
    none_is_some : (t : TriggerWord) → None ≡ Some t → ⊥
    none_is_some t e = cc
irqfd_resamples (x ∷ xs) c t e on =
    elim (nat_eq x.trigger c) as (λ b. option_map trigger_of (cond b (Some x) (find (has_trigger c) xs)) ≡ Some t → (resamples t.gsi x || list_any (resamples t.gsi) xs) ≡ true) [
      | true ↦ λ some. let same = is_word (trigger_of x) t some in
          or_first (resamples t.gsi x) (list_any (resamples t.gsi) xs) (λ i. (ap (λ n. nat_eq x.gsi n) (sym (ap (λ (w : TriggerWord). w.gsi) same)) ∙ itself x.gsi) i && (ap (λ (w : TriggerWord). w.resample) same ∙ on) i)
      | false ↦ λ rest. or_later (resamples t.gsi x) (list_any (resamples t.gsi) xs) (irqfd_resamples xs c t rest on)
    ] e
  where
    is_word : (u t : TriggerWord) → Some u ≡ Some t → u ≡ t
    is_word u t e = cc

-- ---- pins

-- a table is that of rows that keep the rules
abbrev pub IsMade : Table → Type 0
IsMade table = (rows : List Row) × (refusal_of rows ≡ None) × (table ≡ table_of rows)

-- the GSI of a target's pin is the GSI whose target it is
pub gsi_of_target : (table : Table) → IsMade table → (pin : Pin) (gsi : ℕ) → IsTrue (has_pin pin (targets_of table gsi)) → gsi_of table pin ≡ Some gsi
gsi_of_target table (rows, kept, made) pin gsi has =
    ap (λ (t : Table). gsi_of t pin) made
    ∙ gsi_of_pin rows (sound_of rows kept) pin gsi (subst (λ (t : Table). IsTrue (has_pin pin (targets_of t gsi))) made has)

-- and a pin is a target of its GSI
pub target_of_gsi : (table : Table) → IsMade table → (pin : Pin) (gsi : ℕ) → gsi_of table pin ≡ Some gsi → IsTrue (has_pin pin (targets_of table gsi))
target_of_gsi table (rows, kept, made) pin gsi named = subst (λ (t : Table). IsTrue (has_pin pin (targets_of t gsi))) (sym made) (pin_of_gsi rows pin gsi (ap (λ (t : Table). gsi_of t pin) (sym made) ∙ named))

same_some : (o : Option ℕ) (n : ℕ) → o ≡ Some n → is_same o (Some n) ≡ true
same_some o n e = ap (λ p. is_same p (Some n)) e ∙ is_same-some n

-- the pins of a GSI with a resampler are those of one
pub pic_resamples : (r : RegistryPart) → IsMade r.table → (gsi pin : ℕ) → (targets_of r.table gsi).pic ≡ Some pin → IsTrue (has_resampler r.irqfds gsi) → HasResampler r (Pin.Pic pin)
pic_resamples r made gsi pin at on = record { gsi = gsi; named = gsi_of_target r.table made (Pin.Pic pin) gsi (same_some (targets_of r.table gsi).pic pin at); resamples = on }

pub ioapic_resamples : (r : RegistryPart) → IsMade r.table → (gsi pin : ℕ) → (targets_of r.table gsi).ioapic ≡ Some pin → IsTrue (has_resampler r.irqfds gsi) → HasResampler r (Pin.Ioapic pin)
ioapic_resamples r made gsi pin at on = record { gsi = gsi; named = gsi_of_target r.table made (Pin.Ioapic pin) gsi (same_some (targets_of r.table gsi).ioapic pin at); resamples = on }

-- a source may hold the targets of a GSI, which has a resampler where the source is one
pub may_hold : (r : RegistryPart) → IsSoundTable r.table → (gsi : ℕ) (source : Source) → (source ≡ Resample → IsTrue (has_resampler r.irqfds gsi)) → MayHold r (targets_of r.table gsi) source
may_hold r s gsi source resamples =
    let targets = targets_of r.table gsi in
    record {
      pic = λ pin at. ((grind (arith, ltb-true, at, (s.routes gsi))), λ is. pic_resamples r s.made gsi pin at (resamples is));
      ioapic = λ pin at. ((grind (arith, ltb-true, at, (s.routes gsi))), λ is. ioapic_resamples r s.made gsi pin at (resamples is));
    }
