-- A board at power-on is sound.
use Rattle.board_step.proofs.Basics.{◌≡◌, ℕ, ◌+◌, ◌-◌, ◌^◌, ◌<◌, ◌≤◌, zero, suc, false, true≢false, List, [], ◌∷◌, ◌++◌, map, length, refl, sym, ap, subst, ◌∙◌, arith, length-append, IsTrue, AllPairs, slice_get, unwrap_or, contains-empty, length-replicate, All-nil, Pin, Resample, Irqfd, Watch, IoRow, LocalApic, power_on, Hold, hold, hold_cmp, has_trigger, RegistryPart, IsSoundIrqfd, IrqfdFits, WatchFits, numbers_below, All-replicate, is_named_watch as is_named, do_collide, opening_registry, HoldsStand, OpeningIsSound, contains, empty}
use Rattle.board_step.proofs.SoundTable.{opening_table}

-- local APICs whose numbers go up by one from a first
abbrev pub Numbered : ℕ → List LocalApic → Type 0
Numbered first [] = Unit {0}
Numbered first (a ∷ more) = (a.number ≡ first) × Numbered (suc first) more

one_more : (first : ℕ) (apics : List LocalApic) (a : LocalApic) → Numbered first apics → a.number ≡ first + length apics → Numbered first (apics ++ a ∷ [])
one_more first [] a each e = (omega (arith, e), tt)
one_more first (x ∷ xs) a each e = (each.0, one_more (suc first) xs a each.1 (omega (arith, e)))

pub number_at : (first : ℕ) (apics : List LocalApic) (n : ℕ) (d : LocalApic) → Numbered first apics → d.number ≡ first + n → (unwrap_or (slice_get apics n) d).number ≡ first + n
number_at first [] n d each e = e
number_at first (x ∷ xs) zero d each e = omega (arith, each.0)
number_at first (x ∷ xs) (suc n) d each e = let rest : (unwrap_or (slice_get xs n) d).number ≡ suc first + n = number_at (suc first) xs n d each.1 (omega (arith, e)) in omega (arith, rest)

mapped : (ns : List ℕ) (n : ℕ) → map power_on (ns ++ n ∷ []) ≡ map power_on ns ++ power_on n ∷ []
mapped [] n = refl
mapped (k ∷ ks) n = ap (λ l. power_on k ∷ l) (mapped ks n)

pub apics_many : (k : ℕ) → length (map power_on (numbers_below k)) ≡ k
apics_many zero = refl
apics_many (suc k) = ap length (mapped (numbers_below k) k) ∙ length-append (map power_on (numbers_below k)) (power_on k ∷ []) ∙ (omega (arith, (apics_many k)))

pub apics_numbered : (k : ℕ) → Numbered 0 (map power_on (numbers_below k))
apics_numbered zero = tt
apics_numbered (suc k) = subst (Numbered 0) (sym (mapped (numbers_below k) k)) (one_more 0 (map power_on (numbers_below k)) (power_on k) (apics_numbered k) (omega (arith, (apics_many k))))

no_holds : (r : RegistryPart) (count : ℕ) (chip : ℕ → Pin) → HoldsStand r empty count chip
no_holds r count chip = record {
  there = λ h held. absurd (none h held);
  resample = λ pin held. absurd (none (hold pin Resample) held);
}
  where
    none : (h : Hold) → IsTrue (contains (empty {R = hold_cmp}) h) → ⊥
    none h held = true≢false (sym held ∙ contains-empty hold_cmp h)

no_pairs : {X : Type 0} (R : X → X → Type 0) → AllPairs R []
no_pairs R i j d less below = absurd (omega (arith, below))

pub opening_is_sound : OpeningIsSound
opening_is_sound shape limits = record {
  limits = limits;
  registry = record { table = opening_table; irqfds = All-nil IsSoundIrqfd; watches = All-nil (λ (row : Watch). row.gsi < 4096); ticks = limits.tick };
  named = record { irqfds = All-nil (IrqfdFits shape.counters); watches = All-nil (WatchFits shape.counters); ioevents = All-nil (λ (e : IoRow). e.counter < shape.counters) };
  distinct = record {
    triggers = no_pairs (λ (row other : Irqfd). has_trigger row.trigger other ≡ false);
    roles = All-nil _;
    watches = no_pairs (λ (row other : Watch). is_named row.counter row.gsi other ≡ false);
    watch_count = omega arith;
    ioevents = no_pairs (λ (row other : IoRow). do_collide row other ≡ false);
    ioevent_count = omega arith;
  };
  counts = record {
    number = length-replicate {A = ℕ} shape.counters 0;
    greatest = All-replicate (λ count. count ≤ 2 ^ 64 - 2) shape.counters 0 (omega arith);
    triggers = λ counter count on at. absurd (true≢false (sym on));
  };
  pending = omega arith;
  lapics = record { places = apics_many shape.cpus; numbers = λ n. let at : (unwrap_or (slice_get (map power_on (numbers_below shape.cpus)) n) (power_on n)).number ≡ 0 + n = number_at 0 (map power_on (numbers_below shape.cpus)) n (power_on n) (apics_numbered shape.cpus) (omega arith) in omega (arith, at) };
  entries = refl;
  pic_holds = no_holds opening_registry 16 _;
  ioapic_holds = no_holds opening_registry 24 _;
  calls = omega arith;
  publications = omega arith;
}
