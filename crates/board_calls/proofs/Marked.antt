-- Pins that are marked are acknowledged, one after another.
use Rattle.std.proofs.Common.{◌≡◌, ℕ, zero, suc, ◌+◌, ◌<◌, ◌≤◌, Bool, true, false, cond, List, [], ◌∷◌, ◌++◌, map, filter, Some, Ok, Err, refl, sym, ap, subst, ◌∙◌, arith}
use Rattle.std.specs.Prelude.{Result, option_map}
use Rattle.std.specs.Ordering.{nat_cmp}
use Rattle.std.specs.FinSet as set
use Rattle.irq_bits.specs.Members.{Numbers}
use Rattle.std.proofs.lemmas.List.Elements.{filter-append}
use Rattle.irq_base.specs.declared.event.Event.{Event}
use Rattle.irq_base.specs.declared.event.Pin.{Pin}
use Rattle.irq_base.specs.declared.event.Pin.TheVariants.{Ioapic}
use Rattle.irq_base.specs.declared.shape.Part.TheVariants as parts
use Rattle.irq_base.specs.declared.shape.Shape.{Shape}
use Rattle.ioapic_82093aa.specs.declared.ioapic.Ioapic.{Ioapic as Chip}
use Rattle.ioapic_82093aa.specs.Pins.{has_vector}
use Rattle.board_model.specs.Chips as chips
use Rattle.board_model.specs.Hand.{Parts}
use Rattle.board_model.specs.Plan.{done}
use Rattle.board_model.specs.Routing.{Routing}
use Rattle.board_model.specs.Run.{Wishes, run_on}
use Rattle.board_raise.specs.declared.lacks.Lacks.{Lacks}
use Rattle.board_raise.specs.declared.parts.IoPart as io
use Rattle.board_raise.specs.declared.parts.Parts as code
use Rattle.board_raise.specs.InHand.{ioapic_of, parts_of}
use Rattle.board_raise.specs.Send.{numbers_below}
use Rattle.board_raise.specs.RowSteps.{numbers_between}
use Rattle.board_raise.specs.Shown.{EndsWith, StopsAt}
use Rattle.board_raise.proofs.Between.{between_below, between_next, between_none}
use Rattle.board_raise.proofs.Composing.{stops_first}
use Rattle.board_ack.specs.Acknowledge.{acknowledge, acknowledge_each}
use Rattle.board_ack.specs.OnHand.{Adds}
use Rattle.board_ack.proofs.Adding.{looked, adds_adds, nothing_adds}
use Rattle.board_calls.specs.Processors.{all_pins, pins_with}
use Rattle.board_calls.specs.Own.{pins_marked, pins_seen}

-- ---- the marks

same_below : (p q : ℕ → Bool) (k : ℕ) → ((n : ℕ) → n < k → p n ≡ q n) → filter p (numbers_below k) ≡ filter q (numbers_below k)
same_below p q zero same = refl
same_below p q (suc k) same =
    let last : k < suc k = omega arith in
    filter-append p (numbers_below k) (k ∷ [])
    ∙ (λ i. same_below p q k (λ n low. let lower : n < suc k = omega (low, arith) in same n lower) i ++ cond (same k last i) (k ∷ []) [])
    ∙ sym (filter-append q (numbers_below k) (k ∷ []))

-- the marked pins are those whose entry has the vector
pub marks_are : (marks : Numbers) (chip : Chip) (vector : ℕ) → ((pin : ℕ) → pin < 24 → set.contains marks pin ≡ has_vector chip pin vector) → pins_marked marks ≡ pins_with chip vector
unfolding all_pins
marks_are marks chip vector same = ap (map Ioapic) (same_below (set.contains marks) (λ pin. has_vector chip pin vector) 24 same)

-- those pins of the I/O APIC in hand
pub pins_seen_ends : (p : code.Parts) (part : io.IoPart) → p.ioapic ≡ Some part → (marks : Numbers) (vector : ℕ) → ((pin : ℕ) → pin < 24 → set.contains marks pin ≡ has_vector part.ioapic pin vector) → (ws : Wishes)
    → EndsWith (pins_marked marks) [] [] (parts_of p) ws (run_on (pins_seen vector) (parts_of p) ws)
pins_seen_ends p part there marks vector same ws =
    subst (EndsWith (pins_marked marks) [] [] (parts_of p) ws)
    (sym (looked parts.Ioapic (λ v. done (pins_with (chips.ioapic_of v) vector)) (parts_of p) ws (ioapic_of part) (ap (option_map ioapic_of) there)))
    (record { value_is = marks_are marks (chips.ioapic_of (ioapic_of part)) vector same; events_are = refl; replies_are = refl; parts = refl; wishes = refl })

-- ---- the marked pins from one on

abbrev pub marked_in : Numbers → List ℕ → List Pin
marked_in marks ns = map Ioapic (filter (set.contains marks) ns)

abbrev pub marked_from : Numbers → ℕ → List Pin
marked_from marks pin = marked_in marks (numbers_between pin 24)

module _ (marks : Numbers) where
  from_first : marked_from marks 0 ≡ pins_marked marks
  unfolding all_pins
  from_first = ap (marked_in marks) (between_below 24)

  module _ (pin : ℕ) where
    from_marked : pin < 24 → set.contains marks pin ≡ true → marked_from marks pin ≡ Ioapic pin ∷ marked_from marks (pin + 1)
    from_marked below h =
        ap (marked_in marks) (between_next pin 24 below)
        ∙ ap (λ t. map Ioapic (cond t (pin ∷ filter (set.contains marks) (numbers_between (pin + 1) 24)) (filter (set.contains marks) (numbers_between (pin + 1) 24)))) h

    from_other : pin < 24 → set.contains marks pin ≡ false → marked_from marks pin ≡ marked_from marks (pin + 1)
    from_other below h =
        ap (marked_in marks) (between_next pin 24 below)
        ∙ ap (λ t. map Ioapic (cond t (pin ∷ filter (set.contains marks) (numbers_between (pin + 1) 24)) (filter (set.contains marks) (numbers_between (pin + 1) 24)))) h

    from_last : 24 ≤ pin → marked_from marks pin ≡ []
    from_last past = ap (marked_in marks) (between_none pin 24 past)

-- no pin is marked
pub none_marked : (marks : Numbers) → marks ≡ set.empty → pins_marked marks ≡ []
unfolding all_pins
none_marked marks none = ap pins_marked none ∙ ap (map Ioapic) (none_passes 24)
  where
    none_passes : (k : ℕ) → filter (set.contains (set.empty {K = ℕ} {R = nat_cmp})) (numbers_below k) ≡ []
    none_passes zero = refl
    none_passes (suc k) =
        filter-append (set.contains set.empty) (numbers_below k) (k ∷ [])
        ∙ (λ i. none_passes k i ++ cond (set.contains-empty nat_cmp k i) (k ∷ []) [])

-- ---- their acknowledges

module _ (routing : Routing) (shape : Shape) (marks : Numbers) (start : Parts) (first : Wishes) (old : List Event) where
  -- what the marked pins from one on add to these parts, all of them add to those at the start
  abbrev pub Leads : ℕ → Parts → Wishes → List Event → Type 0
  Leads pin q ws mid = (result : Result (Unit {0}) Lacks) (new : List Event) (after : Parts) (later : Wishes)
      → Adds result mid new after later (run_on (acknowledge_each routing shape (marked_from marks pin)) q ws)
      → Adds result old new after later (run_on (acknowledge_each routing shape (pins_marked marks)) start first)

  pub leads_first : Leads 0 start first old
  leads_first result new after later h = subst (λ (l : List Pin). Adds result old new after later (run_on (acknowledge_each routing shape l) start first)) (from_first marks) h

  module _ (pin : ℕ) (q : Parts) (ws : Wishes) (mid : List Event) (so_far : Leads pin q ws mid) where
    -- no pin is left
    pub leads_last : 24 ≤ pin → Adds (Ok tt) old mid q ws (run_on (acknowledge_each routing shape (pins_marked marks)) start first)
    leads_last past = so_far (Ok tt) mid q ws (subst (λ (l : List Pin). Adds (Ok tt) mid mid q ws (run_on (acknowledge_each routing shape l) q ws)) (sym (from_last marks pin past)) (nothing_adds mid q ws))

    module _ (below : pin < 24) where
      -- a pin that is not marked
      pub leads_other : set.contains marks pin ≡ false → Leads (pin + 1) q ws mid
      leads_other other result new after later h =
          so_far result new after later (subst (λ (l : List Pin). Adds result mid new after later (run_on (acknowledge_each routing shape l) q ws)) (sym (from_other marks pin below other)) h)

      module _ (marked : set.contains marks pin ≡ true) where
        -- a pin that is acknowledged
        pub leads_marked : (next : List Event) (r : Parts) (vs : Wishes) → Adds (Ok tt) mid next r vs (run_on (acknowledge routing shape (Ioapic pin)) q ws) → Leads (pin + 1) r vs next
        leads_marked next r vs one result new after later h =
            so_far result new after later
            (subst (λ (l : List Pin). Adds result mid new after later (run_on (acknowledge_each routing shape l) q ws)) (sym (from_marked marks pin below marked))
            (adds_adds (acknowledge routing shape (Ioapic pin)) (acknowledge_each routing shape (marked_from marks (pin + 1))) q ws r vs mid next new after later result one h))

        -- a pin whose acknowledge lacks a part
        pub leads_stops : (l : Lacks) (new : List Event) (after : Parts) (later : Wishes) → Adds (Err l) mid new after later (run_on (acknowledge routing shape (Ioapic pin)) q ws)
            → Adds (Err l) old new after later (run_on (acknowledge_each routing shape (pins_marked marks)) start first)
        leads_stops l new after later one =
            so_far (Err l) new after later
            (subst (λ (ps : List Pin). StopsAt l.part (run_on (acknowledge_each routing shape ps) q ws)) (sym (from_marked marks pin below marked))
            (stops_first (λ _. acknowledge_each routing shape (marked_from marks (pin + 1))) (acknowledge routing shape (Ioapic pin)) q ws l.part one))
