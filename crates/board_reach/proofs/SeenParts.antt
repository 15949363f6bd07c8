-- The board of the parts that are lent, and the counts of a board, which no reach depends on.
use Rattle.board_reach.proofs.Basics.{◌≡◌, ℕ, ◌≤◌, ◌^◌, true, false, true≢false, ◌||◌, List, [], length, arith, refl, sym, ap, ◌∙◌, Some, None, is_some, IfSome, AllPairs, unwrap_or, Option, Call, Caller, Part, Registry, Lapic, Irqfd, has_trigger, RegistryPart, Board, part_of, with_part, is_same, Plan, done, look, put, tell, answer, choose, Wishes, next_wish, later_wishes, reaches, registry_of, RegistrationsFit, option_map, plan_on, reach, SeenFits, PartsFit, subst, parts_of, chips_of, Parts, all_parts, IsSound, IsWhole, Fits}
use Rattle.board_raise.specs.declared.parts.Parts as parts
use Rattle.board_reach.specs.declared.seen.Seen.{Seen}
use Rattle.board_step.proofs.WholeParts.{below_is}
use Rattle.board_step.proofs.ReachCalls.{reach_is_table}

-- ---- the parts that are lent

abbrev pub parts_seen : Seen → parts.Parts
parts_seen s = record {
  registry = Some s.registry.now;
  counters = Some s.counters.now;
  tick = Some s.tick.now;
  pic = Some s.pic.now;
  ioapic = Some s.ioapic.now;
  lapics = s.lapics.now;
}

pub seen_fits : (s : Seen) → PartsFit s.shape.now (parts_seen s) → SeenFits s
seen_fits s h = record {
  cpus = h.cpus;
  tick = h.tick;
  counted = h.counted;
  registrations = h.registrations;
  distinct = h.distinct;
  pic = h.pins.pic;
  ioapic = h.pins.ioapic;
  places = h.whole.places;
  pending = h.pending;
  lapics = λ n low. h.whole.each (Lapic n) (below_is n s.shape.now.cpus low);
}

-- ---- the counts

abbrev with_counts : Board → ℕ → ℕ → Board
with_counts b length publications = record b { length = length; publications = publications }

uncounted : {A : Type 0} (m : Plan A) (b : Board) (l n : ℕ) (ws : Wishes) (q : Part) → reaches m (with_counts b l n) ws q ≡ reaches m b ws q
uncounted (done a) b l n ws q = refl
uncounted (look Registry k) b l n ws q = ap (λ t. is_same Registry q || t) (uncounted (k b.registry) b l n ws q)
uncounted (look p k) b l n ws q = ap (λ t. is_same p q || t) (uncounted (k (part_of b p)) b l n ws q)
uncounted (put Registry v rest) b l n ws q = ap (λ t. is_same Registry q || t) (uncounted rest (with_part b Registry v) l n ws q)
uncounted (put p v rest) b l n ws q = ap (λ t. is_same p q || t) (uncounted rest (with_part b p v) l n ws q)
uncounted (tell x rest) b l n ws q = uncounted rest b l n ws q
uncounted (answer x rest) b l n ws q = uncounted rest b l n ws q
uncounted (choose m about g k) b l n ws q = uncounted (k (g (next_wish ws))) b l n (later_wishes ws) q

pub reach_uncounted : (b : Board) (l n : ℕ) (caller : Caller) (call : Call) (q : Part) → reach (with_counts b l n) caller call q ≡ reach b caller call q
reach_uncounted b l n caller call q =
    sym (reach_is_table (with_counts b l n) caller call [] q) ∙ uncounted (plan_on b caller call) b l n [] q ∙ reach_is_table b caller call [] q

-- ---- the parts of a board fit

if_mapped : {A B : Type 0} (f : A → B) (P : B → Type 0) (o : Option A) → IfSome (option_map f o) P → IfSome o (λ x. P (f x))
if_mapped f P None h = tt
if_mapped f P (Some x) h = h

pub parts_fit : (b : Board) (p : parts.Parts) → IsSound b → parts_of p ≡ all_parts b → IsWhole b.shape (parts_of p)
    → Fits b.shape (parts_of p) (chips_of p) → PartsFit b.shape p
parts_fit b p sound are whole fits = record {
  cpus = fits.limits.cpus;
  tick = fits.limits.tick;
  whole = whole;
  counted = fits.counters;
  registrations = if_mapped registry_of (RegistrationsFit b.shape.counters) p.registry fits.registrations;
  distinct = if_mapped registry_of Distinct p.registry (subst (λ (q : Parts). IfSome q.registry Distinct) (sym are) sound.distinct.triggers);
  pins = fits.pins;
  pending = fits.tick;
}
  where
    Distinct : RegistryPart → Type 0
    Distinct r = AllPairs (λ (row other : Irqfd). has_trigger row.trigger other ≡ false) r.irqfds

-- a part that is missing is not among whole parts
pub not_whole : {A B : Type 0} (f : A → B) (o : Option A) → is_some (option_map f o) ≡ true → o ≡ None → ⊥
not_whole f None there none = absurd (true≢false (sym there))
not_whole f (Some x) there none = cc

pub not_here : {A : Type 0} (o : Option A) → is_some o ≡ true → o ≡ None → ⊥
not_here None there none = absurd (true≢false (sym there))
not_here (Some x) there none = cc
