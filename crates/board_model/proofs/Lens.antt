-- Reading a part after a write.
use Rattle.std.proofs.Common.{◌≡◌, ◌≢◌, ℕ, zero, suc, true, false, List, [], ◌∷◌, map, length, refl, sym, ap, ◌∙◌, subst, arith}
use Rattle.std.specs.Prelude.{Some, None, slice_get, slice_set, unwrap_or, nat_eq, is_some}
use Rattle.std.specs.declared.option.Option.{Option}
use Rattle.irq_base.specs.declared.shape.Part.{Part}
use Rattle.irq_base.specs.declared.shape.Part.TheVariants.{Registry, Counters, Tick, Pic, Ioapic, Lapic}
use Rattle.lapic.specs.Registers.{power_on}
use Rattle.board_model.specs.Board.{ValueOf, Board, part_of, with_part, is_same}
use Rattle.board_model.specs.Hand.{Parts, flat, part_in, with_part_in, all_parts}

-- ---- lists

slice_get-set_other : {X : Type 0} (xs : List X) (i j : ℕ) (x : X) → i ≢ j → slice_get (slice_set xs i x) j ≡ slice_get xs j
slice_get-set_other [] i j x h = refl
slice_get-set_other (y ∷ ys) zero zero x h = absurd (h refl)
slice_get-set_other (y ∷ ys) zero (suc j) x h = refl
slice_get-set_other (y ∷ ys) (suc i) zero x h = refl
slice_get-set_other (y ∷ ys) (suc i) (suc j) x h = slice_get-set_other ys i j x (λ e. h (ap suc e))

slice_get-set_same : {X : Type 0} (xs : List X) (i : ℕ) (x y : X) → slice_get xs i ≡ Some y → slice_get (slice_set xs i x) i ≡ Some x
slice_get-set_same [] i x y h = cc
slice_get-set_same (z ∷ zs) zero x y h = refl
slice_get-set_same (z ∷ zs) (suc i) x y h = slice_get-set_same zs i x y h

slice_get-set_alike : {X : Type 0} (xs ys : List X) (i : ℕ) (x d : X) → length xs ≡ length ys → unwrap_or (slice_get (slice_set xs i x) i) d ≡ unwrap_or (slice_get (slice_set ys i x) i) d
slice_get-set_alike [] [] i x d h = refl
slice_get-set_alike [] (y ∷ ys) i x d h = cc
slice_get-set_alike (z ∷ xs) [] i x d h = cc
slice_get-set_alike (z ∷ xs) (y ∷ ys) zero x d h = refl
slice_get-set_alike (z ∷ xs) (y ∷ ys) (suc i) x d h = slice_get-set_alike xs ys i x d (cc)

length-set : {X : Type 0} (xs : List X) (i : ℕ) (x : X) → length (slice_set xs i x) ≡ length xs
length-set [] i x = refl
length-set (y ∷ ys) zero x = refl
length-set (y ∷ ys) (suc i) x = ap suc (length-set ys i x)

map-set : {X Y : Type 0} (f : X → Y) (xs : List X) (i : ℕ) (x : X) → map f (slice_set xs i x) ≡ slice_set (map f xs) i (f x)
map-set f [] i x = refl
map-set f (y ∷ ys) zero x = refl
map-set f (y ∷ ys) (suc i) x = ap (λ l. f y ∷ l) (map-set f ys i x)

flat-all : {X : Type 0} (xs : List X) (i : ℕ) → flat (slice_get (map (λ x. Some x) xs) i) ≡ slice_get xs i
flat-all [] i = refl
flat-all (x ∷ xs) zero = refl
flat-all (x ∷ xs) (suc i) = flat-all xs i

flat-Some : {A : Type 0} (o : Option (Option A)) (x : A) → flat o ≡ Some x → o ≡ Some (Some x)
flat-Some None x h = cc
flat-Some (Some y) x h = ap (λ z. Some z) h

Some-is : {A : Type 0} (x y : A) → Some x ≡ Some y → x ≡ y
Some-is x y e = cc

-- ---- names of parts

differ : (i j : ℕ) → nat_eq i j ≡ false → i ≢ j
differ i j h e = grind arith

pub same_itself : (p : Part) → is_same p p ≡ true
same_itself Registry = refl
same_itself Counters = refl
same_itself Tick = refl
same_itself Pic = refl
same_itself Ioapic = refl
same_itself (Lapic n) = grind arith

pub same_is : (p q : Part) → is_same p q ≡ true → p ≡ q
same_is Registry Registry h = refl
same_is Registry Counters h = cc
same_is Registry Tick h = cc
same_is Registry Pic h = cc
same_is Registry Ioapic h = cc
same_is Registry (Lapic m) h = cc
same_is Counters Registry h = cc
same_is Counters Counters h = refl
same_is Counters Tick h = cc
same_is Counters Pic h = cc
same_is Counters Ioapic h = cc
same_is Counters (Lapic m) h = cc
same_is Tick Registry h = cc
same_is Tick Counters h = cc
same_is Tick Tick h = refl
same_is Tick Pic h = cc
same_is Tick Ioapic h = cc
same_is Tick (Lapic m) h = cc
same_is Pic Registry h = cc
same_is Pic Counters h = cc
same_is Pic Tick h = cc
same_is Pic Pic h = refl
same_is Pic Ioapic h = cc
same_is Pic (Lapic m) h = cc
same_is Ioapic Registry h = cc
same_is Ioapic Counters h = cc
same_is Ioapic Tick h = cc
same_is Ioapic Pic h = cc
same_is Ioapic Ioapic h = refl
same_is Ioapic (Lapic m) h = cc
same_is (Lapic n) Registry h = cc
same_is (Lapic n) Counters h = cc
same_is (Lapic n) Tick h = cc
same_is (Lapic n) Pic h = cc
same_is (Lapic n) Ioapic h = cc
same_is (Lapic n) (Lapic m) h = let e : n ≡ m = grind arith in ap (λ k. Lapic k) e

-- ---- parts of a board

pub part_of-with_other : (b : Board) (p q : Part) (v : ValueOf p) → is_same p q ≡ false → part_of (with_part b p v) q ≡ part_of b q
part_of-with_other b Registry Registry v h = cc
part_of-with_other b Registry Counters v h = refl
part_of-with_other b Registry Tick v h = refl
part_of-with_other b Registry Pic v h = refl
part_of-with_other b Registry Ioapic v h = refl
part_of-with_other b Registry (Lapic m) v h = refl
part_of-with_other b Counters Registry v h = refl
part_of-with_other b Counters Counters v h = cc
part_of-with_other b Counters Tick v h = refl
part_of-with_other b Counters Pic v h = refl
part_of-with_other b Counters Ioapic v h = refl
part_of-with_other b Counters (Lapic m) v h = refl
part_of-with_other b Tick Registry v h = refl
part_of-with_other b Tick Counters v h = refl
part_of-with_other b Tick Tick v h = cc
part_of-with_other b Tick Pic v h = refl
part_of-with_other b Tick Ioapic v h = refl
part_of-with_other b Tick (Lapic m) v h = refl
part_of-with_other b Pic Registry v h = refl
part_of-with_other b Pic Counters v h = refl
part_of-with_other b Pic Tick v h = refl
part_of-with_other b Pic Pic v h = cc
part_of-with_other b Pic Ioapic v h = refl
part_of-with_other b Pic (Lapic m) v h = refl
part_of-with_other b Ioapic Registry v h = refl
part_of-with_other b Ioapic Counters v h = refl
part_of-with_other b Ioapic Tick v h = refl
part_of-with_other b Ioapic Pic v h = refl
part_of-with_other b Ioapic Ioapic v h = cc
part_of-with_other b Ioapic (Lapic m) v h = refl
part_of-with_other b (Lapic n) Registry v h = refl
part_of-with_other b (Lapic n) Counters v h = refl
part_of-with_other b (Lapic n) Tick v h = refl
part_of-with_other b (Lapic n) Pic v h = refl
part_of-with_other b (Lapic n) Ioapic v h = refl
part_of-with_other b (Lapic n) (Lapic m) v h = ap (λ o. unwrap_or o (power_on m)) (slice_get-set_other b.lapics n m v (differ n m h))

written_alike-itself : (b c : Board) (p : Part) (v : ValueOf p) → length b.lapics ≡ length c.lapics → part_of (with_part b p v) p ≡ part_of (with_part c p v) p
written_alike-itself b c Registry v e = refl
written_alike-itself b c Counters v e = refl
written_alike-itself b c Tick v e = refl
written_alike-itself b c Pic v e = refl
written_alike-itself b c Ioapic v e = refl
written_alike-itself b c (Lapic n) v e = slice_get-set_alike b.lapics c.lapics n v (power_on n) e

-- a write to boards that agree on a part
pub written_alike : (b c : Board) (p q : Part) (v : ValueOf p) → length b.lapics ≡ length c.lapics → part_of b q ≡ part_of c q → part_of (with_part b p v) q ≡ part_of (with_part c p v) q
written_alike b c p q v n e = elim (is_same p q) as (λ t. is_same p q ≡ t → part_of (with_part b p v) q ≡ part_of (with_part c p v) q) [
  | true ↦ λ s. subst (λ x. part_of (with_part b p v) x ≡ part_of (with_part c p v) x) (same_is p q s) (written_alike-itself b c p v n)
  | false ↦ λ s. part_of-with_other b p q v s ∙ e ∙ sym (part_of-with_other c p q v s)
] refl

pub lapics-with : (b : Board) (p : Part) (v : ValueOf p) → length (with_part b p v).lapics ≡ length b.lapics
lapics-with b Registry v = refl
lapics-with b Counters v = refl
lapics-with b Tick v = refl
lapics-with b Pic v = refl
lapics-with b Ioapic v = refl
lapics-with b (Lapic n) v = length-set b.lapics n v

-- ---- parts in hand

pub in_written : (q : Parts) (p : Part) (v w : ValueOf p) → part_in q p ≡ Some v → part_in (with_part_in q p w) p ≡ Some w
in_written q Registry v w h = refl
in_written q Counters v w h = refl
in_written q Tick v w h = refl
in_written q Pic v w h = refl
in_written q Ioapic v w h = refl
in_written q (Lapic n) v w h = ap flat (slice_get-set_same q.lapics n (Some w) (Some v) (flat-Some _ v h))

pub in_other : (q : Parts) (p r : Part) (w : ValueOf p) → is_same p r ≡ false → part_in (with_part_in q p w) r ≡ part_in q r
in_other q Registry Registry w s = cc
in_other q Registry Counters w s = refl
in_other q Registry Tick w s = refl
in_other q Registry Pic w s = refl
in_other q Registry Ioapic w s = refl
in_other q Registry (Lapic m) w s = refl
in_other q Counters Registry w s = refl
in_other q Counters Counters w s = cc
in_other q Counters Tick w s = refl
in_other q Counters Pic w s = refl
in_other q Counters Ioapic w s = refl
in_other q Counters (Lapic m) w s = refl
in_other q Tick Registry w s = refl
in_other q Tick Counters w s = refl
in_other q Tick Tick w s = cc
in_other q Tick Pic w s = refl
in_other q Tick Ioapic w s = refl
in_other q Tick (Lapic m) w s = refl
in_other q Pic Registry w s = refl
in_other q Pic Counters w s = refl
in_other q Pic Tick w s = refl
in_other q Pic Pic w s = cc
in_other q Pic Ioapic w s = refl
in_other q Pic (Lapic m) w s = refl
in_other q Ioapic Registry w s = refl
in_other q Ioapic Counters w s = refl
in_other q Ioapic Tick w s = refl
in_other q Ioapic Pic w s = refl
in_other q Ioapic Ioapic w s = cc
in_other q Ioapic (Lapic m) w s = refl
in_other q (Lapic n) Registry w s = refl
in_other q (Lapic n) Counters w s = refl
in_other q (Lapic n) Tick w s = refl
in_other q (Lapic n) Pic w s = refl
in_other q (Lapic n) Ioapic w s = refl
in_other q (Lapic n) (Lapic m) w s = ap flat (slice_get-set_other q.lapics n m (Some w) (differ n m s))

-- what is in hand of all parts is the part of the board
pub all_reads : (b : Board) (p : Part) (v : ValueOf p) → part_in (all_parts b) p ≡ Some v → part_of b p ≡ v
all_reads b Registry v h = Some-is b.registry v h
all_reads b Counters v h = Some-is b.counters v h
all_reads b Tick v h = Some-is b.tick v h
all_reads b Pic v h = Some-is b.pic v h
all_reads b Ioapic v h = Some-is b.ioapic v h
all_reads b (Lapic n) v h = ap (λ o. unwrap_or o (power_on n)) (sym (flat-all b.lapics n) ∙ h)

-- all parts of a board after a write
pub all_written : (b : Board) (p : Part) (w : ValueOf p) → all_parts (with_part b p w) ≡ with_part_in (all_parts b) p w
all_written b Registry w = refl
all_written b Counters w = refl
all_written b Tick w = refl
all_written b Pic w = refl
all_written b Ioapic w = refl
all_written b (Lapic n) w = λ i. record (all_parts b) { lapics = map-set (λ apic. Some apic) b.lapics n w i }

is_none : {A : Type 0} (x : Option A) → is_some x ≡ false → x ≡ None
is_none None h = refl
is_none (Some x) h = cc

pub none_too : {A : Type 0} (x y : Option A) → is_some y ≡ is_some x → y ≡ None → x ≡ None
none_too x y same none = is_none x (sym same ∙ ap is_some none)
