-- What a run leaves as it is.
use Rattle.std.proofs.Common.{◌≡◌, Bool, true, false, refl, ◌∙◌, ◌||◌}
use Rattle.irq_base.specs.declared.shape.Part.{Part}
use Rattle.irq_base.specs.declared.shape.Part.TheVariants.{Registry, Counters, Tick, Pic, Ioapic, Lapic}
use Rattle.board_model.specs.Board.{ValueOf, Board, part_of, with_part}
use Rattle.board_model.specs.Plan.{Plan, done, look, put, tell, answer, choose}
use Rattle.board_model.specs.Run.{Wishes, next_wish, later_wishes, run, reaches}
use Rattle.board_model.specs.Agreement.{SameFrame}
use Rattle.board_model.proofs.Lens.{part_of-with_other, lapics-with}

or-left : (a b : Bool) → (a || b) ≡ false → a ≡ false
or-left true b h = h
or-left false b h = refl

or-right : (a b : Bool) → (a || b) ≡ false → b ≡ false
or-right true b h = cc
or-right false b h = h

-- a part outside the reach stays
pub unreached_stays : {A : Type 0} (m : Plan A) (b : Board) (ws : Wishes) (q : Part) → reaches m b ws q ≡ false → part_of (run m b ws).board q ≡ part_of b q
unreached_stays (done a) b ws q h = refl
unreached_stays (look p k) b ws q h = unreached_stays (k (part_of b p)) b ws q (or-right _ _ h)
unreached_stays (put p v rest) b ws q h =
    unreached_stays rest (with_part b p v) ws q (or-right _ _ h) ∙ part_of-with_other b p q v (or-left _ _ h)
unreached_stays (tell x rest) b ws q h = unreached_stays rest b ws q h
unreached_stays (answer x rest) b ws q h = unreached_stays rest b ws q h
unreached_stays (choose m about g k) b ws q h = unreached_stays (k (g (next_wish ws))) b (later_wishes ws) q h

frame_with : (b : Board) (p : Part) (v : ValueOf p) → SameFrame (with_part b p v) b
frame_with b Registry v = record { shape = refl; lapics = refl; length = refl; publications = refl }
frame_with b Counters v = record { shape = refl; lapics = refl; length = refl; publications = refl }
frame_with b Tick v = record { shape = refl; lapics = refl; length = refl; publications = refl }
frame_with b Pic v = record { shape = refl; lapics = refl; length = refl; publications = refl }
frame_with b Ioapic v = record { shape = refl; lapics = refl; length = refl; publications = refl }
frame_with b (Lapic n) v = record { shape = refl; lapics = lapics-with b (Lapic n) v; length = refl; publications = refl }

-- the shape, the number of local APICs and the two counts stay
pub frame_stays : {A : Type 0} (m : Plan A) (b : Board) (ws : Wishes) → SameFrame (run m b ws).board b
frame_stays (done a) b ws = record { shape = refl; lapics = refl; length = refl; publications = refl }
frame_stays (look p k) b ws = frame_stays (k (part_of b p)) b ws
frame_stays (put p v rest) b ws =
    let r = frame_stays rest (with_part b p v) ws in
    let s = frame_with b p v in
    record { shape = r.shape ∙ s.shape; lapics = r.lapics ∙ s.lapics; length = r.length ∙ s.length; publications = r.publications ∙ s.publications }
frame_stays (tell x rest) b ws = frame_stays rest b ws
frame_stays (answer x rest) b ws = frame_stays rest b ws
frame_stays (choose m about g k) b ws = frame_stays (k (g (next_wish ws))) b (later_wishes ws)
