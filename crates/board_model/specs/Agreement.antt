-- When a run tells of another: on parts in hand of the board itself, and on boards that agree on what is reached.
use Rattle.std.specs.Prelude.{◌≡◌, Bool, true, length, is_some, Some, None}
use Rattle.irq_base.specs.declared.shape.Part.{Part}
use Rattle.board_model.specs.Board.{ValueOf, Board, part_of}
use Rattle.board_model.specs.Hand.{Parts, part_in, all_parts}
use Rattle.board_model.specs.Plan.{Plan}
use Rattle.board_model.specs.Run.{Log, Wishes, Outcome, run, reaches, OnParts, gives, lacks}

-- each part in hand is the board's own
abbrev pub Agrees : Parts → Board → Type 0
Agrees q b = (p : Part) (v : ValueOf p) → part_in q p ≡ Some v → part_in (all_parts b) p ≡ Some v

-- a run on the parts in hand gave what the board gives: value, log, wishes left and parts; it holds the same parts after it
-- as before, and it held all that it reached
pub record GivesAsBoard {A : Type 0} (given : A) (shown : Log) (left : Parts) (later : Wishes)
    (o : Outcome A) (q : Parts) (reach : Part → Bool) : Type 0 where
  pub value : given ≡ o.value
  pub log : shown ≡ o.log
  pub wishes : later ≡ o.wishes
  pub agrees : Agrees left o.board
  pub held : (p : Part) → is_some (part_in left p) ≡ is_some (part_in q p)
  pub all : (p : Part) → reach p ≡ true → is_some (part_in q p) ≡ true

-- the part is not in hand, and it is reached
pub record LacksReached (p : Part) (q : Parts) (reach : Part → Bool) : Type 0 where
  pub lacking : part_in q p ≡ None
  pub reached : reach p ≡ true

-- each part that is reached is in hand
abbrev pub HoldsReached : Parts → (Part → Bool) → Type 0
HoldsReached q reach = (p : Part) → reach p ≡ true → is_some (part_in q p) ≡ true

-- what a run on the parts in hand is worth: it gives as the board, or it lacks a part that is reached
abbrev pub Exact : {A : Type 0} → OnParts A → Outcome A → Parts → (Part → Bool) → Type 0
Exact (gives a l r ws) o q reach = GivesAsBoard a l r ws o q reach
Exact (lacks p) o q reach = LacksReached p q reach

-- something is lacking
abbrev pub IsLacking : {A : Type 0} → OnParts A → Type 0
IsLacking (gives a l r ws) = ⊥
IsLacking (lacks p) = Unit {0}

-- some part is reached and not in hand
pub record ReachesPast (q : Parts) (reach : Part → Bool) : Type 0 where
  pub part : Part
  pub lacks : LacksReached part q reach

-- two boards with equally many local APICs that agree on each part that the plan reaches
pub record AgreesOnReach {A : Type 0} (m : Plan A) (b c : Board) (ws : Wishes) : Type 0 where
  pub lapics : length b.lapics ≡ length c.lapics
  pub parts : (q : Part) → reaches m b ws q ≡ true → part_of b q ≡ part_of c q

-- two plans run alike on two boards: equal value, log, wishes left and reach, and each part on which the boards agreed
-- before is the same after
pub record RunsAlike {A : Type 0} (m n : Plan A) (b c : Board) (ws : Wishes) : Type 0 where
  pub value : (run m b ws).value ≡ (run n c ws).value
  pub log : (run m b ws).log ≡ (run n c ws).log
  pub wishes : (run m b ws).wishes ≡ (run n c ws).wishes
  pub reach : (q : Part) → reaches m b ws q ≡ reaches n c ws q
  pub after : (q : Part) → part_of b q ≡ part_of c q → part_of (run m b ws).board q ≡ part_of (run n c ws).board q

-- two outcomes are the same but for the wishes left
pub record SameOutcome {A : Type 0} (o u : Outcome A) : Type 0 where
  pub value : o.value ≡ u.value
  pub log : o.log ≡ u.log
  pub board : o.board ≡ u.board

-- two boards have one shape, one number of local APICs, and the same two counts
pub record SameFrame (b c : Board) : Type 0 where
  pub shape : b.shape ≡ c.shape
  pub lapics : length b.lapics ≡ length c.lapics
  pub length : b.length ≡ c.length
  pub publications : b.publications ≡ c.publications
