-- Properties of plans that hold of a plan where they hold of its parts.
use Rattle.board_step.proofs.Basics.{◌≡◌, ℕ, Bool, true, false, if◌then◌else◌, List, refl, sym, subst, Part, ValueOf, Board, part_of, with_part, Plan, done, look, put, change, ◌>>=◌, ◌>>◌, Wishes, Outcome, run, then_run, Processor, see_each, processors_on, run-bind, after_seen}

-- such a property, of a plan on a board and under wishes; the boards on which it is asked, and what may be written there
pub record Walk : Type 1 where
  pub At : {A : Type 0} → Plan A → Board → Wishes → Type 0
  pub Fit : Board → Type 0
  pub May : Board → (p : Part) → ValueOf p → Type 0
  pub ends : {A : Type 0} (a : A) (b : Board) (ws : Wishes) → Fit b → At (done a) b ws
  pub looks : {A : Type 0} (p : Part) (k : ValueOf p → Plan A) (b : Board) (ws : Wishes) → At (k (part_of b p)) b ws → At (look p k) b ws
  pub puts : {A : Type 0} (p : Part) (v : ValueOf p) (rest : Plan A) (b : Board) (ws : Wishes) → Fit b → May b p v → (Fit (with_part b p v) → At rest (with_part b p v) ws) → At (put p v rest) b ws
  pub binds : {A B : Type 0} (f : A → Plan B) (m : Plan A) (b : Board) (ws : Wishes) → Fit b → At m b ws → ((a : A) (c : Board) (vs : Wishes) → Fit c → At (f a) c vs) → At (m >>= f) b ws
  pub sees : {A : Type 0} (f : List Processor → Plan A) (ns : List ℕ) (b : Board) (ws : Wishes) → At (f (processors_on b ns)) b ws → At (see_each ns >>= f) b ws

module _ (w : Walk) where
  -- it holds of a plan on every board that is fit
  abbrev pub Holds : {A : Type 0} → Plan A → Type 0
  Holds m = (b : Board) (ws : Wishes) → w.Fit b → w.At m b ws

  -- a value that a part had on a board that is fit
  abbrev pub Seen : (p : Part) → ValueOf p → Type 0
  Seen p v = (c : Board) × w.Fit c × (v ≡ part_of c p)

  pub ended : {A : Type 0} (a : A) → Holds (done a)
  ended a = λ b ws fit. w.ends a b ws fit

  pub bound : {A B : Type 0} (f : A → Plan B) (m : Plan A) → Holds m → ((a : A) → Holds (f a)) → Holds (m >>= f)
  bound f m h next = λ b ws fit. w.binds f m b ws fit (h b ws fit) (λ a c vs. next a c vs)

  pub after : {A B : Type 0} (m : Plan A) (n : Plan B) → Holds m → Holds n → Holds (m >> n)
  after m n h next = bound (λ _. n) m h (λ _. next)

  pub either : {A : Type 0} (t : Bool) (m n : Plan A) → Holds m → Holds n → Holds (if t then m else n)
  either true m n h k = h
  either false m n h k = k

  pub either_at : {A : Type 0} (t : Bool) (m n : Plan A) (b : Board) (ws : Wishes) → w.At m b ws → w.At n b ws → w.At (if t then m else n) b ws
  either_at true m n b ws h k = h
  either_at false m n b ws h k = k

  -- a part that is looked at
  pub looked : {A : Type 0} (p : Part) (k : ValueOf p → Plan A) → ((v : ValueOf p) → Seen p v → Holds (k v)) → Holds (look p k)
  looked p k h = λ b ws fit. w.looks p k b ws (h (part_of b p) (b, fit, refl) b ws fit)

  -- a part that is looked at and written
  pub written : {A : Type 0} (p : Part) (f : ValueOf p → ValueOf p) (k : ValueOf p → Plan A) → ((b : Board) → w.Fit b → w.May b p (f (part_of b p))) → ((v : ValueOf p) → Holds (k v)) → Holds (look p (λ v. put p (f v) (k v)))
  written p f k may next = λ b ws fit. w.looks p (λ v. put p (f v) (k v)) b ws
      (w.puts p (f (part_of b p)) (k (part_of b p)) b ws fit (may b fit) (next (part_of b p) (with_part b p (f (part_of b p))) ws))

  pub changed : (p : Part) (f : ValueOf p → ValueOf p) → ((b : Board) → w.Fit b → w.May b p (f (part_of b p))) → Holds (change p f)
  changed p f may = written p f (λ _. done tt) may (λ _. ended tt)

-- ---- properties of outcomes

-- a relation of a board and an outcome that holds along plans, whatever their values
pub record Relation : Type 1 where
  pub Good : {A : Type 0} → Board → Outcome A → Type 0
  pub Fit : Board → Type 0
  pub May : Board → (p : Part) → ValueOf p → Type 0
  pub starts : {A : Type 0} (a : A) (b : Board) (ws : Wishes) → Fit b → Good b (run (done a) b ws)
  pub puts : {A : Type 0} (p : Part) (v : ValueOf p) (b : Board) (o : Outcome A) → Fit b → May b p v → Good (with_part b p v) o → Good b o
  pub fits : (p : Part) (v : ValueOf p) (b : Board) → Fit b → May b p v → Fit (with_part b p v)
  pub joins : {A B : Type 0} (f : A → Plan B) (b : Board) (o : Outcome A) → Fit b → Good b o → (Fit o.board → Good o.board (run (f o.value) o.board o.wishes)) → Good b (then_run o f)

-- makes such a property
abbrev pub of_relation : Relation → Walk
of_relation r = record {
  At = λ m b ws. r.Good b (run m b ws);
  Fit = r.Fit;
  May = r.May;
  ends = λ a b ws fit. r.starts a b ws fit;
  looks = λ p k b ws h. h;
  puts = λ p v rest b ws fit may next. r.puts p v b (run rest (with_part b p v) ws) fit may (next (r.fits p v b fit may));
  binds = λ {A} {B} f m b ws fit h next. subst (λ (o : Outcome B). r.Good b o) (sym (run-bind f m b ws)) (r.joins f b (run m b ws) fit h (λ after. next (run m b ws).value (run m b ws).board (run m b ws).wishes after));
  sees = λ {A} f ns b ws h. subst (λ (o : Outcome A). r.Good b o) (sym (after_seen f b ns ws)) h;
}

-- ---- properties of boards

-- what holds of a board before a plan holds after it, where it holds after each write
abbrev pub kept_by : (Board → Type 0) → Walk
kept_by P = of_relation (record {
  Good = λ b o. P o.board;
  Fit = P;
  May = λ b p v. P (with_part b p v);
  starts = λ a b ws fit. fit;
  puts = λ p v b o fit may h. h;
  fits = λ p v b fit may. may;
  joins = λ f b o fit h next. next h;
})
