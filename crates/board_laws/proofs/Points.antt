-- A legal history at a point: it parts there, its entry is a step, and what steps keep holds there.
use Rattle.board_laws.proofs.Basics.{◌≡◌, List, [], ◌∷◌, ◌++◌, refl, sym, subst, Entry, Shape, Board, Step, opening, Leads, Legal, next_board, board_after, next_is, Point, board_at, board_left, IsLegal, AtEachPoint, AtEachEntry, OfEachBoard, OfLegalHistories}

-- a step leads to the board that its entry tells
pub told_step : (b : Board) (e : Entry) (c : Board) → Step b e c → Step b e (next_board b e)
told_step b e c s = subst (λ (d : Board). Step b e d) (sym (next_is b e c s)) s

-- the board between two parts of a history
pub split : (b : Board) (xs ys : List Entry) (c : Board) → Leads b (xs ++ ys) c → Leads b xs (board_after b xs) × Leads (board_after b xs) ys c
split b [] ys c leads = (refl, leads)
split b (x ∷ xs) ys c (next, step, leads) =
    let rest = split next xs ys c leads in
    subst (λ (d : Board). Leads b (x ∷ xs) (board_after d xs) × Leads (board_after d xs) ys c) (sym (next_is b x next step)) ((next, step, rest.0), rest.1)

pub after_both : (b : Board) (xs ys : List Entry) → board_after b (xs ++ ys) ≡ board_after (board_after b xs) ys
after_both b [] ys = refl
after_both b (x ∷ xs) ys = after_both (next_board b x) xs ys

-- what each step keeps, a history keeps
pub kept : (P : Board → Type 0) → ((b : Board) (e : Entry) (c : Board) → Step b e c → P b → P c) → (b : Board) (es : List Entry) (c : Board) → Leads b es c → P b → P c
kept P each b [] c same h = subst P same h
kept P each b (e ∷ es) c (next, step, leads) h = kept P each next es c leads (each b e next step h)

module _ (shape : Shape) (p : Point) (legal : IsLegal shape p) where
  halves : Leads (opening shape) p.before (board_at shape p) × Leads (board_at shape p) (p.entry ∷ p.after) legal.0
  halves = split (opening shape) p.before (p.entry ∷ p.after) legal.0 legal.1

  pub before_point : Leads (opening shape) p.before (board_at shape p)
  before_point = halves.0

  -- the entry of a point is a step
  pub step_at : Step (board_at shape p) p.entry (board_left shape p)
  step_at = let (next, step, later) = halves.1 in told_step (board_at shape p) p.entry next step

  -- and the entries after it lead on
  pub after_point : Leads (board_left shape p) p.after legal.0
  after_point = let (next, step, later) = halves.1 in subst (λ (d : Board). Leads d p.after legal.0) (sym (next_is (board_at shape p) p.entry next step)) later

  -- what steps keep, and what holds at power-on, holds at the point
  pub holds_at : (P : Board → Type 0) → ((b : Board) (e : Entry) (c : Board) → Step b e c → P b → P c) → P (opening shape) → P (board_at shape p)
  holds_at P each first = kept P each (opening shape) p.before (board_at shape p) before_point first

-- ---- laws of every legal history

pub at_points : (Law : Shape → Point → Type 0) → ((shape : Shape) (p : Point) → IsLegal shape p → Law shape p) → OfLegalHistories (AtEachPoint Law)
at_points Law each shape history legal p is = each shape p (subst (Legal shape) is legal)

pub at_entries : (Law : Board → Entry → Board → Type 0) → ((b : Board) (e : Entry) (c : Board) → Step b e c → Law b e c) → OfLegalHistories (AtEachEntry Law)
at_entries Law each shape history legal p is = each (board_at shape p) p.entry (board_left shape p) (step_at shape p (subst (Legal shape) is legal))

pub of_boards : (P : Board → Type 0) → ((b : Board) (e : Entry) (c : Board) → Step b e c → P b → P c) → ((shape : Shape) → P (opening shape)) → OfLegalHistories (OfEachBoard P)
of_boards P each start shape history (last, leads) first (more, is) =
    kept P each (opening shape) first (board_after (opening shape) first) (split (opening shape) first more last (subst (λ (es : List Entry). Leads (opening shape) es last) is leads)).0 (start shape)
