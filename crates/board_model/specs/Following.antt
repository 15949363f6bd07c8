-- The choices that a log shows, and plans whose choices can be followed.
use Rattle.std.specs.Prelude.{◌≡◌, List, [], ◌∷◌}
use Rattle.std.specs.FinSet as set
use Rattle.irq_bits.specs.Members.{Numbers}
use Rattle.board_model.specs.Board.{ValueOf}
use Rattle.board_model.specs.Statuses.{Sent}
use Rattle.board_model.specs.Plan.{Plan, done, look, put, tell, answer, choose}
use Rattle.board_model.specs.Run.{Sending, Wishes}

-- the processors that a message reached
abbrev pub reached : Sent → Numbers
reached sent = set.union sent.new sent.stood

-- what each sending reached, as wishes
abbrev pub shown_wishes : List Sending → Wishes
shown_wishes [] = []
shown_wishes (s ∷ ss) = reached s.sent ∷ shown_wishes ss

-- to wish for what was chosen is to choose it
abbrev pub IsSteady : {A : Type 0} → Plan A → Type 0
IsSteady (done a) = Unit {0}
IsSteady (look p k) = (v : ValueOf p) → IsSteady (k v)
IsSteady (put p v rest) = IsSteady rest
IsSteady (tell x rest) = IsSteady rest
IsSteady (answer r rest) = IsSteady rest
IsSteady (choose m about g k) = ((wish : Numbers) → g (reached (g wish)) ≡ g wish) × ((s : Sent) → IsSteady (k s))
