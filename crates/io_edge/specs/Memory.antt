-- What a source and a sink in memory are, and what a call leaves of them.
use Rattle.std.specs.Prelude.{ℕ, List, [], ◌++◌, take, drop, Ok, Err}
use Rattle.std.specs.declared.result.Result.{Result}
use Rattle.io_edge.specs.declared.edge.Failed.{Failed}
use Rattle.io_edge.specs.Faults.{count_up}

-- a source in memory: the bytes left, the most that one read gives, the calls that fail, and how many calls were made and failed
pub record SourceState : Type 0 where
  pub left : List ℕ
  pub step : ℕ
  pub fails : List ℕ
  pub calls : ℕ
  pub faults : ℕ

-- a sink in memory: the bytes taken, the room for all, the most that one write takes, the calls that fail, and the two counts
pub record SinkState : Type 0 where
  pub held : List ℕ
  pub room : ℕ
  pub step : ℕ
  pub fails : List ℕ
  pub calls : ℕ
  pub faults : ℕ

-- a source that was just made
abbrev pub source_of : List ℕ → ℕ → List ℕ → SourceState
source_of bytes step fails = record { left = bytes; step = step; fails = fails; calls = 0; faults = 0 }

-- a sink that was just made
abbrev pub sink_of : ℕ → ℕ → List ℕ → SinkState
sink_of room step fails = record { held = []; room = room; step = step; fails = fails; calls = 0; faults = 0 }

-- the source after a read with this answer: what was given is gone, and the call is counted, with its fault
abbrev pub after_read : SourceState → Result ℕ Failed → SourceState
after_read s (Ok n) = record s { left = drop n s.left; calls = count_up s.calls }
after_read s (Err e) = record s { calls = count_up s.calls; faults = count_up s.faults }

-- the sink after a write of the piece with this answer: what was taken is held, and the call is counted, with its fault
abbrev pub after_write : SinkState → List ℕ → Result ℕ Failed → SinkState
after_write s piece (Ok n) = record s { held = s.held ++ take n piece; calls = count_up s.calls }
after_write s piece (Err e) = record s { calls = count_up s.calls; faults = count_up s.faults }
