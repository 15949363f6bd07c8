-- Lines asked one after another.
use Rattle.std.proofs.Common.{◌≡◌, ℕ, ◌+◌, ◌≤◌, true, false, true≢false, if◌then◌else◌, List, [], ◌∷◌, ◌++◌, append_assoc, length, drop, Ok, Err, Some, None, refl, sym, ap, ◌∙◌, subst}
use Rattle.std.proofs.lemmas.List.{append-nil, append_cancel_left, drop_all}
use Rattle.std.proofs.lemmas.List.Elements.{All-get_or}
use Rattle.std.proofs.lemmas.Option.{slice_get_within, get_or_from_slice_get}
use Rattle.std.specs.List.{slice_get, insert}
use Rattle.std.specs.Result.{is_ok, is_err}
use Rattle.std.specs.declared.result.Result.{Result}
use Rattle.std.specs.declared.option.Option.{Option}
use Rattle.irq_base.specs.declared.lists.Entry.{Entry}
use Rattle.irq_base.specs.declared.reply.Spent.{Spent}
use Rattle.script_text.specs.declared.task.ActorLine.{ActorLine}
use Rattle.script_text.specs.Asks.{Asks, no_more, line_asks}
use Rattle.script_text.specs.Fitting.{IsLine, IsScript}
use Rattle.script_text.specs.Scripts.{Script, may_ask}
use Rattle.board_model.specs.Board.{Board}
use Rattle.board_step.specs.History.{opening}
use Rattle.replaying.specs.declared.stops.Stop.{Stop}
use Rattle.replaying.specs.FileOrder.{stop_of, with_stop, Asked, LineAsked, PassedOver, LinesAsked, first_stop}
use Rattle.replaying.specs.Played.{Played, LinesPlayed}
use Rattle.replaying.specs.Replays.{Replays}
use Rattle.entry_copies.proofs.RowCopies.{drop-at}
use Rattle.replaying.proofs.Ordered.{replays}

-- a line is taken, and those behind it
abbrev Taken : ActorLine → List ActorLine → Board → List Stop → List Entry → Board → List Stop → Type 0
Taken line lines b had entries c has =
    (mine : List Entry) × (later : List Entry) × (stop : Option Spent) × (mid : Board) × (entries ≡ mine ++ later)
    × LineAsked line b mine stop mid × LinesAsked lines mid (with_stop line.caller stop had) later c has

asked_none : (b : Board) (had : List Stop) → LinesAsked [] b had [] b had
unfolding LinesAsked
asked_none b had = (refl, refl, refl)

asked_passed : (line : ActorLine) (lines : List ActorLine) (b : Board) (had : List Stop) (es : List Entry) (c : Board) (has : List Stop) (spent : Spent)
    → stop_of line.caller had ≡ Some spent → LinesAsked lines b had es c has → LinesAsked (line ∷ lines) b had es c has
unfolding LinesAsked
asked_passed line lines b had es c has spent stopped more = subst (λ o. PassedOver o (LinesAsked lines b had es c has) (Taken line lines b had es c has)) (sym stopped) more

asked_taken : (line : ActorLine) (lines : List ActorLine) (b : Board) (had : List Stop) (mine : List Entry) (stop : Option Spent) (mid : Board) (later : List Entry) (c : Board) (has : List Stop)
    → stop_of line.caller had ≡ None → LineAsked line b mine stop mid → LinesAsked lines mid (with_stop line.caller stop had) later c has
    → LinesAsked (line ∷ lines) b had (mine ++ later) c has
unfolding LinesAsked
asked_taken line lines b had mine stop mid later c has free taken more =
    subst (λ o. PassedOver o (LinesAsked lines b had (mine ++ later) c has) (Taken line lines b had (mine ++ later) c has)) (sym free) (mine, later, stop, mid, refl, taken, more)

pub played_none : (b : Board) (had : List Stop) (before : List Entry) → LinesPlayed [] b had before b had before
played_none b had before = record { mine = []; grown = sym (append-nil before); asked = asked_none b had }

module _ (lines : List ActorLine) (k : ℕ) (line : ActorLine) (at : slice_get lines k ≡ Some line) where
  pub played_passed : (b : Board) (had : List Stop) (before : List Entry) (c : Board) (has : List Stop) (after : List Entry) (spent : Spent)
      → stop_of line.caller had ≡ Some spent → LinesPlayed (drop (k + 1) lines) b had before c has after → LinesPlayed (drop k lines) b had before c has after
  played_passed b had before c has after spent stopped p =
      subst (λ ls. LinesPlayed ls b had before c has after) (sym (drop-at lines k line at))
      (record { mine = p.mine; grown = p.grown; asked = asked_passed line (drop (k + 1) lines) b had p.mine c has spent stopped p.asked })

  pub played_taken : (b : Board) (had : List Stop) (before : List Entry) (stop : Option Spent) (mid : Board) (between : List Entry) (c : Board) (has : List Stop) (after : List Entry)
      → stop_of line.caller had ≡ None → ((rest : Asks) → Played line.caller (line_asks line.task rest) rest b before stop mid between)
      → LinesPlayed (drop (k + 1) lines) mid (with_stop line.caller stop had) between c has after → LinesPlayed (drop k lines) b had before c has after
  played_taken b had before stop mid between c has after free each p =
      let first = each no_more in
      let same : (rest : Asks) → (each rest).mine ≡ first.mine = λ rest. append_cancel_left before (each rest).mine first.mine (sym (each rest).grown ∙ first.grown) in
      subst (λ ls. LinesPlayed ls b had before c has after) (sym (drop-at lines k line at))
      (record {
        mine = first.mine ++ p.mine;
        grown = p.grown ∙ ap (λ es. es ++ p.mine) first.grown ∙ append_assoc before first.mine p.mine;
        asked = asked_taken line (drop (k + 1) lines) b had first.mine stop mid p.mine c has free
            (λ rest. subst (λ es. Asked line.caller (line_asks line.task rest) rest b es stop mid) (same rest) (each rest).asked) p.asked;
      })

-- all lines make a replay
pub played_all : (s : Script) (c : Board) (has : List Stop) (after : List Entry) (spent : Option Spent) → spent ≡ first_stop s.lines has
    → LinesPlayed s.lines (opening s.shape) [] [] c has after → Replays s after spent
played_all s c has after spent is p =
    subst (λ o. Replays s after o) (sym is) (replays s after c has (subst (λ es. LinesAsked s.lines (opening s.shape) [] es c has) (sym p.grown) p.asked))

-- ---- the loop over the lines

-- each line of a script is one that its caller may ask
pub may_line : (s : Script) (b : Board) (k : ℕ) (line : ActorLine) → IsScript s → b.shape ≡ s.shape → slice_get s.lines k ≡ Some line → may_ask b.shape line.caller line.task ≡ true
may_line s b k line script same at =
    let fits : IsLine s.shape line = subst (λ l. IsLine s.shape l) (get_or_from_slice_get s.lines k line line at) (All-get_or (λ l. IsLine s.shape l) s.lines k line (slice_get_within s.lines k line at) script.lines) in
    ap (λ sh. may_ask sh line.caller line.task) same ∙ fits.2

-- where an insert at the front found room
pub inserted : {A E : Type 0} (r : Result A E) (stops now : List Stop) (stop : Stop) → is_err r ≡ false → now ≡ (if is_ok r then insert stops 0 stop else stops) → now ≡ stop ∷ stops
inserted (Ok a) stops now stop room is = is
inserted (Err e) stops now stop room is = absurd (true≢false room)

pub some_of : (o : Option Spent) → (o ≡ None → ⊥) → (spent : Spent) × (o ≡ Some spent)
some_of None not = absurd (not refl)
some_of (Some spent) not = (spent, refl)

module _ (s : Script) where
  -- what the lines from k on make from here, all of them make
  abbrev pub Makes : ℕ → Board → List Stop → List Entry → Type 0
  Makes k b had before = (c : Board) (has : List Stop) (after : List Entry)
      → LinesPlayed (drop k s.lines) b had before c has after → LinesPlayed s.lines (opening s.shape) [] [] c has after

  pub makes_passed : (k : ℕ) (line : ActorLine) (b : Board) (had : List Stop) (before : List Entry) (spent : Spent)
      → slice_get s.lines k ≡ Some line → stop_of line.caller had ≡ Some spent → Makes k b had before → Makes (k + 1) b had before
  makes_passed k line b had before spent at stopped makes c has after p = makes c has after (played_passed s.lines k line at b had before c has after spent stopped p)

  pub makes_taken : (k : ℕ) (line : ActorLine) (b : Board) (had : List Stop) (before : List Entry) (o stop : Option Spent) (mid : Board) (between : List Entry) (now : List Stop)
      → slice_get s.lines k ≡ Some line → stop_of line.caller had ≡ None
      → ((rest : Asks) → Played line.caller (line_asks line.task rest) rest b before o mid between)
      → o ≡ stop → now ≡ with_stop line.caller stop had → Makes k b had before → Makes (k + 1) mid now between
  makes_taken k line b had before o stop mid between now at free each is stops makes c has after p =
      makes c has after
      (played_taken s.lines k line at b had before stop mid between c has after free
      (λ rest. subst (λ x. Played line.caller (line_asks line.task rest) rest b before x mid between) is (each rest))
      (subst (λ hs. LinesPlayed (drop (k + 1) s.lines) mid hs between c has after) stops p))

  pub makes_replay : (k : ℕ) (b : Board) (had : List Stop) (before : List Entry) (spent : Option Spent)
      → length s.lines ≤ k → spent ≡ first_stop s.lines had → Makes k b had before → Replays s before spent
  makes_replay k b had before spent past is makes =
      played_all s b had before spent is (makes b had before (subst (λ ls. LinesPlayed ls b had before b had before) (sym (drop_all k s.lines past)) (played_none b had before)))
