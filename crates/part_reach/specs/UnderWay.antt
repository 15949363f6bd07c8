-- An attempt that is under way, and what it comes to (this board's own rule). In each, `u` is what the seat knew when it began.
use Rattle.std.specs.Prelude.{◌≡◌, ℕ, ◌+◌, ◌-◌, ◌*◌, ◌^◌, true, List, [], ◌∷◌, ◌++◌, length, count_by, is_some, All, Some}
use Rattle.irq_base.specs.declared.call.Call.{Call}
use Rattle.irq_base.specs.declared.call.Caller.{Caller}
use Rattle.irq_base.specs.declared.event.Event.{Event}
use Rattle.irq_base.specs.declared.shape.Shape.{Shape}
use Rattle.board_step.specs.Bodies.{entry_of}
use Rattle.board_step.specs.History.{opening}
use Rattle.board_step.specs.Step.{is_publication}
use Rattle.turn_book.specs.declared.view.Front.{Front}
use Rattle.turn_book.specs.Banks.{HasRegistry}
use Rattle.turn_book.specs.Histories.{IsPrefix}
use Rattle.turn_book.specs.Many.{AllBelow, AreApart, HoldsJust}
use Rattle.turn_book.specs.Plays.{IsLastLook}
use Rattle.turn_book.specs.Views.{IsLegal, HoldsRight, AddsNoneOfOwn, SamePlace}
use Rattle.part_slots.specs.Callers.{caller_number}
use Rattle.part_slots.specs.Commits.{Seen}
use Rattle.part_slots.specs.Running.{Opens, IsStep, caller_of}
use Rattle.part_slots.specs.Slots.{slots_of}
use Rattle.part_rig.specs.declared.known.Known.{Known}
use Rattle.part_rig.specs.Readings.{blanks_under}
use Rattle.part_attempt.specs.Attempts.{Answer, EntersBehind, IsBarred, GaveWay, IfEntered, IfBarred, IfGaveWay, OnNoEntry, OnAnswer, turns_found}
use Rattle.part_reach.specs.Turns.{IsReachedBetween, AddsReached, FindsReached, seen_before_own}
use Rattle.part_attempt.specs.declared.places.TheConstants.{MAX_PLACES}
use Rattle.board_model.specs.declared.width.TheConstants.{WORDS}
use Rattle.part_slots.specs.declared.numbers.TheConstants.{FIXED_PARTS}

-- the seat has looked at this front and knows the board there
pub record HasLooked (shape : Shape) (caller : Caller) (v : Seen) (had : Front) : Type 0 where
  pub begins : v.begin ≡ Some (opening shape)
  pub named : v.caller ≡ Some (caller_number caller)
  pub legal : IsLegal Opens IsStep v
  pub right : HoldsRight slots_of v
  pub last_look : IsLastLook had v
  pub long : had.length ≡ length v.seen
  pub published : had.generation ≡ count_by is_publication v.seen
  pub knows : HasRegistry v → is_some v.knows ≡ true

-- it holds just the parts of these places, each of a board of that shape
pub record HoldsPlaces (shape : Shape) (v : Seen) (places : List ℕ) : Type 0 where
  pub below : AllBelow (FIXED_PARTS + shape.cpus) places
  pub apart : AreApart places
  pub just : HoldsJust places v.held

-- the attempt has looked at the front, the last time at this one, and has won these turns, each of a part that the call reached
pub record IsUnderWay (shape : Shape) (caller : Caller) (call : Call) (u v : Seen) (had : Front) (places : List ℕ) : Type 0 where
  pub earlier : List Front
  pub looks : v.looks ≡ u.looks ++ (earlier ++ had ∷ [])
  pub misses : v.misses ≡ u.misses
  pub seen : IsPrefix u.seen v.seen
  pub own : AddsNoneOfOwn caller_of u v
  pub place : SamePlace u v
  pub took : v.took ≡ u.took ++ places
  pub found : v.found ≡ u.found
  pub reached : All (IsReachedBetween shape caller call u.seen v.seen) places

-- the seat has won these turns more, and then looked once more at the front, which is this one
pub record LooksAgain (v w : Seen) (more : List ℕ) (next : Front) : Type 0 where
  pub looks : w.looks ≡ v.looks ++ next ∷ []
  pub last_look : IsLastLook next w
  pub long : next.length ≡ length w.seen
  pub published : next.generation ≡ count_by is_publication w.seen
  pub misses : w.misses ≡ v.misses
  pub seen : IsPrefix v.seen w.seen
  pub own : AddsNoneOfOwn caller_of v w
  pub legal : IsLegal Opens IsStep w
  pub right : HoldsRight slots_of w
  pub place : SamePlace v w
  pub took : w.took ≡ v.took ++ more
  pub found : w.found ≡ v.found
  pub knows : HasRegistry w → is_some w.knows ≡ true

-- how many words and turns can be wanted still: a word that is read leaves one less, so does a turn that is won, and a publication
-- of another makes each word unread
abbrev pub wants_left : Front → List ℕ → Known → ℕ
wants_left had places known =
    (MAX_PLACES - length places) + (2 ^ 20 - had.generation) * (WORDS + 1) + blanks_under had.generation known.places.items

-- what an attempt came to
pub record CameTo (shape : Shape) (caller : Caller) (call : Call) (u w : Seen) (answer : Answer) (events : List Event) : Type 0 where
  pub entered : IfEntered answer (λ done. EntersBehind u w (entry_of caller call done.reply events) done.at)
  pub barred : IfBarred answer (λ spent. IsBarred shape call spent w.seen)
  pub gave_way : IfGaveWay answer (GaveWay u w)
  pub kept : OnAnswer answer (w.misses ≡ u.misses)
  pub quiet : OnNoEntry answer (events ≡ [])
  pub own : OnNoEntry answer (AddsNoneOfOwn caller_of u w)
  pub seen : IsPrefix u.seen w.seen
  pub legal : IsLegal Opens IsStep w
  pub place : SamePlace u w
  pub took : AddsReached shape caller call u.seen (seen_before_own answer w.seen) u.took w.took
  pub found : w.found ≡ u.found ++ turns_found answer
  pub reached : FindsReached shape caller call answer w.seen
