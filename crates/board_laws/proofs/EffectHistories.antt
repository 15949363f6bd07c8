-- Along every legal history each processor has its local APIC, and a status without effect changes no request.
use Rattle.board_laws.proofs.Basics.{◌≡◌, Bool, length, refl, sym, ap, ◌∙◌, subst, arith, Entry, Shape, Masked, Board, Ignored, frame_stays, LapicsStand, plan_on, outcome_of, with_counts, would_publish, Step, opening, Point, board_at, board_left, IsLegal, OfLegalHistories, EffectlessChangesNoRequest, MaskedMeetsMask, LapicsStayInPlace, StatusesWithoutEffectChangeNoRequest, IgnoredMaskedIsMasked, apics_many}
use Rattle.board_laws.proofs.Points.{step_at, holds_at, at_points}
use Rattle.board_laws.proofs.PendingHistory.{opening_fine, step_stands}
use Rattle.board_laws.proofs.EffectStood.{masked_only}
use Rattle.board_laws.proofs.EffectCalls.{coalesced_and_ignored_change_no_request}

-- ---- each step

counted_places : (t : Bool) (d : Board) → length d.lapics ≡ d.shape.cpus → length (with_counts t d).lapics ≡ (with_counts t d).shape.cpus
counted_places t d h1 = grind arith

pub lapics_stay_in_place : LapicsStayInPlace
lapics_stay_in_place b e c stand s =
    let frame = frame_stays (plan_on b e.caller e.call) b s.wishes in
    let many : length b.lapics ≡ b.shape.cpus = stand.places in
    record {
      places = subst (λ (d : Board). length d.lapics ≡ d.shape.cpus) s.leads (counted_places (would_publish b e.call) (outcome_of b e s.wishes).board (frame.lapics ∙ many ∙ sym (ap (λ (shape : Shape). shape.cpus) frame.shape)));
      numbers = (step_stands b.shape b e c s (record { same = refl; fine = record { places = omega (many, arith); numbers = stand.numbers } })).fine.numbers;
    }

-- ---- along a history

opening_stands : (shape : Shape) → LapicsStand (opening shape)
opening_stands shape = record {
  places = apics_many shape.cpus;
  numbers = (opening_fine shape.cpus).numbers;
}

stands_on : (b : Board) (e : Entry) (c : Board) → Step b e c → LapicsStand b → LapicsStand c
stands_on b e c step stand = lapics_stay_in_place b e c stand step

said_at : (shape : Shape) (p : Point) → IsLegal shape p → EffectlessChangesNoRequest (board_at shape p) p.entry (board_left shape p)
said_at shape p legal =
    let stand = holds_at shape p legal LapicsStand stands_on (opening_stands shape) in
    coalesced_and_ignored_change_no_request (board_at shape p) p.entry (board_left shape p) (record { places = let many : length (board_at shape p).lapics ≡ (board_at shape p).shape.cpus = stand.places in omega (many, arith); numbers = λ n _. stand.numbers n }) (step_at shape p legal)

pub statuses_without_effect_change_no_request : OfLegalHistories StatusesWithoutEffectChangeNoRequest
statuses_without_effect_change_no_request = at_points (λ shape p. EffectlessChangesNoRequest (board_at shape p) p.entry (board_left shape p)) said_at

pub ignored_masked_is_masked : OfLegalHistories IgnoredMaskedIsMasked
ignored_masked_is_masked = at_points (λ shape p. MaskedMeetsMask (board_at shape p) p.entry (board_left shape p)) (λ shape p legal replied.
    let told = said_at shape p legal (Ignored Masked) replied refl in
    record { targets = told.targets; signalled = told.signalled; masked = masked_only (board_at shape p) told.targets told.said.first })
