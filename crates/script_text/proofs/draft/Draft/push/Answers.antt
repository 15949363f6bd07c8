use Rattle.std.proofs.Common.{◌++◌, [], ◌∷◌, if◌then◌else◌, ap, length, ◌∙◌}
use Rattle.script_text.specs.Words.{is_empty}
use Rattle.script_text.specs.Index.{places_in, with_place}
use Rattle.script_text.proofs.Indexes.{indexed-push}
use Rattle.script_text.proofs.draft.Draft.push.Goals as goal

pub returns-clause-index : goal.returns-clause-index
returns-clause-index c =
    let old = c.args.self.now in
    let seat = c.seat_of-seat.ensures in
    let is_new = c.is_free-is_new.ensures ∙ (λ i. is_empty (places_in (c.as_slice.ensures.value i) (seat i))) in
    let place = ap length c.as_slice-place.ensures.value in
    indexed-push c.append.result old.lines.items c.append.new.lines.items old.actors.items c.enlist.new.actors.items old.seats.items c.note.new.seats.items c.args.line c.append.ensures
    (c.in_default.ensures ∙ ap (λ b. if b then old.actors.items ++ c.args.line.caller ∷ [] else old.actors.items) is_new)
    (λ n. c.in_default-note.ensures n ∙ (λ i. with_place (seat i) (place i) n (places_in old.seats.items n)))
