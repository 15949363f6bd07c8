use Rattle.std.proofs.Common.{ap, ◌∙◌}
use Rattle.turn_book.specs.Histories.{is_in}
use Rattle.write_ring.proofs.Attempts.{not_made}
use Rattle.write_ring.proofs.desk.RingDesk.join.Goals as goal

pub returns-clause-nobody_else : goal.returns-clause-nobody_else
returns-clause-nobody_else c = λ n high.
    let desk = c.args.self.now in
    let place = c.join.ensures.place in
    c.join.ensures.made (place.2 ∙ desk.desk) n (ap (is_in n) (place.3 ∙ desk.made) ∙ not_made desk.passes n high)
