use Rattle.std.proofs.Common.{ap, ◌∙◌, arith}
use Rattle.turn_book.specs.Histories.{is_in}
use Rattle.write_ring.specs.Seen.{Seen, entries_by}
use Rattle.write_ring.proofs.Attempts.{not_made}
use Rattle.write_ring.proofs.desk.RingDesk.pass.Goals as goal

pub split-pen-requires-clause-fresh : goal.split-pen-requires-clause-fresh
split-pen-requires-clause-fresh c =
    let desk = c.look.new.self in
    ap (is_in c.args.self.now.passes) desk.made ∙ not_made desk.passes c.args.self.now.passes (let same = c.look.ensures.passes in omega arith)

pub returns-clause-fresh : goal.returns-clause-fresh
returns-clause-fresh c =
    let desk = c.look.new.self in
    let n = c.args.self.now.passes in
    ap (λ (v : Seen). entries_by n v.seen) c.split-pen.ensures.pen
    ∙ c.look.ensures.made desk.desk n (ap (is_in n) desk.made ∙ not_made desk.passes n (let same = c.look.ensures.passes in omega arith))

pub returns-clause-nobody_else : goal.returns-clause-nobody_else
returns-clause-nobody_else c = λ n high.
    let desk = c.look.new.self in
    ap (λ (v : Seen). entries_by n v.seen) c.split-pen.ensures.kept
    ∙ c.look.ensures.made desk.desk n (ap (is_in n) desk.made ∙ not_made desk.passes n (omega (arith, high)))
