use Rattle.std.proofs.Common.{sym, ap, ◌∙◌}
use Rattle.part_slots.specs.Commits.{Seen}
use Rattle.part_board.proofs.Routes.{noted_under, learnt_twice, turns_stay, misses_stay, looked_twice, in_order, routed_at}
use Rattle.part_board.proofs.live.LiveBoard.read.Goals as goal

pub returns-clause-learnt : goal.returns-clause-learnt
returns-clause-learnt c =
    let pass = c.args.pass.now in
    let v : Seen = pass.pen.seat.me.0 in
    let u : Seen = c.front-had.new.pen.seat.me.0 in
    let x : Seen = c.targets_word-word.new.pen.seat.me.0 in
    let w : Seen = c.front-now.new.pen.seat.me.0 in
    let had = c.front-had.result in
    let word = c.targets_word-word.result in
    let noted = noted_under c.args.gsi word u x had c.front-had.ensures.last_look c.targets_word-word.ensures.noted in
    learnt_twice v u x w had c.front-now.result c.args.gsi word noted pass.shape c.args.self.now.shape pass.caller c.requires.pass.shape pass.begins pass.named c.front-had.ensures.place.0 c.front-had.ensures.place.2
    c.front-now.ensures.place.0 c.front-had.ensures.seen c.front-now.ensures.seen c.front-now.ensures.legal c.front-had.ensures.own c.front-now.ensures.own

pub returns-clause-turns : goal.returns-clause-turns
returns-clause-turns c =
    let v : Seen = c.args.pass.now.pen.seat.me.0 in
    let u : Seen = c.front-had.new.pen.seat.me.0 in
    let x : Seen = c.targets_word-word.new.pen.seat.me.0 in
    let w : Seen = c.front-now.new.pen.seat.me.0 in
    let had = c.front-had.result in
    let word = c.targets_word-word.result in
    let noted = noted_under c.args.gsi word u x had c.front-had.ensures.last_look c.targets_word-word.ensures.noted in
    turns_stay v u x w had c.front-now.result c.args.gsi word noted c.front-had.ensures.turns c.front-now.ensures.turns

pub returns-clause-misses : goal.returns-clause-misses
returns-clause-misses c =
    let v : Seen = c.args.pass.now.pen.seat.me.0 in
    let u : Seen = c.front-had.new.pen.seat.me.0 in
    let x : Seen = c.targets_word-word.new.pen.seat.me.0 in
    let w : Seen = c.front-now.new.pen.seat.me.0 in
    let had = c.front-had.result in
    let word = c.targets_word-word.result in
    let noted = noted_under c.args.gsi word u x had c.front-had.ensures.last_look c.targets_word-word.ensures.noted in
    misses_stay v u x w had c.front-now.result c.args.gsi word noted c.front-had.ensures.misses c.front-now.ensures.misses

pub returns-clause-looks : goal.returns-clause-looks
returns-clause-looks c =
    let v : Seen = c.args.pass.now.pen.seat.me.0 in
    let u : Seen = c.front-had.new.pen.seat.me.0 in
    let x : Seen = c.targets_word-word.new.pen.seat.me.0 in
    let w : Seen = c.front-now.new.pen.seat.me.0 in
    let had = c.front-had.result in
    let word = c.targets_word-word.result in
    let noted = noted_under c.args.gsi word u x had c.front-had.ensures.last_look c.targets_word-word.ensures.noted in
    looked_twice v u x w had c.front-now.result c.args.gsi word noted c.front-had.ensures.looks c.front-now.ensures.looks

pub returns-clause-order : goal.returns-clause-order
returns-clause-order c =
    let v : Seen = c.args.pass.now.pen.seat.me.0 in
    let u : Seen = c.front-had.new.pen.seat.me.0 in
    let x : Seen = c.targets_word-word.new.pen.seat.me.0 in
    let w : Seen = c.front-now.new.pen.seat.me.0 in
    let had = c.front-had.result in
    let word = c.targets_word-word.result in
    let noted = noted_under c.args.gsi word u x had c.front-had.ensures.last_look c.targets_word-word.ensures.noted in
    in_order v u x w had c.front-now.result c.args.gsi word noted c.front-had.ensures.generation c.front-now.ensures.generation c.front-now.ensures.seen

pub returns-clause-right : goal.returns-clause-right
returns-clause-right c =
    let pass = c.args.pass.now in
    let u : Seen = c.front-had.new.pen.seat.me.0 in
    let x : Seen = c.targets_word-word.new.pen.seat.me.0 in
    let w : Seen = c.front-now.new.pen.seat.me.0 in
    let had = c.front-had.result in
    let word = c.targets_word-word.result in
    let noted = noted_under c.args.gsi word u x had c.front-had.ensures.last_look c.targets_word-word.ensures.noted in
    let begins = c.front-now.ensures.place.0 ∙ ap (λ (y : Seen). y.begin) noted ∙ c.front-had.ensures.place.0 ∙ pass.begins in
    λ same. routed_at pass.shape c.args.self.now.shape c.args.gsi word had.generation u x w c.requires.pass.shape c.requires.gsi begins c.front-now.ensures.legal noted c.front-now.ensures.notes (sym same ∙ c.front-now.ensures.generation) c.front-now.ensures.right
