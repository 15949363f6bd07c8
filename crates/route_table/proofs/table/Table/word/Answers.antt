use Rattle.std.proofs.Common.{◌≡◌, ◌+◌, ◌^◌, get_or, true, false, arith, sym, ap, ◌∙◌}
use Rattle.route_table.specs.Words.{targets_word}
use Rattle.route_table.specs.Rows.{targets_of}
use Rattle.route_table.proofs.Filled.{unmarked_word, marked_word, word_low}
use Rattle.route_table.proofs.table.Table.word.Goals as goal

pub overflow_add-result : goal.overflow_add-result
overflow_add-result c =
    let a = c.self.inside in
    let word : get_or c.as_slice.result.now c.args.gsi 0 ≡ get_or a.words.items c.args.gsi 0 = ap (λ l. get_or l c.args.gsi 0) c.as_slice.ensures.value in
    let low = word_low a.words.items a.spare.items a.pics a.ioapics c.args.gsi c.self.invariant c.requires in
    omega (arith, word, low)

pub returns-then-marked : goal.returns-then-marked
returns-then-marked c =
    let a = c.self.inside in
    let word : get_or c.as_slice.result.now c.args.gsi 0 ≡ get_or a.words.items c.args.gsi 0 = ap (λ l. get_or l c.args.gsi 0) c.as_slice.ensures.value in
    ap (λ n. n + 2 ^ 63) word
    ∙ marked_word a.words.items a.spare.items a.pics a.ioapics c.args.gsi c.self.invariant c.requires
    ∙ ap (λ table. targets_word (targets_of table c.args.gsi) true) c.self.view_is
    ∙ ap (λ b. targets_word (targets_of c.args.self.now c.args.gsi) b) (sym c.if-marked.true)

pub returns-else-marked : goal.returns-else-marked
returns-else-marked c =
    let a = c.self.inside in
    let word : get_or c.as_slice.result.now c.args.gsi 0 ≡ get_or a.words.items c.args.gsi 0 = ap (λ l. get_or l c.args.gsi 0) c.as_slice.ensures.value in
    word
    ∙ unmarked_word a.words.items a.spare.items a.pics a.ioapics c.args.gsi c.self.invariant c.requires
    ∙ ap (λ table. targets_word (targets_of table c.args.gsi) false) c.self.view_is
    ∙ ap (λ b. targets_word (targets_of c.args.self.now c.args.gsi) b) (sym c.if-marked.false)
