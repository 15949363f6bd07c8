use Rattle.std.proofs.Common.{◌≡◌, ◌+◌, ◌-◌, ◌<◌, sym, ap, ◌∙◌, arith}
use Rattle.std.specs.List.{list_all}
use Rattle.board_raise.specs.Named.{numbers_of, lowest_of}
use Rattle.board_raise.specs.OnRow.{named_in}
use Rattle.board_raise.specs.RowSteps.{numbers_between, naming_of}
use Rattle.board_raise.proofs.Between.{between_none}
use Rattle.board_raise.proofs.Naming.{is_small, named_none, naming_more, small_more, naming_none, naming-all, naming-lowest}
use Rattle.board_raise.proofs.sending.name_each.Goals as goal

pub loop-n-init : goal.loop-n-init
loop-n-init c =
    let none = between_none c.args.reach.end c.args.reach.end (omega arith) in
    record {
      above = c.requires.order;
      naming = naming_none c.empty.result c.empty-2.result c.empty.ensures c.empty-2.ensures ∙ ap (λ l. naming_of (named_in c.args.row.now l c.args.message.now c.args.from)) (sym none);
      small = ap (λ l. list_all is_small (named_in c.args.row.now l c.args.message.now c.args.from)) none;
    }

pub loop-n-preserved-in-Some : goal.loop-n-preserved-in-Some
loop-n-preserved-in-Some c =
    let below : c.loop-n.n - 1 < c.args.reach.end = omega (c.loop-n-test.true, c.loop-n.auto.n, arith) in
    let next : c.loop-n.n ≡ (c.loop-n.n - 1) + 1 = omega (c.loop-n-test.true, arith) in
    let named = sym c.in-Some.is ∙ c.priority_if_named.ensures.priority in
    record {
      above = omega (c.loop-n-test.true, arith);
      naming = c.add.ensures ∙ naming_more c.args.row.now (c.loop-n.n - 1) c.loop-n.n c.args.reach.end c.args.message.now c.args.from below next c.loop-n.naming c.in-Some.priority c.loop-n.invariant.naming named;
      small = small_more c.args.row.now (c.loop-n.n - 1) c.loop-n.n c.args.reach.end c.args.message.now c.args.from below next c.in-Some.priority c.in-Some.ensures.range c.loop-n.invariant.small named;
    }

pub loop-n-preserved : goal.loop-n-preserved
loop-n-preserved c =
    let below : c.loop-n.n - 1 < c.args.reach.end = omega (c.loop-n-test.true, c.loop-n.auto.n, arith) in
    let next : c.loop-n.n ≡ (c.loop-n.n - 1) + 1 = omega (c.loop-n-test.true, arith) in
    let same = named_none c.args.row.now (c.loop-n.n - 1) c.loop-n.n c.args.reach.end c.args.message.now c.args.from below next (sym c.in_default.is ∙ c.priority_if_named.ensures.priority) in
    record {
      above = omega (c.loop-n-test.true, arith);
      naming = c.loop-n.invariant.naming ∙ ap naming_of (sym same);
      small = ap (list_all is_small) same ∙ c.loop-n.invariant.small;
    }

pub returns-clause-all : goal.returns-clause-all
returns-clause-all c =
    let first : c.loop-n.n ≡ c.args.reach.first = omega (c.loop-n-test.false, c.loop-n.invariant.above, arith) in
    ap (λ s. s.all) c.loop-n.invariant.naming
    ∙ naming-all (named_in c.args.row.now (numbers_between c.loop-n.n c.args.reach.end) c.args.message.now c.args.from)
    ∙ ap (λ n. numbers_of (named_in c.args.row.now (numbers_between n c.args.reach.end) c.args.message.now c.args.from)) first

pub returns-clause-lowest : goal.returns-clause-lowest
returns-clause-lowest c =
    let first : c.loop-n.n ≡ c.args.reach.first = omega (c.loop-n-test.false, c.loop-n.invariant.above, arith) in
    ap (λ s. s.lowest) c.loop-n.invariant.naming
    ∙ naming-lowest (named_in c.args.row.now (numbers_between c.loop-n.n c.args.reach.end) c.args.message.now c.args.from) c.loop-n.invariant.small
    ∙ ap (λ n. numbers_of (lowest_of (named_in c.args.row.now (numbers_between n c.args.reach.end) c.args.message.now c.args.from))) first
