use Rattle.std.proofs.Common.{◌<◌, ◌≤◌, length, get_or, sym, subst, arith, rules}
use Rattle.ioevent_set.proofs.IndexLemmas.{indexed-with}
use Rattle.ioevent_set.proofs.events.IoEvents.attach.Goals as goal

pub invariant_of-self : goal.invariant_of-self
invariant_of-self c = (
  rw (c.in-Ok-push.ensures.items, c.in-Ok.ensures.items)
      (indexed-with c.self.inside.rows.items c.self.inside.by_address.items c.args.row c.place_after-place.result c.self.invariant.0 (search rules) (search rules) (search rules)
      (λ k d before. subst (λ rows. (get_or rows k d).address ≤ c.args.row.address) c.as_slice-2.ensures.value (c.place_after-place.ensures.before k d (omega arith) before))
      (λ k d from below. subst (λ rows. c.args.row.address < (get_or rows k d).address) c.as_slice-2.ensures.value (c.place_after-place.ensures.from k d from (subst (λ rows. k < length rows) (sym c.as_slice-2.ensures.value) below)))),
  search rules,
  search rules,
)
