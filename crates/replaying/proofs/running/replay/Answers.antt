use Rattle.std.proofs.Common.{◌≡◌, ◌∙◌, Some, None, refl, sym, ap, arith}
use Rattle.replaying.specs.FileOrder.{stop_of, first_stop}
use Rattle.replaying.proofs.Lines.{may_line, inserted, some_of, makes_passed, makes_taken, makes_replay}
use Rattle.replaying.proofs.running.replay.Goals.{in-None+in_ok-spent+in-Some+else-is_err, in-None+in_ok-spent+in_default-2, in_default}
use Rattle.replaying.proofs.running.replay.Goals as goal

pub line-requires : goal.line-requires
line-requires c = may_line c.args.script.now c.lines.player.board c.lines.k c.line-line.result.now c.requires c.lines.invariant.shape c.line-line.ensures

pub lines-preserved : goal.lines-preserved
lines-preserved c =
    let s = c.args.script.now in
    let k = c.lines.k in
    let line = c.line-line.result.now in
    let b = c.lines.player.board in
    let had = c.lines.stops.items in
    let before = c.lines.player.history in
    let at = c.line-line.ensures in
    let so_far = c.lines.invariant in
    let stop_is : stop_of line.caller had ≡ c.stop_of.result = sym (c.stop_of.ensures ∙ ap (λ hs. stop_of line.caller hs) c.as_slice.ensures.value) in
    elim c.match-stop_of.branch [
      | in-None+in_ok-spent+in-Some+else-is_err w ↦
          let p = w.line.new.self in
          let stop = Some w.in-Some.spent in
          let now = w.insert.new.self.items in
          record {
            shape = ap (λ q. q.board.shape) w.player-is ∙ w.in_ok-spent.ensures.shape ∙ so_far.shape;
            makes = rw (w.player-is, w.stops-is)
                (makes_taken s k line b had before w.in_ok-spent.field-0 stop p.board p.history now at (stop_is ∙ w.in-None.is) (λ rest. w.in_ok-spent.ensures.played rest) w.in-Some.is
                (inserted w.insert.result had now _ (sym w.is_err.ensures.value ∙ w.if-is_err.false) w.insert.ensures.items) so_far.makes);
          }
      | in-None+in_ok-spent+in_default-2 w ↦
          let p = w.line.new.self in
          record {
            shape = ap (λ q. q.board.shape) w.player-is ∙ w.in_ok-spent.ensures.shape ∙ so_far.shape;
            makes = rw (w.player-is, w.stops-is)
                (makes_taken s k line b had before w.in_ok-spent.field-0 None p.board p.history had at (stop_is ∙ w.in-None.is) (λ rest. w.in_ok-spent.ensures.played rest) w.in_default-2.is refl so_far.makes);
          }
      | in_default w ↦
          let (spent, stopped) = some_of c.stop_of.result w.in_default.not-None in
          record {
            shape = ap (λ q. q.board.shape) w.player-is ∙ so_far.shape;
            makes = rw (w.player-is, w.stops-is) (makes_passed s k line b had before spent at (stop_is ∙ stopped) so_far.makes);
          }
    ]

pub returns : goal.returns
returns c =
    let s = c.args.script.now in
    makes_replay s c.lines.k c.lines.player.board c.lines.stops.items c.lines.player.history c.first_stop-spent.result
    (omega (arith, c.lines-k-end.ensures, c.lines-test.false))
    (c.first_stop-spent.ensures ∙ ap (λ hs. first_stop s.lines hs) c.as_slice-2.ensures.value)
    c.lines.invariant.makes
