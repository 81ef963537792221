-- `sia_write::put_entries` meets its contract: a turn lays the bytes of one more. Assumes nothing.
use Rattle.lists.proofs.Kit.{refl, sym, ap, ◌∙◌, arith, length}
use Rattle.lists.proofs.Laws.Every.{every_get}
use Rattle.area.specs.Area.{put}
use Rattle.area.proofs.Laws.Puts.{put-nil}
use Rattle.sia.specs.Encode.{joined}
use Rattle.sia.proofs.Laws.Joined.{length_more, room_left, lay-more}
use Rattle.sia_write.proofs.put_entries.Goals as goal

pub loop-x-init : goal.loop-x-init
unfolding joined
loop-x-init g c = (refl, omega arith, sym (put-nil _ _))

pub put-place-requires-clause-self_fits : goal.put-place-requires-clause-self_fits
put-place-requires-clause-self_fits g c =
    ap g.T.Entry.fits c.x-item.is ∙ every_get g.T.Entry.fits c.args.list.now c.loop-x.x-index c.x-item.result c.loop-x-test.true c.requires.list_fits

pub put-place-requires-clause-bytes_in_bounds : goal.put-place-requires-clause-bytes_in_bounds
put-place-requires-clause-bytes_in_bounds g c =
    let l = c.loop-x in
    let left = room_left g.T.Entry.bytes c.args.list.now l.x-index c.x-item.result c.loop-x-test.true in
    let one = ap (λ (x : g.row.T.Denot). length (g.T.Entry.bytes x)) c.x-item.is in
    omega (arith, l.invariant.0, l.invariant.1, c.requires.list_in_bounds, left, one)

pub loop-x-preserved : goal.loop-x-preserved
loop-x-preserved g c =
    let l = c.loop-x in
    let list = c.args.list.now in
    let laid = c.put-place.ensures in
    let more = length_more g.T.Entry.bytes list l.x-index c.x-item.result c.loop-x-test.true in
    let one = ap (λ (x : g.row.T.Denot). length (g.T.Entry.bytes x)) c.x-item.is in (
      c.put-place.auto.out ∙ l.invariant.0,
      omega (arith, laid.0, l.invariant.1, more, one),
      laid.1 ∙ ap (λ (x : g.row.T.Denot). put l.out l.place (g.T.Entry.bytes x)) c.x-item.is
          ∙ lay-more g.T.Entry.bytes _ _ list l.x-index c.x-item.result l.place c.loop-x-test.true l.invariant.1 l.invariant.2,
    )
