-- `machine_step::records::put_bytes` meets its contract: nothing is laid where nothing is read. Assumes nothing.
use Rattle.lists.proofs.Kit.{sym, ap, subst, ◌∙◌, [], ℕ, ◌≤◌, arith, length}
use Rattle.lists.proofs.Laws.Pick.{picks, skips}
use Rattle.area.specs.Area.{put}
use Rattle.area.proofs.Laws.Parts.{part-whole}
use Rattle.area.proofs.Laws.Puts.{put-nil}
use Rattle.sia.proofs.Laws.Joined.{lay-same}
use Rattle.machine_step.specs.Shown.{shown_bytes}
use Rattle.machine_step.proofs.records.put_bytes.Goals as goal

pub span-bytes-requires : goal.span-bytes-requires
span-bytes-requires c = record { lies = c.requires.lies; inside = c.requires.inside c.if-shown.true }

pub copy_between-requires : goal.copy_between-requires
copy_between-requires c = let read = c.span-bytes.ensures.1 in
    let reads = picks c.args.shown.now.reads c.args.shown.now.n 0 c.if-shown.true in
    let room = subst (λ (k : ℕ). k ≤ length c.args.out.now) reads c.requires.n_in_bounds in
    record { n_in_bounds = omega arith; n_in_bounds_2 = omega arith }

pub returns-then-shown : goal.returns-then-shown
unfolding shown_bytes
returns-then-shown c =
    let read = c.span-bytes.ensures in
    lay-same _ 0 _ c.copy_between.ensures
    (part-whole _ _ (sym read.1) ∙ read.0 ∙ sym (picks _ _ [] c.if-shown.true))

pub returns-else-shown : goal.returns-else-shown
unfolding shown_bytes
returns-else-shown c = sym (ap (put _ 0) (skips _ _ [] c.if-shown.false) ∙ put-nil _ 0)
