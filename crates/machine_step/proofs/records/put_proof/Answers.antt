-- `machine_step::records::put_proof` meets its contract: nothing is laid where no proof is asked. Assumes nothing.
use Rattle.lists.proofs.Kit.{sym, ap, subst, ◌∙◌, List, [], ℕ, ◌≤◌, length}
use Rattle.lists.proofs.Laws.Pick.{picks, skips}
use Rattle.area.specs.Area.{put}
use Rattle.area.proofs.Laws.Puts.{put-nil}
use Rattle.sia.proofs.Laws.Joined.{lay-same}
use Rattle.machine_step.specs.Shown.{shown_proof}
use Rattle.machine_step.proofs.records.put_proof.Goals as goal

pub range_proof-requires : goal.range_proof-requires
unfolding shown_proof
range_proof-requires c = let asked = c.if-shown.true in
    let out = c.args.out.now in
    let room = subst (λ (l : List ℕ). length l ≤ length out) (picks c.args.shown.now.asked _ [] asked) c.requires.n_in_bounds in
    record { known = c.requires.known; lies = c.requires.lies; ranged = c.requires.ranged asked; n_in_bounds = room }

pub returns-then-shown : goal.returns-then-shown
unfolding shown_proof
returns-then-shown c =
    lay-same _ 0 _ c.range_proof.ensures (sym (picks _ _ [] c.if-shown.true))

pub returns-else-shown : goal.returns-else-shown
unfolding shown_proof
returns-else-shown c = sym (ap (put _ 0) (skips _ _ [] c.if-shown.false) ∙ put-nil _ 0)
