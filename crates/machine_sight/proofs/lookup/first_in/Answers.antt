-- `machine_sight::lookup::first_in` meets its contract. The loop's invariant: the answer is that of the positions that are left to look at. Assumes
-- nothing.
use Rattle.lists.proofs.Kit.{◌≡◌, sym, ap, ◌∙◌, List, ℕ, arith}
use Rattle.area.specs.Area.{same}
use Rattle.machine_rules.specs.View.{spot_of}
use Rattle.machine_rules.specs.Roots.{kept_root}
use Rattle.machine_sight.specs.Seen.{spots_of}
use Rattle.machine_sight.proofs.Laws.Sectors.{seen-lies}
use Rattle.machine_rules.specs.declared.Spot.{Spot}
use Rattle.std.specs.Prelude.{Some}
use Rattle.machine_sight.proofs.Laws.Lookup.{position-all, position_here, position-further, position-none}
use Rattle.machine_sight.proofs.lookup.first_in.Goals as goal
use Rattle.machine_sight.proofs.lookup.first_in.Goals.{After-has_root, Start}

-- the root of a spot, and the spot of a position
abbrev root : Start → Spot → List ℕ
root s = kept_root s.args.diskroots.now s.args.stageroots.now

abbrev spot : Start → ℕ → Spot
spot s = spot_of s.args.seen.slots s.args.seen.staged

has : (c : After-has_root) → let s = (goal.at.After-has_root c).Start in
    same (root s (spot s c.loop-position.position)) c.args.key ≡ c.has_root.result
has c =
    let s = (goal.at.After-has_root c).Start in
    ap (λ (x : Spot). same (root s x) c.args.key) (sym c.spot-spot.ensures) ∙ sym c.has_root.ensures

-- ---- the answers
pub returns-then-has_root : goal.returns-then-has_root
unfolding spots_of
returns-then-has_root c =
    let s = (goal.at.returns-then-has_root c).Start in
    ap (λ (x : Spot). Some (record { place = c.args.place; position = c.loop-position.position; spot = x })) c.spot-spot.ensures
    ∙ position_here (root s) c.args.key c.args.place (spot s) c.args.seen.count c.loop-position.position (omega arith)
    (has (goal.at.returns-then-has_root c).After-has_root ∙ c.if-has_root.true)
    ∙ sym c.loop-position.invariant

pub loop-position-preserved : goal.loop-position-preserved
loop-position-preserved c =
    let s = (goal.at.loop-position-preserved c).Start in
    c.loop-position.invariant
    ∙ position-further (root s) c.args.key c.args.place (spot s) c.args.seen.count c.loop-position.position
    (omega arith) (has (goal.at.loop-position-preserved c).After-has_root ∙ c.if-has_root.false)

pub returns : goal.returns
unfolding spots_of
returns c =
    let s = (goal.at.returns c).Start in
    position-none (root s) c.args.key c.args.place (spot s) c.args.seen.count c.loop-position.position (omega arith)
    ∙ sym c.loop-position.invariant

pub loop-position-init : goal.loop-position-init
loop-position-init c = position-all _ _ _ _ _

pub has_root-requires : goal.has_root-requires
has_root-requires c = seen-lies 32 _ _ c.args.seen c.loop-position.position c.requires.spots (omega arith) c.spot-spot.ensures
