-- `range_proof` meets its contract: hashes of the sector that the range is in, and kept roots of the others; of one sector its own proof.
-- Assumes nothing.
use Rattle.std.specs.Prelude.{is_ok, IsOk}
use Rattle.lists.proofs.Kit.{◌≡◌, sym, ap, ◌∙◌, arith, length, List, ℕ}
use Rattle.area.specs.Area.{put}
use Rattle.machine_rules.specs.View.{sector}
use Rattle.machine_rules.specs.Roots.{kept_root, range_proof}
use Rattle.machine_sight.specs.declared.Seen.{Seen}
use Rattle.machine_sight.specs.Seen.{spots_of}
use Rattle.tree.proofs.Promise.{calls}
use Rattle.machine_sight.proofs.Laws.Sectors.{seen-lies}
use Rattle.machine_sight.proofs.Laws.Roots.{ranges, seen_one, seen-roots, seen-proof}
use Rattle.machine_sight.proofs.contract_roots.range_proof.Goals as goal
use Rattle.machine_sight.proofs.contract_roots.range_proof.Goals.{After-prove, After-prove_in}

pub sector-bytes-requires : goal.sector-bytes-requires
sector-bytes-requires c =
    seen-lies _ _ _ c.args.seen _ c.requires.lies.spots c.requires.ranged.inside.below c.spot.ensures

-- what the area holds in the end
abbrev IsLaid : (z : ℕ) (diskroots stageroots disk stage : List ℕ) (seen : Seen) (at n : ℕ) (out next : List ℕ) → Type 0
IsLaid z diskroots stageroots disk stage seen at n out next =
    next ≡ put out 0 (range_proof z (kept_root diskroots stageroots) disk stage (spots_of seen) at n)

-- of one sector its own proof
one_laid : (c : After-prove) → let a = c.args in
    (IsOk c.prove.result)
    × IsLaid a.z a.diskroots.now a.stageroots.now a.disk.now a.stage.now a.seen a.at a.n a.out.now c.prove.new.out
one_laid c =
    let a = c.args in
    let here = c.sector-bytes.ensures.0 ∙ ap (sector a.z a.disk.now a.stage.now) c.spot.ensures in
    let size = c.requires.lies.size in
    let g = c.requires.ranged in
    let range = ranges a.z size a.seen.count a.at a.n g in
    let e = seen_one _ _ a.seen c.requires.known _ _ _ a.at a.n c.if-seen-eq1.true g.inside.below here in
    let long = c.sector-bytes.ensures.1 in
    let told = calls.proof-laid c.prove.result _ _ _ _ _ c.prove.ensures.answer
    (omega (arith, long, size.segments)) range.0 (omega (arith, long, range.1, size.segments))
    (omega (arith, ap length e, c.requires.n_in_bounds)) in
    (ap is_ok told.0, told.1 ∙ ap (put a.out.now 0) e)

pub unwrap-requires : goal.unwrap-requires
unwrap-requires c = (one_laid (goal.at.unwrap-requires c).After-prove).0

pub returns-then-seen-eq1 : goal.returns-then-seen-eq1
returns-then-seen-eq1 c = (one_laid (goal.at.returns-then-seen-eq1 c).After-prove).1

pub slice_bounds-prove_in-end : goal.slice_bounds-prove_in-end
slice_bounds-prove_in-end c =
    sym (seen-roots _ _ c.args.seen c.requires.known c.kept_roots-roots.ensures)

-- of several the proof within one of them
all_laid : (c : After-prove_in) → let a = c.args in
    (IsOk c.prove_in.result)
    × IsLaid a.z a.diskroots.now a.stageroots.now a.disk.now a.stage.now a.seen a.at a.n a.out.now c.prove_in.new.out
all_laid c =
    let a = c.args in
    let here = c.sector-bytes.ensures.0 ∙ ap (sector a.z a.disk.now a.stage.now) c.spot.ensures in
    let size = c.requires.lies.size in
    let g = c.requires.ranged in
    let range = ranges a.z size a.seen.count a.at a.n g in
    let rs = c.kept_roots-roots.ensures in
    let e = seen-proof _ a.seen rs _ _ _ a.at a.n g.inside.below here in
    let told = calls.proof-in-laid c.prove_in.result _ _ _ _ _ _ _ c.prove_in.ensures.answer a.seen.count
    size.depth (seen-roots _ _ a.seen c.requires.known rs) g.inside.below (c.sector-bytes.ensures.1 ∙ size.segments)
    (omega (arith, size.deep)) range.0 range.1 (omega (arith, ap length e, c.requires.n_in_bounds)) in
    (ap is_ok told.0, told.1 ∙ ap (put a.out.now 0) e)

pub unwrap-requires-2 : goal.unwrap-requires-2
unwrap-requires-2 c = (all_laid (goal.at.unwrap-requires-2 c).After-prove_in).0

pub returns : goal.returns
returns c = (all_laid (goal.at.returns c).After-prove_in).1
