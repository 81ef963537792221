-- `contract_root` meets its contract: zeros of nothing, one sector's own root, else the join of the kept roots. Assumes nothing.
use Rattle.std.specs.Prelude.{is_ok}
use Rattle.lists.proofs.Kit.{sym, ap, ◌∙◌, arith}
use Rattle.tree.specs.Answers.{root_of}
use Rattle.tree.proofs.Promise.{calls}
use Rattle.machine_rules.specs.Roots.{kept_root}
use Rattle.machine_sight.proofs.Laws.Roots.{seen_none, seen-alone, seen-roots, seen-join}
use Rattle.machine_sight.proofs.contract_roots.contract_root.Goals as goal

pub returns-in-0 : goal.returns-in-0
returns-in-0 c = seen_none (kept_root c.args.diskroots.now c.args.stageroots.now) c.args.seen c.in-0.is

pub first_root-requires : goal.first_root-requires
first_root-requires c = record { known = c.requires; count_nonzero = omega (arith, c.in-1.is) }

pub returns-in-1 : goal.returns-in-1
returns-in-1 c =
    c.first_root.ensures ∙ seen-alone _ _ c.args.seen c.requires c.in-1.is

pub slice_bounds-join-end : goal.slice_bounds-join-end
slice_bounds-join-end c =
    sym (seen-roots _ _ c.args.seen c.requires c.kept_roots-roots.ensures)

pub unwrap-requires : goal.unwrap-requires
unwrap-requires c =
    let long = seen-roots _ _ c.args.seen c.requires c.kept_roots-roots.ensures in
    ap is_ok (calls.join-told c.join.result _ c.join.ensures.answer (omega (arith, long)))

pub returns-in_default : goal.returns-in_default
returns-in_default c =
    let long = seen-roots _ _ c.args.seen c.requires c.kept_roots-roots.ensures in
    ap root_of (sym c.unwrap.ensures ∙ calls.join-told c.join.result _ c.join.ensures.answer (omega (arith, long)))
    ∙ seen-join _ c.args.seen c.kept_roots-roots.ensures (λ q. omega arith)
