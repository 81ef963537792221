-- `sector_root` meets its contract: a sector is whole segments. Assumes nothing.
use Rattle.std.specs.Prelude.{◌≡◌, Ok, is_ok}
use Rattle.lists.proofs.Kit.{sym, ap, ◌∙◌, arith}
use Rattle.tree.specs.Answers.{root_of}
use Rattle.tree.specs.Tree.{root}
use Rattle.tree.proofs.Promise.{calls}
use Rattle.machine_sight.proofs.Laws.Roots.{root_is}
use Rattle.machine_sight.proofs.sector_roots.sector_root.Goals as goal
use Rattle.machine_sight.proofs.sector_roots.sector_root.Goals.{After-root}

told : (c : After-root) → c.root.result ≡ Ok (root c.sector.result.now)
told c = calls.root_told c.root.result _ c.root.ensures.answer (omega (arith, c.sector.ensures.1, c.requires.size.segments))

pub unwrap-requires : goal.unwrap-requires
unwrap-requires c = ap is_ok (told (goal.at.unwrap-requires c).After-root)

pub returns : goal.returns
returns c = root_is _ _ _ _ c.sector.ensures.0 (ap root_of (sym c.unwrap.ensures ∙ told (goal.at.returns c).After-root))
