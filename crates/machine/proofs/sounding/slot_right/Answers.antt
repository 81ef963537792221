-- `slot_right` meets its contract: the root kept beside the slot against that of its bytes. Assumes nothing.
use Rattle.lists.proofs.Kit.{◌∙◌}
use Rattle.machine_sight.specs.Seen.{lies}
use Rattle.machine.proofs.Laws.Beside.{right_is}
use Rattle.machine.proofs.sounding.slot_right.Goals as goal

pub sector_root-root-requires : goal.sector_root-root-requires
unfolding lies
sector_root-root-requires c = record { size = c.requires.size; spot_value = c.requires.n_value }

pub returns : goal.returns
returns c =
    c.same.ensures ∙ right_is _ _ _ _ c.kept_root-kept.ensures.0 c.sector_root-root.ensures

pub kept_root-kept-requires : goal.kept_root-kept-requires
unfolding lies
kept_root-kept-requires c = c.requires.n_value_2
