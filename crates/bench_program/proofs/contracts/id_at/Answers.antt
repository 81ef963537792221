-- `bench_program::contracts::id_at` meets its contract: 32 bytes over 32 zeros. Assumes nothing.
use Rattle.lists.proofs.Kit.{refl}
use Rattle.area.proofs.Laws.Puts.{put-part}
use Rattle.bench_program.proofs.contracts.id_at.Goals as goal

pub returns : goal.returns
returns c =
    put-part _ _ _ 32 refl c.requires c.copy_between.ensures
