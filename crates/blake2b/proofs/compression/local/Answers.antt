-- `blake2b::compression::local` meets its contract: the counter goes into word 12, the final flag into word 14. Assumes nothing.
use Rattle.lists.proofs.Kit.{ap, List, ℕ}
use Rattle.lists.proofs.Laws.Pick.{yes, no}
use Rattle.blake2b.specs.Compression.{local, xor_at}
use Rattle.blake2b.proofs.Laws.Steps.{vector}
use Rattle.blake2b.proofs.compression.local.Goals as goal

pub returns-then-last : goal.returns-then-last
unfolding local xor_at
returns-then-last c =
    let a = c.args in
    yes _ _ _ c.if-last.true (ap (λ (v : List ℕ). xor_at v 14 0xFFFF_FFFF_FFFF_FFFF) (vector a.h.now _ c.told-h c.ranges.t.fits))

pub returns-else-last : goal.returns-else-last
unfolding local xor_at
returns-else-last c = no _ _ _ c.if-last.false (vector c.args.h.now _ c.told-h c.ranges.t.fits)
