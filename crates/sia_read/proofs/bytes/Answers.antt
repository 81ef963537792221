-- `sia_read::bytes` meets its contract: fewer than N bytes are left, or the first N are taken off. Assumes nothing.
use Rattle.lists.proofs.Kit.{refl, arith, lt-ltb, le-ltb}
use Rattle.lists.proofs.Laws.Pick.{yes, no}
use Rattle.sia.specs.Decode.{bytes, value}
use Rattle.sia_read.proofs.bytes.Goals as goal

pub returns-in_default : goal.returns-in_default
unfolding bytes
returns-in_default g c = yes _ _ _ (lt-ltb _ _ c.in_default.ensures.cases) refl

pub returns : goal.returns
unfolding bytes
returns g c =
    let cut = c.in-Some.ensures.cases in
    no _ _ _ (le-ltb _ _ (omega (arith, cut.2))) (λ i. value (cut.0 i) (cut.1 i))
