-- `hashing::read` meets its contract: 32 bytes are laid over all of 32. Assumes nothing.
use Rattle.lists.proofs.Kit.{◌≡◌, ap, ◌∙◌, ℕ, ◌+◌, ◌-◌, arith}
use Rattle.area.specs.Area.{part}
use Rattle.tree.proofs.hashing.read.Goals as goal

pub returns : goal.returns
unfolding part
returns c =
    let all : (c.args.at + 32) - c.args.at ≡ 32 = omega arith in
    c.copy_from_slice.ensures.after ∙ ap (λ (k : ℕ). part c.args.bytes.now c.args.at k) all
