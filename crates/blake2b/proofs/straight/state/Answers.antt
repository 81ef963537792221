-- `blake2b::straight::state` meets its contract: the parts of F, put together, and the message is one block. Assumes nothing.
use Rattle.lists.proofs.Kit.{ap, ◌∙◌, arith}
use Rattle.blake2b.specs.Blake2b.{finished}
use Rattle.blake2b.proofs.Laws.Steps.{whole}
use Rattle.blake2b.proofs.Laws.Data.{of_words, one_block}
use Rattle.blake2b.proofs.straight.state.Goals as goal

pub returns : goal.returns
returns c =
    let parts = whole _ _ _ _ c.local-v.ensures c.rounds.ensures c.folded.ensures in
    let block = of_words _ _ _ _ c.block.ensures parts in
    one_block _ _ _ (omega arith) (omega arith) block ∙ ap (finished c.args.message.now) c.start-h.ensures
