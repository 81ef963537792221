-- `blake2b::data::finish` meets its contract: without a key; with a key and no message; with both. Assumes nothing.
use Rattle.blake2b.proofs.Laws.Data.{of_words, unkeyed, keyed-alone, keyed-more}
use Rattle.blake2b.proofs.data.finish.Goals as goal

pub returns-then-message-eq0 : goal.returns-then-message-eq0
returns-then-message-eq0 c =
    let at_arg = c.before.before.before in
    let at_key = at_arg.before.before in
    let block = of_words _ _ _ _ c.before.words.ensures c.compress.ensures in
    keyed-alone _ _ _ at_key.before.if-key-eq0.false at_arg.before.if-message-eq0.true at_key.padded-k.ensures block

pub returns : goal.returns
returns c =
    let at_words = c.before.before.before in
    let at_arg = at_words.before.before in
    let at_key = at_arg.before.before in
    let block = of_words _ _ _ _ at_words.words-2.ensures c.before.before.compress-2.ensures in
    keyed-more _ _ _ at_key.before.if-key-eq0.false at_arg.before.if-message-eq0.false at_key.padded-k.ensures block c.absorb-2.ensures

pub returns-then-key-eq0 : goal.returns-then-key-eq0
returns-then-key-eq0 c = unkeyed _ _ _ c.before.before.if-key-eq0.true c.absorb.ensures
