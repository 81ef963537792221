-- `bench_input::Reader::feed` meets its contract. The invariant of its loop: what is still to be fed leads from here to where all bytes lead from the
-- start. Assumes nothing.
use Rattle.lists.proofs.Kit.{sym, ◌∙◌, rules}
use Rattle.bench_input.proofs.Laws.Laying.{further, all-fed}
use Rattle.bench_input.proofs.Reader.feed.Goals as goal

pub loop-byte-preserved : goal.loop-byte-preserved
loop-byte-preserved c =
    (c.loop-byte.invariant.0 ∙ further _ _ _ c.loop-byte-test.true c.feed_byte-reader.ensures, search rules)

pub returns : goal.returns
returns c = all-fed _ _ _ c.loop-byte-test.false ∙ sym c.loop-byte.invariant.0
