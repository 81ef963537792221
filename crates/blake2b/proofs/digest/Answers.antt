-- `blake2b::digest` meets its contract: the lengths are tested, then the digest is made on the straight path or by blocks. Assumes nothing.
use Rattle.lists.proofs.Kit.{sym, ◌∙◌, arith, length}
use Rattle.blake2b.proofs.Laws.Data.{by_blocks}
use Rattle.blake2b.proofs.Laws.Straight.{tells, straight-is}
use Rattle.blake2b.proofs.Answered.{refuses, digests, allowed-yes, too_short, too_long, key-too-long}
use Rattle.blake2b.proofs.digest.Goals as goal
use Rattle.blake2b.proofs.digest.Goals.{then-nn-lt1-via-then-nn-lt1, then-nn-lt1-via-else-nn-lt1+then-nn-gt64}
use Rattle.blake2b.proofs.digest.Goals.{then-nn-lt1-via-else-nn-lt1+else-nn-gt64+then-kk-gt64}

pub returns-then-nn-lt1 : goal.returns-then-nn-lt1
returns-then-nn-lt1 c =
    refuses _ _ _ (elim c.then-nn-lt1.branch [
      | then-nn-lt1-via-then-nn-lt1 w ↦ too_short _ _ (omega arith)
      | then-nn-lt1-via-else-nn-lt1+then-nn-gt64 w ↦ too_long _ _ (omega arith)
      | then-nn-lt1-via-else-nn-lt1+else-nn-gt64+then-kk-gt64 w ↦ key-too-long _ _ (omega arith)
    ])

pub digest-requires : goal.digest-requires
digest-requires c =
    let s = tells _ (length c.args.key.now) _ (sym c.applies.ensures ∙ c.if-applies.true) in
    record { message_len = s.message; out_len = s.digest }

pub returns-then-applies : goal.returns-then-applies
returns-then-applies c =
    let s = tells _ _ _ (sym c.applies.ensures ∙ c.if-applies.true) in
    digests _ _ _ (allowed-yes _ _ (omega arith) (omega arith) (omega arith)) (straight-is _ _ _ s c.digest.ensures)

pub returns : goal.returns
returns c =
    digests _ _ _ (allowed-yes _ _ (omega arith) (omega arith) (omega arith))
    (by_blocks _ _ _ c.start-h.ensures c.finish.ensures c.write.ensures)
