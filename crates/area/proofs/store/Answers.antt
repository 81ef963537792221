-- A turn lays one byte more; all laid, what was lent is left as the bytes. Assumes nothing.
use Rattle.lists.proofs.Kit.{sym, ap, ℕ, ◌%◌, arith, sub-zero, set, ◌∙◌, zero-add}
use Rattle.area.specs.Little.{bytes_of}
use Rattle.area.proofs.Laws.Little.{length-bytes, bytes_left}
use Rattle.area.proofs.Laws.Puts.{put-nil, put_all}
use Rattle.area.proofs.Laws.Lent.{lent_part, length_lent}
use Rattle.area.proofs.Laws.Loops.{one_more, all_laid}
use Rattle.area.proofs.store.Goals as goal

pub loop-byte-init : goal.loop-byte-init
loop-byte-init c = record {
  laid = sym (put-nil _ _);
  left = ap (λ (j : ℕ). bytes_of j c.args.n) (sym (sub-zero c.args.k));
}

pub loop-byte-preserved : goal.loop-byte-preserved
loop-byte-preserved c =
    let l = c.loop-byte in
    let long = length_lent c.args.a.now c.args.at c.args.k c.requires in
    let next = bytes_left c.args.k l.byte-index _ _ (omega (arith, long)) l.invariant.left in record {
      laid =
          ap (λ (j : ℕ). set l.byte-items j (l.rest % 256)) (sym (zero-add l.byte-index))
          ∙ one_more _ 0 _ _ (length-bytes _ _) (omega (arith, long)) next.0 l.invariant.laid;
      left = next.1;
    }

pub returns : goal.returns
returns c =
    let l = c.loop-byte in
    let long = length_lent c.args.a.now c.args.at c.args.k c.requires in
    let all = length-bytes c.args.k c.args.n in
    lent_part _ _ _ c.requires all (all_laid _ _ _ _ all (omega (arith, long)) l.invariant.laid ∙ put_all _ _ (all ∙ sym long))
