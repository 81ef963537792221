-- What a head within limits is: its count, its declared length, and its instructions' counts. Assumes nothing.
use Rattle.lists.proofs.Kit.{◌≡◌, true, ◌≤◌, leb-true, le-leb}
use Rattle.lists.specs.Tests.{every}
use Rattle.lists.proofs.Laws.Pick.{both-join, both_left, both_right}
use Rattle.sia.specs.declared.Head.{Head}
use Rattle.sia.specs.Encode.{few_operands, instructions_in, within}

pub record Within (h : Head) : Type 0 where
  pub count : h.count ≤ 32
  pub declared : h.length ≤ 65536
  pub few : every few_operands (instructions_in h) ≡ true

pub within-is : (h : Head) → within h ≡ true → Within h
unfolding within
within-is h e = record {
  count = leb-true _ _ (both_left _ _ e);
  declared = leb-true _ _ (both_left _ _ (both_right _ _ e));
  few = both_right _ _ (both_right _ _ e);
}

pub is_within : (h : Head) → Within h → within h ≡ true
unfolding within
is_within h w = both-join _ _ (le-leb _ _ w.count) (both-join _ _ (le-leb _ _ w.declared) w.few)
