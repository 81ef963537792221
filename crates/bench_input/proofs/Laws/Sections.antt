-- The sections of what is kept of an input. Assumes nothing.
use Rattle.lists.proofs.Kit.{◌≡◌, sym, ap, ap₂, ◌∙◌, false, not, List, ◌++◌, ℕ, ◌+◌, ◌*◌, ◌≤◌, arith, length, take, drop, drop-drop, take_at, drop_at}
use Rattle.lists.proofs.Kit.{length-take-le, leb, ltb, eqb, ltb-false, le-ltb}
use Rattle.lists.specs.Pick.{either}
use Rattle.lists.specs.Tests.{every}
use Rattle.lists.proofs.Laws.Pick.{skips, either_left, either-right, either-join}
use Rattle.lists.proofs.Laws.Tab.{tab-alike}
use Rattle.area.specs.Area.{part}
use Rattle.area.specs.Little.{value_of, le8}
use Rattle.area.proofs.Laws.Parts.{length_part, part-part}
use Rattle.area.proofs.Laws.Little.{length-bytes, value-bytes}
use Rattle.bench_program.specs.Input.{number_at, prices_in, budget_in, ids_end, head_end, ids_bytes, head_bytes, data_bytes, prices_right, cut_short, wrong}
use Rattle.bench_input.specs.Kept.{ids_kept, head_kept, data_kept, kept}
use Rattle.bench_input.proofs.Laws.Least.{few-ids, few_bytes, length-six}

-- ---- a list of which a and b are left from a place on

module _ (l : List ℕ) (at : ℕ) (a b : List ℕ) (e : drop at l ≡ a ++ b) (n : ℕ) (long : length a ≡ n) where
  part-here : part l at n ≡ a
  unfolding part
  part-here = ap (take n) e ∙ take_at a b n long

  drop-on : drop (at + n) l ≡ b
  drop-on = sym (drop-drop n at l) ∙ ap (drop n) e ∙ drop_at a b n long

-- a number in the front part of an input
pub number-front : (all : List ℕ) (k at : ℕ) → at + 8 ≤ k → number_at (take k all) at ≡ number_at all at
unfolding number_at part
number-front all k at h = ap value_of (part-part all 0 k at 8 h ∙ ap (λ (j : ℕ). part all j 8) (let e : 0 + at ≡ at = omega arith in e))

-- ---- an input from which nothing is missing ahead of the data

module _ (all : List ℕ) (front : 80 ≤ length all) (whole : cut_short all ≡ false) where
  ids-end : ids_end all + 8 ≤ length all
  unfolding cut_short
  ids-end = ltb-false _ _ (either_left _ _ whole)

  pub head-end : ids_end all + 8 + number_at all (ids_end all) ≤ length all
  unfolding cut_short head_end
  head-end = ltb-false _ _ (either-right _ _ whole)

  pub ids-there : 80 + number_at all 72 * 32 ≤ length all
  unfolding ids_end
  ids-there = let h = ids-end in omega (arith, h)

  -- ---- the sections as they are kept, and their lengths

  long-front : length (take 72 all) ≡ 72
  long-front = length-take-le 72 all (omega arith)

  long-ids : length (part all 80 (ids_kept all * 32)) ≡ ids_kept all * 32
  unfolding ids_kept
  long-ids = length_part all 80 (ids_kept all * 32) (let h = ids-there in omega (arith, h))

  long-head : length (part all (ids_end all + 8) (head_kept all)) ≡ head_kept all
  unfolding head_kept
  long-head = length_part all (ids_end all + 8) (head_kept all) (let h = head-end in omega (arith, h))
      -- ---- found again in what is kept

  number_same : (at : ℕ) → at + 8 ≤ 72 → number_at (kept all) at ≡ number_at all at
  unfolding kept
  number_same at h = sym (number-front (kept all) 72 at h) ∙ ap (λ (l : List ℕ). number_at l at) (take_at (take 72 all) _ 72 long-front)
      ∙ number-front all 72 at h

  -- what is left from each section on
  from-count : drop 72 (kept all) ≡ le8 (ids_kept all) ++ (part all 80 (ids_kept all * 32)
      ++ (le8 (head_kept all) ++ (part all (ids_end all + 8) (head_kept all) ++ data_kept all)))
  unfolding kept
  from-count = drop_at (take 72 all) _ 72 long-front

  from-ids : drop 80 (kept all) ≡ part all 80 (ids_kept all * 32) ++ (le8 (head_kept all) ++ (part all (ids_end all + 8) (head_kept all) ++ data_kept all))
  from-ids = drop-on (kept all) 72 (le8 (ids_kept all)) _ from-count 8 (length-bytes 8 (ids_kept all))

  from-length : drop (80 + ids_kept all * 32) (kept all) ≡ le8 (head_kept all) ++ (part all (ids_end all + 8) (head_kept all) ++ data_kept all)
  from-length = drop-on (kept all) 80 (part all 80 (ids_kept all * 32)) _ from-ids (ids_kept all * 32) long-ids

  from-head : drop (80 + ids_kept all * 32 + 8) (kept all) ≡ part all (ids_end all + 8) (head_kept all) ++ data_kept all
  from-head = drop-on (kept all) (80 + ids_kept all * 32) (le8 (head_kept all)) _ from-length 8 (length-bytes 8 (head_kept all))

  count_kept : number_at (kept all) 72 ≡ ids_kept all
  unfolding number_at
  count_kept = ap value_of (part-here (kept all) 72 _ _ from-count 8 (length-bytes 8 (ids_kept all))) ∙ value-bytes 8 (ids_kept all) (omega (arith, few-ids all))

  ids-end-kept : ids_end (kept all) ≡ 80 + ids_kept all * 32
  unfolding ids_end
  ids-end-kept = ap (λ (n : ℕ). 80 + n * 32) count_kept

  pub ids-kept : ids_bytes (kept all) ≡ part all 80 (ids_kept all * 32)
  unfolding ids_bytes
  ids-kept = ap (λ (n : ℕ). part (kept all) 80 (n * 32)) count_kept ∙ part-here (kept all) 80 _ _ from-ids _ long-ids

  length-kept : number_at (kept all) (ids_end (kept all)) ≡ head_kept all
  unfolding number_at
  length-kept =
      ap (number_at (kept all)) ids-end-kept
      ∙ ap value_of (part-here (kept all) (80 + ids_kept all * 32) _ _ from-length 8 (length-bytes 8 (head_kept all)))
      ∙ value-bytes 8 (head_kept all) (omega (arith, few_bytes all))

  pub head-kept : head_bytes (kept all) ≡ part all (ids_end all + 8) (head_kept all)
  unfolding head_bytes
  head-kept = ap₂ (λ (k n : ℕ). part (kept all) (k + 8) n) ids-end-kept length-kept ∙ part-here (kept all) (80 + ids_kept all * 32 + 8) _ _ from-head _ long-head

  head-end-kept : head_end (kept all) ≡ 80 + ids_kept all * 32 + 8 + head_kept all
  unfolding head_end
  head-end-kept = ap₂ (λ (k n : ℕ). k + 8 + n) ids-end-kept length-kept

  pub data-kept : data_bytes (kept all) ≡ data_kept all
  unfolding data_bytes
  data-kept =
      ap (λ (k : ℕ). drop k (kept all)) head-end-kept
      ∙ drop-on (kept all) (80 + ids_kept all * 32 + 8) (part all (ids_end all + 8) (head_kept all)) _ from-head _ long-head

  -- ---- nothing is missing from it either, and its prices are the same

  long_kept : head_end (kept all) ≤ length (kept all)
  unfolding kept
  long_kept =
      let e = head-end-kept in
      let l₁ = long-front in
      let l₂ = long-ids in
      let l₃ = long-head in
      omega (
        arith,
        e,
        l₁,
        l₂,
        l₃,
        length-bytes 8 (ids_kept all),
        length-bytes 8 (head_kept all),
        length-six (take 72 all) (le8 (ids_kept all)) (part all 80 (ids_kept all * 32)) (le8 (head_kept all)) (part all (ids_end all + 8) (head_kept all))
            (data_kept all),
      )

  whole-kept : cut_short (kept all) ≡ false
  unfolding cut_short head_end
  whole-kept =
      let l = long_kept in
      either-join _ _ (le-ltb (length (kept all)) (ids_end (kept all) + 8) (omega (arith, l)))
      (le-ltb (length (kept all)) (ids_end (kept all) + 8 + number_at (kept all) (ids_end (kept all))) l)

  pub prices-kept : prices_in (kept all) ≡ prices_in all
  unfolding prices_in
  prices-kept = λ j. record {
    init = number_same 8 (omega arith) j;
    memory = number_same 16 (omega arith) j;
    readbase = number_same 24 (omega arith) j;
    readlength = number_same 32 (omega arith) j;
    writebase = number_same 40 (omega arith) j;
    writelength = number_same 48 (omega arith) j;
    truncatebase = number_same 56 (omega arith) j;
  }

  pub budget-kept : budget_in (kept all) ≡ budget_in all
  budget-kept = number_same 64 (omega arith)

  right_kept : prices_right (kept all) ≡ prices_right all
  unfolding prices_right
  right_kept = ap (every (λ n. leb n 65535)) (tab-alike (λ k. number_at (kept all) (8 + k * 8)) (λ k. number_at all (8 + k * 8)) 0 7
      (λ k h. number_same (8 + k * 8) (omega arith)))

  pub wrong-kept : wrong (kept all) ≡ wrong all
  unfolding wrong
  wrong-kept =
      let l = long_kept in
      let e = head-end-kept in
      let cut : cut_short (kept all) ≡ cut_short all = whole-kept ∙ sym whole in
      skips (ltb (length (kept all)) 80) _ _ (le-ltb (length (kept all)) 80 (omega (arith, l, e)))
      ∙ (λ j. either (not (eqb (number_same 0 (omega arith) j) 7)) (either (not (right_kept j)) (cut j)))
      ∙ sym (skips (ltb (length all) 80) _ _ (le-ltb (length all) 80 front))
