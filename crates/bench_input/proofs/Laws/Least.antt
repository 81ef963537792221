-- How much of an input is kept: its first nine ids, the front of its head, and so many bytes at most. Assumes nothing.
use Rattle.lists.proofs.Kit.{◌≡◌, sym, ap, ◌∙◌, List, ◌++◌, ℕ, ◌+◌, ◌*◌, ◌/◌, ◌≤◌, ◌<◌, min, mul-div_cancel, arith, length, take, drop}
use Rattle.lists.proofs.Kit.{length-append, length-take, take_all, take-take, leb, leb-true, leb-false}
use Rattle.lists.specs.Tab.{tab}
use Rattle.lists.proofs.Laws.Pick.{by}
use Rattle.lists.proofs.Laws.Tab.{length-tab, take-tab, tab-alike}
use Rattle.area.specs.Area.{part}
use Rattle.area.specs.Little.{le8}
use Rattle.area.proofs.Laws.Parts.{length_part, few-part, part-part}
use Rattle.area.proofs.Laws.Little.{length-bytes}
use Rattle.bench_program.specs.Single.{ids_in}
use Rattle.bench_program.specs.Input.{ids_end}
use Rattle.bench_input.specs.Kept.{ids_kept, head_kept, data_kept, kept}

-- ---- ids and head, cut

-- so many ids from 80 on
ids-tab : (all : List ℕ) (k : ℕ) → 80 + k * 32 ≤ length all → ids_in (part all 80 (k * 32)) ≡ tab 0 k (λ j. part all (80 + j * 32) 32)
unfolding ids_in
ids-tab all k h =
    let n : length (part all 80 (k * 32)) / 32 ≡ k = ap (λ (m : ℕ). m / 32) (length_part all 80 (k * 32) h) ∙ mul-div_cancel k {n = 32} (omega arith) in
    ap (λ (m : ℕ). tab 0 m (λ j. part (part all 80 (k * 32)) (j * 32) 32)) n
    ∙ tab-alike (λ j. part (part all 80 (k * 32)) (j * 32) 32) (λ j. part all (80 + j * 32) 32) 0 k (λ j g. part-part all 80 (k * 32) (j * 32) 32 (omega arith))

-- the first nine
pub ids-first : (all : List ℕ) (c : ℕ) → 80 + c * 32 ≤ length all → take 9 (ids_in (part all 80 (c * 32))) ≡ ids_in (part all 80 (min c 9 * 32))
ids-first all c h =
    by (leb c 9)
    (λ u.
    let few : c ≤ 9 = leb-true c 9 u in
    let m : c ≡ min c 9 = omega arith in
    take_all 9 _ (omega (arith, few, ap length (ids-tab all c h), length-tab 0 c (λ j. part all (80 + j * 32) 32)))
    ∙ ap (λ (k : ℕ). ids_in (part all 80 (k * 32))) m)
    (λ u.
    let many : 9 < c = leb-false c 9 u in
    let m : 9 ≡ min c 9 = omega arith in
    ap (take 9) (ids-tab all c h) ∙ take-tab (λ j. part all (80 + j * 32) 32) 9 0 c (omega arith)
    ∙ sym (ids-tab all 9 (omega arith)) ∙ ap (λ (k : ℕ). ids_in (part all 80 (k * 32))) m)

-- the front of a part
pub part-front : (all : List ℕ) (at m n : ℕ) → m ≤ n → take m (part all at n) ≡ part all at m
unfolding part
part-front all at m n h = take-take m n (drop at all) h

pub part-least : (all : List ℕ) (at n k : ℕ) → part all at (min n k) ≡ take k (part all at n)
part-least all at n k =
    by (leb n k)
    (λ u. let m : min n k ≡ n = omega (arith, leb-true n k u) in
    ap (part all at) m ∙ sym (take_all k (part all at n) (omega (arith, leb-true n k u, few-part all at n))))
    (λ u. let m : min n k ≡ k = omega (arith, leb-false n k u) in ap (part all at) m ∙ sym (part-front all at k n (omega (arith, leb-false n k u))))

-- ---- lengths

pub few-ids : (all : List ℕ) → ids_kept all ≤ 9
unfolding ids_kept
few-ids all = omega arith

pub few_bytes : (all : List ℕ) → head_kept all ≤ 2897
unfolding head_kept
few_bytes all = omega arith

few-data : (all : List ℕ) → length (data_kept all) ≤ 65537
unfolding data_kept
few-data all = simp length-take (omega arith)

pub length-six : (a b c d e f : List ℕ) → length (a ++ (b ++ (c ++ (d ++ (e ++ f))))) ≡ length a + (length b + (length c + (length d + (length e + length f))))
length-six a b c d e f = simp length-append

pub kept-short : (all : List ℕ) → length (kept all) ≤ 68810
unfolding kept part
kept-short all =
    below (length-six (take 72 all) (le8 (ids_kept all)) (part all 80 (ids_kept all * 32)) (le8 (head_kept all))
    (part all (ids_end all + 8) (head_kept all)) (data_kept all))
    (few-part all 0 72) (length-bytes 8 (ids_kept all)) (few-part all 80 (ids_kept all * 32)) (length-bytes 8 (head_kept all))
    (few-part all (ids_end all + 8) (head_kept all)) (few-data all) (few-ids all) (few_bytes all) where
      below : {l a b c d e f i m : ℕ} → l ≡ a + (b + (c + (d + (e + f)))) → a ≤ 72 → b ≡ 8 → c ≤ i * 32 → d ≡ 8 → e ≤ m → f ≤ 65537 → i ≤ 9 → m ≤ 2897
          → l ≤ 68810
      below p q r s t u v w x = omega arith
