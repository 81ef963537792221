-- The reader keeps what is to be kept of an input: section by section, as far as the input reaches. Assumes nothing.
use Rattle.lists.proofs.Kit.{◌≡◌, refl, sym, ap, ◌∙◌, true, false, List, [], ◌++◌, append_assoc, ℕ, ◌+◌, ◌-◌, ◌*◌, ◌≤◌, ◌<◌, min, arith, length, take}
use Rattle.lists.proofs.Kit.{drop, length-drop, take_all, take-take, take-add, length-take-le, ltb, lt-ltb, le-ltb, ltb-true, ltb-false}
use Rattle.lists.proofs.Laws.Pick.{by, picks, skips, either-join, or_right}
use Rattle.area.specs.Area.{part}
use Rattle.area.specs.Little.{le8, Bytes}
use Rattle.area.proofs.Laws.Parts.{length_part}
use Rattle.area.proofs.Laws.Little.{take_below, drop-below}
use Rattle.bench_program.specs.Input.{number_at, ids_end, head_end, data_bytes, cut_short}
use Rattle.bench_input.specs.Reader.{State, state, reader, fresh, ids_from, data_from, head_from, fed, held, holds}
use Rattle.bench_input.specs.Kept.{ids_kept, head_kept, data_kept, kept, missing, keep}
use Rattle.bench_input.specs.declared.Section.TheVariants.{Front, Length}
use Rattle.bench_input.proofs.Laws.Least.{part-front, few-ids, few_bytes}
use Rattle.bench_input.proofs.Laws.Standing.{Stands, stands-as, stands_at, laid-stands, section-fed, behind-front, behind-length}
use Rattle.bench_input.proofs.Laws.Passing.{fed-cut, fed-part, short, ids-fed, ids_short, head-fed, head-short, data-held}

regroup : (a b c d e f : List ℕ) → a ++ b ++ c ++ d ++ e ++ f ≡ a ++ (b ++ (c ++ (d ++ (e ++ f))))
regroup a b c d e f = simp append_assoc

part_bytes : (all : List ℕ) (at n : ℕ) → Bytes all → Bytes (part all at n)
unfolding part
part_bytes all at n b = take_below n (drop at all) (drop-below at all b)

front-part : (all : List ℕ) → take 80 all ≡ take 72 all ++ part all 72 8
unfolding part
front-part all = take-add 72 8 all

-- the states between its sections
abbrev at_ids : State → List ℕ → State
at_ids s all = fed s (take 80 all)

abbrev at_length : State → List ℕ → State
at_length s all = fed (at_ids s all) (part all 80 (number_at all 72 * 32))

abbrev at_head : State → List ℕ → State
at_head s all = fed (at_length s all) (part all (ids_end all) 8)

module _ (all : List ℕ) (bytes : Bytes all) where
  after_front : {s : State} → Stands s fresh 0 [] → 80 ≤ length all
      → Stands (fed s (take 80 all)) (ids_from (number_at all 72) (ids_kept all * 32) 80) 80 (take 72 all ++ le8 (ids_kept all))
  unfolding fresh ids_kept number_at
  after_front h front =
      let long : length (take 80 all) ≡ 80 = length-take-le 80 all front in
      stands-as (section-fed h (omega arith) (take 80 all) (omega arith) long)
      (behind-front (take 72 all) (part all 72 8) (length_part all 72 8 (omega arith)) (part_bytes all 72 8 bytes) (omega arith)
      (stands_at (λ n. reader Front 0 (80 - length (take 80 all)) (80 - length (take 80 all)) n) (omega arith)
      (take-take 80 80 all (omega arith) ∙ front-part all) (laid-stands h (omega arith) (take 80 all))))

  after-ids : {s : State} {k : List ℕ} → Stands s (ids_from (number_at all 72) (ids_kept all * 32) 80) 80 k → ids_end all ≤ length all
      → Stands (fed s (part all 80 (number_at all 72 * 32))) (reader Length 0 8 8 (80 + ids_kept all * 32)) (80 + ids_kept all * 32)
      (k ++ part all 80 (ids_kept all * 32))
  unfolding ids_end ids_kept
  after-ids {k = k} h there =
      let long = length_part all 80 (number_at all 72 * 32) there in
      stands_at (reader Length 0 8 8) (omega arith)
      (ap (λ (l : List ℕ). k ++ l) (part-front all 80 (ids_kept all * 32) (number_at all 72 * 32) (omega arith)))
      (ids-fed (number_at all 72) (ids_kept all * 32) h (omega arith) (part all 80 (number_at all 72 * 32)) long)

  after-length : {a : ℕ} {s : State} {k : List ℕ} → Stands s (reader Length 0 8 8 a) a k → a + 8 ≤ 68810 → ids_end all + 8 ≤ length all
      → Stands (fed s (part all (ids_end all) 8)) (head_from (number_at all (ids_end all)) (a + 8)) (a + 8) (k ++ le8 (head_kept all))
  unfolding head_kept number_at
  after-length {a} {k = k} h fits there =
      let number : List ℕ = part all (ids_end all) 8 in
      let long : length number ≡ 8 = length_part all (ids_end all) 8 there in
      stands-as (section-fed h fits number (omega arith) long)
      (behind-length k number long (part_bytes all (ids_end all) 8 bytes) fits
      (stands_at (λ n. reader Length 0 (8 - length number) (8 - length number) n) (omega arith)
      (ap (λ (l : List ℕ). k ++ l) (take_all 8 number (omega arith))) (laid-stands h fits number)))

  after-head : {a : ℕ} {s : State} {k : List ℕ} → Stands s (head_from (number_at all (ids_end all)) a) a k → a + 2897 ≤ 68810 → head_end all ≤ length all
      → Stands (fed s (part all (ids_end all + 8) (number_at all (ids_end all)))) (data_from (a + head_kept all)) (a + head_kept all)
      (k ++ part all (ids_end all + 8) (head_kept all))
  unfolding head_end head_kept
  after-head {a} {k = k} h fits there =
      let n : ℕ = number_at all (ids_end all) in
      stands_at data_from refl
      (ap (λ (l : List ℕ). k ++ l) (part-front all (ids_end all + 8) (min n 2897) n (omega arith)))
      (head-fed n h fits (part all (ids_end all + 8) n) (length_part all (ids_end all + 8) n there))

  module _ (s : State) (h : Stands s fresh 0 []) where
    -- where bytes are missing
    nothing : held (fed s all).reader ≡ 0 → missing all ≡ true → holds (fed s all) ≡ keep all
    unfolding holds keep
    nothing e f = ap (λ (n : ℕ). take n (fed s all).area) e ∙ sym (picks _ _ _ f)

    cut-front : length all < 80 → holds (fed s all) ≡ keep all
    unfolding fresh missing
    cut-front g = nothing (short h refl all g) (picks _ _ _ (lt-ltb (length all) 80 g))

    module _ (front : 80 ≤ length all) where
      cut-ahead : length all < head_end all → missing all ≡ true
      unfolding missing cut_short
      cut-ahead g =
          or_right _ _
          (by (ltb (length all) (ids_end all + 8)) (λ u. picks _ _ _ u) (λ u. skips _ _ _ u ∙ lt-ltb (length all) (head_end all) g))

      cut-ids : length all < ids_end all → holds (fed s all) ≡ keep all
      unfolding ids_end head_end ids_kept
      cut-ids g =
          nothing
          (ap (λ (t : State). held t.reader) (fed-cut s 80 all)
          ∙ ids_short (number_at all 72) (ids_kept all * 32) (after_front h front) (omega arith) (drop 80 all) (omega (arith, length-drop 80 all)))
          (cut-ahead (omega arith))

      module _ (ids : ids_end all ≤ length all) where
        at_length_lem : Stands (at_length s all) (reader Length 0 8 8 (80 + ids_kept all * 32)) (80 + ids_kept all * 32)
            (take 72 all ++ le8 (ids_kept all) ++ part all 80 (ids_kept all * 32))
        at_length_lem = after-ids (after_front h front) ids

        fed-ids : fed s all ≡ fed (at_length s all) (drop (ids_end all) all)
        unfolding ids_end
        fed-ids = fed-cut s 80 all ∙ fed-part (at_ids s all) all 80 (number_at all 72 * 32)

        cut-length : length all < ids_end all + 8 → holds (fed s all) ≡ keep all
        unfolding head_end
        cut-length g =
            nothing
            (ap (λ (t : State). held t.reader) fed-ids ∙ short at_length_lem refl (drop (ids_end all) all) (omega (arith, length-drop (ids_end all) all)))
            (cut-ahead (omega arith))

        module _ (number : ids_end all + 8 ≤ length all) where
          at_head_lem : Stands (at_head s all) (head_from (number_at all (ids_end all)) (80 + ids_kept all * 32 + 8)) (80 + ids_kept all * 32 + 8)
              (take 72 all ++ le8 (ids_kept all) ++ part all 80 (ids_kept all * 32) ++ le8 (head_kept all))
          at_head_lem = let few = few-ids all in after-length at_length_lem (omega arith) number

          fed-length : fed s all ≡ fed (at_head s all) (drop (ids_end all + 8) all)
          fed-length = fed-ids ∙ fed-part (at_length s all) all (ids_end all) 8

          cut-head : length all < head_end all → holds (fed s all) ≡ keep all
          unfolding head_end
          cut-head g =
              nothing
              (ap (λ (t : State). held t.reader) fed-length
              ∙ head-short (number_at all (ids_end all)) at_head_lem (drop (ids_end all + 8) all) (omega (arith, length-drop (ids_end all + 8) all)))
              (cut-ahead g)

          all_there : head_end all ≤ length all → missing all ≡ false
          unfolding missing cut_short
          all_there g =
              either-join _ _ (le-ltb (length all) 80 front)
              (either-join _ _ (le-ltb (length all) (ids_end all + 8) number) (le-ltb (length all) (head_end all) g))

          all-kept : head_end all ≤ length all → holds (fed s all) ≡ keep all
          unfolding keep kept data_kept data_bytes head_end
          all-kept g =
              let few = few-ids all in
              let bytes-few = few_bytes all in
              let n : ℕ = number_at all (ids_end all) in
              ap holds (fed-length ∙ fed-part (at_head s all) all (ids_end all + 8) n)
              ∙ data-held (after-head at_head_lem (omega arith) g) (omega arith) (drop (ids_end all + 8 + n) all)
              ∙ regroup (take 72 all) (le8 (ids_kept all)) (part all 80 (ids_kept all * 32)) (le8 (head_kept all)) _ _
              ∙ sym (skips _ _ _ (all_there g))

-- what is held of any input is what is to be kept of it
pub holds-keep : (area all : List ℕ) → length area ≡ 68810 → Bytes all → holds (fed (state fresh area) all) ≡ keep all
holds-keep area all long b =
    let h : Stands (state fresh area) fresh 0 [] = record { same = refl; front = refl; long = long } in
    by (ltb (length all) 80)
    (λ u. cut-front all b (state fresh area) h (ltb-true _ 80 u))
    (λ u.
    let front = ltb-false (length all) 80 u in
    by (ltb (length all) (ids_end all))
    (λ v. cut-ids all b (state fresh area) h front (ltb-true _ _ v))
    (λ v.
    let ids = ltb-false (length all) (ids_end all) v in
    by (ltb (length all) (ids_end all + 8))
    (λ w. cut-length all b (state fresh area) h front ids (ltb-true _ _ w))
    (λ w.
    let number = ltb-false (length all) (ids_end all + 8) w in
    by (ltb (length all) (head_end all))
    (λ x. cut-head all b (state fresh area) h front ids number (ltb-true _ _ x))
    (λ x. all-kept all b (state fresh area) h front ids number (ltb-false _ _ x)))))
