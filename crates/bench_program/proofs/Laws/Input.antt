-- The whole input in its bytes: what is known of one that is not refused with 9. Assumes nothing.
use Rattle.lists.proofs.Kit.{◌≡◌, refl, sym, ap, ◌∙◌, true, false, List, ℕ, ◌+◌, ◌-◌, ◌*◌, ◌/◌, ◌≤◌, ◌<◌, div-add-mod', mod-lt, arith, length, take, drop}
use Rattle.lists.proofs.Kit.{leb, ltb, leb-true, ltb-false, not-false, lt-ltb, le-ltb}
use Rattle.lists.proofs.Laws.Pick.{yes, no, either_left, either-right}
use Rattle.lists.proofs.Laws.Tab.{tab-at}
use Rattle.lists.proofs.Laws.Sums.{rest-less}
use Rattle.area.proofs.Laws.Parts.{part-is}
use Rattle.area.proofs.Laws.Lent.{rest-take}
use Rattle.std.specs.Prelude.{Result, Ok, Err}
use Rattle.std.specs.Result.{result_unwrap_or}
use Rattle.host.specs.Empty.{bare}
use Rattle.host.specs.Calls.{Made, made_of, freshed}
use Rattle.bench_program.specs.Single.{Ran, ran, leaves, run}
use Rattle.bench_program.specs.Input.{number_at, prices_in, budget_in, ids_end, head_end, ids_bytes, head_bytes, data_bytes, prices_right, cut_short}
use Rattle.bench_program.specs.Input.{wrong, answered}
use Rattle.bench_program.proofs.Laws.Plays.{without}
use Rattle.host.specs.declared.Prices.{Prices}
use Rattle.host.specs.declared.refusal.Refusal.{Refusal}
use Rattle.host.specs.declared.refusal.Refusal.TheVariants.{Malformed}
use Rattle.host.specs.declared.Host.{Host}
use Rattle.bench_program.specs.declared.Outcome.{Outcome}

-- ---- an input that is not refused with 9

pub record Right (all : List ℕ) : Type 0 where
  pub front : 80 ≤ length all
  pub prices : prices_right all ≡ true
  pub ids : ids_end all + 8 ≤ length all
  pub head : head_end all ≤ length all

pub right : (all : List ℕ) → wrong all ≡ false → Right all
unfolding wrong cut_short
right all e =
    let third = either-right _ _ (either-right _ _ e) in
    let last = either-right _ _ third in
    record {
      front = ltb-false _ _ (either_left _ _ e);
      prices = not-false _ (either_left _ _ third);
      ids = ltb-false _ _ (either_left _ _ last);
      head = ltb-false _ _ (either-right _ _ last);
    }

-- where ids and head of such an input end
pub record Within (all : List ℕ) (ids head : ℕ) : Type 0 where
  pub past : 80 ≤ ids
  pub sized : ids + 8 ≤ head
  pub ends : head ≤ length all

pub within : (all : List ℕ) {ids head : ℕ} → wrong all ≡ false → ids ≡ ids_end all → head ≡ head_end all → Within all ids head
unfolding head_end ids_end
within all e g h = record { past = omega (arith, g); sized = omega (arith, g, h); ends = omega (arith, h, (right all e).head) }

pub price-within : (all : List ℕ) (i : ℕ) → prices_right all ≡ true → i < 7 → number_at all (8 + i * 8) ≤ 65535
unfolding prices_right
price-within all i e h =
    let q : 0 + i ≡ i = omega arith in
    leb-true _ 65535 (ap (λ (k : ℕ). leb (number_at all (8 + k * 8)) 65535) (sym q) ∙ tab-at (λ n. leb n 65535) (λ k. number_at all (8 + k * 8)) 0 7 i h e)

-- ---- ids, head length or head are missing

-- fewer whole ids than counted
pub ids_short : (all : List ℕ) {count : ℕ} → 80 ≤ length all → count ≡ number_at all 72 → (length all - 80) / 32 < count → true ≡ cut_short all
unfolding cut_short ids_end
ids_short all {count} h e w =
    yes _ _ _ (lt-ltb (length all) (80 + number_at all 72 * 32 + 8)
    (omega (arith, div-add-mod' (length all - 80) 32, mod-lt (length all - 80) {m = 32} (omega arith)))) refl

-- so many ids, and behind them no number
pub number_short : (all : List ℕ) {count : ℕ} → 80 ≤ length all → count ≡ number_at all 72 → length all - 80 - count * 32 < 8 → true ≡ cut_short all
unfolding cut_short ids_end
number_short all {count} h e w = yes _ _ _ (lt-ltb (length all) (80 + number_at all 72 * 32 + 8) (omega arith)) refl

-- a number, and what is behind it against the head's length
pub head-short : (all : List ℕ) {count n : ℕ} → 80 ≤ length all → count ≡ number_at all 72 → 8 ≤ length all - 80 - count * 32 → n
    ≡ number_at all (length all - (length all - 80 - count * 32))
    → ltb (length all - 80 - count * 32 - 8) n ≡ cut_short all
unfolding cut_short head_end ids_end
head-short all {count} {n} h e g w =
    let at : length all - (length all - 80 - count * 32) ≡ 80 + number_at all 72 * 32 = omega arith in
    let rest : length all - 80 - count * 32 - 8 ≡ length all - (80 + number_at all 72 * 32 + 8) = omega arith in
    no _ _ _ (le-ltb (length all) (80 + number_at all 72 * 32 + 8) (omega arith))
    (ap (λ (k : ℕ). ltb k n) rest
    ∙ ap (ltb _) (w ∙ ap (number_at all) at)
    ∙ rest-less (length all) (80 + number_at all 72 * 32 + 8) _ (omega arith))

-- ---- the sections as parts of a slice

module _ (all : List ℕ) where
  pub ids-is : {e : ℕ} → e ≡ ids_end all → take (e - 80) (drop 80 all) ≡ ids_bytes all
  unfolding ids_bytes ids_end
  ids-is {e} h = part-is all 80 (number_at all 72 * 32) e h

  pub head-is : {at e : ℕ} → at ≡ ids_end all → e ≡ head_end all → take (e - (at + 8)) (drop (at + 8) all) ≡ head_bytes all
  unfolding head_bytes head_end
  head-is {at} {e} g h = ap (λ (k : ℕ). take (e - (k + 8)) (drop (k + 8) all)) g ∙ part-is all (ids_end all + 8) (number_at all (ids_end all)) e h

  pub data_is : {e : ℕ} → e ≡ head_end all → take (length all - e) (drop e all) ≡ data_bytes all
  unfolding data_bytes
  data_is {e} h = rest-take all e ∙ ap (λ (k : ℕ). drop k all) h

-- ---- 9, or what the input asks for

module _ (z : ℕ) (all disk stage input output : List ℕ) where
  -- the host that a fresh one is, or that it leaves where it is refused
  fresh-host : (r : Result Host Refusal) {d : Host} → d ≡ bare 0 0 0 → result_unwrap_or r d ≡ (made_of (bare 0 0 0) r).host
  fresh-host (Ok h) e = refl
  fresh-host (Err why) e = e

  pub answered-nine : (r : Result Host Refusal) {d h : Host} {o : Outcome} → wrong all ≡ true
      → made_of (bare 0 0 0) r ≡ freshed z (length disk) (length stage) → d ≡ bare 0 0 0 → h ≡ result_unwrap_or r d → o ≡ without Malformed h
      → leaves o disk stage input output ≡ answered z all disk stage input output
  unfolding answered
  answered-nine r w e i u q =
      yes _ _ _ w
      (ap (λ (x : Outcome). leaves x disk stage input output) (q ∙ ap (without Malformed) (u ∙ fresh-host r i))
      ∙ ap (λ (x : Made). ran 9 0 x.host disk stage input output) e)

  pub answered-run : {prices : Prices} {budget : ℕ} {ids head bytes : List ℕ} {x : Ran} → wrong all ≡ false → prices ≡ prices_in all → budget ≡ budget_in all
      → ids ≡ ids_bytes all → head ≡ head_bytes all → bytes ≡ data_bytes all → x ≡ run z prices budget ids head bytes disk stage input output
      → x ≡ answered z all disk stage input output
  unfolding answered
  answered-run w p b d h t q = no _ _ _ w (q ∙ (λ i. run z (p i) (b i) (d i) (h i) (t i) disk stage input output))
