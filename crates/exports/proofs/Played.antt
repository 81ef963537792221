-- One program's answer and areas as they are exported. Assumes nothing.
use Rattle.lists.proofs.Kit.{◌≡◌, refl, sym, ap, ◌∙◌, not, List, ℕ, length, eq-eqb, ne_eqb}
use Rattle.lists.proofs.Laws.Pick.{yes, no}
use Rattle.area.specs.Area.{put}
use Rattle.area.specs.Little.{le8}
use Rattle.area.proofs.Laws.Little.{length-bytes}
use Rattle.area.proofs.Laws.Puts.{put_all}
use Rattle.host.specs.Refusals.{number_in}
use Rattle.host.specs.declared.Prices.{Prices}
use Rattle.bench_program.specs.Single.{leaves, run}
use Rattle.bench_program.specs.declared.Outcome.{Outcome}
use Rattle.exports.specs.Programs.{shown, told, played}

module _ (z : ℕ) (prices : Prices) (budget : ℕ) (ids head bytes disk stage input output count : List ℕ) where
  -- an area of another length
  pub not_eight : (length count ≡ 8 → ⊥)
      → shown 2 disk stage input output count ≡ played z prices budget ids head bytes disk stage input output count
  unfolding played
  not_eight n = yes _ _ _ (ap not (ne_eqb _ 8 n)) refl

  -- what the program came to, and the count of its records' bytes over the whole area
  pub counted : (o : Outcome) {d s i u after : List ℕ} → length count ≡ 8
      → leaves o d s i u ≡ run z prices budget ids head bytes disk stage input output → after ≡ put count 0 (le8 o.written)
      → shown (number_in o.refused) d s i u after ≡ played z prices budget ids head bytes disk stage input output count
  unfolding played
  counted o {d} {s} {i} {u} n e q =
      no _ _ _ (ap not (eq-eqb _ 8 n))
      (ap (shown (number_in o.refused) d s i u) (q ∙ put_all count (le8 o.written) (length-bytes 8 o.written ∙ sym n)) ∙ ap told e)
