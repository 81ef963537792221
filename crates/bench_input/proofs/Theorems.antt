-- What is kept of an input is enough: nine ids, of which the last is refused; a head that is read alike; data of which only that it passes
-- the declared length matters. The reader keeps just that, however the input is cut into reads. Assumes nothing.
use Rattle.lists.proofs.Kit.{◌≡◌, sym, ap, ap₂, ◌∙◌, Bool, true, false, List, [], ◌++◌, ℕ, ◌+◌, ◌≤◌, arith, length}
use Rattle.lists.specs.Pick.{pick}
use Rattle.lists.proofs.Laws.Pick.{by, picks, skips}
use Rattle.lists.proofs.Laws.Ways.{either_way}
use Rattle.area.specs.Little.{Bytes}
use Rattle.host.specs.Calls.{freshed}
use Rattle.sia.specs.Decode.{decode}
use Rattle.bench_program.specs.Single.{Ran, ran, ids_in, formed_in_turn, run}
use Rattle.bench_program.specs.Input.{number_at, prices_in, budget_in, ids_end, ids_bytes, head_bytes, data_bytes, cut_short, answered}
use Rattle.bench_input.specs.Reader.{State, state, fresh, fed, read_all, whole, full, holds}
use Rattle.bench_input.specs.Kept.{ids_kept, head_kept, data_kept, kept, missing, keep, Kept}
use Rattle.bench_input.proofs.Laws.Forms.{first-ids, fresh-free}
use Rattle.bench_input.proofs.Laws.Heads.{first-bytes}
use Rattle.bench_input.proofs.Laws.Pieces.{run-alike}
use Rattle.bench_input.proofs.Laws.Least.{ids-first, part-least, kept-short}
use Rattle.bench_input.proofs.Laws.Sections.{ids-there, ids-kept, head-kept, data-kept, prices-kept, budget-kept, wrong-kept}
use Rattle.bench_input.proofs.Laws.Missing.{missing-wrong, whole-front, whole-ahead, none-wrong}
use Rattle.bench_input.proofs.Laws.Feeding.{fed-append, fed-whole, full-fed}
use Rattle.bench_input.proofs.Laws.Reading.{holds-keep}
use Rattle.host.specs.declared.Host.{Host}

module _ (all : List ℕ) (front : 80 ≤ length all) (whole : cut_short all ≡ false) where
  -- the contracts formed
  same-ids : (z d s : ℕ) → formed_in_turn (freshed z d s).host (ids_in (ids_bytes (kept all))) ≡ formed_in_turn (freshed z d s).host (ids_in (ids_bytes all))
  unfolding ids_bytes ids_kept
  same-ids z d s =
      let h : Host = (freshed z d s).host in
      ap (λ (l : List ℕ). formed_in_turn h (ids_in l)) (ids-kept all front whole)
      ∙ ap (formed_in_turn h) (sym (ids-first all (number_at all 72) (ids-there all front whole)))
      ∙ sym (first-ids 8 h (ids_in (ids_bytes all)) (fresh-free z d s))

  -- the head read
  same_head : decode (head_bytes (kept all)) ≡ decode (head_bytes all)
  unfolding head_bytes head_kept
  same_head = ap decode (head-kept all front whole ∙ part-least all (ids_end all + 8) (number_at all (ids_end all)) 2897) ∙ first-bytes (head_bytes all)

  same-run : (z : ℕ) (disk stage input output : List ℕ)
      → run z (prices_in (kept all)) (budget_in (kept all)) (ids_bytes (kept all)) (head_bytes (kept all)) (data_bytes (kept all)) disk stage input output
      ≡ run z (prices_in all) (budget_in all) (ids_bytes all) (head_bytes all) (data_bytes all) disk stage input output
  unfolding data_kept
  same-run z disk stage input output =
      let prices = prices-kept all front whole in
      let budget = budget-kept all front whole in
      let given = data-kept all front whole in
      (λ j. run z (prices j) (budget j) (ids_bytes (kept all)) (head_bytes (kept all)) (given j) disk stage input output)
      ∙ run-alike z (prices_in all) (budget_in all) (ids_bytes (kept all)) (ids_bytes all) (head_bytes (kept all)) (head_bytes all)
      (data_bytes all) disk stage input output
      (same-ids z (length disk) (length stage)) same_head

  same_answer : (z : ℕ) (disk stage input output : List ℕ) → answered z (kept all) disk stage input output ≡ answered z all disk stage input output
  unfolding answered
  same_answer z disk stage input output =
      ap₂ (λ (b : Bool) (x : Ran). pick b (ran 9 0 (freshed z (length disk) (length stage)).host disk stage input output) x)
      (wrong-kept all front whole) (same-run z disk stage input output)

-- where bytes are missing, both are refused
same-refusal : (all : List ℕ) → missing all ≡ true → (z : ℕ) (disk stage input output : List ℕ)
    → answered z [] disk stage input output ≡ answered z all disk stage input output
unfolding answered
same-refusal all e z disk stage input output = picks _ _ _ none-wrong ∙ sym (picks _ _ _ (missing-wrong all e))

enough : (z : ℕ) (all disk stage input output : List ℕ) → answered z (keep all) disk stage input output ≡ answered z all disk stage input output
unfolding keep
enough z all disk stage input output =
    by (missing all)
    (λ u. ap (λ (l : List ℕ). answered z l disk stage input output) (picks _ _ _ u) ∙ same-refusal all u z disk stage input output)
    (λ u. ap (λ (l : List ℕ). answered z l disk stage input output) (skips _ _ _ u)
    ∙ same_answer all (whole-front all u) (whole-ahead all u) z disk stage input output)

keep-short : (all : List ℕ) → length (keep all) ≤ 68810
unfolding keep
keep-short all = either_way (λ (l : List ℕ). length l ≤ 68810) _ _ _ (λ _. omega arith) (λ _. kept-short all)

-- ---- the reader keeps it

read_whole : (area : List ℕ) (pieces : List (List ℕ)) → read_all area pieces ≡ fed (state fresh area) (whole pieces)
unfolding read_all
read_whole area pieces = fed-whole (state fresh area) pieces

keeps : (area : List ℕ) (pieces : List (List ℕ)) → length area ≡ 68810 → Bytes (whole pieces) → holds (read_all area pieces) ≡ keep (whole pieces)
keeps area pieces long b = ap holds (read_whole area pieces) ∙ holds-keep area (whole pieces) long b

keeps-whatever : (area : List ℕ) (pieces : List (List ℕ)) (rest : List ℕ) → length area ≡ 68810 → Bytes (whole pieces ++ rest)
    → full (read_all area pieces).reader ≡ true → holds (read_all area pieces) ≡ keep (whole pieces ++ rest)
keeps-whatever area pieces rest long b e =
    sym (full-fed (read_all area pieces) rest e)
    ∙ ap (λ (s : State). holds (fed s rest)) (read_whole area pieces)
    ∙ ap holds (sym (fed-append (state fresh area) (whole pieces) rest))
    ∙ holds-keep area (whole pieces ++ rest) long b

pub keeping-is-enough : Kept
keeping-is-enough = record { answers = enough; short = keep-short; reads = keeps; stops = keeps-whatever }
