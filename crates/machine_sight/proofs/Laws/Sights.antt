-- What is seen of committed sectors, and one sector. z is the sector size. Assumes nothing.
use Rattle.lists.proofs.Kit.{◌≡◌, refl, sym, ap, ◌∙◌, true, false, List, [], ◌∷◌, ℕ, zero, suc, ◌+◌, ◌/◌, ◌≤◌, ◌<◌, arith, length, take, drop, get_or}
use Rattle.lists.proofs.Kit.{replicate, drop-cons, eq-eqb, ne_eqb}
use Rattle.lists.specs.Pick.{pick}
use Rattle.lists.specs.Tests.{each}
use Rattle.lists.specs.Tab.{tab}
use Rattle.lists.proofs.Laws.Pick.{picks, skips, yes, no}
use Rattle.host.specs.Empty.{none}
use Rattle.host.specs.Places.{committed}
use Rattle.host.specs.declared.Place.{Place}
use Rattle.machine_rules.specs.View.{spot_of, committed_spots}
use Rattle.machine_rules.specs.declared.Spot.TheVariants.{OnDisk, InStage}

-- ---- committed sectors: nothing is staged

pub none-staged : (n j : ℕ) → get_or (replicate n none) j none ≡ none
none-staged zero j = refl
none-staged (suc n) zero = refl
none-staged (suc n) (suc j) = none-staged n j

module _ (slots staged : List ℕ) (unstaged : (j : ℕ) → get_or staged j none ≡ none) where
  on-disk : (j : ℕ) → spot_of slots staged j ≡ OnDisk (get_or slots j 0)
  unfolding spot_of
  on-disk j = picks _ _ _ (eq-eqb _ _ (unstaged j))

  from : (i n : ℕ) → i + n ≤ length slots → tab i n (spot_of slots staged) ≡ each OnDisk (take n (drop i slots))
  unfolding tab each
  from i zero h = refl
  from i (suc n) h =
      (λ k. on-disk i k ∷ from (suc i) n (omega arith) k)
      ∙ ap (λ (l : List ℕ). each OnDisk (take (suc n) l)) (sym (drop-cons slots i 0 (omega arith)))

  pub seen-committed : (z : ℕ) (p : Place) → p.held ≡ true → p.slots ≡ slots → p.size / z ≤ length slots
      → tab 0 (p.size / z) (spot_of slots staged) ≡ committed_spots z p
  unfolding committed_spots committed
  seen-committed z p e q h =
      from 0 (p.size / z) (omega arith)
      ∙ ap (λ (l : List ℕ). each OnDisk (take (p.size / z) l)) (sym q)
      ∙ ap (each OnDisk) (yes p.held (take (p.size / z) p.slots) [] e refl)

pub seen_nothing : (z : ℕ) (p : Place) → p.held ≡ false → [] ≡ committed_spots z p
unfolding committed_spots committed each
seen_nothing z p e = ap (each OnDisk) (no p.held (take (p.size / z) p.slots) [] e refl)

-- ---- one sector, in all entries alike

pub one-on-disk : (n : ℕ) → spot_of (replicate 64 n) (replicate 64 none) 0 ≡ OnDisk n
unfolding spot_of pick
one-on-disk n = refl

pub one-in-stage : (n m : ℕ) → n < 255 → spot_of (replicate 64 m) (replicate 64 n) 0 ≡ InStage n
unfolding spot_of
one-in-stage n m h = skips _ _ _ (ne_eqb n 255 (λ e. omega arith))
