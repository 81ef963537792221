-- What is known of an instruction that runs, and that its effect keeps the staged positions in order. Assumes nothing.
use Rattle.lists.proofs.Kit.{◌≡◌, refl, sym, ap, ◌∙◌, subst, false, List, [], ◌∷◌, ℕ, ◌/◌, ◌%◌, ◌≤◌, ◌<◌}
use Rattle.lists.proofs.Kit.{le_trans, mul-le-mul_right}
use Rattle.lists.proofs.Kit.{arith, length, get_or, length-set, ltb, eqb}
use Rattle.lists.specs.Tests.{those}
use Rattle.lists.proofs.Laws.Pick.{by, picks, never, either_left, either-right}
use Rattle.host.specs.Empty.{none}
use Rattle.host.specs.Facts.{Staged}
use Rattle.machine_rules.specs.View.{free_copies, Volume}
use Rattle.machine_rules.specs.declared.Setting.{Setting}
use Rattle.machine_rules.specs.declared.Args.{Args}
use Rattle.machine_rules.specs.Plan.{bad_spans, touched, wanted, new_size}
use Rattle.machine_rules.specs.Kinds.{changes, kind}
use Rattle.machine_rules.specs.Effect.{Ground, ground_of, Staging, effect}
use Rattle.machine_rules.proofs.Laws.Passed.{Passed}
use Rattle.sia.specs.declared.Op.{Op}
use Rattle.sia.specs.declared.Op.TheVariants.{Read, ReadSector, Write, Copy, Swap, Truncate, Unknown}
use Rattle.host.specs.declared.Progress.{Progress}
use Rattle.machine_rules.specs.declared.Spot.{Spot}
use Rattle.machine_rules.proofs.Laws.Copies.{copied_map, written-map, length-copied, wanted-one, span-in, one_kept, two-kept}
use Rattle.machine_rules.proofs.Laws.Resizes.{resized-more, resized-less, resized-same, sized, resized-kept, swap-asks}

-- ---- each instruction

module _ (s : Setting) (vol : Volume) (p : Progress) (start : ℕ) (pos : 0 < s.sector) (few : s.stagesectors ≤ 16)
    (most : s.disksectors ≤ length p.staged)
    (whole : p.size % s.sector ≡ 0)
    (under : p.size / s.sector ≤ length p.staged) (f : Staged s.stagesectors start (p.size / s.sector) p.staged)
    (bytes : List ℕ) {r : Spot → List ℕ} where
  pub effect-kept : (op : Op) (a : Args) (d : List ℕ) (n : ℕ) → Passed s r p op a n → Staged s.stagesectors start (new_size p.size op a / s.sector)
      (effect s.sector (ground_of s vol) p.size op a d (record { staged = p.staged; bytes = bytes })).staged
  unfolding effect new_size bad_spans wanted touched
  effect-kept Read a d n q = f
  effect-kept ReadSector a d n q = f
  effect-kept Write a d n q =
      subst (λ (m : List ℕ). Staged s.stagesectors start (p.size / s.sector) m) (sym (written-map s.sector (ground_of s vol) a.first _ _))
      (one_kept s p start pos few whole f a.first (span-in s.sector p.size a.first a.len q.spans)
      (omega (arith, q.free, wanted-one p.staged (a.first / s.sector))))
  effect-kept Copy a d n q =
      subst (λ (m : List ℕ). Staged s.stagesectors start (p.size / s.sector) m) (sym (written-map s.sector (ground_of s vol) a.first _ _))
      (one_kept s p start pos few whole f a.first (span-in s.sector p.size a.first a.len (either_left _ _ q.spans))
      (omega (arith, q.free, wanted-one p.staged (a.first / s.sector))))
  effect-kept Swap a d n q =
      subst (λ (m : List ℕ). Staged s.stagesectors start (p.size / s.sector) m)
      (sym (written-map s.sector (ground_of s vol) a.first _ _ ∙ ap (λ (m : List ℕ). copied_map s.stagesectors (a.first / s.sector) m)
      (written-map s.sector (ground_of s vol) a.second _ _)))
      (two-kept s p start pos few whole f a.second a.first (span-in s.sector p.size a.second a.len (either-right _ _ q.spans))
      (span-in s.sector p.size a.first a.len (either_left _ _ q.spans)) under
      (subst (λ (x : ℕ). x ≤ free_copies s p) (swap-asks (eqb (a.first / s.sector) (a.second / s.sector)) p.staged (a.second / s.sector)
      (a.first / s.sector)) q.free))
  effect-kept Truncate a d n q =
      resized-kept s vol p start a.first bytes pos few whole f (sized s.sector p.size a.first q.spans)
      (le_trans (omega (arith, q.fits)) (mul-le-mul_right {m = s.disksectors} {n = length p.staged} s.sector most))
      (λ e. omega (
        arith,
        q.free,
        wanted-one p.staged (p.size / s.sector),
        ap (λ (l : List ℕ). length (those (λ n. eqb (get_or p.staged n none) none) l)) (picks (ltb p.size a.first) (p.size / s.sector ∷ []) [] e),
      ))
  effect-kept Unknown a d n q = f

pub effect-length : (z : ℕ) (n : Ground) (size : ℕ) (op : Op) (a : Args) (d : List ℕ) (g : Staging) → length (effect z n size op a d g).staged
    ≡ length g.staged
unfolding effect
effect-length z n size Read a d g = refl
effect-length z n size ReadSector a d g = refl
effect-length z n size Write a d g = ap length (written-map z n a.first _ g) ∙ length-copied _ _ _
effect-length z n size Copy a d g = ap length (written-map z n a.first _ g) ∙ length-copied _ _ _
effect-length z n size Swap a d g = ap length (written-map z n a.first _ _) ∙ length-copied _ _ _ ∙ ap length (written-map z n a.second _ g)
    ∙ length-copied _ _ _
effect-length z n size Truncate a d g =
    by (ltb size a.first)
    (λ e. ap length (resized-more z n size a.first g e) ∙ simp length-set)
    (λ e. by (ltb a.first size)
    (λ d. ap length (resized-less z n size a.first g e d) ∙ simp length-set)
    (λ d. ap length (resized-same z n size a.first g e d)))
effect-length z n size Unknown a d g = refl

pub size-whole : (s : Setting) {r : Spot → List ℕ} (p : Progress) (op : Op) (a : Args) (n : ℕ) → Passed s r p op a n → p.size % s.sector ≡ 0
    → new_size p.size op a % s.sector ≡ 0
unfolding new_size bad_spans
size-whole s p Read a n q w = w
size-whole s p ReadSector a n q w = w
size-whole s p Write a n q w = w
size-whole s p Copy a n q w = w
size-whole s p Swap a n q w = w
size-whole s p Truncate a n q w = (sized s.sector p.size a.first q.spans).whole
size-whole s p Unknown a n q w = w

pub size-read : (op : Op) (size : ℕ) (a : Args) → changes op ≡ false → new_size size op a ≡ size
unfolding kind new_size
size-read Read size a e = refl
size-read ReadSector size a e = refl
size-read Write size a e = never e
size-read Copy size a e = refl
size-read Swap size a e = refl
size-read Truncate size a e = never e
size-read Unknown size a e = refl
