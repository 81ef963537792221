-- A run with kept roots is the run with roots worked out from bytes, and keeps them right. Assumes nothing.
use Rattle.lists.proofs.Kit.{◌≡◌, refl, sym, ap, ap₂, ◌∙◌, subst, true, List, ◌∷◌, ℕ, zero, suc}
use Rattle.lists.proofs.Laws.Pick.{by}
use Rattle.machine_rules.specs.View.{kept, worked, Turn, Volume}
use Rattle.machine_rules.specs.declared.Setting.{Setting}
use Rattle.machine_rules.specs.Inputs.{inputs_of}
use Rattle.machine_rules.specs.Run.{current, step, going, ready, runs, turned, Stepped}
use Rattle.machine_rules.specs.Facts.{Good, Solid}
use Rattle.machine_rules.specs.Trace.{recorded, trail}
use Rattle.machine_rules.proofs.Laws.Steps.{ready-going, runs-go, runs-stop}
use Rattle.machine_rules.proofs.Laws.Kept.{stepped-good}
use Rattle.machine_rules.proofs.Laws.Trails.{trail-zero, trail-go, trail-stop}
use Rattle.machine_rules.proofs.Laws.Readers.{with_way, Known}
use Rattle.machine_rules.proofs.Sound.Steps.{stepped-alike, stepped-known}

-- ---- a run

module _ (s : Setting) (vol : Volume) (solid : Solid s (with_way kept vol)) (a : List ℕ) (k : ℕ) where
  step-alike : (t : Turn) → Good s t.progress → Known s (with_way kept vol) t → going s.terms t.progress ≡ true
      → step s (with_way kept vol) a t ≡ step s (with_way worked vol) a t
  unfolding step current with_way
  step-alike t g q h = ap (turned t) (stepped-alike s vol t solid g q (current s t) (inputs_of (current s t) a) h)

  step-known : (t : Turn) → Good s t.progress → Known s (with_way kept vol) t → going s.terms t.progress ≡ true
      → Known s (with_way kept vol) (step s (with_way kept vol) a t)
  unfolding step
  step-known t g q h = stepped-known s vol t solid g q _ _ h

  step-good : (t : Turn) → Good s t.progress → going s.terms t.progress ≡ true
      → Good s (step s (with_way kept vol) a t).progress
  unfolding step turned with_way
  step-good t g h = stepped-good s (with_way kept vol) _ _ t solid.lent h g

  pub runs-alike : (n : ℕ) (t : Turn) → Good s t.progress → Known s (with_way kept vol) t → runs s (with_way kept vol) a k n t
      ≡ runs s (with_way worked vol) a k n t
  unfolding runs
  runs-alike zero t g q = refl
  runs-alike (suc n) t g q =
      by (ready s k t)
      (λ r. let h = ready-going s k t r in
      runs-go s (with_way kept vol) a k n t r
      ∙ runs-alike n (step s (with_way kept vol) a t) (step-good t g h) (step-known t g q h)
      ∙ ap (runs s (with_way worked vol) a k n) (step-alike t g q h)
      ∙ sym (runs-go s (with_way worked vol) a k n t r))
      (λ r. runs-stop s (with_way kept vol) a k (suc n) t r ∙ sym (runs-stop s (with_way worked vol) a k (suc n) t r))

  recorded-alike : (t : Turn) → Good s t.progress → Known s (with_way kept vol) t → going s.terms t.progress ≡ true
      → recorded s (with_way kept vol) a t ≡ recorded s (with_way worked vol) a t
  unfolding recorded current with_way
  recorded-alike t g q h = ap (λ (x : Stepped). x.bytes) (stepped-alike s vol t solid g q (current s t) (inputs_of (current s t) a) h)

  pub trail-alike : (n : ℕ) (t : Turn) → Good s t.progress → Known s (with_way kept vol) t → trail s (with_way kept vol) a k n t
      ≡ trail s (with_way worked vol) a k n t
  trail-alike zero t g q = trail-zero s (with_way kept vol) a k t ∙ sym (trail-zero s (with_way worked vol) a k t)
  trail-alike (suc n) t g q =
      by (ready s k t)
      (λ r. let h = ready-going s k t r in
      trail-go s (with_way kept vol) a k n t r
      ∙ ap₂ ◌∷◌ (recorded-alike t g q h) (trail-alike n (step s (with_way kept vol) a t) (step-good t g h) (step-known t g q h)
      ∙ ap (trail s (with_way worked vol) a k n) (step-alike t g q h))
      ∙ sym (trail-go s (with_way worked vol) a k n t r))
      (λ r. trail-stop s (with_way kept vol) a k (suc n) t r ∙ sym (trail-stop s (with_way worked vol) a k (suc n) t r))

  pub runs-known : (n : ℕ) (t : Turn) → Good s t.progress → Known s (with_way kept vol) t
      → Known s (with_way kept vol) (runs s (with_way kept vol) a k n t)
  unfolding runs
  runs-known zero t g q = q
  runs-known (suc n) t g q =
      by (ready s k t)
      (λ r. let h = ready-going s k t r in
      subst (λ (x : Turn). Known s (with_way kept vol) x) (sym (runs-go s (with_way kept vol) a k n t r))
      (runs-known n (step s (with_way kept vol) a t) (step-good t g h) (step-known t g q h)))
      (λ r. subst (λ (x : Turn). Known s (with_way kept vol) x) (sym (runs-stop s (with_way kept vol) a k (suc n) t r)) q)
