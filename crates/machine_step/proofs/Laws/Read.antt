-- What an instruction that can run reads: few sectors, each a slot that there is, and the span and the range lie within them. Assumes nothing.
use Rattle.lists.proofs.Kit.{◌≡◌, sym, ap, ◌∙◌, false, true, List, ℕ, ◌*◌, ◌≤◌, arith, length}
use Rattle.lists.proofs.Kit.{not-false, eqb-false}
use Rattle.lists.specs.Tests.{every}
use Rattle.lists.proofs.Laws.Pick.{picks, either_left}
use Rattle.machine_rules.specs.View.{Turn, Volume}
use Rattle.machine_rules.specs.Roots.{root_at}
use Rattle.machine_rules.specs.Plan.{bad_span, bad_proof}
use Rattle.machine_rules.specs.Kinds.{reads}
use Rattle.machine_rules.specs.Facts.{valid}
use Rattle.machine_rules.proofs.Laws.Copies.{few-sectors}
use Rattle.machine_rules.proofs.Laws.Outputs.{read-span}
use Rattle.machine_rules.proofs.Laws.Spots.{source-valid}
use Rattle.machine_rules.proofs.Laws.Few.{few-spots}
use Rattle.machine_sight.specs.Seen.{spots_of, Inside, Ranged}
use Rattle.machine_sight.proofs.Laws.Roots.{seen-count}
use Rattle.machine_sight.proofs.Callers.{span-inside, range-ranged}
use Rattle.machine_plan.specs.Planned.{said}
use Rattle.machine_step.specs.Asks.{Tasked}
use Rattle.machine_step.proofs.Laws.Task.{Fits, fits}
use Rattle.sia.specs.declared.Instruction.{Instruction}
use Rattle.machine_rules.specs.declared.Setting.{Setting}
use Rattle.machine_plan.specs.declared.Task.{Task}

module _ (s : Setting) (vol : Volume) (t : Turn) (input : List ℕ) (i : Instruction) (r : Task) (x : Tasked s vol t input i r) where
  fit : Fits s vol t input i (said r)
  fit = fits s vol t input i r x

  pub few-read : length (spots_of r.seen) ≤ 64
  few-read =
      let p = x.steps in
      omega (
        arith,
        ap length fit.sectors,
        few-spots s (root_at s vol t) t.progress r.op r.args.key p.solid.small
            (few-sectors s t.progress p.solid.lent p.good),
      )

  pub read-valid : every (valid s) (spots_of r.seen) ≡ true
  read-valid =
      let p = x.steps in
      let few = few-sectors s t.progress p.solid.lent p.good in
      ap (every (valid s)) fit.sectors
      ∙ source-valid s vol t.progress p.solid p.good.orderly.staged (omega (arith, p.good.entries, few)) (root_at s vol t) r.op r.args.key

  span_right : reads r.op ≡ true → bad_span s.sector (r.seen.count * s.sector) r.args.first r.args.len ≡ false
  span_right u =
      ap (λ (n : ℕ). bad_span s.sector (n * s.sector) r.args.first r.args.len) (sym (seen-count r.seen) ∙ ap length fit.sectors)
      ∙ read-span s.sector t.progress.size _ r.op r.args u fit.passed.spans

  pub inside : reads r.op ≡ true → Inside s.sector r.seen.count r.args.first r.args.len
  inside u = span-inside s.sector x.steps.solid.lent.size r.seen.count r.args.first r.args.len (span_right u)

  pub some_read : reads r.op ≡ true → r.args.len ≡ 0 → ⊥
  unfolding bad_span
  some_read u h = eqb-false r.args.len 0 (either_left _ _ (span_right u)) h

  pub ranged : i.proof ≡ true → Ranged s.sector r.seen.count r.args.first r.args.len
  unfolding bad_proof
  ranged h =
      let right = sym (picks i.proof _ false h) ∙ fit.provable in
      range-ranged s.sector x.steps.solid.lent.size r.op r.args r.seen.count (span_right (not-false _ (either_left _ _ right))) right
