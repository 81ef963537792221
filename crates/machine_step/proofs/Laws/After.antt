-- After the effect of an instruction that can run: what rehashing, the parent's root and the record ask. q is the parent, x the stage that the
-- effect left, roots those kept beside its slots. Assumes nothing.
use Rattle.lists.proofs.Kit.{◌≡◌, refl, sym, ap, ◌∙◌, subst, Bool, true, List, ℕ, ◌+◌, ◌*◌, ◌-◌, ◌≤◌, arith, length, take, drop, length-drop}
use Rattle.lists.proofs.Kit.{[]}
use Rattle.lists.specs.Pick.{pick}
use Rattle.area.specs.Area.{part}
use Rattle.area.proofs.Laws.Lent.{rest-take}
use Rattle.machine_rules.specs.View.{Turn, parent, Volume}
use Rattle.machine_rules.specs.Roots.{kept_root, root_at, range_proof}
use Rattle.machine_rules.specs.Plan.{seen, spots, touched, output_count, record_count}
use Rattle.machine_rules.specs.Kinds.{reads}
use Rattle.machine_rules.specs.Effect.{Staging, ground_of, effect, rehashed}
use Rattle.machine_rules.specs.Run.{ran_progress}
use Rattle.machine_rules.specs.Facts.{Good, Within}
use Rattle.machine_rules.proofs.Laws.Passed.{Passed}
use Rattle.machine_rules.proofs.Laws.Areas.{effect-bytes, rehashed-length}
use Rattle.machine_rules.proofs.Laws.Kept.{ran-good}
use Rattle.machine_rules.proofs.Laws.Lengths.{length-proof}
use Rattle.machine_rules.proofs.Laws.Steps.{not-failed, left-going}
use Rattle.machine_sight.specs.Seen.{spots_of}
use Rattle.machine_sight.proofs.Laws.Roots.{seen-count}
use Rattle.machine_sight.proofs.Callers.{seen-valid, seen-known}
use Rattle.machine_effect.specs.Parts.{ground, staging}
use Rattle.machine_effect.specs.Asks as Effect
use Rattle.machine_effect.specs.Rehashes.{Rehashes}
use Rattle.machine_effect.proofs.Callers.{rehashes}
use Rattle.machine_effect.proofs.Laws.Passed.{stands-with}
use Rattle.machine_plan.specs.Planned.{said}
use Rattle.machine_step.specs.Shown.{shown_proof, Shows}
use Rattle.machine_step.specs.Asks.{Reads, Tasked}
use Rattle.machine_step.proofs.Laws.Readers.{reads_kept}
use Rattle.machine_step.proofs.Laws.Sights.{reads-good}
use Rattle.machine_step.proofs.Laws.Task.{Fits, fits}
use Rattle.machine_step.proofs.Laws.Read.{few-read, read-valid, inside, ranged}
use Rattle.sia.specs.declared.Instruction.{Instruction}
use Rattle.host.specs.declared.Place.{Place}
use Rattle.host.specs.declared.Progress.{Progress}
use Rattle.machine_rules.specs.Plan.{Plan}
use Rattle.machine_rules.specs.declared.Setting.{Setting}
use Rattle.machine_rules.specs.declared.Spot.{Spot}
use Rattle.machine_plan.specs.declared.Task.{Task}
use Rattle.machine_rules.specs.Failure.{plan_made}

module _ (s : Setting) (vol : Volume) (t : Turn) (input : List ℕ) (i : Instruction) (r : Task) (x : Tasked s vol t input i r) where
  pub fit : Fits s vol t input i (said r)
  fit = fits s vol t input i r x

  -- the stage after the effect, the roots kept beside its slots, and the progress
  unfoldable pub after : Staging
  after = effect s.sector (ground_of s vol) t.progress.size r.op r.args (part input r.from r.args.len)
      (staging t.progress.staged t.stage)

  unfoldable pub roots : List ℕ
  roots = rehashed s.sector after (touched s.sector t.progress.size r.op r.args) t.roots

  abbrev pub next : Progress
  next = ran_progress t.progress (plan_made r.plan) after.staged

  -- ---- the effect

  module _ {q : Place} (own : q ≡ parent s) where
    pub effect-asks : Effect.Stands s.sector (ground s.stagesectors q.slots vol.disk) t.progress.size r.op r.args
        (staging t.progress.staged t.stage)
    effect-asks =
        let p = x.steps in
        stands-with s vol t.progress t.stage p.good p.solid p.stage q.slots (ap (λ (p : Place). p.slots) own) r.op r.args _
        fit.passed

    pub effect_is : {y : Staging}
        → y ≡ effect s.sector (ground s.stagesectors q.slots vol.disk) t.progress.size r.op r.args (part input r.from r.args.len)
        (staging t.progress.staged t.stage) → y ≡ after
    unfolding after
    effect_is e =
        e ∙ ap (λ (p : Place). effect s.sector (ground s.stagesectors p.slots vol.disk) t.progress.size r.op r.args
        (part input r.from r.args.len) (staging t.progress.staged t.stage)) own

  -- ---- the roots

  pub rehash-asks : {y : Staging} → y ≡ after → Rehashes s.sector t.progress.size r.op r.args y t.roots
  unfolding after
  rehash-asks e =
      rehashes s.sector (ground_of s vol) t.progress.size r.op r.args (part input r.from r.args.len)
      (staging t.progress.staged t.stage) _
      t.roots x.steps.good.entries x.steps.stageroots (effect-asks refl) e

  pub roots-are : {y : Staging} {l : List ℕ} → y ≡ after → l ≡ rehashed s.sector y (touched s.sector t.progress.size r.op r.args) t.roots
      → l ≡ roots
  unfolding roots
  roots-are e k = k ∙ ap (λ (y : Staging). rehashed s.sector y (touched s.sector t.progress.size r.op r.args) t.roots) e

  roots-long : length roots ≡ 512
  unfolding roots
  roots-long = rehashed-length s.sector after (touched s.sector t.progress.size r.op r.args) t.roots ∙ x.steps.stageroots

  stage-long : length after.bytes ≡ s.stagesectors * s.sector
  unfolding after
  stage-long = effect-bytes s.sector (ground_of s vol) t.progress.size r.op r.args (part input r.from r.args.len)
      (staging t.progress.staged t.stage) ∙ x.steps.stage

  -- ---- the parent

  good-after : Good s next
  unfolding after
  good-after =
      let p = x.steps in
      subst (λ (w : Plan). Good s (ran_progress t.progress w after.staged)) (sym fit.plan)
      (ran-good s vol t.progress i.proof (length (spots_of r.seen)) r.op r.args (part input r.from r.args.len) t.stage p.solid.lent
      (not-failed s t p.going) (left-going s t p.going).1
      (subst (λ (w : Plan). Passed s (root_at s vol t) t.progress r.op r.args w.count) fit.plan fit.passed) p.good)

  pub next-is : {y : Staging} {g : Progress} → y ≡ after → g ≡ ran_progress t.progress (plan_made r.plan) y.staged → g ≡ next
  next-is e p = p ∙ ap (λ (y : Staging). ran_progress t.progress (plan_made r.plan) y.staged) e

  pub read-asks : {q : Place} {l : List ℕ} {g : Progress} → q ≡ parent s → l ≡ roots → g ≡ next → Reads s.sector vol.roots l q g
  read-asks {q} {l} {g} own k p =
      subst (λ (l : List ℕ). Reads s.sector vol.roots l q g) (sym k) (subst (λ (g : Progress). Reads s.sector vol.roots roots q g) (sym p)
      (reads-good s vol next vol.roots roots q x.steps.solid good-after x.steps.diskroots roots-long own))

  -- ---- what is shown

  proof-long : length (shown_proof s.sector i.proof (kept_root vol.roots roots) vol.disk after.bytes r.seen r.args.first r.args.len)
      ≡ 32 * r.plan.hashes
  unfolding shown_proof spots
  proof-long =
      ap (λ (f : Spot → List ℕ). length
      (pick i.proof (range_proof s.sector f vol.disk after.bytes (spots_of r.seen) r.args.first r.args.len) []))
      (sym (reads_kept s vol after.bytes roots x.steps.way))
      ∙ length-proof s vol after.bytes roots (seen (spots_of r.seen)) r.args i.proof x.steps.solid stage-long x.steps.diskroots roots-long
      (read-valid s vol t input i r x) (few-read s vol t input i r x) within-read
      ∙ ap (λ (w : Plan). 32 * w.hashes) (sym fit.plan)
    where
      within-read : i.proof ≡ true → Within s.sector (length (spots_of r.seen)) r.args.first r.args.len
      within-read h =
          let g = ranged s vol t input i r x h in
          record { below = omega (arith, g.inside.below, seen-count r.seen); one = g.inside.one; some = g.some; first = g.first; many = g.whole }

  room : 72 + 32 * r.plan.hashes + pick (reads r.op) r.args.len 0 ≤ length (drop t.progress.written t.output)
  unfolding output_count record_count
  room =
      omega (
        arith,
        fit.passed.room,
        ap (λ (w : Plan). w.count) fit.plan,
        ap (λ (w : Plan). w.hashes) fit.plan,
        x.steps.output,
        length-drop t.progress.written t.output,
      )

  -- by the stage, the roots, whether it reads and the area
  abbrev Shown : Staging → List ℕ → Bool → List ℕ → Type 0
  Shown y l rd out = Shows s.sector vol.roots l vol.disk y.bytes r.seen i.proof rd r.args.first r.args.len r.plan.hashes out

  shows : Shown after roots (reads r.op) (drop t.progress.written t.output)
  shows = record {
    known = seen-known s r.seen _ refl (few-read s vol t input i r x) (read-valid s vol t input i r x) vol.roots roots
        (omega (arith, x.steps.diskroots, x.steps.solid.lent.most))
        (omega (arith, roots-long, x.steps.solid.lent.few));
    lies = seen-valid s r.seen _ refl (few-read s vol t input i r x) (read-valid s vol t input i r x) s.sector vol.disk after.bytes
        x.steps.solid.lent.size
        (omega (arith, x.steps.solid.disk)) (omega (arith, stage-long));
    inside = inside s vol t input i r x;
    ranged = ranged s vol t input i r x;
    count = proof-long;
    room = room;
  }

  pub record-asks : {y : Staging} {l : List ℕ} {rd : Bool} → y ≡ after → l ≡ roots → rd ≡ reads r.op
      → Shown y l rd (take (length t.output - t.progress.written) (drop t.progress.written t.output))
  record-asks {y} {l} {rd} e k b =
      let out = drop t.progress.written t.output in
      subst (Shown y l rd) (sym (rest-take t.output t.progress.written))
      (subst (λ (y : Staging). Shown y l rd out) (sym e)
      (subst (λ (l : List ℕ). Shown after l rd out) (sym k) (subst (λ (rd : Bool). Shown after roots rd out) (sym b) shows)))
