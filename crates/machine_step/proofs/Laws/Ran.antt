-- What the functions of an instruction that can run leave is the step's. Assumes nothing.
use Rattle.lists.proofs.Kit.{◌≡◌, sym, ap, ap₂, ◌∙◌, Bool, List, [], ℕ, ◌/◌, eqb, eq-eqb, ne_eqb}
use Rattle.lists.specs.Pick.{pick}
use Rattle.lists.specs.Tab.{tab}
use Rattle.lists.proofs.Laws.Pick.{by, picks, skips}
use Rattle.area.specs.Area.{put}
use Rattle.machine_rules.specs.View.{Turn, turn, parent, parent_spots, spot_of, Volume}
use Rattle.machine_rules.specs.Roots.{kept_root, root_of, contract_root, range_proof}
use Rattle.machine_rules.specs.Plan.{output_count}
use Rattle.machine_rules.specs.Kinds.{reads}
use Rattle.machine_rules.specs.Effect.{Staging}
use Rattle.machine_rules.specs.Record.{pairing, running_pair, record_bytes, success_bytes, output_of}
use Rattle.machine_rules.specs.Run.{ran_progress, succeeding, turned}
use Rattle.machine_rules.proofs.Laws.Outputs.{count-read, count-change}
use Rattle.machine_sight.specs.Seen.{spots_of}
use Rattle.machine_sight.proofs.Callers.{span-output}
use Rattle.machine_step.specs.Shown.{shown_proof, shown_bytes}
use Rattle.machine_step.specs.Asks.{Tasked, stepped_turn}
use Rattle.machine_step.proofs.Laws.Readers.{reads_kept}
use Rattle.machine_step.proofs.Laws.Task.{fits}
use Rattle.machine_step.proofs.Laws.After.{after, roots, next}
use Rattle.machine_step.proofs.Laws.Read.{inside, some_read}
use Rattle.sia.specs.declared.Instruction.{Instruction}
use Rattle.host.specs.declared.Place.{Place}
use Rattle.host.specs.declared.Progress.{Progress}
use Rattle.machine_rules.specs.declared.Setting.{Setting}
use Rattle.machine_rules.specs.declared.Spot.{Spot}
use Rattle.machine_plan.specs.declared.Task.{Task}
use Rattle.machine_rules.specs.Failure.{plan_made}

module _ (s : Setting) (vol : Volume) (t : Turn) (input : List ℕ) (i : Instruction) (r : Task) (x : Tasked s vol t input i r) where
  abbrev stage : Staging
  stage = after s vol t input i r x

  abbrev all : List ℕ
  all = roots s vol t input i r x

  abbrev ahead : Progress
  ahead = next s vol t input i r x

  -- ---- the record

  bytes-shown : shown_bytes s.sector (reads r.op) vol.disk stage.bytes r.seen r.args.first r.args.len
      ≡ pick (eqb (output_count r.op r.args) 0) [] (output_of s.sector vol.disk stage.bytes (spots_of r.seen) r.args)
  unfolding shown_bytes
  bytes-shown =
      by (reads r.op)
      (λ u. picks (reads r.op) _ [] u
      ∙ span-output s.sector vol.disk stage.bytes r.seen r.args (inside s vol t input i r x u).below
      ∙ sym (skips (eqb (output_count r.op r.args) 0) [] _
      (ne_eqb _ 0 (λ h. some_read s vol t input i r x u (sym (count-read r.op r.args u) ∙ h)))))
      (λ u. skips (reads r.op) _ [] u ∙ sym (picks (eqb (output_count r.op r.args) 0) [] _ (eq-eqb _ 0 (count-change r.op r.args u))))

  -- as the code lays it: by the parent, the stage, the roots, the progress and whether it reads
  abbrev laid : Place → Staging → List ℕ → Progress → Bool → List ℕ
  laid q y l g rd =
      let f = kept_root vol.roots l in
      record_bytes 0 r.plan.cost (pairing r.plan.size (contract_root f (tab 0 (g.size / s.sector) (spot_of q.slots g.staged))))
      r.plan.hashes (shown_proof s.sector i.proof f vol.disk y.bytes r.seen r.args.first r.args.len)
      (pick rd r.args.len 0) (shown_bytes s.sector rd vol.disk y.bytes r.seen r.args.first r.args.len)

  record_is : laid (parent s) stage all ahead (reads r.op)
      ≡ success_bytes s vol (root_of s vol stage.bytes all) (plan_made r.plan) ahead i.proof (spots_of r.seen) r.op r.args stage.bytes
  unfolding success_bytes running_pair parent_spots shown_proof output_count ran_progress
  record_is =
      ap₂ (λ (f : Spot → List ℕ) (bs : List ℕ). record_bytes 0 r.plan.cost
      (pairing r.plan.size (contract_root f (tab 0 (r.plan.size / s.sector) (spot_of (parent s).slots stage.staged))))
      r.plan.hashes (pick i.proof (range_proof s.sector f vol.disk stage.bytes (spots_of r.seen) r.args.first r.args.len) [])
      (pick (reads r.op) r.args.len 0) bs) (sym (reads_kept s vol stage.bytes all x.steps.way)) bytes-shown

  -- ---- the turn

  pub ran-is : {q : Place} {y : Staging} {l root out : List ℕ} {g : Progress} {rd : Bool} → q ≡ parent s → y ≡ stage → l ≡ all
      → g ≡ ran_progress t.progress (plan_made r.plan) y.staged
      → root ≡ contract_root (kept_root vol.roots l) (tab 0 (g.size / s.sector) (spot_of q.slots g.staged)) → rd ≡ reads r.op
      → out ≡ put t.output t.progress.written (record_bytes 0 r.plan.cost (pairing r.plan.size root) r.plan.hashes
      (shown_proof s.sector i.proof (kept_root vol.roots l) vol.disk y.bytes r.seen r.args.first r.args.len)
      (pick rd r.args.len 0) (shown_bytes s.sector rd vol.disk y.bytes r.seen r.args.first r.args.len))
      → turn g y.bytes out l ≡ stepped_turn s vol i input t
  unfolding turned succeeding after roots
  ran-is {q} {y} {l} {root} {out} {g} {rd} own e k p at b o =
      let same : g ≡ ahead = p ∙ ap (λ (y : Staging). ran_progress t.progress (plan_made r.plan) y.staged) e in
      let bytes : laid q y l g rd ≡ laid (parent s) stage all ahead (reads r.op) = λ j. laid (own j) (e j) (k j) (same j) (b j) in
      (λ j. turn (same j) (e j).bytes
      ((o ∙ ap (λ (w : List ℕ). put t.output t.progress.written (record_bytes 0 r.plan.cost (pairing r.plan.size w) r.plan.hashes
      (shown_proof s.sector i.proof (kept_root vol.roots l) vol.disk y.bytes r.seen r.args.first r.args.len)
      (pick rd r.args.len 0) (shown_bytes s.sector rd vol.disk y.bytes r.seen r.args.first r.args.len))) at
      ∙ ap (put t.output t.progress.written) (bytes ∙ record_is)) j) (k j))
      ∙ ap (turned t) (sym (fits s vol t input i r x).steps)
