-- An instruction and a run with roots that are right: the kept ones give what document 01 says, and stay right. Assumes nothing.
use Rattle.lists.proofs.Kit.{◌≡◌, sym, ap, ap₂, ◌∙◌, subst, Bool, true, List, [], ℕ, ◌*◌, ◌≤◌, mul-le-mul_right, le_trans, arith}
use Rattle.lists.proofs.Kit.{length, length-drop, eqb}
use Rattle.lists.specs.Pick.{pick}
use Rattle.lists.specs.Tests.{every}
use Rattle.lists.proofs.Laws.Every.{every-none}
use Rattle.area.proofs.Laws.Slots as Slots
use Rattle.sia.specs.Names.{op_of}
use Rattle.host.specs.Places.{taken}
use Rattle.machine_rules.specs.View.{kept, worked, Turn, read_only_mode, parent, parent_spots, committed_spots, Volume}
use Rattle.machine_rules.specs.declared.Setting.{Setting}
use Rattle.machine_rules.specs.Seats.{seats_of}
use Rattle.machine_rules.specs.Roots.{root_of, root_at, root_on_disk}
use Rattle.machine_rules.specs.Inputs.{data_in, nth, args_of}
use Rattle.machine_rules.specs.declared.Args.{Args}
use Rattle.machine_rules.specs.Plan.{Source, spots, source_of, touched, new_size, output_count, record_count}
use Rattle.machine_rules.specs.Effect.{ground_of, Staging, effect, rehashed}
use Rattle.machine_rules.specs.Record.{pair_of, starting_pair, running_pair, record_bytes, failure_bytes, output_of, success_bytes}
use Rattle.machine_rules.specs.Run.{failed_progress, failing, ran_progress, succeeding, stepped, going, run, turned}
use Rattle.machine_rules.specs.Facts.{Good, Solid}
use Rattle.machine_rules.specs.Sound.{right, staged_right}
use Rattle.machine_rules.specs.Plan.{Plan}
use Rattle.machine_rules.proofs.Laws.Passed.{plan_fine, Passed, can, stepped-ran, stepped-failed, stepped-either}
use Rattle.machine_rules.proofs.Laws.Steps.{not-failed, left-going}
use Rattle.machine_rules.proofs.Laws.Copies.{few-sectors}
use Rattle.machine_rules.proofs.Laws.Kept.{ran-good}
use Rattle.machine_rules.proofs.Laws.Wrote.{Wrote, wrote-effect}
use Rattle.machine_rules.proofs.Laws.Rehashed.{rehashed-right}
use Rattle.machine_rules.proofs.Laws.Areas.{rehashed-length}
use Rattle.machine_rules.proofs.Laws.Readers.{agree, root-agree, proof-agree, all_start, all-seats, all-parent, all-source}
use Rattle.machine_rules.proofs.Laws.Readers.{with_way, Known, known-disk, known-stage}
use Rattle.machine_rules.proofs.Laws.Checks.{source-alike, judged-alike}
use Rattle.sia.specs.declared.Op.{Op}
use Rattle.sia.specs.declared.Op.TheVariants.{Read, ReadSector, Write, Copy, Swap, Truncate, Unknown}
use Rattle.sia.specs.declared.Instruction.{Instruction}
use Rattle.host.specs.declared.Progress.{Progress}
use Rattle.machine_rules.specs.declared.Spot.{Spot}

write-full : (l : List (List ℕ)) → length (data_in l) ≡ (args_of Write l).len
unfolding args_of data_in
write-full l = length-drop 8 (nth l 1)

args-full : (op : Op) (l : List (List ℕ)) → op ≡ Write → length (data_in l) ≡ (args_of op l).len
args-full op l e = subst (λ (o : Op). length (data_in l) ≡ (args_of o l).len) (sym e) (write-full l)

-- ---- a failure

failure-alike : (s : Setting) (vol : Volume) (n : ℕ) → every (right s.sector vol.disk vol.roots) (taken s.sector s.places) ≡ true
    → failure_bytes s (with_way kept vol) n
    ≡ failure_bytes s (with_way worked vol) n
unfolding failure_bytes starting_pair pair_of parent with_way
failure-alike s vol n h =
    ap (λ (r : List ℕ). record_bytes n 0 (record { size = (parent s).size; root = r }) 0 [] 0 [])
    (root-agree (root_on_disk s (with_way kept vol)) (root_on_disk s (with_way worked vol)) (committed_spots s.sector (parent s))
    (all_start s _ (known-disk s vol [] [] h)))

pub failing-alike : (s : Setting) (vol : Volume) (n : ℕ) (t : Turn) → every (right s.sector vol.disk vol.roots) (taken s.sector s.places) ≡ true
    → failing s (with_way kept vol) n t ≡ failing s (with_way worked vol) n t
unfolding failing
failing-alike s vol n t h =
    ap (λ (b : List ℕ). record { progress = failed_progress t.progress; stage = t.stage; roots = t.roots; bytes = b }) (failure-alike s vol n h)

-- ---- an instruction that runs

success-alike : (s : Setting) (vol : Volume) (f r : Spot → List ℕ) (w : Plan) (p : Progress) (asked : Bool) (l : List Spot) (op : Op) (a : Args)
    (stage : List ℕ) → every (agree f r) (parent_spots s p) ≡ true → every (agree f r) l ≡ true
    → success_bytes s (with_way kept vol) f w p asked l op a stage ≡ success_bytes s (with_way worked vol) r w p asked l op a stage
unfolding success_bytes running_pair with_way
success-alike s vol f r w p asked l op a stage u v =
    ap₂ (λ (x y : List ℕ). record_bytes 0 w.cost (record { size = p.size; root = x }) w.hashes (pick asked y [])
    (output_count op a) (pick (eqb (output_count op a) 0) [] (output_of s.sector vol.disk stage l a)))
    (root-agree f r _ u) (proof-agree s.sector f r vol.disk stage l a.first a.len v)

module _ (s : Setting) (vol : Volume) (t : Turn) (solid : Solid s (with_way kept vol)) (good : Good s t.progress)
    (known : Known s (with_way kept vol) t) where
  unfoldable after : Op → Args → List ℕ → Staging
  after op a d = effect s.sector (ground_of s (with_way kept vol)) t.progress.size op a d (record { staged = t.progress.staged; bytes = t.stage })

  unfoldable copies : Op → Args → List ℕ → List ℕ
  copies op a d = rehashed s.sector (after op a d) (touched s.sector t.progress.size op a) t.roots

  disk-known : every (right s.sector vol.disk vol.roots) (taken s.sector s.places) ≡ true
  unfolding with_way
  disk-known = known.disk

  now_agree : every (λ x. agree (root_at s (with_way kept vol) t) (root_at s (with_way worked vol) t) x.spot) (seats_of s t.progress) ≡ true
  unfolding with_way seats_of read_only_mode parent_spots parent
  now_agree =
      all-seats s (with_way kept vol) t.progress solid good.orderly.staged (few-sectors s t.progress solid.lent good)
      good.entries known.shaped _
      (known-disk s vol t.stage t.roots disk-known) (known-stage s vol t.stage t.roots t.progress.staged known.stage)

  source-same : (op : Op) (key : List ℕ) → source_of s (root_at s (with_way kept vol) t) t.progress op key
      ≡ source_of s (root_at s (with_way worked vol) t) t.progress op key
  source-same op key = source-alike s _ _ t.progress op key now_agree

  -- what is read is read with roots that are right
  source-after : (op : Op) (a : Args) (d : List ℕ) (r : Spot → List ℕ) (key : List ℕ)
      → every (agree (root_of s (with_way kept vol) (after op a d).bytes (copies op a d))
      (root_of s (with_way worked vol) (after op a d).bytes (copies op a d)))
      (spots (source_of s r t.progress op key)) ≡ true
  unfolding after copies effect touched rehashed with_way spots source_of
  source-after Read a d r key =
      all-source s (with_way kept vol) t.progress solid good.orderly.staged (few-sectors s t.progress solid.lent good)
      good.entries known.shaped _
      (known-disk s vol t.stage t.roots disk-known) (known-stage s vol t.stage t.roots t.progress.staged known.stage) r Read key
  source-after ReadSector a d r key =
      all-source s (with_way kept vol) t.progress solid good.orderly.staged (few-sectors s t.progress solid.lent good)
      good.entries known.shaped _
      (known-disk s vol t.stage t.roots disk-known) (known-stage s vol t.stage t.roots t.progress.staged known.stage) r ReadSector key
  source-after Write a d r key = every-none _
  source-after Copy a d r key = every-none _
  source-after Swap a d r key = every-none _
  source-after Truncate a d r key = every-none _
  source-after Unknown a d r key = every-none _

  module _ (op : Op) (a : Args) (d : List ℕ) (asked : Bool) (n : ℕ) {r : Spot → List ℕ}
      (passes : Passed s r t.progress op a (record_count s.sector asked n op a)) (full : op ≡ Write → length d ≡ a.len)
      (run : going s.terms t.progress ≡ true) where
    abbrev plan : Plan
    plan = plan_fine s t.progress asked n op a

    ran-well : Good s (ran_progress t.progress plan (after op a d).staged)
    unfolding after with_way
    ran-well = ran-good s (with_way kept vol) t.progress asked n op a d t.stage solid.lent (not-failed s t run)
        (left-going s t run).1 passes good

    few-new : new_size t.progress.size op a ≤ length t.progress.staged * s.sector
    few-new = le_trans (omega (arith, passes.fits)) (mul-le-mul_right {m = s.disksectors} {n = length t.progress.staged} s.sector
        (omega (arith, solid.lent.most, good.entries)))

    wrote : Wrote s.sector (touched s.sector t.progress.size op a) (record { staged = t.progress.staged; bytes = t.stage }) (after op a d)
    unfolding after
    wrote =
        wrote-effect s.sector (ground_of s (with_way kept vol)) t.progress.size (record { staged = t.progress.staged; bytes = t.stage })
        (Slots.some s.sector solid.lent.size) good.orderly.whole
        (omega (arith, few-sectors s t.progress solid.lent good, good.entries)) _ op a d passes.spans full few-new

    -- the roots beside the stage's slots are right again
    staged-right : staged_right s.sector (after op a d).bytes (copies op a d) (after op a d).staged ≡ true
    unfolding copies ran_progress
    staged-right = rehashed-right s.sector _ t.roots _ (after op a d) s.stagesectors _ _ wrote solid.lent.few ran-well.orderly.staged
        known.kept known.stage

    parent-agree : every (agree (root_of s (with_way kept vol) (after op a d).bytes (copies op a d))
        (root_of s (with_way worked vol) (after op a d).bytes (copies op a d)))
        (parent_spots s (ran_progress t.progress plan (after op a d).staged)) ≡ true
    unfolding parent_spots parent with_way ran_progress
    parent-agree =
        all-parent s (with_way kept vol) (ran_progress t.progress plan (after op a d).staged) solid ran-well.orderly.staged
        (few-sectors s _ solid.lent ran-well) ran-well.entries known.shaped _ (known-disk s vol (after op a d).bytes (copies op a d) disk-known)
        (known-stage s vol (after op a d).bytes (copies op a d) (after op a d).staged staged-right)

    succeeding-alike : (l : List Spot)
        → every (agree (root_of s (with_way kept vol) (after op a d).bytes (copies op a d))
        (root_of s (with_way worked vol) (after op a d).bytes (copies op a d))) l ≡ true
        → succeeding s (with_way kept vol) plan asked l op a d t ≡ succeeding s (with_way worked vol) plan asked l op a d t
    unfolding succeeding after copies parent with_way
    succeeding-alike l u =
        ap (λ (b : List ℕ). record {
          progress = ran_progress t.progress plan (after op a d).staged;
          stage = (after op a d).bytes;
          roots = copies op a d;
          bytes = b;
        }) (success-alike s vol _ _ plan _ asked l op a (after op a d).bytes parent-agree u)

    known-ran : (l : List Spot) → Known s (with_way kept vol) (turned t (succeeding s (with_way kept vol) plan asked l op a d t))
    unfolding turned succeeding ran_progress after copies
    known-ran l = record { disk = known.disk; stage = staged-right; kept = rehashed-length s.sector _ _ t.roots ∙ known.kept; shaped = known.shaped }

  known-failing : (n : ℕ) → Known s (with_way kept vol) (turned t (failing s (with_way kept vol) n t))
  unfolding turned failing failed_progress
  known-failing n = record { disk = known.disk; stage = known.stage; kept = known.kept; shaped = known.shaped }

  -- one instruction, whichever it is: the kept roots give what document 01 says
  pub stepped-alike : (i : Instruction) (l : List (List ℕ)) → going s.terms t.progress ≡ true → stepped s (with_way kept vol) i l t
      ≡ stepped s (with_way worked vol) i l t
  stepped-alike i l run =
      let op = op_of i.name in
      let a = args_of (op_of i.name) l in
      let e = judged-alike s _ _ t.progress i l now_agree in
      stepped-either s (with_way kept vol) i l t (λ x. x ≡ stepped s (with_way worked vol) i l t)
      (λ u. succeeding-alike op a (data_in l) i.proof _ (can s (root_at s (with_way kept vol) t) t.progress i l u).passed (args-full op l) run _
      (source-after op a (data_in l) (root_at s (with_way kept vol) t) a.key)
      ∙ ap (λ (x : Source). succeeding s (with_way worked vol) (plan_fine s t.progress i.proof (length (spots x)) op a) i.proof (spots x) op a
      (data_in l) t)
      (source-same op a.key)
      ∙ sym (stepped-ran s (with_way worked vol) i l t (sym e ∙ u)))
      (λ u. failing-alike s vol _ t disk-known
      ∙ ap (λ (n : ℕ). failing s (with_way worked vol) n t) e
      ∙ sym (stepped-failed s (with_way worked vol) i l t (λ q. u (e ∙ q))))

  -- and it leaves roots that are right
  pub stepped-known : (i : Instruction) (l : List (List ℕ)) → going s.terms t.progress ≡ true
      → Known s (with_way kept vol) (turned t (stepped s (with_way kept vol) i l t))
  stepped-known i l run =
      stepped-either s (with_way kept vol) i l t (λ x. Known s (with_way kept vol) (turned t x))
      (λ u. known-ran (op_of i.name) (args_of (op_of i.name) l) (data_in l) i.proof _
      (can s (root_at s (with_way kept vol) t) t.progress i l u).passed (args-full (op_of i.name) l) run _)
      (λ _. known-failing _)
