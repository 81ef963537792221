-- An instruction under new ids: it writes the same record, is charged the same and leaves the same stage. Assumes nothing.
use Rattle.lists.proofs.Kit.{◌≡◌, refl, ap, ◌∙◌, Bool, List, ℕ, zero, suc, length, get_or}
use Rattle.lists.specs.Pick.{pick}
use Rattle.sia.specs.Names.{op_of}
use Rattle.sia.specs.Empty.{no_instruction}
use Rattle.machine_rules.specs.View.{Turn, read_only_mode, free_copies, Volume}
use Rattle.machine_rules.specs.declared.Setting.{Setting}
use Rattle.machine_rules.specs.Inputs.{data_in, inputs_of, args_of}
use Rattle.machine_rules.specs.declared.Args.{Args}
use Rattle.machine_rules.specs.Roots.{root_of, root_at}
use Rattle.machine_rules.specs.Plan.{spots, source_of, bad_spans, bad_proof, touched, wanted}
use Rattle.machine_rules.specs.Plan.{new_size, proof_count, output_count, record_count, fitted, weighed, planned_inputs, planned_args, planned, judged}
use Rattle.machine_rules.specs.Effect.{ground_of, Staging, effect, rehashed}
use Rattle.machine_rules.specs.Record.{failure_bytes, success_bytes}
use Rattle.machine_rules.specs.Run.{failing, succeeding, stepped, current, step, going, ready, runs, run, ran_progress}
use Rattle.host.specs.Renaming.{Renaming}
use Rattle.machine_rules.specs.Renaming.{inputs_as, AsksAs}
use Rattle.host.proofs.Renaming.Places.{word-as, others-as}
use Rattle.sia.specs.declared.Op.{Op}
use Rattle.sia.specs.declared.Op.TheVariants.{Read, ReadSector, Write, Copy, Swap, Truncate, Unknown}
use Rattle.sia.specs.declared.Instruction.{Instruction}
use Rattle.host.specs.declared.Progress.{Progress}
use Rattle.machine_rules.specs.Plan.{Plan}
use Rattle.machine_rules.specs.declared.Spot.{Spot}
use Rattle.machine_rules.proofs.Renaming.Sight.{setting_as, parent-as, starting-as, running-as}
use Rattle.machine_rules.proofs.Renaming.Inputs.{with_key, touched-key, effect-key, output-key, key_as, source-as, well-as, args-as, data-as}

module _ (r : List ℕ → List ℕ) (new : Renaming r) where
  -- ---- one instruction

  from-as : (s : Setting) (p : Progress) (asked : Bool) (n : ℕ) (op : Op) (a : Args) (k : List ℕ)
      → weighed (setting_as r new s) p asked n op (with_key a k) ≡ weighed s p asked n op a
  unfolding weighed fitted bad_spans bad_proof free_copies wanted touched new_size record_count proof_count output_count
  from-as s p asked n Read a k = rw (others-as r new s.terms.head.contract s.places)
  from-as s p asked n ReadSector a k = rw (others-as r new s.terms.head.contract s.places)
  from-as s p asked n Write a k = rw (others-as r new s.terms.head.contract s.places)
  from-as s p asked n Copy a k = rw (others-as r new s.terms.head.contract s.places)
  from-as s p asked n Swap a k = rw (others-as r new s.terms.head.contract s.places)
  from-as s p asked n Truncate a k = rw (others-as r new s.terms.head.contract s.places)
  from-as s p asked n Unknown a k = rw (others-as r new s.terms.head.contract s.places)

  mode-as : (s : Setting) → read_only_mode (setting_as r new s).terms ≡ read_only_mode s.terms
  unfolding read_only_mode
  mode-as s = word-as r new s.terms.head.contract

  inputs-as : (s : Setting) (f : Spot → List ℕ) (p : Progress) (i : Instruction) (op : Op) (l : List (List ℕ))
      → planned_inputs (setting_as r new s) f p i op (inputs_as r op l) ≡ planned_inputs s f p i op l
  unfolding planned_inputs planned_args
  inputs-as s f p i op l =
      rw (
        args-as r new op l,
        well-as r new op l,
        mode-as s,
        source-as r new s f p op (args_of op l).key,
        from-as s p i.proof (length (spots (source_of s f p op (args_of op l).key))) op (args_of op l) (key_as r new op (args_of op l).key),
      )

  planned-as : (s : Setting) (f : Spot → List ℕ) (p : Progress) (i : Instruction) (l : List (List ℕ))
      → planned (setting_as r new s) f p i (inputs_as r (op_of i.name) l) ≡ planned s f p i l
  unfolding planned
  planned-as s f p i l = rw (inputs-as s f p i (op_of i.name) l)

  judged-as : (s : Setting) (f : Spot → List ℕ) (p : Progress) (i : Instruction) (l : List (List ℕ))
      → judged (setting_as r new s) f p i (inputs_as r (op_of i.name) l) ≡ judged s f p i l
  unfolding judged
  judged-as s f p i l = ap (λ (r : Plan). r.number) (planned-as s f p i l)

  pub failing-as : (s : Setting) (vol : Volume) (n : ℕ) (t : Turn) → failing (setting_as r new s) vol n t ≡ failing s vol n t
  unfolding failing failure_bytes
  failing-as s vol n t = rw (starting-as r new s vol)

  success-as : (s : Setting) (vol : Volume) (f : Spot → List ℕ) (w : Plan) (p : Progress) (asked : Bool) (l : List Spot) (op : Op) (a : Args) (k stage : List ℕ)
      → success_bytes (setting_as r new s) vol f w p asked l op (with_key a k) stage ≡ success_bytes s vol f w p asked l op a stage
  unfolding success_bytes output_count
  success-as s vol f w p asked l op a k stage = rw (running-as r new s f p, output-key s.sector vol.disk stage l a k)

  succeeding-as : (s : Setting) (vol : Volume) (w : Plan) (asked : Bool) (l : List Spot) (op : Op) (a : Args) (d : List ℕ) (t : Turn)
      → succeeding (setting_as r new s) vol w asked l op (with_key a (key_as r new op a.key)) d t ≡ succeeding s vol w asked l op a d t
  unfolding succeeding root_of
  succeeding-as s vol w asked l op a d t =
      let p = t.progress in
      let k = key_as r new op a.key in
      let g : Staging = record { staged = p.staged; bytes = t.stage } in
      let after = effect s.sector (ground_of s vol) p.size op a d g in
      rw (
        parent-as r new s,
        touched-key s.sector p.size op a k,
        effect-key s.sector (ground_of s vol) p.size op a k d g,
        success-as s vol (root_of s vol after.bytes (rehashed s.sector after (touched s.sector p.size op a) t.roots)) w
            (ran_progress p w after.staged) asked l op a k after.bytes,
      )

  pub stepped-as : (s : Setting) (vol : Volume) (i : Instruction) (l : List (List ℕ)) (t : Turn)
      → stepped (setting_as r new s) vol i (inputs_as r (op_of i.name) l) t ≡ stepped s vol i l t
  unfolding stepped root_of
  stepped-as s vol i l t =
      let op = op_of i.name in
      let f = root_at s vol t in
      let w = planned s f t.progress i l in
      rw (
        planned-as s f t.progress i l,
        args-as r new op l,
        data-as r new op l,
        source-as r new s f t.progress op (args_of op l).key,
        succeeding-as s vol w i.proof (spots (source_of s f t.progress op (args_of op l).key)) op (args_of op l) (data_in l) t,
        failing-as s vol w.number t,
      )

  -- ---- instructions in turn

  module _ (s : Setting) (vol : Volume) (input input' : List ℕ) (asks : AsksAs r s.terms.head input input') where
    step-as : (t : Turn) → step (setting_as r new s) vol input' t ≡ step s vol input t
    unfolding step current
    step-as t =
        let i = get_or s.terms.head.instructions t.progress.ran no_instruction in
        rw (asks t.progress.ran, stepped-as s vol i (inputs_of i input) t)

    runs_as : (k n : ℕ) (t : Turn) → runs (setting_as r new s) vol input' k n t ≡ runs s vol input k n t
    unfolding runs ready going current
    runs_as k zero t = refl
    runs_as k (suc n) t =
        ap (λ (x : Turn). pick (ready s k t) x t) (ap (runs (setting_as r new s) vol input' k n) (step-as t) ∙ runs_as k n (step s vol input t))

    pub run-as : (k : ℕ) (t : Turn) → run (setting_as r new s) vol input' k t ≡ run s vol input k t
    unfolding run
    run-as k t = runs_as k s.terms.head.count t
