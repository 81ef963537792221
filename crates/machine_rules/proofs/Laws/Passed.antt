-- What is known of an instruction that can run: no check applied, and its plan is what it costs and changes. Assumes nothing.
use Rattle.lists.proofs.Kit.{◌≡◌, refl, sym, ap, ◌∙◌, subst, Bool, true, false, List, ℕ, suc, ◌+◌, ◌*◌, ◌≤◌, arith, length, eqb, eqb-true, eqb-false}
use Rattle.lists.proofs.Kit.{ne_eqb, ltb-false, not-false}
use Rattle.lists.specs.Pick.{pick, both}
use Rattle.lists.proofs.Laws.Pick.{by, picks, skips, either_left}
use Rattle.sia.specs.Names.{op_of}
use Rattle.host.specs.Places.{others}
use Rattle.machine_rules.specs.View.{Volume, Turn, read_only_mode, free_copies}
use Rattle.machine_rules.specs.Inputs.{ill_formed, past_end, well_formed, data_in, args_of}
use Rattle.machine_rules.specs.Roots.{root_at}
use Rattle.machine_rules.specs.Kinds.{changes, reads}
use Rattle.machine_rules.specs.Plan.{spots, source_of, bad_spans, bad_proof, cost, wanted, new_size, proof_count, record_count}
use Rattle.machine_rules.specs.Plan.{refused, fitted, weighed, planned_inputs, planned_args, planned, judged}
use Rattle.machine_rules.specs.Run.{Stepped, failing, succeeding, stepped}
use Rattle.sia.specs.declared.Op.{Op}
use Rattle.sia.specs.declared.Instruction.{Instruction}
use Rattle.host.specs.declared.Progress.{Progress}
use Rattle.machine_rules.specs.declared.Setting.{Setting}
use Rattle.machine_rules.specs.declared.Args.{Args}
use Rattle.machine_rules.specs.Plan.{Plan}
use Rattle.machine_rules.specs.declared.Spot.{Spot}

-- ---- the checks

-- one that did not apply
pub passes : (b : Bool) (n : ℕ) (r : Plan) → (pick b (refused (suc n)) r).number ≡ 0 → (b ≡ false) × (r.number ≡ 0)
unfolding pick refused
passes true n r e = absurd (omega arith)
passes false n r e = (refl, e)

pub record Passed (s : Setting) (f : Spot → List ℕ) (p : Progress) (op : Op) (a : Args) (count : ℕ) : Type 0 where
  pub allowed : both (changes op) (read_only_mode s.terms) ≡ false
  pub spans : bad_spans s.sector p.size (length (spots (source_of s f p op a.key))) op a ≡ false
  pub paid : p.tally + cost s.terms.head.length s.terms.prices op a.len ≤ s.terms.budget
  pub free : wanted s.sector p op a ≤ free_copies s p
  pub fits : new_size p.size op a + others s.terms.head.contract s.places ≤ s.disksectors * s.sector
  pub room : p.written + count + 72 ≤ s.terms.room

-- the plan of an instruction that can run: so many sectors are read
abbrev pub plan_fine : Setting → Progress → Bool → ℕ → Op → Args → Plan
plan_fine s p asked n op a = record {
  number = 0;
  cost = cost s.terms.head.length s.terms.prices op a.len;
  size = new_size p.size op a;
  hashes = proof_count s.sector asked n a;
  count = record_count s.sector asked n op a;
}

-- an instruction that can run, with its inputs
pub record Can (s : Setting) (f : Spot → List ℕ) (p : Progress) (i : Instruction) (l : List (List ℕ)) : Type 0 where
  pub formed : ill_formed i ≡ false
  pub within : past_end s.terms.head.length i ≡ false
  pub told : well_formed (op_of i.name) l ≡ true
  pub provable : both i.proof (bad_proof (op_of i.name) (args_of (op_of i.name) l)) ≡ false
  pub passed : let op = op_of i.name in let n = length (spots (source_of s f p op (args_of op l).key)) in
      Passed s f p op (args_of op l) (record_count s.sector i.proof n op (args_of op l))
  pub plan : let op = op_of i.name in let n = length (spots (source_of s f p op (args_of op l).key)) in
      planned s f p i l ≡ plan_fine s p i.proof n op (args_of op l)

-- down the chain of checks, once
pub can : (s : Setting) (f : Spot → List ℕ) (p : Progress) (i : Instruction) (l : List (List ℕ)) → judged s f p i l ≡ 0 → Can s f p i l
unfolding judged planned planned_inputs planned_args weighed fitted
can s f p i l e =
    let c21 = passes _ 20 _ e in
    let c22 = passes _ 21 _ c21.1 in
    let c23 = passes _ 22 _ c22.1 in
    let c24 = passes _ 23 _ c23.1 in
    let c25 = passes _ 24 _ c24.1 in
    let c26 = passes _ 25 _ c25.1 in
    let c27 = passes _ 26 _ c26.1 in
    let c28 = passes _ 27 _ c27.1 in
    let c40 = passes _ 39 _ c28.1 in
    let c41 = passes _ 40 _ c40.1 in
    let c42 = passes _ 41 _ c41.1 in
    record {
      formed = c21.0;
      within = c22.0;
      told = not-false _ c23.0;
      provable = c27.0;
      passed = record {
        allowed = c24.0;
        spans = c26.0;
        paid = ltb-false _ _ c28.0;
        free = ltb-false _ _ c40.0;
        fits = ltb-false _ _ c41.0;
        room = ltb-false _ _ c42.0;
      };
      plan = skips _ _ _ c21.0 ∙ skips _ _ _ c22.0 ∙ skips _ _ _ c23.0 ∙ skips _ _ _ c24.0 ∙ skips _ _ _ c25.0 ∙ skips _ _ _ c26.0
          ∙ skips _ _ _ c27.0 ∙ skips _ _ _ c28.0 ∙ skips _ _ _ c40.0 ∙ skips _ _ _ c41.0 ∙ skips _ _ _ c42.0;
    }

-- 27: where a proof is asked, one can be made, of what is read
pub asked-right : {s : Setting} {f : Spot → List ℕ} {p : Progress} {i : Instruction} {l : List (List ℕ)} → Can s f p i l → i.proof ≡ true
    → bad_proof (op_of i.name) (args_of (op_of i.name) l) ≡ false
asked-right {i = i} c h = sym (picks i.proof _ false h) ∙ c.provable

pub asked-reads : {s : Setting} {f : Spot → List ℕ} {p : Progress} {i : Instruction} {l : List (List ℕ)} → Can s f p i l → i.proof ≡ true
    → reads (op_of i.name) ≡ true
unfolding bad_proof
asked-reads c h = not-false _ (either_left _ _ (asked-right c h))

-- ---- so a step is one of two things

module _ (s : Setting) (vol : Volume) (i : Instruction) (l : List (List ℕ)) (t : Turn) where
  abbrev pub number : ℕ
  number = judged s (root_at s vol t) t.progress i l

  abbrev pub op : Op
  op = op_of i.name

  abbrev pub from : List Spot
  from = spots (source_of s (root_at s vol t) t.progress op (args_of op l).key)

  -- what it leaves where it can run
  abbrev pub ran : Stepped
  ran = succeeding s vol (plan_fine s t.progress i.proof (length from) op (args_of op l)) i.proof from op (args_of op l) (data_in l) t

  pub stepped-ran : number ≡ 0 → stepped s vol i l t ≡ ran
  unfolding stepped judged
  stepped-ran e =
      picks _ _ _ (ap (λ (n : ℕ). eqb n 0) e)
      ∙ ap (λ (w : Plan). succeeding s vol w i.proof from op (args_of op l) (data_in l) t) (can s (root_at s vol t) t.progress i l e).plan

  pub stepped-failed : (number ≡ 0 → ⊥) → stepped s vol i l t ≡ failing s vol number t
  unfolding stepped judged
  stepped-failed e = skips _ _ _ (ne_eqb _ _ e)

  pub stepped-either : (P : Stepped → Type 0) → (number ≡ 0 → P ran) → ((number ≡ 0 → ⊥) → P (failing s vol number t)) → P (stepped s vol i l t)
  stepped-either P f g =
      by (eqb number 0)
      (λ e. let q = eqb-true _ _ e in subst P (sym (stepped-ran q)) (f q))
      (λ e. let q = eqb-false _ _ e in subst P (sym (stepped-failed q)) (g q))
