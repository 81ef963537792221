-- `machine_plan::chain::argued` meets its contract: a walk down the definition. Assumes nothing.
use Rattle.lists.proofs.Kit.{ap₂, ◌≡◌, sym, ap, ◌∙◌, refl, false, List, ℕ, arith, length}
use Rattle.lists.specs.Pick.{both}
use Rattle.lists.proofs.Laws.Pick.{yes, no}
use Rattle.machine_rules.specs.View.{read_only_mode}
use Rattle.machine_rules.specs.Roots.{kept_root}
use Rattle.machine_rules.specs.Plan.{planned_args, weighed, seen, Source, spots, source_of}
use Rattle.machine_rules.specs.Kinds.{changes}
use Rattle.machine_rules.proofs.Laws.Few.{few-spots}
use Rattle.machine_sight.proofs.Laws.Roots.{seen-count}
use Rattle.machine_rules.specs.declared.Spot.{Spot}
use Rattle.machine_sight.specs.Seen.{spots_of}
use Rattle.machine_sight.specs.declared.Seen.{Seen}
use Rattle.machine_rules.specs.declared.failure.Failure.TheVariants.{ReadOnly, NotFound}
use Rattle.machine_plan.proofs.Laws.Lookup.{there-is, spots-are, gone}
use Rattle.machine_plan.specs.Planned.{says, argued}
use Rattle.machine_plan.proofs.Laws.Planned.{fails, says-can, length_most, room_most}
use Rattle.machine_rules.proofs.Laws.Copies.{few-sectors}
use Rattle.machine_rules.specs.Plan.{Plan}
use Rattle.machine_rules.specs.Failure.{plan_made}
use Rattle.std.proofs.lemmas.Result.{err_from_is_err_and}
use Rattle.machine_plan.proofs.chain.argued.Goals as goal
use Rattle.machine_plan.proofs.chain.argued.Goals.{After-changes_nothing, Else-changes_nothing, Start}

-- ---- what the calls gave, in the definitions' words
abbrev the-roots : Start → Spot → List ℕ
the-roots s = kept_root s.args.diskroots.now s.args.stageroots.now

abbrev the-source : Start → Source
the-source s = source_of s.args.setting.now (the-roots s) s.args.p s.args.op s.args.given.args.key

mode : (c : After-changes_nothing) → both (changes c.args.op) (read_only_mode c.args.setting.now.terms) ≡ c.changes_nothing.result
unfolding read_only_mode
mode c = sym c.changes_nothing.ensures

may : (c : Else-changes_nothing) → both (changes c.args.op) (read_only_mode c.args.setting.now.terms) ≡ false
may c = mode (goal.at.Else-changes_nothing c).After-changes_nothing ∙ c.if-changes_nothing.false

-- the source is what is seen, so many sectors
module _ (s : Start) (v : Seen) (shown : seen (spots_of v) ≡ the-source s) where
  many : length (spots (the-source s)) ≡ v.count
  many = sym (ap (λ (l : List Spot). length l) (spots-are v _ shown)) ∙ seen-count v

  -- the plan, where 24 and 25 do not apply
  planned-as : both (changes s.args.op) (read_only_mode s.args.setting.now.terms) ≡ false → {w : Plan}
      → w ≡ weighed s.args.setting.now s.args.p s.args.asked v.count s.args.op s.args.given.args
      → w ≡ planned_args s.args.setting.now (the-roots s) s.args.p s.args.asked s.args.op s.args.given.args
  unfolding planned_args
  planned-as free e =
      no _ _ _ free (no _ _ _ (there-is v _ shown)
      (e ∙ ap (λ (n : ℕ). weighed s.args.setting.now s.args.p s.args.asked n s.args.op s.args.given.args) (sym many)))

-- ---- the rules
pub source_of-requires : goal.source_of-requires
source_of-requires c = c.requires.plans.sources

pub returns-then-changes_nothing : goal.returns-then-changes_nothing
unfolding argued planned_args
returns-then-changes_nothing c =
    fails _ _ _ _ _ ReadOnly (yes _ _ _ (mode (goal.at.returns-then-changes_nothing c).After-changes_nothing ∙ c.if-changes_nothing.true) refl)

pub returns-in_default : goal.returns-in_default
unfolding argued planned_args
returns-in_default c =
    fails _ _ _ _ _ NotFound (no _ _ _ (may (goal.at.returns-in_default c).Else-changes_nothing) (yes _ _ _ (gone _ c.in_default.ensures) refl))

pub weighed-requires : goal.weighed-requires
weighed-requires c =
    let plans = c.requires.plans in
    let good = c.requires.good in
    let s = (goal.at.weighed-requires c).Start in
    let few = few-spots c.args.setting.now (the-roots s) c.args.p c.args.op c.args.given.args.key plans.sources.seeks.stand.order
    (few-sectors c.args.setting.now c.args.p plans.lent good) in
    let long = many s c.in-Some.seen c.in-Some.ensures in
    record {
      lent = plans.lent;
      seen_bound = omega (arith, few, long);
      length_bound = length_most c.args.setting.now c.args.p good;
      room_bound = room_most c.args.setting.now c.args.p good;
    }

pub returns-in_err-plan : goal.returns-in_err-plan
unfolding argued
returns-in_err-plan c =
    let s = (goal.at.returns-in_err-plan c).Start in
    let e = planned-as s c.in-Some.seen c.in-Some.ensures (may (goal.at.returns-in_err-plan c).Else-changes_nothing) c.in_err-plan.ensures in
    let p = err_from_is_err_and c.from_residual.result c.from_residual.ensures.1 in
    rw (p.1, p.2) (fails _ _ _ _ _ c.in_err-plan.field-0.0 e)

pub returns : goal.returns
unfolding argued
returns c =
    let s = (goal.at.returns c).Start in
    let shown = c.in-Some.ensures in
    let e = planned-as s c.in-Some.seen shown (may (goal.at.returns c).Else-changes_nothing) c.in_ok-plan.ensures in
    says-can (plan_made c.in_ok-plan.plan) c.args.op c.args.given.args c.args.given.from _ refl
    ∙ ap₂ (λ (w : Plan) (l : List Spot). says w c.args.op c.args.given.args c.args.given.from l) e (spots-are c.in-Some.seen _ shown)
