-- `machine_plan::judge::weighed` meets its contract: a walk down the definition. Assumes nothing.
use Rattle.lists.proofs.Kit.{◌≡◌, refl, sym, ap, ◌∙◌, false, ℕ, ◌+◌, ◌*◌, mul-le-mul, arith, leb, ltb}
use Rattle.lists.specs.Pick.{both}
use Rattle.lists.proofs.Laws.Pick.{yes, no}
use Rattle.host.specs.Places.{others}
use Rattle.machine_rules.specs.Plan.{fitted, weighed, bad_spans, bad_proof, cost}
use Rattle.machine_plan.proofs.Laws.Numbers.{charged}
use Rattle.machine_plan.proofs.Laws.Weighed.{provable}
use Rattle.machine_plan.proofs.judge.weighed.Goals as goal
use Rattle.machine_plan.proofs.judge.weighed.Goals.{After-above, Else-asked_badly, Else-bad_spans}

-- 26
right-spans : (c : Else-bad_spans) → let a = c.args in bad_spans a.setting.now.sector a.p.size a.seen a.op a.args ≡ false
right-spans c = sym c.bad_spans.ensures ∙ c.if-bad_spans.false

-- 27
asked-well : (c : Else-asked_badly) → let a = c.args in both a.asked (bad_proof a.op a.args) ≡ false
asked-well c = sym c.asked_badly.ensures ∙ c.if-asked_badly.false

-- 28
budget : (c : After-above) → let a = c.args in
    ltb a.setting.now.terms.budget (a.p.tally + cost a.setting.now.terms.head.length a.setting.now.terms.prices a.op a.args.len)
    ≡ c.above.result
budget c =
    let a = c.args in
    ap (λ (k : ℕ). ltb a.setting.now.terms.budget (a.p.tally + k)) (sym c.cost-cost.ensures) ∙ sym c.above.ensures

-- ---- the rules
pub returns-then-asked_badly : goal.returns-then-asked_badly
unfolding weighed
returns-then-asked_badly c =
    no _ _ _ (right-spans (goal.at.returns-then-asked_badly c).Else-bad_spans) (yes _ _ _ (sym c.asked_badly.ensures ∙ c.if-asked_badly.true) refl)

pub cost-cost-requires : goal.cost-cost-requires
cost-cost-requires c =
    let spans = right-spans (goal.at.cost-cost-requires c).Else-bad_spans in
    record {
      declared_bound = c.requires.length_bound;
      small = charged _ c.requires.lent.size _ c.args.seen c.args.op c.args.args spans;
    }

pub returns-then-above : goal.returns-then-above
unfolding weighed
returns-then-above c =
    no _ _ _ (right-spans (goal.at.returns-then-above c).Else-bad_spans)
    (no _ _ _ (asked-well (goal.at.returns-then-above c).Else-asked_badly)
    (yes _ _ _ (budget (goal.at.returns-then-above c).After-above ∙ c.if-above.true) refl))

pub overflow_mul-limit : goal.overflow_mul-limit
overflow_mul-limit c = omega (arith, mul-le-mul c.requires.lent.most c.requires.lent.size.most)

pub fitted-requires : goal.fitted-requires
fitted-requires c = let a = c.args in
    let ranged = provable _ c.requires.lent.size a.p.size a.seen a.op a.args a.asked
    (right-spans (goal.at.fitted-requires c).Else-bad_spans) (asked-well (goal.at.fitted-requires c).Else-asked_badly) in
    let rest = others a.setting.now.terms.head.contract a.setting.now.places in
    let fits = c.sizes_fit-fits.ensures ∙ ap (λ (k : ℕ). leb (k + rest) (a.setting.now.disksectors * a.setting.now.sector)) c.new_size-size.ensures in
    record { lent = c.requires.lent; seen_bound = c.requires.seen_bound; room_bound = c.requires.room_bound; ranged = ranged; fits_value = fits }

pub returns : goal.returns
unfolding weighed
returns c =
    let a = c.args in
    no _ _ _ (right-spans (goal.at.returns c).Else-bad_spans)
    (no _ _ _ (asked-well (goal.at.returns c).Else-asked_badly)
    (no _ _ _ (budget (goal.at.returns c).After-above ∙ c.if-above.false)
    (c.fitted.ensures ∙ ap (fitted a.setting.now a.p a.asked a.seen a.op a.args) c.cost-cost.ensures)))

pub returns-then-bad_spans : goal.returns-then-bad_spans
unfolding weighed
returns-then-bad_spans c = yes _ _ _ (sym c.bad_spans.ensures ∙ c.if-bad_spans.true) refl
