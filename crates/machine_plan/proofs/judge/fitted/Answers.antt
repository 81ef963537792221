-- `machine_plan::judge::fitted` meets its contract: a walk down the definition. Assumes nothing.
use Rattle.lists.proofs.Kit.{◌≡◌, refl, sym, ap, ap₂, ◌∙◌, not, false, ℕ, ◌+◌, ◌*◌, ◌≤◌, arith, ltb, ltb-false}
use Rattle.lists.proofs.Laws.Pick.{yes, no}
use Rattle.host.specs.Places.{others}
use Rattle.machine_rules.specs.View.{free_copies}
use Rattle.machine_rules.specs.Plan.{fitted, wanted, new_size, record_count}
use Rattle.machine_plan.proofs.Laws.Weighed.{not-leb}
use Rattle.machine_plan.proofs.judge.fitted.Goals as goal
use Rattle.machine_plan.proofs.judge.fitted.Goals.{After-record_above, After-too_few, Else-record_above, Else-too_few, Start}

-- ---- what the calls gave, in the definitions' words
-- 40
slots : (c : After-too_few) → let a = c.args in
    ltb (free_copies a.setting.now a.p) (wanted a.setting.now.sector a.p a.op a.args) ≡ c.too_few.result
unfolding free_copies
slots c = sym c.too_few.ensures

-- 41
disk : (s : Start) → let a = s.args in
    ltb (a.setting.now.disksectors * a.setting.now.sector)
    (new_size a.p.size a.op a.args + others a.setting.now.terms.head.contract a.setting.now.places) ≡ not a.fits
disk s =
    let a = s.args in
    not-leb (new_size a.p.size a.op a.args + others a.setting.now.terms.head.contract a.setting.now.places)
    (a.setting.now.disksectors * a.setting.now.sector) ∙ ap not (sym s.requires.fits_value)

room : (c : After-record_above) → let a = c.args in
    ltb a.setting.now.terms.room (a.p.written + record_count a.setting.now.sector a.asked a.seen a.op a.args + 72) ≡ c.record_above.result
unfolding record_count
room c =
    let a = c.args in
    ap₂ (λ (h o : ℕ). ltb a.setting.now.terms.room (a.p.written + (72 + 32 * h + o) + 72)) (sym c.proof_count-hashes.ensures)
    (sym c.output_count-output.ensures)
    ∙ sym c.record_above.ensures

-- the record is within the room
short : (c : Else-record_above) → c.args.p.written + (72 + 32 * c.proof_count-hashes.result + c.output_count-output.result) + 72 ≤ 65536
short c =
    let k = c.args.p.written + (72 + 32 * c.proof_count-hashes.result + c.output_count-output.result) + 72 in
    let fits : k ≤ c.args.setting.now.terms.room = ltb-false c.args.setting.now.terms.room k (sym c.record_above.ensures ∙ c.if-record_above.false) in
    let most : c.args.setting.now.terms.room ≤ 65536 = c.requires.room_bound in
    omega arith

-- ---- the checks that did not apply
enough : (c : Else-too_few) → let a = c.args in
    ltb (free_copies a.setting.now a.p) (wanted a.setting.now.sector a.p a.op a.args) ≡ false
enough c = slots (goal.at.Else-too_few c).After-too_few ∙ c.if-too_few.false

-- ---- the rules
pub returns-then-not-fits : goal.returns-then-not-fits
unfolding fitted
returns-then-not-fits c =
    no _ _ _ (enough (goal.at.returns-then-not-fits c).Else-too_few)
    (yes _ _ _ (disk (goal.at.returns-then-not-fits c).Start ∙ (ap not c.if-not-fits.true)) refl)

pub returns-then-record_above : goal.returns-then-record_above
unfolding fitted
returns-then-record_above c =
    no _ _ _ (enough (goal.at.returns-then-record_above c).Else-too_few)
    (no _ _ _ (disk (goal.at.returns-then-record_above c).Start ∙ (ap not c.if-not-fits.false))
    (yes _ _ _ (room (goal.at.returns-then-record_above c).After-record_above ∙ c.if-record_above.true) refl))

pub returns : goal.returns
unfolding fitted record_count
returns c =
    no _ _ _ (enough (goal.at.returns c).Else-too_few) (no _ _ _ (disk (goal.at.returns c).Start ∙ (ap not c.if-not-fits.false))
    (no _ _ _ (room (goal.at.returns c).After-record_above ∙ c.if-record_above.false)
    (λ i. record {
      number = 0;
      cost = c.args.cost;
      size = c.new_size-size.ensures i;
      hashes = c.proof_count-hashes.ensures i;
      count = 72 + 32 * c.proof_count-hashes.ensures i + c.output_count-output.ensures i;
    })))

pub returns-then-too_few : goal.returns-then-too_few
unfolding fitted
returns-then-too_few c = yes _ _ _ (slots (goal.at.returns-then-too_few c).After-too_few ∙ c.if-too_few.true) refl

pub overflow_mul-count : goal.overflow_mul-count
unfolding fitted
overflow_mul-count c = omega (arith, short c)

pub overflow_add-count : goal.overflow_add-count
unfolding fitted
overflow_add-count c = omega (arith, short c)

pub overflow_add-count-2 : goal.overflow_add-count-2
unfolding fitted
overflow_add-count-2 c = omega (arith, short c)
