-- `bench_program::answer` meets its contract: 9, or what the sections ask for, which then lie within the input. Assumes nothing.
use Rattle.lists.proofs.Kit.{◌≡◌, sym, ◌∙◌, false, List, ℕ, arith}
use Rattle.bench_program.specs.Input.{number_at, wrong}
use Rattle.bench_program.proofs.Laws.Input.{right, Within, within, ids-is, head-is, data_is, answered-nine, answered-run}
use Rattle.bench_program.proofs.answer.Goals as goal
use Rattle.bench_program.proofs.answer.Goals.{After-head_end-end, After-wrong, Else-wrong}

-- ---- the places
abbrev all : After-wrong → List ℕ
all c = c.args.all.now

-- ---- what they know
passed : (c : Else-wrong) → wrong (all (goal.at.Else-wrong c).After-wrong) ≡ false
passed c = sym c.wrong.ensures ∙ c.if-wrong.false

lies : (c : After-head_end-end) → Within (all (goal.at.After-head_end-end c).After-wrong) c.ids_end-ids.result c.head_end-end.result
lies c = within _ (passed (goal.at.After-head_end-end c).Else-wrong) c.ids_end-ids.ensures c.head_end-end.ensures

pub returns-then-wrong : goal.returns-then-wrong
returns-then-wrong c =
    answered-nine _ _ _ _ _ _ c.fresh-fresh.result (sym c.wrong.ensures ∙ c.if-wrong.true) c.fresh-fresh.ensures
    c.unmade.ensures c.unwrap_or.ensures c.refused.ensures

pub returns : goal.returns
unfolding number_at
returns c =
    let whole = all (goal.at.returns c).After-wrong in
    answered-run _ whole _ _ _ _ (passed (goal.at.returns c).Else-wrong) c.prices-prices.ensures c.load-budget.ensures (ids-is whole c.ids_end-ids.ensures)
    (head-is whole c.ids_end-ids.ensures c.head_end-end.ensures) (data_is whole c.head_end-end.ensures) c.run.ensures

pub prices-prices-requires : goal.prices-prices-requires
prices-prices-requires c = passed c

pub load-budget-requires : goal.load-budget-requires
load-budget-requires c = omega (arith, (right _ (passed (goal.at.load-budget-requires c).Else-wrong)).front)

pub ids_end-ids-requires : goal.ids_end-ids-requires
ids_end-ids-requires c = passed (goal.at.ids_end-ids-requires c).Else-wrong

pub overflow_add-from : goal.overflow_add-from
overflow_add-from c = omega (arith, right _ (passed (goal.at.overflow_add-from c).Else-wrong), c.ids_end-ids.ensures)

pub head_end-end-requires : goal.head_end-end-requires
head_end-end-requires c = passed (goal.at.head_end-end-requires c).Else-wrong

pub slice_bounds-run-count : goal.slice_bounds-run-count
slice_bounds-run-count c = omega (arith, lies c)

pub slice_bounds-run-start : goal.slice_bounds-run-start
slice_bounds-run-start c = omega (arith, lies c)

pub slice_bounds-run-end : goal.slice_bounds-run-end
slice_bounds-run-end c = omega (arith, lies c)

pub slice_bounds-run-count-2 : goal.slice_bounds-run-count-2
slice_bounds-run-count-2 c = omega (arith, lies (goal.at.slice_bounds-run-count-2 c).After-head_end-end)

pub slice_bounds-run-start-2 : goal.slice_bounds-run-start-2
slice_bounds-run-start-2 c = omega (arith, lies (goal.at.slice_bounds-run-start-2 c).After-head_end-end)

pub slice_bounds-run-end-2 : goal.slice_bounds-run-end-2
slice_bounds-run-end-2 c = omega (arith, lies (goal.at.slice_bounds-run-end-2 c).After-head_end-end)

pub slice_bounds-run-count-3 : goal.slice_bounds-run-count-3
slice_bounds-run-count-3 c = omega (arith, lies (goal.at.slice_bounds-run-count-3 c).After-head_end-end)

pub slice_bounds-run-start-3 : goal.slice_bounds-run-start-3
slice_bounds-run-start-3 c = omega (arith, lies (goal.at.slice_bounds-run-start-3 c).After-head_end-end)
