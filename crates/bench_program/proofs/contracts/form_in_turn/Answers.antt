-- `bench_program::contracts::form_in_turn` meets its contract. The loop's invariant: what all ids come to is what those come to that are left, on the
-- host that was made so far. Assumes nothing.
use Rattle.lists.proofs.Kit.{◌≡◌, refl, sym, ap, ◌∙◌, ℕ, ◌-◌, ◌*◌, ◌/◌, div-add-mod', arith, length}
use Rattle.lists.specs.Tab.{tab}
use Rattle.area.specs.Area.{part}
use Rattle.host.specs.Calls.{formed}
use Rattle.host.proofs.Laws.Refusals.{number-not}
use Rattle.bench_program.specs.Single.{ids_in, formed_in_turn}
use Rattle.bench_program.proofs.Laws.Turns.{turn-refused, turn-formed, turn-none}
use Rattle.bench_program.proofs.contracts.form_in_turn.Goals as goal

pub loop-i-init : goal.loop-i-init
loop-i-init c =
    let ids = c.args.ids.now in
    let e : length ids / 32 ≡ length ids / 32 - 0 = omega arith in
    ap (λ (n : ℕ). formed_in_turn c.args.host.now (tab 0 n (λ k. part ids (k * 32) 32))) e

pub returns-in-Err : goal.returns-in-Err
unfolding ids_in
returns-in-Err c =
    turn-refused _ _ _ _ c.loop-i-test.true (c.in-Err.ensures ∙ ap (formed _) c.id_at-id.ensures) (number-not c.in-Err.why)
    ∙ sym c.loop-i.invariant

pub loop-i-preserved : goal.loop-i-preserved
loop-i-preserved c =
    c.loop-i.invariant
    ∙ turn-formed _ _ _ _ c.loop-i-test.true (c.in-Ok.ensures ∙ ap (formed _) c.id_at-id.ensures) refl

pub overflow_mul-i : goal.overflow_mul-i
unfolding ids_in
overflow_mul-i c = omega (arith, div-add-mod' (length c.args.ids.now) 32)

pub id_at-id-requires : goal.id_at-id-requires
unfolding ids_in
id_at-id-requires c = omega (arith, div-add-mod' (length c.args.ids.now) 32)

pub returns : goal.returns
unfolding ids_in
returns c = turn-none _ _ _ _ c.loop-i-test.false ∙ sym c.loop-i.invariant
