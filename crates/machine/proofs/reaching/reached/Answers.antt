-- `machine::reaching::reached` meets its contract: refused, or what is reached. Assumes nothing.
use Rattle.std.proofs.Common.{rules, Err}
use Rattle.lists.proofs.Kit.{◌≡◌, refl, sym, ap, ◌∙◌}
use Rattle.host.proofs.Laws.Refusals.{number-not}
use Rattle.machine_rules.specs.View.{disk_right, areas_right}
use Rattle.machine_rules.specs.Calls.{no_pair, reached_at, reached_by}
use Rattle.machine_rules.proofs.Laws.Refusals.{past-zero}
use Rattle.machine.specs.Asks.{reached_of}
use Rattle.machine.proofs.Laws.Hosts.{refusal-told, stops, goes_on, reached-any}
use Rattle.machine.proofs.reaching.reached.Goals as goal

pub returns-in_err-refusal : goal.returns-in_err-refusal
unfolding reached_by areas_right disk_right
returns-in_err-refusal c =
    let why = c.in_err-refusal.field-0.0 in
    let is : c.from_residual.result ≡ Err why = search rules in
    stops (λ n. reached_at n no_pair) _ (refusal-told c.args.host c.in_err-refusal.ensures c.in_order-ordered.ensures c.areas_right-lent.ensures)
    (number-not why) (ap reached_of is)

pub reach-requires : goal.reach-requires
unfolding areas_right disk_right
reach-requires c =
    let p = past-zero c.args.host _
    (sym (refusal-told c.args.host c.in_ok-refusal.ensures c.in_order-ordered.ensures c.areas_right-lent.ensures)) in
    record { host_value = p.order; active_value = p.live }

pub returns : goal.returns
unfolding reached_by areas_right disk_right
returns c =
    let a = c.args in
    goes_on _ _ (refusal-told a.host c.in_ok-refusal.ensures c.in_order-ordered.ensures c.areas_right-lent.ensures) refl
    (ap (reached_at 0) (c.reach.ensures ∙ reached-any a.host a.disk.now a.stage.now))
