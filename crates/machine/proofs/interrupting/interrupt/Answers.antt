-- `machine::interrupting::interrupt` meets its contract: refused, stopped, or at its end already. Assumes nothing.
use Rattle.std.proofs.Common.{rules, Err}
use Rattle.lists.proofs.Kit.{◌≡◌, refl, sym, ap, ◌∙◌}
use Rattle.lists.proofs.Laws.Pick.{yes, no}
use Rattle.host.proofs.Laws.Refusals.{number-not}
use Rattle.machine_rules.specs.Calls.{interrupted, interrupt_by}
use Rattle.machine_rules.proofs.Laws.Refusals.{past-zero, interrupt-own}
use Rattle.machine.specs.Asks.{interrupt_leaves}
use Rattle.machine.proofs.Laws.Hosts.{refusal-told, stops, goes_on, stopped-any}
use Rattle.machine.proofs.interrupting.interrupt.Goals as goal

pub returns-in_err-refusal : goal.returns-in_err-refusal
unfolding interrupt_by
returns-in_err-refusal c =
    let a = c.args in
    let why = c.in_err-refusal.field-0.0 in
    let is : c.from_residual.result ≡ Err why = search rules in
    stops (λ n. interrupted n 0 a.host a.output.now) _
    (refusal-told a.host c.in_err-refusal.ensures c.in_order-ordered.ensures c.interrupt_lent-lent.ensures)
    (number-not why) (ap (λ r. interrupt_leaves a.host r a.output.now) is)

pub stop-requires : goal.stop-requires
stop-requires c =
    let p = past-zero c.args.host _
    (sym (refusal-told c.args.host c.in_ok-refusal.ensures c.in_order-ordered.ensures c.interrupt_lent-lent.ensures)) in
    record { order = p.order; live = p.live; output = interrupt-own _ _ _ p.areas p.live; going = sym c.if-going.ensures }

pub returns-then-going : goal.returns-then-going
unfolding interrupt_by
returns-then-going c =
    let a = c.args in
    goes_on _ _ (refusal-told a.host c.in_ok-refusal.ensures c.in_order-ordered.ensures c.interrupt_lent-lent.ensures) refl
    (yes _ _ _ (sym c.if-going.ensures) (c.stop.ensures ∙ stopped-any a.host a.disk.now a.output.now))

pub returns : goal.returns
unfolding interrupt_by
returns c =
    goes_on _ _ (refusal-told c.args.host c.in_ok-refusal.ensures c.in_order-ordered.ensures c.interrupt_lent-lent.ensures) refl
    (no _ _ _ (sym c.if-going.ensures) refl)
