-- `machine::piecing::piece` meets its contract: refused, passing the declared length, or accepted. Assumes nothing.
use Rattle.std.proofs.Common.{rules, Err}
use Rattle.lists.proofs.Kit.{◌≡◌, refl, sym, ap, ltb-false}
use Rattle.lists.proofs.Laws.Pick.{yes, no}
use Rattle.host.proofs.Laws.Order.{came-within}
use Rattle.host.proofs.Laws.Refusals.{number-not}
use Rattle.machine_rules.specs.Calls.{pieced, piece_lent, piece_by}
use Rattle.machine_rules.proofs.Laws.Refusals.{Past, past-zero, piece-areas, piece-own}
use Rattle.machine.specs.Asks.{piece_leaves}
use Rattle.machine.proofs.Laws.Hosts.{refusal-told, stops, goes_on}
use Rattle.machine.proofs.piecing.piece.Goals as goal

pub returns-in_err-refusal : goal.returns-in_err-refusal
unfolding piece_by
returns-in_err-refusal c =
    let a = c.args in
    let why = c.in_err-refusal.field-0.0 in
    let is : c.from_residual.result ≡ Err why = search rules in
    stops (λ n. pieced n 0 a.host a.stage.now a.input.now a.output.now) _
    (refusal-told a.host c.in_err-refusal.ensures c.in_order-ordered.ensures c.piece_lent-lent.ensures)
    (number-not why) (ap (λ r. piece_leaves a.host r a.stage.now a.input.now a.output.now) is)

pub passes-requires : goal.passes-requires
passes-requires c =
    let p = past-zero c.args.host _
    (sym (refusal-told c.args.host c.in_ok-refusal.ensures c.in_order-ordered.ensures c.piece_lent-lent.ensures)) in
    came-within _ p.order p.live

pub returns-then-passes : goal.returns-then-passes
unfolding piece_by
returns-then-passes c =
    goes_on _ _ (refusal-told c.args.host c.in_ok-refusal.ensures c.in_order-ordered.ensures c.piece_lent-lent.ensures) refl
    (yes _ _ _ (sym c.if-passes.ensures) refl)

pub accept-requires : goal.accept-requires
accept-requires c =
    let p = past-zero c.args.host _
    (sym (refusal-told c.args.host c.in_ok-refusal.ensures c.in_order-ordered.ensures c.piece_lent-lent.ensures)) in
    let own = piece-own _ _ _ _ _ p.areas p.live in
    record {
      ready = record { order = p.order; areas = piece-areas _ _ _ _ _ p.areas; live = p.live };
      inputs = own.0;
      outputs = own.1;
      fits = ltb-false _ _ (sym c.if-passes.ensures);
    }

pub returns : goal.returns
unfolding piece_by
returns c =
    goes_on _ _ (refusal-told c.args.host c.in_ok-refusal.ensures c.in_order-ordered.ensures c.piece_lent-lent.ensures) refl
    (no _ _ _ (sym c.if-passes.ensures) c.accept.ensures)
