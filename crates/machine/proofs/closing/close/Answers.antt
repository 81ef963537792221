-- `machine::closing::close` meets its contract: refused, given up, not ended, or what the pairs say. Assumes nothing.
use Rattle.std.proofs.Common.{rules, Ok, Err}
use Rattle.lists.proofs.Kit.{◌≡◌, refl, sym, ap, not}
use lib.IntN.{pos}
use Rattle.lists.proofs.Laws.Pick.{yes, no}
use Rattle.host.proofs.Laws.Refusals.{number-not}
use Rattle.machine_rules.specs.View.{disk_right, areas_right}
use Rattle.machine_rules.specs.Commit.{closed, given_up, close_by}
use Rattle.machine_rules.proofs.Laws.Refusals.{past-zero}
use Rattle.machine.specs.Closes.{close_leaves}
use Rattle.machine.proofs.Laws.Hosts.{refusal-told, stops, goes_on}
use Rattle.machine.proofs.closing.close.Goals as goal

pub returns-in_err-refusal : goal.returns-in_err-refusal
unfolding close_by areas_right disk_right
returns-in_err-refusal c =
    let a = c.args in
    let why = c.in_err-refusal.field-0.0 in
    let is : c.from_residual.result ≡ Err why = search rules in
    stops (λ n. closed n 0 (pos 0) a.host a.disk.now) _
    (refusal-told a.host c.in_err-refusal.ensures c.in_order-ordered.ensures c.areas_right-lent.ensures)
    (number-not why) (ap (λ r. close_leaves a.host r a.disk.now) is)

pub returns-then-not-agree : goal.returns-then-not-agree
unfolding close_by given_up areas_right disk_right
returns-then-not-agree c =
    goes_on _ _ (refusal-told c.args.host c.in_ok-refusal.ensures c.in_order-ordered.ensures c.areas_right-lent.ensures) refl
    (yes _ _ _ (ap not c.if-not-agree.true) (ap (λ r. close_leaves c.args.host (Ok r) c.args.disk.now) c.give_up.ensures))

pub returns-then-unfinished : goal.returns-then-unfinished
unfolding close_by areas_right disk_right
returns-then-unfinished c =
    goes_on _ _ (refusal-told c.args.host c.in_ok-refusal.ensures c.in_order-ordered.ensures c.areas_right-lent.ensures) refl
    (no _ _ _ (ap not c.if-not-agree.false) (yes _ _ _ (sym c.if-unfinished.ensures) refl))

pub agree_to-requires : goal.agree_to-requires
unfolding areas_right disk_right
agree_to-requires c =
    let p = past-zero c.args.host _
    (sym (refusal-told c.args.host c.in_ok-refusal.ensures c.in_order-ordered.ensures c.areas_right-lent.ensures)) in
    record { order = p.order; areas = p.areas; live = p.live }

pub returns : goal.returns
unfolding close_by areas_right disk_right
returns c =
    goes_on _ _ (refusal-told c.args.host c.in_ok-refusal.ensures c.in_order-ordered.ensures c.areas_right-lent.ensures) refl
    (no _ _ _ (ap not c.if-not-agree.false) (no _ _ _ (sym c.if-unfinished.ensures) c.agree_to.ensures))
