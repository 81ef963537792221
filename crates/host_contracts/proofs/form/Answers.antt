-- `host_contracts::form` meets its contract: a refusal leaves the host as it was. Assumes nothing.
use Rattle.std.proofs.Common.{rules, Err}
use Rattle.lists.proofs.Kit.{◌≡◌, sym, ap, ◌∙◌}
use Rattle.host.specs.Refusals.{number_of}
use Rattle.host.specs.Calls.{Made, answered, made_of}
use Rattle.host.proofs.Laws.Refusals.{number-not}
use Rattle.host_contracts.proofs.Laws.Early.{formed-kept}
use Rattle.host_contracts.proofs.form.Goals as goal

pub returns-in_err-form_in : goal.returns-in_err-form_in
returns-in_err-form_in c =
    let why = c.in_err-form_in.field-0.0 in
    let is : c.from_residual.result ≡ Err why = search rules in
    let said : answered (number_of why) c.form_in.new.host ≡ _ = c.in_err-form_in.ensures in
    let same = ap (λ (r : Made). r.host) said ∙ formed-kept _ _ (λ e. number-not why (ap (λ (r : Made). r.number) said ∙ e)) in
    ap (made_of c.args.host) is ∙ ap (answered (number_of why)) (sym same) ∙ said

pub returns : goal.returns
returns c = c.in_ok-form_in.ensures
