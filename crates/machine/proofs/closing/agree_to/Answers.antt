-- `machine::closing::agree_to` meets its contract: nothing changed, or the pair named is the running one, or the changes are dropped. Assumes nothing.
use Rattle.std.proofs.Common.{Ok}
use Rattle.lists.proofs.Kit.{◌≡◌, refl, sym, ap, ap₂, ◌∙◌}
use Rattle.lists.proofs.Laws.Pick.{yes, no}
use Rattle.machine_rules.specs.View.{setting_of, volume_of}
use Rattle.machine_rules.specs.Roots.{root_of}
use Rattle.machine_rules.specs.Record.{same_pair, starting_pair, running_pair}
use Rattle.machine_rules.specs.Commit.{given_up, agreed_by}
use Rattle.machine_rules.specs.declared.Pair.{Pair}
use Rattle.machine_step.proofs.Laws.Hosts.{starting-any, running-any}
use Rattle.machine.specs.Closes.{close_leaves}
use Rattle.machine.specs.declared.answers.Closing.{Closing}
use Rattle.machine.proofs.closing.agree_to.Goals as goal
use Rattle.machine.proofs.closing.agree_to.Goals.{After-running_pair-running, After-same_pair, After-same_pair-2, After-starting_pair-starting, Start}

-- ---- the two pairs, as an agreement has them
abbrev starting : Start → Pair
starting s = starting_pair (setting_of s.args.host) (volume_of s.args.host s.args.disk.now)

abbrev running : Start → Pair
running s =
    let h = s.args.host in
    running_pair (setting_of h) (root_of (setting_of h) (volume_of h s.args.disk.now) s.args.stage.now h.stageroots) h.program.progress

started : (c : After-starting_pair-starting) → c.starting_pair-starting.result ≡ starting (goal.at.After-starting_pair-starting c).Start
started c = let a = c.args in c.starting_pair-starting.ensures ∙ starting-any a.host a.disk.now

reached : (c : After-running_pair-running) → c.running_pair-running.result ≡ running (goal.at.After-running_pair-running c).Start
reached c = let a = c.args in c.running_pair-running.ensures ∙ running-any a.host a.disk.now a.stage.now

same-1 : (c : After-same_pair) → same_pair (running (goal.at.After-same_pair c).Start) (starting (goal.at.After-same_pair c).Start) ≡ c.same_pair.result
same-1 c =
    let at = goal.at.After-same_pair c in
    sym (c.same_pair.ensures ∙ ap₂ same_pair (reached at.After-running_pair-running) (started at.After-starting_pair-starting))

same-2 : (c : After-same_pair-2) → same_pair c.args.named (running (goal.at.After-same_pair-2 c).Start) ≡ c.same_pair-2.result
same-2 c =
    let at = goal.at.After-same_pair-2 c in sym (c.same_pair-2.ensures ∙ ap (same_pair c.args.named) (reached at.After-running_pair-running))

-- ---- the rules
pub returns-then-same_pair : goal.returns-then-same_pair
unfolding agreed_by given_up
returns-then-same_pair c =
    let disk = c.args.disk.now in let at = goal.at.returns-then-same_pair c in
    ap (λ (r : Closing). close_leaves c.args.host (Ok r) disk) c.give_up.ensures ∙ yes _ _ _ (same-1 at.After-same_pair ∙ c.if-same_pair.true) refl

pub returns-then-not-same_pair : goal.returns-then-not-same_pair
unfolding agreed_by given_up
returns-then-not-same_pair c =
    let disk = c.args.disk.now in let at = goal.at.returns-then-not-same_pair c in
    ap (λ (r : Closing). close_leaves c.args.host (Ok r) disk) c.give_up-then-not-same_pair.ensures
    ∙ no _ _ _ (same-1 at.After-same_pair ∙ c.if-same_pair.false)
    (no _ _ _ (same-2 at.After-same_pair-2 ∙ c.if-not-same_pair.true) refl)

pub returns : goal.returns
unfolding agreed_by
returns c =
    let at = goal.at.returns c in
    no _ _ _ (same-1 at.After-same_pair ∙ c.if-same_pair.false)
    (yes _ _ _ (same-2 at.After-same_pair-2 ∙ c.if-not-same_pair.false) c.commit.ensures)

pub starting_pair-starting-requires : goal.starting_pair-starting-requires
starting_pair-starting-requires c = c.requires.order

pub running_pair-running-requires : goal.running_pair-running-requires
running_pair-running-requires c = let asked = c.requires in record { host_value = asked.order; active_value = asked.live }
