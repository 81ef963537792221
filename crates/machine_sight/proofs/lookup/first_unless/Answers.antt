-- `machine_sight::lookup::first_unless` meets its contract: the place is left out, or its committed sectors are looked at. Assumes nothing.
use Rattle.lists.proofs.Kit.{sym, ap, ◌∙◌, List}
use Rattle.lists.proofs.Laws.Pick.{picks, skips}
use Rattle.machine_rules.specs.Roots.{kept_root}
use Rattle.machine_rules.specs.Seats.{seated, first_seat}
use Rattle.machine_rules.proofs.Laws.Found.{first-none}
use Rattle.machine_rules.specs.declared.Spot.{Spot}
use Rattle.machine_sight.proofs.Laws.Lookup.{committed-known}
use Rattle.machine_sight.proofs.lookup.first_unless.Goals as goal

pub returns-then-has_id : goal.returns-then-has_id
returns-then-has_id c =
    let out = picks _ _ _ (sym c.has_id.ensures ∙ c.if-has_id.true) in
    sym (ap (first_seat _ _) out ∙ first-none _ _)

pub first_in-requires : goal.first_in-requires
first_in-requires c =
    committed-known _ _ _ c.args.place _ c.committed_seen-seen.ensures.0 c.committed_seen-seen.ensures.1 c.requires

pub returns : goal.returns
returns c =
    let others = skips _ _ _ (sym c.has_id.ensures ∙ c.if-has_id.false) in
    let f = kept_root c.args.diskroots.now c.args.stageroots.now in
    c.first_in.ensures
    ∙ ap (λ (l : List Spot). first_seat f c.args.key (seated c.args.number 0 l)) c.committed_seen-seen.ensures.0
    ∙ sym (ap (first_seat f c.args.key) others)
