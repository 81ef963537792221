-- `machine_step::roots::fail` meets its contract: the record stands behind those written. Assumes nothing.
use Rattle.lists.proofs.Kit.{refl, sym, ap, ◌∙◌, subst, List, [], ℕ}
use Rattle.area.specs.Area.{put}
use Rattle.area.proofs.Laws.Lent.{lent}
use Rattle.machine_rules.specs.Roots.{kept_root, root_by, root_of}
use Rattle.machine_rules.specs.Record.{pairing, pair_of, starting_pair, record_bytes, failure_bytes}
use Rattle.machine_rules.specs.Run.{failed_progress}
use Rattle.machine_sight.specs.Lookup.{Stands}
use Rattle.host.specs.declared.Place.{Place}
use Rattle.machine_rules.specs.declared.Pair.{Pair}
use Rattle.machine_step.proofs.roots.fail.Goals as goal

pub committed_root-root-requires : goal.committed_root-root-requires
committed_root-root-requires c =
    subst (λ (p : Place). Stands c.args.setting.sector c.args.diskroots.now p) (sym c.parent-parent.ensures) c.requires.stands

pub returns : goal.returns
unfolding failed_progress failure_bytes starting_pair pair_of root_of root_by
returns c =
    let a = c.args in
    let as-record : Pair → List ℕ = λ pair. put a.output.now a.progress.written (record_bytes a.number 0 pair 0 [] 0 []) in (
      refl,
      lent _ _ _ c.put_failure.ensures ∙ ap as-record (ap (pairing c.parent-parent.result.size) c.committed_root-root.ensures
          ∙ ap (pair_of a.setting.sector (kept_root a.diskroots.now [])) c.parent-parent.ensures),
    )
