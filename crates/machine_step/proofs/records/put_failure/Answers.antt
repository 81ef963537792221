-- `machine_step::records::put_failure` meets its contract: the front, then a count of 0. Assumes nothing.
use Rattle.lists.proofs.Kit.{refl, sym, ap, ◌∙◌, List, [], ◌++◌, append-nil, ℕ}
use Rattle.area.specs.Little.{le8}
use Rattle.sia.proofs.Laws.Joined.{lay-same, lay-two}
use Rattle.machine_rules.specs.Record.{pairing, record_bytes}
use Rattle.machine_step.specs.Front.{front}
use Rattle.machine_step.proofs.Laws.Parts.{record-front, length_front}
use Rattle.machine_step.proofs.records.put_failure.Goals as goal

pub returns : goal.returns
unfolding record_bytes
returns c =
    let p = pairing c.args.size c.args.root in
    lay-same _ 0 _
    (lay-two _ 0 _ _ 64 c.put_front.ensures c.store.ensures (length_front _ _ p 0 c.well_formed.1.1.0.1.0.1) refl)
    (ap (λ (l : List ℕ). front c.args.number 0 p 0 ++ l) (sym (append-nil (le8 0))) ∙ sym (record-front c.args.number 0 p 0 (le8 0 ++ [])))
