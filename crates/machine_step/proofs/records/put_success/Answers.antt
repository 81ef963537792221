-- `machine_step::records::put_success` meets its contract: the front, the proof, the count and the bytes, one behind the other. Assumes nothing.
use Rattle.lists.proofs.Kit.{◌≡◌, ◌+◌, ◌*◌, arith, length}
use Rattle.sia.proofs.Laws.Joined.{lay-same}
use Rattle.machine_rules.specs.Record.{pairing}
use Rattle.machine_step.proofs.Laws.Parts.{length_front, rest-long, record-parts, length_two, length_three, behind, lay-behind}
use Rattle.machine_step.proofs.records.put_success.Goals as goal

-- ---- the rules
pub put_proof-requires : goal.put_proof-requires
put_proof-requires c = let shows = c.requires in
    let out = c.put_front.new.out in
    record { known = shows.known; lies = shows.lies; ranged = shows.ranged; n_in_bounds = omega (arith, shows.count, shows.room, rest-long out 64) }

pub put_bytes-requires : goal.put_bytes-requires
put_bytes-requires c = let shows = c.requires in
    let out = c.store.new.a in
    record { lies = shows.lies; inside = shows.inside; n_in_bounds = omega (arith, shows.room, rest-long out (64 + 32 * c.args.hashes + 8)) }

pub returns : goal.returns
returns c =
    let shows = c.requires in
    let p = pairing c.args.size c.args.root in
    let long : length p.root ≡ 32 = c.well_formed.1.1.0.1.0.1 in
    lay-same _ 0 _
    (behind _ _ _ (64 + 32 * c.args.hashes + 8)
    (lay-behind _ _ _ (64 + 32 * c.args.hashes)
    (behind _ _ _ 64 c.put_front.ensures (length_front 0 c.args.cost p c.args.hashes long) c.put_proof.ensures)
    c.store.ensures (length_two 0 c.args.cost p c.args.hashes _ long shows.count))
    (length_three 0 c.args.cost p c.args.hashes _ _ long shows.count) c.put_bytes.ensures)
    (record-parts 0 c.args.cost p c.args.hashes _ _ _ c.count_of-count.ensures)

pub overflow_add-behind-2 : goal.overflow_add-behind-2
overflow_add-behind-2 c = omega (arith, c)
