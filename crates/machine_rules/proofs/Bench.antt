-- The theorem of the bench: what the definitions give is what document 01 says, in every row, by computing. Roots and proofs are shut;
-- records' lengths are numbers, so no row waits for one. A definition for each layer opens the names of that layer. Assumes nothing.
use Rattle.lists.proofs.Kit.{◌≡◌, refl, true, List, [], ◌∷◌, ◌++◌, ℕ, zero, suc, arith, take, ltb, ltb-true}
use Rattle.lists.specs.Tests.{every, each}
use Rattle.lists.proofs.Laws.Pick.{both_left, both_right}
use Rattle.area.specs.Area.{zeros}
use Rattle.area.specs.Little.{le8, Bytes}
use Rattle.sia.specs.Encode.{encode}
use Rattle.lists.specs.Pick as ListsPick
use Rattle.lists.specs.Tests as ListsTests
use Rattle.lists.specs.Lowest as ListsLowest
use Rattle.lists.specs.Tab as ListsTab
use Rattle.area.specs.Area as AreaArea
use Rattle.area.specs.Little as AreaLittle
use Rattle.tree.proofs.Figures.{first-of-64, all-of-64, middle-of-128, third-of-192, first-of-192}
use Rattle.sia.specs.Empty as SiaEmpty
use Rattle.sia.specs.Names as SiaNames
use Rattle.sia.specs.Number as SiaNumber
use Rattle.sia.specs.Encode as SiaEncode
use Rattle.sia.specs.Decode as SiaDecode
use Rattle.host.specs.Sizes as HostSizes
use Rattle.host.specs.Empty as HostEmpty
use Rattle.host.specs.With as HostWith
use Rattle.host.specs.Places as HostPlaces
use Rattle.host.specs.Order as HostOrder
use Rattle.host.specs.Calls as HostCalls
use Rattle.machine_rules.specs.View as RulesView
use Rattle.machine_rules.specs.Roots as RulesRoots
use Rattle.machine_rules.specs.Seats as RulesSeats
use Rattle.machine_rules.specs.Kinds as RulesKinds
use Rattle.machine_rules.specs.Inputs as RulesInputs
use Rattle.machine_rules.specs.Plan as RulesPlan
use Rattle.machine_rules.specs.Effect as RulesEffect
use Rattle.machine_rules.specs.Record as RulesRecord
use Rattle.machine_rules.specs.Run as RulesRun
use Rattle.machine_rules.specs.Calls as RulesCalls
use Rattle.machine_rules.specs.Bench as RulesBench
use Rattle.machine_rules.specs.Bench.{prices, plenty, host, alone, proof_row, id_row, table}
use Rattle.machine_rules.specs.Visit.{Visit}

-- opens the definitions of lists
unfoldable open-lists : ℕ
unfolding ListsPick.pick ListsTests.every ListsTests.some ListsTests.those ListsTests.each ListsTests.first_of ListsTests.apart ListsTests.sum
    ListsTests.count ListsLowest.lowest ListsTab.tab
open-lists = 0

-- opens the definitions of area
unfoldable open-area : ℕ
unfolding AreaArea.part AreaArea.put AreaArea.same AreaLittle.value_of AreaLittle.bytes_of
open-area = 0

-- opens the definitions of sia
unfoldable open-sia : ℕ
unfolding SiaEmpty.filled SiaNames.op_of SiaNumber.number SiaEncode.joined SiaEncode.operand_bytes SiaEncode.instruction_bytes SiaEncode.encode
    SiaEncode.within SiaDecode.after SiaDecode.bytes SiaDecode.number SiaDecode.limited SiaDecode.flag SiaDecode.several
    SiaDecode.entries SiaDecode.operand SiaDecode.instruction SiaDecode.head SiaDecode.answer SiaDecode.decode
open-sia = 0

-- opens the definitions of host
unfoldable open-host : ℕ
unfolding HostSizes.doubled HostSizes.is_size HostEmpty.no_place HostEmpty.no_prices HostEmpty.no_terms HostEmpty.no_progress HostEmpty.no_program
    HostEmpty.bare HostEmpty.new_place HostEmpty.started HostWith.with_places
    HostWith.with_program HostWith.with_stage_roots HostWith.with_came HostWith.with_progress HostWith.with_running HostWith.with_staged HostPlaces.has_id
    HostPlaces.whose
    HostPlaces.own_size HostPlaces.others HostPlaces.committed HostPlaces.taken HostPlaces.free_copy HostOrder.lent HostOrder.place_in_order
    HostOrder.twins HostOrder.places_in_order HostOrder.slot_in_order HostOrder.clash HostOrder.staged_in_order HostOrder.parent_in_order
    HostOrder.terms_in_order HostOrder.progress_in_order HostOrder.program_in_order HostOrder.in_order HostCalls.length_right HostCalls.freshed
    HostCalls.padded HostCalls.formed_at HostCalls.formed
open-host = 0

-- opens the definitions of rules
unfoldable open-rules : ℕ
unfolding RulesView.volume_by RulesView.turn_of RulesView.with_run RulesView.disk_right RulesView.areas_right RulesView.read_only_mode
    RulesView.parent RulesView.free_copies RulesView.sector RulesView.spot_of RulesView.parent_spots RulesView.committed_spots
    RulesView.whole RulesRoots.contract_root RulesRoots.range_count RulesSeats.seated RulesSeats.committed_seats RulesSeats.seats
    RulesSeats.nobody RulesSeats.seats_of RulesSeats.first_seat RulesKinds.kind
    RulesInputs.ill_formed RulesInputs.past_end RulesInputs.largest RulesInputs.need RulesInputs.inputs_of RulesInputs.is_told RulesInputs.told
    RulesInputs.is_number RulesInputs.is_key RulesInputs.is_data RulesInputs.well_formed RulesInputs.read_args RulesInputs.span_args
    RulesInputs.args_of RulesInputs.data_in RulesPlan.is_there RulesPlan.spots RulesPlan.contract_source RulesPlan.sought_source
    RulesPlan.sector_source RulesPlan.source_of RulesPlan.bad_span RulesPlan.bad_size RulesPlan.bad_spans RulesPlan.bad_proof
    RulesPlan.own RulesPlan.cost RulesPlan.touched RulesPlan.wanted RulesPlan.new_size RulesPlan.proof_count
    RulesPlan.output_count RulesPlan.record_count RulesPlan.refused RulesPlan.fitted RulesPlan.weighed RulesPlan.planned_inputs RulesPlan.planned_args
    RulesPlan.planned RulesPlan.judged RulesEffect.new_copy
    RulesEffect.sector_at RulesEffect.copied RulesEffect.span_read RulesEffect.laid RulesEffect.span_written RulesEffect.resized
    RulesEffect.effect RulesRecord.pair_of RulesRecord.starting_pair RulesRecord.running_pair RulesRecord.record_bytes RulesRecord.failure_bytes
    RulesRecord.output_of RulesRecord.success_bytes RulesRun.failed_progress RulesRun.failing RulesRun.ran_progress RulesRun.succeeding
    RulesRun.stepped RulesRun.turned RulesRun.current RulesRun.step RulesRun.going RulesRun.ready RulesRun.runs RulesRun.run RulesCalls.room_right
    RulesCalls.begun RulesCalls.opened_head RulesCalls.opened RulesCalls.accepted_by RulesCalls.input_right RulesCalls.output_right
    RulesCalls.piece_lent RulesCalls.refusal
    RulesCalls.piece_by RulesBench.prices RulesBench.id RulesBench.operand RulesBench.instruction RulesBench.program RulesBench.host
    RulesBench.sector_host RulesBench.start RulesBench.given RulesBench.ran RulesBench.failed RulesBench.records RulesBench.counts
    RulesBench.first RulesBench.written RulesBench.contracts RulesBench.grow RulesBench.alone RulesBench.grow_write RulesBench.grow_write_data
    RulesBench.late_grow RulesBench.late_grow_data RulesBench.on_four RulesBench.on_four_data RulesBench.read_span RulesBench.read_span_data
    RulesBench.alone_row RulesBench.budget_row RulesBench.need_row RulesBench.late_row RulesBench.copy_row RulesBench.swap_row RulesBench.span_row
    RulesBench.size_row RulesBench.proof_row RulesBench.id_row RulesBench.table
open-rules = 0

-- the figures of proofs, which are the tree's
proofs : proof_row.gives 0 ≡ proof_row.says
unfolding RulesBench.proof_row
proofs i = first-of-64 i ∷ all-of-64 i ∷ middle-of-128 i ∷ third-of-192 i ∷ first-of-192 i ∷ []

-- Every (P) line of document 01's figures, as one statement: all rows but that of proofs compute.
pub bench : each (λ r. r.gives 0) table ≡ each (λ r. r.says) table
unfolding open-lists open-area open-sia open-host open-rules
bench i = each (λ r. r.says) (take 8 table) ++ (proofs i ∷ id_row.says ∷ [])

-- ---- the premise of demands 2 and 3 is met

below : (l : List ℕ) → every (λ n. ltb n 256) l ≡ true → Bytes l
unfolding every Bytes
below [] e i = omega arith
below (x ∷ xs) e zero = ltb-true _ _ (both_left _ _ e)
below (x ∷ xs) e (suc i) = below xs (both_right _ _ e) i

-- the first line of the figures as a visit, on areas of zeros
pub visit : Visit host (record { bytes = encode alone; budget = plenty; prices = prices; room = 16384 })
    (record { disk = zeros 32768; stage = zeros 16384; input = zeros 8; output = zeros 16384 }) (le8 4096)
unfolding open-lists open-area open-sia open-host open-rules
visit = record {
  declared = record { places = (refl, (refl, (refl, (refl, (refl, (refl, (refl, (refl, tt)))))))); staged = refl; disk = refl; stage = refl };
  head = below (encode alone) refl;
  opening = refl;
  areas = refl;
  input = refl;
  output = refl;
  long = refl;
}
