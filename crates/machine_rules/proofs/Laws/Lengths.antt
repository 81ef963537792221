-- A record is as long as its numbers say, so written bytes grow by its length. Assumes nothing.
use Rattle.lists.proofs.Kit.{◌≡◌, refl, sym, ap, ◌∙◌, Bool, true, false, not, List, [], ◌∷◌, ℕ, zero, suc, ◌+◌, ◌*◌, ◌%◌, ◌^◌, ◌≤◌, ◌<◌, zero-mul}
use Rattle.lists.proofs.Kit.{div-lt_iff_lt-mul, mul-le-mul_right, arith, length, length-append, length-replicate, ltb, eqb, not-false, ltb-true}
use Rattle.lists.proofs.Kit.{ltb-false, eqb-true, eqb-false, eq-eqb}
use Rattle.lists.specs.Pick.{pick}
use Rattle.lists.specs.Tests.{every}
use Rattle.lists.proofs.Laws.Pick.{never, neither}
use Rattle.area.proofs.Laws.Parts.{length_part}
use Rattle.area.proofs.Laws.Little.{length-bytes}
use Rattle.area.proofs.Laws.Slots as Slots
use Rattle.tree.specs.Walk.{count}
use Rattle.tree.proofs.Promise.{roots}
use Rattle.sia.specs.Names.{op_of}
use Rattle.sia.specs.Encode.{joined}
use Rattle.machine_rules.specs.View.{Way, kept, worked, Turn, sector, parent, committed_spots, Volume}
use Rattle.machine_rules.specs.declared.Setting.{Setting}
use Rattle.machine_rules.specs.Roots.{sector_root, kept_root, root_by, root_of, contract_root, range_proof, root_at, root_on_disk}
use Rattle.machine_rules.specs.Plan.{Plan}
use Rattle.machine_rules.proofs.Laws.Passed.{Passed, can, asked-reads, asked-right, stepped-either}
use Rattle.machine_rules.proofs.Laws.Worked.{proof-counted}
use Rattle.machine_rules.proofs.Laws.Areas.{rehashed-length, effect-bytes}
use Rattle.machine_rules.specs.Inputs.{data_in, args_of}
use Rattle.machine_rules.specs.declared.Args.{Args}
use Rattle.machine_rules.specs.Plan.{Source, spots, source_of, bad_span, bad_proof, proof_count, output_count}
use Rattle.machine_rules.specs.Kinds.{reads}
use Rattle.machine_rules.specs.Plan.{record_count}
use Rattle.machine_rules.specs.Effect.{ground_of, effect}
use Rattle.machine_rules.specs.Record.{pair_of, starting_pair, running_pair, record_bytes, failure_bytes, success_bytes}
use Rattle.machine_rules.specs.Run.{failed_progress, failing, ran_progress, succeeding, stepped}
use Rattle.machine_rules.specs.Facts.{Good, Solid, Within, valid}
use Rattle.machine_rules.proofs.Laws.Copies.{few-sectors}
use Rattle.machine_rules.proofs.Laws.Spots.{source-valid}
use Rattle.machine_rules.proofs.Laws.Few.{few-spots}
use Rattle.sia.specs.declared.Op.{Op}
use Rattle.sia.specs.declared.Instruction.{Instruction}
use Rattle.host.specs.declared.Progress.{Progress}
use Rattle.machine_rules.specs.declared.Spot.{Spot}
use Rattle.machine_rules.specs.declared.Pair.{Pair}
use Rattle.machine_rules.specs.declared.Spot.TheVariants.{OnDisk, InStage}
use Rattle.machine_rules.proofs.Laws.Outputs.{sector-length, read-span, shown-length}

-- ---- roots and proofs

pub length-root : (f : Spot → List ℕ) (l : List Spot) → length (contract_root f l) ≡ 32
unfolding contract_root
length-root f [] = length-replicate {A = ℕ} 32 0
length-root f (x ∷ xs) = roots.join-long (joined f (x ∷ xs))

-- a span that passed lies in some sector
pub some-spots : (z n at len : ℕ) → bad_span z (n * z) at len ≡ false → 0 < n
unfolding bad_span
some-spots z zero at len b =
    let x = neither (eqb len 0) _ b in
    let y = neither (ltb (0 * z) (at + len)) _ x.1 in
    let none : len ≡ 0 = omega (arith, ltb-false (0 * z) (at + len) y.0, zero-mul z) in
    never (sym (eq-eqb len 0 none) ∙ x.0)
some-spots z (suc n) at len b = omega arith

-- a span that passed, of whole segments
pub span-within : (z n at len : ℕ) → 0 < z → bad_span z (n * z) at len ≡ false → at % 64 ≡ 0 → len % 64 ≡ 0 → Within z n at len
unfolding bad_span
span-within z n at len pos b first many =
    let x = neither (eqb len 0) _ b in
    let y = neither (ltb (n * z) (at + len)) _ x.1 in
    let some = eqb-false len 0 x.0 in
    record {
      below = (div-lt_iff_lt-mul {k = z} {x = at} {y = n} pos).1 (omega (arith, ltb-false (n * z) (at + len) y.0, some));
      one = ltb-false z (at % z + len) y.1;
      some = omega (arith, some);
      first = first;
      many = many;
    }

-- the roots that a reader gives have 32 bytes, whether they are right or not
reader-long : (way : Way) (s : Setting) (vol : Volume) (stage copies : List ℕ) → s.disksectors ≤ 64 → s.stagesectors ≤ 16 → length vol.roots ≡ 2048
    → length copies ≡ 512
    → (x : Spot) → valid s x ≡ true
    → length (root_by way s.sector vol.disk stage vol.roots copies x) ≡ 32
unfolding root_by kept_root sector_root sector valid
reader-long kept s vol stage copies most few d e (OnDisk n) v = length_part vol.roots (n * 32) 32 (omega (arith, ltb-true n s.disksectors v))
reader-long kept s vol stage copies most few d e (InStage n) v = length_part copies (n * 32) 32 (omega (arith, ltb-true n s.stagesectors v))
reader-long worked s vol stage copies most few d e x v = roots.root-long (sector s.sector vol.disk stage x)

pub length-proof : (s : Setting) (vol : Volume) (stage copies : List ℕ) (from : Source) (a : Args) (asked : Bool) → Solid s vol → length stage
    ≡ s.stagesectors * s.sector
    → length vol.roots ≡ 2048 → length copies ≡ 512
    → every (valid s) (spots from) ≡ true → length (spots from) ≤ 64 → (asked ≡ true → Within s.sector (length (spots from)) a.first a.len)
    → length (pick asked (range_proof s.sector (root_of s vol stage copies) vol.disk stage (spots from) a.first a.len) [])
    ≡ 32 * proof_count s.sector asked (length (spots from)) a
unfolding proof_count pick root_of
length-proof s vol stage copies from a true solid e d c v few within =
    let size = solid.lent.size in
    let k = size.depth in
    let hi = mul-le-mul_right {m = length (spots from)} {n = 64} (2 ^ k) few in
    proof-counted s.sector k size.segments (root_of s vol stage copies) vol.disk stage (valid s) (λ x u. sector-length s vol stage x solid.disk e u)
    (reader-long vol.way s vol stage copies solid.lent.most solid.lent.few d c) (spots from) v (omega (arith, hi, size.segments, size.most))
    a.first a.len (within refl)
length-proof s vol stage copies from a false solid e d c v few within = refl

length-record : (number cost : ℕ) (pair : Pair) (hashes : ℕ) (proof : List ℕ) (count : ℕ) (output : List ℕ) → length pair.root ≡ 32 → length proof
    ≡ 32 * hashes
    → length output ≡ count → length (record_bytes number cost pair hashes proof count output) ≡ 72 + 32 * hashes + count
unfolding record_bytes
length-record number cost pair hashes proof count output r p o = simp (length-append, length-bytes, r, p, o) (omega arith)

failure-length : (s : Setting) (vol : Volume) (n : ℕ) → length (failure_bytes s vol n) ≡ 72
unfolding failure_bytes starting_pair pair_of
failure-length s vol n = length-record n 0 _ 0 [] 0 [] (length-root (root_on_disk s vol) (committed_spots s.sector (parent s))) refl refl

-- ---- a record is as long as its numbers say

-- a proof is asked of whole segments
proof-right : (op : Op) (a : Args) → bad_proof op a ≡ false → (a.first % 64 ≡ 0) × (a.len % 64 ≡ 0)
unfolding bad_proof
proof-right op a e =
    let x = neither (not (reads op)) _ e in
    let y = neither (not (eqb (a.first % 64) 0)) _ x.1 in
    (eqb-true _ _ (not-false _ y.0), eqb-true _ _ (not-false _ y.1))

success-length : (s : Setting) (vol : Volume) (f : Spot → List ℕ) (p : Progress) (asked : Bool) (op : Op) (a : Args) (n : ℕ) (d bytes copies : List ℕ)
    → Solid s vol → Good s p
    → length bytes ≡ s.stagesectors * s.sector → length vol.roots ≡ 2048 → length copies ≡ 512 → Passed s f p op a n → (asked ≡ true → reads op ≡ true)
    → (asked ≡ true → bad_proof op a ≡ false)
    → let g = effect s.sector (ground_of s vol) p.size op a d (record { staged = p.staged; bytes = bytes }) in
    let from = spots (source_of s f p op a.key) in
    (plan : Plan) (after : Progress) → plan.hashes ≡ proof_count s.sector asked (length from) a
    → length (success_bytes s vol (root_of s vol g.bytes copies) plan after asked from op a g.bytes) ≡ record_count s.sector asked (length from) op a
unfolding success_bytes record_count running_pair
success-length s vol f p asked op a n d bytes copies solid g e r c q asks right plan after fit =
    let from = source_of s f p op a.key in
    let u = few-sectors s p solid.lent g in
    let valid = source-valid s vol p solid g.orderly.staged (omega (arith, u, g.entries)) f op a.key in
    let stage = effect-bytes s.sector (ground_of s vol) p.size op a d (record { staged = p.staged; bytes = bytes }) ∙ e in
    length-record 0 plan.cost _ plan.hashes _ (output_count op a) _
    (length-root _ _)
    (length-proof s vol _ copies from a asked solid stage r c valid (few-spots s f p op a.key solid.small u)
    (λ h. let w = proof-right op a (right h) in
    span-within s.sector (length (spots from)) a.first a.len (Slots.some s.sector solid.lent.size)
    (read-span s.sector p.size (length (spots from)) op a (asks h) q.spans)
    w.0 w.1) ∙ ap (λ (m : ℕ). 32 * m) (sym fit))
    (shown-length s vol p.size from _ op a solid.disk stage valid q.spans)
    ∙ ap (λ (m : ℕ). 72 + 32 * m + output_count op a) fit

-- written bytes grow by the record's length
pub stepped-written : (s : Setting) (vol : Volume) (i : Instruction) (l : List (List ℕ)) (t : Turn) → Solid s vol → Good s t.progress
    → length t.stage ≡ s.stagesectors * s.sector → length vol.roots ≡ 2048 → length t.roots ≡ 512
    → (stepped s vol i l t).progress.written ≡ t.progress.written + length (stepped s vol i l t).bytes
unfolding succeeding failing ran_progress failed_progress
stepped-written s vol i l t solid g e d c =
    let f = root_at s vol t in
    let op = op_of i.name in
    stepped-either s vol i l t (λ x. x.progress.written ≡ t.progress.written + length x.bytes)
    (λ u. let k = can s (root_at s vol t) t.progress i l u in
    ap (λ (n : ℕ). t.progress.written + n)
    (sym (success-length s vol (root_at s vol t) t.progress i.proof (op_of i.name) (args_of (op_of i.name) l) _ (data_in l) t.stage _ solid g e d
    (rehashed-length s.sector _ _ t.roots ∙ c) k.passed (asked-reads k) (asked-right k) _ _ refl)))
    (λ _. ap (λ (n : ℕ). t.progress.written + n) (sym (failure-length s vol _)))
