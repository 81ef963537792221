-- What a read hands out is as long as it was asked for. Assumes nothing.
use Rattle.lists.proofs.Kit.{◌≡◌, sym, ap, ◌∙◌, true, false, List, [], ◌∷◌, ℕ, ◌+◌, ◌*◌, ◌/◌, ◌%◌, zero-mul}
use Rattle.lists.proofs.Kit.{arith, length, get_or, ltb, eqb, ltb-true}
use Rattle.lists.proofs.Kit.{ltb-false, eqb-true, eq-eqb}
use Rattle.lists.specs.Pick.{pick}
use Rattle.lists.specs.Tests.{every}
use Rattle.lists.proofs.Laws.Pick.{by, picks, skips, never, both_left, neither}
use Rattle.lists.proofs.Laws.Every.{every-at}
use Rattle.area.proofs.Laws.Parts.{length_part}
use Rattle.area.proofs.Laws.Slots.{slot-length}
use Rattle.machine_rules.specs.View.{sector, Volume}
use Rattle.machine_rules.specs.declared.Setting.{Setting}
use Rattle.machine_rules.specs.declared.Args.{Args}
use Rattle.machine_rules.specs.Plan.{Source, spots, bad_span, bad_spans, output_count}
use Rattle.machine_rules.specs.Kinds.{reads, kind}
use Rattle.machine_rules.specs.Record.{output_of}
use Rattle.machine_rules.specs.Facts.{valid}
use Rattle.sia.specs.declared.Op.{Op}
use Rattle.sia.specs.declared.Op.TheVariants.{Read, ReadSector, Write, Copy, Swap, Truncate, Unknown}
use Rattle.machine_rules.specs.declared.Spot.{Spot}
use Rattle.machine_rules.specs.declared.Spot.TheVariants.{OnDisk, InStage}

-- ---- what a read hands out is as long as it was asked for

pub sector-length : (s : Setting) (vol : Volume) (stage : List ℕ) (x : Spot) → length vol.disk ≡ s.disksectors * s.sector → length stage
    ≡ s.stagesectors * s.sector → valid s x ≡ true
    → length (sector s.sector vol.disk stage x) ≡ s.sector
unfolding sector valid
sector-length s vol stage (OnDisk n) d e v = slot-length vol.disk n s.disksectors s.sector (ltb-true _ _ v) d
sector-length s vol stage (InStage n) d e v = slot-length stage n s.stagesectors s.sector (ltb-true _ _ v) e

output-length : (s : Setting) (vol : Volume) (stage : List ℕ) (l : List Spot) (a : Args) → length vol.disk ≡ s.disksectors * s.sector → length stage
    ≡ s.stagesectors * s.sector
    → every (valid s) l ≡ true
    → bad_span s.sector (length l * s.sector) a.first a.len ≡ false → length (output_of s.sector vol.disk stage l a) ≡ a.len
unfolding output_of bad_span every
output-length s vol stage [] a d e v b =
    let x = neither (eqb a.len 0) _ b in
    let y = neither (ltb (0 * s.sector) (a.first + a.len)) _ x.1 in
    let k : 0 * s.sector ≡ 0 = zero-mul s.sector in
    omega (arith, ltb-false (0 * s.sector) (a.first + a.len) y.0, k)
output-length s vol stage (c ∷ cs) a d e v b =
    let x = neither (eqb a.len 0) _ b in
    let y = neither (ltb (length (c ∷ cs) * s.sector) (a.first + a.len)) _ x.1 in
    let w = sector-length s vol stage (get_or (c ∷ cs) (a.first / s.sector) c) d e (every-at (valid s) (c ∷ cs) (a.first / s.sector) c v (both_left _ _ v)) in
    length_part (sector s.sector vol.disk stage (get_or (c ∷ cs) (a.first / s.sector) c)) (a.first % s.sector) a.len
    (omega (arith, w, ltb-false s.sector (a.first % s.sector + a.len) y.1))

-- the output part of a record: for a change nothing, else what was read
shown : (n : ℕ) (l : List ℕ) → length l ≡ n → length (pick (eqb n 0) [] l) ≡ n
unfolding pick
shown n l e = by (eqb n 0) (λ u. ap length (picks (eqb n 0) [] l u) ∙ sym (eqb-true n 0 u)) (λ u. ap length (skips (eqb n 0) [] l u) ∙ e)

shown-none : (n : ℕ) (l : List ℕ) → n ≡ 0 → length (pick (eqb n 0) [] l) ≡ n
shown-none n l e = ap length (picks (eqb n 0) [] l (eq-eqb n 0 e)) ∙ sym e

pub count-read : (op : Op) (a : Args) → reads op ≡ true → output_count op a ≡ a.len
unfolding output_count
count-read op a e = picks (reads op) a.len 0 e

pub count-change : (op : Op) (a : Args) → reads op ≡ false → output_count op a ≡ 0
unfolding output_count
count-change op a e = skips (reads op) a.len 0 e

pub read-span : (z size n : ℕ) (op : Op) (a : Args) → reads op ≡ true → bad_spans z size n op a ≡ false
    → bad_span z (n * z) a.first a.len ≡ false
unfolding bad_spans kind
read-span z size n Read a e b = b
read-span z size n ReadSector a e b = b
read-span z size n Write a e b = never (sym e)
read-span z size n Copy a e b = never (sym e)
read-span z size n Swap a e b = never (sym e)
read-span z size n Truncate a e b = never (sym e)
read-span z size n Unknown a e b = never (sym e)

pub shown-length : (s : Setting) (vol : Volume) (size : ℕ) (from : Source) (stage : List ℕ) (op : Op) (a : Args) → length vol.disk
    ≡ s.disksectors * s.sector
    → length stage ≡ s.stagesectors * s.sector
    → every (valid s) (spots from) ≡ true → bad_spans s.sector size (length (spots from)) op a ≡ false
    → length (pick (eqb (output_count op a) 0) [] (output_of s.sector vol.disk stage (spots from) a)) ≡ output_count op a
shown-length s vol size from stage op a d e v b =
    by (reads op)
    (λ u. shown (output_count op a) _ (output-length s vol stage (spots from) a d e v (read-span s.sector size (length (spots from)) op a u b)
    ∙ sym (count-read op a u)))
    (λ u. shown-none (output_count op a) _ (count-change op a u))
