-- Checks 41 and 27 in the definitions' words. Assumes nothing.
use Rattle.lists.proofs.Kit.{◌≡◌, sym, ap, ◌∙◌, Bool, true, false, not, ℕ, leb, ltb, leb-true, leb-false, le-ltb, lt-ltb}
use Rattle.lists.specs.Pick.{both}
use Rattle.lists.proofs.Laws.Pick.{by, never, picks, either_left}
use Rattle.area.specs.Slots.{Size}
use Rattle.machine_rules.specs.Plan.{bad_spans, bad_proof}
use Rattle.machine_rules.specs.Kinds.{kind}
use Rattle.sia.specs.declared.Op.{Op}
use Rattle.sia.specs.declared.Op.TheVariants.{Read, ReadSector, Write, Copy, Swap, Truncate, Unknown}
use Rattle.machine_sight.specs.Seen.{Ranged}
use Rattle.machine_sight.proofs.Callers.{range-ranged}
use Rattle.machine_rules.specs.declared.Args.{Args}

pub not-leb : (a b : ℕ) → ltb b a ≡ not (leb a b)
not-leb a b = by (leb a b)
    (λ u. le-ltb b a (leb-true a b u) ∙ sym (ap not u))
    (λ u. lt-ltb b a (leb-false a b u) ∙ sym (ap not u))

-- ---- a proof that can be asked

pub provable : (z : ℕ) → Size z → (size n : ℕ) (op : Op) (a : Args) (asked : Bool) → bad_spans z size n op a ≡ false
    → both asked (bad_proof op a) ≡ false → asked ≡ true → Ranged z n a.first a.len
unfolding bad_spans bad_proof kind
provable z s size n op a asked e f t = go op e (sym (picks asked _ false t) ∙ f) where
  go : (o : Op) → bad_spans z size n o a ≡ false → bad_proof o a ≡ false → Ranged z n a.first a.len
  go Read e g = range-ranged z s Read a n e g
  go ReadSector e g = range-ranged z s ReadSector a n e g
  go Write e g = never (either_left _ _ g)
  go Copy e g = never (either_left _ _ g)
  go Swap e g = never (either_left _ _ g)
  go Truncate e g = never (either_left _ _ g)
  go Unknown e g = never (either_left _ _ g)
