-- What effects ask, from an instruction that passed its checks on a host in order. Assumes nothing.
use Rattle.lists.proofs.Kit.{◌≡◌, sym, ap, subst, true, false, List, [], ◌∷◌, ℕ, ◌+◌, ◌*◌, ◌/◌, ◌≤◌, ◌<◌, div-lt_iff_lt-mul, mul-le-mul_right, arith}
use Rattle.lists.proofs.Kit.{length, get_or, ltb, eqb, ltb-true, lt-ltb}
use Rattle.lists.specs.Pick.{pick}
use Rattle.lists.specs.Tests.{those, count, unused}
use Rattle.lists.proofs.Laws.Pick.{picks, either_left, either-right}
use Rattle.area.proofs.Laws.Slots.{slot-ends, some}
use Rattle.host.specs.Empty.{none}
use Rattle.host.specs.Places.{whose}
use Rattle.machine_rules.specs.View.{parent, free_copies, Volume}
use Rattle.machine_rules.specs.declared.Setting.{Setting}
use Rattle.machine_rules.specs.declared.Args.{Args}
use Rattle.machine_rules.specs.Plan.{bad_span, bad_spans, touched, wanted, new_size}
use Rattle.machine_rules.specs.Facts.{Good, Solid}
use Rattle.machine_rules.specs.Effect.{ground_of, Staging, copied}
use Rattle.machine_rules.proofs.Laws.Copies.{sector-below, asks, asks-some, asks_two, copied-map, wanted-one, few-sectors}
use Rattle.machine_rules.proofs.Laws.Resizes.{swap-asks, past_first}
use Rattle.machine_rules.proofs.Laws.Copies.{span-in}
use Rattle.machine_rules.proofs.Laws.Passed.{Passed}
use Rattle.machine_rules.proofs.Laws.Spots.{unstaged, committed-slot}
use Rattle.machine_rules.proofs.Laws.Wrote.{span-few}
use Rattle.sia.specs.declared.Op.{Op}
use Rattle.sia.specs.declared.Op.TheVariants.{Write, Copy, Swap, Truncate}
use Rattle.host.specs.declared.Progress.{Progress}
use Rattle.machine_rules.specs.declared.Spot.{Spot}
use Rattle.machine_effect.specs.Parts.{ground, staging}
use Rattle.machine_effect.specs.Asks.{bare, Lent, Lies, From, Over, Two, Sized, Stands}
use Rattle.machine_effect.proofs.Laws.Kept.{lies-copied}

-- a position that asks for a slot and gets one
asked : (copies : ℕ) (g : Staging) (p : ℕ) → asks g.staged p ≤ count (unused g.staged) 0 copies → bare p g ≡ true
    → 0 < count (unused g.staged) 0 copies
unfolding bare
asked copies g p h b = omega (arith, h, asks-some g.staged p b)

module _ (s : Setting) (vol : Volume) (p : Progress) (bytes : List ℕ) (good : Good s p) (solid : Solid s vol)
    (long : length bytes ≡ s.stagesectors * s.sector) where
  most : s.disksectors * s.sector ≤ 64 * s.sector
  most = mul-le-mul_right {m = s.disksectors} {n = 64} s.sector solid.lent.most

  sectors : p.size / s.sector ≤ 64
  sectors = few-sectors s p solid.lent good

  -- a position whose byte is below a size that fits the disk
  below : (at size : ℕ) → at < size → size ≤ s.disksectors * s.sector → at / s.sector < 64
  below at size lt le = (div-lt_iff_lt-mul {k = s.sector} {x = at} {y = 64} (some s.sector solid.lent.size)).1 (omega (arith, lt, le, most))

  lent : Lent s.sector (ground_of s vol) (staging p.staged bytes)
  lent = record { size = solid.lent.size; few = solid.lent.few; long = long; slots = good.orderly.staged.slots }

  lies : (at : ℕ) → at < p.size → Lies s.sector (ground_of s vol) (staging p.staged bytes) (at / s.sector)
  unfolding bare parent
  lies at lt =
      let inside = sector-below s.sector at p.size (some s.sector solid.lent.size) good.orderly.whole lt in
      let staged = good.orderly.staged in
      let under : p.size / s.sector ≤ length p.staged = omega (arith, sectors, good.entries) in
      record {
        entry = omega (arith, inside, sectors);
        there = λ h.
            let slot = ltb-true _ _ (committed-slot s vol p solid staged under (at / s.sector)
            (unstaged s vol p solid staged under (at / s.sector) inside h)) in
            subst (λ (k : ℕ). get_or (whose s.terms.head.contract s.places).slots (at / s.sector) 0 * s.sector + s.sector ≤ k) (sym solid.disk)
            (slot-ends s.sector (get_or (whose s.terms.head.contract s.places).slots (at / s.sector) 0) s.disksectors slot);
      }

  source : (at n : ℕ) → bad_span s.sector p.size at n ≡ false → From s.sector (ground_of s vol) (staging p.staged bytes) at n
  source at n h = record { lies = lies at (span-in s.sector p.size at n h); within = span-few s.sector p.size at n h }

  over : (at n : ℕ) → bad_span s.sector p.size at n ≡ false → asks p.staged (at / s.sector) ≤ free_copies s p → Over s.sector (ground_of s vol)
      (staging p.staged bytes) at n
  unfolding free_copies
  over at n h free =
      record {
        room = record {
          lies = lies at (span-in s.sector p.size at n h);
          free = asked s.stagesectors (staging p.staged bytes)
              (at / s.sector) free;
        };
        within = span-few s.sector p.size at n h;
      }

  spans : (one two n : ℕ) → bad_span s.sector p.size one n ≡ false → bad_span s.sector p.size two n ≡ false
      → pick (eqb (one / s.sector) (two / s.sector)) (asks p.staged (two / s.sector))
      (asks p.staged (two / s.sector) + asks p.staged (one / s.sector)) ≤ free_copies s p
      → Two s.sector (ground_of s vol) (staging p.staged bytes) one two n
  unfolding free_copies
  spans one two n h k free =
      let g : Staging = staging p.staged bytes in
      let both = asks_two s.stagesectors (two / s.sector) (one / s.sector) p.staged solid.lent.few
      (omega (arith, (lies two (span-in s.sector p.size two n k)).entry, good.entries)) free in
      let second = over two n k both.0 in
      let map = copied-map s.sector (ground_of s vol) (two / s.sector) g in
      record {
        second = second;
        first = record {
          room = record {
            lies = lies-copied s.sector (ground_of s vol) g (two / s.sector) lent second.room (one / s.sector)
                (lies one (span-in s.sector p.size one n h));
            free = asked s.stagesectors (copied s.sector (ground_of s vol) (two / s.sector) g) (one / s.sector)
                (subst (λ (m : List ℕ). asks m (one / s.sector) ≤ count (unused m) 0 s.stagesectors) (sym map) both.1);
          };
          within = span-few s.sector p.size one n h;
        };
      }

  sized : (new : ℕ) → new ≤ s.disksectors * s.sector → (p.size < new → asks p.staged (p.size / s.sector) ≤ free_copies s p)
      → Sized s.sector (ground_of s vol) (staging p.staged bytes) p.size new
  unfolding free_copies
  sized new le free =
      record {
        more = λ lt. below p.size new lt le;
        less = λ lt. below new p.size lt (omega (arith, good.orderly.within));
        free = λ lt. omega (
          arith,
          free lt,
          asks-some p.staged (p.size / s.sector)
              (past_first (p.size / s.sector) p.staged good.orderly.staged.below),
        );
      }

  -- by the instruction

  writes : {f : Spot → List ℕ} (a : Args) (n : ℕ) → Passed s f p Write a n
      → Over s.sector (ground_of s vol) (staging p.staged bytes) a.first a.len
  unfolding bad_spans wanted touched
  writes a n q = over a.first a.len q.spans (omega (arith, q.free, wanted-one p.staged (a.first / s.sector)))

  copies : {f : Spot → List ℕ} (a : Args) (n : ℕ) → Passed s f p Copy a n
      → Over s.sector (ground_of s vol) (staging p.staged bytes) a.first a.len
  unfolding bad_spans wanted touched
  copies a n q = over a.first a.len (either_left _ _ q.spans) (omega (arith, q.free, wanted-one p.staged (a.first / s.sector)))

  sources : {f : Spot → List ℕ} (a : Args) (n : ℕ) → Passed s f p Copy a n
      → From s.sector (ground_of s vol) (staging p.staged bytes) a.second a.len
  unfolding bad_spans
  sources a n q = source a.second a.len (either-right _ _ q.spans)

  swaps : {f : Spot → List ℕ} (a : Args) (n : ℕ) → Passed s f p Swap a n
      → Two s.sector (ground_of s vol) (staging p.staged bytes) a.first a.second a.len
  unfolding bad_spans wanted touched
  swaps a n q =
      spans a.first a.second a.len (either_left _ _ q.spans) (either-right _ _ q.spans)
      (subst (λ (x : ℕ). x ≤ free_copies s p) (swap-asks (eqb (a.first / s.sector) (a.second / s.sector)) p.staged (a.second / s.sector)
      (a.first / s.sector)) q.free)

  truncates : {f : Spot → List ℕ} (a : Args) (n : ℕ) → Passed s f p Truncate a n
      → Sized s.sector (ground_of s vol) (staging p.staged bytes) p.size a.first
  unfolding wanted touched new_size
  truncates a n q =
      sized a.first (omega (arith, q.fits))
      (λ lt. omega (
        arith,
        q.free,
        wanted-one p.staged (p.size / s.sector),
        ap (λ (l : List ℕ). length (those (λ k. eqb (get_or p.staged k none) none) l))
            (picks (ltb p.size a.first) (p.size / s.sector ∷ []) [] (lt-ltb _ _ lt)),
      ))

  -- an instruction that can run has what its effect asks
  pub stands : {f : Spot → List ℕ} (op : Op) (a : Args) (n : ℕ) → Passed s f p op a n
      → Stands s.sector (ground_of s vol) p.size op a (staging p.staged bytes)
  stands {f} op a n q =
      record {
        lent = lent;
        write = λ o. writes a n (subst (λ (x : Op). Passed s f p x a n) o q);
        copy = λ o. copies a n (subst (λ (x : Op). Passed s f p x a n) o q);
        source = λ o. sources a n (subst (λ (x : Op). Passed s f p x a n) o q);
        swap = λ o. swaps a n (subst (λ (x : Op). Passed s f p x a n) o q);
        truncate = λ o. truncates a n (subst (λ (x : Op). Passed s f p x a n) o q);
      }

  -- the same where the code has the parent's disk slots
  pub stands-with : {f : Spot → List ℕ} (slots : List ℕ) → slots ≡ (parent s).slots → (op : Op) (a : Args) (n : ℕ)
      → Passed s f p op a n
      → Stands s.sector (ground s.stagesectors slots vol.disk) p.size op a (staging p.staged bytes)
  stands-with slots own op a n q =
      subst (λ (l : List ℕ). Stands s.sector (ground s.stagesectors l vol.disk) p.size op a (staging p.staged bytes))
      (sym own) (stands op a n q)
