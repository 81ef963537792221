-- A host in order takes every piece up to the declared length, and is in order after it. Assumes nothing.
use Rattle.lists.proofs.Kit.{◌≡◌, refl, sym, ap, ◌∙◌, subst, true, List, [], ◌∷◌, ℕ, ◌+◌, ◌*◌, ◌≤◌, arith, length, length-append, length-replicate}
use Rattle.lists.proofs.Kit.{ltb, eqb, le-leb, le-ltb, eq-eqb, eqb-true}
use Rattle.lists.proofs.Laws.Pick.{skips, both_left, both_right, both-join, or_right, second-not}
use Rattle.area.specs.Area.{put, zeros}
use Rattle.area.proofs.Laws.Puts.{length-put}
use Rattle.host.specs.With.{with_program, with_came, with_progress, with_stage_roots}
use Rattle.host.specs.Order.{program_in_order, in_order}
use Rattle.host.proofs.Laws.Order.{order-facts, progress-facts, facts-progress}
use Rattle.machine_rules.specs.View.{turn_of, with_run, disk_right, areas_right, setting_of, volume_by, volume_of}
use Rattle.machine_rules.specs.Run.{run}
use Rattle.machine_rules.specs.Calls.{Pieced, accepted, input_right, output_right, piece, accepted_by, piece_by}
use Rattle.machine_rules.specs.Trace.{together, AllAccepted}
use Rattle.machine_rules.specs.Facts.{Good, Lent, Solid}
use Rattle.machine_rules.proofs.Laws.Areas.{runs-alike}
use Rattle.machine_rules.proofs.Laws.Kept.{runs-good}
use Rattle.machine_rules.proofs.Laws.Refusals.{goes, piece-lent}
use Rattle.host.specs.declared.Progress.{Progress}
use Rattle.host.specs.declared.Host.{Host}

-- ---- a host that takes pieces

-- a host in order with a program open, and areas as stated; its arrays are as declared
pub record Taking (disk : List ℕ) (w : Pieced) : Type 0 where
  pub order : in_order w.host ≡ true
  pub areas : areas_right w.host disk w.stage ≡ true
  pub live : w.host.program.active ≡ true
  pub input : length w.input ≡ w.host.program.terms.head.length
  pub output : length w.output ≡ w.host.program.terms.room
  pub entries : length w.host.program.progress.staged ≡ 64
  pub disk_roots : length w.host.diskroots ≡ 2048
  pub stage_roots : length w.host.stageroots ≡ 512

-- the parts of `in_order`
pub order-lent : (h : Host) → in_order h ≡ true → Lent (setting_of h)
order-lent h e = let o = order-facts h e in record { size = o.size; few = o.stage_most; most = o.disk_most }

-- areas of zeros, of the lengths that a host states: where its sectors are, and the roots kept beside them, do not hang on what is lent
pub blank-right : (h : Host) → areas_right h (zeros (h.disk * h.sector)) (zeros (h.stage * h.sector)) ≡ true
unfolding areas_right disk_right
blank-right h =
    both-join _ _ (eq-eqb _ _ (length-replicate {A = ℕ} (h.disk * h.sector) 0)) (eq-eqb _ _ (length-replicate {A = ℕ} (h.stage * h.sector) 0))

-- a host in order whose areas are right
pub order-solid : (h : Host) (disk stage : List ℕ) → in_order h ≡ true → areas_right h disk stage ≡ true → Solid (setting_of h) (volume_of h disk)
unfolding areas_right disk_right volume_by
order-solid h disk stage e areas =
    let o = order-facts h e in
    record {
      lent = order-lent h e;
      one = o.disk_least;
      small = o.contracts.each;
      slots = o.contracts.below;
      disk = eqb-true _ _ (both_left _ _ areas);
    }

pub areas-stage : (h : Host) (disk stage : List ℕ) → areas_right h disk stage ≡ true → length stage ≡ h.stage * h.sector
unfolding areas_right
areas-stage h disk stage e = eqb-true _ _ (both_right _ _ e)

pub order-program : (h : Host) → in_order h ≡ true → h.program.active ≡ true → program_in_order h.sector h.disk h.stage h.places h.program ≡ true
unfolding in_order
order-program h e live = second-not h.program.active _ (both_right _ _ (both_right _ _ (both_right _ _ (both_right _ _ e)))) live

pub order-good : (h : Host) → in_order h ≡ true → h.program.active ≡ true → length h.program.progress.staged ≡ 64
    → Good (setting_of h) h.program.progress
unfolding program_in_order
order-good h e live len =
    let q = order-program h e live in
    record {
      orderly = progress-facts h.sector _ _ _ _ h.program.progress (both_right _ _ (both_right _ _ q));
      terms = both_left _ _ q;
      entries = len;
    }

pub good-order : (h : Host) (k : ℕ) (p : Progress) (roots : List ℕ) → in_order h ≡ true → k ≤ h.program.terms.head.length
    → Good (setting_of h) p → in_order (with_run h k p roots) ≡ true
unfolding in_order with_run with_stage_roots with_program with_progress with_came program_in_order
good-order h k p roots e le g =
    let b = both_right _ _ e in
    let c = both_right _ _ b in
    both-join _ _ (both_left _ _ e) (both-join _ _ (both_left _ _ b) (both-join _ _ (both_left _ _ c) (both-join _ _ (both_left _ _ (both_right _ _ c))
    (or_right _ _ (both-join _ _ g.terms (both-join _ _ (le-leb _ _ le) (facts-progress h.sector _ _ _ _ p g.orderly)))))))

areas-again : (h : Host) (disk stage new : List ℕ) (k : ℕ) (p : Progress) (roots : List ℕ) → length new ≡ length stage → areas_right h disk stage ≡ true
    → areas_right (with_run h k p roots) disk new ≡ true
unfolding areas_right disk_right with_run with_stage_roots with_program with_progress with_came
areas-again h disk stage new k p roots e a = both-join _ _ (both_left _ _ a) (ap (λ (n : ℕ). eqb n (h.stage * h.sector)) e ∙ both_right _ _ a)

module _ (disk : List ℕ) (w : Pieced) (t : Taking disk w) (b : List ℕ) (fit : w.host.program.came + length b ≤ w.host.program.terms.head.length) where
  -- it is accepted
  pub takes : piece disk w.host w.stage w.input w.output b ≡ accepted disk w.host w.stage w.input w.output b
  unfolding piece_by input_right output_right
  takes =
      let h = w.host in
      let lent = piece-lent h disk w.stage w.input w.output t.areas (eq-eqb _ _ t.input) (eq-eqb _ _ t.output) in
      skips _ _ _ (goes h _ (record { order = t.order; areas = lent; live = t.live }))
      ∙ skips (ltb h.program.terms.head.length (h.program.came + length b)) _ _ (le-ltb _ _ fit)

  -- and leaves a host that takes pieces
  pub stays : Taking disk (accepted disk w.host w.stage w.input w.output b)
  unfolding accepted_by run with_run with_stage_roots with_program with_progress with_came turn_of
  stays =
      let h = w.host in
      let s = setting_of h in
      let vol = volume_of h disk in
      let L = order-lent h t.order in
      let g = runs-good s vol (put w.input h.program.came b) (h.program.came + length b) s.terms.head.count
      (turn_of h w.stage w.output) L (order-good h t.order t.live t.entries) in
      let a = runs-alike s vol (put w.input h.program.came b) (h.program.came + length b) s.terms.head.count
      (turn_of h w.stage w.output) in
      record {
        order = good-order h (h.program.came + length b) _ _ t.order fit g;
        areas = areas-again w.host disk w.stage _ _ _ _ a.stage t.areas;
        live = t.live;
        input = length-put w.input _ b ∙ t.input;
        output = a.output ∙ t.output;
        entries = g.entries;
        disk_roots = t.disk_roots;
        stage_roots = a.roots ∙ t.stage_roots;
      }

came-accepted : (disk : List ℕ) (w : Pieced) (b : List ℕ) → (accepted disk w.host w.stage w.input w.output b).host.program.came
    ≡ w.host.program.came + length b
unfolding accepted_by with_run with_stage_roots with_program with_progress with_came
came-accepted disk w b = refl

length-accepted : (disk : List ℕ) (w : Pieced) (b : List ℕ) → (accepted disk w.host w.stage w.input
    w.output b).host.program.terms.head.length ≡ w.host.program.terms.head.length
unfolding accepted_by with_run with_stage_roots with_program with_progress with_came
length-accepted disk w b = refl

answer-accepted : (disk : List ℕ) (w : Pieced) (b : List ℕ) → (accepted disk w.host w.stage w.input w.output b).number ≡ 0
unfolding accepted_by
answer-accepted disk w b = refl

-- pieces that together stay within the declared length are all accepted
pub all-accepted : (disk : List ℕ) (w : Pieced) (bs : List (List ℕ)) → Taking disk w → w.host.program.came + length
    (together bs) ≤ w.host.program.terms.head.length → AllAccepted disk w bs
unfolding together
all-accepted disk w [] t h = tt
all-accepted disk w (b ∷ bs) t h =
    let fit : w.host.program.came + length b ≤ w.host.program.terms.head.length = omega (arith, length-append b (together bs)) in
    let e = takes disk w t b fit in (
      ap (λ (x : Pieced). x.number) e ∙ answer-accepted disk w b,
      subst (λ (x : Pieced). AllAccepted disk x bs) (sym e)
          (all-accepted disk (accepted disk w.host w.stage w.input w.output b) bs (stays disk w t b fit)
          (omega (arith, length-append b (together bs), came-accepted disk w b, length-accepted disk w b))),
    )
