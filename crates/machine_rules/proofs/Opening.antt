-- An opening that is answered with 0 leaves a host that takes pieces: down the chain of refusals, none of which applied. Assumes nothing.
use Rattle.lists.proofs.Kit.{◌≡◌, refl, sym, ap, ◌∙◌, subst, true, false, not, List, ℕ, ◌≤◌, arith, length, eqb, not-false, eqb-false, ltb-false}
use Rattle.lists.specs.Pick.{pick}
use Rattle.lists.proofs.Laws.Pick.{by, picks, skips}
use Rattle.lists.proofs.Laws.Ways.{passes}
use Rattle.sia.specs.Decode.{decode}
use Rattle.host.specs.Empty.{started}
use Rattle.host.specs.With.{with_program}
use Rattle.host.specs.Order.{in_order}
use Rattle.machine_rules.specs.View.{disk_right, areas_right}
use Rattle.machine_rules.specs.Calls.{answered, begun, opened_head, opened}
use Rattle.machine_rules.specs.Visit.{Areas, Opening, Declared, Visit}
use Rattle.machine_rules.specs.Trace.{lent_to}
use Rattle.machine_rules.proofs.Laws.Taking.{Taking}
use Rattle.machine_rules.proofs.Ordering.{opening}
use Rattle.sia.specs.declared.Head.{Head}
use Rattle.host.specs.declared.Prices.{Prices}
use Rattle.host.specs.declared.Host.{Host}
use Rattle.machine_rules.specs.Calls.{Answer}

fault-passes : (fault : ℕ) (h : Host) (r : Answer) → (pick (not (eqb fault 0)) (answered fault 0 h) r).number ≡ 0
    → (r.number ≡ 0) × (pick (not (eqb fault 0)) (answered fault 0 h) r ≡ r)
fault-passes fault h r e =
    by (eqb fault 0)
    (λ u. let q = skips (not (eqb fault 0)) (answered fault 0 h) r (ap not u) in (ap (λ (x : Answer). x.number) (sym q) ∙ e, q))
    (λ u. absurd (eqb-false fault 0 u (ap (λ (x : Answer). x.number) (sym (picks (not (eqb fault 0)) (answered fault 0 h) r (ap not u))) ∙ e)))

-- what an opening that is answered with 0 answers
pub opens : (h : Host) (fault : ℕ) (hd : Head) (budget : ℕ) (p : Prices) (room : ℕ) → (opened_head h fault hd budget p room).number ≡ 0
    → (in_order h ≡ true) × (opened_head h fault hd budget p room ≡ answered 0 p.init (with_program h (begun h hd budget p room))) × (p.init ≤ budget)
unfolding opened_head
opens h fault hd budget p room a =
    let c1 = passes (λ r. r.number) _ (answered 1 0 h) _ (λ n. absurd (omega arith)) a in
    let c2 = passes (λ r. r.number) _ (answered 2 0 h) _ (λ n. absurd (omega arith)) c1.1 in
    let c3 = passes (λ r. r.number) _ (answered 3 0 h) _ (λ n. absurd (omega arith)) c2.1 in
    let c9 = fault-passes fault h _ c3.1 in
    let c7 = passes (λ r. r.number) _ (answered 7 0 h) _ (λ n. absurd (omega arith)) c9.0 in
    let c11 = passes (λ r. r.number) _ (answered 11 0 h) _ (λ n. absurd (omega arith)) c7.1 in
    (not-false _ c1.0, c1.2 ∙ c2.2 ∙ c3.2 ∙ c9.1 ∙ c7.2 ∙ c11.2, ltb-false budget p.init c11.0)

-- a program as it is opened: with areas as stated its host takes pieces, and nothing has come, was written or ran
pub record Opened (h : Host) (a : Areas) : Type 0 where
  pub takes : Taking a.disk (lent_to h a)
  pub came : h.program.came ≡ 0
  pub written : h.program.progress.written ≡ 0
  pub ran : h.program.progress.ran ≡ 0
  pub failed : h.program.progress.failed ≡ false

begun_opened : (h : Host) (hd : Head) (o : Opening) (a : Areas) → Declared h
    → in_order (with_program h (begun h hd o.budget o.prices o.room)) ≡ true → areas_right h a.disk a.stage ≡ true
    → length a.input ≡ hd.length → length a.output ≡ o.room
    → Opened (with_program h (begun h hd o.budget o.prices o.room)) a
unfolding with_program begun started areas_right disk_right
begun_opened h hd o a declared order areas input output = record {
  takes = record {
    order = order;
    areas = areas;
    live = refl;
    input = input;
    output = output;
    entries = refl;
    disk_roots = declared.disk;
    stage_roots = declared.stage;
  };
  came = refl;
  written = refl;
  ran = refl;
  failed = refl;
}

pub opening-takes : (h : Host) (o : Opening) (a : Areas) (all : List ℕ) → Visit h o a all
    → Opened (opened h o.bytes o.budget o.prices o.room).host a
unfolding opened
opening-takes h o a all v =
    let q = opens h (decode o.bytes).number (decode o.bytes).head o.budget o.prices o.room v.opening in
    let order = opening h o.bytes o.budget o.prices o.room v.declared v.head q.0 in
    subst (λ (x : Answer). Opened x.host a) (sym q.1)
    (begun_opened h (decode o.bytes).head o a v.declared
    (subst (λ (x : Answer). in_order x.host ≡ true) q.1 order) v.areas v.input v.output)

-- what the opened program has of the opening
pub opening-begins : (h : Host) (o : Opening) → (opened h o.bytes o.budget o.prices o.room).number ≡ 0
    → let g = (opened h o.bytes o.budget o.prices o.room).host in
    (g.program.progress.tally ≡ o.prices.init) × (g.program.terms.budget ≡ o.budget) × (o.prices.init ≤ o.budget)
    × (g.program.terms.head.length ≡ (decode o.bytes).head.length)
unfolding opened with_program begun started
opening-begins h o n =
    let q = opens h (decode o.bytes).number (decode o.bytes).head o.budget o.prices o.room n in (
      ap (λ (r : Answer). r.host.program.progress.tally) q.1,
      ap (λ (r : Answer). r.host.program.terms.budget) q.1,
      q.2,
      ap (λ (r : Answer). r.host.program.terms.head.length) q.1,
    )
