-- Visits: a program opened on a host in order takes pieces cut anywhere; records, tally and close after them. Assumes nothing.
use Rattle.lists.proofs.Kit.{◌≡◌, refl, sym, ap, ◌∙◌, subst, false, List, [], ◌∷◌, ◌++◌, ℕ, ◌+◌, ◌≤◌, ◌<◌, arith, length, length-append}
use Rattle.area.specs.Area.{part}
use Rattle.area.specs.Little.{le8}
use Rattle.machine_rules.specs.View as View
use Rattle.machine_rules.specs.View.{turn_of, parent, setting_of, volume_by, volume_of}
use Rattle.machine_rules.specs.Roots.{kept_root, root_by, root_of}
use Rattle.machine_rules.specs.Record.{pair_of, starting_pair}
use Rattle.machine_rules.specs.Calls.{Pieced}
use Rattle.machine_rules.specs.Commit.{Closed}
use Rattle.machine_rules.specs.Visit.{Areas, Opening, Agreement, opens, Declared, Visit}
use Rattle.machine_rules.specs.Trace.{together, lent_to, visited, left_by, made, after}
use Rattle.machine_rules.specs.Trace.{first_records, records_in, last_of, charged, parent_in, running}
use Rattle.machine_rules.specs.Outcome.{Untouched}
use Rattle.machine_rules.specs.Demand2.{Ran, Closes}
use Rattle.machine_rules.specs.Demand3.{Cut}
use Rattle.machine_rules.proofs.Failing.{summed, within}
use Rattle.machine_rules.proofs.Nothing.{nothing, unchanged}
use Rattle.machine_rules.proofs.Laws.Declared.{same-opens, same-fed}
use Rattle.machine_rules.proofs.Opening.{Opened, opening-takes, opening-begins}
use Rattle.machine_rules.proofs.Cutting.{all-taken, cut-state, cut-alike}
use Rattle.machine_rules.proofs.Records.{after-count, after-output, after-written}
use Rattle.machine_rules.proofs.Showing.{after-shows}
use Rattle.machine_rules.proofs.Commits.{agreements}
use Rattle.host.specs.declared.Host.{Host}

-- ---- pieces cut anywhere

module _ (h : Host) (o : Opening) (a : Areas) (all : List ℕ) (v : Visit h o a all) where
  -- the host that the opening leaves
  abbrev x : Host
  x = (opens h o).host

  takes : Opened (opens h o).host a
  takes = opening-takes h o a all v

  long : length all ≡ (opens h o).host.program.terms.head.length
  long = v.long ∙ sym (opening-begins h o v.opening).3

  -- "Init, is tallied at opening"
  tallies : (k : ℕ) → ((after x a all k).tally ≡ o.prices.init + charged x a all k) × ((after x a all k).tally ≤ o.budget)
  unfolding after made volume_by turn_of
  tallies k =
      let q = opening-begins h o v.opening in
      let sum = summed (setting_of x) (volume_of x a.disk) all k (turn_of x a.stage a.output) in
      let most = within (setting_of x) (volume_of x a.disk) all k (turn_of x a.stage a.output) (omega (arith, q.0, q.1, q.2)) in
      (sum ∙ ap (λ (n : ℕ). n + charged x a all k) q.0, omega (arith, most, q.1))

  module _ (b : List ℕ) (bs : List (List ℕ)) (rest : List ℕ) (e : together (b ∷ bs) ++ rest ≡ all) where
    abbrev k : ℕ
    k = length (together (b ∷ bs))

    front : length (together (b ∷ bs)) ≤ (opens h o).host.program.terms.head.length
    front = omega (arith, long, length-append (together (b ∷ bs)) rest, ap length e)

    state : visited h o a (b ∷ bs) ≡ after x a all k
    state = cut-state x a all takes.takes takes.came long b bs rest e

    pub cut : Cut x a all (b ∷ bs) k (visited h o a (b ∷ bs))
    cut = record {
      accepted = all-taken x a all takes.takes takes.came long (b ∷ bs) rest e;
      output = ap (λ (w : Pieced). w.output) state ∙ after-output x a all k front takes.takes takes.written;
      count = ap (λ (w : Pieced). records_in w.host) state ∙ after-count x a all k front takes.ran takes.failed;
      written = ap (λ (w : Pieced). w.host.program.progress.written) state
          ∙ after-written x a all k front takes.takes takes.written;
      state = state;
    }

    abbrev Shows : Pieced → Type 0
    Shows w = 0 < length (first_records x a all k) → w.host.program.progress.failed ≡ false
        → let pair = running w.host (left_by a w) in part (last_of [] (first_records x a all k)) 16 40 ≡ le8 pair.size ++ pair.root

    pub ran : Ran x o a all k (visited h o a (b ∷ bs))
    ran = record {
      tally = ap (λ (w : Pieced). w.tally) state ∙ (tallies k).0;
      within = omega (arith, ap (λ (w : Pieced). w.tally) state, (tallies k).1);
      shows = subst Shows (sym state) (after-shows x a all k front);
    }

  -- when all has come
  pub alike : (b c : List ℕ) (bs cs : List (List ℕ)) → together (b ∷ bs) ≡ all → together (c ∷ cs) ≡ all
      → visited h o a (b ∷ bs) ≡ visited h o a (c ∷ cs)
  alike = cut-alike x a all takes.takes takes.came long

-- ---- a close after any pieces

before : (a b : Areas) (h g : Host) (r : Closed) → b.disk ≡ a.disk → g.places ≡ h.places → g.diskroots ≡ h.diskroots
    → Untouched b g r → Untouched a h r
before a b h g r e p q u = record { bytes = u.bytes ∙ e; places = u.places ∙ p; roots = u.roots ∙ q }

pub closing-visits : (h : Host) (o : Opening) (a : Areas) (bs : List (List ℕ)) (g : Agreement) → Declared h
    → Closes h a (visited h o a bs) g
unfolding starting_pair parent volume_by root_of root_by kept_root
closing-visits h o a bs g d =
    let first = same-opens h o d in
    let w = visited h o a bs in
    let last = same-fed a.disk (lent_to (opens h o).host a) bs first.declared in
    let none = nothing w.host (left_by a w) in
    let places = last.places ∙ first.places in
    let roots = last.roots ∙ first.roots in
    let sector = last.sector ∙ first.sector in
    record {
      starts = (λ i. pair_of (sector i) (View.sector 32 (roots i) []) (parent_in w.host (places i)));
      all = λ n agrees changed. (agreements w.host (left_by a w) g agrees).commits last.declared n changed;
      unchanged = λ u. before a (left_by a w) h w.host _ refl places roots (unchanged w.host (left_by a w) g u);
      nothing = λ no. before a (left_by a w) h w.host _ refl places roots (none.uncommitted g no);
      failed = λ f. before a (left_by a w) h w.host _ refl places roots (none.failed g f);
      unended = λ e. before a (left_by a w) h w.host _ refl places roots (none.unended g e);
    }
