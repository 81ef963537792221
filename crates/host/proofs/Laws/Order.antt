-- "Host in order" decided and as facts with names: the two directions, for each part and for the whole. Assumes nothing.
use Rattle.lists.proofs.Kit.{◌≡◌, sym, ap, ◌∙◌, true, not, List, ℕ, ◌≤◌, leb-true, le-leb, eqb-true, eq-eqb}
use Rattle.lists.proofs.Laws.Pick.{picks, skips, by, both-join, both_left, both_right}
use Rattle.host.specs.Order.{lent, places_in_order, staged_in_order, terms_in_order, progress_in_order, program_in_order, in_order}
use Rattle.host.specs.Facts.{Contracts, Staged, Agreed, Orderly, Running, Order}
use Rattle.host.specs.declared.Place.{Place}
use Rattle.host.specs.declared.Terms.{Terms}
use Rattle.host.specs.declared.Progress.{Progress}
use Rattle.host.specs.declared.Program.{Program}
use Rattle.host.specs.declared.Host.{Host}
use Rattle.host.proofs.Laws.Sizes.{size-facts, facts-size}

pub lent-facts : (most n : ℕ) → lent most n ≡ true → (1 ≤ n) × (n ≤ most)
unfolding lent
lent-facts most n e = (leb-true _ _ (both_left _ _ e), leb-true _ _ (both_right _ _ e))

pub facts-lent : (most n : ℕ) → 1 ≤ n → n ≤ most → lent most n ≡ true
unfolding lent
facts-lent most n p q = both-join _ _ (le-leb _ _ p) (le-leb _ _ q)

-- ---- contracts

pub contracts-facts : (z disk : ℕ) (ps : List Place) → places_in_order z disk ps ≡ true → Contracts z disk ps
unfolding places_in_order
contracts-facts z disk ps e =
    let f = both_right _ _ e in
    let g = both_right _ _ f in
    record { each = both_left _ _ e; differ = both_left _ _ f; own = both_left _ _ g; below = both_right _ _ g }

pub facts-contracts : (z disk : ℕ) (ps : List Place) → Contracts z disk ps → places_in_order z disk ps ≡ true
unfolding places_in_order
facts-contracts z disk ps o = both-join _ _ o.each (both-join _ _ o.differ (both-join _ _ o.own o.below))

-- ---- an open program

pub staged-facts : (stage start size : ℕ) (l : List ℕ) → staged_in_order stage start size l ≡ true → Staged stage start size l
unfolding staged_in_order
staged-facts stage start size l e =
    let f = both_right _ _ e in
    let g = both_right _ _ f in
    record { slots = both_left _ _ e; own = both_left _ _ f; below = both_left _ _ g; past = both_right _ _ g }

pub facts-staged : (stage start size : ℕ) (l : List ℕ) → Staged stage start size l → staged_in_order stage start size l ≡ true
unfolding staged_in_order
facts-staged stage start size l o = both-join _ _ o.slots (both-join _ _ o.own (both-join _ _ o.below o.past))

pub terms-facts : (ps : List Place) (t : Terms) (size : ℕ) → terms_in_order ps t size ≡ true → Agreed ps t size
unfolding terms_in_order
terms-facts ps t size e =
    let f = both_right _ _ e in
    let g = both_right _ _ f in
    record { parent = both_left _ _ e; head = both_left _ _ f; least = leb-true _ _ (both_left _ _ g); most = leb-true _ _ (both_right _ _ g) }

pub facts-terms : (ps : List Place) (t : Terms) (size : ℕ) → Agreed ps t size → terms_in_order ps t size ≡ true
unfolding terms_in_order
facts-terms ps t size o =
    both-join _ _ o.parent (both-join _ _ o.head (both-join _ _ (le-leb _ _ o.least) (le-leb _ _ o.most)))

module _ (z disk stage : ℕ) (ps : List Place) where
  pub progress-facts : (t : Terms) (p : Progress) → progress_in_order z disk stage ps t p ≡ true → Orderly z disk stage ps t p
  unfolding progress_in_order
  progress-facts t p a =
      let b = both_right _ _ a in
      let d = both_right _ _ b in
      let e = both_right _ _ d in
      let f = both_right _ _ e in
      record {
        ran = leb-true _ _ (both_left _ _ a);
        paid = leb-true _ _ (both_left _ _ b);
        fits = leb-true _ _ (both_left _ _ d);
        whole = eqb-true _ _ (both_left _ _ e);
        within = leb-true _ _ (both_left _ _ f);
        staged = staged-facts _ _ _ _ (both_right _ _ f);
      }

  pub facts-progress : (t : Terms) (p : Progress) → Orderly z disk stage ps t p → progress_in_order z disk stage ps t p ≡ true
  unfolding progress_in_order
  facts-progress t p o =
      both-join _ _ (le-leb _ _ o.ran)
      (both-join _ _ (le-leb _ _ o.paid)
      (both-join _ _ (le-leb _ _ o.fits)
      (both-join _ _ (eq-eqb _ _ o.whole)
      (both-join _ _ (le-leb _ _ o.within)
      (facts-staged _ _ _ _ o.staged)))))

  pub program-facts : (g : Program) → program_in_order z disk stage ps g ≡ true → Running z disk stage ps g
  unfolding program_in_order
  program-facts g e =
      let f = both_right _ _ e in
      record { terms = terms-facts _ _ _ (both_left _ _ e); came = leb-true _ _ (both_left _ _ f); progress = progress-facts _ _ (both_right _ _ f) }

  pub facts-program : (g : Program) → Running z disk stage ps g → program_in_order z disk stage ps g ≡ true
  unfolding program_in_order
  facts-program g o =
      both-join _ _ (facts-terms _ _ _ o.terms) (both-join _ _ (le-leb _ _ o.came) (facts-progress _ _ o.progress))

-- ---- the whole record

-- a host in order has the facts
pub order-facts : (h : Host) → in_order h ≡ true → Order h
unfolding in_order
order-facts h a =
    let e = both_right _ _ a in
    let f = both_right _ _ e in
    let g = both_right _ _ f in
    let disk = lent-facts 64 h.disk (both_left _ _ e) in
    let stage = lent-facts 16 h.stage (both_left _ _ f) in
    record {
      size = size-facts h.sector (both_left _ _ a);
      disk_least = disk.0;
      disk_most = disk.1;
      stage_least = stage.0;
      stage_most = stage.1;
      contracts = contracts-facts _ _ _ (both_left _ _ g);
      running = λ on. program-facts _ _ _ _ _ (sym (skips (not h.program.active) true _ (ap not on)) ∙ both_right _ _ g);
    }

-- and a host with the facts is in order
pub facts-order : (h : Host) → Order h → in_order h ≡ true
unfolding in_order
facts-order h o =
    both-join _ _ (facts-size _ o.size)
    (both-join _ _ (facts-lent _ _ o.disk_least o.disk_most)
    (both-join _ _ (facts-lent _ _ o.stage_least o.stage_most)
    (both-join _ _ (facts-contracts _ _ _ o.contracts)
    (by h.program.active
    (λ a. skips (not h.program.active) true _ (ap not a) ∙ facts-program _ _ _ _ _ (o.running a))
    (λ a. picks (not h.program.active) true _ (ap not a))))))

-- no more has come than the head says
pub came-within : (h : Host) → in_order h ≡ true → h.program.active ≡ true → h.program.came ≤ h.program.terms.head.length
came-within h o live = ((order-facts h o).running live).came
