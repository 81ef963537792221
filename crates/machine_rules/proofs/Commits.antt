-- A commit gives the parent the size, root and bytes that it was read with, leaves every other contract, and changes no slot but those that
-- staged positions go to; so an agreement that is answered with 0. Assumes nothing.
pub mod Moved
pub mod Parent
pub mod Held
pub mod Roots
use Rattle.lists.proofs.Kit.{◌≡◌, refl, sym, ap, ap₂, ◌∙◌, subst, true, false, List, [], ℕ, arith}
use Rattle.lists.specs.Tests.{each}
use Rattle.lists.specs.Tab.{tab}
use Rattle.lists.proofs.Laws.Pick.{by, skips, never}
use Rattle.sia.specs.Encode.{joined}
use Rattle.host.specs.With.{with_places, with_program, with_disk_roots}
use Rattle.host.specs.Places.{committed}
use Rattle.machine_rules.specs.View.{parent, sector, spot_of, parent_spots, committed_spots, whole, setting_of, volume_by, volume_of}
use Rattle.machine_rules.specs.Roots.{kept_root, root_by, root_of}
use Rattle.machine_rules.specs.Record.{same_pair, pair_of, starting_pair}
use Rattle.machine_rules.specs.Commit.{Closed, given_up, commit}
use Rattle.machine_rules.specs.Visit.{Areas, Agreement, named, closes, Declared, Finished}
use Rattle.machine_rules.specs.Trace.{sectors_of, parent_in, pair_in, starting, running, running_sectors, Unchanged}
use Rattle.machine_rules.specs.Outcome.{Dropped, Committed}
use Rattle.machine_rules.specs.Demand2.{Agreed}
use Rattle.machine_rules.proofs.Laws.Pairs.{same-pairs, pairs-differ, none-starts, none_runs}
use Rattle.machine_rules.proofs.Nothing.{given-up, close-ways}
use Rattle.machine_rules.proofs.Unchanged.{same-closes, right-closes}
use Rattle.host.specs.declared.Place.{Place}
use Rattle.host.specs.declared.Host.{Host}
use Rattle.machine_rules.specs.declared.Pair.{Pair}
use Rattle.machine_rules.specs.declared.Spot.TheVariants.{OnDisk}
use Rattle.machine_rules.proofs.Commits.Parent.{Closing, left, nobody, no-sectors, commit-ways}
use Rattle.machine_rules.proofs.Commits.Held.{held-commits}

module _ (h : Host) (a : Areas) (c : Closing h a) where
  -- ---- no parent: read-only mode

  module _ (free : (parent_in h h.places).held ≡ false) where
    nobody-pair : pair_in h.sector h a.disk (parent_in h h.places) ≡ running h a
    unfolding starting_pair parent
    nobody-pair = none-starts (setting_of h) (volume_of h a.disk) free ∙ sym (none_runs (setting_of h) _ h.program.progress (nobody h a c free))

    nobody-sectors : sectors_of h.sector a.disk (parent_in h h.places) ≡ running_sectors h a
    unfolding sectors_of whole joined committed_spots committed each parent_spots tab
    nobody-sectors =
        ap (λ (l : List ℕ). whole h.sector a.disk [] (each OnDisk l)) (skips (parent_in h h.places).held _ [] free)
        ∙ sym (ap (λ (n : ℕ). whole h.sector a.disk a.stage (tab 0 n (spot_of (parent (setting_of h)).slots h.program.progress.staged)))
        (no-sectors h a c free))

    nobody-commits : Committed h a (left h (parent_in h h.places).size h.places h.diskroots a.disk)
    unfolding left with_program with_places with_disk_roots volume_by root_of root_by kept_root
    nobody-commits = record {
      parent = nobody-pair;
      sectors = nobody-sectors;
      others = λ other ne. (refl, (refl, refl));
      slots = λ n out. (refl, refl);
      stage = refl;
      long = refl;
      tally = refl;
      growth = refl;
    }

  commits : Committed h a (commit a.disk h a.stage)
  commits = commit-ways h a c (Committed h a) (held-commits h a c) nobody-commits

-- ---- an agreement that is answered with 0

module _ (h : Host) (a : Areas) (g : Agreement) (agrees : g.agree ≡ true) where
  finished : (closes h a g).number ≡ 0 → Finished h a
  finished =
      close-ways h a g (λ r. r.number ≡ 0 → Finished h a) (λ n lo _ _ e. absurd (omega arith)) (λ e. never (sym agrees ∙ e))
      (λ _ f _ _. f) (λ _ f _ _. f) (λ _ f _ _ _. f)

  drops : (closes h a g).number ≡ 0 → Unchanged h a → Dropped a h (closes h a g)
  drops e u = subst (Dropped a h) (sym (same-closes h a g agrees (finished e) u)) (given-up h a 0)

  pair : (closes h a g).number ≡ 0 → (Unchanged h a → ⊥) → named g ≡ running h a
  unfolding given_up
  pair =
      close-ways h a g (λ r. r.number ≡ 0 → (Unchanged h a → ⊥) → named g ≡ running h a) (λ n lo _ _ e. absurd (omega arith))
      (λ e. never (sym agrees ∙ e)) (λ _ _ u _ changed. absurd (changed u)) (λ _ _ _ e. absurd (omega arith)) (λ _ _ _ q _ _. q)

  all-commits : Declared h → (closes h a g).number ≡ 0 → (Unchanged h a → ⊥) → Committed h a (closes h a g)
  all-commits declared e changed =
      let f = finished e in
      subst (Committed h a) (sym (right-closes h a g agrees f changed (pair e changed)))
      (commits h a (record { declared = declared; order = f.order; areas = f.areas; live = f.live }))

  -- the pair of the parent in what a close leaves
  abbrev standing : Closed → Pair
  standing r = pair_in h.sector r.host r.disk (parent_in h r.host.places)

  stands : Declared h → (closes h a g).number ≡ 0 → standing (closes h a g) ≡ running h a
  unfolding starting_pair parent volume_by root_of root_by kept_root
  stands declared e =
      by (same_pair (running h a) (starting h a))
      (λ t. let u = same-pairs _ _ t in
      let d = (drops e u).untouched in
      ap₂ (λ (r : List ℕ) (ps : List Place). pair_of h.sector (sector 32 r []) (parent_in h ps)) d.roots d.places ∙ sym u)
      (λ t. (all-commits declared e (pairs-differ _ _ t)).parent)

  done : Finished h a → named g ≡ running h a → (closes h a g).number ≡ 0
  unfolding given_up commit
  done f q =
      by (same_pair (running h a) (starting h a))
      (λ t. ap (λ (r : Closed). r.number) (same-closes h a g agrees f (same-pairs _ _ t)))
      (λ t. ap (λ (r : Closed). r.number) (right-closes h a g agrees f (pairs-differ _ _ t) q))

  pub agreements : Agreed h a g
  agreements = record { finished = finished; drops = drops; pair = pair; commits = all-commits; stands = stands; done = done }
