-- A commit with a held parent: the parent has the size, root and bytes that it was read with, every other contract is left. Assumes nothing.
use Rattle.lists.proofs.Kit.{◌≡◌, refl, sym, ap, ◌∙◌, subst, true, false, List, [], ℕ, ◌*◌, ◌/◌, ◌≤◌, ◌<◌, arith, length, get_or, List·get_or-append, eqb}
use lib.IntN.{pos, ◌-ℤ◌}
use Rattle.lists.specs.Tests.{each, unused}
use Rattle.lists.specs.Tab.{tab}
use Rattle.lists.proofs.Laws.Each.{length-each}
use Rattle.lists.proofs.Laws.Tab.{length-tab}
use Rattle.area.specs.Area.{same, part}
use Rattle.area.proofs.Laws.Slots.{slot-within}
use Rattle.host.specs.Empty.{none}
use Rattle.host.specs.With.{with_places, with_program, with_disk_roots, with_size, with_slots}
use Rattle.host.specs.Places.{has_id, whose}
use Rattle.host.specs.Calls.{replaced}
use Rattle.machine_rules.specs.View.{parent, sector, spot_of, parent_spots, committed_spots, whole, setting_of, volume_by, volume_of}
use Rattle.machine_rules.specs.Roots.{kept_root, root_by, root_of, contract_root}
use Rattle.machine_rules.specs.Record.{pairing, pair_of, running_pair}
use Rattle.machine_rules.specs.Commit.{final_place}
use Rattle.machine_rules.specs.Visit.{Areas}
use Rattle.machine_rules.specs.Trace.{sectors_of, running, running_sectors}
use Rattle.machine_rules.specs.Outcome.{Committed}
use Rattle.machine_rules.proofs.Committing.{order-places}
use Rattle.machine_rules.proofs.Commits.Moved.{Fits, slot-left, other-alike, position, own-alike}
use Rattle.machine_rules.proofs.Commits.Parent.{Closing, id_of, Parent, Slots, left, back, left_by, good, solid, staged-below}
use Rattle.machine_rules.proofs.Laws.Copies.{few-sectors}
use Rattle.machine_rules.proofs.Laws.Spots.{unstaged}
use Rattle.machine_rules.proofs.Laws.Split.{replaced-split}
use Rattle.machine_rules.proofs.Laws.Taking.{areas-stage}
use Rattle.machine_rules.proofs.Laws.Filling.{filling-length, filling-outside, roots-alike}
use Rattle.machine_rules.proofs.Laws.Others.{whose-new, not-other, whose-other}
use Rattle.host.specs.declared.Place.{Place}
use Rattle.host.specs.declared.Host.{Host}
use Rattle.machine_rules.specs.declared.Spot.{Spot}
use Rattle.machine_rules.specs.declared.Spot.TheVariants.{OnDisk}

module _ (h : Host) (a : Areas) (c : Closing h a) (s : Parent h) (f : Slots h s) where
  abbrev z : ℕ
  z = h.sector

  abbrev id : List ℕ
  id = id_of h

  abbrev size : ℕ
  size = h.program.progress.size

  abbrev staged : List ℕ
  staged = h.program.progress.staged

  -- the disk and the roots kept beside its slots, after it
  unfoldable pub disk : List ℕ
  disk = back h z a.stage f.slots a.disk

  unfoldable pub roots : List ℕ
  roots = back h 32 h.stageroots f.slots h.diskroots

  -- the parent's place after it
  unfoldable pub place : Place
  place = final_place s.it size f.slots

  place_here : has_id id place ≡ true
  unfolding place final_place with_slots with_size has_id
  place_here = s.here

  place_is : whose id (replaced id place h.places) ≡ place
  place_is = ap (whose id) (replaced-split id place h.places s) ∙ whose-new id place s.before s.behind place_here s.not-before

  -- ---- slots lie within

  kept-below : (j : ℕ) → j < size / z → eqb (get_or staged j none) none ≡ true → j < s.it.size / z
  kept-below j lt e =
      let g = good h a c in
      let few : size / z ≤ length staged = omega (arith, few-sectors (setting_of h) h.program.progress (solid h a c).lent g, g.entries) in
      subst (λ (p : Place). j < p.size / z) s.whose-is
      (unstaged (setting_of h) (volume_of h a.disk) h.program.progress (solid h a c) g.orderly.staged few j lt e)

  disk-fits : Fits f z staged a.stage a.disk
  unfolding volume_by
  disk-fits = record {
    room = λ n lt. slot-within z n h.disk a.disk lt (omega (arith, (solid h a c).disk));
    full = λ j e. slot-within z (get_or staged j none) h.stage a.stage (staged-below h a c j e)
        (omega (arith, areas-stage h a.disk a.stage c.areas));
    kept = kept-below;
  }

  roots-fit : Fits f 32 staged h.stageroots h.diskroots
  roots-fit = record {
    room = λ n lt. omega (arith, c.declared.disk, (order-places h c.order).1);
    full = λ j e. omega (arith, c.declared.stage, (solid h a c).lent.few, staged-below h a c j e);
    kept = kept-below;
  }

  -- ---- the parent

  abbrev spots : List Spot
  spots = tab 0 (size / z) (spot_of s.it.slots staged)

  pub spots-are : parent_spots (setting_of h) h.program.progress ≡ spots
  unfolding parent_spots parent
  spots-are = ap (λ (p : Place). tab 0 (size / z) (spot_of p.slots staged)) s.whose-is

  pub sectors-back : (j : ℕ) → j < size / z → part disk (get_or f.slots j 0 * z) z ≡ sector z a.disk a.stage (spot_of s.it.slots staged j)
  unfolding disk
  sectors-back = position f z staged a.stage a.disk disk-fits

  pub roots-back : (j : ℕ) → j < size / z
      → part roots (get_or f.slots j 0 * 32) 32 ≡ sector 32 h.diskroots h.stageroots (spot_of s.it.slots staged j)
  unfolding roots
  roots-back = position f 32 staged h.stageroots h.diskroots roots-fit

  own-spots : committed_spots z place ≡ each OnDisk f.slots
  unfolding committed_spots place
  own-spots = ap (each OnDisk) f.place

  own-sectors : sectors_of z disk place ≡ running_sectors h a
  unfolding sectors_of whole disk
  own-sectors = ap (whole z disk []) own-spots ∙ own-alike f z staged a.stage a.disk disk-fits ∙ ap (whole z a.disk a.stage) (sym spots-are)

  own_root : contract_root (sector 32 roots []) (committed_spots z place)
      ≡ contract_root (sector 32 h.diskroots h.stageroots) (parent_spots (setting_of h) h.program.progress)
  unfolding roots
  own_root =
      ap (contract_root (sector 32 roots [])) own-spots
      ∙ roots-alike (sector 32 roots []) (sector 32 h.diskroots h.stageroots) (each OnDisk f.slots) spots
      (omega (arith, length-each OnDisk f.slots, f.long, length-tab 0 (size / z) (spot_of s.it.slots staged)))
      (own-alike f 32 staged h.stageroots h.diskroots roots-fit)
      ∙ ap (contract_root (sector 32 h.diskroots h.stageroots)) (sym spots-are)

  own_pair : pair_of z (sector 32 roots []) place ≡ running h a
  unfolding pair_of running_pair place final_place with_slots with_size volume_by root_of root_by kept_root
  own_pair = ap (pairing size) own_root

  -- ---- the others

  pub slot-stays : (n : ℕ) → unused f.slots n ≡ true → part disk (n * z) z ≡ part a.disk (n * z) z
  unfolding disk
  slot-stays = slot-left f z staged a.stage a.disk

  pub root-stays : (n : ℕ) → unused f.slots n ≡ true → part roots (n * 32) 32 ≡ part h.diskroots (n * 32) 32
  unfolding roots
  root-stays = slot-left f 32 staged h.stageroots h.diskroots

  other_place : (other : List ℕ) → same id other ≡ false → whose other (replaced id place h.places) ≡ whose other h.places
  other_place other ne = whose-other id other place h.places (not-other id other place ne place_here) ne

  other-sectors : (other : List ℕ) → same id other ≡ false → sectors_of z disk (whose other h.places) ≡ sectors_of z a.disk (whose other h.places)
  unfolding sectors_of whole disk
  other-sectors = other-alike f z staged a.stage a.disk

  other-pair : (other : List ℕ) → same id other ≡ false
      → pair_of z (sector 32 roots []) (whose other h.places) ≡ pair_of z (sector 32 h.diskroots []) (whose other h.places)
  unfolding pair_of roots
  other-pair other ne =
      let l = committed_spots z (whose other h.places) in
      ap (pairing (whose other h.places).size)
      (roots-alike (sector 32 roots []) (sector 32 h.diskroots []) l l refl (other-alike f 32 staged h.stageroots h.diskroots other ne))

  -- ---- all of it

  slot_is : (j : ℕ) → j < size / z → get_or (whose id (replaced id place h.places)).slots j 0 ≡ get_or f.slots j 0
  unfolding place final_place with_slots
  slot_is j lt = ap (λ (p : Place). get_or p.slots j 0) place_is ∙ List·get_or-append f.slots _ 0 j (omega (arith, f.long))

  -- a slot that no staged position goes to
  untouched : (y : ℕ) (copies area : List ℕ) (n : ℕ) → ((j : ℕ) → j < size / z → eqb (get_or staged j none) none ≡ false
      → get_or (whose id (replaced id place h.places)).slots j 0 ≡ n → ⊥)
      → part (back h y copies f.slots area) (n * y) y ≡ part area (n * y) y
  untouched y copies area n out =
      filling-outside y copies staged f.slots n 0 (size / z) area (λ j lo hi e q. out j (omega arith) e (slot_is j (omega arith) ∙ q))

  pub held-commits : Committed h a (left_by h a s.it f.slots)
  unfolding left with_program with_places with_disk_roots disk roots place volume_by root_of root_by kept_root
  held-commits = record {
    parent = ap (pair_of z (sector 32 roots [])) place_is ∙ own_pair;
    sectors = ap (sectors_of z disk) place_is ∙ own-sectors;
    others = λ other ne. (other_place other ne, (other-sectors other ne, other-pair other ne));
    slots = λ n out. (untouched z a.stage a.disk n out, untouched 32 h.stageroots h.diskroots n out);
    stage = refl;
    long = filling-length z a.stage staged f.slots 0 (size / z) a.disk;
    tally = refl;
    growth = ap (λ (p : Place). pos size -ℤ pos p.size) (sym s.whose-is);
  }
