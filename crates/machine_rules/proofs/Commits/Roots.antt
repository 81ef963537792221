-- The roots kept beside the disk's slots are right after a commit, where they were right before it (M-105). Assumes nothing.
use Rattle.lists.proofs.Kit.{◌≡◌, ap, ap₂, ◌∙◌, subst, Bool, true, List, ◌++◌, ℕ, ◌+◌, ◌/◌, ◌<◌, arith}
use Rattle.lists.specs.Tests.{every, unused}
use Rattle.lists.proofs.Laws.Every.{every-all, every_two, every-and, every-fore, every-aft}
use Rattle.lists.proofs.Laws.Tab.{tab-at}
use Rattle.area.specs.Area.{same}
use Rattle.tree.specs.Tree.{root}
use Rattle.host.specs.With.{with_places, with_program, with_disk_roots}
use Rattle.host.specs.Places.{committed, taken}
use Rattle.host.specs.Calls.{replaced}
use Rattle.machine_rules.specs.View.{sector, spot_of, parent_spots, setting_of}
use Rattle.machine_rules.specs.Sound.{right}
use Rattle.machine_rules.specs.Commit.{Closed, commit}
use Rattle.machine_rules.specs.Visit.{Areas}
use Rattle.machine_rules.proofs.Commits.Moved.{before-unused, behind-unused}
use Rattle.machine_rules.proofs.Commits.Parent.{Closing, id_of, Parent, Slots, left, left_by, commit-ways}
use Rattle.machine_rules.proofs.Commits.Held.{disk, roots, place, spots-are, sectors-back, roots-back, slot-stays, root-stays}
use Rattle.machine_rules.proofs.Laws.Split.{replaced-split, taken-split}
use Rattle.host.specs.declared.Host.{Host}
use Rattle.machine_rules.specs.declared.Spot.{Spot}

module _ (h : Host) (a : Areas) (c : Closing h a) where
  abbrev z : ℕ
  z = h.sector

  -- the root kept beside a spot is that of its sector
  abbrev agrees : Spot → Bool
  agrees y = same (sector 32 h.diskroots h.stageroots y) (root (sector z a.disk a.stage y))

  -- so of all that is committed
  abbrev Right : Closed → Type 0
  Right r = every (right r.host.sector r.disk r.host.diskroots) (taken r.host.sector r.host.places) ≡ true

  module _ (now : every agrees (parent_spots (setting_of h) h.program.progress) ≡ true)
      (before : every (right z a.disk h.diskroots) (taken z h.places) ≡ true) where
    module _ (s : Parent h) (f : Slots h s) where
      abbrev after : ℕ → Bool
      after = right z (disk h a c s f) (roots h a c s f)

      -- the parent's slots
      own-right : every after f.slots ≡ true
      unfolding right
      own-right = every-all after f.slots 0
          (λ j lt. let m : j < h.program.progress.size / z = omega (arith, f.long) in
          let e : 0 + j ≡ j = omega arith in
          ap₂ (λ (x y : List ℕ). same x (root y)) (roots-back h a c s f j m) (sectors-back h a c s f j m)
          ∙ subst (λ (k : ℕ). agrees (spot_of s.it.slots h.program.progress.staged k) ≡ true) e
          (tab-at agrees (spot_of s.it.slots h.program.progress.staged) 0 _ j m
          (subst (λ (l : List Spot). every agrees l ≡ true) (spots-are h a c s f) now)))

      -- and the others'
      still-right : (l : List ℕ) → every (unused f.slots) l ≡ true → every (right z a.disk h.diskroots) l ≡ true → every after l ≡ true
      unfolding right
      still-right l u v = every_two (unused f.slots) (right z a.disk h.diskroots) after l u v
          (λ n p q. ap₂ (λ (x y : List ℕ). same x (root y)) (root-stays h a c s f n p) (slot-stays h a c s f n p) ∙ q)

      taken-after : taken z (replaced (id_of h) (place h a c s f) h.places) ≡ taken z s.before ++ (f.slots ++ taken z s.behind)
      unfolding place
      taken-after = ap (taken z) (replaced-split (id_of h) (place h a c s f) h.places s) ∙ taken-split z s.before (place h a c s f) s.behind
          ∙ ap (λ (l : List ℕ). taken z s.before ++ (l ++ taken z s.behind)) f.place

      held-right : Right (left_by h a s.it f.slots)
      unfolding left with_program with_places with_disk_roots disk roots place
      held-right =
          let was = subst (λ (l : List ℕ). every (right z a.disk h.diskroots) l ≡ true)
          (ap (taken z) s.is ∙ taken-split z s.before s.it s.behind) before in
          ap (every after) taken-after
          ∙ every-and _ (taken z s.before) _ (still-right _ (before-unused f) (every-fore _ (taken z s.before) _ was))
          (every-and _ f.slots _ own-right
          (still-right _ (behind-unused f) (every-aft _ (committed z s.it) _ (every-aft _ (taken z s.before) _ was))))

    -- a commit leaves roots that are right, where they were right of all that is committed and of the parent as it is read
    pub commit-right : Right (commit a.disk h a.stage)
    unfolding left with_program with_places with_disk_roots
    commit-right = commit-ways h a c Right held-right (λ _. before)
