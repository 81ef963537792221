-- New slots: each the lowest that is not used, so they are distinct, unused and below the disk where enough are free. Assumes nothing.
use Rattle.lists.proofs.Kit.{◌≡◌, refl, ap, true, not, List, ◌∷◌, ℕ, zero, suc, ◌≤◌, arith, length, ltb, eqb, lt-ltb}
use Rattle.lists.specs.Tests.{every, apart, count, unused}
use Rattle.lists.specs.Lowest.{lowest}
use Rattle.lists.proofs.Laws.Pick.{both-join}
use Rattle.lists.proofs.Laws.Counts.{lowest-is, count-but-one, more-used}
use Rattle.lists.proofs.Laws.Apart.{unused-head}
use Rattle.machine_rules.specs.Commit.{new_slots}

-- what new slots are
pub record Fresh (disk : ℕ) (used : List ℕ) (n : ℕ) (new : List ℕ) : Type 0 where
  pub many : length new ≡ n
  pub within : every (λ x. ltb x disk) new ≡ true
  pub own : apart eqb new ≡ true
  pub unused : every (unused used) new ≡ true

pub new-slots : (disk : ℕ) (n : ℕ) (used : List ℕ) → n ≤ count (unused used) 0 disk → Fresh disk used n (new_slots disk used n)
unfolding new_slots every apart
new-slots disk zero used h = record { many = refl; within = refl; own = refl; unused = refl }
new-slots disk (suc n) used h =
    let x : ℕ = lowest (unused used) 0 disk in
    let f = lowest-is (unused used) 0 disk (omega arith) in
    let r = new-slots disk n (x ∷ used) (omega (arith, count-but-one (unused used) (unused (x ∷ used)) x (more-used used x) 0 disk)) in
    let u = unused-head x used (new_slots disk (x ∷ used) n) r.unused in
    record {
      many = ap suc r.many;
      within = both-join _ _ (lt-ltb x disk (omega (arith, f.1))) r.within;
      own = both-join _ _ (ap not u.0) r.own;
      unused = both-join _ _ f.0 u.1;
    }
