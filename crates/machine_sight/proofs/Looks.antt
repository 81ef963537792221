-- What callers use: what a look-up asks, with a program in order and with none. Assumes nothing.
use Rattle.lists.proofs.Kit.{◌≡◌, List, ℕ, arith, length}
use Rattle.host.specs.Places.{taken}
use Rattle.machine_rules.specs.View.{parent, parent_spots, Volume}
use Rattle.machine_rules.specs.declared.Setting.{Setting}
use Rattle.machine_rules.specs.Facts.{Solid, Good}
use Rattle.machine_rules.proofs.Laws.Spots.{parent-valid}
use Rattle.machine_rules.proofs.Laws.Copies.{few-sectors}
use Rattle.machine_sight.proofs.Callers.{slots-hold, every-lies}
use Rattle.host.specs.declared.Progress.{Progress}
use Rattle.machine_sight.specs.Lookup.{Stand, Seeks}

module _ (s : Setting) (vol : Volume) (diskroots : List ℕ) (solid : Solid s vol) (d : length diskroots ≡ 2048) where
  pub all-stand : Stand s.sector diskroots s.places
  all-stand = record {
    size = solid.lent.size;
    order = solid.small;
    slots = slots-hold 32 diskroots s.disksectors (taken s.sector s.places) (omega (arith, solid.lent.most, d)) solid.slots;
  }

  pub program-seeks : (stageroots : List ℕ) → length stageroots ≡ 512 → (p : Progress) → Good s p
      → Seeks s.sector diskroots stageroots s.places s.terms.head.contract p.staged p.size
  unfolding parent_spots parent
  program-seeks stageroots e p good =
      let few = few-sectors s p solid.lent good in
      record {
        few = few;
        own = every-lies 32 s diskroots stageroots (omega (arith, d, solid.lent.most)) (omega (arith, e, solid.lent.few)) _
            (parent-valid s vol p solid good.orderly.staged (omega (arith, few, good.entries)));
        stand = all-stand;
      }
