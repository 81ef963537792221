-- The calls read roots as they are kept. Assumes nothing.
use Rattle.lists.proofs.Kit.{◌≡◌, ap, List, ℕ}
use Rattle.machine_rules.specs.View.{Way, kept, Volume}
use Rattle.machine_rules.specs.declared.Setting.{Setting}
use Rattle.machine_rules.specs.Roots.{kept_root, root_by, root_of}
use Rattle.machine_rules.specs.declared.Spot.{Spot}

pub reads_kept : (s : Setting) (vol : Volume) (stage copies : List ℕ) → vol.way ≡ kept → root_of s vol stage copies ≡ kept_root vol.roots copies
unfolding root_of root_by
reads_kept s vol stage copies e = ap {B = Spot → List ℕ} (λ (w : Way) (x : Spot). root_by w s.sector vol.disk stage vol.roots copies x) e
