-- The test of two pairs says yes exactly when they are equal; and the pairs where no contract is the parent. Assumes nothing.
use Rattle.lists.proofs.Kit.{◌≡◌, sym, ap, ap₂, ◌∙◌, true, false, List, [], ℕ, ◌/◌, zero-div, take, eqb-true, eq-eqb}
use Rattle.lists.specs.Tests.{each}
use Rattle.lists.specs.Tab.{tab}
use Rattle.lists.proofs.Laws.Pick.{by, skips, never, both-join, both_left, both_right}
use Rattle.area.proofs.Laws.Same.{same-eq, eq-same}
use Rattle.host.specs.Places.{whose, committed}
use Rattle.machine_rules.specs.View.{parent, spot_of, parent_spots, committed_spots, Volume}
use Rattle.machine_rules.specs.declared.Setting.{Setting}
use Rattle.machine_rules.specs.Roots.{root_on_disk, contract_root}
use Rattle.machine_rules.specs.Record.{pairing, same_pair, pair_of, starting_pair, running_pair}
use Rattle.machine_rules.specs.Calls.{no_pair}
use Rattle.machine_rules.proofs.Laws.Spots.{whose-nobody}
use Rattle.host.specs.declared.Progress.{Progress}
use Rattle.machine_rules.specs.declared.Spot.{Spot}
use Rattle.machine_rules.specs.declared.Spot.TheVariants.{OnDisk}
use Rattle.machine_rules.specs.declared.Pair.{Pair}

pub same-pairs : (one two : Pair) → same_pair one two ≡ true → one ≡ two
unfolding same_pair
same-pairs one two e = ap₂ pairing (eqb-true _ _ (both_left _ _ e)) (same-eq _ _ (both_right _ _ e))

pub pairs-same : (one two : Pair) → one ≡ two → same_pair one two ≡ true
unfolding same_pair
pairs-same one two e = both-join _ _ (eq-eqb _ _ (ap (λ (p : Pair). p.size) e)) (eq-same _ _ (ap (λ (p : Pair). p.root) e))

pub pairs-differ : (one two : Pair) → same_pair one two ≡ false → one ≡ two → ⊥
pairs-differ one two e q = never (sym (pairs-same one two q) ∙ e)

pub differ-pairs : (one two : Pair) → (one ≡ two → ⊥) → same_pair one two ≡ false
differ-pairs one two n = by (same_pair one two) (λ e. absurd (n (same-pairs one two e))) (λ e. e)

-- ---- no parent: size 0 and root zeros

pub none-starts : (s : Setting) (vol : Volume) → (parent s).held ≡ false → starting_pair s vol ≡ no_pair
unfolding starting_pair pair_of parent committed_spots committed each contract_root no_pair
none-starts s vol e =
    let p = whose s.terms.head.contract s.places in
    ap₂ pairing (whose-nobody _ s.places e)
    (ap (λ (l : List ℕ). contract_root (root_on_disk s vol) (each OnDisk l)) (skips p.held (take (p.size / s.sector) p.slots) [] e))

pub none_runs : (s : Setting) (f : Spot → List ℕ) (p : Progress) → p.size ≡ 0 → running_pair s f p ≡ no_pair
unfolding running_pair parent_spots tab contract_root no_pair
none_runs s f p e =
    let none = ap (λ (n : ℕ). n / s.sector) e ∙ zero-div s.sector in
    ap₂ pairing e (ap (λ (n : ℕ). contract_root f (tab 0 n (spot_of (parent s).slots p.staged))) none)
