-- Making a host. Assumes nothing.
use Rattle.lists.proofs.Kit.{◌≡◌, refl, true, false, not, ℕ, ◌/◌, arith, replicate}
use Rattle.lists.proofs.Kit.{not-false}
use Rattle.lists.specs.Pick.{pick}
use Rattle.lists.specs.Tests.{every, some, apart}
use Rattle.lists.proofs.Laws.Pick.{picks, both_right, both-join}
use Rattle.lists.proofs.Laws.Ways.{either_way}
use Rattle.sia.specs.Encode.{joined}
use Rattle.host.specs.Sizes.{is_size}
use Rattle.host.specs.Empty.{no_place, no_program, bare}
use Rattle.host.specs.Places.{committed, taken}
use Rattle.host.specs.Order.{lent, place_in_order, twins, places_in_order, in_order}
use Rattle.host.specs.Calls.{length_right, freshed}
use Rattle.host.proofs.Theorems.{no-slots-refused}
use Rattle.host.specs.Calls.{Made}
use Rattle.machine_rules.proofs.Forming.{Fine}

-- ---- making

none-places : (z disk : ℕ) → places_in_order z disk (replicate 8 no_place) ≡ true
unfolding places_in_order place_in_order every apart some twins taken joined committed no_place pick
none-places z disk = refl

bare-order : (z disk stage : ℕ) → is_size z ≡ true → lent 64 disk ≡ true → lent 16 stage ≡ true → in_order (bare z disk stage) ≡ true
unfolding in_order bare no_program
bare-order z disk stage e d s =
    both-join _ _ e (both-join _ _ d (both-join _ _ s (both-join _ _ (none-places z disk) (picks (not false) true _ refl))))

abbrev MadeFine : Made → Type 0
MadeFine r = r.number ≡ 0 → Fine r

abbrev Unmade : Made → Type 0
Unmade r = (r.number ≡ 0 → ⊥) → (r.number ≡ 2) × (in_order r.host ≡ false)

pub making : (z disk stage : ℕ) → (freshed z disk stage).number ≡ 0 → Fine (freshed z disk stage)
unfolding freshed length_right
making z disk stage =
    either_way MadeFine (not (is_size z)) _ _ (λ _ n. absurd (omega arith)) (λ e.
    either_way MadeFine (not (length_right z 64 disk)) _ _ (λ _ n. absurd (omega arith)) (λ d.
    either_way MadeFine (not (length_right z 16 stage)) _ _ (λ _ n. absurd (omega arith)) (λ s n.
    bare-order z (disk / z) (stage / z) (not-false _ e) (both_right _ _ (not-false _ d)) (both_right _ _ (not-false _ s)))))

pub unmade : (z disk stage : ℕ) → ((freshed z disk stage).number ≡ 0 → ⊥) → ((freshed z disk stage).number ≡ 2) × (in_order (freshed z disk stage).host ≡ false)
unfolding freshed
unmade z disk stage =
    either_way Unmade (not (is_size z)) _ _ (λ _ _. (refl, no-slots-refused)) (λ _.
    either_way Unmade (not (length_right z 64 disk)) _ _ (λ _ _. (refl, no-slots-refused)) (λ _.
    either_way Unmade (not (length_right z 16 stage)) _ _ (λ _ _. (refl, no-slots-refused)) (λ _ n. absurd (n refl))))
