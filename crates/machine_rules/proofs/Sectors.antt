-- "Full sectors.": which sizes there are, that a host holds the one that it was made with, and that no call changes it. Assumes nothing.
use Rattle.lists.proofs.Kit.{◌≡◌, refl, ap, ap₂, ◌∙◌, true, false, not, List, ℕ, ◌*◌, ◌≤◌, mul-mod_left, arith, eq-eqb}
use Rattle.lists.proofs.Laws.Pick.{picks, skips, both-join}
use Rattle.lists.proofs.Laws.Ways.{either_way}
use Rattle.area.specs.Slots.{Size}
use Rattle.area.proofs.Laws.Slots.{slots-count}
use Rattle.host.specs.Sizes.{is_size}
use Rattle.host.specs.Empty.{bare}
use Rattle.host.specs.With.{with_places, with_program, with_stage_roots, with_disk_roots}
use Rattle.host.specs.Order.{lent, in_order}
use Rattle.host.specs.Calls.{answered, length_right, freshed, formed, dropped}
use Rattle.host.proofs.Laws.Sizes.{size-facts, power_size}
use Rattle.host.proofs.Laws.Order.{facts-lent}
use Rattle.machine_rules.specs.View.{with_run}
use Rattle.machine_rules.specs.Calls.{Pieced, Interrupted, opened_head, opened, accepted_by, stopped_by, piece_by, interrupt_by}
use Rattle.machine_rules.specs.Commit.{Closed, given_up, commit}
use Rattle.machine_rules.specs.Visit.{Areas, Opening, Agreement, opens, gives, stops, closes}
use Rattle.machine_rules.specs.Sectors.{Fixed, FullSectors}
use Rattle.machine_rules.proofs.Nothing.{close-ways}
use Rattle.machine_rules.proofs.Ordering.{damaged}
use Rattle.host.specs.declared.Host.{Host}
use Rattle.host.specs.Calls.{Made}
use Rattle.machine_rules.specs.Calls.{Answer}

-- ---- making

made : (z disk stage : ℕ) → (freshed z disk stage).number ≡ 0 → (freshed z disk stage).host.sector ≡ z
unfolding freshed bare
made z disk stage =
    let way = either_way (λ (r : Made). r.number ≡ 0 → r.host.sector ≡ z) in
    way _ _ _ (λ _ n. absurd (omega arith)) (λ _. way _ _ _ (λ _ n. absurd (omega arith)) (λ _.
    way _ _ _ (λ _ n. absurd (omega arith)) (λ _ _. refl)))

refused : (z disk stage : ℕ) → ((freshed z disk stage).number ≡ 0 → ⊥) → freshed z disk stage ≡ answered 2 (bare 0 0 0)
unfolding freshed
refused z disk stage =
    let way = either_way (λ (r : Made). (r.number ≡ 0 → ⊥) → r ≡ answered 2 (bare 0 0 0)) in
    way _ _ _ (λ _ _. refl) (λ _. way _ _ _ (λ _ _. refl) (λ _. way _ _ _ (λ _ _. refl) (λ _ n. absurd (n refl))))

-- so many sectors are a length that can be lent
right : (z most n : ℕ) → Size z → 1 ≤ n → n ≤ most → length_right z most (n * z) ≡ true
unfolding length_right
right z most n s low high = both-join _ _ (eq-eqb _ 0 (mul-mod_left n z)) (ap (lent most) (slots-count z s n) ∙ facts-lent most n low high)

taken : (z disk stage : ℕ) → is_size z ≡ true → 1 ≤ disk → disk ≤ 64 → 1 ≤ stage → stage ≤ 16
    → freshed z (disk * z) (stage * z) ≡ answered 0 (bare z disk stage)
unfolding freshed
taken z disk stage e a b c d =
    let s = size-facts z e in
    skips _ _ _ (ap not e) ∙ skips _ _ _ (ap not (right z 64 disk s a b)) ∙ skips _ _ _ (ap not (right z 16 stage s c d))
    ∙ ap₂ (λ (m n : ℕ). answered 0 (bare z m n)) (slots-count z s disk) (slots-count z s stage)

-- ---- a host holding another size

not-in-order : (h : Host) → is_size h.sector ≡ false → in_order h ≡ false
unfolding in_order
not-in-order h e = skips (is_size h.sector) _ false e

-- ---- the calls

module _ (h : Host) (a : Areas) where
  abbrev Still : Host → Type 0
  Still x = x.sector ≡ h.sector

  forming : (id : List ℕ) → Still (formed h id).host
  unfolding formed with_places
  forming id =
      let way = either_way (λ (r : Made). Still r.host) in
      way _ _ _ (λ _. refl) (λ _. way _ _ _ (λ _. refl) (λ _. way _ _ _ (λ _. refl) (λ _. way _ _ _ (λ _. refl) (λ _.
      way _ _ _ (λ _. refl) (λ _. way _ _ _ (λ _. refl) (λ _. refl))))))

  dropping : (id : List ℕ) → Still (dropped h id).host
  unfolding dropped with_places
  dropping id =
      let way = either_way (λ (r : Made). Still r.host) in
      way _ _ _ (λ _. refl) (λ _. way _ _ _ (λ _. refl) (λ _. way _ _ _ (λ _. refl) (λ _. way _ _ _ (λ _. refl) (λ _. refl))))

  opening : (o : Opening) → Still (opens h o).host
  unfolding opened opened_head with_program
  opening o =
      let way = either_way (λ (r : Answer). Still r.host) in
      way _ _ _ (λ _. refl) (λ _. way _ _ _ (λ _. refl) (λ _. way _ _ _ (λ _. refl) (λ _.
      way _ _ _ (λ _. refl) (λ _. way _ _ _ (λ _. refl) (λ _. way _ _ _ (λ _. refl) (λ _. refl))))))

  pieces : (bytes : List ℕ) → Still (gives h a bytes).host
  unfolding piece_by accepted_by with_run with_stage_roots with_program
  pieces bytes =
      let way = either_way (λ (r : Pieced). Still r.host) in
      way _ _ _ (λ _. refl) (λ _. way _ _ _ (λ _. refl) (λ _. refl))

  interrupts : Still (stops h a).host
  unfolding interrupt_by stopped_by with_run with_stage_roots with_program
  interrupts =
      let way = either_way (λ (r : Interrupted). Still r.host) in
      way _ _ _ (λ _. refl) (λ _. way _ _ _ (λ _. refl) (λ _. refl))

  closing : (g : Agreement) → Still (closes h a g).host
  unfolding given_up commit with_program with_places with_disk_roots
  closing g = close-ways h a g (λ (r : Closed). Still r.host) (λ _ _ _ _. refl) (λ _. refl) (λ _ _ _. refl) (λ _ _ _. refl) (λ _ _ _ _. refl)

  pub fixed : Fixed h a
  fixed = record { forming = forming; dropping = dropping; opening = opening; piece = pieces; interrupt = interrupts; closing = closing }

pub full-sectors : FullSectors
unfolding freshed
full-sectors = record {
  sizes = λ z. record { power = power_size z; only = size-facts z };
  other = λ z disk stage e. picks (not (is_size z)) _ _ (ap not e);
  refused = refused;
  taken = taken;
  made = made;
  holding = λ h a e. damaged h a (not-in-order h e);
  fixed = fixed;
}
