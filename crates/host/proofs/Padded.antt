-- Which ids are padded, and where forming answers 15: down its chain twice. Assumes nothing.
use Rattle.lists.proofs.Kit.{◌≡◌, refl, sym, ap, ◌∙◌, Bool, true, false, not, List, [], ◌∷◌, ℕ, zero, suc, ◌+◌, ◌-◌, ◌≤◌, ◌<◌, arith, length, drop, get_or}
use Rattle.lists.proofs.Kit.{length-drop, get_or-drop, eqb, not-false, eqb-true, eq-eqb}
use Rattle.lists.specs.Pick.{pick}
use Rattle.lists.specs.Tests.{every}
use Rattle.lists.proofs.Laws.Pick.{by, picks, skips, never, both_left, both_right, both-join}
use Rattle.lists.proofs.Laws.Ways.{either_way}
use Rattle.area.specs.Area.{same}
use Rattle.area.proofs.Laws.Same.{same-eq}
use Rattle.sia.specs.Names.{read_only}
use Rattle.host.specs.Order.{in_order}
use Rattle.host.specs.Calls.{padded, formed}
use Rattle.host.specs.Padded.{Padding, Fifteen}
use Rattle.host.specs.declared.Host.{Host}
use Rattle.host.specs.Calls.{Made}

-- ---- the bytes of an id

abbrev is_zero : ℕ → Bool
is_zero b = eqb b 0

every-zero : (l : List ℕ) → every is_zero l ≡ true → (i : ℕ) → get_or l i 0 ≡ 0
unfolding every
every-zero [] e i = refl
every-zero (x ∷ l) e zero = eqb-true x 0 (both_left _ _ e)
every-zero (x ∷ l) e (suc i) = every-zero l (both_right _ _ e) i

zero-every : (l : List ℕ) → ((i : ℕ) → i < length l → get_or l i 0 ≡ 0) → every is_zero l ≡ true
unfolding every
zero-every [] f = refl
zero-every (x ∷ l) f = both-join _ _ (eq-eqb x 0 (f 0 (omega arith))) (zero-every l (λ i h. f (suc i) (omega arith)))

behind : (i : ℕ) → 4 ≤ i → i ≡ 4 + (i - 4)
behind i h = omega arith

pub padding : (id : List ℕ) → Padding id
unfolding padded
padding id = record {
  zeros = λ e i h. ap (λ (k : ℕ). get_or id k 0) (behind i h) ∙ sym (get_or-drop 4 id (i - 4) 0)
      ∙ every-zero (drop 4 id) e (i - 4);
  enough = λ long f. zero-every (drop 4 id) (λ i h. get_or-drop 4 id i 0 ∙ f (4 + i) (omega arith) (omega (arith, h, long, length-drop 4 id)));
}

pub word : padded read_only ≡ false
unfolding padded every pick
word = refl

-- ---- 15

-- no padded id is the ReadOnly word
not-word : (id : List ℕ) → padded id ≡ true → same id read_only ≡ false
not-word id e = by (same id read_only) (λ w. never (sym e ∙ ap padded (same-eq id read_only w) ∙ word)) (λ w. w)

abbrev Tells : Host → List ℕ → Made → Type 0
Tells h id r = r.number ≡ 15 → (padded id ≡ true) × (in_order h ≡ true) × (h.program.active ≡ false)

pub fifteen : (h : Host) (id : List ℕ) → Fifteen h id
unfolding formed
fifteen h id = record {
  refused = λ e o idle.
      skips _ _ _ (ap not o) ∙ skips _ _ _ idle ∙ skips _ _ _ (not-word id e) ∙ picks _ _ _ e;
  only =
      let way = either_way (Tells h id) in
      way _ _ _ (λ _ n. absurd (omega arith)) (λ o. way _ _ _ (λ _ n. absurd (omega arith)) (λ idle.
      way _ _ _ (λ _ n. absurd (omega arith)) (λ _. way _ _ _ (λ e n. (e, not-false _ o, idle)) (λ _.
      way _ _ _ (λ _ n. absurd (omega arith)) (λ _. way _ _ _ (λ _ n. absurd (omega arith)) (λ _ n. absurd (omega arith)))))));
}
