-- A ninth contract is refused: of ids formed in turn those behind the first that has no free place do not matter. Assumes nothing.
use Rattle.lists.proofs.Kit.{◌≡◌, refl, sym, ap, ◌∙◌, true, not, List, [], ◌∷◌, ℕ, zero, suc, ◌≤◌, arith, take, eqb, not-false, eqb-true}
use Rattle.lists.specs.Pick.{pick}
use Rattle.lists.specs.Tests.{some}
use Rattle.lists.proofs.Laws.Pick.{by, picks, skips}
use Rattle.lists.proofs.Laws.Ways.{either_way, passes}
use Rattle.host.specs.Empty.{no_place, new_place, bare}
use Rattle.host.specs.With.{with_places}
use Rattle.host.specs.Calls.{answered, formed_at, formed, freshed}
use Rattle.bench_program.specs.Single.{formed_in_turn}
use Rattle.host.specs.declared.Place.{Place}
use Rattle.host.specs.declared.Host.{Host}
use Rattle.host.specs.Calls.{Made}

-- how many places are free
unfoldable pub free : List Place → ℕ
free [] = 0
free (p ∷ ps) = pick p.held (free ps) (suc (free ps))

-- forming takes one of them
formed-at-free : (id : List ℕ) (ps : List Place) → some (λ p. not p.held) ps ≡ true → free ps ≡ suc (free (formed_at id ps))
unfolding free formed_at some new_place
formed-at-free id [] e = absurd (let r : ◌≡◌ {A = ℕ} 0 1 = cc in omega arith)
formed-at-free id (p ∷ ps) e =
    by p.held
    (λ u. picks p.held (free ps) (suc (free ps)) u
    ∙ formed-at-free id ps (sym (skips (not p.held) true (some (λ q. not q.held) ps) (ap not u)) ∙ e)
    ∙ ap suc (sym (picks p.held (free (formed_at id ps)) (suc (free (formed_at id ps))) u))
    ∙ ap (λ (l : List Place). suc (free l)) (sym (picks p.held (p ∷ formed_at id ps) (new_place id ∷ ps) u)))
    (λ u. skips p.held (free ps) (suc (free ps)) u
    ∙ ap suc (sym (picks true (free ps) (suc (free ps)) refl))
    ∙ ap (λ (l : List Place). suc (free l)) (sym (skips p.held (p ∷ formed_at id ps) (new_place id ∷ ps) u)))

formed-free : (h : Host) (id : List ℕ) → (formed h id).number ≡ 0 → free h.places ≡ suc (free (formed h id).host.places)
unfolding formed with_places
formed-free h id a =
    let c1 = passes (λ r. r.number) _ (answered 1 h) _ (λ n. absurd (omega arith)) a in
    let c3 = passes (λ r. r.number) _ (answered 3 h) _ (λ n. absurd (omega arith)) c1.1 in
    let c5 = passes (λ r. r.number) _ (answered 5 h) _ (λ n. absurd (omega arith)) c3.1 in
    let c15 = passes (λ r. r.number) _ (answered 15 h) _ (λ n. absurd (omega arith)) c5.1 in
    let c6 = passes (λ r. r.number) _ (answered 6 h) _ (λ n. absurd (omega arith)) c15.1 in
    let c8 = passes (λ r. r.number) _ (answered 8 h) _ (λ n. absurd (omega arith)) c6.1 in
    formed-at-free id h.places (not-false _ c8.0)
    ∙ ap (λ (r : Made). suc (free r.host.places)) (sym (c1.2 ∙ c3.2 ∙ c5.2 ∙ c15.2 ∙ c6.2 ∙ c8.2))

-- with k places free, the first k + 1 ids are enough
pub first-ids : (k : ℕ) (h : Host) (ids : List (List ℕ)) → free h.places ≤ k → formed_in_turn h ids ≡ formed_in_turn h (take (suc k) ids)
unfolding formed_in_turn
first-ids k h [] f = refl
first-ids zero h (id ∷ ids) f =
    by (eqb (formed h id).number 0)
    (λ e. absurd (omega (arith, formed-free h id (eqb-true _ 0 e))))
    (λ e. picks _ _ _ (ap not e) ∙ sym (picks _ _ _ (ap not e)))
first-ids (suc k) h (id ∷ ids) f =
    by (eqb (formed h id).number 0)
    (λ e. skips _ _ _ (ap not e) ∙ first-ids k (formed h id).host ids (omega (arith, formed-free h id (eqb-true _ 0 e))) ∙ sym (skips _ _ _ (ap not e)))
    (λ e. picks _ _ _ (ap not e) ∙ sym (picks _ _ _ (ap not e)))

-- "A fresh host holds no contract", and "At most 8 contracts"
bare-free : (z d s : ℕ) → free (bare z d s).places ≤ 8
unfolding free bare no_place pick
bare-free z d s = omega arith

pub fresh-free : (z d s : ℕ) → free (freshed z d s).host.places ≤ 8
unfolding freshed
fresh-free z d s =
    let way = either_way (λ (r : Made). free r.host.places ≤ 8) in
    way _ _ _ (λ _. bare-free 0 0 0) (λ _. way _ _ _ (λ _. bare-free 0 0 0) (λ _. way _ _ _ (λ _. bare-free 0 0 0) (λ _. bare-free _ _ _)))
