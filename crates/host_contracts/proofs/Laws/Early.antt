-- The checks that forming and dropping begin with, 1, 3 and 5: where one applies, its number is answered; else the rest decides. And a
-- refusal of forming leaves the host as it was. Assumes nothing.
use Rattle.lists.proofs.Kit.{◌≡◌, refl, ap, true, false, Bool, List, ℕ, ◌<◌, arith}
use Rattle.lists.specs.Pick.{pick}
use Rattle.host.specs.Calls.{Made, answered, formed}
use Rattle.host.specs.declared.Host.{Host}

module _ (h : Host) (rest : Made) where
  pub stops : (one three five : Bool) {n : ℕ} → n ≡ pick one 1 (pick three 3 (pick five 5 0)) → 0 < n
      → answered n h ≡ pick one (answered 1 h) (pick three (answered 3 h) (pick five (answered 5 h) rest))
  unfolding pick
  stops true three five e k = ap (λ n. answered n h) e
  stops false true five e k = ap (λ n. answered n h) e
  stops false false true e k = ap (λ n. answered n h) e
  stops false false false e k = absurd (omega (arith, e, k))

  pub goes-on : (one three five : Bool) {n : ℕ} → n ≡ pick one 1 (pick three 3 (pick five 5 0)) → n ≡ 0
      → rest ≡ pick one (answered 1 h) (pick three (answered 3 h) (pick five (answered 5 h) rest))
  unfolding pick
  goes-on true three five e k = absurd (omega (arith, e, k))
  goes-on false true five e k = absurd (omega (arith, e, k))
  goes-on false false true e k = absurd (omega (arith, e, k))
  goes-on false false false e k = refl

-- one refusal more
kept : (h : Host) (n : ℕ) (b : Bool) (rest : Made) → ((rest.number ≡ 0 → ⊥) → rest.host ≡ h)
    → let r = pick b (answered n h) rest in (r.number ≡ 0 → ⊥) → r.host ≡ h
unfolding pick
kept h n true rest k w = refl
kept h n false rest k w = k w

pub formed-kept : (h : Host) (id : List ℕ) → let r = formed h id in (r.number ≡ 0 → ⊥) → r.host ≡ h
unfolding formed
formed-kept h id = kept h 1 _ _ (kept h 3 _ _ (kept h 5 _ _ (kept h 15 _ _ (kept h 6 _ _ (kept h 8 _ _ (λ w. absurd (w refl)))))))
