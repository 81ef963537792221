-- `walks::depth` meets its contract: the digits of n - 1 are the least depth that holds n leaves. Assumes nothing.
use Rattle.lists.proofs.Kit.{◌≡◌, sym, subst, ℕ, suc, ◌-◌, ◌^◌, ◌<◌, two-pow-succ, arith, rules}
use lib.Count.{count_leading_zeros}
use lib.Pow.{pow_mono, pow_pos}
use Rattle.std.proofs.lemmas.Nat.{leading_length}
use Rattle.tree.specs.Asks.{Holds}
use Rattle.tree.proofs.walks.depth.Goals as goal

least : (n a : ℕ) → n < 2 ^ 64 → a ≡ n - 1 → Holds n (64 - count_leading_zeros 64 a)
least n a few e =
    let l = leading_length 64 a (omega (arith, few, e)) in
    let m : ℕ = l.0 in
    let same : 64 - count_leading_zeros 64 a ≡ m = omega (arith, l.1) in
    subst (Holds n) (sym same) (record {
      deep = omega (arith, l.1);
      holds = omega (arith, l.2, e);
      least = λ k h. omega (arith, l.3, e, pow_pos k, two-pow-succ k, pow_mono {i = suc k} {j = m} h);
    })

pub returns : goal.returns
returns c = least _ _ (search rules) c.saturating_sub.ensures
