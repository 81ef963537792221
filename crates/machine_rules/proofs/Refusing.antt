-- Refusals: each call is a chain of cases that ends in an answer of 0; every other case is a refusal as stated. Assumes nothing.
use Rattle.lists.proofs.Kit.{◌≡◌, refl, sym, ap, Bool, true, false, ℕ}
use lib.IntN.{pos}
use Rattle.lists.specs.Pick.{pick}
use Rattle.host.specs.Calls.{formed, dropped}
use Rattle.host.specs.Calls as Contract
use Rattle.machine_rules.specs.Calls.{answered, opened_head, opened, pieced, interrupted, reached_at, no_pair}
use Rattle.machine_rules.specs.Calls.{accepted_by, piece_by, interrupt_by, stopped_by, reached_by}
use Rattle.machine_rules.specs.Commit.{closed, given_up, commit, agreed_by, close_by}
use Rattle.machine_rules.specs.Visit.{Areas}
use Rattle.machine_rules.specs.Demand1.{Refusals}
use Rattle.host.specs.declared.Host.{Host}

-- of a result that is either done, by this test, or a refusal
module _ {R : Type 0} (number : R → ℕ) (refusal : ℕ → R) (right : (n : ℕ) → number (refusal n) ≡ n) (Other : R → Type 0) where
  abbrev Says : R → Type 0
  Says r = Other r → r ≡ refusal (number r)

  refused : (n : ℕ) → Says (refusal n)
  refused n _ = ap refusal (sym (right n))

  either_way : (b : Bool) (x y : R) → Says x → Says y → Says (pick b x y)
  unfolding pick
  either_way true x y p q = p
  either_way false x y p q = q

  refused-or : (n : ℕ) (b : Bool) (y : R) → Says y → Says (pick b (refusal n) y)
  refused-or n b y q = either_way b (refusal n) y (refused n) q

pub refusals : (h : Host) (a : Areas) → Refusals h a
unfolding formed dropped opened opened_head piece_by accepted_by interrupt_by stopped_by reached_by close_by agreed_by commit given_up
refusals h a = record {
  forming = λ id.
      let or = refused-or (λ r. r.number) (λ n. Contract.answered n h) (λ n. refl) (λ r. r.number ≡ 0 → ⊥) in
      or _ _ _ (or _ _ _ (or _ _ _ (or _ _ _ (or _ _ _ (or _ _ _ (λ n. absurd (n refl)))))));
  dropping = λ id.
      let or = refused-or (λ r. r.number) (λ n. Contract.answered n h) (λ n. refl) (λ r. r.number ≡ 0 → ⊥) in
      or _ _ _ (or _ _ _ (or _ _ _ (or _ _ _ (λ n. absurd (n refl)))));
  opening = λ o.
      let or = refused-or (λ r. r.number) (λ n. answered n 0 h) (λ n. refl) (λ r. r.number ≡ 0 → ⊥) in
      or _ _ _ (or _ _ _ (or _ _ _ (or _ _ _ (or _ _ _ (or _ _ _ (λ n. absurd (n refl)))))));
  piece = λ bytes.
      let or = refused-or (λ r. r.number) (λ n. pieced n 0 h a.stage a.input a.output) (λ n. refl) (λ r. r.number ≡ 0 → ⊥) in
      or _ _ _ (or _ _ _ (λ n. absurd (n refl)));
  interrupt =
      let or = refused-or (λ r. r.number) (λ n. interrupted n 0 h a.output) (λ n. refl) (λ r. r.number ≡ 0 → ⊥) in
      or _ _ _
      (either_way (λ r. r.number) (λ n. interrupted n 0 h a.output) (λ n. refl) (λ r. r.number ≡ 0 → ⊥) _ _ _ (λ n. absurd (n refl))
      (λ n. absurd (n refl)));
  reached =
      let or = refused-or (λ r. r.number) (λ n. reached_at n no_pair) (λ n. refl) (λ r. r.number ≡ 0 → ⊥) in
      or _ _ _ (λ n. absurd (n refl));
  closing = λ g zero fourteen.
      let or = refused-or (λ r. r.number) (λ n. closed n 0 (pos 0) h a.disk) (λ n. refl) (λ r. (r.number ≡ 0 → ⊥) × (r.number ≡ 14 → ⊥)) in
      let way = either_way (λ r. r.number) (λ n. closed n 0 (pos 0) h a.disk) (λ n. refl) (λ r. (r.number ≡ 0 → ⊥) × (r.number ≡ 14 → ⊥)) in
      or _ _ _ (way _ _ _ (λ n. absurd (n.0 refl)) (or _ _ _ (way _ _ _ (λ n. absurd (n.0 refl))
      (way _ _ _ (λ n. absurd (n.0 refl)) (λ n. absurd (n.1 refl)))))) (zero, fourteen);
}
