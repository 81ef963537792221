-- `machine_effect::rehashing::rehash` meets its contract: each arm does what its instruction means. Assumes nothing.
use Rattle.std.proofs.Common.{inl, inr}
use Rattle.lists.proofs.Kit.{refl}
use Rattle.machine_rules.specs.Plan.{touched}
use Rattle.machine_rules.specs.Effect.{rehashed}
use Rattle.machine_effect.proofs.Laws.KeptRoots.{new-laid}
use Rattle.machine_effect.proofs.Laws.Asked.{asked-write, asked-copy, asked-swap, asked-new, arm}
use Rattle.machine_effect.proofs.rehashing.rehash.Goals as goal

-- ---- what the arms ask
pub rehash_one-requires-clause-beside : goal.rehash_one-requires-clause-beside
rehash_one-requires-clause-beside c = elim c.in-Write.is [ inl e ↦ asked-write c.requires e | inr e ↦ asked-copy c.requires e ]

pub rehash_two-requires : goal.rehash_two-requires
rehash_two-requires c =
    let both = asked-swap c.requires c.in-Swap.is in
    record { size = c.requires.whole; beside = both.0; beside_2 = both.1 }

pub rehash_new-requires-clause-near : goal.rehash_new-requires-clause-near
rehash_new-requires-clause-near c = asked-new c.requires c.in-Truncate.is

pub returns-in-Read : goal.returns-in-Read
unfolding touched rehashed
returns-in-Read c =
    elim c.in-Read.is [
      | inl e ↦ arm _ _ _ _ _ e refl
      | inr other ↦ elim other [ inl e ↦ arm _ _ _ _ _ e refl | inr e ↦ arm _ _ _ _ _ e refl ]
    ]

pub returns-in-Write : goal.returns-in-Write
unfolding touched rehashed
returns-in-Write c =
    elim c.in-Write.is [ inl e ↦ arm _ _ _ _ _ e c.rehash_one.ensures | inr e ↦ arm _ _ _ _ _ e c.rehash_one.ensures ]

pub returns-in-Swap : goal.returns-in-Swap
unfolding touched
returns-in-Swap c = arm _ _ _ _ _ c.in-Swap.is c.rehash_two.ensures

pub returns-in-Truncate : goal.returns-in-Truncate
unfolding touched
returns-in-Truncate c =
    let q = c.in-Truncate.is in
    arm _ _ _ _ _ q (new-laid _ _ _ _ _ (c.requires.new q) c.rehash_new.ensures)
