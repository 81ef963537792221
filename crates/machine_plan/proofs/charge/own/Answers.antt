-- `machine_plan::charge::own` meets its contract, arm by arm. Assumes nothing.
use Rattle.lists.proofs.Kit.{◌≡◌, sym, ap, ap₂, ◌∙◌, ℕ, ◌+◌, ◌*◌, arith}
use Rattle.machine_rules.specs.Plan.{read_price, write_price, own}
use Rattle.machine_plan.specs.Numbers.{Small}
use Rattle.machine_plan.proofs.Laws.Costs.{small-as}
use Rattle.sia.specs.declared.Op.{Op}
use Rattle.sia.specs.declared.Op.TheVariants.{Read, ReadSector}
use mathlib.Core.Logic.{⊎_elim}
use Rattle.machine_plan.proofs.charge.own.Goals as goal
use Rattle.machine_plan.proofs.charge.own.Goals.{Start}

-- by the operation
abbrev own_at : Start → Op → ℕ
own_at s o = own s.args.prices o s.args.n

-- in an arm the operation is known, and so is that its length is small
arm : (s : Start) {r : ℕ} {o : Op} → s.args.op ≡ o → r ≡ own_at s o → r ≡ own_at s s.args.op
arm s told e = e ∙ sym (ap (own_at s) told)

small : (s : Start) {o : Op} → s.args.op ≡ o → Small o s.args.n
small s told = small-as _ _ s.args.n told s.requires

pub returns-in-Copy : goal.returns-in-Copy
unfolding own
returns-in-Copy c =
    let read = c.read_price-in-Copy.ensures in
    let write = c.write_price-in-Copy.ensures in
    (arm (goal.at.returns-in-Copy c).Start c.in-Copy.is (ap₂ (λ (r w : ℕ). r + w) read.0 write.0), omega (arith, read.1, write.1))

pub returns-in-Swap : goal.returns-in-Swap
unfolding own
returns-in-Swap c =
    let a = c.args in
    let swaps : own a.prices a.op a.n ≡ 2 * (read_price a.prices a.n + write_price a.prices a.n) =
    ap (own_at (goal.at.returns-in-Swap c).Start) c.in-Swap.is in
    let read = c.read_price-in-Swap.ensures in
    let write = c.write_price-in-Swap.ensures in
    (omega (arith, swaps, read.0, write.0), omega (arith, read.1, write.1))

pub read_price-requires : goal.read_price-requires
unfolding own Small
read_price-requires c =
    let s = (goal.at.read_price-requires c).Start in
    ⊎_elim (λ (e : c.args.op ≡ Read). small s e) (λ (e : c.args.op ≡ ReadSector). small s e) c.in-Read.is

pub write_price-requires : goal.write_price-requires
unfolding own Small
write_price-requires c = small (goal.at.write_price-requires c).Start c.in-Write.is

pub read_price-requires-in-Copy : goal.read_price-requires-in-Copy
unfolding own Small
read_price-requires-in-Copy c = small (goal.at.read_price-requires-in-Copy c).Start c.in-Copy.is

pub write_price-requires-in-Copy : goal.write_price-requires-in-Copy
unfolding own Small
write_price-requires-in-Copy c = small (goal.at.write_price-requires-in-Copy c).Start c.in-Copy.is

pub read_price-requires-in-Swap : goal.read_price-requires-in-Swap
unfolding own Small
read_price-requires-in-Swap c = small (goal.at.read_price-requires-in-Swap c).Start c.in-Swap.is

pub write_price-requires-in-Swap : goal.write_price-requires-in-Swap
unfolding own Small
write_price-requires-in-Swap c = small (goal.at.write_price-requires-in-Swap c).Start c.in-Swap.is

pub returns-in-Read : goal.returns-in-Read
unfolding own Small
returns-in-Read c =
    let s = (goal.at.returns-in-Read c).Start in (
      ⊎_elim (λ (e : c.args.op ≡ Read). arm s e c.read_price.ensures.0)
          (λ (e : c.args.op ≡ ReadSector). arm s e c.read_price.ensures.0) c.in-Read.is,
      omega (arith, c.read_price.ensures.1),
    )

pub returns-in-Write : goal.returns-in-Write
unfolding own Small
returns-in-Write c = (arm (goal.at.returns-in-Write c).Start c.in-Write.is c.write_price.ensures.0, omega (arith, c.write_price.ensures.1))

pub returns-in-Truncate : goal.returns-in-Truncate
unfolding own Small
returns-in-Truncate c = (arm (goal.at.returns-in-Truncate c).Start c.in-Truncate.is c.from.ensures, omega arith)

pub returns-in-Unknown : goal.returns-in-Unknown
unfolding own Small
returns-in-Unknown c = (sym (ap (own_at (goal.at.returns-in-Unknown c).Start) c.in-Unknown.is), omega arith)
