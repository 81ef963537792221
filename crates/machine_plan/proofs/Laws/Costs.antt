-- Costs are far below 64 bits. Assumes nothing.
use Rattle.lists.proofs.Kit.{ℕ, ◌*◌, ◌^◌, ◌≤◌, ◌<◌, mul-le-mul, arith, ◌≡◌, subst}
use Rattle.sia.specs.declared.Op.{Op}
use Rattle.machine_plan.specs.Numbers.{Small}

-- a price for each byte of a sector
pub priced : (each n : ℕ) → each < 2 ^ 16 → n ≤ 4194304 → each * n < 2 ^ 38
priced each n h g =
    let most : each ≤ 65535 = omega arith in
    let product : each * n ≤ 65535 * 4194304 = mul-le-mul most g in
    omega arith

-- memory over the time
pub timed : (m t : ℕ) → m ≤ 1114112 → t ≤ 30 → m * t < 2 ^ 25
timed m t h g =
    let product : m * t ≤ 1114112 * 30 = mul-le-mul h g in
    omega arith

pub charged-memory : (k m : ℕ) → k < 2 ^ 25 → m < 2 ^ 16 → k * m < 2 ^ 41
charged-memory k m h g =
    let one : k ≤ 33554431 = omega arith in
    let two : m ≤ 65535 = omega arith in
    let product : k * m ≤ 33554431 * 65535 = mul-le-mul one two in
    omega arith

pub small-as : (o op : Op) (n : ℕ) → o ≡ op → Small o n → Small op n
small-as o op n e s = subst (λ (x : Op). Small x n) e s
