-- `Class::from` of a number meets its promise: each arm is the test of the definition that holds there. Assumes nothing.
use Rattle.lists.proofs.Kit.{arith}
use Rattle.machine_rules.proofs.Laws.Classes.{is-done, is-interrupted, is-invalid, is-host, is-low, is-between, is-high}
use Rattle.machine_rules.proofs.class.ClassFromU64.from.Goals as goal

pub returns-in-0 : goal.returns-in-0
returns-in-0 c = is-done c.args.number c.in-0.is

pub returns-in-20 : goal.returns-in-20
returns-in-20 c = is-interrupted c.args.number c.in-20.is

pub returns-in-21-to-28 : goal.returns-in-21-to-28
returns-in-21-to-28 c = is-invalid c.args.number (omega arith) (omega arith)

pub returns-in-40-to-42 : goal.returns-in-40-to-42
returns-in-40-to-42 c = is-host c.args.number (omega arith) (omega arith)

pub returns-in_default : goal.returns-in_default
returns-in_default c = is-low c.args.number (omega arith) (omega arith)

pub returns-in_default-2 : goal.returns-in_default-2
returns-in_default-2 c = is-between c.args.number (omega arith) (omega arith)

pub returns-in_default-3 : goal.returns-in_default-3
returns-in_default-3 c = is-high c.args.number (omega arith)
