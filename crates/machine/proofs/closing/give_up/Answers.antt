-- `machine::closing::give_up` meets its contract. Assumes nothing.
use Rattle.lists.proofs.Kit.{ap}
use lib.IntN.{pos}
use Rattle.host.specs.With.{with_program}
use Rattle.host.specs.declared.Program.{Program}
use Rattle.machine.specs.declared.answers.Closing.{Closing}
use Rattle.machine.proofs.closing.give_up.Goals as goal

pub returns : goal.returns
unfolding with_program
returns c =
    let a = c.args in
    let made : Program → Closing = λ g. record {
      end = a.end;
      tally = a.host.program.progress.tally;
      growth = pos 0;
      host = with_program a.host g;
    } in
    ap made c.none-program.ensures
