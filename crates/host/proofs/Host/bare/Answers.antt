-- `host::Host::bare` meets its contract: 8 times no contract, and no program. Assumes nothing.
use Rattle.lists.proofs.Kit.{ap₂, replicate}
use Rattle.area.specs.Area.{zeros}
use Rattle.host.specs.declared.Place.{Place}
use Rattle.host.specs.declared.Program.{Program}
use Rattle.host.specs.Empty.{bare}
use Rattle.host.proofs.Host.bare.Goals as goal

pub returns : goal.returns
unfolding bare
returns c =
    let a = c.args in
    ap₂ (λ (none : Place) (program : Program). record {
      sector = a.sector;
      disk = a.disk;
      stage = a.stage;
      places = replicate 8 none;
      program = program;
      diskroots = zeros 2048;
      stageroots = zeros 512;
    })
    c.none.ensures c.none-2.ensures
