-- What instructions run against, and where the bytes of sectors are. z is the sector size. Assumes nothing.
use Rattle.std.specs.Prelude.{Bool, List, ℕ, ◌*◌, ◌/◌, length, get_or, eqb}
use Rattle.lists.specs.Pick.{pick, both}
use Rattle.lists.specs.Tests.{each, count, unused}
use Rattle.lists.specs.Tab.{tab}
use Rattle.area.specs.Area.{same, part}
use Rattle.sia.specs.Names.{read_only}
use Rattle.sia.specs.Encode.{joined}
use Rattle.host.specs.Empty.{none}
use Rattle.host.specs.With.{with_program, with_stage_roots, with_came, with_progress, program_of}
use Rattle.host.specs.Places.{whose, committed}
use Rattle.host.specs.declared.Place.{Place}
use Rattle.host.specs.declared.Terms.{Terms}
use Rattle.host.specs.declared.Progress.{Progress}
use Rattle.host.specs.declared.Host.{Host}
use Rattle.machine_rules.specs.declared.Setting.{Setting}
use Rattle.machine_rules.specs.declared.Spot.{Spot}
use Rattle.machine_rules.specs.declared.Spot.TheVariants.{OnDisk, InStage}

-- ---- what stays and what changes while instructions run

-- how the root of a sector is known: as it is kept beside the sector's slot, which is what the calls do; or worked out from the sector's
-- bytes, which is document 01
pub data Way : Type 0 where
  kept : Way
  worked : Way

-- what stays besides the declared `Setting`: the disk's bytes, the roots kept beside its slots, and how roots are known
pub record Volume : Type 0 where
  pub disk : List ℕ
  pub roots : List ℕ
  pub way : Way

-- what changes: the progress of the program, the stage's bytes, the output's bytes, the roots kept beside the stage's slots
pub record Turn : Type 0 where
  pub progress : Progress
  pub stage : List ℕ
  pub output : List ℕ
  pub roots : List ℕ

-- that of the calls
abbrev pub volume : List ℕ → List ℕ → Volume
volume disk roots = record { disk = disk; roots = roots; way = kept }

abbrev pub turn : Progress → List ℕ → List ℕ → List ℕ → Turn
turn progress stage output roots = record { progress = progress; stage = stage; output = output; roots = roots }

abbrev pub setting_of : Host → Setting
setting_of h =
    record { sector = h.sector; disksectors = h.disk; stagesectors = h.stage; places = h.places; terms = (program_of h).terms }

unfoldable pub volume_by : Way → Host → List ℕ → Volume
volume_by way h disk = record { disk = disk; roots = h.diskroots; way = way }

abbrev pub volume_of : Host → List ℕ → Volume
volume_of h disk = volume_by kept h disk

unfoldable pub turn_of : Host → List ℕ → List ℕ → Turn
turn_of h stage output = turn (program_of h).progress stage output h.stageroots

-- the host when k bytes have come, its program has made this progress, and these roots are kept beside the stage's slots
unfoldable pub with_run : Host → ℕ → Progress → List ℕ → Host
with_run h k p roots = with_stage_roots (with_program h (with_progress (with_came (program_of h) k) p)) roots

-- "a call that lends them must lend the same lengths"
unfoldable pub disk_right : Host → List ℕ → Bool
disk_right h disk = eqb (length disk) (h.disk * h.sector)

unfoldable pub areas_right : Host → List ℕ → List ℕ → Bool
areas_right h disk stage = both (disk_right h disk) (eqb (length stage) (h.stage * h.sector))

-- ---- the parent

-- "The contract "ReadOnly", .. means read-only mode."
unfoldable pub read_only_mode : Terms → Bool
read_only_mode t = same t.head.contract read_only

-- the contract that the head names; no contract in read-only mode
unfoldable pub parent : Setting → Place
parent s = whose s.terms.head.contract s.places

-- how many stage slots are free
unfoldable pub free_copies : Setting → Progress → ℕ
free_copies s p = count (unused p.staged) 0 s.stagesectors

-- ---- sectors

-- "the part of whichever holds it is handed back"
unfoldable pub sector : ℕ → List ℕ → List ℕ → Spot → List ℕ
sector z disk stage (OnDisk n) = part disk (n * z) z
sector z disk stage (InStage n) = part stage (n * z) z

-- "The parent is read from the stage where it has a copy, else from the disk"
unfoldable pub spot_of : List ℕ → List ℕ → ℕ → Spot
spot_of slots staged at = pick (eqb (get_or staged at none) none) (OnDisk (get_or slots at 0)) (InStage (get_or staged at none))

-- the parent's sectors up to its running size
unfoldable pub parent_spots : Setting → Progress → List Spot
parent_spots s p = tab 0 (p.size / s.sector) (spot_of (parent s).slots p.staged)

-- "Read of another contract" sees "committed sectors only"
unfoldable pub committed_spots : ℕ → Place → List Spot
committed_spots z p = each OnDisk (committed z p)

-- the bytes of sectors, one after another
unfoldable pub whole : ℕ → List ℕ → List ℕ → List Spot → List ℕ
whole z disk stage l = joined (sector z disk stage) l
