-- "Host in order", clause by clause. z is the sector size, which the record holds. Assumes nothing.
use Rattle.std.specs.Prelude.{Bool, not, List, ℕ, ◌+◌, ◌*◌, ◌/◌, ◌%◌, take, drop, leb, ltb, eqb}
use Rattle.lists.specs.Pick.{pick, both, either}
use Rattle.lists.specs.Tests.{every, apart}
use Rattle.area.specs.Area.{same}
use Rattle.sia.specs.Names.{read_only}
use Rattle.sia.specs.Encode.{within}
use Rattle.host.specs.Sizes.{is_size}
use Rattle.host.specs.Empty.{none}
use Rattle.host.specs.Places.{whose, others, taken}
use Rattle.host.specs.declared.Place.{Place}
use Rattle.host.specs.declared.Terms.{Terms}
use Rattle.host.specs.declared.Progress.{Progress}
use Rattle.host.specs.declared.Program.{Program}
use Rattle.host.specs.declared.Host.{Host}

-- "Disk area: 1 to 64 whole sectors. Stage area: 1 to 16."
unfoldable pub lent : ℕ → ℕ → Bool
lent most n = both (leb 1 n) (leb n most)

-- ---- contracts

-- of a contract: its id is not "the ReadOnly word", its size is "whole sectors", and each of its positions has an entry for a slot
unfoldable pub place_in_order : ℕ → Place → Bool
place_in_order z p =
    either (not p.held)
    (both (not (same p.id read_only))
    (both (eqb (p.size % z) 0)
    (leb (p.size / z) 64)))

-- two contracts under one id
unfoldable pub twins : Place → Place → Bool
twins p q = both p.held (both q.held (same p.id q.id))

-- "ids differ, none the ReadOnly word; sizes whole sectors; each committed position has a disk slot of its own, within the disk"
unfoldable pub places_in_order : ℕ → ℕ → List Place → Bool
places_in_order z disk ps =
    both (every (place_in_order z) ps)
    (both (apart twins ps)
    (both (apart eqb (taken z ps))
    (every (λ n. ltb n disk) (taken z ps))))

-- ---- an open program

-- a position that is not staged, or is in one of the stage's slots
unfoldable pub slot_in_order : ℕ → ℕ → Bool
slot_in_order stage n = either (eqb n none) (ltb n stage)

-- two staged positions in one slot
unfoldable pub clash : ℕ → ℕ → Bool
clash m n = both (not (eqb m none)) (both (not (eqb n none)) (eqb m n))

-- "each staged position below the running size, in a stage slot of its own; each position past the starting size staged"; sizes in sectors
unfoldable pub staged_in_order : ℕ → ℕ → ℕ → List ℕ → Bool
staged_in_order stage start size staged =
    both (every (slot_in_order stage) staged)
    (both (apart clash staged)
    (both (every (λ n. eqb n none) (drop size staged))
    (every (λ n. not (eqb n none)) (drop start (take size staged)))))

-- "parent present, or read-only mode with running size 0"
unfoldable pub parent_in_order : List Place → List ℕ → ℕ → Bool
parent_in_order ps id size = pick (same id read_only) (eqb size 0) (whose id ps).held

-- that, and "head and output length within limits"
unfoldable pub terms_in_order : List Place → Terms → ℕ → Bool
terms_in_order ps t size =
    both (parent_in_order ps t.head.contract size)
    (both (within t.head)
    (both (leb 72 t.room)
    (leb t.room 65536)))

-- "instructions run within their count; tally within budget; written bytes within the output length, with 72 left unless it failed;
-- running size whole sectors and, with the other sizes, within the disk"; and the staged positions
unfoldable pub progress_in_order : ℕ → ℕ → ℕ → List Place → Terms → Progress → Bool
progress_in_order z disk stage ps t p =
    both (leb p.ran t.head.count)
    (both (leb p.tally t.budget)
    (both (leb (p.written + pick p.failed 0 72) t.room)
    (both (eqb (p.size % z) 0)
    (both (leb (p.size + others t.head.contract ps) (disk * z))
    (staged_in_order stage ((whose t.head.contract ps).size / z) (p.size / z) p.staged)))))

-- "For an open program: .."; "bytes come within the declared length"
unfoldable pub program_in_order : ℕ → ℕ → ℕ → List Place → Program → Bool
program_in_order z disk stage ps g =
    both (terms_in_order ps g.terms g.progress.size)
    (both (leb g.came g.terms.head.length)
    (progress_in_order z disk stage ps g.terms g.progress))

-- ---- the whole record

-- "a host holding another is not in order"; "Host in order: lengths as above; .. For an open program: .."
unfoldable pub in_order : Host → Bool
in_order h =
    both (is_size h.sector)
    (both (lent 64 h.disk)
    (both (lent 16 h.stage)
    (both (places_in_order h.sector h.disk h.places)
    (either (not h.program.active) (program_in_order h.sector h.disk h.stage h.places h.program)))))
