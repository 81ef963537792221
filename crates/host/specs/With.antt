-- A record with one field changed, a definition for each field that changes; and the way to the open program. Assumes nothing.
use Rattle.std.specs.Prelude.{Bool, List, ℕ}
use Rattle.host.specs.declared.Place.{Place}
use Rattle.host.specs.declared.Progress.{Progress}
use Rattle.host.specs.declared.Program.{Program}
use Rattle.host.specs.declared.Host.{Host}

-- ---- of a host

unfoldable pub with_places : Host → List Place → Host
with_places h ps =
    record { sector = h.sector; disk = h.disk; stage = h.stage; places = ps; program = h.program; diskroots = h.diskroots; stageroots = h.stageroots }

-- the open program of a host, or none
abbrev pub program_of : Host → Program
program_of h = h.program

unfoldable pub with_program : Host → Program → Host
with_program h g =
    record { sector = h.sector; disk = h.disk; stage = h.stage; places = h.places; program = g; diskroots = h.diskroots; stageroots = h.stageroots }

-- the roots kept beside the disk's slots, and beside the stage's
unfoldable pub with_disk_roots : Host → List ℕ → Host
with_disk_roots h l =
    record { sector = h.sector; disk = h.disk; stage = h.stage; places = h.places; program = h.program; diskroots = l; stageroots = h.stageroots }

unfoldable pub with_stage_roots : Host → List ℕ → Host
with_stage_roots h l =
    record { sector = h.sector; disk = h.disk; stage = h.stage; places = h.places; program = h.program; diskroots = h.diskroots; stageroots = l }

-- ---- of a place

unfoldable pub with_size : Place → ℕ → Place
with_size p n = record { held = p.held; id = p.id; size = n; slots = p.slots }

unfoldable pub with_slots : Place → List ℕ → Place
with_slots p l = record { held = p.held; id = p.id; size = p.size; slots = l }

-- ---- of a program

unfoldable pub with_came : Program → ℕ → Program
with_came g k = record { active = g.active; terms = g.terms; came = k; progress = g.progress }

unfoldable pub with_progress : Program → Progress → Program
with_progress g p = record { active = g.active; terms = g.terms; came = g.came; progress = p }

-- ---- of the progress of a program

unfoldable pub with_written : Progress → ℕ → Progress
with_written p n = record { ran = p.ran; tally = p.tally; written = n; size = p.size; failed = p.failed; staged = p.staged }

-- the running size
unfoldable pub with_running : Progress → ℕ → Progress
with_running p n = record { ran = p.ran; tally = p.tally; written = p.written; size = n; failed = p.failed; staged = p.staged }

unfoldable pub with_failed : Progress → Bool → Progress
with_failed p b = record { ran = p.ran; tally = p.tally; written = p.written; size = p.size; failed = b; staged = p.staged }

unfoldable pub with_staged : Progress → List ℕ → Progress
with_staged p l = record { ran = p.ran; tally = p.tally; written = p.written; size = p.size; failed = p.failed; staged = l }
