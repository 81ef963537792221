-- Copies of sectors in the stage: what is read of a position, and what the code makes where one gets a copy. z is the sector size.
-- Assumes nothing.
use Rattle.lists.proofs.Kit.{◌≡◌, sym, ap, ◌∙◌, true, false, List, ℕ, ◌*◌, get_or, set, replicate}
use Rattle.lists.proofs.Laws.Pick.{picks, skips}
use Rattle.area.specs.Area.{part, put, zeros}
use Rattle.host.specs.Empty.{none}
use Rattle.host.specs.Places.{free_copy}
use Rattle.machine_rules.specs.View.{sector, spot_of}
use Rattle.machine_rules.specs.Effect.{Ground, Staging, new_copy, sector_at, copied}
use Rattle.machine_effect.specs.Parts.{staging, grown}
use Rattle.machine_effect.specs.Asks.{bare}

-- a sector that has no copy, as it lies on the disk
unfoldable pub on_disk : ℕ → Ground → ℕ → List ℕ
on_disk z e p = part e.disk (get_or e.slots p 0 * z) z

-- ---- what is read of a position

pub reads-disk : (z : ℕ) (e : Ground) (p : ℕ) (g : Staging) → bare p g ≡ true → sector_at z e p g ≡ on_disk z e p
unfolding sector_at spot_of sector bare on_disk
reads-disk z e p g h = ap (sector z e.disk g.bytes) (picks _ _ _ h)

pub reads-stage : (z : ℕ) (e : Ground) (p : ℕ) (g : Staging) → bare p g ≡ false → sector_at z e p g ≡ part g.bytes (get_or g.staged p none * z) z
unfolding sector_at spot_of sector bare
reads-stage z e p g h = ap (sector z e.disk g.bytes) (skips _ _ _ h)

-- ---- what `copied` is

pub copied-new : (z : ℕ) (e : Ground) (p : ℕ) (g : Staging) → bare p g ≡ true → copied z e p g ≡ new_copy z e p (on_disk z e p) g
unfolding copied bare
copied-new z e p g h = picks _ _ _ h ∙ ap (λ (l : List ℕ). new_copy z e p l g) (reads-disk z e p g h)

pub copied-old : (z : ℕ) (e : Ground) (p : ℕ) (g : Staging) → bare p g ≡ false → copied z e p g ≡ g
unfolding copied bare
copied-old z e p g h = skips _ _ _ h

-- ---- as the code makes it

pub laid-new : {slot : ℕ} {after : List ℕ} (z : ℕ) (e : Ground) (p : ℕ) (bs : List ℕ) (g : Staging) → slot ≡ free_copy e.copies g.staged
    → after ≡ put g.bytes (slot * z) bs → staging (set g.staged p slot) after ≡ new_copy z e p bs g
unfolding new_copy
laid-new z e p bs g q b =
    (λ x. staging (set g.staged p (q x)) (b x))
    ∙ (λ x. staging (set g.staged p (free_copy e.copies g.staged)) (put g.bytes (q x * z) bs))

pub laid-zeros : {slot : ℕ} {after : List ℕ} (z : ℕ) (e : Ground) (p : ℕ) (g : Staging) → slot ≡ free_copy e.copies g.staged
    → after ≡ put g.bytes (slot * z) (replicate z 0) → staging (set g.staged p slot) after ≡ grown z e p g
unfolding grown
laid-zeros z e p g q b = laid-new z e p (zeros z) g q b

pub laid-copy : {slot : ℕ} {after : List ℕ} (z : ℕ) (e : Ground) (p : ℕ) (g : Staging) → bare p g ≡ true → slot ≡ free_copy e.copies g.staged
    → after ≡ put g.bytes (slot * z) (part e.disk (get_or e.slots p 0 * z) z) → staging (set g.staged p slot) after ≡ copied z e p g
unfolding on_disk
laid-copy z e p g h q b = laid-new z e p (on_disk z e p) g q b ∙ sym (copied-new z e p g h)
