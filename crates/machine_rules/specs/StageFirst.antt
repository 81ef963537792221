-- "Look in the stage first.": what a look-up by root finds, said by places and positions. z is the sector size; f reads roots. Assumes nothing.
use Rattle.std.specs.Prelude.{◌≡◌, Bool, true, false, not, List, [], ◌∷◌, ℕ, ◌/◌, ◌≤◌, ◌<◌, length, get_or, ltb, eqb}
use Rattle.lists.specs.Pick.{pick, both, either}
use Rattle.lists.specs.Tests.{each, first_of}
use Rattle.area.specs.Area.{same}
use Rattle.tree.specs.Tree as Tree
use Rattle.sia.specs.Names.{op_of}
use Rattle.host.specs.With.{program_of}
use Rattle.host.specs.Empty.{no_place}
use Rattle.host.specs.Places.{has_id, taken}
use Rattle.host.specs.Order.{in_order}
use Rattle.machine_rules.specs.View.{kept, worked, Turn, turn_of, read_only_mode, sector}
use Rattle.machine_rules.specs.View.{parent, spot_of, parent_spots, committed_spots, Volume, setting_of, volume_of}
use Rattle.machine_rules.specs.declared.Setting.{Setting}
use Rattle.machine_rules.specs.Roots.{root_of, root_at}
use Rattle.machine_rules.specs.Seats.{nobody, seats_of, first_seat, seats_in, is_staged, not_located, located_by, located}
use Rattle.machine_rules.specs.Inputs.{ill_formed, past_end, well_formed, args_of}
use Rattle.machine_rules.specs.Plan.{Source, missing, seen, sector_source, source_of, judged}
use Rattle.machine_rules.specs.Visit.{Areas, Sound}
use Rattle.sia.specs.declared.Op.TheVariants.{ReadSector}
use Rattle.sia.specs.declared.Instruction.{Instruction}
use Rattle.host.specs.declared.Place.{Place}
use Rattle.host.specs.declared.Progress.{Progress}
use Rattle.host.specs.declared.Host.{Host}
use Rattle.machine_rules.specs.declared.Spot.{Spot}
use Rattle.machine_rules.specs.declared.Spot.TheVariants.{OnDisk}
use Rattle.machine_rules.specs.declared.Seat.{Seat}
use Rattle.std.specs.Prelude.{Option, Some, None}

-- ---- the sectors that are searched, and their order, by numbers

-- what is searched: of the place that is `mine` the sectors `own`, of any other place its committed ones
pub record Search : Type 0 where
  pub sector : ℕ
  pub mine : Place → Bool
  pub own : List Spot
  pub places : List Place

module _ (q : Search) where
  abbrev pub is_mine : ℕ → Bool
  is_mine i = q.mine (get_or q.places i no_place)

  -- the sectors of place i, by position
  unfoldable pub sectors_at : ℕ → List Spot
  sectors_at i = pick (is_mine i) q.own (committed_spots q.sector (get_or q.places i no_place))

  -- a sector of its place, at its position
  pub record Sits (x : Seat) : Type 0 where
    pub within : x.position < length (sectors_at x.place)
    pub spot : x.spot ≡ get_or (sectors_at x.place) x.position (OnDisk 0)

  -- one is searched before another: in one place by position; what is mine before all others; these by place
  unfoldable pub earlier : Seat → Seat → Bool
  earlier x y =
      pick (eqb x.place y.place) (ltb x.position y.position)
      (either (is_mine x.place) (both (not (is_mine y.place)) (ltb x.place y.place)))

  -- "a root is found at the first match": it has that root, and none that is searched before it has
  pub record First (f : Spot → List ℕ) (key : List ℕ) (x : Seat) : Type 0 where
    pub sits : Sits x
    pub root : f x.spot ≡ key
    pub first : (y : Seat) → Sits y → earlier y x ≡ true → same (f y.spot) key ≡ false

  -- what a look-up comes to
  pub record Finds (f : Spot → List ℕ) (key : List ℕ) (r : Option Seat) : Type 0 where
    pub found : (x : Seat) → r ≡ Some x → First f key x
    pub nowhere : r ≡ None → (y : Seat) → Sits y → same (f y.spot) key ≡ false

-- "the parent's current sectors first, stage copies included, by position, then committed sectors of the other contracts"
abbrev pub writing : Setting → Progress → Search
writing s p = record { sector = s.sector; mine = has_id s.terms.head.contract; own = parent_spots s p; places = s.places }

-- all committed sectors: in read-only mode, and with no program open
abbrev pub reading : ℕ → List Place → Search
reading z ps = record { sector = z; mine = nobody; own = []; places = ps }

-- ---- document 01's look-up

-- all committed sectors, "by contract place, then position"
abbrev pub all_spots : ℕ → List Place → List Spot
all_spots z ps = each OnDisk (taken z ps)

-- the first with that root
unfoldable pub first_root : (Spot → List ℕ) → List ℕ → List Spot → Source
first_root f key [] = missing
first_root f key (x ∷ xs) = let rest = first_root f key xs in pick (same (f x) key) (seen (x ∷ [])) rest

-- ---- what is promised

-- an instruction of a program that a host in order has open: its setting stays, whatever progress it has made; f reads roots
pub record Looks (s : Setting) (f : Spot → List ℕ) (p : Progress) (key : List ℕ) : Type 0 where
  pub writer : read_only_mode s.terms ≡ false → Finds (writing s p) f key (first_seat f key (seats_of s p))
  -- what the program has just written is found by its root: at its position in the parent, or at a lower one that has the same root
  pub written : read_only_mode s.terms ≡ false → (j : ℕ) → j < p.size / s.sector → f (spot_of (parent s).slots p.staged j) ≡ key
      → (first_seat f key (seats_of s p) ≡ None → ⊥)
      × ((x : Seat) → first_seat f key (seats_of s p) ≡ Some x
      → (x.place ≡ first_of (has_id s.terms.head.contract) s.places) × (x.position ≤ j))
  pub reader : read_only_mode s.terms ≡ true → Finds (reading s.sector s.places) f key (first_seat f key (seats_of s p))
  -- "In read-only mode nothing changes.": ReadSector reads what document 01 has it read
  pub unchanged : read_only_mode s.terms ≡ true → sector_source s f p key ≡ first_root f key (all_spots s.sector s.places)

-- what ReadSector reads
pub record Reads (s : Setting) (vol : Volume) (t : Turn) (key : List ℕ) : Type 0 where
  -- the sector that the look-up finds, and no other
  pub finds : (x : Seat) → first_seat (root_at s vol t) key (seats_of s t.progress) ≡ Some x
      → source_of s (root_at s vol t) t.progress ReadSector key ≡ seen (x.spot ∷ [])
  pub misses : first_seat (root_at s vol t) key (seats_of s t.progress) ≡ None
      → source_of s (root_at s vol t) t.progress ReadSector key ≡ missing
  -- where roots are worked out, its bytes have that root
  pub bytes : vol.way ≡ worked → (x : Spot) → source_of s (root_at s vol t) t.progress ReadSector key ≡ seen (x ∷ [])
      → Tree.root (sector s.sector vol.disk t.stage x) ≡ key

-- 25: "sector root not found". A ReadSector that none of 21 to 24 refuses is refused with it where no sector has the root
abbrev pub NotFound : Setting → Volume → Turn → Type 0
NotFound s vol t = (i : Instruction) (l : List (List ℕ)) → ill_formed i ≡ false → past_end s.terms.head.length i ≡ false
    → op_of i.name ≡ ReadSector → well_formed ReadSector l ≡ true
    → first_seat (root_at s vol t) (args_of ReadSector l).key (seats_of s t.progress) ≡ None
    → judged s (root_at s vol t) t.progress i l ≡ 25

-- what the call `locate` looks up, by the kept roots
abbrev pub looked : Host → List ℕ → Option Seat
looked h key = first_seat (root_of (setting_of h) (volume_of h []) [] h.stageroots) key (seats_in h)

pub record Locates (h : Host) (key : List ℕ) : Type 0 where
  -- its whole answers: 1; else "found or not, the place, the position, and whether the stage held it"
  pub damaged : in_order h ≡ false → located h key ≡ not_located 1
  pub found : in_order h ≡ true → (x : Seat) → looked h key ≡ Some x
      → located h key ≡ record { number = 0; found = true; place = x.place; position = x.position; staged = is_staged x.spot }
  pub nowhere : in_order h ≡ true → looked h key ≡ None → located h key ≡ not_located 0
  -- of an open program, failed or not, it looks through what ReadSector looks through, with no program through all committed sectors
  pub program : (program_of h).active ≡ true → seats_in h ≡ seats_of (setting_of h) (program_of h).progress
  pub none : (program_of h).active ≡ false
      → Finds (reading h.sector h.places) (root_of (setting_of h) (volume_of h []) [] h.stageroots) key (looked h key)

-- "whether the stage held it": then a sector's bytes are the stage's, else the disk's
pub record Held (z : ℕ) (x : Spot) : Type 0 where
  pub stage : is_staged x ≡ true → (disk other stage : List ℕ) → sector z disk stage x ≡ sector z other stage x
  pub disk : is_staged x ≡ false → (disk stage other : List ℕ) → sector z disk stage x ≡ sector z disk other x

-- on a sound host, with its areas
pub record Soundly (h : Host) (a : Areas) (key : List ℕ) : Type 0 where
  -- kept roots find what roots worked out from the bytes find
  pub located : located_by kept a.disk h a.stage key ≡ located_by worked a.disk h a.stage key
  -- and the sector that ReadSector reads has that root, worked out from its bytes
  pub bytes : (program_of h).active ≡ true → (x : Spot)
      → let f = root_at (setting_of h) (volume_of h a.disk) (turn_of h a.stage a.output) in
      source_of (setting_of h) f (program_of h).progress ReadSector key ≡ seen (x ∷ [])
      → Tree.root (sector h.sector a.disk a.stage x) ≡ key

pub record StageFirst : Type 0 where
  pub looks : (h : Host) → in_order h ≡ true → (program_of h).active ≡ true → (f : Spot → List ℕ) (p : Progress) (key : List ℕ)
      → Looks (setting_of h) f p key
  pub reads : (s : Setting) (vol : Volume) (t : Turn) (key : List ℕ) → Reads s vol t key
  pub refuses : (s : Setting) (vol : Volume) (t : Turn) → NotFound s vol t
  pub locates : (h : Host) (key : List ℕ) → Locates h key
  pub held : (z : ℕ) (x : Spot) → Held z x
  pub soundly : (h : Host) (a : Areas) (key : List ℕ) → Sound h a.disk a.stage → Soundly h a key
