-- Other ids for the contracts of a host, and the same host under them. Assumes nothing.
use Rattle.std.specs.Prelude.{◌≡◌, List, ℕ, length}
use Rattle.lists.specs.Pick.{pick}
use Rattle.lists.specs.Tests.{each}
use Rattle.area.specs.Area.{same}
use Rattle.sia.specs.Names.{read_only}
use Rattle.host.specs.declared.Place.{Place}
use Rattle.host.specs.declared.Terms.{Terms}
use Rattle.host.specs.declared.Program.{Program}
use Rattle.host.specs.declared.Host.{Host}

-- a new id for each id: two differ where the old ones did, the ReadOnly word stays, and so does the length
pub record Renaming (r : List ℕ → List ℕ) : Type 0 where
  pub differ : (a b : List ℕ) → same (r a) (r b) ≡ same a b
  pub word : r read_only ≡ read_only
  pub long : (a : List ℕ) → length (r a) ≡ length a

-- one id for another, and the other for it
unfoldable pub exchanged : List ℕ → List ℕ → List ℕ → List ℕ
exchanged a b id = pick (same id a) b (pick (same id b) a id)

-- ---- the same under new ids

module _ (r : List ℕ → List ℕ) where
  -- a contract; a free place has none
  abbrev pub place_as : Place → Place
  place_as p = record { held = p.held; id = pick p.held (r p.id) p.id; size = p.size; slots = p.slots }

  abbrev pub terms_as : Terms → Terms
  terms_as t =
      let d = t.head in
      record {
        head = record { contract = r d.contract; count = d.count; instructions = d.instructions; length = d.length };
        prices = t.prices;
        budget = t.budget;
        room = t.room;
      }

  -- a program that is open
  abbrev pub program_as : Program → Program
  program_as g = record { active = g.active; terms = pick g.active (terms_as g.terms) g.terms; came = g.came; progress = g.progress }

  unfoldable pub host_as : Host → Host
  host_as h = record {
    sector = h.sector;
    disk = h.disk;
    stage = h.stage;
    places = each place_as h.places;
    program = program_as h.program;
    diskroots = h.diskroots;
    stageroots = h.stageroots;
  }
