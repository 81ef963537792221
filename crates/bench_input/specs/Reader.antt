-- The reader of an input, byte after byte, and what it keeps in an area that it is lent. Assumes nothing.
use Rattle.std.specs.Prelude.{Bool, true, false, List, [], ◌∷◌, ℕ, ◌+◌, ◌-◌, ◌*◌, min, length, take, leb, ltb, eqb}
use Rattle.lists.specs.Pick.{pick, both}
use Rattle.area.specs.Area.{put}
use Rattle.area.specs.Little.{le8}
use Rattle.sia.specs.Encode.{joined}
use Rattle.bench_program.specs.Input.{number_at}
use Rattle.bench_input.specs.declared.Section.{Section}
use Rattle.bench_input.specs.declared.Section.TheVariants.{Front, Ids, Length, Head, Data}
use Rattle.bench_input.specs.declared.Reader.{Reader}

-- a reader, and the area in which the bytes stand that it kept
pub record State : Type 0 where
  pub reader : Reader
  pub area : List ℕ

abbrev pub state : Reader → List ℕ → State
state r all = record { reader = r; area = all }

abbrev pub reader : Section → ℕ → ℕ → ℕ → ℕ → Reader
reader x ids left room at = record { section = x; ids = ids; left = left; room = room; at = at }

-- ---- the sections: "the price count 7, prices in the order above, budget, contract count (8-byte numbers) and ids, head length, head, data
-- to the end"

-- ahead of the first byte: the front has 80 bytes
unfoldable pub fresh : Reader
fresh = reader Front 0 80 80 0

-- n ids are to come: the next of them, of 32 bytes, or the head's length
unfoldable pub ids_from : ℕ → ℕ → ℕ → Reader
ids_from n room at = pick (eqb n 0) (reader Length 0 8 8 at) (reader Ids (n - 1) 32 room at)

-- data, which has no end
unfoldable pub data_from : ℕ → Reader
data_from at = reader Data 0 0 65537 at

-- a head of n bytes, or the data behind it
unfoldable pub head_from : ℕ → ℕ → Reader
head_from n at = pick (eqb n 0) (data_from at) (reader Head 0 n (min n 2897) at)

-- the number that ends at a place, or 0 where none does
unfoldable pub number_to : List ℕ → ℕ → ℕ
number_to all at = pick (ltb at 8) 0 (pick (ltb (length all) at) 0 (number_at all (at - 8)))

-- that number lowered to what is kept, where it is above that
unfoldable pub lowered : List ℕ → ℕ → ℕ → List ℕ
lowered all at most = pick (leb (number_to all at) most) all (put all (at - 8) (le8 most))

-- behind a section that has ended: nine ids are kept, and 2,897 bytes of head; the numbers ahead of them are lowered
unfoldable pub next_to : Section → Reader → List ℕ → State
next_to Front r all = state (ids_from (number_to all r.at) (min (number_to all r.at) 9 * 32) r.at) (lowered all r.at 9)
next_to Ids r all = state (ids_from r.ids r.room r.at) all
next_to Length r all = state (head_from (number_to all r.at) r.at) (lowered all r.at 2897)
next_to Head r all = state (data_from r.at) all
next_to Data r all = state r all

unfoldable pub next : State → State
next s = next_to s.reader.section s.reader s.area

-- ---- bytes that come

-- how many bytes of this section are still kept, as far as the area reaches
unfoldable pub spare : State → ℕ
spare s = min s.reader.room (length s.area - s.reader.at)

-- bytes of this section: they are counted, and those that are kept laid behind what stands
unfoldable pub laid : State → List ℕ → State
laid s bs =
    state
    (reader s.reader.section s.reader.ids (s.reader.left - length bs) (s.reader.room - length bs)
    (s.reader.at + min (spare s) (length bs)))
    (put s.area s.reader.at (take (spare s) bs))

-- the next section, where this one has ended
unfoldable pub onward : State → State
onward s = pick (ltb 0 s.reader.left) s (next s)

-- a byte, and the next section where this one has ended
unfoldable pub fed_byte : State → ℕ → State
fed_byte s b = onward (laid s (b ∷ []))

-- what a read brought
unfoldable pub fed : State → List ℕ → State
fed s [] = s
fed s (b ∷ bs) = fed (fed_byte s b) bs

-- read after read
unfoldable pub fed_all : State → List (List ℕ) → State
fed_all s [] = s
fed_all s (p ∷ ps) = fed_all (fed s p) ps

-- a new reader on an area, and what came in turn
unfoldable pub read_all : List ℕ → List (List ℕ) → State
read_all area pieces = fed_all (state fresh area) pieces

-- all of it
abbrev pub whole : List (List ℕ) → List ℕ
whole pieces = joined (λ p. p) pieces

-- ---- what stands in the area

-- whether all that stands ahead of the data has come
abbrev pub in_data : Section → Bool
in_data Front = false
in_data Ids = false
in_data Length = false
in_data Head = false
in_data Data = true

-- how many bytes are the input to be answered: none where bytes ahead of the data are missing
unfoldable pub held : Reader → ℕ
held r = pick (in_data r.section) r.at 0

-- nothing that comes is kept
unfoldable pub full : Reader → Bool
full r = both (in_data r.section) (eqb r.room 0)

-- the input to be answered
unfoldable pub holds : State → List ℕ
holds s = take (held s.reader) s.area
