-- Making a host, forming a contract and dropping one: what each call answers and leaves. A refusal leaves the host as it was. z is the
-- sector size that a host is made with; every other call takes the one that its host holds. Assumes nothing.
use Rattle.std.specs.Prelude.{Bool, not, List, [], ◌∷◌, ℕ, ◌/◌, ◌%◌, drop, eqb, Result, Ok, Err}
use Rattle.lists.specs.Pick.{pick, both}
use Rattle.lists.specs.Tests.{every, some, each}
use Rattle.area.specs.Area.{same}
use Rattle.sia.specs.Names.{read_only}
use Rattle.host.specs.Sizes.{is_size}
use Rattle.host.specs.Empty.{no_place, new_place, bare}
use Rattle.host.specs.Refusals.{number_of}
use Rattle.host.specs.With.{with_places}
use Rattle.host.specs.Places.{has_id, whose}
use Rattle.host.specs.Order.{lent, in_order}
use Rattle.host.specs.declared.Place.{Place}
use Rattle.host.specs.declared.Host.{Host}
use Rattle.host.specs.declared.refusal.Refusal.{Refusal}

-- what a call answers: document 01's number, 0 done, and the host
pub record Made : Type 0 where
  pub number : ℕ
  pub host : Host

abbrev pub answered : ℕ → Host → Made
answered n h = record { number = n; host = h }

-- the answer by its number: what is done hands out a host, and a refusal leaves the one that is given here
abbrev pub made_of : Host → Result Host Refusal → Made
made_of h (Ok after) = answered 0 after
made_of h (Err why) = answered (number_of why) h

-- "Disk area: 1 to 64 whole sectors. Stage area: 1 to 16.": a length in bytes
unfoldable pub length_right : ℕ → ℕ → ℕ → Bool
length_right z most n = both (eqb (n % z) 0) (lent most (n / z))

-- "any power of two from 4,096 to 4,194,304, else 2"; "Making a host with bad lengths answers 2 and a host with no slots", and of sector
-- size 0; the lengths of both areas in bytes
unfoldable pub freshed : ℕ → ℕ → ℕ → Made
freshed z disk stage =
    pick (not (is_size z)) (answered 2 (bare 0 0 0))
    (pick (not (length_right z 64 disk)) (answered 2 (bare 0 0 0))
    (pick (not (length_right z 16 stage)) (answered 2 (bare 0 0 0))
    (answered 0 (bare z (disk / z) (stage / z)))))

-- an identifier of the old service, four bytes filled with zeros: "any id whose last 28 bytes are all zero, the zero id included"
unfoldable pub padded : List ℕ → Bool
padded id = every (λ b. eqb b 0) (drop 4 id)

-- "forming takes the lowest free place, with size 0"
unfoldable pub formed_at : List ℕ → List Place → List Place
formed_at id [] = []
formed_at id (p ∷ ps) = let rest = p ∷ formed_at id ps in let here = new_place id ∷ ps in pick p.held rest here

-- forming a contract: 1, 3, 5, 15 ("checked right after 5"), 6, 8
unfoldable pub formed : Host → List ℕ → Made
formed h id =
    pick (not (in_order h)) (answered 1 h)
    (pick h.program.active (answered 3 h)
    (pick (same id read_only) (answered 5 h)
    (pick (padded id) (answered 15 h)
    (pick (whose id h.places).held (answered 6 h)
    (pick (not (some (λ p. not p.held) h.places)) (answered 8 h)
    (answered 0 (with_places h (formed_at id h.places))))))))

-- the contract of that id gives way to another place
unfoldable pub replaced : List ℕ → Place → List Place → List Place
replaced id p ps = each (λ q. pick (has_id id q) p q) ps

-- dropping a contract: 1, 3, 5, 7; "dropping, at any size, frees place and slots"
unfoldable pub dropped : Host → List ℕ → Made
dropped h id =
    pick (not (in_order h)) (answered 1 h)
    (pick h.program.active (answered 3 h)
    (pick (same id read_only) (answered 5 h)
    (pick (not (whose id h.places).held) (answered 7 h)
    (answered 0 (with_places h (replaced id no_place h.places))))))
