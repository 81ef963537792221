-- The class of a record's number, by document 01's table of checks. Assumes nothing.
use Rattle.std.specs.Prelude.{Bool, true, false, ℕ, leb, eqb}
use Rattle.lists.specs.Pick.{pick, both}
use Rattle.machine_rules.specs.declared.class.Class.{Class}
use Rattle.machine_rules.specs.declared.class.Class.TheVariants.{Done, Interrupted, Invalid, Host, Unknown}

-- from the first up to the last, both among them
abbrev pub between : ℕ → ℕ → ℕ → Bool
between first last n = both (leb first n) (leb n last)

-- "0 if it succeeded"; 20, "a failure, class of its own"; 21 to 28 "invalid"; 40 to 42 "host"; no record has another number
unfoldable pub class_of : ℕ → Class
class_of n =
    pick (eqb n 0) Done
    (pick (eqb n 20) Interrupted
    (pick (between 21 28 n) Invalid
    (pick (between 40 42 n) Host Unknown)))

abbrev pub is_known : Class → Bool
is_known Done = true
is_known Interrupted = true
is_known Invalid = true
is_known Host = true
is_known Unknown = false
