-- Cases by tests. A chain `pick test answer rest` is read from top to bottom: the first test that holds decides. Assumes nothing.
use Rattle.std.specs.Prelude.{Bool, true, false}

-- the first where the test holds, else the second
unfoldable pub pick : {A : Type 0} → Bool → A → A → A
pick true x y = x
pick false x y = y

-- both tests hold
abbrev pub both : Bool → Bool → Bool
both a b = pick a b false

-- one of the tests holds
abbrev pub either : Bool → Bool → Bool
either a b = pick a true b
