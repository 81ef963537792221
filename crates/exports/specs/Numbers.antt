-- Answers that are numbers already, with the area as it is left. Assumes nothing.
use Rattle.std.specs.Prelude.{List, ℕ, length, eqb}
use Rattle.lists.specs.Pick.{pick, both}
use Rattle.blake2b.specs.Answers.{Left}
use Rattle.tree.specs.Tree.{root}
use Rattle.tree.specs.Answers.{wholes}

abbrev pub numbered : ℕ → List ℕ → Left
numbered n out = record { number = n; out = out }

-- the root of whole segments in an area of 32 bytes; else 2, and the area as it was
unfoldable pub root_laid : List ℕ → List ℕ → Left
root_laid bytes out = pick (both (eqb (length out) 32) (wholes 64 bytes)) (numbered 0 (root bytes)) (numbered 2 out)
