-- Tests of a list as std has them. Assumes nothing.
use Rattle.lists.proofs.Kit.{◌≡◌, refl, ap, ◌∙◌, true, false, Bool, List, [], ◌∷◌}
use mathlib.Core.Bool.{◌&&◌}
use Rattle.std.specs.List.{list_all}
use Rattle.lists.specs.Pick.{pick, both}
use Rattle.lists.specs.Tests.{every}

and-both : (a b : Bool) → both a b ≡ (a && b)
unfolding pick
and-both true b = refl
and-both false b = refl

pub every-all : {A : Type 0} (p : A → Bool) (xs : List A) → every p xs ≡ list_all p xs
unfolding every
every-all p [] = refl
every-all p (x ∷ xs) = and-both (p x) (every p xs) ∙ ap (λ b. p x && b) (every-all p xs)
