-- `sia::op_of` meets its contract: the names are tried in the definition's order. Assumes nothing.
use Rattle.std.proofs.Common.{rules, tests, find, Some, Option}
use Rattle.std.specs.Option.{unwrap_or}
use Rattle.std.proofs.lemmas.Iterator.{YieldsList-from_slice}
use Rattle.std.proofs.lemmas.Iterator.Search.{find_from_yields_List}
use Rattle.lists.proofs.Kit.{◌≡◌, refl, ap, ◌∙◌, cond, Bool, true, false, List, [], ◌∷◌}
use Rattle.lists.specs.Pick.{pick}
use Rattle.area.specs.Area.{same}
use Rattle.sia.specs.Names.{op_of, name_of}
use Rattle.sia.specs.declared.Op.{Op}
use Rattle.sia.specs.declared.Op.TheVariants.{Read, ReadSector, Write, Copy, Swap, Truncate, Unknown}
use Rattle.sia.proofs.op_of.Goals as goal

-- the first of those given that has a name
unfoldable tried : (Op → Bool) → List Op → Op
tried test [] = Unknown
tried test (x ∷ xs) = pick (test x) x (tried test xs)

tried-found : (test : Op → Bool) (xs : List Op) → unwrap_or (find test xs) Unknown ≡ tried test xs
unfolding tried pick
tried-found test [] = refl
tried-found test (x ∷ xs) = go (test x) _ (tried-found test xs) where
  go : (t : Bool) (o : Option Op) {y : Op} → unwrap_or o Unknown ≡ y → unwrap_or (cond t (Some x) o) Unknown ≡ pick t x y
  go true o e = refl
  go false o e = e

pub returns : goal.returns
unfolding op_of tried
returns c =
    let test : Op → Bool = λ op. same c.args.name (name_of op) in
    let named = Read ∷ ReadSector ∷ Write ∷ Copy ∷ Swap ∷ Truncate ∷ [] in
    let found = find_from_yields_List test _ _ c.find.result c.find.ensures.ran (YieldsList-from_slice named cc) (λ x b q k. search (rules, tests)) in
    c.unwrap_or.ensures ∙ ap (λ (o : Option Op). unwrap_or o Unknown) (c.copied.ensures ∙ found) ∙ tried-found test named
