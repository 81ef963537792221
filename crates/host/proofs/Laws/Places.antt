-- The contract of an id, as the first place that has it. Assumes nothing.
use Rattle.lists.proofs.Kit.{◌≡◌, refl, ap, ◌∙◌, false, List, [], ◌∷◌, ℕ, cond}
use Rattle.std.specs.List.{find}
use Rattle.std.specs.Option.{unwrap_or}
use Rattle.host.specs.Empty.{no_place}
use Rattle.host.specs.Places.{has_id, whose}
use Rattle.host.specs.declared.Place.{Place}
use Rattle.lists.proofs.Laws.Library.{pick-cond}
use Rattle.host.proofs.Laws.Chains.{unwrap-cond}

-- what code reads past the end of an array of places
abbrev pub blank : Place
blank = record { held = false; id = []; size = 0; slots = [] }

pub whose-found : (id : List ℕ) (ps : List Place) → whose id ps ≡ unwrap_or (find (has_id id) ps) no_place
unfolding whose
whose-found id [] = refl
whose-found id (p ∷ ps) =
    rw (unwrap-cond (has_id id p) p (find (has_id id) ps) no_place)
    (pick-cond (has_id id p) p (whose id ps) ∙ ap (cond (has_id id p) p) (whose-found id ps))
