-- Lists by their index. Assumes nothing.
use Rattle.std.specs.Prelude.{List, [], ◌∷◌, ℕ, zero, suc}

-- f i, f (i + 1), … n of them
unfoldable pub tab : {A : Type 0} → ℕ → ℕ → (ℕ → A) → List A
tab i zero f = []
tab i (suc n) f = f i ∷ tab (suc i) n f
