-- A sum that is never made: a limit counted down. Assumes nothing.
use Rattle.lists.proofs.Kit.{◌≡◌, sym, ◌∙◌, Bool, true, false, ℕ, ◌+◌, ◌≤◌, ◌<◌, ltb, lt-ltb, le-ltb}
use Rattle.lists.proofs.Laws.Pick.{by}

-- a test that holds exactly where the sum is above the limit
pub over : (t : Bool) (limit a b : ℕ) → (t ≡ true → limit < a + b) → (t ≡ false → a + b ≤ limit) → t ≡ ltb limit (a + b)
over t limit a b f g = by t (λ u. u ∙ sym (lt-ltb limit (a + b) (f u))) (λ u. u ∙ sym (le-ltb limit (a + b) (g u)))
