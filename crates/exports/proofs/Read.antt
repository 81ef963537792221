-- Reading `tree::root`'s contract by its answer. Assumes nothing.
use Rattle.std.specs.Prelude.{Result, Ok, Err}
use Rattle.lists.proofs.Kit.{◌≡◌, refl, sym, ap, ◌∙◌, true, false, List, ℕ, length, eq-eqb, ne_eqb}
use Rattle.lists.proofs.Laws.Pick.{yes, no, both-join, both-not-left, both-not-right}
use Rattle.area.specs.Area.{put, part}
use Rattle.area.proofs.Laws.Parts.{part-whole}
use Rattle.area.proofs.Laws.Puts.{put_all}
use Rattle.tree.specs.Tree.{root}
use Rattle.tree.specs.Answers.{root_given, rooted, wholes}
use Rattle.tree.specs.declared.TreeError.{TreeError}
use Rattle.tree.proofs.Promise.{roots, calls}
use Rattle.exports.specs.Numbers.{numbered, root_laid}

module _ (bytes : List ℕ) {r : Result (List ℕ) TreeError} (e : root_given r ≡ rooted bytes) where
  -- done: the bytes are whole segments, and this is their root, of 32 bytes
  pub done : {x : List ℕ} → r ≡ Ok x → (wholes 64 bytes ≡ true) × (x ≡ root bytes) × (length x ≡ 32)
  done t = let d = calls.root-done r bytes _ e t in (d.0, d.1, ap length d.1 ∙ roots.root-long bytes)

  -- refused: they are not whole segments
  pub refused : {f : TreeError} → r ≡ Err f → wholes 64 bytes ≡ false
  refused t = calls.root-refused r bytes _ e t

-- the three ways out
pub other_length : (bytes out : List ℕ) → (length out ≡ 32 → ⊥) → numbered 2 out ≡ root_laid bytes out
unfolding root_laid
other_length bytes out n = no _ _ _ (both-not-left _ _ (ne_eqb _ _ n)) refl

pub no-segments : (bytes out : List ℕ) → wholes 64 bytes ≡ false → numbered 2 out ≡ root_laid bytes out
unfolding root_laid
no-segments bytes out w = no _ _ _ (both-not-right _ _ w) refl

pub laid : (bytes out x r : List ℕ) → length out ≡ 32 → length x ≡ 32 → wholes 64 bytes ≡ true → x ≡ root bytes → r ≡ put out 0 (part x 0 32)
    → numbered 0 r ≡ root_laid bytes out
unfolding root_laid
laid bytes out x r n l w e p =
    yes _ _ _ (both-join _ _ (eq-eqb _ _ n) w)
    (ap (numbered 0) (p ∙ ap (put out 0) (part-whole x 32 (sym l)) ∙ put_all out x (l ∙ sym n) ∙ e))
