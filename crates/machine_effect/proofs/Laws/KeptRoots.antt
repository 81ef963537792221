-- Roots laid beside slots, as the code does it: of one position, of Swap's two, of the one that growth adds. z is the sector size.
-- Assumes nothing.
use Rattle.std.specs.Prelude.{Result, Ok, is_ok, IsOk}
use Rattle.lists.proofs.Kit.{◌≡◌, refl, sym, ap, ◌∙◌, List, [], ◌∷◌, ℕ, ◌+◌, ◌-◌, ◌*◌, ◌/◌, ◌≤◌, ◌<◌, arith, length, take, drop, get_or, ltb, eqb, ltb-true}
use Rattle.lists.proofs.Kit.{eq-eqb, ne_eqb}
use Rattle.lists.specs.Pick.{pick}
use Rattle.lists.proofs.Laws.Pick.{by, picks, skips}
use Rattle.area.specs.Area.{part, put, zeros}
use Rattle.area.specs.Slots.{Size}
use Rattle.area.proofs.Laws.Parts.{part-is, length_part, part-whole}
use Rattle.tree.specs.Tree.{root}
use Rattle.tree.specs.Answers.{root_of, root_given, rooted}
use Rattle.tree.specs.declared.TreeError.{TreeError}
use Rattle.tree.proofs.Promise.{roots, calls}
use Rattle.host.specs.Empty.{none}
use Rattle.machine_rules.specs.Effect.{Staging, rehashed}

-- ---- the root of a sector's bytes: `tree::root` of whole segments

module _ (r : Result (List ℕ) TreeError) (z : ℕ) (a : List ℕ) (from : ℕ) (size : Size z) (inside : from + z ≤ length a)
    (given : root_given r ≡ rooted (take (from + z - from) (drop from a))) where
  told : r ≡ Ok (root (part a from z))
  told =
      calls.root_told r (part a from z) (given ∙ ap rooted (part-is a from z (from + z) refl))
      (omega (arith, length_part a from z inside, size.segments))

  pub slot-ok : IsOk r
  slot-ok = ap is_ok told

  pub slot-root : {x : List ℕ} → r ≡ Ok x → x ≡ root (part a from z)
  slot-root e = ap root_of (sym e ∙ told)

  pub slot-root-long : {x : List ℕ} → r ≡ Ok x → 32 ≤ length x
  slot-root-long e = omega (arith, ap length (slot-root e) ∙ roots.root-long (part a from z))

-- ---- one position

-- all 32 bytes of a root, laid beside a slot
pub root-laid : {after key : List ℕ} {slot : ℕ} (old : List ℕ) (n : ℕ) (bytes : List ℕ) → slot ≡ n → key ≡ root bytes
    → after ≡ put old (slot * 32) (part key 0 32) → after ≡ put old (n * 32) (root bytes)
root-laid {after} {key} {slot} old n bytes s k e =
    let long : length key ≡ 32 = ap length k ∙ roots.root-long bytes in
    e ∙ ap (put old (slot * 32)) (part-whole key 32 (sym long) ∙ k) ∙ ap (λ (m : ℕ). put old (m * 32) (root bytes)) s

pub one-laid : {after key : List ℕ} {slot : ℕ} (z : ℕ) (g : Staging) (at : ℕ) (old : List ℕ) → slot ≡ get_or g.staged at none
    → key ≡ root (part g.bytes (slot * z) z) → after ≡ put old (slot * 32) (part key 0 32) → after ≡ rehashed z g (at ∷ []) old
unfolding rehashed
one-laid z g at old s k e =
    root-laid old (get_or g.staged at none) (part g.bytes (get_or g.staged at none * z) z) s
    (k ∙ ap (λ (n : ℕ). root (part g.bytes (n * z) z)) s) e

-- ---- Swap: the first position, then the second, which is the head of the list

module _ (z : ℕ) (g : Staging) (one two : ℕ) (old : List ℕ) where
  pub two-one : {after : List ℕ} → one ≡ two → after ≡ rehashed z g (one ∷ []) old
      → after ≡ rehashed z g (pick (eqb one two) (two ∷ []) (two ∷ one ∷ [])) old
  two-one same e =
      e ∙ ap (λ (at : ℕ). rehashed z g (at ∷ []) old) same
      ∙ ap (λ (l : List ℕ). rehashed z g l old) (sym (picks (eqb one two) (two ∷ []) (two ∷ one ∷ []) (eq-eqb one two same)))

  pub two-both : {mid after : List ℕ} → (one ≡ two → ⊥) → mid ≡ rehashed z g (one ∷ []) old → after ≡ rehashed z g (two ∷ []) mid
      → after ≡ rehashed z g (pick (eqb one two) (two ∷ []) (two ∷ one ∷ [])) old
  unfolding rehashed
  two-both differ m e =
      e ∙ ap (λ (l : List ℕ). put l (get_or g.staged two none * 32) (root (part g.bytes (get_or g.staged two none * z) z))) m
      ∙ ap (λ (l : List ℕ). rehashed z g l old) (sym (skips (eqb one two) (two ∷ []) (two ∷ one ∷ []) (ne_eqb one two differ)))

-- ---- growth: the root of zeros is that of the new sector's bytes

pub new-laid : {after : List ℕ} (z : ℕ) (g : Staging) (size new : ℕ) (old : List ℕ)
    → (size < new → part g.bytes (get_or g.staged (size / z) none * z) z ≡ zeros z)
    → after ≡ pick (ltb size new) (put old (get_or g.staged (size / z) none * 32) (root (zeros z))) old
    → after ≡ rehashed z g (pick (ltb size new) (size / z ∷ []) []) old
unfolding rehashed
new-laid z g size new old zeroed e =
    by (ltb size new)
    (λ t. e ∙ picks (ltb size new) _ old t
    ∙ ap (λ (l : List ℕ). put old (get_or g.staged (size / z) none * 32) (root l)) (sym (zeroed (ltb-true size new t)))
    ∙ ap (λ (l : List ℕ). rehashed z g l old) (sym (picks (ltb size new) (size / z ∷ []) [] t)))
    (λ t. e ∙ skips (ltb size new) _ old t ∙ ap (λ (l : List ℕ). rehashed z g l old) (sym (skips (ltb size new) (size / z ∷ []) [] t)))
