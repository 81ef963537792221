-- The roots kept beside the stage's slots after an instruction: right where they were right before. Assumes nothing.
use Rattle.lists.proofs.Kit.{◌≡◌, refl, sym, ap, ◌∙◌, subst, true, false, not, List, [], ◌∷◌, ℕ, zero, suc, ◌+◌, ◌*◌, ◌≤◌, ◌<◌, arith, length, get_or, ltb}
use Rattle.lists.proofs.Kit.{eqb, not-true, ltb-true, ltb-false, eqb-true, eqb-false, eq-eqb}
use Rattle.lists.specs.Pick.{either, both}
use Rattle.lists.specs.Tests.{some, apart}
use Rattle.lists.proofs.Laws.Pick.{by, picks, skips, never, both_left, both_right, both-join, either_left, either-right, either-else}
use Rattle.lists.proofs.Laws.Every.{every-at, every-all}
use Rattle.lists.proofs.Laws.Some.{member-here, member-more, member-less}
use Rattle.area.specs.Area.{part, put}
use Rattle.area.proofs.Laws.Puts.{part-put}
use Rattle.area.proofs.Laws.Same.{same-eq, eq-same}
use Rattle.tree.specs.Tree.{root}
use Rattle.tree.proofs.Promise.{roots}
use Rattle.host.specs.Empty.{none}
use Rattle.host.specs.Order.{slot_in_order, clash}
use Rattle.host.specs.Facts.{Staged}
use Rattle.machine_rules.specs.Effect.{Staging, rehashed}
use Rattle.machine_rules.specs.Sound.{right, staged_right}
use Rattle.area.proofs.Laws.Slots.{other-slot}
use Rattle.machine_rules.proofs.Laws.Areas.{rehashed-length}
use Rattle.machine_rules.proofs.Laws.Wrote.{Wrote}
use Rattle.machine_rules.proofs.Laws.Staged.{slot-none}

-- ---- the slots of a list of positions

-- none of the positions has slot m
pub rehashed-out : (z : ℕ) (g : Staging) (m : ℕ) (l copies : List ℕ) → ((at : ℕ) → some (eqb at) l ≡ true → get_or g.staged at none ≡ m → ⊥)
    → part (rehashed z g l copies) (m * 32) 32 ≡ part copies (m * 32) 32
unfolding rehashed
rehashed-out z g m [] copies o = refl
rehashed-out z g m (at ∷ l) copies o =
    other-slot 32 (rehashed z g l copies) (get_or g.staged at none) m _
    (omega (arith, roots.root-long (part g.bytes (get_or g.staged at none * z) z))) (o at (member-here at l))
    ∙ rehashed-out z g m l copies (λ j u. o j (member-more j at l u))

-- one of them has it
pub rehashed-in : (z : ℕ) (g : Staging) (m : ℕ) (l copies : List ℕ) (j : ℕ) → some (eqb j) l ≡ true → get_or g.staged j none ≡ m → m * 32 + 32 ≤ length copies
    → part (rehashed z g l copies) (m * 32) 32 ≡ root (part g.bytes (m * z) z)
unfolding rehashed some
rehashed-in z g m [] copies j u k room = never (sym u)
rehashed-in z g m (at ∷ l) copies j u k room =
    let long = roots.root-long (part g.bytes (get_or g.staged at none * z) z) in
    by (eqb (get_or g.staged at none) m)
    (λ v. let q = eqb-true (get_or g.staged at none) m v in
    ap (λ (x : ℕ). part (put (rehashed z g l copies) (get_or g.staged at none * 32) (root (part g.bytes (get_or g.staged at none * z) z)))
    (x * 32) 32) (sym q)
    ∙ part-put (rehashed z g l copies) (get_or g.staged at none * 32) (root (part g.bytes (get_or g.staged at none * z) z)) 32 (sym long)
    (omega (arith, long, rehashed-length z g l copies, q))
    ∙ ap (λ (x : ℕ). root (part g.bytes (x * z) z)) q)
    (λ v. let ne = eqb-false (get_or g.staged at none) m v in
    other-slot 32 (rehashed z g l copies) (get_or g.staged at none) m _ (omega (arith, long)) ne
    ∙ rehashed-in z g m l copies j (member-less j at l (λ q. ne (ap (λ (x : ℕ). get_or g.staged x none) (sym q) ∙ k)) u) k room)

-- ---- positions and slots

-- two positions have two slots
clash-at : (x : ℕ) (l : List ℕ) (k : ℕ) → eqb x none ≡ false → some (clash x) l ≡ false → get_or l k none ≡ x → ⊥
unfolding some clash
clash-at x [] k n h e = never (sym (eq-eqb x none (sym e)) ∙ n)
clash-at x (y ∷ ys) zero n h e =
    let no = either_left _ _ h in
    let b : both (not (eqb x none)) (both (not (eqb y none)) (eqb x y)) ≡ true =
    both-join _ _ (ap not n) (both-join _ _ (ap not (ap (λ (m : ℕ). eqb m none) e ∙ n)) (eq-eqb x y (sym e))) in
    never (sym b ∙ no)
clash-at x (y ∷ ys) (suc k) n h e = clash-at x ys k n (either-right _ _ h) e

pub slots-differ : (l : List ℕ) → apart clash l ≡ true → (j k : ℕ) → j < k → eqb (get_or l j none) none ≡ false → get_or l k none ≡ get_or l j none → ⊥
unfolding apart
slots-differ [] h j k lt n e = never (sym (eq-eqb none none refl) ∙ n)
slots-differ (x ∷ xs) h j zero lt n e = absurd (omega arith)
slots-differ (x ∷ xs) h zero (suc k) lt n e = clash-at x xs k n (not-true _ (both_left _ _ h)) e
slots-differ (x ∷ xs) h (suc j) (suc k) lt n e = slots-differ xs (both_right _ _ h) j k (omega arith) n e

pub two-slots : (l : List ℕ) → apart clash l ≡ true → (j k : ℕ) → (k ≡ j → ⊥) → eqb (get_or l j none) none ≡ false → get_or l k none ≡ get_or l j none → ⊥
two-slots l h j k ne n e =
    by (ltb j k)
    (λ u. slots-differ l h j k (ltb-true j k u) n e)
    (λ u. by (ltb k j)
    (λ v. slots-differ l h k j (ltb-true k j v) (subst (λ (x : ℕ). eqb x none ≡ false) (sym e) n) (sym e))
    (λ v. ne (omega (arith, ltb-false j k u, ltb-false k j v))))

-- ---- right before, right after

pub right-at : (z : ℕ) (stage copies staged : List ℕ) (j : ℕ) → staged_right z stage copies staged ≡ true → eqb (get_or staged j none) none ≡ false
    → right z stage copies (get_or staged j none) ≡ true
unfolding staged_right
right-at z stage copies staged j h n =
    sym (skips (eqb (get_or staged j none) none) true _ n)
    ∙ every-at (λ m. either (eqb m none) (right z stage copies m)) staged j none h (picks (eqb none none) true _ refl)

pub rehashed-right : (z : ℕ) (ps copies : List ℕ) (g h : Staging) (n start now : ℕ) → Wrote z ps g h → n ≤ 16 → Staged n start now h.staged
    → length copies ≡ 512
    → staged_right z g.bytes copies g.staged ≡ true → staged_right z h.bytes (rehashed z h ps copies) h.staged ≡ true
unfolding staged_right right slot_in_order
rehashed-right z ps copies g h n start now w few f long before =
    every-all (λ m. either (eqb m none) (right z h.bytes (rehashed z h ps copies) m)) h.staged none (λ j lt.
    either-else (eqb (get_or h.staged j none) none) _ (λ has.
    let m = get_or h.staged j none in
    let below : get_or h.staged j none < n = ltb-true _ _ (sym (skips (eqb (get_or h.staged j none) none) true _ has)
    ∙ every-at (slot_in_order n) h.staged j none f.slots (slot-none n)) in
    by (some (eqb j) ps)
    (λ u. eq-same _ _ (rehashed-in z h (get_or h.staged j none) ps copies j u refl (omega arith)))
    (λ u. let s = w.stay j u has in
    let out : (at : ℕ) → some (eqb at) ps ≡ true → get_or h.staged at none ≡ get_or h.staged j none → ⊥ =
    λ at v k. two-slots h.staged f.own j at (λ q. never (sym v ∙ ap (λ (x : ℕ). some (eqb x) ps) q ∙ u)) has k in
    let old = same-eq _ _ (right-at z g.bytes copies g.staged j before (subst (λ (x : ℕ). eqb x none ≡ false) s has)) in
    eq-same _ _
    (rehashed-out z h (get_or h.staged j none) ps copies out
    ∙ ap (λ (x : ℕ). part copies (x * 32) 32) s ∙ old ∙ ap (λ (x : ℕ). root (part g.bytes (x * z) z)) (sym s)
    ∙ ap root (sym (w.hold (get_or h.staged j none) has out))))))
