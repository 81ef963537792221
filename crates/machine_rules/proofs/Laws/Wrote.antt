-- What an effect leaves: positions that it does not write to keep their slots, and slots that none of those positions has keep their bytes.
-- Assumes nothing.
use Rattle.lists.proofs.Kit.{◌≡◌, refl, sym, ap, ◌∙◌, subst, true, false, List, [], ◌∷◌, ℕ, ◌+◌, ◌*◌, ◌/◌, ◌%◌, ◌≤◌, ◌<◌, div-lt_iff_lt-mul, arith, length}
use Rattle.lists.proofs.Kit.{get_or, set, length-replicate, get_or-set_same, get_or-set_other, ltb, eqb, ltb-true, ltb-false, eqb-true, eqb-false, eq-eqb}
use Rattle.lists.specs.Pick.{pick}
use Rattle.lists.specs.Tests.{some}
use Rattle.lists.proofs.Laws.Pick.{by, picks, skips, never, either_left, either-right, neither}
use Rattle.lists.proofs.Laws.Some.{member-here, member-more, one-not, one_of, not-one}
use Rattle.area.specs.Area.{part, zeros}
use Rattle.host.specs.Empty.{none}
use Rattle.host.specs.Places.{free_copy}
use Rattle.machine_rules.specs.View.{sector}
use Rattle.machine_rules.specs.declared.Args.{Args}
use Rattle.machine_rules.specs.Plan.{bad_span, bad_spans, touched, new_size}
use Rattle.machine_rules.specs.Effect.{Ground, Staging, new_copy, sector_at, copied, span_read, laid, span_written, resized, effect}
use Rattle.machine_rules.proofs.Laws.Resizes.{Sized, sized}
use Rattle.machine_rules.proofs.Laws.Copies.{span-in, sector-below, copied_map, copied-map, written-map, copied-new}
use Rattle.machine_rules.proofs.Laws.Copies.{copied-old, length-copied}
use Rattle.area.proofs.Laws.Slots.{other-span, other-slot}
use Rattle.area.proofs.Laws.Parts.{few-part}
use Rattle.sia.specs.declared.Op.{Op}
use Rattle.sia.specs.declared.Op.TheVariants.{Read, ReadSector, Write, Copy, Swap, Truncate, Unknown}
use Rattle.machine_rules.specs.declared.Spot.{Spot}
use Rattle.machine_rules.specs.declared.Spot.TheVariants.{OnDisk, InStage}

-- h after g, with the positions ps written to
pub record Wrote (z : ℕ) (ps : List ℕ) (g h : Staging) : Type 0 where
  pub stay : (j : ℕ) → some (eqb j) ps ≡ false → eqb (get_or h.staged j none) none ≡ false → get_or h.staged j none ≡ get_or g.staged j none
  pub hold : (m : ℕ) → eqb m none ≡ false → ((at : ℕ) → some (eqb at) ps ≡ true → get_or h.staged at none ≡ m → ⊥) → part h.bytes (m * z) z
      ≡ part g.bytes (m * z) z

pub wrote_nothing : (z : ℕ) (g : Staging) → Wrote z [] g g
wrote_nothing z g = record { stay = λ j o n. refl; hold = λ m n o. refl }

-- ---- a span

few-sector : (z : ℕ) (disk stage : List ℕ) (x : Spot) → length (sector z disk stage x) ≤ z
unfolding sector
few-sector z disk stage (OnDisk n) = few-part disk (n * z) z
few-sector z disk stage (InStage n) = few-part stage (n * z) z

copied-hold : (z : ℕ) (e : Ground) (at : ℕ) (g : Staging) (m : ℕ) → at < length g.staged → (get_or (copied z e at g).staged at none ≡ m → ⊥)
    → part (copied z e at g).bytes (m * z) z ≡ part g.bytes (m * z) z
unfolding copied new_copy sector_at
copied-hold z e at g m lt ne =
    by (eqb (get_or g.staged at none) none)
    (λ u. let q = picks (eqb (get_or g.staged at none) none) (new_copy z e at (sector_at z e at g) g) g u in
    ap (λ (x : Staging). part x.bytes (m * z) z) q
    ∙ other-slot z g.bytes (free_copy e.copies g.staged) m _ (few-sector z _ _ _)
    (λ k. ne (ap (λ (x : Staging). get_or x.staged at none) q ∙ get_or-set_same g.staged at (free_copy e.copies g.staged) none lt ∙ k)))
    (λ u. ap (λ (x : Staging). part x.bytes (m * z) z) (skips (eqb (get_or g.staged at none) none) (new_copy z e at (sector_at z e at g) g) g u))

copied-other : (copies at j : ℕ) (staged : List ℕ) → (j ≡ at → ⊥) → get_or (copied_map copies at staged) j none ≡ get_or staged j none
copied-other copies at j staged ne =
    by (eqb (get_or staged at none) none)
    (λ u. ap (λ (l : List ℕ). get_or l j none) (copied-new copies at staged u) ∙ get_or-set_other staged at j _ none ne)
    (λ u. ap (λ (l : List ℕ). get_or l j none) (copied-old copies at staged u))

-- a position that has a slot keeps it
copied-keeps : (copies at j : ℕ) (staged : List ℕ) → eqb (get_or staged j none) none ≡ false → get_or (copied_map copies at staged) j none ≡ get_or staged j none
copied-keeps copies at j staged n =
    by (eqb j at)
    (λ u. let q = eqb-true j at u in
    ap (λ (l : List ℕ). get_or l j none) (copied-old copies at staged (subst (λ (x : ℕ). eqb (get_or staged x none) none ≡ false) q n)))
    (λ u. copied-other copies at j staged (eqb-false j at u))

pub wrote-span : (z : ℕ) (e : Ground) (at : ℕ) (bs : List ℕ) (g : Staging) → at % z + length bs ≤ z → at / z < length g.staged
    → Wrote z (at / z ∷ []) g (span_written z e at bs g)
unfolding span_written laid
wrote-span z e at bs g few lt = record {
  stay = λ j o n. ap (λ (l : List ℕ). get_or l j none) (copied-map z e (at / z) g) ∙ copied-other e.copies (at / z) j g.staged (one-not j (at / z) o);
  hold = λ m n o.
      let ne = o (at / z) (member-here (at / z) []) in
      other-span z (copied z e (at / z) g).bytes (get_or (copied z e (at / z) g).staged (at / z) none) m (at % z) bs few ne
      ∙ copied-hold z e (at / z) g m lt ne;
}

-- ---- two spans

-- the positions of Swap: b where both are one, else b and a
unfoldable pub two : ℕ → ℕ → List ℕ
two a b = pick (eqb a b) (b ∷ []) (b ∷ a ∷ [])

two-first : (j a b : ℕ) → j ≡ a → some (eqb j) (two a b) ≡ true
unfolding two
two-first j a b e =
    by (eqb a b)
    (λ u. ap (some (eqb j)) (picks (eqb a b) (b ∷ []) (b ∷ a ∷ []) u) ∙ subst (λ (x : ℕ). some (eqb j) (x ∷ []) ≡ true) (e ∙ eqb-true a b u) (member-here j []))
    (λ u. ap (some (eqb j)) (skips (eqb a b) (b ∷ []) (b ∷ a ∷ []) u)
    ∙ member-more j b (a ∷ []) (subst (λ (x : ℕ). some (eqb j) (x ∷ []) ≡ true) e (member-here j [])))

two-second : (j a b : ℕ) → j ≡ b → some (eqb j) (two a b) ≡ true
unfolding two some
two-second j a b e =
    by (eqb a b)
    (λ u. ap (some (eqb j)) (picks (eqb a b) (b ∷ []) (b ∷ a ∷ []) u) ∙ picks (eqb j b) true _ (eq-eqb j b e))
    (λ u. ap (some (eqb j)) (skips (eqb a b) (b ∷ []) (b ∷ a ∷ []) u) ∙ picks (eqb j b) true _ (eq-eqb j b e))

pub wrote-two : (z : ℕ) (e : Ground) (at to : ℕ) (bs cs : List ℕ) (g : Staging) → at % z + length bs ≤ z → to % z + length cs ≤ z
    → at / z < length g.staged → to / z < length g.staged
    → Wrote z (two (at / z) (to / z)) g (span_written z e at bs (span_written z e to cs g))
wrote-two z e at to bs cs g fa ft la lt =
    let f : Staging = span_written z e to cs g in
    let h : Staging = span_written z e at bs f in
    let long : length f.staged ≡ length g.staged = ap length (written-map z e to cs g) ∙ length-copied e.copies (to / z) g.staged in
    let one = wrote-span z e to cs g ft lt in
    let next = wrote-span z e at bs f fa (omega (arith, long)) in
    record {
      stay = λ j o n.
          let na : j ≡ at / z → ⊥ = λ q. never (sym (two-first j (at / z) (to / z) q) ∙ o) in
          let nt : j ≡ to / z → ⊥ = λ q. never (sym (two-second j (at / z) (to / z) q) ∙ o) in
          let s = next.stay j (not-one j (at / z) na) n in
          s ∙ one.stay j (not-one j (to / z) nt) (subst (λ (x : ℕ). eqb x none ≡ false) s n);
      hold = λ m n o.
          next.hold m n (λ j u. o j (two-first j (at / z) (to / z) (one_of j (at / z) u)))
          ∙ one.hold m n (λ j u k.
          let has : eqb (get_or f.staged j none) none ≡ false = subst (λ (x : ℕ). eqb x none ≡ false) (sym k) n in
          o j (two-second j (at / z) (to / z) (one_of j (to / z) u))
          (ap (λ (l : List ℕ). get_or l j none) (written-map z e at bs f) ∙ copied-keeps e.copies (at / z) j f.staged has ∙ k));
    }

-- ---- Truncate

pub wrote-more : (z : ℕ) (e : Ground) (at : ℕ) (g : Staging) → at < length g.staged → Wrote z (at ∷ []) g (new_copy z e at (zeros z) g)
unfolding new_copy
wrote-more z e at g lt = record {
  stay = λ j o n. get_or-set_other g.staged at j _ none (one-not j at o);
  hold = λ m n o. other-slot z g.bytes (free_copy e.copies g.staged) m (zeros z) (omega (arith, length-replicate {A = ℕ} z 0))
      (λ k. o at (member-here at []) (get_or-set_same g.staged at _ none lt ∙ k));
}

pub wrote-less : (z : ℕ) (at : ℕ) (g : Staging) → at < length g.staged → Wrote z [] g (record { staged = set g.staged at none; bytes = g.bytes })
wrote-less z at g lt = record {
  stay = λ j o n.
      by (eqb j at)
      (λ u. let q = eqb-true j at u in
      never (sym (eq-eqb none none refl)
      ∙ sym (ap (λ (x : ℕ). eqb x none) (ap (λ (x : ℕ). get_or (set g.staged at none) x none) q ∙ get_or-set_same g.staged at none none lt)) ∙ n))
      (λ u. get_or-set_other g.staged at j none none (eqb-false j at u));
  hold = λ m n o. refl;
}

-- ---- each instruction

-- what is known of a span that passed
pub span-few : (z size at n : ℕ) → bad_span z size at n ≡ false → at % z + n ≤ z
unfolding bad_span
span-few z size at n e = ltb-false z (at % z + n) (neither _ _ (neither _ _ e).1).1

few-read : (z : ℕ) (e : Ground) (at n : ℕ) (g : Staging) → length (span_read z e at n g) ≤ n
unfolding span_read
few-read z e at n g = few-part (sector_at z e (at / z) g) (at % z) n

module _ (z : ℕ) (e : Ground) (size : ℕ) (g : Staging) (pos : 0 < z) (whole : size % z ≡ 0) (under : size / z ≤ length g.staged) where
  in-staged : (at n : ℕ) → bad_span z size at n ≡ false → at / z < length g.staged
  in-staged at n b = let q = sector-below z at size pos whole (span-in z size at n b) in omega arith

  wrote-resized : (new : ℕ) → Sized z size new → new ≤ length g.staged * z → Wrote z (pick (ltb size new) (size / z ∷ []) []) g (resized z e size new g)
  unfolding resized
  wrote-resized new sz room =
      by (ltb size new)
      (λ u. let lt = ltb-true size new u in
      let at : size / z < length g.staged = (div-lt_iff_lt-mul {k = z} {x = size} {y = length g.staged} pos).1 (omega arith) in
      subst (λ (l : List ℕ). Wrote z l g (resized z e size new g)) (sym (picks (ltb size new) (size / z ∷ []) [] u))
      (subst (λ (x : Staging). Wrote z (size / z ∷ []) g x) (sym (picks (ltb size new) (new_copy z e (size / z) (zeros z) g) _ u))
      (wrote-more z e (size / z) g at)))
      (λ u. subst (λ (l : List ℕ). Wrote z l g (resized z e size new g)) (sym (skips (ltb size new) (size / z ∷ []) [] u))
      (subst (λ (x : Staging). Wrote z [] g x) (sym (skips (ltb size new) (new_copy z e (size / z) (zeros z) g) _ u))
      (by (ltb new size)
      (λ v. let at = sector-below z new size pos whole (ltb-true new size v) in
      subst (λ (x : Staging). Wrote z [] g x) (sym (picks (ltb new size) _ g v)) (wrote-less z (new / z) g (omega arith)))
      (λ v. subst (λ (x : Staging). Wrote z [] g x) (sym (skips (ltb new size) _ g v)) (wrote_nothing z g)))))

  pub wrote-effect : (n : ℕ) (op : Op) (a : Args) (d : List ℕ) → bad_spans z size n op a ≡ false → (op ≡ Write → length d ≡ a.len)
      → new_size size op a ≤ length g.staged * z
      → Wrote z (touched z size op a) g (effect z e size op a d g)
  unfolding effect touched bad_spans new_size two
  wrote-effect n Read a d b long room = wrote_nothing z g
  wrote-effect n ReadSector a d b long room = wrote_nothing z g
  wrote-effect n Write a d b long room = wrote-span z e a.first d g (omega (arith, span-few z size a.first a.len b, long refl))
      (in-staged a.first a.len b)
  wrote-effect n Copy a d b long room =
      let c = either_left _ _ b in
      wrote-span z e a.first _ g (omega (arith, span-few z size a.first a.len c, few-read z e a.second a.len g))
      (in-staged a.first a.len c)
  wrote-effect n Swap a d b long room =
      let c = either_left _ _ b in
      let d = either-right _ _ b in
      wrote-two z e a.first a.second _ _ g (omega (arith, span-few z size a.first a.len c, few-read z e a.second a.len g))
      (omega (arith, span-few z size a.second a.len d, few-read z e a.first a.len g)) (in-staged a.first a.len c)
      (in-staged a.second a.len d)
  wrote-effect n Truncate a d b long room = wrote-resized a.first (sized z size a.first b) room
  wrote-effect n Unknown a d b long room = wrote_nothing z g
