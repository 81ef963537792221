-- Arrays keep their lengths: those of places and of staged positions, whatever the call. Assumes nothing.
use Rattle.lists.specs.Tests.{each}
use Rattle.lists.proofs.Laws.Pick.{by, picks, skips}
use Rattle.lists.proofs.Laws.Ways.{either_way}
use Rattle.lists.proofs.Kit.{◌≡◌, refl, sym, ap, ◌∙◌, subst, true, List, [], ◌∷◌, ℕ, ◌-◌, ◌/◌, ◌≤◌, le_of_mul-le-mul_right, arith, length}
use Rattle.lists.proofs.Kit.{length-append, length-replicate}
use Rattle.host.specs.Empty.{no_place, no_program, no_progress, new_place, bare}
use Rattle.host.specs.With.{with_places, with_program, with_came, with_progress, with_size, with_slots, with_stage_roots, with_disk_roots}
use Rattle.host.specs.Places.{has_id, whose}
use Rattle.host.specs.Calls.{freshed, formed_at, formed, replaced, dropped}
use Rattle.machine_rules.specs.View.{turn_of, with_run, parent, volume_by}
use Rattle.machine_rules.specs.Run.{failed_progress, failing, turned}
use Rattle.machine_rules.specs.Calls.{Interrupted}
use Rattle.machine_rules.specs.Calls.{interrupt_by, stopped_by}
use Rattle.machine_rules.specs.Commit.{Closed, given_up, final_slots, final_place, commit}
use Rattle.machine_rules.specs.Visit.{Areas, Agreement, stops, closes, Shaped, Declared, Ready}
use Rattle.machine_rules.specs.Outcome.{Kept}
use Rattle.machine_rules.proofs.Making.{making}
use Rattle.machine_rules.proofs.Ordering.{orders}
use Rattle.machine_rules.proofs.Nothing.{close-ways}
use Rattle.machine_rules.proofs.Committing.{order-places, order-some, place-twins}
use Rattle.machine_rules.proofs.Laws.Final.{final}
use Rattle.machine_rules.proofs.Laws.Copies.{whole-sectors}
use Rattle.machine_rules.proofs.Laws.Split.{split, replaced-none}
use Rattle.machine_rules.proofs.Laws.KeptSlots.{none_of}
use Rattle.machine_rules.proofs.Laws.Taking.{order-good}
use Rattle.machine_rules.proofs.Laws.Filling.{filling-length}
use Rattle.host.specs.declared.Place.{Place}
use Rattle.host.specs.declared.Host.{Host}
use Rattle.host.specs.Calls.{Made}
use Rattle.machine_rules.proofs.Laws.Declared.{same-opens, declared-gives}

-- ---- making, forming and dropping

shaped-formed : (id : List ℕ) (ps : List Place) → Shaped ps → Shaped (formed_at id ps)
unfolding formed_at new_place
shaped-formed id [] h = h
shaped-formed id (p ∷ ps) h =
    by p.held
    (λ e. subst Shaped (sym (picks p.held (p ∷ formed_at id ps) _ e)) (h.0, shaped-formed id ps h.1))
    (λ e. subst Shaped (sym (skips p.held (p ∷ formed_at id ps) _ e)) (refl, h.1))

abbrev Fine : Made → Type 0
Fine r = Declared r.host

declared-formed : (h : Host) (id : List ℕ) → Declared h → Fine (formed h id)
unfolding formed with_places
declared-formed h id d =
    either_way Fine _ _ _ (λ e. d) (λ e. either_way Fine _ _ _ (λ e. d) (λ e. either_way Fine _ _ _ (λ e. d) (λ e.
    either_way Fine _ _ _ (λ e. d) (λ e. either_way Fine _ _ _ (λ e. d) (λ e. either_way Fine _ _ _ (λ e. d) (λ e.
    record { places = shaped-formed id h.places d.places; staged = d.staged; disk = d.disk; stage = d.stage }))))))

declared-bare : (z disk stage : ℕ) → Declared (bare z disk stage)
unfolding bare no_place no_program no_progress
declared-bare z disk stage =
    record { places = (refl, (refl, (refl, (refl, (refl, (refl, (refl, (refl, tt)))))))); staged = refl; disk = refl; stage = refl }

declared-fresh : (z disk stage : ℕ) → Fine (freshed z disk stage)
unfolding freshed
declared-fresh z disk stage =
    either_way Fine _ _ _ (λ e. declared-bare 0 0 0) (λ e. either_way Fine _ _ _ (λ e. declared-bare 0 0 0) (λ e.
    either_way Fine _ _ _ (λ e. declared-bare 0 0 0) (λ e. declared-bare z _ _)))

shaped-replaced : (id : List ℕ) (x : Place) (ps : List Place) → length x.slots ≡ 64 → Shaped ps → Shaped (replaced id x ps)
unfolding replaced each
shaped-replaced id x [] e h = h
shaped-replaced id x (p ∷ ps) e h =
    (either_way (λ (q : Place). length q.slots ≡ 64) (has_id id p) x p (λ _. e) (λ _. h.0), shaped-replaced id x ps e h.1)

declared-dropped : (h : Host) (id : List ℕ) → Declared h → Fine (dropped h id)
unfolding dropped with_places no_place
declared-dropped h id d =
    either_way Fine _ _ _ (λ e. d) (λ e. either_way Fine _ _ _ (λ e. d) (λ e. either_way Fine _ _ _ (λ e. d) (λ e.
    either_way Fine _ _ _ (λ e. d) (λ e.
    record { places = shaped-replaced id no_place h.places refl d.places; staged = d.staged; disk = d.disk; stage = d.stage }))))

-- ---- interrupts

abbrev Stops : Interrupted → Type 0
Stops r = Declared r.host

declared-stops : (h : Host) (a : Areas) → Declared h → Stops (stops h a)
unfolding interrupt_by stopped_by failing turned failed_progress with_run with_stage_roots with_program with_progress with_came turn_of
declared-stops h a d =
    either_way Stops _ _ _ (λ e. d) (λ e. either_way Stops _ _ _
    (λ e. record { places = d.places; staged = d.staged; disk = d.disk; stage = d.stage }) (λ e. d))

-- ---- closing

final-long : (p : Place) (size : ℕ) (slots : List ℕ) → length slots ≤ 64 → length (final_place p size slots).slots ≡ 64
unfolding final_place with_slots with_size
final-long p size slots le = length-append slots _ ∙ omega (arith, length-replicate {A = ℕ} (64 - length slots) 0)

module _ (disk : List ℕ) (h : Host) (stage : List ℕ) (r : Ready h) (live : h.program.active ≡ true) where
  abbrev id : List ℕ
  id = h.program.terms.head.contract

  abbrev size : ℕ
  size = h.program.progress.size

  shaped-commit : let old = whose id h.places in
      Shaped (replaced id (final_place old size (final_slots h.sector h.disk h.places old size)) h.places)
  unfolding volume_by
  shaped-commit =
      let d = r.declared in
      by (whose h.program.terms.head.contract h.places).held
      (λ e.
      let q = order-places h r.order in
      let g = (order-good h r.order live d.staged).orderly in
      let s = split id h.places (place-twins h.sector h.disk h.places q.0) e in
      let f = final h.sector h.disk size id h.places s (order-some h r.order) q.1 q.0 d.places g.whole g.within in
      let long = ap (λ (x : Place). length (final_slots h.sector h.disk h.places x size)) s.whose-is ∙ ap length f.is ∙ f.long in
      let few : size / h.sector ≤ h.disk =
      le_of_mul-le-mul_right {m = size / h.sector} {n = h.disk} {k = h.sector}
      (omega (arith, whole-sectors h.sector size g.whole, g.within)) (order-some h r.order) in
      shaped-replaced id _ h.places (final-long _ size _ (omega (arith, long, few, q.1))) d.places)
      (λ e. subst Shaped (sym (replaced-none id _ h.places (none_of id h.places e))) d.places)

  commit-declared : Declared (commit disk h stage).host
  unfolding commit parent volume_by with_program with_places no_program no_progress with_disk_roots
  commit-declared = record {
    places = shaped-commit;
    staged = refl;
    disk = filling-length 32 h.stageroots h.program.progress.staged _ 0 (h.program.progress.size / h.sector) h.diskroots ∙ r.declared.disk;
    stage = r.declared.stage;
  }

given-declared : (n : ℕ) (disk : List ℕ) (h : Host) → Declared h → Declared (given_up n disk h).host
unfolding given_up with_program no_program no_progress
given-declared n disk h d = record { places = d.places; staged = refl; disk = d.disk; stage = d.stage }

declared-closes : (h : Host) (a : Areas) (g : Agreement) → Ready h → Declared (closes h a g).host
declared-closes h a g r =
    let up : (n : ℕ) → Declared (given_up n a.disk h).host = λ n. given-declared n a.disk h r.declared in
    close-ways h a g (λ (x : Closed). Declared x.host) (λ n _ _ _. r.declared) (λ _. up 0) (λ _ _ _. up 0) (λ _ _ _. up 14)
    (λ _ finished _ _. commit-declared a.disk h a.stage r finished.live)

-- ---- all calls

pub fresh : (z disk stage : ℕ) → (freshed z disk stage).number ≡ 0 → Ready (freshed z disk stage).host
fresh z disk stage e = record { order = making z disk stage e; declared = declared-fresh z disk stage }

pub kept : (h : Host) (a : Areas) → Ready h → Kept h a
kept h a r =
    let d = r.declared in
    let o = orders h a d r.order in
    record {
      forming = λ id. record { order = o.forming id; declared = declared-formed h id d };
      dropping = λ id. record { order = o.dropping id; declared = declared-dropped h id d };
      opening = λ p bytes. record { order = o.opening p bytes; declared = (same-opens h p d).declared };
      piece = λ bytes. record { order = o.piece bytes; declared = declared-gives h a bytes d };
      interrupt = record { order = o.interrupt; declared = declared-stops h a d };
      closing = λ g. record { order = o.closing g; declared = declared-closes h a g r };
    }
