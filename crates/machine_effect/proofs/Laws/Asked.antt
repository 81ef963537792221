-- What each instruction's arm asks, out of what is asked for all; and the code's arm. z is the sector size. Assumes nothing.
use Rattle.lists.proofs.Kit.{◌≡◌, sym, ap, ◌∙◌, subst, List, [], ◌∷◌, ℕ, ◌+◌, ◌*◌, ◌/◌, ◌≤◌, ◌<◌, arith, length, get_or, ltb, eqb, lt-ltb, eqb-true}
use Rattle.lists.specs.Pick.{pick}
use Rattle.lists.proofs.Laws.Pick.{by, picks, skips}
use Rattle.host.specs.Empty.{none}
use Rattle.machine_rules.specs.declared.Args.{Args}
use Rattle.machine_rules.specs.Plan.{touched}
use Rattle.machine_rules.specs.Effect.{Staging, rehashed}
use Rattle.sia.specs.declared.Op.{Op}
use Rattle.sia.specs.declared.Op.TheVariants.{Write, Copy, Swap, Truncate}
use Rattle.machine_effect.specs.Rehashes.{Near, Beside, Each, Rehashes}

-- the slot lies within the stage
pub slot-lies : {slot : ℕ} (z : ℕ) (g : Staging) (old : List ℕ) (at : ℕ) → slot ≡ get_or g.staged at none → Beside z g old at
    → slot * z + z ≤ length g.bytes
slot-lies z g old at e b = omega (arith, b.lies, ap (λ (n : ℕ). n * z) e)

-- a fact of both of Swap's positions
both-each : (P : ℕ → Type 0) (one two : ℕ) → Each P (pick (eqb one two) (two ∷ []) (two ∷ one ∷ [])) → P one × P two
both-each P one two h =
    by (eqb one two)
    (λ e. let q = subst (Each P) (picks (eqb one two) (two ∷ []) (two ∷ one ∷ []) e) h in (subst P (sym (eqb-true one two e)) q.0, q.0))
    (λ e. let q = subst (Each P) (skips (eqb one two) (two ∷ []) (two ∷ one ∷ []) e) h in (q.1.0, q.0))

module _ {z size : ℕ} {op : Op} {a : Args} {g : Staging} {old : List ℕ} (h : Rehashes z size op a g old) where
  told : {known : Op} → op ≡ known → Each (Beside z g old) (touched z size known a)
  told e = subst (λ (o : Op). Each (Beside z g old) (touched z size o a)) e h.each

  pub asked-write : op ≡ Write → Beside z g old (a.first / z)
  unfolding touched
  asked-write e = (told e).0

  pub asked-copy : op ≡ Copy → Beside z g old (a.first / z)
  unfolding touched
  asked-copy e = (told e).0

  pub asked-swap : op ≡ Swap → Beside z g old (a.first / z) × Beside z g old (a.second / z)
  unfolding touched
  asked-swap e = both-each (Beside z g old) (a.first / z) (a.second / z) (told e)

  pub asked-new : op ≡ Truncate → size < a.first → Near g.staged old (size / z)
  unfolding touched
  asked-new e lt =
      (subst (Each (Beside z g old)) (picks (ltb size a.first) (size / z ∷ []) [] (lt-ltb size a.first lt)) (told e)).0.near

-- the code's arm
pub arm : {x : List ℕ} {op known : Op} (z size : ℕ) (a : Args) (g : Staging) (old : List ℕ) → op ≡ known
    → x ≡ rehashed z g (touched z size known a) old → x ≡ rehashed z g (touched z size op a) old
arm z size a g old e q = q ∙ ap (λ (o : Op). rehashed z g (touched z size o a) old) (sym e)
