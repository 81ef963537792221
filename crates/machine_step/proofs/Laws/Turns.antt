-- Instructions in turn, one at a time: what a turn keeps, and how a run goes on or ends. Assumes nothing.
use Rattle.lists.proofs.Kit.{◌≡◌, sym, ap, ◌∙◌, subst, true, false, List, ℕ, zero, suc, ◌≤◌, ◌<◌, arith, length, get_or, leb, leb-true, ltb-true}
use Rattle.lists.proofs.Laws.Pick.{both-join, both_left, both_right, both-not-left, both-not-right, never}
use Rattle.lists.proofs.Laws.Entries.{any-default}
use Rattle.sia.specs.Encode.{within}
use Rattle.sia.specs.Empty.{no_instruction}
use Rattle.host.specs.Order.{terms_in_order}
use Rattle.machine_rules.specs.View.{Turn, Volume}
use Rattle.machine_rules.specs.declared.Setting.{Setting}
use Rattle.machine_rules.specs.Inputs.{need, inputs_of}
use Rattle.machine_rules.specs.Run.{current, step, going, ready, runs, run, turned}
use Rattle.machine_rules.proofs.Laws.Areas.{stepped-alike}
use Rattle.machine_rules.proofs.Laws.Kept.{stepped-good}
use Rattle.machine_rules.proofs.Laws.Steps.{runs-go, runs-stop, left, ready-going, step_left, none_left, runs-enough, left-most}
use Rattle.machine_step.specs.Asks.{Steps, stepped_turn}
use Rattle.machine_step.specs.Turns.{Runs}
use Rattle.sia.specs.declared.Instruction.{Instruction}

-- the instruction whose turn it is, by any default
pub turn_is : (s : Setting) (t : Turn) (d : Instruction) → t.progress.ran < length s.terms.head.instructions
    → get_or s.terms.head.instructions t.progress.ran d ≡ current s t
unfolding current
turn_is s t d h = any-default s.terms.head.instructions t.progress.ran d no_instruction h

-- and one step of the run
pub steps-turn : (s : Setting) (vol : Volume) (a : List ℕ) (t : Turn) {i : Instruction} {u : Turn} → i ≡ current s t
    → u ≡ stepped_turn s vol i a t → u ≡ step s vol a t
unfolding step
steps-turn s vol a t e h = h ∙ ap (λ (j : Instruction). stepped_turn s vol j a t) e

-- whether it is ready: the program goes on, and its need has come
module _ (s : Setting) (k : ℕ) (t : Turn) where
  pub goes : {i : Instruction} → i ≡ current s t → going s.terms t.progress ≡ true → leb (need s.terms.head.length i) k ≡ true
      → ready s k t ≡ true
  unfolding ready
  goes e g h = both-join _ _ g (ap (λ (j : Instruction). leb (need s.terms.head.length j) k) (sym e) ∙ h)

  pub waits : {i : Instruction} → i ≡ current s t → leb (need s.terms.head.length i) k ≡ false → ready s k t ≡ false
  unfolding ready
  waits e h = both-not-right _ _ (ap (λ (j : Instruction). leb (need s.terms.head.length j) k) (sym e) ∙ h)

  pub ends : going s.terms t.progress ≡ false → ready s k t ≡ false
  unfolding ready
  ends g = both-not-left _ _ g

few-instructions : (s : Setting) (vol : Volume) (t : Turn) (a : List ℕ) → Runs s vol t a → s.terms.head.count ≤ 32
unfolding terms_in_order within
few-instructions s vol t a r = leb-true _ _ (both_left _ _ (both_left _ _ (both_right _ _ r.good.terms)))

pub few-ran : (s : Setting) (vol : Volume) (t : Turn) (a : List ℕ) → Runs s vol t a → going s.terms t.progress ≡ true → t.progress.ran < 32
unfolding going
few-ran s vol t a r g =
    let below : t.progress.ran < s.terms.head.count = ltb-true _ _ (both_right _ _ g) in
    omega (arith, few-instructions s vol t a r)

module _ (s : Setting) (vol : Volume) (a : List ℕ) (k : ℕ) where
  -- a turn that is ready is the run's first
  turns : (n : ℕ) (t : Turn) → left s t ≤ n → ready s k t ≡ true → runs s vol a k n t ≡ runs s vol a k n (step s vol a t)
  turns zero t h r = never (sym r ∙ none_left s k t (omega arith))
  turns (suc n) t h r =
      let d = step_left s vol a k t r in
      runs-go s vol a k n t r ∙ sym (runs-enough s vol a k n (step s vol a t) (omega arith))

  -- the turn reached from t₀ when so many have run
  pub record Reached (t₀ t : Turn) : Type 0 where
    pub ends : run s vol a k t₀ ≡ run s vol a k t
    pub kept : Runs s vol t a

  pub steps : (t : Turn) → Runs s vol t a → ready s k t ≡ true → Steps s vol t a
  steps t r h = record {
    solid = r.solid;
    good = r.good;
    going = ready-going s k t h;
    input = r.input;
    stage = r.stage;
    output = r.output;
    way = r.way;
    diskroots = r.diskroots;
    stageroots = r.stageroots;
  }

  pub further : (t₀ t : Turn) {u : Turn} → Reached t₀ t → ready s k t ≡ true → u ≡ step s vol a t → Reached t₀ u
  unfolding run step turned
  further t₀ t x h e =
      let r = x.kept in
      let same = stepped-alike s vol (current s t) (inputs_of (current s t) a) t in
      subst (Reached t₀) (sym e) (record {
        ends = x.ends ∙ turns s.terms.head.count t (left-most s t) h;
        kept = record {
          solid = r.solid;
          good = stepped-good s vol (current s t) (inputs_of (current s t) a) t r.solid.lent (ready-going s k t h) r.good;
          input = r.input;
          stage = same.stage ∙ r.stage;
          output = same.output ∙ r.output;
          way = r.way;
          diskroots = r.diskroots;
          stageroots = same.roots ∙ r.stageroots;
        };
      })

  pub fewer : (t : Turn) {u : Turn} → ready s k t ≡ true → u ≡ step s vol a t → left s u < left s t
  fewer t h e = subst (λ (u : Turn). left s u < left s t) (sym e) (step_left s vol a k t h)

  pub ended : (t₀ t : Turn) → Reached t₀ t → ready s k t ≡ false → t ≡ run s vol a k t₀
  unfolding run
  ended t₀ t x h = sym (runs-stop s vol a k s.terms.head.count t h) ∙ sym x.ends
