-- The refusal of a call on the open program, under new ids: what it lends is as long as before. Assumes nothing.
use Rattle.lists.proofs.Kit.{◌≡◌, refl, ap, ap₂, ◌∙◌, Bool, true, not, List, ℕ, length, eqb}
use Rattle.lists.specs.Pick.{pick, both, either}
use Rattle.lists.proofs.Laws.Pick.{by, picks, skips}
use Rattle.machine_rules.specs.View.{disk_right, areas_right}
use Rattle.machine_rules.specs.Calls.{input_right, output_right, piece_lent, interrupt_lent, refusal}
use Rattle.host.specs.Renaming.{Renaming, terms_as, host_as}
use Rattle.host.proofs.Renaming.Places.{terms-as, in-order-as}
use Rattle.host.proofs.Renaming.Contracts.{active-as}
use Rattle.host.specs.declared.Terms.{Terms}
use Rattle.host.specs.declared.Host.{Host}

module _ (r : List ℕ → List ℕ) (new : Renaming r) where
  -- ---- an open program

  pub terms-of : (h : Host) → h.program.active ≡ true → (host_as r h).program.terms ≡ terms_as r h.program.terms
  unfolding host_as
  terms-of h e = terms-as r new h.program e

  -- what is not an id is as it was, open or not
  pub still-as : {A : Type 0} (f : Terms → A) (h : Host) → f (terms_as r h.program.terms) ≡ f h.program.terms
      → f (host_as r h).program.terms ≡ f h.program.terms
  unfolding host_as
  still-as f h e =
      by h.program.active
      (λ live. ap f (picks h.program.active (terms_as r h.program.terms) h.program.terms live) ∙ e)
      (λ idle. ap f (skips h.program.active (terms_as r h.program.terms) h.program.terms idle))

  -- ---- what is lent

  disk-as : (h : Host) (disk : List ℕ) → disk_right (host_as r h) disk ≡ disk_right h disk
  unfolding disk_right host_as
  disk-as h disk = refl

  pub areas-as : (h : Host) (disk stage : List ℕ) → areas_right (host_as r h) disk stage ≡ areas_right h disk stage
  unfolding areas_right disk_right host_as
  areas-as h disk stage = refl

  output-as : (h : Host) (output : List ℕ) → output_right (host_as r h) output ≡ output_right h output
  unfolding output_right
  output-as h output = ap (eqb (length output)) (still-as (λ (t : Terms). t.room) h refl)

  input-as : (h : Host) (input other : List ℕ) → length other ≡ length input → input_right (host_as r h) other ≡ input_right h input
  unfolding input_right
  input-as h input other long = ap₂ eqb long (still-as (λ (t : Terms). t.head.length) h refl)

  -- 1, 2 and 4
  pub refusal-as : (h : Host) (lent lent' : Bool) → lent' ≡ lent → refusal (host_as r h) lent' ≡ refusal h lent
  unfolding refusal
  refusal-as h lent lent' e =
      ap₂ (λ (o live : Bool). pick (not o) 1 (pick (not lent') 2 (pick (not live) 4 0))) (in-order-as r new h) (active-as r new h)
      ∙ ap (refusal h) e

  pub interrupt-lent-as : (h : Host) (disk output : List ℕ) → interrupt_lent (host_as r h) disk output ≡ interrupt_lent h disk output
  unfolding interrupt_lent
  interrupt-lent-as h disk output =
      ap₂ both (disk-as h disk) (ap₂ (λ (a b : Bool). either (not a) b) (active-as r new h) (output-as h output))

  pub piece-lent-as : (h : Host) (disk stage input other output : List ℕ) → length other ≡ length input
      → piece_lent (host_as r h) disk stage other output ≡ piece_lent h disk stage input output
  unfolding piece_lent
  piece-lent-as h disk stage input other output long =
      ap₂ both (areas-as h disk stage)
      (ap₂ (λ (a b : Bool). either (not a) b) (active-as r new h) (ap₂ both (input-as h input other long) (output-as h output)))
