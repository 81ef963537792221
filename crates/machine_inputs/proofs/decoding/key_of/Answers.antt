-- `machine_inputs::decoding::key_of` meets its contract: 32 bytes are laid over all of 32. Assumes nothing.
use Rattle.lists.proofs.Kit.{refl, ap, true, List, ℕ, eq-eqb, ne_eqb}
use Rattle.lists.proofs.Laws.Pick.{yes, no}
use Rattle.machine_rules.specs.Inputs.{is_key}
use Rattle.machine_inputs.specs.Given.{key_of}
use Rattle.machine_inputs.proofs.decoding.key_of.Goals as goal

pub returns : goal.returns
unfolding key_of is_key
returns c = yes _ _ _ (eq-eqb _ _ c.if-part-ne32.false) (ap (λ (b : List ℕ). record { told = true; bytes = b }) c.copy_from_slice.ensures.after)

pub returns-then-part-ne32 : goal.returns-then-part-ne32
unfolding key_of is_key
returns-then-part-ne32 c = no _ _ _ (ne_eqb _ _ c.if-part-ne32.true) refl
