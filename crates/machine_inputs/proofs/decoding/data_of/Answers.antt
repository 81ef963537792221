-- `machine_inputs::decoding::data_of` meets its contract: fewer than 8 bytes, another count, or the length of the rest. Assumes nothing.
use Rattle.lists.proofs.Kit.{refl, lt-leb}
use Rattle.lists.proofs.Laws.Pick.{no, both-not-left}
use Rattle.machine_rules.specs.Inputs.{is_data}
use Rattle.machine_inputs.specs.Given.{data_of}
use Rattle.machine_inputs.proofs.Laws.Decoders.{data-other, data-right}
use Rattle.machine_inputs.proofs.decoding.data_of.Goals as goal

pub returns-then-told-rest : goal.returns-then-told-rest
returns-then-told-rest c =
    data-other c.args.part.now _ c.if-part-lt8.false c.load-told.ensures c.if-told-rest.true

pub returns : goal.returns
returns c =
    data-right c.args.part.now _ c.if-part-lt8.false c.load-told.ensures c.if-told-rest.false

pub returns-then-part-lt8 : goal.returns-then-part-lt8
unfolding data_of is_data
returns-then-part-lt8 c = no _ _ _ (both-not-left _ _ (lt-leb _ _ c.if-part-lt8.true)) refl
