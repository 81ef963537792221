-- `sia_write::write_head` meets its contract: the limits, then the area's length, then the bytes. Assumes nothing.
use Rattle.lists.proofs.Kit.{refl, sym, ap, ◌∙◌, not, ◌≤◌, ◌<◌, arith, length, lt-ltb, le-ltb}
use Rattle.lists.proofs.Laws.Pick.{yes, no}
use Rattle.sia.specs.Encode.{left, write, encode}
use Rattle.sia_write.proofs.write_head.Goals as goal

pub returns-then-not-within : goal.returns-then-not-within
unfolding write
returns-then-not-within c = yes _ _ _ (ap not (sym c.within.ensures ∙ c.if-not-within.true)) refl

pub head_length-length-requires : goal.head_length-length-requires
head_length-length-requires c = sym c.within.ensures ∙ c.if-not-within.false

pub returns-then-out-length : goal.returns-then-out-length
unfolding write
returns-then-out-length c =
    let a = c.args in
    let short : length a.out.now < length (encode a.head) = omega (arith, c.head_length-length.ensures, c.if-out-length.true) in
    no _ _ _ (ap not (sym c.within.ensures ∙ c.if-not-within.false)) (yes _ _ _ (lt-ltb _ _ short) refl)

pub put_head-requires : goal.put_head-requires
put_head-requires c = record {
  head_value = sym c.within.ensures ∙ c.if-not-within.false;
  head_in_bounds = omega (arith, c.head_length-length.ensures, c.if-out-length.false);
}

pub returns : goal.returns
unfolding write
returns c =
    let a = c.args in
    let long : length (encode a.head) ≤ length a.out.now = omega (arith, c.head_length-length.ensures, c.if-out-length.false) in
    no _ _ _ (ap not (sym c.within.ensures ∙ c.if-not-within.false))
    (no _ _ _ (le-ltb _ _ long) (λ i. left (record { number = 0; length = c.head_length-length.ensures i }) (c.put_head.ensures i)))
