-- What `||` and `&&` answer, by their first part, in our words. Assumes nothing.
use Rattle.lists.proofs.Kit.{◌≡◌, sym, ◌∙◌, Bool, true, false}
use Rattle.lists.specs.Pick.{both, either}
use Rattle.lists.proofs.Laws.Pick.{picks, skips}

module _ (a b : Bool) where
  pub or-left : a ≡ true → a ≡ either a b
  or-left e = e ∙ sym (picks a true b e)

  pub or-right : a ≡ false → b ≡ either a b
  or-right e = sym (skips a true b e)

  pub and-left : a ≡ false → a ≡ both a b
  and-left e = e ∙ sym (skips a b false e)

  pub and-right : a ≡ true → b ≡ both a b
  and-right e = sym (picks a b false e)
