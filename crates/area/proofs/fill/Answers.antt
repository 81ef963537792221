-- What is lent of the area is left as n times the byte. Assumes nothing.
use Rattle.lists.proofs.Kit.{ap, ◌∙◌, ℕ, replicate, length-replicate}
use Rattle.area.proofs.Laws.Lent.{lent_part, length_lent}
use Rattle.area.proofs.fill.Goals as goal

pub returns : goal.returns
returns c =
    let a = c.args in
    lent_part _ _ _ c.requires (length-replicate a.n a.b)
    (c.fill.ensures.after (λ y e. e) ∙ ap (λ (k : ℕ). replicate k a.b) (length_lent a.a.now a.at a.n c.requires))
