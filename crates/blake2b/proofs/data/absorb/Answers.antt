-- Assumes nothing.
use Rattle.lists.proofs.Kit.{◌≡◌, refl, sym, ap, ◌∙◌, ℕ, ◌-◌, ◌+◌, ◌*◌, ◌/◌, arith, length, drop}
use Rattle.blake2b.specs.Blake2b.{before, absorbed}
use Rattle.blake2b.proofs.Laws.Data.{of_words, absorbed-more, absorbed-last, length-padded}
use Rattle.blake2b.proofs.data.absorb.Goals as goal

pub loop-i-init : goal.loop-i-init
loop-i-init c =
    let a = c.args in
    let none : a.t ≡ a.t + 0 = omega arith in
    ap (λ (n : ℕ). absorbed (before a.message.now) n a.message.now a.h.now) none

pub loop-i-preserved : goal.loop-i-preserved
loop-i-preserved c =
    let l = c.loop-i in
    let a = c.args in
    let d = a.message.now in
    let block = of_words _ _ _ _ c.words.ensures c.compress.ensures in
    let next : 128 * l.i + 128 ≡ 128 * (l.i + 1) = omega arith in
    l.invariant
    ∙ absorbed-more d a.t _ _ (128 * l.i) (128 * l.i + 128 - 128 * l.i) _ (omega (arith, c.saturating_sub-before.ensures)) (omega arith) refl block
    ∙ ap (λ (k : ℕ). absorbed (before (drop k d)) (a.t + k) (drop k d) c.compress.new.h) next

pub returns : goal.returns
returns c =
    let l = c.loop-i in
    let a = c.args in
    let d = a.message.now in
    let block = of_words _ _ _ _ c.words-2.ensures c.compress-2.ensures in
    let all : l.i ≡ c.saturating_sub-before.result / 128 = omega arith in
    absorbed-last d a.t _ _ _ (128 * (c.saturating_sub-before.result / 128)) _ _ (omega (arith, c.saturating_sub-before.ensures))
    (omega (arith, c.saturating_sub-before.ensures)) refl refl c.padded-last.ensures block
    ∙ sym (l.invariant ∙ ap (λ (k : ℕ). absorbed (before (drop (128 * k) d)) (a.t + 128 * k) (drop (128 * k) d) l.h) all)

pub words-requires-2 : goal.words-requires-2
words-requires-2 c = ap length c.padded-last.ensures ∙ length-padded _
