-- An exchange of two ids gives new ids: it undoes itself, so no two ids become one. Assumes nothing.
use Rattle.lists.proofs.Kit.{◌≡◌, sym, ap, ◌∙◌, true, false, List, ℕ, length}
use Rattle.lists.proofs.Laws.Pick.{by, picks, skips, never}
use Rattle.area.specs.Area.{same}
use Rattle.area.proofs.Laws.Same.{same_refl, same-eq, eq-same}
use Rattle.sia.specs.Names.{read_only}
use Rattle.host.specs.Renaming.{Renaming, exchanged}

-- what undoes itself keeps ids apart
undone : (r : List ℕ → List ℕ) → ((id : List ℕ) → r (r id) ≡ id) → (a b : List ℕ) → same (r a) (r b) ≡ same a b
undone r back a b =
    by (same a b)
    (λ e. eq-same _ _ (ap r (same-eq a b e)) ∙ sym e)
    (λ e. by (same (r a) (r b))
    (λ f. never (sym (eq-same a b (sym (back a) ∙ ap r (same-eq _ _ f) ∙ back b)) ∙ e))
    (λ f. f ∙ sym e))

module _ (one two : List ℕ) where
  to-two : (id : List ℕ) → same id one ≡ true → exchanged one two id ≡ two
  unfolding exchanged
  to-two id e = picks (same id one) two _ e

  to_one : (id : List ℕ) → same id one ≡ false → same id two ≡ true → exchanged one two id ≡ one
  unfolding exchanged
  to_one id e f = skips (same id one) two _ e ∙ picks (same id two) one id f

  stays : (id : List ℕ) → same id one ≡ false → same id two ≡ false → exchanged one two id ≡ id
  unfolding exchanged
  stays id e f = skips (same id one) two _ e ∙ skips (same id two) one id f

  back : (id : List ℕ) → exchanged one two (exchanged one two id) ≡ id
  back id =
      by (same id one)
      (λ e. ap (exchanged one two) (to-two id e)
      ∙ by (same two one) (λ f. to-two two f ∙ same-eq _ _ f) (λ f. to_one two f (same_refl two)) ∙ sym (same-eq _ _ e))
      (λ e. by (same id two)
      (λ f. ap (exchanged one two) (to_one id e f) ∙ to-two one (same_refl one) ∙ sym (same-eq _ _ f))
      (λ f. ap (exchanged one two) (stays id e f) ∙ stays id e f))

  as_long : length one ≡ length two → (id : List ℕ) → length (exchanged one two id) ≡ length id
  as_long l id =
      by (same id one)
      (λ e. ap length (to-two id e) ∙ sym l ∙ ap length (sym (same-eq _ _ e)))
      (λ e. by (same id two)
      (λ f. ap length (to_one id e f) ∙ l ∙ ap length (sym (same-eq _ _ f)))
      (λ f. ap length (stays id e f)))

  pub exchange : length one ≡ length two → same read_only one ≡ false → same read_only two ≡ false → Renaming (exchanged one two)
  exchange l e f = record { differ = undone (exchanged one two) back; word = stays read_only e f; long = as_long l }
