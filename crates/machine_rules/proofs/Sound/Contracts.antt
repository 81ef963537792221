-- Making a host, forming, dropping and opening look at no root, and leave a sound host sound. Assumes nothing.
use Rattle.lists.proofs.Kit.{◌≡◌, refl, ap, ◌∙◌, Bool, true, false, not, List, [], ◌∷◌, ◌++◌, ℕ, zero, suc, replicate, eqb}
use Rattle.lists.specs.Pick.{pick}
use Rattle.lists.specs.Tests.{every, each}
use Rattle.lists.proofs.Laws.Pick.{by, picks, skips, both_right, both-join, or_right}
use Rattle.lists.proofs.Laws.Ways.{either_way}
use Rattle.lists.proofs.Laws.Every.{every-and, every-fore, every-aft}
use Rattle.area.specs.Little.{Bytes}
use Rattle.sia.specs.Encode.{joined}
use Rattle.sia.specs.Decode.{decode}
use Rattle.host.proofs.Laws.Whose.{none_bare, new-bare}
use Rattle.host.specs.Empty.{none, no_place, new_place, no_program, bare, started}
use Rattle.host.specs.With.{with_places, with_program}
use Rattle.host.specs.Places.{has_id, committed, taken}
use Rattle.host.specs.Calls.{freshed, formed_at, formed, replaced, dropped}
use Rattle.host.specs.Calls as Contracts
use Rattle.machine_rules.specs.Sound.{right, staged_right, roots_right, sound}
use Rattle.machine_rules.specs.Calls.{answered, begun, opened_head, opened}
use Rattle.machine_rules.specs.Visit.{Declared}
use Rattle.machine_rules.proofs.Forming.{forming, dropping}
use Rattle.machine_rules.proofs.Making.{making}
use Rattle.machine_rules.proofs.Ordering.{opening as opening-order}
use Rattle.machine_rules.proofs.Sound.Parts.{sound-order, sound-disk}
use Rattle.host.specs.declared.Host.{Host}
use Rattle.host.specs.declared.Place.{Place}
use Rattle.host.specs.declared.Prices.{Prices}
use Rattle.host.specs.Calls.{Made}
use Rattle.sia.specs.declared.Head.{Head}
use Rattle.machine_rules.specs.Calls.{Answer}

-- ---- the calls that look at no root

module _ (z : ℕ) (p : ℕ → Bool) where
  every-formed : (id : List ℕ) (ps : List Place) → every p (taken z ps) ≡ true → every p (taken z (formed_at id ps)) ≡ true
  unfolding formed_at taken joined
  every-formed id [] h = h
  every-formed id (q ∷ ps) h =
      by q.held
      (λ e. ap (λ (l : List Place). every p (joined (committed z) l)) (picks q.held (q ∷ formed_at id ps) (new_place id ∷ ps) e)
      ∙ every-and p (committed z q) _ (every-fore p (committed z q) _ h) (every-formed id ps (every-aft p (committed z q) _ h)))
      (λ e. ap (λ (l : List Place). every p (joined (committed z) l)) (skips q.held (q ∷ formed_at id ps) (new_place id ∷ ps) e)
      ∙ ap (λ (l : List ℕ). every p (l ++ joined (committed z) ps)) (new-bare z id) ∙ every-aft p (committed z q) _ h)

  every-dropped : (id : List ℕ) (ps : List Place) → every p (taken z ps) ≡ true → every p (taken z (replaced id no_place ps)) ≡ true
  unfolding replaced each taken joined
  every-dropped id [] h = h
  every-dropped id (q ∷ ps) h =
      by (has_id id q)
      (λ e. ap (λ (x : Place). every p (committed z x ++ taken z (replaced id no_place ps))) (picks (has_id id q) no_place q e)
      ∙ ap (λ (l : List ℕ). every p (l ++ taken z (replaced id no_place ps))) (none_bare z) ∙ every-dropped id ps (every-aft p (committed z q) _ h))
      (λ e. ap (λ (x : Place). every p (committed z x ++ taken z (replaced id no_place ps))) (skips (has_id id q) no_place q e)
      ∙ every-and p (committed z q) _ (every-fore p (committed z q) _ h) (every-dropped id ps (every-aft p (committed z q) _ h)))

none-staged : (z : ℕ) (stage copies : List ℕ) (n : ℕ) → staged_right z stage copies (replicate n none) ≡ true
unfolding staged_right every
none-staged z stage copies zero = refl
none-staged z stage copies (suc n) = both-join _ _ (picks (eqb none none) true _ refl) (none-staged z stage copies n)

bare-right : (z d s : ℕ) (disk stage : List ℕ) → roots_right disk (bare z d s) stage ≡ true
unfolding roots_right bare taken joined committed no_place no_program pick every
bare-right z d s disk stage = refl

fresh-right : (z d s : ℕ) (disk stage : List ℕ) → roots_right disk (freshed z d s).host stage ≡ true
unfolding freshed
fresh-right z d s disk stage =
    let or = either_way (λ (r : Made). roots_right disk r.host stage ≡ true) in
    let no : Made = Contracts.answered 2 (bare 0 0 0) in
    or _ no _ (λ _. bare-right 0 0 0 disk stage) (λ _. or _ no _ (λ _. bare-right 0 0 0 disk stage)
    (λ _. or _ no _ (λ _. bare-right 0 0 0 disk stage) (λ _. bare-right _ _ _ disk stage)))

with-right : (disk : List ℕ) (h : Host) (stage : List ℕ) (ps : List Place) → h.program.active ≡ false
    → every (right h.sector disk h.diskroots) (taken h.sector ps) ≡ true → roots_right disk (with_places h ps) stage ≡ true
unfolding roots_right with_places
with-right disk h stage ps idle d = both-join _ _ d (picks (not h.program.active) true _ (ap not idle))

module _ (disk : List ℕ) (h : Host) (stage : List ℕ) (fine : sound disk h stage ≡ true) where
  roots-fine : roots_right disk h stage ≡ true
  unfolding sound
  roots-fine = both_right _ _ fine

  abbrev Keeps : Made → Type 0
  Keeps r = roots_right disk r.host stage ≡ true

  keeps-refused : (b : Bool) (n : ℕ) (rest : Made) → (b ≡ false → Keeps rest) → Keeps (pick b (Contracts.answered n h) rest)
  keeps-refused b n rest f = either_way Keeps b (Contracts.answered n h) rest (λ _. roots-fine) f

  pub formed-sound : (id : List ℕ) → sound disk (formed h id).host stage ≡ true
  unfolding sound formed
  formed-sound id =
      both-join _ _ (forming h id (sound-order disk h stage fine))
      (keeps-refused _ 1 _ (λ _. keeps-refused _ 3 _ (λ idle. keeps-refused _ 5 _ (λ _. keeps-refused _ 15 _ (λ _.
      keeps-refused _ 6 _ (λ _. keeps-refused _ 8 _ (λ _.
      with-right disk h stage (formed_at id h.places) idle (every-formed h.sector _ id h.places (sound-disk disk h stage fine)))))))))

  pub dropped-sound : (id : List ℕ) → sound disk (dropped h id).host stage ≡ true
  unfolding sound dropped
  dropped-sound id =
      both-join _ _ (dropping h id (sound-order disk h stage fine))
      (keeps-refused _ 1 _ (λ _. keeps-refused _ 3 _ (λ idle. keeps-refused _ 5 _ (λ _. keeps-refused _ 7 _ (λ _.
      with-right disk h stage (replaced id no_place h.places) idle (every-dropped h.sector _ id h.places (sound-disk disk h stage fine)))))))

  abbrev Opens : Answer → Type 0
  Opens r = roots_right disk r.host stage ≡ true

  opens-refused : (b : Bool) (n : ℕ) (rest : Answer) → (b ≡ false → Opens rest) → Opens (pick b (answered n 0 h) rest)
  opens-refused b n rest f = either_way Opens b (answered n 0 h) rest (λ _. roots-fine) f

  begun-right : (hd : Head) (budget : ℕ) (p : Prices) (room : ℕ) → roots_right disk (with_program h (begun h hd budget p room)) stage ≡ true
  unfolding roots_right with_program begun started
  begun-right hd budget p room = both-join _ _ (sound-disk disk h stage fine) (or_right _ _ (none-staged h.sector stage h.stageroots 64))

  pub opened-sound : (bytes : List ℕ) (budget : ℕ) (p : Prices) (room : ℕ) → Declared h → Bytes bytes
      → sound disk (opened h bytes budget p room).host stage ≡ true
  unfolding sound opened opened_head
  opened-sound bytes budget p room shape bs =
      both-join _ _ (opening-order h bytes budget p room shape bs (sound-order disk h stage fine))
      (opens-refused _ 1 _ (λ _. opens-refused _ 2 _
      (λ _. opens-refused _ 3 _ (λ _. opens-refused _ _ _ (λ _. opens-refused _ 7 _ (λ _. opens-refused _ 11 _ (λ _.
      begun-right (decode bytes).head budget p room)))))))

pub fresh-sound : (z d s : ℕ) (disk stage : List ℕ) → (freshed z d s).number ≡ 0 → sound disk (freshed z d s).host stage ≡ true
unfolding sound
fresh-sound z d s disk stage n = both-join _ _ (making z d s n) (fresh-right z d s disk stage)
