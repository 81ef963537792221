-- Opening under new ids: the head is the same but for its contract, which is found where the old one was. Assumes nothing.
use Rattle.lists.proofs.Kit.{◌≡◌, refl, sym, ap, ap₂, ◌∙◌, Bool, false, not, List, ◌++◌, ℕ, take, drop, eqb, not-false, eqb-true}
use Rattle.lists.specs.Pick.{pick, both}
use Rattle.lists.proofs.Laws.Ways.{down}
use Rattle.area.specs.Area.{same}
use Rattle.sia.specs.Names.{read_only}
use Rattle.sia.specs.Decode.{decode}
use Rattle.host.specs.Empty.{started}
use Rattle.host.specs.With.{with_program}
use Rattle.host.specs.Places.{whose}
use Rattle.machine_rules.specs.Calls.{answered, begun, opened_head, opened}
use Rattle.machine_rules.specs.Visit.{Opening, opens}
use Rattle.host.specs.Renaming.{Renaming, host_as}
use Rattle.machine_rules.specs.Renaming.{opening_as}
use Rattle.host.proofs.Renaming.Places.{word-as, whose-as, in-order-as}
use Rattle.machine_rules.proofs.Renaming.Heads.{head_of, number-as, decode-as, contract-is}
use Rattle.sia.specs.declared.Head.{Head}
use Rattle.host.specs.declared.Place.{Place}
use Rattle.host.specs.declared.Prices.{Prices}
use Rattle.host.specs.declared.Host.{Host}
use Rattle.machine_rules.specs.Calls.{Answer}
use Rattle.host.proofs.Renaming.Contracts.{active-as, whose-places}

module _ (r : List ℕ → List ℕ) (new : Renaming r) where
  -- ---- opening

  unfoldable pub opened_as : Answer → Answer
  opened_as x = answered x.number x.tally (host_as r x.host)

  abbrev head_as : Head → Head
  head_as d = head_of (r d.contract) d

  opened-not : (n : ℕ) (h : Host) → answered n 0 (host_as r h) ≡ opened_as (answered n 0 h)
  unfolding opened_as
  opened-not n h = refl

  begun-as : (h : Host) (d : Head) (budget : ℕ) (prices : Prices) (room : ℕ)
      → answered 0 prices.init (with_program (host_as r h) (begun (host_as r h) (head_as d) budget prices room))
      ≡ opened_as (answered 0 prices.init (with_program h (begun h d budget prices room)))
  unfolding opened_as with_program host_as begun started pick
  begun-as h d budget prices room = rw (whose-as r new d.contract h.places)

  -- the head counts where it has no fault
  opened-head-as : (h : Host) (fault : ℕ) (d d' : Head) (budget : ℕ) (prices : Prices) (room : ℕ) → (fault ≡ 0 → d' ≡ head_as d)
      → opened_head (host_as r h) fault d' budget prices room ≡ opened_as (opened_head h fault d budget prices room)
  unfolding opened_head
  opened-head-as h fault d d' budget prices room e =
      let is : not (eqb fault 0) ≡ false → d' ≡ head_as d = λ n. e (eqb-true fault 0 (not-false _ n)) in
      down opened_as _ _ _ _ _ _ (ap not (in-order-as r new h)) (λ _. opened-not 1 h) (λ _.
      down opened_as _ _ _ _ _ _ refl (λ _. opened-not 2 h) (λ _.
      down opened_as _ _ _ _ _ _ (active-as r new h) (λ _. opened-not 3 h) (λ _.
      down opened_as _ _ _ _ _ _ refl (λ _. opened-not fault h) (λ n.
      down opened_as _ _ _ _ _ _
      (ap (λ (x : Head). both (not (same x.contract read_only)) (not (whose x.contract (host_as r h).places).held)) (is n)
      ∙ ap₂ (λ (b : Bool) (p : Place). both (not b) (not p.held)) (word-as r new d.contract) (whose-places r new h d.contract))
      (λ _. opened-not 7 h) (λ _.
      down opened_as _ _ _ _ _ _ refl (λ _. opened-not 11 h) (λ _.
      ap (λ (x : Head). answered 0 prices.init (with_program (host_as r h) (begun (host_as r h) x budget prices room))) (is n)
      ∙ begun-as h d budget prices room))))))

  pub opening-as : (h : Host) (o : Opening) → opens (host_as r h) (opening_as r o) ≡ opened_as (opens h o)
  unfolding opened
  opening-as h o =
      let id = r (take 32 o.bytes) in
      let long = new.long (take 32 o.bytes) in
      let bs = o.bytes in
      ap (λ (n : ℕ). opened_head (host_as r h) n (decode (id ++ drop 32 bs)).head o.budget o.prices o.room) (number-as id bs long)
      ∙ opened-head-as h (decode bs).number (decode bs).head _ o.budget o.prices o.room (λ e.
      decode-as id bs long e ∙ ap (λ (x : List ℕ). head_of (r x) (decode bs).head) (sym (contract-is bs e)))
