-- `machine::opening::open` meets its contract: a walk down the definition, a test at each step. Assumes nothing.
use Rattle.lists.proofs.Kit.{◌≡◌, refl, sym, ap, ap₂, ◌∙◌, true, false, not, List, ℕ, ◌+◌, ◌≤◌, arith, ltb, eqb, ne_eqb, lt-ltb, le-ltb}
use Rattle.lists.specs.Pick.{pick, both}
use Rattle.lists.proofs.Laws.Pick.{yes, no}
use Rattle.area.specs.Area.{same}
use Rattle.sia.specs.Names.{read_only}
use Rattle.sia.specs.Empty.{no_head}
use Rattle.sia.specs.Decode.{Told, told, decode}
use Rattle.sia.specs.declared.Head.{Head}
use Rattle.host.specs.Empty.{started}
use Rattle.host.specs.With.{with_program}
use Rattle.host.specs.Places.{whose}
use Rattle.host.specs.Order.{in_order}
use Rattle.host.specs.Refusals.{number_of}
use Rattle.host.proofs.Laws.Refusals.{number-not}
use Rattle.host.specs.declared.Place.{Place}
use Rattle.host.specs.declared.Prices.{Prices}
use Rattle.host.specs.declared.Progress.{Progress}
use Rattle.host.specs.declared.Host.{Host}
use Rattle.machine_rules.specs.Calls.{Answer, answered, room_right, begun, opened_head, opened}
use Rattle.machine.proofs.opening.open.Goals as goal

module _ (h : Host) (bytes : List ℕ) (budget : ℕ) (prices : Prices) (room : ℕ) where
  -- ---- what is left of the definition once a head is read: its fault, then 7, then 11
  abbrev paid : Head → Answer
  paid head = pick (ltb budget prices.init) (answered 11 0 h) (answered 0 prices.init (with_program h (begun h head budget prices room)))

  abbrev held : Head → Answer
  held head = pick (both (not (same head.contract read_only)) (not (whose head.contract h.places).held)) (answered 7 0 h) (paid head)

  abbrev read : Told → Answer
  read t = pick (not (eqb t.number 0)) (answered t.number 0 h) (held t.head)

  -- ---- where the code goes on, the definition does
  past-1 : (rest : Answer) {r : Answer} → not (in_order h) ≡ false → r ≡ rest → r ≡ pick (not (in_order h)) (answered 1 0 h) rest
  past-1 rest o e = no _ _ _ o e

  past-3 : {r : Answer} → not (in_order h) ≡ false → not (room_right room) ≡ false → h.program.active ≡ false
      → r ≡ read (decode bytes) → r ≡ opened h bytes budget prices room
  unfolding opened opened_head
  past-3 o w idle e = no _ _ _ o (no _ _ _ w (no _ _ _ idle e))

  -- of a head that was read
  past-4 : {r : Answer} (head : Head) → not (in_order h) ≡ false → not (room_right room) ≡ false → h.program.active ≡ false
      → told 0 head ≡ decode bytes → r ≡ held head → r ≡ opened h bytes budget prices room
  past-4 head o w idle d e = past-3 o w idle (no _ _ _ refl e ∙ ap read d)

pub returns-then-not-in_order : goal.returns-then-not-in_order
unfolding opened opened_head
returns-then-not-in_order c = yes _ _ _ (ap not (sym c.if-not-in_order.ensures)) refl

pub returns-then-not-room_right : goal.returns-then-not-room_right
unfolding opened opened_head
returns-then-not-room_right c =
    no _ _ _ (ap not (sym c.if-not-in_order.ensures)) (yes _ _ _ (ap not (sym c.if-not-room_right.ensures)) refl)

pub returns-then-host : goal.returns-then-host
unfolding opened opened_head
returns-then-host c =
    no _ _ _ (ap not (sym c.if-not-in_order.ensures))
    (no _ _ _ (ap not (sym c.if-not-room_right.ensures)) (yes _ _ _ c.if-host.true refl))

pub returns-in-Err : goal.returns-in-Err
returns-in-Err c =
    let a = c.args in
    let same-number : number_of c.unread.result ≡ (decode a.bytes.now).number =
    c.unread.ensures ∙ ap (λ (t : Told). t.number) c.in-Err.ensures in
    past-3 a.host a.bytes.now a.budget a.prices a.room (ap not (sym c.if-not-in_order.ensures)) (ap not (sym c.if-not-room_right.ensures)) c.if-host.false
    (yes _ _ _ (ap not (ne_eqb _ 0 (λ z. number-not c.unread.result (same-number ∙ z)))) (ap (λ (n : ℕ). answered n 0 a.host) same-number))

pub returns-then-absent : goal.returns-then-absent
returns-then-absent c =
    let a = c.args in
    past-4 a.host a.bytes.now a.budget a.prices a.room c.in-Ok.head (ap not (sym c.if-not-in_order.ensures)) (ap not (sym c.if-not-room_right.ensures))
    c.if-host.false c.in-Ok.ensures (yes _ _ _ (sym c.if-absent.ensures) refl)

pub returns-then-budget-tally : goal.returns-then-budget-tally
returns-then-budget-tally c =
    let a = c.args in
    past-4 a.host a.bytes.now a.budget a.prices a.room c.in-Ok.head (ap not (sym c.if-not-in_order.ensures)) (ap not (sym c.if-not-room_right.ensures))
    c.if-host.false c.in-Ok.ensures
    (no _ _ _ (sym c.if-absent.ensures)
    (yes _ _ _ (lt-ltb a.budget a.prices.init (omega (arith, c.from-tally.ensures, c.if-budget-tally.true))) refl))

pub returns : goal.returns
unfolding with_program begun
returns c =
    let a = c.args in
    let made : ℕ → Progress → Answer = λ n p.
    answered 0 n (with_program a.host (record {
      active = true;
      terms = record { head = c.in-Ok.head; prices = a.prices; budget = a.budget; room = a.room };
      came = 0;
      progress = p;
    })) in
    past-4 a.host a.bytes.now a.budget a.prices a.room c.in-Ok.head (ap not (sym c.if-not-in_order.ensures)) (ap not (sym c.if-not-room_right.ensures))
    c.if-host.false c.in-Ok.ensures
    (no _ _ _ (sym c.if-absent.ensures)
    (no _ _ _ (le-ltb a.budget a.prices.init (omega (arith, c.from-tally.ensures, c.if-budget-tally.false)))
    (ap (made c.from-tally.result) c.started.ensures
    ∙ ap₂ (λ (n : ℕ) (p : Place). made n (started n p.size)) c.from-tally.ensures c.place_of-parent.ensures)))
