-- Order is kept by every call: each goes down its chain of cases, where a refusal leaves the host as it was.
-- An opening fits because slots are distinct and below the disk. Assumes nothing.
use Rattle.lists.proofs.Kit.{◌≡◌, refl, sym, ap, ◌∙◌, Bool, true, false, not, List, [], ℕ, ◌+◌, ◌/◌, ◌≤◌, le_trans, mul-le-mul_right, arith, length, take}
use Rattle.lists.proofs.Kit.{replicate, length-take, drop_of_length-le, eqb, not-false, leb-true, le-leb, ltb-false, eqb-true, eq-eqb}
use Rattle.lists.specs.Pick.{pick, both, either}
use Rattle.lists.specs.Tests.{every, some, apart}
use Rattle.lists.proofs.Laws.Pick.{by, picks, skips, both_left, both_right, both-join}
use Rattle.lists.proofs.Laws.Ways.{either_way}
use Rattle.lists.proofs.Laws.Every.{every_drop}
use Rattle.lists.proofs.Laws.Pigeons.{pigeons}
use Rattle.area.specs.Area.{same, put}
use Rattle.area.specs.Little.{Bytes}
use Rattle.sia.specs.Names.{read_only}
use Rattle.sia.specs.Encode.{within}
use Rattle.sia.specs.Decode.{told, decode}
use Rattle.sia.proofs.Theorems.{read-within}
use Rattle.host.specs.Empty.{none, no_program, started}
use Rattle.host.specs.With.{with_program}
use Rattle.host.specs.Places.{whose, taken}
use Rattle.host.specs.Order.{slot_in_order, clash, parent_in_order, terms_in_order, progress_in_order, program_in_order, in_order}
use Rattle.host.specs.Facts.{Staged}
use Rattle.host.specs.Calls.{formed, dropped}
use Rattle.host.proofs.Laws.Order.{order-facts, facts-staged, came-within}
use Rattle.machine_rules.specs.View.{turn_of, setting_of, volume_by, volume_of}
use Rattle.machine_rules.specs.Run.{failing, going, run, turned}
use Rattle.machine_rules.specs.Calls.{room_right, begun, opened_head, opened, Pieced, accepted, piece, Interrupted, stopped, interrupt}
use Rattle.machine_rules.specs.Calls.{accepted_by, piece_by, interrupt_by, stopped_by, reached_by}
use Rattle.machine_rules.specs.Commit.{Closed, given_up, close, agreed_by, close_by}
use Rattle.machine_rules.specs.Visit.{Areas, Opening, Agreement, opens, gives, stops, closes, Declared}
use Rattle.machine_rules.specs.Outcome.{Refused}
use Rattle.machine_rules.proofs.Forming.{forming, dropping}
use Rattle.machine_rules.proofs.Laws.Sizes.{sizes, whose-whole, read-only-size}
use Rattle.machine_rules.proofs.Laws.Steps.{not-failed}
use Rattle.machine_rules.proofs.Laws.Kept.{failed-good, runs-good}
use Rattle.machine_rules.proofs.Laws.Taking.{order-lent, order-good, good-order}
use Rattle.machine_rules.proofs.Committing.{commit-order}
use Rattle.sia.specs.declared.Head.{Head}
use Rattle.machine_rules.proofs.Laws.Refusals.{past, broken, broken-stops}
use Rattle.host.specs.declared.Prices.{Prices}
use Rattle.host.specs.declared.Program.{Program}
use Rattle.host.specs.declared.Host.{Host}
use Rattle.host.specs.Calls.{Made}
use Rattle.machine_rules.specs.Calls.{Answer}
use Rattle.machine_rules.specs.Calls.{Reached}

-- ---- opening

-- nothing staged is in order
fresh-staged : (stage start : ℕ) → Staged stage start start (replicate 64 none)
unfolding every apart some slot_in_order clash pick
fresh-staged stage start =
    record {
      slots = refl;
      own = refl;
      below = every_drop (λ n. eqb n none) start (replicate 64 none) refl;
      past = ap (λ (l : List ℕ). every (λ n. not (eqb n none)) l) (drop_of_length-le (take start (replicate 64 none)) {i = start}
          (omega (arith, length-take start (replicate 64 none))));
    }

parent-held : (b c : Bool) → b ≡ false → both (not b) (not c) ≡ false → c ≡ true
parent-held b c e f = not-false c (sym (picks (not b) (not c) false (ap not e)) ∙ f)

begun-good : (h : Host) (hd : Head) (budget : ℕ) (p : Prices) (room : ℕ) → Declared h → in_order h ≡ true → within hd ≡ true → room_right room ≡ true
    → both (not (same hd.contract read_only)) (not (whose hd.contract h.places).held) ≡ false → p.init ≤ budget
    → program_in_order h.sector h.disk h.stage h.places (begun h hd budget p room) ≡ true
unfolding program_in_order terms_in_order parent_in_order room_right begun started progress_in_order
begun-good h hd budget p room sound o hh right held paid =
    let id = hd.contract in
    let ps = (order-facts h o).contracts in
    let each-place = ps.each in
    let few = pigeons h.disk (taken h.sector h.places) ps.own ps.below in
    let fits = sizes h.sector id h.places each-place sound.places in
    both-join _ _
    (both-join _ _
    (by (same id read_only)
    (λ e. picks (same id read_only) _ _ e ∙ eq-eqb _ 0 (read-only-size h.sector id h.places each-place e))
    (λ e. skips (same id read_only) _ _ e ∙ parent-held (same id read_only) _ e held))
    (both-join _ _ hh right))
    (both-join _ _ (le-leb 0 hd.length (omega arith))
    (both-join _ _ (le-leb 0 hd.count (omega arith))
    (both-join _ _ (le-leb _ _ paid)
    (both-join _ _ (le-leb (0 + pick false 0 72) room (omega (arith, leb-true 72 room (both_left _ _ right), skips {A = ℕ} false 0 72 refl)))
    (both-join _ _ (eq-eqb _ _ (whose-whole h.sector id h.places each-place))
    (both-join _ _ (le-leb _ _ (le_trans fits (mul-le-mul_right {m = length (taken h.sector h.places)} {n = h.disk} h.sector few)))
    (facts-staged _ _ _ _ (fresh-staged h.stage ((whose id h.places).size / h.sector)))))))))

-- a host in order with another program that is in order, or none
with-program : (h : Host) (g : Program) → in_order h ≡ true → either (not g.active) (program_in_order h.sector h.disk h.stage h.places g) ≡ true
    → in_order (with_program h g) ≡ true
unfolding in_order with_program
with-program h g o e =
    let b = both_right _ _ o in
    let c = both_right _ _ b in
    both-join _ _ (both_left _ _ o) (both-join _ _ (both_left _ _ b) (both-join _ _ (both_left _ _ c) (both-join _ _ (both_left _ _ (both_right _ _ c)) e)))

read_head : (bytes : List ℕ) → Bytes bytes → (decode bytes).number ≡ 0 → within (decode bytes).head ≡ true
read_head bytes b e = read-within bytes b (decode bytes).head (ap (λ (n : ℕ). told n (decode bytes).head) e)

begun-order : (h : Host) (hd : Head) (budget : ℕ) (p : Prices) (room : ℕ) → in_order h ≡ true
    → program_in_order h.sector h.disk h.stage h.places (begun h hd budget p room) ≡ true → in_order (with_program h (begun h hd budget p room)) ≡ true
unfolding begun
begun-order h hd budget p room o g = with-program h (begun h hd budget p room) o (skips (not true) true _ refl ∙ g)

pub opening : (h : Host) (bytes : List ℕ) (budget : ℕ) (p : Prices) (room : ℕ) → Declared h → Bytes bytes → in_order h ≡ true
    → in_order (opened h bytes budget p room).host ≡ true
unfolding opened opened_head
opening h bytes budget p room sound bs o =
    let way = either_way (λ (r : Answer). in_order r.host ≡ true) in
    way _ _ _ (λ _. o) (λ _. way _ _ _ (λ _. o)
    (λ right. way _ _ _ (λ _. o) (λ _. way _ _ _ (λ _. o) (λ fault. way _ _ _ (λ _. o) (λ held. way _ _ _ (λ _. o) (λ paid.
    begun-order h (decode bytes).head budget p room o
    (begun-good h (decode bytes).head budget p room sound o (read_head bytes bs (eqb-true _ _ (not-false _ fault))) (not-false _ right) held
    (ltb-false _ _ paid))))))))

-- ---- pieces

pub accepted-order : (disk : List ℕ) (h : Host) (stage input output bytes : List ℕ) → Declared h → in_order h ≡ true → h.program.active ≡ true
    → h.program.came + length bytes ≤ h.program.terms.head.length → in_order (accepted disk h stage input output bytes).host ≡ true
unfolding accepted_by run turn_of
accepted-order disk h stage input output bytes sound o live fit =
    good-order h (h.program.came + length bytes) _ _ o fit
    (runs-good (setting_of h) (volume_of h disk) (put input h.program.came bytes) (h.program.came + length bytes)
    h.program.terms.head.count (turn_of h stage output)
    (order-lent h o) (order-good h o live sound.staged))

pieces : (disk : List ℕ) (h : Host) (stage input output bytes : List ℕ) → Declared h → in_order h ≡ true
    → in_order (piece disk h stage input output bytes).host ≡ true
unfolding piece_by
pieces disk h stage input output bytes sound o =
    let way = either_way (λ (r : Pieced). in_order r.host ≡ true) in
    way _ _ _ (λ _. o) (λ e. way _ _ _ (λ _. o) (λ fit.
    accepted-order disk h stage input output bytes sound o (past _ _ e).live (ltb-false _ _ fit)))

-- ---- interrupts

pub stopped-order : (disk : List ℕ) (h : Host) (output : List ℕ) → Declared h → in_order h ≡ true → h.program.active ≡ true
    → going h.program.terms h.program.progress ≡ true → in_order (stopped disk h output).host ≡ true
unfolding stopped_by failing turned turn_of volume_by
stopped-order disk h output sound o live g =
    good-order h h.program.came _ _ o (came-within h o live)
    (failed-good (setting_of h) h.program.progress (not-failed (setting_of h) (turn_of h [] output) g)
    (order-good h o live sound.staged))

interrupts : (disk : List ℕ) (h : Host) (output : List ℕ) → Declared h → in_order h ≡ true → in_order (interrupt disk h output).host ≡ true
unfolding interrupt_by
interrupts disk h output sound o =
    let way = either_way (λ (r : Interrupted). in_order r.host ≡ true) in
    way _ _ _ (λ _. o) (λ e. way _ _ _ (λ g. stopped-order disk h output sound o (past _ _ e).live g) (λ _. o))

-- ---- closing

pub given-up : (n : ℕ) (disk : List ℕ) (h : Host) → in_order h ≡ true → in_order (given_up n disk h).host ≡ true
unfolding given_up no_program
given-up n disk h o = with-program h no_program o (picks (not false) true _ refl)

closing : (disk : List ℕ) (h : Host) (stage : List ℕ) (agree : Bool) (size : ℕ) (root : List ℕ) → Declared h → in_order h ≡ true
    → in_order (close disk h stage agree size root).host ≡ true
unfolding close_by agreed_by
closing disk h stage agree size root sound o =
    let way = either_way (λ (r : Closed). in_order r.host ≡ true) in
    way _ _ _ (λ _. o) (λ e. way _ _ _ (λ _. given-up 0 disk h o) (λ _. way _ _ _ (λ _. o) (λ _.
    way _ _ _ (λ _. given-up 0 disk h o) (λ _.
    way _ _ _ (λ _. commit-order disk h stage sound o (past _ _ e).live) (λ _. given-up 14 disk h o)))))

-- ---- a host that is not in order

pub damaged : (h : Host) (a : Areas) → in_order h ≡ false → Refused h a
unfolding formed dropped opened opened_head piece_by interrupt_by reached_by close_by
damaged h a e = record {
  forming = λ id. ap (λ (r : Made). r.number) (picks (not (in_order h)) _ _ (ap not e));
  dropping = λ id. ap (λ (r : Made). r.number) (picks (not (in_order h)) _ _ (ap not e));
  opening = λ o. ap (λ (r : Answer). r.number) (picks (not (in_order h)) _ _ (ap not e));
  piece = λ bytes. ap (λ (r : Pieced). r.number) (picks _ _ _ (broken-stops h _ e)) ∙ broken h _ e;
  interrupt = ap (λ (r : Interrupted). r.number) (picks _ _ _ (broken-stops h _ e)) ∙ broken h _ e;
  reached = ap (λ (r : Reached). r.number) (picks _ _ _ (broken-stops h _ e)) ∙ broken h _ e;
  closing = λ g. ap (λ (r : Closed). r.number) (picks _ _ _ (broken-stops h _ e)) ∙ broken h _ e;
}

-- every call leaves a host in order that is in order
pub record Orders (h : Host) (a : Areas) : Type 0 where
  pub forming : (id : List ℕ) → in_order (formed h id).host ≡ true
  pub dropping : (id : List ℕ) → in_order (dropped h id).host ≡ true
  pub opening : (o : Opening) → Bytes o.bytes → in_order (opens h o).host ≡ true
  pub piece : (bytes : List ℕ) → in_order (gives h a bytes).host ≡ true
  pub interrupt : in_order (stops h a).host ≡ true
  pub closing : (g : Agreement) → in_order (closes h a g).host ≡ true

pub orders : (h : Host) (a : Areas) → Declared h → in_order h ≡ true → Orders h a
orders h a d order = record {
  forming = λ id. forming h id order;
  dropping = λ id. dropping h id order;
  opening = λ o bytes. opening h o.bytes o.budget o.prices o.room d bytes order;
  piece = λ bytes. pieces a.disk h a.stage a.input a.output bytes d order;
  interrupt = interrupts a.disk h a.output d order;
  closing = λ g. closing a.disk h a.stage g.agree g.size g.root d order;
}
