-- What the calls know of a host: its refusal, by the number that the code has; and what a host in order gives. Assumes nothing.
use Rattle.lists.proofs.Kit.{◌≡◌, sym, ap, ap₂, ◌∙◌, Bool, true, false, not, List, [], ℕ, ◌+◌, ◌≤◌, arith, length, eqb}
use Rattle.lists.proofs.Kit.{leb-true, not-true, eqb-true, eq-eqb, ne_eqb}
use Rattle.lists.specs.Pick.{pick}
use Rattle.lists.proofs.Laws.Pick.{yes, no, skips, both_left, both_right}
use Rattle.area.specs.Area.{put}
use Rattle.sia.specs.Encode.{within}
use Rattle.host.specs.Order.{in_order}
use Rattle.host.proofs.Laws.Order.{order-facts}
use Rattle.machine_rules.specs.View.{Turn, turn, turn_of, with_run, setting_of, volume_of}
use Rattle.machine_rules.specs.Record.{record_bytes, failure_bytes}
use Rattle.machine_rules.specs.Run.{failed_progress, failing, going, run, turned}
use Rattle.machine_rules.specs.Calls.{input_right, output_right, Pieced, pieced, accepted_by, accepted, interrupted, stopped_by, stopped}
use Rattle.machine_rules.specs.Calls.{refusal, reached_pair_by, reached_pair}
use Rattle.machine_step.proofs.Laws.Hosts.{starting-any, running-any}
use Rattle.machine.specs.Asks.{Stops}
use Rattle.host.specs.declared.Progress.{Progress}
use Rattle.machine_rules.specs.declared.Setting.{Setting}
use Rattle.host.specs.declared.Host.{Host}
use Rattle.machine_rules.specs.declared.Pair.{Pair}

-- ---- a refusal, and the code that tests it by its number

pub refusal-told : (h : Host) {ordered lent right : Bool} {r : ℕ} → r ≡ pick (not ordered) 1 (pick (not lent) 2 (pick (not h.program.active) 4 0))
    → ordered ≡ in_order h → lent ≡ right → r ≡ refusal h right
unfolding refusal
refusal-told h e p q = e ∙ ap₂ (λ (o l : Bool). pick (not o) 1 (pick (not l) 2 (pick (not h.program.active) 4 0))) p q

pub stops : {A : Type 0} {r : A} {n m : ℕ} (answer : ℕ → A) (rest : A) → m ≡ n → (m ≡ 0 → ⊥) → r ≡ answer m
    → r ≡ pick (not (eqb n 0)) (answer n) rest
stops {m = m} answer rest e some is = yes _ _ _ (ap (λ (k : ℕ). not (eqb k 0)) (sym e) ∙ ap not (ne_eqb m 0 some)) (is ∙ ap answer e)

pub goes_on : {A : Type 0} {r : A} {n m : ℕ} (refused rest : A) → m ≡ n → m ≡ 0 → r ≡ rest → r ≡ pick (not (eqb n 0)) refused rest
goes_on refused rest e none is = no _ _ _ (ap not (eq-eqb _ 0 (sym e ∙ none))) is

-- ---- what a host in order gives

-- "with 72 left unless it failed": there is room for the record of a failure
pub room-left : {output : List ℕ} (h : Host) → Stops h output → h.program.progress.written + 72 ≤ length output
unfolding output_right going
room-left {output} h s =
    let f = ((order-facts h s.order).running s.live).progress in
    let failed : h.program.progress.failed ≡ false = not-true _ (both_left _ _ s.going) in
    let long : length output ≡ h.program.terms.room = eqb-true _ _ s.output in
    omega (arith, f.fits, skips {A = ℕ} h.program.progress.failed 0 72 failed)

pub input-long : (h : Host) (input : List ℕ) → input_right h input ≡ true → length input ≡ h.program.terms.head.length
unfolding input_right
input-long h input e = eqb-true _ _ e

-- a piece, from what its functions left
pub accepted-is : (disk : List ℕ) (h : Host) (stage input output bytes : List ℕ) {area : List ℕ} {g : Progress} {st out roots : List ℕ} {k : ℕ} {s : Setting}
    → s ≡ setting_of h
    → area ≡ put input h.program.came bytes → k ≡ h.program.came + length bytes
    → turn g st out roots ≡ run s (volume_of h disk) area k (turn_of h stage output)
    → pieced 0 g.tally (with_run h k g roots) st area out ≡ accepted disk h stage input output bytes
unfolding accepted_by
accepted-is disk h stage input output bytes {area} {g} {st} {out} {roots} {k} q a e t =
    let left : ℕ → List ℕ → Turn → Pieced = λ n l x. pieced 0 x.progress.tally (with_run h n x.progress x.roots) x.stage l x.output in
    ap (left k area) (t ∙ ap (λ (s : Setting). run s (volume_of h disk) area k (turn_of h stage output)) q)
    ∙ ap₂ (λ (n : ℕ) (l : List ℕ). left n l (run (setting_of h) (volume_of h disk) l n (turn_of h stage output))) e a

-- ---- kept roots look at no area

pub stopped-any : (h : Host) (disk output : List ℕ) → stopped [] h output ≡ stopped disk h output
unfolding stopped_by failing turned failure_bytes turn_of
stopped-any h disk output =
    let p = failed_progress h.program.progress in
    ap (λ (pair : Pair). interrupted 0 p.tally (with_run h h.program.came p h.stageroots)
    (put output h.program.progress.written (record_bytes 20 0 pair 0 [] 0 []))) (starting-any h disk)

pub reached-any : (h : Host) (disk stage : List ℕ) → reached_pair [] h [] ≡ reached_pair disk h stage
unfolding reached_pair_by
reached-any h disk stage =
    ap₂ (pick h.program.progress.failed) (starting-any h disk) (sym (running-any h [] []) ∙ running-any h disk stage)

pub declared-most : (h : Host) → in_order h ≡ true → h.program.active ≡ true → h.program.terms.head.length ≤ 65536
unfolding within
declared-most h o live = leb-true _ _ (both_left _ _ (both_right _ _ ((order-facts h o).running live).terms.head))
