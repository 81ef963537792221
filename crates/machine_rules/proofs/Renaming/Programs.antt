-- Pieces, interrupts, what a program has reached and the look-up of a root, under new ids: down the two chains of each call side by side, and
-- what runs then runs alike. Assumes nothing.
use Rattle.lists.proofs.Kit.{◌≡◌, refl, sym, ap, ap₂, ◌∙◌, Bool, true, not, List, [], ℕ, ◌+◌, length, ltb, eqb}
use Rattle.lists.specs.Pick.{pick}
use Rattle.lists.proofs.Laws.Pick.{by, picks, skips}
use Rattle.lists.proofs.Laws.Ways.{down, downs}
use Rattle.area.specs.Area.{put}
use Rattle.host.specs.With.{with_program, with_came, with_progress, with_stage_roots}
use Rattle.machine_rules.specs.View.{Turn, turn_of, with_run, setting_of, volume_by, volume_of}
use Rattle.machine_rules.specs.declared.Setting.{Setting}
use Rattle.machine_rules.specs.Roots.{kept_root, root_by, root_of}
use Rattle.machine_rules.specs.Seats.{all_seats, seats_of, first_seat, seats_in, not_located, located_at, located_by, located}
use Rattle.machine_rules.specs.Run.{going, run}
use Rattle.machine_rules.specs.Calls.{Pieced, pieced, accepted, piece, Interrupted, interrupted, stopped, interrupt}
use Rattle.machine_rules.specs.Calls.{accepted_by, piece_by, interrupt_by, stopped_by, reached_by, reached_pair_by}
use Rattle.machine_rules.specs.Calls.{no_pair, reached_pair, reached_at, reached}
use Rattle.machine_rules.specs.Visit.{Areas, gives}
use Rattle.host.specs.Renaming.{Renaming, host_as}
use Rattle.machine_rules.specs.Renaming.{AsksAs}
use Rattle.host.proofs.Renaming.Places.{all_as, in-order-as}
use Rattle.machine_rules.proofs.Renaming.Sight.{setting_as, starting-as, running-as, all-seats-as, seats-of-as}
use Rattle.machine_rules.proofs.Renaming.Steps.{run-as, failing-as}
use Rattle.machine_rules.proofs.Renaming.Refusals.{terms-of, still-as, areas-as, refusal-as, interrupt-lent-as, piece-lent-as}
use Rattle.machine_rules.proofs.Laws.Refusals.{past}
use Rattle.host.specs.declared.Terms.{Terms}
use Rattle.host.specs.declared.Host.{Host}
use Rattle.machine_rules.specs.declared.Seat.{Seat}
use Rattle.machine_rules.specs.Calls.{Reached}

-- the same answer
abbrev still : Reached → Reached
still x = x

module _ (r : List ℕ → List ℕ) (new : Renaming r) where
  -- ---- an open program

  pub setting-as : (h : Host) → h.program.active ≡ true → setting_of (host_as r h) ≡ setting_as r new (setting_of h)
  unfolding host_as
  setting-as h e = ap (λ (t : Terms). record {
    sector = h.sector;
    disksectors = h.disk;
    stagesectors = h.stage;
    places = all_as r new
        h.places;
    terms = t;
  }) (terms-of r new h e)

  pub going-as : (h : Host) → going (host_as r h).program.terms (host_as r h).program.progress ≡ going h.program.terms h.program.progress
  unfolding going host_as
  going-as h = still-as r new (λ (t : Terms). going t h.program.progress) h refl

  -- ---- interrupts

  unfoldable pub interrupted_as : Interrupted → Interrupted
  interrupted_as x = interrupted x.number x.tally (host_as r x.host) x.output

  interrupted-not : (n : ℕ) (h : Host) (output : List ℕ) → interrupted n 0 (host_as r h) output ≡ interrupted_as (interrupted n 0 h output)
  unfolding interrupted_as
  interrupted-not n h output = refl

  stopped-as : (disk : List ℕ) (h : Host) (output : List ℕ) → h.program.active ≡ true
      → stopped disk (host_as r h) output ≡ interrupted_as (stopped disk h output)
  unfolding interrupted_as stopped_by turn_of with_run with_stage_roots with_program with_progress with_came volume_by host_as
  stopped-as disk h output e = rw (setting-as h e, failing-as r new (setting_of h) (volume_of h disk) 20 (turn_of h [] output))

  ended-as : (h : Host) (output : List ℕ)
      → interrupted 0 (host_as r h).program.progress.tally (host_as r h) output
      ≡ interrupted_as (interrupted 0 h.program.progress.tally h output)
  unfolding interrupted_as host_as
  ended-as h output = refl

  pub interrupt-as : (disk : List ℕ) (h : Host) (output : List ℕ)
      → interrupt disk (host_as r h) output ≡ interrupted_as (interrupt disk h output)
  unfolding interrupt_by
  interrupt-as disk h output =
      let same = refusal-as r new h _ _ (interrupt-lent-as r new h disk output) in
      down interrupted_as _ _ _ _ _ _ (ap (λ (n : ℕ). not (eqb n 0)) same)
      (λ _. ap (λ (n : ℕ). interrupted n 0 (host_as r h) output) same ∙ interrupted-not _ h output) (λ e.
      down interrupted_as _ _ _ _ _ _ (going-as h) (λ _. stopped-as disk h output (past h _ e).live)
      (λ _. ended-as h output))

  -- ---- what a program has reached

  reached-pair-as : (disk : List ℕ) (h : Host) (stage : List ℕ) → h.program.active ≡ true
      → reached_pair disk (host_as r h) stage ≡ reached_pair disk h stage
  unfolding reached_pair_by volume_by host_as root_of
  reached-pair-as disk h stage e =
      rw (
        setting-as h e,
        starting-as r new (setting_of h) (volume_of h disk),
        running-as r new (setting_of h)
            (root_of (setting_of h) (volume_of h disk) stage h.stageroots) h.program.progress,
      )

  pub reached-as : (disk : List ℕ) (h : Host) (stage : List ℕ) → reached disk (host_as r h) stage ≡ reached disk h stage
  unfolding reached_by
  reached-as disk h stage =
      let same = refusal-as r new h _ _ (areas-as r new h disk stage) in
      down still _ _ _ _ _ _ (ap (λ (n : ℕ). not (eqb n 0)) same) (λ _. ap (λ (n : ℕ). reached_at n no_pair) same)
      (λ e. ap (reached_at 0) (reached-pair-as disk h stage (past h _ e).live))

  -- ---- the look-up of a root

  seats-in-as : (h : Host) → seats_in (host_as r h) ≡ seats_in h
  unfolding seats_in host_as
  seats-in-as h =
      let z = h.sector in
      let p = h.program.progress in
      let all = all_seats z h.places in
      by h.program.active
      (λ e. picks h.program.active _ _ e ∙ ap (λ (s : Setting). seats_of s p) (setting-as h e) ∙ seats-of-as r new (setting_of h) p
      ∙ sym (picks h.program.active (seats_of (setting_of h) p) all e))
      (λ e. skips h.program.active _ _ e ∙ all-seats-as r new z h.places ∙ sym (skips h.program.active (seats_of (setting_of h) p) all e))

  pub locating-as : (h : Host) (key : List ℕ) → located (host_as r h) key ≡ located h key
  unfolding located_by root_of root_by volume_by host_as
  locating-as h key =
      let f = kept_root h.diskroots h.stageroots in
      ap₂ (λ (b : Bool) (l : List Seat). pick (not b) (not_located 1) (located_at (first_seat f key l))) (in-order-as r new h) (seats-in-as h)

  -- ---- pieces

  -- all but the input area, which holds what it was given
  pub record PieceAs (y x : Pieced) : Type 0 where
    pub is : y ≡ pieced x.number x.tally (host_as r x.host) x.stage y.input x.output

  module _ (h : Host) (a : Areas) (input bytes bytes' : List ℕ)
      (long : length input ≡ length a.input) (long' : length bytes' ≡ length bytes) where
    abbrev came : ℕ
    came = h.program.came

    -- the input areas once the piece has come
    abbrev one : List ℕ
    one = put a.input came bytes

    abbrev other : List ℕ
    other = put input came bytes'

    module _ (asks : AsksAs r h.program.terms.head one other) where
      piece-refused : (n m : ℕ) → n ≡ m → PieceAs (pieced n 0 (host_as r h) a.stage input a.output) (pieced m 0 h a.stage a.input a.output)
      piece-refused n m e = record { is = ap (λ (k : ℕ). pieced k 0 (host_as r h) a.stage input a.output) e }

      run-same : h.program.active ≡ true
          → run (setting_of (host_as r h)) (volume_of (host_as r h) a.disk) other (came + length bytes') (turn_of (host_as r h) a.stage a.output)
          ≡ run (setting_of h) (volume_of h a.disk) one (came + length bytes) (turn_of h a.stage a.output)
      unfolding turn_of host_as volume_by
      run-same e =
          let t = turn_of h a.stage a.output in
          ap₂ (λ (s : Setting) (n : ℕ). run s (volume_of h a.disk) other (came + n) t) (setting-as h e) long'
          ∙ run-as r new (setting_of h) (volume_of h a.disk) one other asks (came + length bytes) t

      past-as : ltb (host_as r h).program.terms.head.length ((host_as r h).program.came + length bytes')
          ≡ ltb h.program.terms.head.length (came + length bytes)
      unfolding host_as
      past-as = ap₂ ltb (still-as r new (λ (t : Terms). t.head.length) h refl) (ap (λ (n : ℕ). came + n) long')

      accepted-as : h.program.active ≡ true
          → PieceAs (accepted a.disk (host_as r h) a.stage input a.output bytes')
          (accepted a.disk h a.stage a.input a.output bytes)
      unfolding accepted_by with_run with_stage_roots with_program with_progress with_came host_as
      accepted-as e = record {
        is = ap₂ (λ (t : Turn) (n : ℕ).
            pieced 0 t.progress.tally (with_run (host_as r h) (came + n) t.progress t.roots) t.stage other t.output) (run-same e) long';
      }

      pub piece-as : PieceAs (piece a.disk (host_as r h) a.stage input a.output bytes') (gives h a bytes)
      unfolding piece_by
      piece-as =
          let same = refusal-as r new h _ _ (piece-lent-as r new h a.disk a.stage a.input input a.output long) in
          downs PieceAs _ _ _ _ _ _ (ap (λ (n : ℕ). not (eqb n 0)) same) (λ _. piece-refused _ _ same) (λ e.
          downs PieceAs _ _ _ _ _ _ past-as (λ _. piece-refused 12 12 refl) (λ _. accepted-as (past h _ e).live))
