-- What is not committed changes no contract and no byte of the disk: down the chains of opening, pieces, interrupts and closing. Assumes
-- nothing.
use Rattle.lists.proofs.Kit.{◌≡◌, refl, sym, ap, ◌∙◌, Bool, true, false, not, List, [], ℕ, ◌<◌, arith, eqb, not-true, not-false}
use lib.IntN.{pos}
use Rattle.lists.specs.Pick.{pick}
use Rattle.lists.specs.Tests.{those}
use Rattle.lists.proofs.Laws.Pick.{picks, skips, never, either_left, either-right}
use Rattle.lists.proofs.Laws.Ways.{either_way}
use Rattle.sia.specs.Decode.{decode}
use Rattle.host.specs.Empty.{none, no_program}
use Rattle.host.specs.With.{with_places, with_program, with_stage_roots, with_disk_roots}
use Rattle.host.specs.Order.{in_order}
use Rattle.machine_rules.specs.View.{kept, with_run, areas_right}
use Rattle.machine_rules.specs.Run.{going}
use Rattle.machine_rules.specs.Calls.{answered, opened_head, opened, Pieced, pieced, accepted_by, piece_by, Interrupted, interrupted, stopped_by, interrupt_by}
use Rattle.machine_rules.specs.Commit.{Closed, closed, given_up, commit, agreed_by, unfinished, close_by}
use Rattle.machine_rules.specs.Visit.{Areas, Opening, Agreement, named, opens, gives, stops, closes, Finished}
use Rattle.machine_rules.specs.Trace.{running, Unchanged}
use Rattle.machine_rules.specs.Outcome.{Standing, Untouched, stage_taken, Shut, Dropped}
use Rattle.machine_rules.specs.Demand1.{Nothing, Closing}
use Rattle.machine_rules.proofs.Laws.Pairs.{same-pairs, pairs-differ}
use Rattle.machine_rules.proofs.Laws.Refusals.{past, goes, numbered, low}
use Rattle.host.specs.declared.Program.{Program}
use Rattle.host.specs.declared.Host.{Host}
use Rattle.machine_rules.specs.Calls.{Answer}

shut_by : (h : Host) → h.program ≡ no_program → Shut h
unfolding no_program stage_taken pick
shut_by h e = record {
  program = e;
  active = ap (λ (g : Program). g.active) e;
  slots = ap (λ (g : Program). pick g.active (those (λ n. not (eqb n none)) g.progress.staged) []) e;
}

shut : (h : Host) → Shut (with_program h no_program)
unfolding with_program
shut h = shut_by (with_program h no_program) refl

module _ (h : Host) (a : Areas) where
  stays : Standing h h
  stays = record { places = refl; roots = refl }

  -- what a refusal leaves, with its number named
  opening-not : (b : Bool) (n : ℕ) (rest : Answer) → (b ≡ false → Standing h rest.host) → Standing h (pick b (answered n 0 h) rest).host
  opening-not b n rest f = either_way (λ (r : Answer). Standing h r.host) b (answered n 0 h) rest (λ _. stays) f

  opening : (o : Opening) → Standing h (opens h o).host
  unfolding opened opened_head with_program
  opening o =
      opening-not _ 1 _ (λ _. opening-not _ 2 _ (λ _. opening-not _ 3 _ (λ _. opening-not _ (decode o.bytes).number _ (λ _.
      opening-not _ 7 _ (λ _. opening-not _ 11 _ (λ _. record { places = refl; roots = refl }))))))

  piece-not : (b : Bool) (n : ℕ) (rest : Pieced) → (b ≡ false → Standing h rest.host)
      → Standing h (pick b (pieced n 0 h a.stage a.input a.output) rest).host
  piece-not b n rest f = either_way (λ (r : Pieced). Standing h r.host) b (pieced n 0 h a.stage a.input a.output) rest (λ _. stays) f

  pieces : (bytes : List ℕ) → Standing h (gives h a bytes).host
  unfolding piece_by accepted_by with_run with_stage_roots with_program
  pieces bytes =
      piece-not _ _ _ (λ _. piece-not _ 12 _ (λ _. record { places = refl; roots = refl }))

  interrupt-not : (b : Bool) (n : ℕ) (rest : Interrupted) → (b ≡ false → Standing h rest.host)
      → Standing h (pick b (interrupted n 0 h a.output) rest).host
  interrupt-not b n rest f = either_way (λ (r : Interrupted). Standing h r.host) b (interrupted n 0 h a.output) rest (λ _. stays) f

  interrupts : Standing h (stops h a).host
  unfolding interrupt_by stopped_by with_run with_stage_roots with_program
  interrupts =
      interrupt-not _ _ _ (λ _. either_way (λ (r : Interrupted). Standing h r.host) _ (stopped_by kept a.disk h a.output)
      (interrupted 0 h.program.progress.tally h a.output) (λ _. record { places = refl; roots = refl }) (λ _. stays))

  -- giving up, with any number
  pub given-up : (n : ℕ) → Dropped a h (given_up n a.disk h)
  unfolding given_up with_program
  given-up n = record { untouched = record { bytes = refl; places = refl; roots = refl }; shut = shut h; tally = refl; growth = refl }

  -- down the chain of a close: 1, 2, 4 and 13, which leave all; giving up; and of a program that has ended and not failed, what the pairs say
  module _ (g : Agreement) (K : Closed → Type 0)
      (refused : (n : ℕ) → 0 < n → n < 14 → (n ≡ 13 → unfinished h.program ≡ true) → K (closed n 0 (pos 0) h a.disk))
      (up : g.agree ≡ false → K (given_up 0 a.disk h))
      (same : g.agree ≡ true → Finished h a → Unchanged h a → K (given_up 0 a.disk h))
      (wrong : g.agree ≡ true → Finished h a → (Unchanged h a → ⊥) → K (given_up 14 a.disk h))
      (done : g.agree ≡ true → Finished h a → (Unchanged h a → ⊥) → named g ≡ running h a → K (commit a.disk h a.stage)) where
    pub close-ways : K (closes h a g)
    unfolding close_by agreed_by unfinished
    close-ways =
        let small = low h (areas_right h a.disk a.stage) in
        either_way K _ _ _ (λ t. refused _ (numbered h _ t) (omega (arith, small)) (λ n. absurd (omega (arith, small)))) (λ past-4.
        either_way K _ _ _ (λ e. up (not-true _ e)) (λ e.
        either_way K _ _ _ (λ t. refused 13 (omega arith) (omega arith) (λ _. t)) (λ ended.
        let agrees = not-false _ e in
        let p = past h _ past-4 in
        let finished : Finished h a = record {
          order = p.order;
          areas = p.areas;
          live = p.live;
          good = either_left _ _ ended;
          ended = either-right _ _ ended;
        } in
        either_way K _ _ _ (λ t. same agrees finished (same-pairs _ _ t)) (λ t.
        let changed = pairs-differ _ _ t in
        either_way K _ _ _ (λ u. done agrees finished changed (same-pairs _ _ u)) (λ _. wrong agrees finished changed)))))

  module _ (g : Agreement) where
    -- what is committed, is committed by a close that goes all the way down
    untouched-but : (g.agree ≡ true → Finished h a → (Unchanged h a → ⊥) → Untouched a h (commit a.disk h a.stage))
        → Untouched a h (closes h a g)
    untouched-but done =
        close-ways g (Untouched a h) (λ n _ _ _. record { bytes = refl; places = refl; roots = refl }) (λ _. (given-up 0).untouched)
        (λ _ _ _. (given-up 0).untouched) (λ _ _ _. (given-up 14).untouched) (λ agrees finished changed _. done agrees finished changed)

    uncommitted : ((closes h a g).number ≡ 0 → g.agree ≡ true → ⊥) → Untouched a h (closes h a g)
    unfolding commit
    uncommitted =
        close-ways g (λ r. (r.number ≡ 0 → g.agree ≡ true → ⊥) → Untouched a h r) (λ n _ _ _ _. record { bytes = refl; places = refl; roots = refl })
        (λ _ _. (given-up 0).untouched) (λ _ _ _ _. (given-up 0).untouched) (λ _ _ _ _. (given-up 14).untouched)
        (λ agrees _ _ _ not. absurd (not refl agrees))

    -- 13: "agreement to a program not ended, or failed"
    failed : h.program.progress.failed ≡ true → Untouched a h (closes h a g)
    failed f = untouched-but (λ _ finished _. never (sym f ∙ finished.good))

    unended : going h.program.terms h.program.progress ≡ true → Untouched a h (closes h a g)
    unended e = untouched-but (λ _ finished _. never (sym e ∙ finished.ended))

    -- a program whose running pair is its starting pair
    pub unchanged : Unchanged h a → Untouched a h (closes h a g)
    unchanged u = untouched-but (λ _ _ changed. absurd (changed u))

    done : (closes h a g).number ≡ 0 → Shut (closes h a g).host
    unfolding given_up commit with_disk_roots with_places with_program
    done =
        close-ways g (λ r. r.number ≡ 0 → Shut r.host) (λ n lo _ _ e. absurd (omega arith)) (λ _ _. shut h) (λ _ _ _ _. shut h)
        (λ _ _ _ _. shut h) (λ _ _ _ _ _. shut_by _ refl)

    dropped : (closes h a g).number ≡ 14 → Shut (closes h a g).host
    unfolding given_up commit with_disk_roots with_places with_program
    dropped =
        close-ways g (λ r. r.number ≡ 14 → Shut r.host) (λ n _ hi _ e. absurd (omega arith)) (λ _ _. shut h) (λ _ _ _ _. shut h)
        (λ _ _ _ _. shut h) (λ _ _ _ _ _. shut_by _ refl)

    gives_up : in_order h ≡ true → areas_right h a.disk a.stage ≡ true → h.program.active ≡ true → g.agree ≡ false
        → closes h a g ≡ given_up 0 a.disk h
    unfolding close_by
    gives_up order areas live against =
        skips _ _ _ (goes h _ (record { order = order; areas = areas; live = live })) ∙ picks (not g.agree) _ _ (ap not against)

    wrong : (closes h a g).number ≡ 14 → closes h a g ≡ given_up 14 a.disk h
    unfolding given_up commit
    wrong =
        close-ways g (λ r. r.number ≡ 14 → r ≡ given_up 14 a.disk h) (λ n _ hi _ e. absurd (omega arith))
        (λ _ e. absurd (omega arith)) (λ _ _ _ e. absurd (omega arith)) (λ _ _ _ _. refl) (λ _ _ _ _ e. absurd (omega arith))

  pub nothing : Nothing h a
  nothing = record {
    opening = opening;
    piece = pieces;
    interrupt = interrupts;
    uncommitted = uncommitted;
    failed = failed;
    unended = unended;
  }

  pub closing : (g : Agreement) → Closing h a g
  closing g = record { done = done g; dropped = dropped g; up = gives_up g; wrong = wrong g }
