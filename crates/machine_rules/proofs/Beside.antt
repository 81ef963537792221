-- Which calls change which kept roots: down the chain of each call, refusals named. Assumes nothing.
use Rattle.lists.proofs.Kit.{◌≡◌, refl, Bool, false, List, ℕ}
use Rattle.lists.specs.Pick.{pick}
use Rattle.lists.proofs.Laws.Ways.{either_way}
use Rattle.sia.specs.Decode.{decode}
use Rattle.host.specs.With.{with_places, with_program, with_came, with_progress, with_disk_roots, with_stage_roots}
use Rattle.host.specs.Calls.{formed, dropped}
use Rattle.host.specs.Calls as Contracts
use Rattle.machine_rules.specs.View.{kept, turn_of, with_run}
use Rattle.machine_rules.specs.Run.{failing, turned}
use Rattle.machine_rules.specs.Calls.{answered, opened_head, opened, Interrupted, interrupted, stopped_by, interrupt_by}
use Rattle.machine_rules.specs.Commit.{Closed, given_up, commit}
use Rattle.machine_rules.specs.Visit.{Areas, Opening, Agreement, opens, stops, closes}
use Rattle.machine_rules.specs.KeptRoots.{Beside, Leaves}
use Rattle.machine_rules.proofs.Nothing.{nothing, close-ways}
use Rattle.host.specs.Calls.{Made}
use Rattle.host.specs.declared.Host.{Host}
use Rattle.machine_rules.specs.Calls.{Answer}

module _ (h : Host) (a : Areas) where
  same : Beside h h
  same = record { disk = refl; stage = refl }

  contract-not : (b : Bool) (n : ℕ) (rest : Made) → (b ≡ false → Beside h rest.host) → Beside h (pick b (Contracts.answered n h) rest).host
  contract-not b n rest f = either_way (λ (r : Made). Beside h r.host) b (Contracts.answered n h) rest (λ _. same) f

  forming : (id : List ℕ) → Beside h (formed h id).host
  unfolding formed with_places
  forming id =
      contract-not _ 1 _ (λ _. contract-not _ 3 _ (λ _. contract-not _ 5 _ (λ _. contract-not _ 15 _ (λ _. contract-not _ 6 _ (λ _.
      contract-not _ 8 _ (λ _. record { disk = refl; stage = refl }))))))

  dropping : (id : List ℕ) → Beside h (dropped h id).host
  unfolding dropped with_places
  dropping id =
      contract-not _ 1 _ (λ _. contract-not _ 3 _ (λ _. contract-not _ 5 _ (λ _. contract-not _ 7 _ (λ _. record { disk = refl; stage = refl }))))

  opening-not : (b : Bool) (n : ℕ) (rest : Answer) → (b ≡ false → Beside h rest.host) → Beside h (pick b (answered n 0 h) rest).host
  opening-not b n rest f = either_way (λ (r : Answer). Beside h r.host) b (answered n 0 h) rest (λ _. same) f

  opening : (o : Opening) → Beside h (opens h o).host
  unfolding opened opened_head with_program
  opening o =
      opening-not _ 1 _ (λ _. opening-not _ 2 _ (λ _. opening-not _ 3 _ (λ _. opening-not _ (decode o.bytes).number _ (λ _.
      opening-not _ 7 _ (λ _. opening-not _ 11 _ (λ _. record { disk = refl; stage = refl }))))))

  interrupt-not : (b : Bool) (n : ℕ) (rest : Interrupted) → (b ≡ false → Beside h rest.host)
      → Beside h (pick b (interrupted n 0 h a.output) rest).host
  interrupt-not b n rest f = either_way (λ (r : Interrupted). Beside h r.host) b (interrupted n 0 h a.output) rest (λ _. same) f

  interrupts : Beside h (stops h a).host
  unfolding interrupt_by stopped_by failing turned turn_of with_run with_stage_roots with_program with_progress with_came
  interrupts =
      interrupt-not _ _ _ (λ _. either_way (λ (r : Interrupted). Beside h r.host) _ (stopped_by kept a.disk h a.output)
      (interrupted 0 h.program.progress.tally h a.output) (λ _. record { disk = refl; stage = refl }) (λ _. same))

  closing : (g : Agreement) → (closes h a g).host.stageroots ≡ h.stageroots
  unfolding given_up commit with_program with_places with_disk_roots
  closing g =
      close-ways h a g (λ (r : Closed). r.host.stageroots ≡ h.stageroots) (λ _ _ _ _. refl) (λ _. refl) (λ _ _ _. refl) (λ _ _ _. refl)
      (λ _ _ _ _. refl)

  pub leaves : Leaves h a
  leaves = record {
    forming = forming;
    dropping = dropping;
    opening = opening;
    piece = λ bytes. ((nothing h a).piece bytes).roots;
    interrupt = interrupts;
    closing = closing;
    uncommitted = λ g no. record { disk = ((nothing h a).uncommitted g no).roots; stage = closing g };
  }
