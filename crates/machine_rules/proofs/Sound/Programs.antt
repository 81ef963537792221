-- The calls on an open program of a sound host: the kept roots give what document 01 says. Assumes nothing.
use Rattle.lists.proofs.Kit.{◌≡◌, ap, ap₂, true, List, [], ℕ, ◌+◌, length}
use Rattle.lists.specs.Pick.{pick}
use Rattle.lists.proofs.Laws.Ways.{behind, ahead}
use Rattle.area.specs.Area.{put}
use Rattle.machine_rules.specs.View.{kept, worked, Turn, turn_of, with_run, areas_right, parent, committed_spots, setting_of, volume_by, volume_of}
use Rattle.machine_rules.specs.Roots.{root_of, root_on_disk}
use Rattle.machine_rules.specs.Record.{pairing, same_pair, pair_of, starting_pair, running_pair}
use Rattle.machine_rules.specs.Run.{run, Stepped, turned}
use Rattle.machine_rules.specs.Calls.{pieced, accepted_by, piece_by, interrupted, stopped_by, interrupt_by, reached_at, reached_pair_by, reached_by}
use Rattle.machine_rules.specs.Commit.{given_up, commit, agreed_by, close_by}
use Rattle.machine_rules.specs.Visit.{Areas, Agreement, Sound, named, gives_by, stops_by, reaches_by, closes_by}
use Rattle.machine_rules.specs.Trace.{whole_run_by}
use Rattle.machine_rules.proofs.Laws.Readers.{root-agree, all_start, with_way, known-disk}
use Rattle.machine_rules.proofs.Laws.Refusals.{past, piece-areas}
use Rattle.host.specs.declared.Host.{Host}
use Rattle.machine_rules.proofs.Sound.Steps.{failing-alike}
use Rattle.machine_rules.proofs.Sound.Runs.{runs-alike, trail-alike}
use Rattle.machine_rules.specs.declared.Pair.{Pair}
use Rattle.machine_rules.proofs.Sound.Parts.{sound-disk, start-good, start-solid, start-known}
use Rattle.machine_rules.proofs.Sound.Look.{parent-known}

module _ (h : Host) (a : Areas) (s : Sound h a.disk a.stage) where
  -- ---- pieces

  accepted-alike : (bytes : List ℕ) → areas_right h a.disk a.stage ≡ true → h.program.active ≡ true
      → accepted_by kept a.disk h a.stage a.input a.output bytes ≡ accepted_by worked a.disk h a.stage a.input a.output bytes
  unfolding accepted_by run volume_by with_way turn_of
  accepted-alike bytes areas live =
      ap (λ (t : Turn). pieced 0 t.progress.tally (with_run h (h.program.came + length bytes) t.progress t.roots) t.stage
      (put a.input h.program.came bytes) t.output)
      (runs-alike (setting_of h) (volume_of h a.disk) (start-solid h a s areas) (put a.input h.program.came bytes) (h.program.came + length bytes)
      h.program.terms.head.count (turn_of h a.stage a.output) (start-good h a s live) (start-known h a s live))

  pub piece-alike : (bytes : List ℕ) → gives_by kept h a bytes ≡ gives_by worked h a bytes
  unfolding piece_by
  piece-alike bytes =
      behind _ _ _ _ (λ e. behind _ _ _ _ (λ _.
      let p = past h _ e in
      accepted-alike bytes (piece-areas h _ _ _ _ p.areas) p.live))

  pub records-alike : (all : List ℕ) → areas_right h a.disk a.stage ≡ true → h.program.active ≡ true
      → whole_run_by kept h a all ≡ whole_run_by worked h a all
  unfolding whole_run_by volume_by with_way turn_of
  records-alike all areas live =
      trail-alike (setting_of h) (volume_of h a.disk) (start-solid h a s areas) all h.program.terms.head.length h.program.terms.head.count
      (turn_of h a.stage a.output) (start-good h a s live) (start-known h a s live)

  -- ---- interrupts

  pub interrupt-alike : stops_by kept h a ≡ stops_by worked h a
  unfolding interrupt_by stopped_by volume_by with_way
  interrupt-alike =
      behind _ _ _ _ (λ _. ahead _ _ _ _ (λ _.
      ap (λ (r : Stepped). let t = turned (turn_of h [] a.output) r in
      interrupted 0 t.progress.tally (with_run h h.program.came t.progress t.roots) t.output)
      (failing-alike (setting_of h) (volume_of h a.disk) 20 (turn_of h [] a.output) (sound-disk a.disk h a.stage s.right))))

  -- ---- the running pair

  pub pair-alike : h.program.active ≡ true → running_pair (setting_of h)
      (root_of (setting_of h) (volume_by kept h a.disk) a.stage h.stageroots) h.program.progress
      ≡ running_pair (setting_of h) (root_of (setting_of h) (volume_by worked h a.disk) a.stage h.stageroots) h.program.progress
  unfolding running_pair
  pair-alike live = ap (pairing h.program.progress.size) (root-agree _ _ _ (parent-known h a.disk a.stage s live))

  starting-alike : starting_pair (setting_of h) (volume_by kept h a.disk) ≡ starting_pair (setting_of h) (volume_by worked h a.disk)
  unfolding starting_pair pair_of volume_by with_way
  starting-alike = ap (pairing (parent (setting_of h)).size)
      (root-agree (root_on_disk (setting_of h) (volume_by kept h a.disk)) (root_on_disk (setting_of h) (volume_by worked h a.disk))
      (committed_spots h.sector (parent (setting_of h)))
      (all_start (setting_of h) _ (known-disk (setting_of h) (volume_of h a.disk) [] [] (sound-disk a.disk h a.stage s.right))))

  pub reached-alike : reaches_by kept h a ≡ reaches_by worked h a
  unfolding reached_by reached_pair_by
  reached-alike =
      behind _ _ _ _ (λ e.
      ap (reached_at 0) (ap₂ (λ (x y : Pair). pick h.program.progress.failed x y) starting-alike (pair-alike (past h _ e).live)))

  -- ---- closing

  pub close-alike : (g : Agreement) → closes_by kept h a g ≡ closes_by worked h a g
  unfolding close_by agreed_by
  close-alike g =
      behind _ _ _ _ (λ e. behind _ _ _ _ (λ _. behind _ _ _ _ (λ _.
      ap₂ (λ (x y : Pair). pick (same_pair x y) (given_up 0 a.disk h) (pick (same_pair (named g) x) (commit a.disk h a.stage) (given_up 14 a.disk h)))
      (pair-alike (past h _ e).live) starting-alike)))
