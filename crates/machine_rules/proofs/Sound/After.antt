-- The calls on an open program leave a sound host sound. Assumes nothing.
use Rattle.lists.proofs.Kit.{◌≡◌, refl, sym, ◌∙◌, Bool, true, false, List, ℕ, ◌+◌, length, ltb-false}
use lib.IntN.{pos}
use Rattle.lists.specs.Pick.{pick}
use Rattle.lists.specs.Tests.{every}
use Rattle.lists.proofs.Laws.Pick.{never}
use Rattle.lists.proofs.Laws.Ways.{either_way}
use Rattle.area.specs.Area.{put}
use Rattle.host.specs.Empty.{no_program}
use Rattle.host.specs.With.{with_places, with_program, with_disk_roots, with_stage_roots, with_came, with_progress}
use Rattle.host.specs.Places.{taken}
use Rattle.machine_rules.specs.View.{kept, turn_of, with_run, areas_right, setting_of, volume_by, volume_of}
use Rattle.machine_rules.specs.Roots.{sector_root, kept_root, root_by, root_of}
use Rattle.machine_rules.specs.Run.{failed_progress, failing, run, turned}
use Rattle.machine_rules.specs.Calls.{Pieced, pieced, accepted_by, piece_by, Interrupted, interrupted, stopped_by, interrupt_by}
use Rattle.machine_rules.specs.Commit.{Closed, closed, given_up, commit, agreed_by, close_by}
use Rattle.machine_rules.specs.Sound.{right, sound}
use Rattle.machine_rules.specs.Visit.{Areas, Agreement, Sound, gives, stops, closes}
use Rattle.machine_rules.proofs.Ordering.{accepted-order, stopped-order, given-up}
use Rattle.machine_rules.proofs.Committing.{commit-order}
use Rattle.machine_rules.proofs.Commits.Parent.{Closing}
use Rattle.machine_rules.proofs.Commits.Roots.{commit-right}
use Rattle.machine_rules.proofs.Laws.Readers.{agree, with_way}
use Rattle.host.specs.Order.{in_order}
use Rattle.machine_rules.proofs.Laws.Refusals.{past, piece-areas}
use Rattle.host.specs.declared.Host.{Host}
use Rattle.machine_rules.proofs.Sound.Runs.{runs-known}
use Rattle.machine_rules.proofs.Sound.Parts.{sound-disk, sound-stage, is-sound, order, start-good, start-solid, start-known}
use Rattle.machine_rules.proofs.Sound.Look.{parent-known}

module _ (h : Host) (a : Areas) (s : Sound h a.disk a.stage) where
  disk-right : every (right h.sector a.disk h.diskroots) (taken h.sector h.places) ≡ true
  disk-right = sound-disk a.disk h a.stage s.right

  -- ---- pieces

  abbrev Stays : Pieced → Type 0
  Stays r = sound a.disk r.host r.stage ≡ true

  accepted-sound : (bytes : List ℕ) → areas_right h a.disk a.stage ≡ true → h.program.active ≡ true
      → in_order (accepted_by kept a.disk h a.stage a.input a.output bytes).host ≡ true
      → Stays (accepted_by kept a.disk h a.stage a.input a.output bytes)
  unfolding accepted_by run with_run with_stage_roots with_program with_progress with_came volume_by with_way turn_of
  accepted-sound bytes areas live o =
      let known = runs-known (setting_of h) (volume_of h a.disk) (start-solid h a s areas) (put a.input h.program.came bytes)
      (h.program.came + length bytes) h.program.terms.head.count (turn_of h a.stage a.output) (start-good h a s live) (start-known h a s live) in
      is-sound a.disk _ _ o disk-right (λ _. known.stage)

  -- a refusal leaves it as it was
  piece-refused : (b : Bool) (n : ℕ) (rest : Pieced) → (b ≡ false → Stays rest) → Stays (pick b (pieced n 0 h a.stage a.input a.output) rest)
  piece-refused b n rest f = either_way Stays b (pieced n 0 h a.stage a.input a.output) rest (λ _. s.right) f

  pub piece-sound : (bytes : List ℕ) → Stays (gives h a bytes)
  unfolding piece_by
  piece-sound bytes =
      piece-refused _ _ _ (λ e. piece-refused _ 12 _ (λ fit.
      let p = past h _ e in
      accepted-sound bytes (piece-areas h _ _ _ _ p.areas) p.live
      (accepted-order a.disk h a.stage a.input a.output bytes s.declared (order h a s) p.live (ltb-false _ _ fit))))

  -- ---- interrupts, which lend no stage

  abbrev Breaks : Interrupted → Type 0
  Breaks r = sound a.disk r.host a.stage ≡ true

  stopped-sound : h.program.active ≡ true → in_order (stopped_by kept a.disk h a.output).host ≡ true → Breaks (stopped_by kept a.disk h a.output)
  unfolding stopped_by failing turned failed_progress with_run with_stage_roots with_program with_progress with_came turn_of
  stopped-sound live o = is-sound a.disk _ a.stage o disk-right (λ _. sound-stage a.disk h a.stage s.right live)

  break-refused : (b : Bool) (n : ℕ) (rest : Interrupted) → (b ≡ false → Breaks rest) → Breaks (pick b (interrupted n 0 h a.output) rest)
  break-refused b n rest f = either_way Breaks b (interrupted n 0 h a.output) rest (λ _. s.right) f

  pub interrupt-sound : Breaks (stops h a)
  unfolding interrupt_by
  interrupt-sound =
      break-refused _ _ _ (λ e.
      let live = (past h _ e).live in
      either_way Breaks _ (stopped_by kept a.disk h a.output) (interrupted 0 h.program.progress.tally h a.output)
      (λ g. stopped-sound live (stopped-order a.disk h a.output s.declared (order h a s) live g)) (λ _. s.right))

  -- ---- closing

  abbrev Ends : Closed → Type 0
  Ends r = sound r.disk r.host a.stage ≡ true

  given-up-sound : (n : ℕ) → Ends (given_up n a.disk h)
  unfolding given_up with_program no_program
  given-up-sound n = is-sound a.disk _ a.stage (given-up n a.disk h (order h a s)) disk-right (λ u. never (sym u))

  commit-idle : (commit a.disk h a.stage).host.program.active ≡ false
  unfolding commit with_program with_places with_disk_roots no_program
  commit-idle = refl

  commit-sound : areas_right h a.disk a.stage ≡ true → h.program.active ≡ true → Ends (commit a.disk h a.stage)
  unfolding agree root_of root_by volume_by kept_root sector_root
  commit-sound areas live =
      let c : Closing h a = record { declared = s.declared; order = order h a s; areas = areas; live = live } in
      is-sound (commit a.disk h a.stage).disk (commit a.disk h a.stage).host a.stage
      (commit-order a.disk h a.stage s.declared (order h a s) live)
      (commit-right h a c (parent-known h a.disk a.stage s live) disk-right) (λ u. never (sym u ∙ commit-idle))

  close-refused : (b : Bool) (n : ℕ) (rest : Closed) → (b ≡ false → Ends rest) → Ends (pick b (closed n 0 (pos 0) h a.disk) rest)
  close-refused b n rest f = either_way Ends b (closed n 0 (pos 0) h a.disk) rest (λ _. s.right) f

  pub close-sound : (g : Agreement) → Ends (closes h a g)
  unfolding close_by agreed_by
  close-sound g =
      close-refused _ _ _ (λ e. either_way Ends _ (given_up 0 a.disk h) _ (λ _. given-up-sound 0) (λ _. close-refused _ 13 _ (λ _.
      either_way Ends _ (given_up 0 a.disk h) _ (λ _. given-up-sound 0) (λ _.
      either_way Ends _ (commit a.disk h a.stage) (given_up 14 a.disk h)
      (λ _. commit-sound (past h _ e).areas (past h _ e).live) (λ _. given-up-sound 14)))))
