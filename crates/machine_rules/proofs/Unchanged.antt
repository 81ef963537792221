-- "Nothing changed, nothing to agree.": down the chain of a close to its pairs. Assumes nothing.
use Rattle.lists.proofs.Kit.{◌≡◌, sym, ap, ◌∙◌, subst, true, not, arith}
use lib.IntN.{pos}
use Rattle.lists.specs.Pick.{pick}
use Rattle.lists.proofs.Laws.Pick.{picks, skips, either-join}
use Rattle.host.specs.Order.{in_order}
use Rattle.host.proofs.Laws.Order.{order-facts}
use Rattle.machine_rules.specs.View.{parent, areas_right, read_only_mode, setting_of, volume_by, volume_of}
use Rattle.machine_rules.specs.Record.{same_pair}
use Rattle.machine_rules.specs.Calls.{no_pair}
use Rattle.machine_rules.specs.Commit.{Closed, closed, given_up, agreed, commit, unfinished, close_by, agreed_by}
use Rattle.machine_rules.specs.Visit.{Areas, Agreement, named, closes, Finished}
use Rattle.machine_rules.specs.Trace.{starting, running, Unchanged}
use Rattle.machine_rules.specs.Outcome.{Dropped}
use Rattle.machine_rules.specs.Unchanged.{Thirteen, Agreeing, Reading, NothingToAgree}
use Rattle.machine_rules.proofs.Laws.Sizes.{read-only-free, read-only-reached}
use Rattle.machine_rules.proofs.Laws.Pairs.{same-pairs, pairs-same, differ-pairs, none-starts, none_runs}
use Rattle.machine_rules.proofs.Laws.Refusals.{goes}
use Rattle.machine_rules.proofs.Nothing.{given-up, close-ways, unchanged}
use Rattle.host.specs.declared.Host.{Host}

module _ (h : Host) (a : Areas) where
  -- ---- an agreement

  module _ (g : Agreement) (agrees : g.agree ≡ true) where
    -- past 1, 2 and 4
    asked : in_order h ≡ true → areas_right h a.disk a.stage ≡ true → h.program.active ≡ true
        → closes h a g ≡ pick (unfinished h.program) (closed 13 0 (pos 0) h a.disk) (agreed a.disk h a.stage (named g))
    unfolding close_by
    asked order areas live =
        skips _ _ _ (goes h _ (record { order = order; areas = areas; live = live })) ∙ skips (not g.agree) _ _ (ap not agrees)

    -- 13 comes before the pairs
    thirteen : Thirteen h a g
    unfolding given_up commit
    thirteen = record {
      first = λ order areas live t. asked order areas live ∙ picks (unfinished h.program) _ _ t;
      only = close-ways h a g (λ r. r.number ≡ 13 → unfinished h.program ≡ true) (λ n _ _ t e. t e) (λ _ e. absurd (omega arith))
          (λ _ _ _ e. absurd (omega arith)) (λ _ _ _ e. absurd (omega arith)) (λ _ _ _ _ e. absurd (omega arith));
    }

    module _ (f : Finished h a) where
      paired : closes h a g ≡ agreed a.disk h a.stage (named g)
      unfolding unfinished
      paired = asked f.order f.areas f.live ∙ skips (unfinished h.program) _ _ (either-join _ _ f.good f.ended)

      pub same-closes : Unchanged h a → closes h a g ≡ given_up 0 a.disk h
      unfolding agreed_by
      same-closes u = paired ∙ picks _ _ _ (pairs-same (running h a) (starting h a) u)

      -- otherwise the pair that is named decides
      changed : (Unchanged h a → ⊥) → closes h a g
          ≡ pick (same_pair (named g) (running h a)) (commit a.disk h a.stage) (given_up 14 a.disk h)
      unfolding agreed_by
      changed c = paired ∙ skips _ _ _ (differ-pairs (running h a) (starting h a) c)

      pub right-closes : (Unchanged h a → ⊥) → named g ≡ running h a → closes h a g ≡ commit a.disk h a.stage
      right-closes c e = changed c ∙ picks _ _ _ (pairs-same (named g) (running h a) e)

      wrong-closes : (Unchanged h a → ⊥) → (named g ≡ running h a → ⊥) → closes h a g ≡ given_up 14 a.disk h
      wrong-closes c e = changed c ∙ skips _ _ _ (differ-pairs (named g) (running h a) e)

      same-answers : Unchanged h a → (closes h a g).number ≡ 0
      unfolding given_up
      same-answers u = ap (λ (r : Closed). r.number) (same-closes u)

      same-drops : Unchanged h a → Dropped a h (closes h a g)
      same-drops u = subst (Dropped a h) (sym (same-closes u)) (given-up h a 0)

      wrong-answers : (Unchanged h a → ⊥) → (named g ≡ running h a → ⊥) → (closes h a g).number ≡ 14
      unfolding given_up
      wrong-answers c e = ap (λ (r : Closed). r.number) (wrong-closes c e)

    agreeing : Agreeing h a g
    agreeing = record { thirteen = thirteen; up = same-closes; answered = same-answers; dropped = same-drops; fourteen = wrong-answers }

  -- ---- read-only mode

  module _ (f : Finished h a) (mode : read_only_mode h.program.terms ≡ true) where
    starts : starting h a ≡ no_pair
    unfolding read_only_mode parent volume_by
    starts = none-starts (setting_of h) (volume_of h a.disk) (read-only-free h.sector _ h.places (order-facts h f.order).contracts.each mode)

    runs : running h a ≡ no_pair
    unfolding read_only_mode
    runs =
        none_runs (setting_of h) _ h.program.progress
        (read-only-reached h.places _ _ ((order-facts h f.order).running f.live).terms.parent mode)

    reading : (g : Agreement) → g.agree ≡ true → Reading h a g
    reading g agrees = record {
      starts = starts;
      runs = runs;
      answered = same-answers g agrees f (runs ∙ sym starts);
      dropped = same-drops g agrees f (runs ∙ sym starts);
    }

pub nothing-to-agree : NothingToAgree
nothing-to-agree = record {
  equal = same-pairs;
  yes = pairs-same;
  agreeing = agreeing;
  reading = λ h a g agrees f mode. reading h a f mode g agrees;
  nothing = unchanged;
}
