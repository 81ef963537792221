-- "Nothing changed, nothing to agree.": a program whose final size and root equal the starting ones closes with 0 whatever pair is named, and
-- nothing is committed. Assumes nothing.
use Rattle.std.specs.Prelude.{◌≡◌, true, pos}
use Rattle.host.specs.With.{program_of}
use Rattle.host.specs.Order.{in_order}
use Rattle.machine_rules.specs.View.{areas_right, read_only_mode}
use Rattle.machine_rules.specs.Record.{same_pair}
use Rattle.machine_rules.specs.Calls.{no_pair}
use Rattle.machine_rules.specs.Commit.{closed, given_up, unfinished}
use Rattle.machine_rules.specs.Visit.{Areas, Agreement, named, closes, Finished}
use Rattle.machine_rules.specs.Trace.{starting, running, Unchanged}
use Rattle.machine_rules.specs.Outcome.{Untouched, Dropped}
use Rattle.host.specs.declared.Host.{Host}
use Rattle.machine_rules.specs.declared.Pair.{Pair}

-- 13, "agreement to a program not ended, or failed", comes before all that is asked of pairs: the whole answer
pub record Thirteen (h : Host) (a : Areas) (g : Agreement) : Type 0 where
  pub first : in_order h ≡ true → areas_right h a.disk a.stage ≡ true → (program_of h).active ≡ true
      → unfinished (program_of h) ≡ true → closes h a g ≡ closed 13 0 (pos 0) h a.disk
  pub only : (closes h a g).number ≡ 13 → unfinished (program_of h) ≡ true

-- an agreement
pub record Agreeing (h : Host) (a : Areas) (g : Agreement) : Type 0 where
  pub thirteen : Thirteen h a g
  -- "such a program, once ended without failure, closes with 0 whatever pair is given, and nothing is committed, its stage copies included":
  -- the whole answer is that of giving up
  pub up : Finished h a → Unchanged h a → closes h a g ≡ given_up 0 a.disk h
  pub answered : Finished h a → Unchanged h a → (closes h a g).number ≡ 0
  pub dropped : Finished h a → Unchanged h a → Dropped a h (closes h a g)
  -- of any other the pair decides
  pub fourteen : Finished h a → (Unchanged h a → ⊥) → (named g ≡ running h a → ⊥) → (closes h a g).number ≡ 14

-- "A read-only program falls under the same rule.": its pair is 0 and zeros at both ends, so its agreement is always answered with 0
pub record Reading (h : Host) (a : Areas) (g : Agreement) : Type 0 where
  pub starts : starting h a ≡ no_pair
  pub runs : running h a ≡ no_pair
  pub answered : (closes h a g).number ≡ 0
  pub dropped : Dropped a h (closes h a g)

pub record NothingToAgree : Type 0 where
  -- pairs are compared by one test: it says yes of equal ones, the sizes and all bytes of the roots, and of no others
  pub equal : (one two : Pair) → same_pair one two ≡ true → one ≡ two
  pub yes : (one two : Pair) → one ≡ two → same_pair one two ≡ true
  pub agreeing : (h : Host) (a : Areas) (g : Agreement) → g.agree ≡ true → Agreeing h a g
  pub reading : (h : Host) (a : Areas) (g : Agreement) → g.agree ≡ true → Finished h a
      → read_only_mode (program_of h).terms ≡ true → Reading h a g
  -- whatever is said of it at the close, an unchanged program changes no contract
  pub nothing : (h : Host) (a : Areas) (g : Agreement) → Unchanged h a → Untouched a h (closes h a g)
