-- Demand 1: "No input breaks it." The definitions of the calls are total and check in document 01's order, and each call's code is proved
-- equal to its definition for every host record and all areas (crates host_contracts to machine). Here: what refusals and failures leave. Assumes
-- nothing.
use Rattle.std.specs.Prelude.{◌≡◌, true, false, List, ℕ, pos}
use Rattle.host.specs.With.{program_of}
use Rattle.host.specs.Order.{in_order}
use Rattle.host.specs.Calls.{freshed, formed, dropped}
use Rattle.host.specs.Calls as Contract
use Rattle.machine_rules.specs.View.{areas_right}
use Rattle.machine_rules.specs.Run.{going}
use Rattle.machine_rules.specs.Calls.{answered, pieced, interrupted, reached_at, no_pair}
use Rattle.machine_rules.specs.Commit.{closed, given_up}
use Rattle.machine_rules.specs.Visit.{Areas, Opening, Agreement, opens, gives, stops, reaches, closes, Ready}
use Rattle.machine_rules.specs.Outcome.{Refused, Kept, Standing, Untouched, Shut}
use Rattle.host.specs.declared.Host.{Host}

-- "A refused call changes no byte and no number": its whole answer is its number, zeros, and host and areas as they were
pub record Refusals (h : Host) (a : Areas) : Type 0 where
  pub forming : (id : List ℕ) → let r = formed h id in (r.number ≡ 0 → ⊥) → r ≡ Contract.answered r.number h
  pub dropping : (id : List ℕ) → let r = dropped h id in (r.number ≡ 0 → ⊥) → r ≡ Contract.answered r.number h
  pub opening : (o : Opening) → let r = opens h o in (r.number ≡ 0 → ⊥) → r ≡ answered r.number 0 h
  pub piece : (bytes : List ℕ) → let r = gives h a bytes in
      (r.number ≡ 0 → ⊥) → r ≡ pieced r.number 0 h a.stage a.input a.output
  pub interrupt : let r = stops h a in (r.number ≡ 0 → ⊥) → r ≡ interrupted r.number 0 h a.output
  pub reached : let r = reaches h a in (r.number ≡ 0 → ⊥) → r ≡ reached_at r.number no_pair
  pub closing : (g : Agreement) → let r = closes h a g in
      (r.number ≡ 0 → ⊥) → (r.number ≡ 14 → ⊥) → r ≡ closed r.number 0 (pos 0) h a.disk

-- what changes no contract
pub record Nothing (h : Host) (a : Areas) : Type 0 where
  -- every call before the close
  pub opening : (o : Opening) → Standing h (opens h o).host
  pub piece : (bytes : List ℕ) → Standing h (gives h a bytes).host
  pub interrupt : Standing h (stops h a).host
  -- every close but an agreement answered with 0
  pub uncommitted : (g : Agreement) → ((closes h a g).number ≡ 0 → g.agree ≡ true → ⊥) → Untouched a h (closes h a g)
  -- "A program that fails leaves every contract's size, sectors and root as they were.": whatever its close says
  pub failed : (g : Agreement) → (program_of h).progress.failed ≡ true → Untouched a h (closes h a g)
  -- the same of a program that has not ended
  pub unended : (g : Agreement) → going (program_of h).terms (program_of h).progress ≡ true → Untouched a h (closes h a g)

-- a close that is answered with 0 or 14 leaves no program open; "Every close frees all stage slots."
pub record Closing (h : Host) (a : Areas) (g : Agreement) : Type 0 where
  pub done : (closes h a g).number ≡ 0 → Shut (closes h a g).host
  pub dropped : (closes h a g).number ≡ 14 → Shut (closes h a g).host
  -- "Giving up always closes and commits nothing.": the whole answer
  pub up : in_order h ≡ true → areas_right h a.disk a.stage ≡ true → (program_of h).active ≡ true → g.agree ≡ false
      → closes h a g ≡ given_up 0 a.disk h
  -- "save that a wrong agreement closes the program and drops its changes": the whole answer
  pub wrong : (closes h a g).number ≡ 14 → closes h a g ≡ given_up 14 a.disk h

pub record Demand1 : Type 0 where
  pub refusals : (h : Host) (a : Areas) → Refusals h a
  -- 1: "host not in order"
  pub damaged : (h : Host) (a : Areas) → in_order h ≡ false → Refused h a
  -- and no call makes one of a host in order: what is made here and kept is all that demands 2 and 3 ask of a host
  pub fresh : (z disk stage : ℕ) → (freshed z disk stage).number ≡ 0 → Ready (freshed z disk stage).host
  pub kept : (h : Host) (a : Areas) → Ready h → Kept h a
  -- "Making a host with bad lengths answers 2 and a host with no slots, which every later call refuses with 1."
  pub unmade : (z disk stage : ℕ) → ((freshed z disk stage).number ≡ 0 → ⊥)
      → ((freshed z disk stage).number ≡ 2) × (in_order (freshed z disk stage).host ≡ false)
  pub nothing : (h : Host) (a : Areas) → Nothing h a
  pub closing : (h : Host) (a : Areas) (g : Agreement) → Closing h a g
