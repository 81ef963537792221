-- Demand 3: "Take any host in order, any head it opens and data of the declared length, in one or more accepted pieces, cut anywhere,
-- empty pieces allowed." Assumes nothing.
use Rattle.std.specs.Prelude.{◌≡◌, List, ◌∷◌, ◌++◌, ℕ, length}
use Rattle.area.specs.Area.{put}
use Rattle.host.specs.With.{program_of}
use Rattle.machine_rules.specs.Calls.{Pieced}
use Rattle.machine_rules.specs.Visit.{Areas, Opening, opens, Visit}
use Rattle.machine_rules.specs.Trace.{together, lent_to, AllAccepted, visited, after, met, first_records, records_in}
use Rattle.host.specs.declared.Host.{Host}

-- after pieces that are the front of the data: h is the host that the opening left, w what the pieces leave, k how many bytes have come
pub record Cut (h : Host) (a : Areas) (all : List ℕ) (bs : List (List ℕ)) (k : ℕ) (w : Pieced) : Type 0 where
  -- pieces that pass no declared length are accepted
  pub accepted : AllAccepted a.disk (lent_to h a) bs
  -- "After each piece the records are the first m that demand 2 defines for the whole data", one behind another; no other byte of the
  -- output area changes
  pub output : w.output ≡ put a.output 0 (together (first_records h a all k))
  pub count : records_in w.host ≡ met h a all k
  pub written : (program_of w.host).progress.written ≡ length (together (first_records h a all k))
  -- host, tally and all areas are those of the run on the whole data, stopped at the first need that has not come
  pub state : w ≡ after h a all k

pub record Demand3 : Type 0 where
  pub cut : (h : Host) (o : Opening) (a : Areas) (all : List ℕ) → Visit h o a all
      → (b : List ℕ) (bs : List (List ℕ)) (rest : List ℕ) → together (b ∷ bs) ++ rest ≡ all
      → Cut (opens h o).host a all (b ∷ bs) (length (together (b ∷ bs))) (visited h o a (b ∷ bs))
  -- "When all has come, host, cost and all areas are equal for every cutting from the same starting host and areas."
  pub alike : (h : Host) (o : Opening) (a : Areas) (all : List ℕ) → Visit h o a all
      → (b c : List ℕ) (bs cs : List (List ℕ)) → together (b ∷ bs) ≡ all → together (c ∷ cs) ≡ all
      → visited h o a (b ∷ bs) ≡ visited h o a (c ∷ cs)
