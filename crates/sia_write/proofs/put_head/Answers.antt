-- `sia_write::put_head` meets its contract: four pieces, one behind the other. The fixed id is the id. Assumes nothing.
use Rattle.lists.proofs.Kit.{◌≡◌, true, refl, sym, ap, ◌∙◌, ℕ, ◌+◌, ◌≤◌, arith, length}
use Rattle.area.proofs.Laws.Little.{length-bytes}
use Rattle.area.proofs.Laws.Parts.{part-whole}
use Rattle.sia.specs.declared.Head.{Head}
use Rattle.sia.specs.Encode.{joined, instruction_bytes, instructions_in, encode, within}
use Rattle.sia.proofs.Laws.Known.{known-head}
use Rattle.sia.proofs.Laws.Limits.{Within, within-is}
use Rattle.sia.proofs.Laws.Joined.{length-head, lay-same, lay-four}
use Rattle.sia_write.proofs.put_head.Goals as goal
use Rattle.sia_write.proofs.put_head.Goals.{Start}

-- the lengths of the parts, and the room that an area of n bytes has for them
record Room (h : Head) (n : ℕ) : Type 0 where
  limits : Within h
  contract : length h.contract ≡ 32
  fits : 48 + length (joined instruction_bytes (instructions_in h)) ≤ n

room : (h : Head) (n : ℕ) → length h.contract ≡ 32 → within h ≡ true → length (encode h) ≤ n → Room h n
room h n long w fits = record { limits = within-is h w; contract = long; fits = omega (arith, fits, length-head h long) }

has : (s : Start) → Room s.args.head (length s.args.out.now)
has s = room s.args.head _ (known-head s.args.head _ s.well_formed.0).0 s.requires.head_value s.requires.head_in_bounds

-- ---- the answers

pub copy_between-requires : goal.copy_between-requires
copy_between-requires c =
    let r = has (goal.at.copy_between-requires c).Start in
    let long = ap length c.fixed_id-contract.ensures in
    record { n_in_bounds = omega arith; n_in_bounds_2 = omega arith }

pub store-requires : goal.store-requires
store-requires c =
    let r = has (goal.at.store-requires c).Start in omega arith

pub shared_ref_as_front-put_entries : goal.shared_ref_as_front-put_entries
shared_ref_as_front-put_entries c =
    let w = within-is c.args.head c.requires.head_value in
    let long = known-head c.args.head _ c.well_formed.0 in
    omega (arith, w.count, long.1)

pub put_entries-end-requires : goal.put_entries-end-requires
put_entries-end-requires c =
    let r = has (goal.at.put_entries-end-requires c).Start in
    record { list_fits = r.limits.few; list_in_bounds = omega arith }

pub store-requires-2 : goal.store-requires-2
store-requires-2 c =
    let r = has (goal.at.store-requires-2 c).Start in
    omega (arith, c.put_entries-end.ensures.0)

pub returns : goal.returns
unfolding encode
returns c =
    let r = has (goal.at.returns c).Start in
    let same = c.fixed_id-contract.ensures in
    lay-four _ _ _ _ _ _ _ _ _
    (lay-same _ _ _ c.copy_between.ensures (part-whole _ 32 (sym (ap length same ∙ r.contract)) ∙ same))
    c.store.ensures
    c.put_entries-end.ensures.1
    c.store-2.ensures
    r.contract (length-bytes 8 _) refl refl refl c.put_entries-end.ensures.0
