-- An instruction is laid as four pieces, one behind the other. The fixed name is the name. Assumes nothing.
use mir.Val.{bool_byte}
use Rattle.lists.proofs.Kit.{◌≡◌, refl, sym, ap, ◌∙◌, Bool, true, false, List, [], ◌∷◌, ℕ, ◌+◌, ◌*◌, ◌≤◌, arith, length, length-take-le, leb-true}
use Rattle.lists.specs.Tests.{every}
use Rattle.lists.proofs.Laws.Every.{every-cons}
use Rattle.area.specs.Area.{put}
use Rattle.area.proofs.Laws.Little.{length-bytes}
use Rattle.area.proofs.Laws.Parts.{part-whole}
use Rattle.area.proofs.Laws.Puts.{set-put}
use Rattle.sia.specs.declared.Operand.{Operand}
use Rattle.sia.specs.declared.Instruction.{Instruction}
use Rattle.sia.specs.Encode.{joined, operand_bytes, instruction_bytes, operands_in, flag_byte}
use Rattle.sia.proofs.Laws.Known.{known-instruction}
use Rattle.sia.proofs.Laws.Joined.{length-operands, length-instruction, lay-same, lay-four}
use Rattle.sia_write.proofs.InstructionEntry.put.Goals as goal
use Rattle.sia_write.proofs.InstructionEntry.put.Goals.{Start}

-- the lengths of the parts, and the room that an area of n bytes has for them
record Room (x : Instruction) (at n : ℕ) : Type 0 where
  few : x.count ≤ 4
  name : length x.name ≡ 16
  operands : length x.operands ≡ 4
  list : length (joined operand_bytes (operands_in x)) ≡ 16 * x.count
  whole : length (instruction_bytes x) ≡ 25 + 16 * x.count
  fits : at + (25 + 16 * x.count) ≤ n

room : (x : Instruction) (at n : ℕ) → (length x.name ≡ 16) × (length x.operands ≡ 4) → x.count ≤ 4 → at + length (instruction_bytes x) ≤ n → Room x at n
room x at n long few fits = record {
  few = few;
  name = long.0;
  operands = long.1;
  list = length-operands (operands_in x) ∙ ap (λ (k : ℕ). 16 * k) (length-take-le x.count x.operands (omega (arith, few, long.1)));
  whole = length-instruction x long.0 long.1 few;
  fits = omega (arith, length-instruction x long.0 long.1 few, fits);
}

has : (s : Start) → Room s.args.self s.args.at (length s.args.out.now)
has s = room s.args.self s.args.at _ (known-instruction s.args.self _ s.well_formed.0) (leb-true _ _ s.requires.self_fits) s.requires.bytes_in_bounds

all-fit : (l : List Operand) → every (λ _. true) l ≡ true
unfolding every
all-fit [] = refl
all-fit (o ∷ l) = every-cons (λ _. true) o l refl (all-fit l)

flagged : (b : Bool) → bool_byte b ≡ flag_byte b
flagged true = refl
flagged false = refl

-- ---- the answers

pub copy_between-requires : goal.copy_between-requires
copy_between-requires c =
    let r = has (goal.at.copy_between-requires c).Start in
    let long = ap length c.fixed_name-name.ensures in
    record { n_in_bounds = omega arith; n_in_bounds_2 = omega arith }

pub store-requires : goal.store-requires
store-requires c = let r = has (goal.at.store-requires c).Start in omega arith

pub put_entries-end-requires-clause-list_fits : goal.put_entries-end-requires-clause-list_fits
put_entries-end-requires-clause-list_fits c = all-fit _

pub put_entries-end-requires-clause-list_in_bounds : goal.put_entries-end-requires-clause-list_in_bounds
put_entries-end-requires-clause-list_in_bounds c =
    let r = has (goal.at.put_entries-end-requires-clause-list_in_bounds c).Start in omega (arith, r.fits, r.list)

pub bounds-out-end : goal.bounds-out-end
bounds-out-end c = let r = has (goal.at.bounds-out-end c).Start in omega (arith, r.fits, r.list, c.put_entries-end.ensures.0)

pub overflow_add-result : goal.overflow_add-result
overflow_add-result c = let r = has (goal.at.overflow_add-result c).Start in omega (arith, r.fits, r.list, c.put_entries-end.ensures.0)

pub returns : goal.returns
unfolding instruction_bytes
returns c =
    let x = c.args.self in
    let r = has (goal.at.returns c).Start in
    let same = c.fixed_name-name.ensures in
    let end = c.put_entries-end in (
      omega (arith, r.whole, r.list, end.ensures.0),
      lay-four _ _ _ _ _ _ _ _ _
          (lay-same _ _ _ c.copy_between.ensures (part-whole _ 16 (sym (ap length same ∙ r.name)) ∙ same))
          c.store.ensures
          end.ensures.1
          (set-put _ _ _ ∙ ap (λ (b : ℕ). put end.new.out end.result (b ∷ [])) (c.from.ensures ∙ flagged x.proof))
          r.name (length-bytes 8 _) refl refl (omega arith) end.ensures.0,
    )
