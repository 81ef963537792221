-- "Figures from the bench", the lines marked (P): one table, what the definitions give beside what document 01 says. Assumes nothing.
use Rattle.std.specs.Prelude.{true, false, List, [], ◌∷◌, ◌++◌, ℕ, ◌+◌, length, take, drop, replicate, set}
use Rattle.lists.specs.Pick.{pick}
use Rattle.lists.specs.Tests.{those, each}
use Rattle.area.specs.Area.{zeros}
use Rattle.area.specs.Little.{le8}
use Rattle.tree.specs.Walk.{count}
use Rattle.sia.specs.Names.{name_of}
use Rattle.sia.specs.Empty.{no_operand, no_instruction, filled}
use Rattle.sia.specs.Encode.{encode}
use Rattle.host.specs.With.{with_places, program_of}
use Rattle.host.specs.Calls.{freshed, formed}
use Rattle.machine_rules.specs.Calls.{opened, Pieced, pieced, piece}
use Rattle.sia.specs.declared.Op.TheVariants.{Read, Write, Copy, Swap, Truncate}
use Rattle.sia.specs.declared.Op.{Op}
use Rattle.sia.specs.declared.Operand.{Operand}
use Rattle.sia.specs.declared.Instruction.{Instruction}
use Rattle.sia.specs.declared.Head.{Head}
use Rattle.host.specs.declared.Prices.{Prices}
use Rattle.host.specs.declared.Host.{Host}

-- what the definitions give is a function of a number that it does not look at, so that it is computed only where the theorem asks
pub record Row : Type 0 where
  pub gives : ℕ → List ℕ
  pub says : List ℕ

abbrev row : (ℕ → List ℕ) → List ℕ → Row
row g s = record { gives = g; says = s }

-- ---- the bench

-- "Prices: Init 7, Memory 1, ReadBase 3, ReadLength 2, WriteBase 5, WriteLength 4, TruncateBase 6."
unfoldable pub prices : Prices
prices = record { init = 7; memory = 1; readbase = 3; readlength = 2; writebase = 5; writelength = 4; truncatebase = 6 }

-- "budget 1,000,000,000"
abbrev pub plenty : ℕ
plenty = 1000000000

unfoldable pub id : List ℕ
id = replicate 32 1

unfoldable pub operand : ℕ → ℕ → Operand
operand at n = record { offset = at; len = n }

unfoldable pub instruction : Op → List Operand → Instruction
instruction op os = record { name = name_of op; count = length os; operands = filled 4 no_operand os; proof = false }

unfoldable pub program : List Instruction → ℕ → Head
program is n = record { contract = id; count = length is; instructions = filled 32 no_instruction is; length = n }

-- "disk 8 sectors, stage 4, .. parent empty at the start"
unfoldable pub host : Host
host = (formed (freshed 4096 32768 16384).host id).host

-- "One sector"
unfoldable pub sector_host : Host
sector_host = with_places host (record { held = true; id = id; size = 4096; slots = zeros 64 } ∷ drop 1 host.places)

-- "output 16,384"; no byte of stage, input and output is 0 at the start, so that a 0 there is one that was written
unfoldable pub start : Host → ℕ → Head → Pieced
start h budget hd =
    let others : ℕ → List ℕ = λ n. replicate n 170 in
    pieced 0 0 (opened h (encode hd) budget prices 16384).host (others 16384) (others hd.length) (others 16384)

unfoldable pub given : Pieced → List ℕ → Pieced
given w bytes = piece (zeros 32768) w.host w.stage w.input w.output bytes

-- all data in one piece
unfoldable pub ran : Host → ℕ → Head → List ℕ → Pieced
ran h budget hd bytes = given (start h budget hd) bytes

unfoldable pub failed : Pieced → ℕ
failed w = pick (program_of w.host).progress.failed 1 0

unfoldable pub written : Pieced → ℕ
written w = (program_of w.host).progress.written

unfoldable pub records : Pieced → ℕ
records w = (program_of w.host).progress.ran + failed w

-- records after so many bytes, which come as one piece: by `cutting` it does not matter how they come
unfoldable pub counts : Head → List ℕ → List ℕ → List ℕ
counts hd bytes ns = each (λ n. records (ran host plenty hd (take n bytes))) ns

-- how many records there are, whether the program failed, and the number of the first record
unfoldable pub first : Pieced → List ℕ
first w = records w ∷ failed w ∷ take 8 w.output

unfoldable pub contracts : Host → ℕ
contracts h = length (those (λ p. p.held) h.places)

-- ---- the programs

unfoldable pub grow : ℕ → Instruction
grow at = instruction Truncate (operand at 8 ∷ [])

-- "Truncate(4,096) alone, 8 data bytes"
unfoldable pub alone : Head
alone = program (grow 0 ∷ []) 8

-- "Truncate at 0..8, then Write of 64 bytes at 8..16 and 16..88"
unfoldable pub grow_write : Head
grow_write = program (grow 0 ∷ instruction Write (operand 8 8 ∷ operand 16 72 ∷ []) ∷ []) 88

unfoldable pub grow_write_data : List ℕ
grow_write_data = le8 4096 ++ (le8 0 ++ (le8 64 ++ replicate 64 9))

-- "Write's inputs at 0..80, Truncate's at 80..88, Truncate first"
unfoldable pub late_grow : Head
late_grow = program (grow 80 ∷ instruction Write (operand 0 8 ∷ operand 8 72 ∷ []) ∷ []) 88

unfoldable pub late_grow_data : List ℕ
late_grow_data = le8 0 ++ (le8 64 ++ (replicate 64 9 ++ le8 4096))

-- "On 1 2 3 4": a sector that begins so, then an instruction of three numbers
unfoldable pub on_four : Op → Head
on_four op =
    program (grow 0
    ∷ instruction Write (operand 8 8 ∷ operand 16 12 ∷ [])
    ∷ instruction op (operand 28 8 ∷ operand 36 8 ∷ operand 44 8 ∷ []) ∷ []) 52

unfoldable pub on_four_data : ℕ → ℕ → ℕ → List ℕ
on_four_data a b c = le8 4096 ++ (le8 0 ++ (le8 4 ++ (1 ∷ 2 ∷ 3 ∷ 4 ∷ le8 a ++ (le8 b ++ le8 c))))

unfoldable pub read_span : Head
read_span = program (instruction Read (operand 0 32 ∷ operand 32 8 ∷ operand 40 8 ∷ []) ∷ []) 48

unfoldable pub read_span_data : ℕ → ℕ → List ℕ
read_span_data at n = id ++ (le8 at ++ le8 n)

-- ---- the table

-- "Truncate(4,096) alone, 8 data bytes: head 89 bytes, tally 5,242,933; that budget suffices."
unfoldable pub alone_row : Row
alone_row =
    row (λ _. length (encode alone) ∷ (ran host plenty alone (le8 4096)).tally ∷ first (ran host 5242933 alone (le8 4096)))
    (89 ∷ 5242933 ∷ 1 ∷ 0 ∷ le8 0)

-- "Budget 5,242,932, empty contract: 28, tally 7. Whole record: 1C, then 71 zero bytes.": 72 bytes are written, and the next is as it was
unfoldable pub budget_row : Row
budget_row =
    row (λ _. let w = ran host 5242932 alone (le8 4096) in written w ∷ w.tally ∷ take 73 w.output)
    (72 ∷ 7 ∷ 28 ∷ zeros 71 ++ (170 ∷ []))

-- "records after 7, 8, 87, 88 bytes are 0, 1, 1, 2; tally 26,216,874."
unfoldable pub need_row : Row
need_row =
    row (λ _. (ran host plenty grow_write grow_write_data).tally ∷ counts grow_write grow_write_data (7 ∷ 8 ∷ 87 ∷ 88 ∷ []))
    (26216874 ∷ 0 ∷ 1 ∷ 1 ∷ 2 ∷ [])

-- "0 records at 87, 2 at 88."
unfoldable pub late_row : Row
late_row = row (λ _. counts late_grow late_grow_data (87 ∷ 88 ∷ [])) (0 ∷ 2 ∷ [])

-- "On 1 2 3 4: Copy(1, 0, 3) gives 1 1 2 3."
unfoldable pub copy_row : Row
copy_row = row (λ _. take 4 (ran host plenty (on_four Copy) (on_four_data 1 0 3)).stage) (1 ∷ 1 ∷ 2 ∷ 3 ∷ [])

-- "Same bytes: Swap(0, 1, 3) gives 2 3 4 3."
unfoldable pub swap_row : Row
swap_row = row (λ _. take 4 (ran host plenty (on_four Swap) (on_four_data 0 1 3)).stage) (2 ∷ 3 ∷ 4 ∷ 3 ∷ [])

-- "One sector: Read 4,095 for 1 passes, for 2 gives 26."
unfoldable pub span_row : Row
span_row =
    row (λ _. first (ran sector_host plenty read_span (read_span_data 4095 1)) ++ first (ran sector_host plenty read_span (read_span_data 4095 2)))
    (1 ∷ 0 ∷ le8 0 ++ (1 ∷ 1 ∷ le8 26))

-- "From 0, Truncate to 4,095 or 8,192: 26."
unfoldable pub size_row : Row
size_row =
    row (λ _. first (ran host plenty alone (le8 4095)) ++ first (ran host plenty alone (le8 8192)))
    (1 ∷ 1 ∷ le8 26 ++ (1 ∷ 1 ∷ le8 26))

-- "Proof hashes: 64 segments, range 0..1, 6; 0..64, none; 128 segments, 63..65, 12; 192 segments, 128..129, 7, and 0..1, 8."
unfoldable pub proof_row : Row
proof_row = row (λ _. count 64 0 1 ∷ count 64 0 64 ∷ count 128 63 65 ∷ count 192 128 129 ∷ count 192 0 1 ∷ []) (6 ∷ 0 ∷ 12 ∷ 7 ∷ 8 ∷ [])

-- "Ids equal but for byte 31 form two contracts."
unfoldable pub id_row : Row
id_row = row (λ _. (formed host (set id 31 2)).number ∷ contracts (formed host (set id 31 2)).host ∷ []) (0 ∷ 2 ∷ [])

unfoldable pub table : List Row
table = alone_row ∷ budget_row ∷ need_row ∷ late_row ∷ copy_row ∷ swap_row ∷ span_row ∷ size_row ∷ proof_row ∷ id_row ∷ []
