-- On a sound host the roots that are told are those of the bytes. Assumes nothing.
use Rattle.lists.proofs.Kit.{◌≡◌, refl, sym, ap, ◌∙◌, true, List, [], ◌∷◌, ℕ, ◌*◌, ◌/◌, ◌^◌, ◌≤◌, zero-mul, mul-le-mul_right, arith}
use Rattle.lists.proofs.Kit.{length}
use Rattle.lists.specs.Tests.{every}
use Rattle.lists.proofs.Laws.Tab.{length-tab}
use Rattle.lists.proofs.Laws.Each.{length-each}
use Rattle.area.specs.Slots.{Size}
use Rattle.tree.specs.Tree as Tree
use Rattle.host.specs.Places.{whose, committed}
use Rattle.host.specs.Calls.{freshed}
use Rattle.machine_rules.specs.View.{kept, worked, areas_right, parent, sector, spot_of, parent_spots, committed_spots, Volume, setting_of, volume_by, volume_of}
use Rattle.machine_rules.specs.declared.Setting.{Setting}
use Rattle.machine_rules.specs.Roots.{root_by, root_of, root_on_disk}
use Rattle.machine_rules.specs.Record.{pair_of, running_pair}
use Rattle.machine_rules.specs.Facts.{Solid, valid}
use Rattle.machine_rules.specs.Calls.{Pieced}
use Rattle.machine_rules.specs.Visit.{Areas, opens, gives, Ready, Sound}
use Rattle.machine_rules.specs.KeptRoots.{Faithful, Bytewise, Sounds}
use Rattle.machine_rules.specs.Trace.{lent_to, sectors_of, running, running_sectors, fed_by}
use Rattle.machine_rules.proofs.Laws.Outputs.{sector-length}
use Rattle.machine_rules.proofs.Laws.Worked.{contract-worked, proof-worked}
use Rattle.machine_rules.proofs.Laws.Taking.{order-solid, order-good, areas-stage}
use Rattle.machine_rules.proofs.Laws.Spots.{disk-valid, whose-every, parent-valid}
use Rattle.machine_rules.proofs.Laws.Few.{few-whose}
use Rattle.machine_rules.proofs.Arrays.{fresh, kept as keeps}
use Rattle.machine_rules.proofs.Laws.Readers.{root-agree, all-committed, with_way, known-disk}
use Rattle.machine_rules.proofs.Laws.Copies.{few-sectors}
use Rattle.host.specs.declared.Host.{Host}
use Rattle.machine_rules.proofs.Sound.Parts.{sound-order, sound-disk}
use Rattle.machine_rules.proofs.Sound.Programs.{piece-alike, records-alike, interrupt-alike, pair-alike, reached-alike, close-alike}
use Rattle.machine_rules.proofs.Sound.After.{piece-sound, interrupt-sound, close-sound}
use Rattle.machine_rules.proofs.Sound.Contracts.{formed-sound, dropped-sound, opened-sound, fresh-sound}
use Rattle.host.specs.declared.Progress.{Progress}
use Rattle.machine_rules.specs.declared.Pair.{Pair}
use Rattle.machine_rules.specs.declared.Spot.{Spot}
use Rattle.machine_rules.specs.declared.Spot.TheVariants.{OnDisk}

-- ---- the statements

-- a sound host can be called
sound-ready : (h : Host) (disk stage : List ℕ) → Sound h disk stage → Ready h
sound-ready h disk stage s = record { order = sound-order disk h stage s.right; declared = s.declared }

-- Every call leaves a sound host sound.
pub sounds : (h : Host) (a : Areas) → Sound h a.disk a.stage → Sounds h a
sounds h a s =
    let d = s.declared in
    let e = s.right in
    let k = keeps h a (sound-ready h a.disk a.stage s) in
    record {
      forming = λ id. record { declared = (k.forming id).declared; right = formed-sound a.disk h a.stage e id };
      dropping = λ id. record { declared = (k.dropping id).declared; right = dropped-sound a.disk h a.stage e id };
      opening = λ o b. record {
        declared = (k.opening o b).declared;
        right = opened-sound a.disk h a.stage e o.bytes o.budget o.prices o.room d b;
      };
      piece = λ b. record { declared = (k.piece b).declared; right = piece-sound h a s b };
      interrupt = record { declared = k.interrupt.declared; right = interrupt-sound h a s };
      closing = λ g. record { declared = (k.closing g).declared; right = close-sound h a s g };
    }

pub made-sound : (z d s : ℕ) (disk stage : List ℕ) → (freshed z d s).number ≡ 0 → Sound (freshed z d s).host disk stage
made-sound z d s disk stage e = record { declared = (fresh z d s e).declared; right = fresh-sound z d s disk stage e }

fed-alike : (disk : List ℕ) (w : Pieced) (bs : List (List ℕ)) → Sound w.host disk w.stage
    → fed_by kept disk w bs ≡ fed_by worked disk w bs
unfolding fed_by
fed-alike disk w [] s = refl
fed-alike disk w (b ∷ bs) s =
    let a : Areas = record { disk = disk; stage = w.stage; input = w.input; output = w.output } in
    fed-alike disk (gives w.host a b) bs ((sounds w.host a s).piece b)
    ∙ ap (λ (x : Pieced). fed_by worked disk x bs) (piece-alike w.host a s b)

few-segments : (z n : ℕ) (size : Size z) → n ≤ 64 → n * 2 ^ size.depth ≤ 2 ^ 64
few-segments z n size few = let hi = mul-le-mul_right {m = n} {n = 64} (2 ^ size.depth) few in omega (arith, hi, size.segments, size.most)

-- And document 01 is what they give with roots worked out.
pub bytewise : (s : Setting) (vol : Volume) (stage : List ℕ) (l : List Spot) → Solid s vol → length stage ≡ s.stagesectors * s.sector → every (valid s) l
    ≡ true → length l ≤ 64
    → Bytewise s vol stage l
bytewise s vol stage l solid e v few =
    let size = solid.lent.size in
    let long : (x : Spot) → valid s x ≡ true → length (sector s.sector vol.disk stage x) ≡ s.sector = λ x u. sector-length s vol stage x
    solid.disk e u in
    let most = few-segments s.sector (length l) size few in
    record {
      root = contract-worked s.sector size.depth size.segments vol.disk stage (valid s) long l v most;
      proof = proof-worked s.sector size.depth size.segments vol.disk stage (valid s) long l v most;
    }

parent-long : (s : Setting) (p : Progress) → length (parent_spots s p) ≡ p.size / s.sector
unfolding parent_spots
parent-long s p = length-tab 0 (p.size / s.sector) (spot_of (parent s).slots p.staged)

-- the root of the running pair is that of the parent's bytes
running-bytes : (h : Host) (a : Areas) → Sound h a.disk a.stage → areas_right h a.disk a.stage ≡ true → h.program.active ≡ true
    → (running h a).root ≡ Tree.root (running_sectors h a)
unfolding running_pair root_of root_by volume_by parent_spots parent
running-bytes h a s areas live =
    let g = order-good h (sound-order a.disk h a.stage s.right) live s.declared.staged in
    let solid = order-solid h a.disk a.stage (sound-order a.disk h a.stage s.right) areas in
    let few = few-sectors (setting_of h) h.program.progress solid.lent g in
    ap (λ (x : Pair). x.root) (pair-alike h a s live)
    ∙ (bytewise (setting_of h) (volume_of h a.disk) a.stage (parent_spots (setting_of h) h.program.progress) solid
    (areas-stage h a.disk a.stage areas)
    (parent-valid (setting_of h) (volume_of h a.disk) h.program.progress solid g.orderly.staged (omega (arith, few, g.entries)))
    (omega (arith, few, parent-long (setting_of h) h.program.progress))).root

few-held : (h : Host) (disk id : List ℕ) → Solid (setting_of h) (volume_of h disk) → length (committed_spots h.sector (whose id h.places)) ≤ 64
unfolding committed_spots volume_by
few-held h disk id solid = omega (arith, length-each OnDisk (committed h.sector (whose id h.places)), few-whose h.sector id h.places solid.small)

-- committed sectors are on the disk, so a stage of no slots will do
abbrev unlent : Host → Setting
unlent h = record { sector = h.sector; disksectors = h.disk; stagesectors = 0; places = h.places; terms = h.program.terms }

held-valid : (h : Host) (disk id : List ℕ) → Solid (setting_of h) (volume_of h disk) → every (valid (unlent h))
    (committed_spots h.sector (whose id h.places)) ≡ true
unfolding committed_spots volume_by
held-valid h disk id solid = disk-valid (unlent h) (committed h.sector (whose id h.places)) (whose-every _ h.sector id h.places solid.slots)

-- the root of a contract is that of its bytes
held_bytes : (h : Host) (a : Areas) → Sound h a.disk a.stage → areas_right h a.disk a.stage ≡ true → (id : List ℕ)
    → (pair_of h.sector (root_on_disk (setting_of h) (volume_of h a.disk)) (whose id h.places)).root
    ≡ Tree.root (sectors_of h.sector a.disk (whose id h.places))
unfolding pair_of sectors_of root_of root_by volume_by with_way
held_bytes h a s areas id =
    let solid = order-solid h a.disk a.stage (sound-order a.disk h a.stage s.right) areas in
    root-agree (root_on_disk (setting_of h) (volume_by kept h a.disk)) (root_on_disk (setting_of h) (volume_by worked h a.disk))
    (committed_spots h.sector (whose id h.places))
    (all-committed (setting_of h) _ (known-disk (setting_of h) (volume_of h a.disk) [] []
    (sound-disk a.disk h a.stage s.right)) id)
    ∙ contract-worked h.sector solid.lent.size.depth solid.lent.size.segments a.disk [] (valid (unlent h))
    (λ x u. sector-length (unlent h) (volume_of h a.disk) [] x solid.disk (sym (zero-mul h.sector)) u)
    (committed_spots h.sector (whose id h.places)) (held-valid h a.disk id solid)
    (few-segments h.sector (length (committed_spots h.sector (whose id h.places))) solid.lent.size (few-held h a.disk id solid))

-- For a sound host the kept roots give document 01.
pub faithful : (h : Host) (a : Areas) → Sound h a.disk a.stage → Faithful h a
faithful h a s =
    record {
      piece = piece-alike h a s;
      interrupt = interrupt-alike h a s;
      reached = reached-alike h a s;
      closing = close-alike h a s;
      pieces = λ bs. fed-alike a.disk (lent_to h a) bs s;
      visits = λ o b bs. fed-alike a.disk (lent_to (opens h o).host a) bs ((sounds h a s).opening o b);
      records = records-alike h a s;
      running = running-bytes h a s;
      committed = held_bytes h a s;
    }
