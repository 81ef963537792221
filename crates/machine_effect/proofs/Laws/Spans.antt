-- Spans read, written, copied and exchanged as the code does it, in terms of the definitions. z is the sector size. Assumes nothing.
use Rattle.lists.proofs.Kit.{◌≡◌, refl, sym, ap, ◌∙◌, subst, true, false, List, ℕ, ◌+◌, ◌*◌, ◌/◌, ◌%◌, ◌≤◌, arith, length, get_or}
use Rattle.lists.proofs.Laws.Entries.{any-default}
use Rattle.area.specs.Area.{part, put, exchanged}
use Rattle.area.proofs.Laws.Parts.{length_part, part-part}
use Rattle.host.specs.Empty.{none}
use Rattle.machine_rules.specs.Effect.{Ground, Staging, copied, span_read, laid, span_written}
use Rattle.machine_rules.proofs.Laws.Copies.{length-copied as length-map}
use Rattle.machine_rules.proofs.Laws.Copies.{copied-map}
use Rattle.machine_effect.specs.Parts.{staging, place_of, span_copied, spans_swapped}
use Rattle.machine_effect.specs.Asks.{bare, Lent, Lies, Room, From, Over, Two}
use Rattle.machine_effect.proofs.Laws.Copies.{on_disk, reads-disk, reads-stage}
use Rattle.machine_effect.proofs.Laws.Kept.{Has, has, lent-copied, lies-copied, has-copied, still, sector-copied, laid-copied}

-- ---- what is read of a span

pub span-disk : (z : ℕ) (e : Ground) (at n : ℕ) (g : Staging) → bare (at / z) g ≡ true → at % z + n ≤ z
    → span_read z e at n g ≡ part e.disk (get_or e.slots (at / z) 0 * z + at % z) n
unfolding span_read on_disk
span-disk z e at n g h le =
    ap (λ (l : List ℕ). part l (at % z) n) (reads-disk z e (at / z) g h)
    ∙ part-part e.disk (get_or e.slots (at / z) 0 * z) z (at % z) n le

pub span-stage : (z : ℕ) (e : Ground) (at n : ℕ) (g : Staging) → bare (at / z) g ≡ false → at % z + n ≤ z
    → span_read z e at n g ≡ part g.bytes (place_of z g.staged at) n
unfolding span_read
span-stage z e at n g h le =
    ap (λ (l : List ℕ). part l (at % z) n) (reads-stage z e (at / z) g h)
    ∙ part-part g.bytes (get_or g.staged (at / z) none * z) z (at % z) n le

-- it stays when a copy is made
span-copied : (z : ℕ) (e : Ground) (g : Staging) (p at n : ℕ) → Lent z e g → Room z e g p → length g.staged ≡ 64
    → span_read z e at n (copied z e p g) ≡ span_read z e at n g
unfolding span_read
span-copied z e g p at n lent room l = ap (λ (b : List ℕ). part b (at % z) n) (sector-copied z e g p lent room l (at / z))

-- ---- the code after `copied`: h is what it left

-- a span of a position that has a copy lies within the stage
pub place-fits : (z : ℕ) (h : Staging) (at n : ℕ) → Has z h (at / z) → at % z + n ≤ z → place_of z h.staged at + n ≤ length h.bytes
place-fits z h at n k le = omega (arith, k.ends, le)

module _ (z : ℕ) (e : Ground) (g h : Staging) (at : ℕ) (made : h ≡ copied z e (at / z) g) where
  -- bytes laid at a span's place
  pub written : {after : List ℕ} {k : ℕ} (bs : List ℕ) → k ≡ place_of z h.staged at → after ≡ put h.bytes k bs
      → staging h.staged after ≡ span_written z e at bs g
  unfolding span_written laid
  written bs place b = (λ x. staging h.staged (b x)) ∙ (λ x. staging h.staged (put h.bytes (place x) bs)) ∙ ap (laid z at bs) made

  module _ (n : ℕ) (lent : Lent z e g) (over : Over z e g at n) (l : length g.staged ≡ 64) where
    pub lent-made : Lent z e h
    lent-made = subst (Lent z e) (sym made) (lent-copied z e g (at / z) lent over.room)

    pub has-made : Has z h (at / z)
    has-made = subst (λ (x : Staging). Has z x (at / z)) (sym made) (has-copied z e g (at / z) lent over.room l)

    pub written-fits : place_of z h.staged at + n ≤ length h.bytes
    written-fits = place-fits z h at n has-made over.within

    -- ---- Copy

    module _ (from : ℕ) (source : From z e g from n) where
      lies_made : Lies z e h (from / z)
      lies_made = subst (λ (x : Staging). Lies z e x (from / z)) (sym made) (lies-copied z e g (at / z) lent over.room (from / z) source.lies)

      read_made : span_read z e from n h ≡ span_read z e from n g
      read_made = ap (span_read z e from n) made ∙ span-copied z e g (at / z) from n lent over.room l

      -- from the stage
      pub moved-fits : bare (from / z) h ≡ false → place_of z h.staged from + n ≤ length h.bytes
      moved-fits b = place-fits z h from n (has z e h (from / z) lent-made b) source.within

      pub moved : {after : List ℕ} {k j : ℕ} → bare (from / z) h ≡ false → k ≡ place_of z h.staged at → j ≡ place_of z h.staged from
          → after ≡ put h.bytes k (part h.bytes j n) → staging h.staged after ≡ span_copied z e at from n g
      moved {after} {k} {j} b place other q =
          written (span_read z e from n g) place
          (q ∙ ap (put h.bytes k) (ap (λ (x : ℕ). part h.bytes x n) other ∙ sym (span-stage z e from n h b source.within) ∙ read_made))

      -- from the disk
      module _ (known : length e.slots ≡ 64) (b : bare (from / z) h ≡ true) where
        slot-known : get_or e.slots (from / z) none ≡ get_or e.slots (from / z) 0
        slot-known = any-default e.slots (from / z) none 0 (omega (arith, known, source.lies.entry))

        pub fetched-fits : place_of z e.slots from + n ≤ length e.disk
        fetched-fits = rw slot-known (omega (arith, lies_made.there b, source.within))

        pub fetched : {after : List ℕ} {k j : ℕ} → k ≡ place_of z h.staged at → j ≡ place_of z e.slots from
            → after ≡ put h.bytes k (part e.disk j n) → staging h.staged after ≡ span_copied z e at from n g
        fetched {after} {k} {j} place other q =
            let there : j ≡ get_or e.slots (from / z) 0 * z + from % z = other ∙ ap (λ (x : ℕ). x * z + from % z) slot-known in
            written (span_read z e from n g) place
            (q ∙ ap (put h.bytes k) (ap (λ (x : ℕ). part e.disk x n) there ∙ sym (span-disk z e from n h b source.within) ∙ read_made))

-- ---- Swap: both positions get their copies, the second's first, and the spans are exchanged in place

laid-twice : (z one two : ℕ) (bs cs : List ℕ) (h : Staging)
    → laid z one cs (laid z two bs h) ≡ staging h.staged (put (put h.bytes (place_of z h.staged two) bs) (place_of z h.staged one) cs)
unfolding laid
laid-twice z one two bs cs h = refl

length-copied : (z : ℕ) (e : Ground) (g : Staging) (p : ℕ) → length (copied z e p g).staged ≡ length g.staged
length-copied z e g p = ap length (copied-map z e p g) ∙ length-map e.copies p g.staged

pub over_first : (z : ℕ) (e : Ground) (g f : Staging) (one two n : ℕ) → f ≡ copied z e (two / z) g → Two z e g one two n → Over z e f one n
over_first z e g f one two n first both = subst (λ (x : Staging). Over z e x one n) (sym first) both.first

module _ (z : ℕ) (e : Ground) (g f h : Staging) (one two n : ℕ) (first : f ≡ copied z e (two / z) g) (second : h ≡ copied z e (one / z) f)
    (lent : Lent z e g) (both : Two z e g one two n) (l : length g.staged ≡ 64) where
  over-one : Over z e f one n
  over-one = over_first z e g f one two n first both

  lent-first : Lent z e f
  lent-first = lent-made z e g f two first n lent both.second l

  long-first : length f.staged ≡ 64
  long-first = ap (λ (x : Staging). length x.staged) first ∙ length-copied z e g (two / z) ∙ l

  has_one : Has z h (one / z)
  has_one = has-made z e f h one second n lent-first over-one long-first

  two-first : bare (two / z) f ≡ false
  two-first = (has-made z e g f two first n lent both.second l).copy

  has-two : Has z h (two / z)
  has-two =
      has z e h (two / z) (lent-made z e f h one second n lent-first over-one long-first)
      (ap (bare (two / z)) second ∙ still z e f (one / z) lent-first over-one.room (two / z) two-first)

  pub one-fits : place_of z h.staged one + n ≤ length h.bytes
  one-fits = place-fits z h one n has_one over-one.within

  pub two_fits : place_of z h.staged two + n ≤ length h.bytes
  two_fits = place-fits z h two n has-two both.second.within

  read-both : (at : ℕ) → span_read z e at n g ≡ span_read z e at n h
  read-both at =
      sym (span-copied z e g (two / z) at n lent both.second.room l) ∙ ap (span_read z e at n) (sym first)
      ∙ sym (span-copied z e f (one / z) at n lent-first over-one.room long-first) ∙ ap (span_read z e at n) (sym second)

  read_one : span_read z e one n g ≡ part h.bytes (place_of z h.staged one) n
  read_one = read-both one ∙ span-stage z e one n h has_one.copy over-one.within

  read-two : span_read z e two n g ≡ part h.bytes (place_of z h.staged two) n
  read-two = read-both two ∙ span-stage z e two n h has-two.copy both.second.within

  long-one : length (span_read z e one n g) ≡ n
  long-one = ap length read_one ∙ length_part h.bytes (place_of z h.staged one) n one-fits

  pub swapped : {after : List ℕ} {k j : ℕ} → k ≡ place_of z h.staged one → j ≡ place_of z h.staged two → after ≡ exchanged h.bytes k j n
      → staging h.staged after ≡ spans_swapped z e one two n g
  unfolding exchanged span_written
  swapped p q b =
      (λ x. staging h.staged (b x))
      ∙ (λ x. staging h.staged (exchanged h.bytes (p x) (q x) n))
      ∙ sym (λ x. staging h.staged (put (put h.bytes (place_of z h.staged two) (read_one x)) (place_of z h.staged one) (read-two x)))
      ∙ sym (laid-twice z one two (span_read z e one n g) (span_read z e two n g) h)
      ∙ ap (λ (x : Staging). laid z one (span_read z e two n g) (laid z two (span_read z e one n g) x)) second
      ∙ ap (laid z one (span_read z e two n g))
      (sym (laid-copied z e f (one / z) lent-first over-one.room two (span_read z e one n g) two-first (omega (arith, long-one, both.second.within)))
      ∙ ap (λ (x : Staging). copied z e (one / z) (laid z two (span_read z e one n g) x)) first)
