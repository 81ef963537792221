-- A run with other ids, another head and other data that come to the same: what was read and formed decides, and of data that passes the
-- declared length only that. Assumes nothing.
use Rattle.lists.proofs.Kit.{◌≡◌, sym, ap, ◌∙◌, not, List, ◌++◌, ℕ, ◌+◌, ◌≤◌, ◌<◌, arith, length, take, drop, ltb, eqb, leb, take_all, length-take-le}
use Rattle.lists.proofs.Kit.{lt-ltb, eqb-true, leb-true, leb-false}
use Rattle.lists.specs.Pick.{pick}
use Rattle.lists.proofs.Laws.Pick.{by, picks, skips}
use Rattle.host.specs.With.{with_program}
use Rattle.host.specs.Calls.{freshed}
use Rattle.sia.specs.Decode.{decode}
use Rattle.machine_rules.specs.Calls.{begun, opened_head, opened, Pieced, pieced, piece_lent, refusal, accepted, piece_by, piece}
use Rattle.machine_rules.proofs.Opening.{opens}
use Rattle.bench_program.specs.Single as Says
use Rattle.bench_program.specs.Single.{Ran, ran, ids_in, formed_in_turn, ended, shown, given, run}
use Rattle.bench_input.proofs.Laws.Heads.{declared-most}
use Rattle.sia.specs.Decode.{Told}
use Rattle.host.specs.declared.Prices.{Prices}
use Rattle.host.specs.declared.Host.{Host}
use Rattle.host.specs.Calls.{Made}
use Rattle.machine_rules.specs.Calls.{Answer}

-- ---- data that passes the declared length

module _ (disk : List ℕ) (h : Host) (stage input output : List ℕ) where
  -- 12, where no check ahead of it applies
  abbrev passing : List ℕ → Pieced
  passing bytes =
      pick (ltb h.program.terms.head.length (h.program.came + length bytes)) (pieced 12 0 h stage input output)
      (accepted disk h stage input output bytes)

  twelve : (b : List ℕ) → h.program.terms.head.length < length b → passing b ≡ pieced 12 0 h stage input output
  twelve b g = picks _ _ _ (lt-ltb h.program.terms.head.length (h.program.came + length b) (omega arith))

  piece-long : (b c : List ℕ) → h.program.terms.head.length < length b → h.program.terms.head.length < length c
      → piece disk h stage input output b ≡ piece disk h stage input output c
  unfolding piece_by
  piece-long b c f g =
      let n = refusal h (piece_lent h disk stage input output) in
      ap (λ (x : Pieced). pick (not (eqb n 0)) (pieced n 0 h stage input output) x) (twelve b f ∙ sym (twelve c g))

given-long : (h : Host) (b c disk stage input output : List ℕ) → h.program.terms.head.length < length b → h.program.terms.head.length < length c
    → given h b disk stage input output ≡ given h c disk stage input output
unfolding given
given-long h b c disk stage input output f g =
    let n : ℕ = h.program.terms.head.length in
    ap (λ (r : Pieced).
    let area = r.input ++ drop n input in
    let e = ended disk r.host r.stage in
    pick (not (eqb r.number 0)) (ran r.number 0 r.host disk r.stage area r.output)
    (ran e.number (shown e.number r.host.program.progress.written) e.host e.disk r.stage area r.output))
    (piece-long disk h stage (take n input) output b c f g)

module _ (h : Host) (prices : Prices) (budget : ℕ) (head : List ℕ) where
  -- a program that is open declares at most 65,536 bytes
  opened-most : (room : ℕ) → (opened h head budget prices room).number ≡ 0 → (opened h head budget prices room).host.program.terms.head.length ≤ 65536
  unfolding opened with_program begun
  opened-most room e =
      let q = opens h (decode head).number (decode head).head budget prices room e in
      omega (arith, declared-most head, ap (λ (a : Answer). a.host.program.terms.head.length) q.1)

  begun-long : (b c disk stage input output : List ℕ) → 65536 < length b → 65536 < length c
      → Says.begun h prices budget head b disk stage input output ≡ Says.begun h prices budget head c disk stage input output
  unfolding Says.begun
  begun-long b c disk stage input output f g =
      by (eqb (opened h head budget prices (length output)).number 0)
      (λ e.
      let most = opened-most (length output) (eqb-true _ 0 e) in
      skips _ _ _ (ap not e)
      ∙ given-long (opened h head budget prices (length output)).host b c disk stage input output (omega (arith, most)) (omega (arith, most))
      ∙ sym (skips _ _ _ (ap not e)))
      (λ e. picks _ _ _ (ap not e) ∙ sym (picks _ _ _ (ap not e)))

  -- the first 65,537 bytes are enough
  begun_first : (bytes disk stage input output : List ℕ)
      → Says.begun h prices budget head (take 65537 bytes) disk stage input output ≡ Says.begun h prices budget head bytes disk stage input output
  begun_first bytes disk stage input output =
      by (leb (length bytes) 65537)
      (λ u. ap (λ (b : List ℕ). Says.begun h prices budget head b disk stage input output) (take_all 65537 bytes (leb-true _ 65537 u)))
      (λ u.
      let long : 65537 < length bytes = leb-false (length bytes) 65537 u in
      begun-long (take 65537 bytes) bytes disk stage input output (omega (arith, length-take-le 65537 bytes (omega arith))) (omega arith))

-- ---- another head that is read as the same

begun-read : (h : Host) (prices : Prices) (budget : ℕ) (head other bytes disk stage input output : List ℕ) → decode head ≡ decode other
    → Says.begun h prices budget head bytes disk stage input output ≡ Says.begun h prices budget other bytes disk stage input output
unfolding Says.begun opened
begun-read h prices budget head other bytes disk stage input output e =
    ap (λ (t : Told).
    let r = opened_head h t.number t.head budget prices (length output) in
    pick (not (eqb r.number 0)) (ran r.number 0 r.host disk stage input output) (given r.host bytes disk stage input output)) e

-- ---- all of it

module _ (z : ℕ) (prices : Prices) (budget : ℕ) (ids other head read bytes disk stage input output : List ℕ) where
  pub run-alike : formed_in_turn (freshed z (length disk) (length stage)).host (ids_in ids)
      ≡ formed_in_turn (freshed z (length disk) (length stage)).host (ids_in other)
      → decode head ≡ decode read
      → run z prices budget ids head (take 65537 bytes) disk stage input output ≡ run z prices budget other read bytes disk stage input output
  unfolding run
  run-alike p q =
      let f = freshed z (length disk) (length stage) in
      let whole : Made → Ran → Ran = λ r x.
      pick (not (eqb f.number 0)) (ran f.number 0 f.host disk stage input output)
      (pick (not (eqb r.number 0)) (ran r.number 0 r.host disk stage input output) x) in
      let r : Made = formed_in_turn f.host (ids_in other) in
      ap (λ (r : Made). whole r (Says.begun r.host prices budget head (take 65537 bytes) disk stage input output)) p
      ∙ ap (whole r)
      (begun_first r.host prices budget head bytes disk stage input output ∙ begun-read r.host prices budget head read bytes disk stage input output q)
