-- The promise to the layers above: a digest is as long as was asked for, and its elements are bytes. Assumes nothing.
use Rattle.lists.proofs.Kit.{sym, ap, ◌∙◌, subst, List, [], ◌∷◌, ℕ, arith, length, length-take-le}
use Rattle.area.specs.Little.{Bytes, bytes_of}
use Rattle.area.proofs.Laws.Little.{bytes_below, append-below, take_below}
use Rattle.blake2b.specs.Blake2b.{bytes, keyed, before, start, finished, blake2b, opened}
use Rattle.blake2b.specs.Promise.{Digest}
use Rattle.blake2b.proofs.Laws.Data.{length-absorbed, length-state}

state-below : (h : List ℕ) → Bytes (bytes h)
unfolding bytes Bytes
state-below [] i = omega arith
state-below (x ∷ xs) i = append-below (bytes_of 8 x) (bytes xs) (bytes_below 8 x) (state-below xs) i

pub promise : Digest blake2b
promise =
    let h : ℕ → List ℕ → List ℕ → List ℕ = λ nn key message. finished (keyed key message) (start nn (length key)) in
    record {
      long = λ nn key message few.
          ap length (opened nn key message)
          ∙ length-take-le nn (bytes (h nn key message))
          (omega (arith, length-state (h nn key message), length-absorbed (before (keyed key message)) 0 (keyed key message) (start nn (length key))));
      bytes = λ nn key message.
          subst (λ (l : List ℕ). Bytes l) (sym (opened nn key message)) (take_below nn (bytes (h nn key message)) (state-below (h nn key message)));
    }
