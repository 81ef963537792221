-- Pieces cut anywhere: the state after them is a function of the bytes come. By induction on the pieces, from the laws of runs. Assumes nothing.
use Rattle.lists.proofs.Kit.{◌≡◌, refl, sym, ap, ◌∙◌, subst, Bool, true, false, List, [], ◌∷◌, ◌++◌, append_assoc, append-nil, ℕ, ◌+◌, ◌≤◌, ◌<◌, arith}
use Rattle.lists.proofs.Kit.{length, take, length-append, take-append_seam}
use Rattle.lists.specs.Pick.{pick}
use Rattle.area.specs.Area.{put}
use Rattle.area.proofs.Laws.Puts.{put-append, take_put}
use Rattle.host.specs.With.{with_program, with_came, with_progress, with_stage_roots}
use Rattle.machine_rules.specs.View.{Turn, turn_of, with_run, setting_of, volume_by, volume_of, Volume}
use Rattle.machine_rules.specs.declared.Setting.{Setting}
use Rattle.machine_rules.specs.Run.{run}
use Rattle.machine_rules.specs.Calls.{Pieced, pieced, accepted, piece, accepted_by, piece_by}
use Rattle.machine_rules.specs.Visit.{Areas}
use Rattle.machine_rules.specs.Trace.{together, lent_to, fed, AllAccepted, made, after, fed_by}
use Rattle.machine_rules.proofs.Laws.Steps.{run-below, run_on}
use Rattle.machine_rules.proofs.Laws.Taking.{Taking, all-accepted}
use Rattle.machine_rules.proofs.Laws.Refusals.{numbered}
use Rattle.host.specs.declared.Host.{Host}

-- a piece is accepted, or refused with a number and everything as it was
pub data Answered (w a : Pieced) (r : Pieced) : Type 0 where
  ok : r ≡ a → Answered w a r
  refused : (n : ℕ) → 0 < n → r ≡ pieced n 0 w.host w.stage w.input w.output → Answered w a r

refused-if : (w a : Pieced) (n : ℕ) (b : Bool) (r : Pieced) → (b ≡ true → 0 < n) → Answered w a r
    → Answered w a (pick b (pieced n 0 w.host w.stage w.input w.output) r)
unfolding pick
refused-if w a n true r p q = refused n (p refl) refl
refused-if w a n false r p q = q

pub piece-answers : (disk : List ℕ) (w : Pieced) (b : List ℕ)
    → Answered w (accepted disk w.host w.stage w.input w.output b) (piece disk w.host w.stage w.input w.output b)
unfolding piece_by
piece-answers disk w b = refused-if w _ _ _ _ (numbered _ _) (refused-if w _ 12 _ _ (λ _. omega arith) (ok refl))

pub answered-zero : (w a r : Pieced) → Answered w a r → r.number ≡ 0 → r ≡ a
answered-zero w a r (ok e) h = e
answered-zero w a r (refused n some e) h = absurd (let q : n ≡ 0 = sym (ap (λ (x : Pieced). x.number) e) ∙ h in omega arith)

same-made : (h : Host) (k m : ℕ) (t u : Turn) (a b : List ℕ) → k ≡ m → t ≡ u → a ≡ b → made h k t a ≡ made h m u b
same-made h k m t u a b p q r = rw (p, q, r)

accepted-made : (disk : List ℕ) (h : Host) (stage input output b : List ℕ) (c : ℕ) → h.program.came ≡ c
    → accepted disk h stage input output b ≡ made h (c + length b) (run (setting_of h) (volume_of h disk) (put input c b) (c + length b)
    (turn_of h stage output)) (put input c b)
unfolding accepted_by made
accepted-made disk h stage input output b c e =
    ap (λ (n : ℕ). made h (n + length b) (run (setting_of h) (volume_of h disk) (put input n b) (n + length b) (turn_of h stage output)) (put input n b)) e

-- a piece after others looks at the host only by what stays and by what they left
accepted-again : (disk : List ℕ) (h : Host) (k : ℕ) (t : Turn) (area b : List ℕ)
    → accepted disk (with_run h k t.progress t.roots) t.stage area t.output b
    ≡ made h (k + length b) (run (setting_of h) (volume_of h disk) (put area k b) (k + length b) t) (put area k b)
unfolding accepted_by made with_run with_stage_roots with_program with_progress with_came volume_by turn_of
accepted-again disk h k t area b = refl

module _ (h : Host) (a : Areas) (all : List ℕ) (roomy : length all ≤ length a.input) where
  first : (b rest : List ℕ) → h.program.came ≡ 0 → b ++ rest ≡ all → accepted a.disk h a.stage a.input a.output b ≡ after h a all (length b)
  unfolding after
  first b rest c e =
      let g : take (length b) all ≡ b = ap (λ (x : List ℕ). take (length b) x) (sym e) ∙ take-append_seam b rest in
      let area : put a.input 0 b ≡ put a.input 0 (take (length b) all) = ap (λ (x : List ℕ). put a.input 0 x) (sym g) in
      let k : 0 + length b ≡ length b = omega arith in
      let u : take (length b) (put a.input 0 b) ≡ take (length b) all = take_put a.input 0 b (length b) (omega arith)
      (omega (arith, length-append b rest, ap length e)) ∙ sym g in
      let r : run (setting_of h) (volume_of h a.disk) (put a.input 0 b) (0 + length b) (turn_of h a.stage a.output)
      ≡ run (setting_of h) (volume_of h a.disk) all (length b) (turn_of h a.stage a.output) =
      ap (λ (n : ℕ). run (setting_of h) (volume_of h a.disk) (put a.input 0 b) n (turn_of h a.stage a.output)) k
      ∙ run-below (setting_of h) (volume_of h a.disk) (put a.input 0 b) all (length b) (turn_of h a.stage a.output) u in
      accepted-made a.disk h a.stage a.input a.output b 0 c ∙ same-made h (0 + length b) (length b) _ _ _ _ k r area

  next : (x b rest : List ℕ) → x ++ (b ++ rest) ≡ all
      → let w = after h a all (length x) in
      accepted a.disk w.host w.stage w.input w.output b ≡ after h a all (length (x ++ b))
  unfolding after made
  next x b rest e =
      let s : Setting = setting_of h in
      let vol : Volume = volume_of h a.disk in
      let t : Turn = turn_of h a.stage a.output in
      let m : length (x ++ b) ≡ length x + length b = length-append x b in
      let gx : take (length x) all ≡ x = ap (λ (y : List ℕ). take (length x) y) (sym e) ∙ take-append_seam x (b ++ rest) in
      let gb : take (length (x ++ b)) all ≡ x ++ b = ap (λ (y : List ℕ). take (length (x ++ b)) y) (sym (append_assoc x b rest ∙ e))
      ∙ take-append_seam (x ++ b) rest in
      let area : put (put a.input 0 (take (length x) all)) (length x) b ≡ put a.input 0 (x ++ b) =
      ap (λ (y : List ℕ). put (put a.input 0 y) (length x) b) gx ∙ ap (λ (n : ℕ). put (put a.input 0 x) n b) (omega arith)
      ∙ put-append a.input 0 x b (0 + length x) refl in
      let u : take (length (x ++ b)) (put a.input 0 (x ++ b)) ≡ take (length (x ++ b)) all =
      take_put a.input 0 (x ++ b) (length (x ++ b)) (omega arith)
      (omega (arith, length-append (x ++ b) rest, ap length (append_assoc x b rest ∙ e))) ∙ sym gb in
      let r : run s vol (put (put a.input 0 (take (length x) all)) (length x) b) (length x + length b) (run s vol all (length x) t)
      ≡ run s vol all (length (x ++ b)) t =
      ap (λ (y : List ℕ). run s vol y (length x + length b) (run s vol all (length x) t)) area
      ∙ ap (λ (n : ℕ). run s vol (put a.input 0 (x ++ b)) n (run s vol all (length x) t)) (sym m)
      ∙ run-below s vol (put a.input 0 (x ++ b)) all (length (x ++ b)) (run s vol all (length x) t) u
      ∙ run_on s vol all (length x) (length (x ++ b)) t (omega arith) in
      accepted-again a.disk h (length x) (run s vol all (length x) t) (put a.input 0 (take (length x) all)) b
      ∙ same-made h _ _ _ _ _ _ (sym m) r (area ∙ ap (λ (y : List ℕ). put a.input 0 y) (sym gb))

  -- after pieces that were accepted, x before them
  on : (x : List ℕ) (bs : List (List ℕ)) (rest : List ℕ) → x ++ (together bs ++ rest) ≡ all
      → AllAccepted a.disk (after h a all (length x)) bs
      → fed a.disk (after h a all (length x)) bs ≡ after h a all (length (x ++ together bs))
  unfolding fed_by together
  on x [] rest e q = ap (λ (y : List ℕ). after h a all (length y)) (sym (append-nil x))
  on x (b ∷ bs) rest e q =
      let w = after h a all (length x) in
      let p : piece a.disk w.host w.stage w.input w.output b ≡ after h a all (length (x ++ b)) =
      answered-zero w _ _ (piece-answers a.disk w b) q.0 ∙ next x b (together bs ++ rest)
      (ap (λ (y : List ℕ). x ++ y) (sym (append_assoc b (together bs) rest)) ∙ e) in
      ap (λ (y : Pieced). fed a.disk y bs) p
      ∙ on (x ++ b) bs rest (append_assoc x b (together bs ++ rest) ∙ ap (λ (y : List ℕ). x ++ y) (sym (append_assoc b (together bs) rest)) ∙ e)
      (subst (λ (y : Pieced). AllAccepted a.disk y bs) p q.1)
      ∙ ap (λ (y : List ℕ). after h a all (length y)) (append_assoc x b (together bs))

  -- the state after one or more accepted pieces is that of the whole data at the number of bytes come
  pub cutting : (b : List ℕ) (bs : List (List ℕ)) (rest : List ℕ) → h.program.came ≡ 0 → together (b ∷ bs) ++ rest ≡ all
      → AllAccepted a.disk (lent_to h a) (b ∷ bs)
      → fed a.disk (lent_to h a) (b ∷ bs) ≡ after h a all (length (together (b ∷ bs)))
  unfolding fed_by together
  cutting b bs rest c e q =
      let w : Pieced = lent_to h a in
      let e₁ : b ++ (together bs ++ rest) ≡ all = sym (append_assoc b (together bs) rest) ∙ e in
      let p : piece a.disk h a.stage a.input a.output b ≡ after h a all (length b) =
      answered-zero w _ _ (piece-answers a.disk w b) q.0 ∙ first b (together bs ++ rest) c e₁ in
      ap (λ (y : Pieced). fed a.disk y bs) p ∙ on b bs rest e₁ (subst (λ (y : Pieced). AllAccepted a.disk y bs) p q.1)

  -- when all has come, host (and so the cost) and every area are the same for every cutting
  pub alike : (b c : List ℕ) (bs cs : List (List ℕ)) → h.program.came ≡ 0 → together (b ∷ bs) ≡ all → together (c ∷ cs) ≡ all
      → AllAccepted a.disk (lent_to h a) (b ∷ bs) → AllAccepted a.disk (lent_to h a) (c ∷ cs)
      → fed a.disk (lent_to h a) (b ∷ bs) ≡ fed a.disk (lent_to h a) (c ∷ cs)
  alike b c bs cs e p q u v =
      cutting b bs [] e (append-nil _ ∙ p) u
      ∙ ap (λ (y : List ℕ). after h a all (length y)) (p ∙ sym q)
      ∙ sym (cutting c cs [] e (append-nil _ ∙ q) v)

module _ (h : Host) (a : Areas) (all : List ℕ) (t : Taking a.disk (lent_to h a)) (none_came : h.program.came ≡ 0)
    (declared : length all ≡ h.program.terms.head.length) where
  pub all-taken : (bs : List (List ℕ)) (rest : List ℕ) → together bs ++ rest ≡ all → AllAccepted a.disk (lent_to h a) bs
  all-taken bs rest e =
      all-accepted a.disk (lent_to h a) bs t (omega (arith, none_came, declared, length-append (together bs) rest, ap length e))

  holds : length all ≤ length a.input
  holds = let i = t.input in omega arith

  pub cut-state : (b : List ℕ) (bs : List (List ℕ)) (rest : List ℕ) → together (b ∷ bs) ++ rest ≡ all
      → fed a.disk (lent_to h a) (b ∷ bs) ≡ after h a all (length (together (b ∷ bs)))
  cut-state b bs rest e = cutting h a all holds b bs rest none_came e (all-taken (b ∷ bs) rest e)

  pub cut-alike : (b c : List ℕ) (bs cs : List (List ℕ)) → together (b ∷ bs) ≡ all → together (c ∷ cs) ≡ all
      → fed a.disk (lent_to h a) (b ∷ bs) ≡ fed a.disk (lent_to h a) (c ∷ cs)
  cut-alike b c bs cs p q =
      alike h a all holds b c bs cs none_came p q (all-taken (b ∷ bs) [] (append-nil _ ∙ p)) (all-taken (c ∷ cs) [] (append-nil _ ∙ q))
