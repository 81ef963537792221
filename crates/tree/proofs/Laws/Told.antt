-- What a caller reads off an answer: the test that the definition makes holds of what was asked. Assumes nothing.
use Rattle.lists.proofs.Kit.{◌≡◌, sym, ap, ◌∙◌, Bool, true, false, List, ℕ, ◌*◌, ◌/◌, ◌%◌, ◌^◌, ◌≤◌, ◌<◌, arith, length, leb, eq-eqb, lt-ltb, le-leb}
use Rattle.lists.specs.Pick.{both}
use Rattle.lists.proofs.Laws.Pick.{by, picks, skips, both-join}
use Rattle.area.specs.Area.{put}
use Rattle.tree.specs.Tree.{root, join}
use Rattle.tree.specs.Walk.{count, proof, proof_in}
use Rattle.tree.specs.Checker.{ranged}
use Rattle.tree.specs.Answers.{Root, number_of, root_of, count_of, root_given, root_if, rooted, joined, wholes, Count, count_given, counted}
use Rattle.tree.specs.Answers.{Left, left, hashes_laid, provable, proved, provable_in, proved_in, is_power}
use Rattle.std.specs.Prelude.{Result, Ok, Err}
use Rattle.tree.specs.declared.TreeError.{TreeError}
use Rattle.tree.proofs.Laws.Powers.{power-is}

-- ---- roots

-- by the number 0 a root is given, by 2 it is not
is_root : (r : Result (List ℕ) TreeError) (x : List ℕ) → root_given r ≡ record { number = 0; root = x } → r ≡ Ok x
is_root (Ok y) x e = ap (λ (g : Root). Ok g.root) e
is_root (Err f) x e = absurd (omega (arith, ap (λ (g : Root). g.number) e))

given : (r : Result (List ℕ) TreeError) (asked : Bool) (x : List ℕ) → root_given r ≡ root_if asked x → asked ≡ true → r ≡ Ok x
unfolding root_if
given r asked x e h = is_root r x (e ∙ picks asked _ _ h)

-- the number of an answer that was asked for, and of one that was not
number-asked : (r : Result (List ℕ) TreeError) (asked : Bool) (x : List ℕ) → root_given r ≡ root_if asked x → asked ≡ true → number_of r ≡ 0
unfolding root_if
number-asked r asked x e h = ap (λ (r : Root). r.number) (e ∙ picks asked _ _ h)

number-not : (r : Result (List ℕ) TreeError) (asked : Bool) (x : List ℕ) → root_given r ≡ root_if asked x → asked ≡ false → number_of r ≡ 2
unfolding root_if
number-not r asked x e h = ap (λ (r : Root). r.number) (e ∙ skips asked _ _ h)

pub root-done : (r : Result (List ℕ) TreeError) (b x : List ℕ) → root_given r ≡ rooted b → r ≡ Ok x → (wholes 64 b ≡ true) × (x ≡ root b)
unfolding rooted
root-done r b x e t =
    by (wholes 64 b) (λ w. (w, ap root_of (sym t ∙ given r (wholes 64 b) (root b) e w)))
    (λ w. absurd (omega (arith, ap number_of t, number-not r (wholes 64 b) (root b) e w)))

pub root-refused : (r : Result (List ℕ) TreeError) (b : List ℕ) (f : TreeError) → root_given r ≡ rooted b → r ≡ Err f → wholes 64 b ≡ false
unfolding rooted
root-refused r b f e t =
    by (wholes 64 b) (λ w. absurd (omega (arith, ap number_of t, number-asked r (wholes 64 b) (root b) e w))) (λ w. w)

pub root_told : (r : Result (List ℕ) TreeError) (b : List ℕ) → root_given r ≡ rooted b → length b % 64 ≡ 0 → r ≡ Ok (root b)
unfolding rooted wholes
root_told r b e h = given r (wholes 64 b) (root b) e (eq-eqb _ _ h)

pub join-told : (r : Result (List ℕ) TreeError) (b : List ℕ) → root_given r ≡ joined b → length b % 32 ≡ 0 → r ≡ Ok (join b)
unfolding joined wholes
join-told r b e h = given r (wholes 32 b) (join b) e (eq-eqb _ _ h)

-- ---- counts

is_count : (r : Result ℕ TreeError) (n : ℕ) → number_of r ≡ 0 → count_of r ≡ n → r ≡ Ok n
is_count (Ok m) n z e = ap Ok e
is_count (Err f) n z e = absurd (omega (arith, z))

pub count-told : (r : Result ℕ TreeError) (n s e : ℕ) → count_given r ≡ counted n s e → s < e → e ≤ n → r ≡ Ok (count n s e)
unfolding counted ranged
count-told r n s e q lt le =
    let p = q ∙ picks (ranged n s e) _ _ (both-join _ _ (lt-ltb s e lt) (le-leb e n le)) in
    is_count r _ (ap (λ (x : Count). x.number) p) (ap (λ (x : Count). x.count) p)

-- ---- proofs

laid : (r : Result ℕ TreeError) (asked : Bool) (hs out next : List ℕ) → left r next ≡ hashes_laid asked hs out → asked ≡ true
    → length hs ≤ length out → (r ≡ Ok (length hs / 32)) × (next ≡ put out 0 hs)
unfolding hashes_laid
laid r asked hs out next q h room =
    let p = q ∙ picks (both asked (leb (length hs) (length out))) _ _ (both-join _ _ h (le-leb _ _ room)) in
    (is_count r _ (ap (λ (x : Left). x.number) p) (ap (λ (x : Left). x.count) p), ap (λ (x : Left). x.out) p)

can : (b : List ℕ) (s e : ℕ) → length b % 64 ≡ 0 → s < e → e ≤ length b / 64 → provable b s e ≡ true
unfolding provable wholes ranged
can b s e whole lt le = both-join _ _ (eq-eqb _ _ whole) (both-join _ _ (lt-ltb _ _ lt) (le-leb _ _ le))

pub proof-laid : (r : Result ℕ TreeError) (b : List ℕ) (s e : ℕ) (out next : List ℕ) → left r next ≡ proved b s e out
    → length b % 64 ≡ 0 → s < e → e ≤ length b / 64 → length (proof b s e) ≤ length out
    → (r ≡ Ok (length (proof b s e) / 32)) × (next ≡ put out 0 (proof b s e))
unfolding proved
proof-laid r b s e out next q whole lt le room = laid r (provable b s e) (proof b s e) out next q (can b s e whole lt le) room

can-in : (rs : List ℕ) (at : ℕ) (b : List ℕ) (s e m z : ℕ) → length rs ≡ 32 * m → at < m → length b ≡ 64 * 2 ^ z → z < 64 → s < e → e ≤ 2 ^ z
    → provable_in rs at b s e ≡ true
unfolding provable_in wholes
can-in rs at b s e m z long here size small lt le =
    let n : length b / 64 ≡ 2 ^ z = omega arith in
    let whole-roots : length rs % 32 ≡ 0 = omega arith in
    let whole : length b % 64 ≡ 0 = omega arith in
    let one_of : at < length rs / 32 = omega arith in
    let within : e ≤ length b / 64 = omega arith in
    both-join _ _ (eq-eqb _ _ whole-roots)
    (both-join _ _ (lt-ltb _ _ one_of) (both-join _ _ (ap (is_power 64) n ∙ power-is 64 z small) (can b s e whole lt within)))

pub proof-in-laid : (r : Result ℕ TreeError) (rs : List ℕ) (at : ℕ) (b : List ℕ) (s e : ℕ) (out next : List ℕ)
    → left r next ≡ proved_in rs at b s e out
    → (m z : ℕ) → length rs ≡ 32 * m → at < m → length b ≡ 64 * 2 ^ z → z < 64 → s < e → e ≤ 2 ^ z
    → length (proof_in rs at b s e) ≤ length out
    → (r ≡ Ok (length (proof_in rs at b s e) / 32)) × (next ≡ put out 0 (proof_in rs at b s e))
unfolding proved_in
proof-in-laid r rs at b s e out next q m z long here size small lt le room =
    laid r (provable_in rs at b s e) (proof_in rs at b s e) out next q (can-in rs at b s e m z long here size small lt le) room
