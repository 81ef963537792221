-- What came in pieces is what came at once; bytes of a section up to its end; data. Assumes nothing.
use Rattle.lists.proofs.Kit.{◌≡◌, refl, sym, ap, ap₂, ◌∙◌, true, List, [], ◌∷◌, ◌++◌, ℕ, zero, suc, ◌+◌, ◌-◌, ◌≤◌, ◌<◌, min, arith, length, take, take-nil}
use Rattle.lists.proofs.Kit.{ltb, lt-ltb, le-ltb, eqb-true}
use Rattle.lists.specs.Pick.{pick}
use Rattle.lists.proofs.Laws.Pick.{by, picks, skips, never, both_left, both_right}
use Rattle.area.specs.Area.{put}
use Rattle.area.proofs.Laws.Puts.{length-put, put-nil, put-append}
use Rattle.sia.specs.Encode.{joined}
use Rattle.bench_input.specs.Reader.{State, next_to, next, spare, laid, onward, fed_byte, fed, fed_all, in_data, held, full, holds}
use Rattle.bench_input.specs.declared.Section.{Section}
use Rattle.bench_input.specs.declared.Section.TheVariants.{Front, Ids, Length, Head, Data}
use Rattle.bench_input.proofs.Laws.Laying.{same-state}

-- ---- pieces

pub fed-append : (s : State) (a b : List ℕ) → fed s (a ++ b) ≡ fed (fed s a) b
unfolding fed
fed-append s [] b = refl
fed-append s (x ∷ a) b = fed-append (fed_byte s x) a b

pub fed-whole : (s : State) (ps : List (List ℕ)) → fed_all s ps ≡ fed s (joined (λ p. p) ps)
unfolding fed fed_all joined
fed-whole s [] = refl
fed-whole s (p ∷ ps) = fed-whole (fed s p) ps ∙ sym (fed-append s p (joined (λ q. q) ps))

-- ---- one byte laid, and more behind it

put-more : (area : List ℕ) (at k b : ℕ) (bs : List ℕ)
    → put (put area at (take k (b ∷ []))) (at + min k 1) (take (k - 1) bs) ≡ put area at (take k (b ∷ bs))
put-more area at zero b bs = put-nil (put area at []) (at + min 0 1)
put-more area at (suc k) b bs =
    let n : suc k - 1 ≡ k = omega arith in
    ap₂ (λ (l m : List ℕ). put (put area at (b ∷ l)) (at + min (suc k) 1) m) (take-nil k) (ap (λ (i : ℕ). take i bs) n)
    ∙ put-append area at (b ∷ []) (take k bs) (at + min (suc k) 1) (omega arith)

sub-both : (n a k : ℕ) → n - (a + k) ≡ n - a - k
sub-both n a k = omega arith

one_less : (m d : ℕ) → min (m - 1) (d - min (min m d) 1) ≡ min m d - 1
one_less m d = omega arith

module _ (s : State) (b : ℕ) where
  spare-less : spare (laid s (b ∷ [])) ≡ spare s - 1
  unfolding spare laid
  spare-less =
      ap (λ (n : ℕ). min (s.reader.room - 1) (n - (s.reader.at + min (spare s) 1))) (length-put s.area s.reader.at (take (spare s) (b ∷ [])))
      ∙ ap (min (s.reader.room - 1)) (sub-both (length s.area) s.reader.at (min (spare s) 1))
      ∙ one_less s.reader.room (length s.area - s.reader.at)

  laid_more : (bs : List ℕ) → laid (laid s (b ∷ [])) bs ≡ laid s (b ∷ bs)
  unfolding laid
  laid_more bs =
      let n = spare-less in
      same-state (omega arith) (omega arith) (omega (arith, n))
      (ap (λ (k : ℕ). put (put s.area s.reader.at (take (spare s) (b ∷ []))) (s.reader.at + min (spare s) 1) (take k bs)) n
      ∙ put-more s.area s.reader.at (spare s) b bs)

laid_none : (s : State) → laid s [] ≡ s
unfolding laid
laid_none s = same-state (omega arith) (omega arith) (omega arith) (ap (put s.area s.reader.at) (take-nil (spare s)) ∙ put-nil s.area s.reader.at)

-- ---- a section

stays-in : (s : State) (b : ℕ) → 1 < s.reader.left → onward (laid s (b ∷ [])) ≡ laid s (b ∷ [])
unfolding onward laid
stays-in s b h = picks _ _ _ (lt-ltb 0 (s.reader.left - 1) (omega arith))

left-more : (s : State) (b : ℕ) {n : ℕ} → suc n ≤ s.reader.left → n ≤ (laid s (b ∷ [])).reader.left
unfolding laid
left-more s b h = omega arith

within : (b : ℕ) (bs : List ℕ) (s : State) → length (b ∷ bs) ≤ s.reader.left → fed s (b ∷ bs) ≡ onward (laid s (b ∷ bs))
unfolding fed fed_byte
within b [] s h = refl
within b (c ∷ cs) s h =
    ap (λ (t : State). fed t (c ∷ cs)) (stays-in s b (omega arith))
    ∙ within c cs (laid s (b ∷ [])) (left-more s b h)
    ∙ ap onward (laid_more s b (c ∷ cs))

-- that does not end with the bytes
pub stays : (s : State) (bs : List ℕ) → length bs < s.reader.left → (fed s bs).reader.section ≡ s.reader.section
unfolding fed onward laid
stays s [] h = refl
stays s (b ∷ bs) h =
    ap (λ (t : State). t.reader.section)
    (within b bs s (omega arith) ∙ picks _ _ _ (lt-ltb 0 (s.reader.left - length (b ∷ bs)) (omega arith)))

-- that ends with them
pub ends : (s : State) (bs : List ℕ) → 0 < s.reader.left → length bs ≡ s.reader.left → fed s bs ≡ next (laid s bs)
unfolding onward laid
ends s [] g h = absurd (omega arith)
ends s (b ∷ bs) g h = within b bs s (omega arith) ∙ skips _ _ _ (le-ltb 0 (s.reader.left - length (b ∷ bs)) (omega arith))

-- ---- data

data-on : (s : State) → s.reader.section ≡ Data → onward s ≡ s
unfolding onward next next_to
data-on s e = by (ltb 0 s.reader.left) (λ u. picks _ _ _ u) (λ u. skips _ _ _ u ∙ ap (λ (x : Section). next_to x s.reader s.area) e)

data-laid : (s : State) (bs : List ℕ) → s.reader.section ≡ Data → (laid s bs).reader.section ≡ Data
unfolding laid
data-laid s bs e = e

pub data-fed : (s : State) (bs : List ℕ) → s.reader.section ≡ Data → fed s bs ≡ laid s bs
unfolding fed fed_byte
data-fed s [] e = sym (laid_none s)
data-fed s (b ∷ bs) e =
    let still = data-laid s (b ∷ []) e in
    ap (λ (t : State). fed t bs) (data-on (laid s (b ∷ [])) still) ∙ data-fed (laid s (b ∷ [])) bs still ∙ laid_more s b bs

in-data : (x : Section) → in_data x ≡ true → x ≡ Data
in-data Front e = never (sym e)
in-data Ids e = never (sym e)
in-data Length e = never (sym e)
in-data Head e = never (sym e)
in-data Data e = refl

-- a reader that is full keeps nothing more
pub full-fed : (s : State) (bs : List ℕ) → full s.reader ≡ true → holds (fed s bs) ≡ holds s
unfolding full holds held laid spare
full-fed s bs e =
    let none : s.reader.room ≡ 0 = eqb-true _ 0 (both_right (in_data s.reader.section) _ e) in
    let k : min s.reader.room (length s.area - s.reader.at) ≡ 0 = omega arith in
    ap (λ (t : State). take (pick (in_data t.reader.section) t.reader.at 0) t.area) (data-fed s bs (in-data _ (both_left _ _ e)))
    ∙ ap₂ (λ (a : ℕ) (l : List ℕ). take (pick (in_data s.reader.section) a 0) l) (omega arith)
    (ap (λ (n : ℕ). put s.area s.reader.at (take n bs)) k ∙ put-nil s.area s.reader.at)
