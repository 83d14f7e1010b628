-- What stands at an index of cells of bytes, and what a store into them does.
use Prim.Native.Nat.{ℕ, zero, suc, ◌+◌, ◌-◌, ◌*◌, ◌<◌, ◌≤◌}
use Rattle.std.proofs.Math.Nat.{mul-zero, mul-one, div-div-eq-div-mul}
use Rattle.std.proofs.Common.{mul-suc, zero-add, add-zero, suc-add, add_assoc, add-one, arith, sym, ◌∙◌, length-append, drop_of_length-le, take-append-drop, drop-cons, take_at, drop_at, take-take, take_all}
use mathlib.Core.List.{List, [], ◌∷◌, ◌++◌, append_assoc, append-nil}
use Rattle.std.specs.Prelude.{◌≡◌, length, take, drop, get_or}
use Rattle.std.proofs.Math.Path.{refl, ap}
use Rattle.std.proofs.Math.ListN.{length-drop}
use Rattle.std.proofs.Math.Seq.{drop-drop, length-take-le, take-length, take-nil, drop-append-add}
use Rattle.std.proofs.lemmas.List.{drop-append-le}
use Rattle.std.specs.Int.{to_le_bytes, from_le_bytes, w64}
use Rattle.store.specs.declared.PageId.{PageId}
use Rattle.store.specs.Words.{little, bytes_of, cells, word_at, word_of, patch}
use Rattle.store.specs.Page.{page, page_of}
use Rattle.store.specs.Laws.{cells_length}

run : ℕ → List ℕ → ℕ → List ℕ
run zero s at = []
run (suc n) s at = get_or s at 0 ∷ run n s (suc at)

runs : (n : ℕ) (s : List ℕ) (at : ℕ) → at + n ≤ length s → take n (drop at s) ≡ run n s at
unfolding run
runs zero s at h = refl
runs (suc n) s at h = rw (drop-cons s at 0 (omega arith)) (ap (λ (l : List ℕ). get_or s at 0 ∷ l) (runs n s (suc at) (omega arith)))

eight : (b0 b1 b2 b3 b4 b5 b6 b7 : ℕ) → word_of b0 b1 b2 b3 b4 b5 b6 b7 ≡ little (b0 ∷ b1 ∷ b2 ∷ b3 ∷ b4 ∷ b5 ∷ b6 ∷ b7 ∷ [])
unfolding little
eight b0 b1 b2 b3 b4 b5 b6 b7 = omega arith

-- the library's bytes of a word, and its reading of eight bytes
pub le_bytes : (v : ℕ) → to_le_bytes w64 v ≡ bytes_of 8 v
unfolding bytes_of
le_bytes v = simp div-div-eq-div-mul

pub le_word : (b0 b1 b2 b3 b4 b5 b6 b7 : ℕ) → from_le_bytes w64 (b0 ∷ b1 ∷ b2 ∷ b3 ∷ b4 ∷ b5 ∷ b6 ∷ b7 ∷ []) ≡ word_of b0 b1 b2 b3 b4 b5 b6 b7
le_word b0 b1 b2 b3 b4 b5 b6 b7 = omega arith

pub word_is : (s : List ℕ) (at : ℕ) → at + 8 ≤ length s
    → word_of (get_or s at 0) (get_or s (at + 1) 0) (get_or s (at + 2) 0) (get_or s (at + 3) 0) (get_or s (at + 4) 0) (get_or s (at + 5) 0) (get_or s (at + 6) 0) (get_or s (at + 7) 0)
    ≡ word_at s at
unfolding word_at run
word_is s at h =
    let e2 : at + 2 ≡ suc (suc at) = omega arith in
    let e3 : at + 3 ≡ suc (suc (suc at)) = omega arith in
    let e4 : at + 4 ≡ suc (suc (suc (suc at))) = omega arith in
    let e5 : at + 5 ≡ suc (suc (suc (suc (suc at)))) = omega arith in
    let e6 : at + 6 ≡ suc (suc (suc (suc (suc (suc at))))) = omega arith in
    let e7 : at + 7 ≡ suc (suc (suc (suc (suc (suc (suc at)))))) = omega arith in
    rw (add-one at, e2, e3, e4, e5, e6, e7) (eight _ _ _ _ _ _ _ _ ∙ ap little (sym (runs 8 s at h)))

pub drop_take : (m n : ℕ) (l : List ℕ) → drop m (take (m + n) l) ≡ take n (drop m l)
drop_take zero n l = rw zero-add
drop_take (suc m) n [] = rw (take-nil, take-nil)
drop_take (suc m) n (x ∷ l) = rw suc-add (drop_take m n l)

pub drop_take_le : (m n : ℕ) (l : List ℕ) → m ≤ n → drop m (take n l) ≡ take (n - m) (drop m l)
drop_take_le m n l h =
    let e : n ≡ m + (n - m) = omega arith in
    ap (λ (k : ℕ). drop m (take k l)) e ∙ drop_take m (n - m) l

-- a patch
module _ (s : List ℕ) (at : ℕ) (p : List ℕ) where
  pub take_patch : at ≤ length s → take at (patch s at p) ≡ take at s
  unfolding patch
  take_patch h = rw append_assoc (take_at (take at s) _ at (length-take-le at s h))

  pub drop_patch : at ≤ length s → drop at (patch s at p) ≡ p ++ drop (at + length p) s
  unfolding patch
  drop_patch h = rw append_assoc (drop_at (take at s) _ at (length-take-le at s h))

  pub patch_length : at + length p ≤ length s → length (patch s at p) ≡ length s
  unfolding patch
  patch_length h = simp (length-append, length-drop, length-take-le at s (omega arith)) (omega arith)

pub drop_patch_add : (s : List ℕ) (base at : ℕ) (p : List ℕ) → base + at ≤ length s → drop base (patch s (base + at) p) ≡ patch (drop base s) at p
unfolding patch
drop_patch_add s base at p h =
    let n = length-take-le (base + at) s h in
    rw (
      drop-append-le base (take (base + at) s ++ p) (drop (base + at + length p) s) (omega (arith, n, length-append (take (base + at) s) p)),
      drop-append-le base (take (base + at) s) p (omega (arith, n)),
      drop_take base at s,
      drop-drop,
      ← add_assoc,
    )

pub patch_none : (s : List ℕ) (at : ℕ) → patch s at [] ≡ s
unfolding patch
patch_none s at = rw (append-nil, add-zero) (take-append-drop at s)

-- a store behind a store is one
pub patch_patch :
    (s : List ℕ) (at : ℕ) (p q : List ℕ) → at + length p + length q ≤ length s → patch (patch s at p) (at + length p) q ≡ patch s at (p ++ q)
unfolding patch
patch_patch s at p q h =
    let n : length (take at s ++ p) ≡ at + length p = simp (length-append, length-take-le at s (omega arith)) in
    let t : take (at + length p) ((take at s ++ p) ++ drop (at + length p) s) ≡ take at s ++ p = take_at (take at s ++ p) _ (at + length p) n in
    let e : at + length p + length q ≡ at + length (p ++ q) = omega (arith, length-append p q) in
    let d : drop (at + length p + length q) ((take at s ++ p) ++ drop (at + length p) s) ≡ drop (at + length (p ++ q)) s =
    sym (drop-drop (length q) (at + length p) _) ∙ ap (drop (length q)) (drop_at (take at s ++ p) _ (at + length p) n)
    ∙ drop-drop (length q) (at + length p) s ∙ ap (λ (k : ℕ). drop k s) e in
    rw (t, d, append_assoc (take at s) p q)

-- blocks behind one another, until they fill an area
pub next_block :
    (a p q : List ℕ) (n : ℕ) → length p ≡ n → n + length q ≤ length a → patch (patch a 0 p) n q ≡ patch a 0 (p ++ q)
next_block a p q n e h =
    ap (λ (k : ℕ). patch (patch a 0 p) k q) (let z : n ≡ 0 + length p = omega arith in z) ∙ patch_patch a 0 p q (omega arith)

pub filled : (a p : List ℕ) → length a ≡ length p → patch a 0 p ≡ p
unfolding patch
filled a p e = ap (λ (l : List ℕ). p ++ l) (drop_of_length-le a {i = 0 + length p} (omega arith)) ∙ append-nil p

-- what lies before a store is as it was
pub patch_before :
    (s : List ℕ) (at : ℕ) (p : List ℕ) (b n : ℕ) → b + n ≤ at → at ≤ length s → take n (drop b (patch s at p)) ≡ take n (drop b s)
patch_before s at p b n h l = sym (front (patch s at p)) ∙ ap (λ (t : List ℕ). take n (drop b t)) (take_patch s at p l) ∙ front s
  where
    front : (t : List ℕ) → take n (drop b (take at t)) ≡ take n (drop b t)
    front t = rw (drop_take_le b at t (omega arith)) (take-take n (at - b) (drop b t) (omega arith))

-- a store leaves what lies past it
pub drop_patch_le : (s : List ℕ) (at : ℕ) (p : List ℕ) (base : ℕ) → at + length p ≤ base → base ≤ length s → drop base (patch s at p) ≡ drop base s
unfolding patch
drop_patch_le s at p base h l =
    let k = base - (at + length p) in
    let n : length (take at s ++ p) ≡ at + length p = simp (length-append, length-take-le at s (omega arith)) in
    let e : base ≡ length (take at s ++ p) + k = omega arith in
    let f : at + length p + k ≡ base = omega arith in
    ap (λ (b : ℕ). drop b ((take at s ++ p) ++ drop (at + length p) s)) e ∙ drop-append-add (take at s ++ p) (drop (at + length p) s) k
    ∙ drop-drop k (at + length p) s ∙ ap (λ (b : ℕ). drop b s) f

module _ {A : Type 0} (f : List ℕ → A) (w : ℕ) where
  next : (i : ℕ) → w + w * i ≡ w * suc i
  next i = rw mul-suc (omega arith)

  pub cells_at : (n i : ℕ) (s : List ℕ) (d : A) → i < n → get_or (cells f w n s) i d ≡ f (take w (drop (w * i) s))
  unfolding cells
  cells_at zero i s d h = absurd (omega arith)
  cells_at (suc n) zero s d h = rw mul-zero
  cells_at (suc n) (suc i) s d h = rw (cells_at n i (drop w s) d (omega arith), drop-drop, next)

  -- the rest from index i on
  pub cells_from : (n i : ℕ) (s : List ℕ) → i < n → drop i (cells f w n s) ≡ f (take w (drop (w * i) s)) ∷ drop (i + 1) (cells f w n s)
  cells_from n i s h =
      rw (add-one, drop-cons (cells f w n s) i (f []) (omega (arith, cells_length f w n s)), cells_at n i s (f []) h)

  pub cells_end : (n i : ℕ) (s : List ℕ) → n ≤ i → drop i (cells f w n s) ≡ []
  cells_end n i s h = drop_of_length-le (cells f w n s) {i = i} (omega (arith, cells_length f w n s))

  pub cells_more : (n k : ℕ) (s : List ℕ) → cells f w (n + k) s ≡ cells f w n s ++ cells f w k (drop (w * n) s)
  unfolding cells
  cells_more zero k s = rw (zero-add, mul-zero)
  cells_more (suc n) k s =
      rw (suc-add, cells_more n k (drop w s), drop-drop, next)

  -- the first i cells, and those from index i on
  pub cells_take : (n i : ℕ) (s : List ℕ) → i ≤ n → take i (cells f w n s) ≡ cells f w i s
  cells_take n i s h =
      let e : n ≡ i + (n - i) = omega arith in
      ap (λ (k : ℕ). take i (cells f w k s)) e ∙ rw (cells_more i (n - i) s) (take_at (cells f w i s) _ i (cells_length f w i s))

  pub cells_drop : (n i : ℕ) (s : List ℕ) → i ≤ n → drop i (cells f w n s) ≡ cells f w (n - i) (drop (w * i) s)
  cells_drop n i s h =
      let e : n ≡ i + (n - i) = omega arith in
      ap (λ (k : ℕ). drop i (cells f w k s)) e ∙ rw (cells_more i (n - i) s) (drop_at (cells f w i s) _ i (cells_length f w i s))

  pub cells_front : (n m : ℕ) (s : List ℕ) → w * n ≤ m → cells f w n (take m s) ≡ cells f w n s
  unfolding cells
  cells_front zero m s h = refl
  cells_front (suc n) m s h =
      let e = next n in
      rw (take-take w m s (omega arith), drop_take_le w m s (omega arith), cells_front n (m - w) (drop w s) (omega arith))

  -- a store past the cells, and one that follows them
  pub cells_kept : (n : ℕ) (s : List ℕ) (at : ℕ) (p : List ℕ) → w * n ≤ at → at ≤ length s → cells f w n (patch s at p) ≡ cells f w n s
  cells_kept n s at p h l = sym (cells_front n at (patch s at p) h) ∙ ap (cells f w n) (take_patch s at p l) ∙ cells_front n at s h

  pub cells_put : (n k : ℕ) (s p : List ℕ) → length p ≡ w * k → w * n ≤ length s → cells f w (n + k) (patch s (w * n) p) ≡ cells f w n s ++ cells f w k p
  cells_put n k s p e l =
      let q = drop (w * n + length p) s in
      let t : cells f w k (p ++ q) ≡ cells f w k p =
      sym (cells_front k (w * k) (p ++ q) (omega arith)) ∙ ap (cells f w k) (take_at p q (w * k) e) in
      rw (cells_more n k (patch s (w * n) p), cells_kept n s (w * n) p (omega arith) l, drop_patch s (w * n) p l, t)

  pub cells_push : (n : ℕ) (s p : List ℕ) → length p ≡ w → w * n ≤ length s → cells f w (n + 1) (patch s (w * n) p) ≡ cells f w n s ++ (f p ∷ [])
  unfolding cells
  cells_push n s p e l = cells_put n 1 s p (omega (arith, mul-one w)) l ∙ ap (λ (c : List ℕ). cells f w n s ++ (f c ∷ [])) (take_all w p (omega arith))

-- a part has the length that was asked for
pub cut : (n at : ℕ) (s : List ℕ) → at + n ≤ length s → length (take n (drop at s)) ≡ n
cut n at s h = length-take-le n (drop at s) (simp length-drop (omega arith))

-- w bytes that are copied to an array of w
pub copied :
    (w at : ℕ) (s z : List ℕ) → at + w ≤ length s → length z ≡ w →
    take (length (take (at + w - at) (drop at s))) (take (at + w - at) (drop at s)) ++ drop (length (take (at + w - at) (drop at s))) z
    ≡ take w (drop at s)
copied w at s z h e =
    let n : at + w - at ≡ w = omega arith in
    let k = cut w at s h in
    rw (n, take-length (take w (drop at s)), drop_of_length-le z {i = length (take w (drop at s))} (omega arith), append-nil)

-- a part that comes back whole from a copy
pub part : (d s : List ℕ) (at : ℕ) → at + length s ≤ length d
    → take at d ++ ((take (length s) s ++ drop (length s) (take (at + length s - at) (drop at d))) ++ drop (at + length s - at) (drop at d)) ≡ patch d at s
unfolding patch
part d s at h =
    let n : at + length s - at ≡ length s = omega arith in
    let short : length (take (length s) (drop at d)) ≤ length s = omega (arith, length-take-le (length s) (drop at d) (simp length-drop (omega arith))) in
    rw (n, take-length, drop_of_length-le (take (length s) (drop at d)) short, append-nil, drop-drop) (sym (append_assoc (take at d) s (drop (at + length s) d)))

-- page ids, from an offset on
pub pages_at : (n i at : ℕ) (s : List ℕ) (d : PageId) → i < n → get_or (cells page_of 8 n (drop at s)) i d ≡ page (word_at s (at + 8 * i))
unfolding word_at page_of
pages_at n i at s d h = rw (cells_at page_of 8 n i (drop at s) d h, drop-drop)

pub pages_from :
    (n i at : ℕ) (s : List ℕ) → i < n →
    drop i (cells page_of 8 n (drop at s)) ≡ page (word_at s (at + 8 * i)) ∷ drop (i + 1) (cells page_of 8 n (drop at s))
unfolding word_at page_of
pages_from n i at s h = rw (cells_from page_of 8 n i (drop at s) h, drop-drop)
