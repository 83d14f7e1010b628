-- A cursor as a C caller holds it: 33 little-endian words, the height, the begin indices by level 0 to 7, the begin pages, the end
-- indices and the end pages.
use Prim.Native.Nat.{ℕ, zero, suc, ◌+◌, ◌-◌, ◌*◌, ◌^◌, ◌≤◌, ◌<◌}
use Rattle.std.proofs.Common.{add-one, arith, ◌∙◌, length-append, drop-drop, take_at, take-add, take_all, length-take-le}
use mathlib.Core.List.{List, [], ◌∷◌, ◌++◌, append-nil, append_assoc}
use Rattle.std.specs.Prelude.{◌≡◌, refl, length, drop, get_or}
use Rattle.std.proofs.Math.Path.{sym, ap}
use Rattle.std.proofs.Math.ListN.{take, length-drop}
use Rattle.std.proofs.Math.Seq.{drop_at, take-length}
use Rattle.store.specs.declared.PageId.{PageId}
use Rattle.store.specs.Words.{little, bytes_of, word_at, cells, spread, patch}
use Rattle.store.specs.Page.{page_of, page_bytes}
use Rattle.store.specs.Laws.{bytes_length, bytes_little, little_bytes, word_back, word_small, cells_length, cells_spread, page_length, page_back, spread_length}
use Rattle.answer.specs.declared.Cursor.{Cursor}
use Rattle.answer.specs.Fit.{Eight, CursorFits}
use Rattle.store.specs.Cells.{patch_patch, next_block, filled, cells_at}
use Rattle.store.specs.Bytes.{Bytes, bytes_drop, cells_back}

unfoldable pub cursor_bytes : Cursor → List ℕ
cursor_bytes c =
    bytes_of 8 c.height
    ++ (spread (bytes_of 8) c.begin_indices ++ (spread page_bytes c.begin_pages ++ (spread (bytes_of 8) c.end_indices ++ spread page_bytes c.end_pages)))

unfoldable pub cursor_in : List ℕ → Cursor
cursor_in s =
    record {
      height = word_at s 0;
      begin_indices = cells little 8 8 (drop 8 s);
      begin_pages = cells page_of 8 8 (drop 72 s);
      end_indices = cells little 8 8 (drop 136 s);
      end_pages = cells page_of 8 8 (drop 200 s);
    }

-- all that lies behind an offset
pub behind : (s : List ℕ) (n : ℕ) → take (length s - n) (drop n s) ≡ drop n s
behind s n = rw (← length-drop n s, take-length)

-- eight things of a word each, read one by one
pub eight_words :
    {A : Type 0} (g : ℕ → A) (s : List ℕ) →
    (g (word_at s 0) ∷ g (word_at s 8) ∷ g (word_at s 16) ∷ g (word_at s 24) ∷ g (word_at s 32) ∷ g (word_at s 40) ∷ g (word_at s 48) ∷ g (word_at s 56) ∷ [])
    ≡ cells (λ p. g (little p)) 8 8 s
unfolding cells word_at
eight_words g s = rw (drop-drop, drop-drop, drop-drop, drop-drop, drop-drop, drop-drop)

-- things of eight bytes each, stored one by one behind one another
module _ {A : Type 0} (g : A → List ℕ) (wide : (x : A) → length (g x) ≡ 8) where
  spread_next : (xs : List A) (i : ℕ) (d : A) → i < length xs → spread g (take (suc i) xs) ≡ spread g (take i xs) ++ g (get_or xs i d)
  unfolding spread
  spread_next [] i d h = absurd (omega arith)
  spread_next (x ∷ xs) zero d h = append-nil (g x)
  spread_next (x ∷ xs) (suc i) d h =
      ap (λ (l : List ℕ). g x ++ l) (spread_next xs i d (omega arith)) ∙ sym (append_assoc (g x) (spread g (take i xs)) (g (get_or xs i d)))

  pub put_next :
      (s : List ℕ) (at : ℕ) (xs : List A) (i : ℕ) (d : A) → i < length xs → at + 8 * length xs ≤ length s →
      patch (patch s at (spread g (take i xs))) (at + 8 * i) (g (get_or xs i d)) ≡ patch s at (spread g (take (i + 1) xs))
  put_next s at xs i d h l =
      let n : length (spread g (take i xs)) ≡ 8 * i =
      spread_length g 8 wide (take i xs) ∙ ap (λ (k : ℕ). 8 * k) (length-take-le i xs (omega arith)) in
      rw (add-one i, spread_next xs i d h)
      (ap (λ (k : ℕ). patch (patch s at (spread g (take i xs))) (at + k) (g (get_or xs i d))) (sym n)
      ∙ patch_patch s at (spread g (take i xs)) (g (get_or xs i d)) (omega (arith, n, wide (get_or xs i d))))

-- a word, and a page id, whose bytes come back
index_back : (s : List ℕ) → Bytes s → length s ≡ 8 → bytes_of 8 (little s) ≡ s
index_back s b e = rw e at (bytes_little s b)

id_back : (s : List ℕ) → Bytes s → length s ≡ 8 → page_bytes (page_of s) ≡ s
unfolding page_bytes page_of
id_back s b e = index_back s b e

-- eight words come back from their bytes, and bytes give such
module _ {A : Type 0} (f : List ℕ → A) (g : A → List ℕ) (word : A → ℕ) where
  eight_back :
      ((x : A) → length (g x) ≡ 8) → ((x : A) → word x < 2 ^ 64 → f (g x) ≡ x) → (xs : List A) → Eight word xs → (rest : List ℕ) →
      cells f 8 8 (spread g xs ++ rest) ≡ xs
  eight_back wide back xs e rest =
      ap (λ (n : ℕ). cells f 8 n (spread g xs ++ rest)) (sym e.0) ∙ cells_spread g 8 wide f xs rest (λ i d h. back (get_or xs i d) (e.1 i d h))

  eight_fit : ((p : List ℕ) → word (f p) ≡ little p) → (s : List ℕ) → Bytes s → 64 ≤ length s → Eight word (cells f 8 8 s)
  unfolding word_at
  eight_fit is s b h = (
    cells_length f 8 8 s,
    λ i d k.
        let n : i < 8 = omega (arith, k, cells_length f 8 8 s) in
        rw (cells_at f 8 8 i s d n, is) (word_small s b (8 * i) (omega arith)),
  )

-- the five parts of a cursor's bytes
module _
    (c : Cursor) (bi : length c.begin_indices ≡ 8) (bp : length c.begin_pages ≡ 8)
    (ei : length c.end_indices ≡ 8) (ep : length c.end_pages ≡ 8) where
  abbrev h : List ℕ
  h = bytes_of 8 c.height

  abbrev i : List ℕ
  i = spread (bytes_of 8) c.begin_indices

  abbrev p : List ℕ
  p = spread page_bytes c.begin_pages

  abbrev j : List ℕ
  j = spread (bytes_of 8) c.end_indices

  abbrev q : List ℕ
  q = spread page_bytes c.end_pages

  indices_long : (xs : List ℕ) → length xs ≡ 8 → length (spread (bytes_of 8) xs) ≡ 64
  indices_long xs e = spread_length (bytes_of 8) 8 (bytes_length 8) xs ∙ ap (λ (n : ℕ). 8 * n) e

  pages_long : (xs : List PageId) → length xs ≡ 8 → length (spread page_bytes xs) ≡ 64
  pages_long xs e = spread_length page_bytes 8 page_length xs ∙ ap (λ (n : ℕ). 8 * n) e

  one : length (h ++ i) ≡ 72
  one = omega (arith, length-append h i, bytes_length 8 c.height, indices_long c.begin_indices bi)

  two : length ((h ++ i) ++ p) ≡ 136
  two = omega (arith, length-append (h ++ i) p, one, pages_long c.begin_pages bp)

  three : length (((h ++ i) ++ p) ++ j) ≡ 200
  three = omega (arith, length-append ((h ++ i) ++ p) j, two, indices_long c.end_indices ei)

  four : length ((((h ++ i) ++ p) ++ j) ++ q) ≡ 264
  four = omega (arith, length-append (((h ++ i) ++ p) ++ j) q, three, pages_long c.end_pages ep)

  -- the five stores of a cursor fill its area
  pub cursor_put : (a : List ℕ) → length a ≡ 264 → patch (patch (patch (patch (patch a 0 h) 8 i) 72 p) 136 j) 200 q ≡ cursor_bytes c
  unfolding cursor_bytes
  cursor_put a full =
      ap (λ (s : List ℕ). patch (patch (patch s 72 p) 136 j) 200 q) (next_block a h i 8 (bytes_length 8 c.height) (omega (arith, indices_long c.begin_indices bi)))
      ∙ ap (λ (s : List ℕ). patch (patch s 136 j) 200 q) (next_block a (h ++ i) p 72 one (omega (arith, pages_long c.begin_pages bp)))
      ∙ ap (λ (s : List ℕ). patch s 200 q) (next_block a ((h ++ i) ++ p) j 136 two (omega (arith, indices_long c.end_indices ei)))
      ∙ next_block a (((h ++ i) ++ p) ++ j) q 200 three (omega (arith, pages_long c.end_pages ep))
      ∙ filled a ((((h ++ i) ++ p) ++ j) ++ q) (full ∙ sym four) ∙ rw (append_assoc, append_assoc, append_assoc)

  -- and what lies behind the first, the second, the third and the fourth part
  behind_height : drop 8 (cursor_bytes c) ≡ i ++ (p ++ (j ++ q))
  unfolding cursor_bytes
  behind_height = drop_at h (i ++ (p ++ (j ++ q))) 8 (bytes_length 8 c.height)

  behind_begin_indices : drop 72 (cursor_bytes c) ≡ p ++ (j ++ q)
  unfolding cursor_bytes
  behind_begin_indices = rw (← append_assoc h i (p ++ (j ++ q))) (drop_at (h ++ i) (p ++ (j ++ q)) 72 one)

  behind_begin_pages : drop 136 (cursor_bytes c) ≡ j ++ q
  unfolding cursor_bytes
  behind_begin_pages =
      rw (← append_assoc h i (p ++ (j ++ q)), ← append_assoc (h ++ i) p (j ++ q)) (drop_at ((h ++ i) ++ p) (j ++ q) 136 two)

  behind_end_indices : drop 200 (cursor_bytes c) ≡ q
  unfolding cursor_bytes
  behind_end_indices =
      rw (← append_assoc h i (p ++ (j ++ q)), ← append_assoc (h ++ i) p (j ++ q), ← append_assoc ((h ++ i) ++ p) j q)
      (drop_at (((h ++ i) ++ p) ++ j) q 200 three)

height_first : (c : Cursor) → c.height < 2 ^ 64 → word_at (cursor_bytes c) 0 ≡ c.height
unfolding word_at cursor_bytes
height_first c h = ap little (take_at (bytes_of 8 c.height) _ 8 (bytes_length 8 c.height)) ∙ little_bytes 8 c.height h

-- a cursor has 264 bytes, and comes back from them
pub cursor_long : (c : Cursor) → CursorFits c → length (cursor_bytes c) ≡ 264
unfolding cursor_bytes
cursor_long c F =
    let bi = F.begin_indices_fit.0 in
    let bp = F.begin_pages_fit.0 in
    let ei = F.end_indices_fit.0 in
    let ep = F.end_pages_fit.0 in
    let n = four c bi bp ei ep in
    rw (append_assoc, append_assoc, append_assoc) at n

pub cursor_back : (c : Cursor) → CursorFits c → cursor_in (cursor_bytes c) ≡ c
unfolding cursor_in
cursor_back c F =
    let bi = F.begin_indices_fit.0 in
    let bp = F.begin_pages_fit.0 in
    let ei = F.end_indices_fit.0 in
    let ep = F.end_pages_fit.0 in
    rw (
      height_back,
      behind_height c bi bp ei ep,
      indices c.begin_indices F.begin_indices_fit _,
      behind_begin_indices c bi bp ei ep,
      pages c.begin_pages F.begin_pages_fit _,
      behind_begin_pages c bi bp ei ep,
      indices c.end_indices F.end_indices_fit _,
      behind_end_indices c bi bp ei ep,
      pages_end,
    )
  where
    height_back : word_at (cursor_bytes c) 0 ≡ c.height
    height_back = height_first c F.height

    indices : (xs : List ℕ) → Eight (λ (n : ℕ). n) xs → (rest : List ℕ) → cells little 8 8 (spread (bytes_of 8) xs ++ rest) ≡ xs
    indices = eight_back little (bytes_of 8) (λ (n : ℕ). n) (bytes_length 8) (little_bytes 8)

    pages : (xs : List PageId) → Eight (λ (p : PageId). p.0) xs → (rest : List ℕ) → cells page_of 8 8 (spread page_bytes xs ++ rest) ≡ xs
    pages = eight_back page_of page_bytes (λ (p : PageId). p.0) page_length page_back

    pages_end : cells page_of 8 8 (spread page_bytes c.end_pages) ≡ c.end_pages
    pages_end = ap (cells page_of 8 8) (sym (append-nil (spread page_bytes c.end_pages))) ∙ pages c.end_pages F.end_pages_fit []

-- 264 bytes are a cursor's, and they come back from it
module _ (s : List ℕ) (b : Bytes s) (full : length s ≡ 264) where
  pub cursor_fits : CursorFits (cursor_in s)
  unfolding cursor_in page_of
  cursor_fits =
      record {
        height = word_small s b 0 (omega arith);
        begin_indices_fit = indices 8 (omega arith);
        begin_pages_fit = pages 72 (omega arith);
        end_indices_fit = indices 136 (omega arith);
        end_pages_fit = pages 200 (omega arith);
      }
    where
      indices : (n : ℕ) → n + 64 ≤ 264 → Eight (λ (n : ℕ). n) (cells little 8 8 (drop n s))
      indices n h = eight_fit little (bytes_of 8) (λ (n : ℕ). n) (λ p. refl) (drop n s) (bytes_drop n s b) (simp length-drop (omega arith))

      pages : (n : ℕ) → n + 64 ≤ 264 → Eight (λ (p : PageId). p.0) (cells page_of 8 8 (drop n s))
      pages n h = eight_fit page_of page_bytes (λ (p : PageId). p.0) (λ p. refl) (drop n s) (bytes_drop n s b) (simp length-drop (omega arith))

  pub cursor_bytes_back : cursor_bytes (cursor_in s) ≡ s
  unfolding cursor_in cursor_bytes
  cursor_bytes_back =
      rw (word_back s b 0 (omega arith), indices 8 (omega arith), pages 72 (omega arith), indices 136 (omega arith), pages 200 (omega arith)) joined
    where
      indices : (n : ℕ) → n + 64 ≤ 264 → spread (bytes_of 8) (cells little 8 8 (drop n s)) ≡ take 64 (drop n s)
      indices n h = cells_back little (bytes_of 8) 8 index_back 8 (drop n s) (bytes_drop n s b) (simp length-drop (omega arith))

      pages : (n : ℕ) → n + 64 ≤ 264 → spread page_bytes (cells page_of 8 8 (drop n s)) ≡ take 64 (drop n s)
      pages n h = cells_back page_of page_bytes 8 id_back 8 (drop n s) (bytes_drop n s b) (simp length-drop (omega arith))

      joined : take 8 (drop 0 s) ++ (take 64 (drop 8 s) ++ (take 64 (drop 72 s) ++ (take 64 (drop 136 s) ++ take 64 (drop 200 s)))) ≡ s
      joined =
          let e₄ : take 64 (drop 136 s) ++ take 64 (drop 200 s) ≡ take 128 (drop 136 s) = rw (← drop-drop 64 136 s) (sym (take-add 64 64 (drop 136 s))) in
          let e₃ : take 64 (drop 72 s) ++ take 128 (drop 136 s) ≡ take 192 (drop 72 s) = rw (← drop-drop 64 72 s) (sym (take-add 64 128 (drop 72 s))) in
          let e₂ : take 64 (drop 8 s) ++ take 192 (drop 72 s) ≡ take 256 (drop 8 s) = rw (← drop-drop 64 8 s) (sym (take-add 64 192 (drop 8 s))) in
          rw (e₄, e₃, e₂) (sym (take-add 8 256 s) ∙ take_all 264 s (omega arith))
