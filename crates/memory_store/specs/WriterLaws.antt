-- A page laid down by three stores, each with zeros behind it, is the encoding of the node whose bytes they are.
use Rattle.std.specs.Prelude.{◌≡◌, ℕ, suc, ◌+◌, ◌-◌, ◌*◌, ◌≤◌, List, [], ◌∷◌, ◌++◌, length, take, drop}
use Rattle.std.proofs.Common.{mul-suc, arith, append_assoc, ◌∙◌, length-append, drop-drop}
use Rattle.std.proofs.Math.ListN.{length-drop}
use Rattle.std.proofs.Math.Seq.{length-take-le}
use Rattle.store.specs.Words.{cells, spread, pad, patch}
use Rattle.store.specs.Page.{page_of, page_bytes}
use Rattle.store.specs.Laws.{bytes_little, pad_length, cells_length}
use Rattle.store.specs.Bytes.{Bytes, bytes_drop, cells_back}
use Rattle.store.specs.Cells.{patch_patch, cells_drop, cells_take}
use Rattle.store.specs.Padding.{pad_append}
use Rattle.datom.specs.Datom.{datom_of, datom_bytes, datoms_of}
use Rattle.datom.specs.Laws.{bytes_back}
use Rattle.rules.specs.Page.{children_of, node_of, encode_page}
use Rattle.rules.specs.Node.{part_of}

-- a page id comes back as its bytes
page_back : (t : List ℕ) → Bytes t → length t ≡ 8 → page_bytes (page_of t) ≡ t
unfolding page_bytes page_of
page_back t b e = rw e at (bytes_little t b)

-- a part of cells
cells_part : {A : Type 0} (f : List ℕ → A) (w n i a : ℕ) (s : List ℕ) → i + a ≤ n → take a (drop i (cells f w n s)) ≡ cells f w a (drop (w * i) s)
cells_part f w n i a s h =
    rw (cells_drop f w n i s (omega arith), cells_take f w (n - i) a (drop (w * i) s) (omega arith))

-- what three stores lay down
made :
    (f : List ℕ) (at size c l a : ℕ) (d w : List ℕ) → 40 * c + 10 ≤ size → at + size ≤ length f → length d ≤ 32 * c → length w ≤ 8 * c + 8 →
    patch (patch (patch f at (pad (32 * c) d)) (at + 32 * c) (pad (8 * c + 8) w)) (at + (40 * c + 8)) (pad (size - (40 * c + 8)) (l ∷ a ∷ []))
    ≡ patch f at (pad size (pad (32 * c) d ++ (pad (8 * c + 8) w ++ (l ∷ a ∷ []))))
made f at size c l a d w h hf hd hw =
    let p = pad (32 * c) d in
    let q = pad (8 * c + 8) w in
    let r = pad (size - (40 * c + 8)) (l ∷ a ∷ []) in
    let kp : length p ≡ 32 * c = pad_length (32 * c) d hd in
    let kq : length q ≡ 8 * c + 8 = pad_length (8 * c + 8) w hw in
    let kr : length r ≡ size - (40 * c + 8) = pad_length (size - (40 * c + 8)) (l ∷ a ∷ []) (omega arith) in
    let k : length (p ++ q) ≡ 40 * c + 8 = rw length-append (omega arith) in
    let e₁ : patch (patch f at p) (at + 32 * c) q ≡ patch f at (p ++ q) = rw kp at (patch_patch f at p q (omega arith)) in
    let e₂ : patch (patch f at (p ++ q)) (at + (40 * c + 8)) r ≡ patch f at ((p ++ q) ++ r) = rw k at (patch_patch f at (p ++ q) r (omega arith)) in
    let s : 40 * c + 8 + (size - (40 * c + 8)) ≡ size = omega arith in
    let e₃ : pad size ((p ++ q) ++ (l ∷ a ∷ [])) ≡ (p ++ q) ++ r = rw s at (pad_append (40 * c + 8) (size - (40 * c + 8)) (p ++ q) (l ∷ a ∷ []) k) in
    rw (e₁, e₂, ← e₃, append_assoc p q (l ∷ a ∷ []))

module _ (free area : List ℕ) (b : Bytes area) (at size c l m n i a : ℕ) where
  pub page_made :
      40 * c + 10 ≤ size → at + size ≤ length free → 40 * m + 8 ≤ length area → n ≤ m → i + a ≤ n → a ≤ c →
      patch (patch (patch free at (pad (32 * c) (take (32 * a) (drop (32 * i) area)))) (at + 32 * c) (pad (8 * c + 8) (take (8 * a + 8) (drop (32 * m + 8 * i) area))))
      (at + (40 * c + 8)) (pad (size - (40 * c + 8)) (l ∷ a ∷ []))
      ≡ patch free at (encode_page size c (part_of i a (node_of m l n area)))
  unfolding encode_page part_of node_of
  page_made hs hf ha hn hi hc =
      let d = take (32 * a) (drop (32 * i) area) in
      let w = take (8 * a + 8) (drop (32 * m + 8 * i) area) in
      let ld : length d ≡ 32 * a = length-take-le (32 * a) (drop (32 * i) area) (simp length-drop (omega arith)) in
      let lw : length w ≡ 8 * a + 8 = length-take-le (8 * a + 8) (drop (32 * m + 8 * i) area) (simp length-drop (omega arith)) in
      let pd : take a (drop i (datoms_of n area)) ≡ datoms_of a (drop (32 * i) area) = cells_part datom_of 32 n i a area hi in
      let pw : take (suc a) (drop i (children_of m (suc n) area)) ≡ cells page_of 8 (suc a) (drop (8 * i) (drop (32 * m) area)) =
      cells_part page_of 8 (suc n) i (suc a) (drop (32 * m) area) (omega arith) in
      let sd : spread datom_bytes (datoms_of a (drop (32 * i) area)) ≡ d =
      cells_back datom_of datom_bytes 32 bytes_back a (drop (32 * i) area) (bytes_drop (32 * i) area b) (simp length-drop (omega arith)) in
      let sw : spread page_bytes (cells page_of 8 (suc a) (drop (8 * i) (drop (32 * m) area))) ≡ w =
      cells_back page_of page_bytes 8 page_back (suc a) (drop (8 * i) (drop (32 * m) area)) (bytes_drop (8 * i) _ (bytes_drop (32 * m) area b))
      (simp length-drop (omega arith))
      ∙ rw (mul-suc, drop-drop) in
      rw (pd, pw, cells_length datom_of 32 a (drop (32 * i) area), sd, sw) (made free at size c l a d w hs hf (omega arith) (omega arith))
