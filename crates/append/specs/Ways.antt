-- The ways through an append, one refusal after another, as the code finds them.
use Rattle.std.specs.Prelude.{Err}
use Rattle.answer.specs.Answers.{stored_as}
use Rattle.std.specs.Prelude.{ℕ, ◌+◌, ◌-◌, ◌*◌, ◌/◌, ◌^◌, ◌≤◌, ◌<◌, Bool, true, false, List, ◌++◌, ◌≡◌, refl, ltb, take, drop}
use Rattle.std.proofs.Math.Nat.{add-sub_cancel_left}
use Rattle.std.proofs.Math.Decide.{dec_le}
use Rattle.std.proofs.Common.{arith, append_assoc, ◌∙◌, length-append, drop-drop}
use Rattle.std.proofs.Math.Path.{sym}
use borrow.Author.Tests.{lt-ltb, le-ltb, le-leb, lt-leb}
use Rattle.std.proofs.Math.ListN.{length}
use Rattle.store.specs.Words.{bytes_of, pad, patch}
use Rattle.store.specs.Laws.{bytes_length, pad_length}
use Rattle.store.specs.Cells.{patch_none, next_block, filled, cut}
use Rattle.heap.specs.Constant.{up_to8}
use Rattle.answer.specs.declared.Refusal.{Refusal}
use Rattle.answer.specs.declared.Refusal.TheVariants.{BadStore, BadConstant, HeapFull}
use Rattle.rules.specs.Append.{bad_heap, heap_full, constant_bytes, naming, Appending, refuse_append, append_fault, append_constant, heap_after}
use Rattle.rules.specs.Appended.{room_in, up_to, constant_length}
use Rattle.append.specs.Answers.{Appends}

-- two comparisons that hold together
same_ltb : (a b c d : ℕ) → (a < b → c < d) → (c < d → a < b) → ltb a b ≡ ltb c d
same_ltb a b c d f g =
    elim (dec_le b a) [
      | yes h ↦
          let k : d ≤ c = elim (dec_le d c) [ yes x ↦ x | no x ↦ absurd (omega (arith, h, g (omega (arith, x)))) ] in
          rw (le-ltb a b h, le-ltb c d k)
      | no h ↦ rw (lt-ltb a b (omega (arith, h)), lt-ltb c d (f (omega (arith, h))))
    ]

module _ (h : List ℕ) (n : ℕ) where
  -- 12
  pub offset_large : (k : ℕ) → 2 ^ 62 ≤ n → true ≡ heap_full h n k
  unfolding heap_full
  offset_large k l = rw (le-leb (2 ^ 62) n l)

  module _ (m : ℕ) (small : n < 2 ^ 62) (l : n ≤ length h) where
    pub no_word : (length h - n) / 8 * 8 < 8 → true ≡ heap_full h n (8 + up_to8 m)
    unfolding heap_full
    no_word f = rw (lt-leb (2 ^ 62) n small, lt-ltb (length h) (n + (8 + up_to8 m)) (omega arith))

    pub no_bytes : 8 ≤ (length h - n) / 8 * 8 → ltb ((length h - n) / 8 * 8 - 8) m ≡ heap_full h n (8 + up_to8 m)
    unfolding heap_full up_to8
    no_bytes f =
        rw (lt-leb (2 ^ 62) n small)
        (same_ltb ((length h - n) / 8 * 8 - 8) m (length h) (n + (8 + up_to8 m)) (λ x. omega (arith, x)) (λ x. omega (arith, x)))

-- room, and the part that is lent of it
pub has_room : (h : List ℕ) (n m : ℕ) → heap_full h n (8 + up_to8 m) ≡ false → (n < 2 ^ 62) × (n + (8 + (m + 7) / 8 * 8) ≤ length h)
unfolding up_to8
has_room h n m e = room_in h n (8 + up_to8 m) e

pub part_lent :
    (h : List ℕ) (n m : ℕ) → n + (8 + (m + 7) / 8 * 8) ≤ length h →
    length (take (n + (8 + (m + 7) / 8 * 8) - n) (drop n h)) ≡ 8 + up_to8 m
unfolding up_to8
part_lent h n m l = rw add-sub_cancel_left (cut (8 + (m + 7) / 8 * 8) n h l)

-- the word, and the bytes with their zeros, fill what is lent
pub constant_made :
    (f : List ℕ) (w : ℕ) (b : List ℕ) → length f ≡ 8 + up_to8 (length b) →
    patch (patch f 0 (bytes_of 8 w)) 8 (pad (length f - 8) b) ≡ constant_bytes w b
unfolding constant_bytes
constant_made f w b e =
    let q = pad (up_to8 (length b)) b in
    let r : length f - 8 ≡ up_to8 (length b) = omega arith in
    let k : length q ≡ up_to8 (length b) = pad_length (up_to8 (length b)) b (up_to (length b)).0 in
    let m : length f ≡ length (bytes_of 8 w ++ q) = rw (length-append, bytes_length 8 w) (omega arith) in
    rw r (next_block f (bytes_of 8 w) q 8 (bytes_length 8 w) (omega arith) ∙ filled f (bytes_of 8 w ++ q) m)

-- a part of the slice that is stored whole
laid : (h : List ℕ) (n k : ℕ) (c : List ℕ) → k ≡ length c → take n h ++ (c ++ drop (n + k - n) (drop n h)) ≡ patch h n c
unfolding patch
laid h n k c e = rw (add-sub_cancel_left, drop-drop, e) (sym (append_assoc (take n h) c (drop (n + length c) h)))

-- a refusal leaves every byte
refused : (h : List ℕ) (n : ℕ) (r : Refusal) (a : Appending) → a ≡ refuse_append r → Appends h h n (Err r) a
unfolding heap_after
refused h n r a e = rw e (record { answer = refl; heap = sym (patch_none h n) })

module _ (h : List ℕ) (n : ℕ) (inline : Bool) (tag w : ℕ) (b : List ℕ) where
  pub heap_bad : bad_heap n h ≡ true → Appends h h n (Err BadStore) (append_constant h n inline tag (constant_bytes w b))
  unfolding append_constant append_fault
  heap_bad e = refused h n BadStore _ (rw e)

  module _ (good : bad_heap n h ≡ false) where
    pub has_inline : inline ≡ true → Appends h h n (Err (BadConstant 0)) (append_constant h n inline tag (constant_bytes w b))
    unfolding append_constant append_fault
    has_inline i = refused h n (BadConstant 0) _ (rw (good, i))

    module _ (other : inline ≡ false) where
      pub heap_full_law :
          heap_full h n (8 + up_to8 (length b)) ≡ true → Appends h h n (Err HeapFull) (append_constant h n inline tag (constant_bytes w b))
      unfolding append_constant append_fault
      heap_full_law f = refused h n HeapFull _ (rw (good, other, constant_length w b, f))

      pub is_stored :
          heap_full h n (8 + up_to8 (length b)) ≡ false →
          let k = 8 + (length b + 7) / 8 * 8 in
          Appends h (take n h ++ (constant_bytes w b ++ drop (n + k - n) (drop n h))) n (stored_as (naming tag n) k) (append_constant h n inline tag (constant_bytes w b))
      unfolding append_constant append_fault heap_after up_to8
      is_stored f =
          let e : 8 + (length b + 7) / 8 * 8 ≡ length (constant_bytes w b) = sym (constant_length w b) in
          rw (good, other, constant_length w b, f) (record { answer = refl; heap = laid h n (8 + (length b + 7) / 8 * 8) (constant_bytes w b) e })
