-- What an append leaves: "The heap only grows", and the constant stands where the value says.
use Rattle.answer.specs.Answers.{same_stored}
use Rattle.std.specs.Prelude.{Err}
use Rattle.answer.specs.Answers.{stored_as}
use Rattle.std.specs.Prelude.{ℕ, zero, suc, ◌+◌, ◌-◌, ◌%◌, ◌^◌, ◌≤◌, ◌<◌, Bool, ◌||◌, ◌≡◌, leb, ltb, take}
use Rattle.std.proofs.Common.{arith, ◌∙◌, length-append, drop-drop}
use Rattle.std.proofs.Math.Bool.{true, false}
use mathlib.Core.List.{List, [], ◌++◌}
use Rattle.std.proofs.Math.Path.{refl, sym, ap}
use borrow.Author.Tests.{ltb-false, leb-false, le-ltb, le-leb, eq-eqb}
use Rattle.std.proofs.Math.ListN.{length, drop}
use Rattle.std.proofs.Math.Seq.{take_at, drop_at, length-take-le, take_all}
use Rattle.store.specs.Words.{bytes_of, word_at, zeros, pad, patch}
use Rattle.store.specs.Laws.{apart, bytes_length, little_bytes, pad_length}
use Rattle.store.specs.Cells.{take_patch, drop_patch_le, patch_none, patch_length}
use Rattle.store.specs.Padding.{zeros_length}
pub use Rattle.heap.specs.Laws.{heap_in}
use Rattle.heap.specs.Constant.{up_to8, all_zero, word_there, bytes_there, integer_at, bytes_at, valid_int, padded, valid_str}
use Rattle.datom.specs.declared.Value.{Value}
use Rattle.answer.specs.declared.Refusal.{Refusal}
use Rattle.answer.specs.declared.Refusal.TheVariants.{BadStore, BadConstant, HeapFull}
use Rattle.rules.specs.Append.{bad_heap, heap_full, constant_bytes, int_tag, bytes_tag, naming, Appending, refuse_append, append_fault, append_constant, append_word, append_text, heap_after}

neither : (a b : Bool) → (a || b) ≡ false → (a ≡ false) × (b ≡ false)
neither true b e = absurd (apart (cc))
neither false b e = (refl, e)

pub heap_good : (n : ℕ) (h : List ℕ) → n ≤ length h → n % 8 ≡ 0 → bad_heap n h ≡ false
unfolding bad_heap
heap_good n h l e = rw (le-ltb (length h) n l, eq-eqb (n % 8) 0 e)

-- room for a constant
pub room_in : (h : List ℕ) (n k : ℕ) → heap_full h n k ≡ false → (n < 2 ^ 62) × (n + k ≤ length h)
unfolding heap_full
room_in h n k e =
    let w = neither (leb (2 ^ 62) n) (ltb (length h) (n + k)) e in
    (leb-false (2 ^ 62) n w.0, ltb-false (length h) (n + k) w.1)

-- the bytes of a constant are words, and there are some
pub up_to : (n : ℕ) → (n ≤ up_to8 n) × (up_to8 n % 8 ≡ 0)
unfolding up_to8
up_to n = (omega arith, omega arith)

pub constant_length : (w : ℕ) (b : List ℕ) → length (constant_bytes w b) ≡ 8 + up_to8 (length b)
unfolding constant_bytes
constant_length w b = rw (length-append, bytes_length 8 w, pad_length (up_to8 (length b)) b (up_to (length b)).0)

-- the two ways of an append
data Way (h : List ℕ) (n : ℕ) (inline : Bool) (tag : ℕ) (c : List ℕ) : Appending → Type 0 where
  not_stored : (r : Refusal) → Way h n inline tag c (refuse_append r)
  is_stored :
      bad_heap n h ≡ false → inline ≡ false → heap_full h n (length c) ≡ false →
      Way h n inline tag c (record { answer = stored_as (naming tag n) (length c); bytes = c })

module _ (h : List ℕ) (n : ℕ) (tag : ℕ) (c : List ℕ) where
  way : (inline : Bool) → Way h n inline tag c (append_constant h n inline tag c)
  unfolding append_constant append_fault
  way inline = first (bad_heap n h) refl inline
    where
      last : (b : Bool) → heap_full h n (length c) ≡ b → bad_heap n h ≡ false → Way h n false tag c (append_constant h n false tag c)
      last true e g = rw (g, e) (not_stored HeapFull)
      last false e g = rw (g, e) (is_stored g refl e)

      then : (i : Bool) → bad_heap n h ≡ false → Way h n i tag c (append_constant h n i tag c)
      then true g = rw g (not_stored (BadConstant 0))
      then false g = last (heap_full h n (length c)) refl g

      first : (b : Bool) → bad_heap n h ≡ b → (i : Bool) → Way h n i tag c (append_constant h n i tag c)
      first true e i = rw e (not_stored BadStore)
      first false e i = then i e

-- "both write nothing", and neither does 1
after_refused : (h : List ℕ) (n : ℕ) (r : Refusal) → heap_after h n (refuse_append r) ≡ h
unfolding heap_after
after_refused h n r = patch_none h n

-- "The heap only grows": no byte below the length changes, none past what is stored, and none at all where nothing is; it grows "by
-- 8-byte words", so that its new length is in order
pub record Keeps (h : List ℕ) (n : ℕ) (a : Appending) : Type 0 where
  pub below : take n (heap_after h n a) ≡ take n h
  pub past : drop (n + length a.bytes) (heap_after h n a) ≡ drop (n + length a.bytes) h
  pub slice : length (heap_after h n a) ≡ length h
  pub refused : (r : Refusal) → a.answer ≡ Err r → heap_after h n a ≡ h
  pub counted : (v : Value) (k : ℕ) → a.answer ≡ stored_as v k → k ≡ length a.bytes
  pub whole : (v : Value) (k : ℕ) → a.answer ≡ stored_as v k → (k % 8 ≡ 0) × (0 < k)
  pub good : (v : Value) (k : ℕ) → a.answer ≡ stored_as v k → bad_heap (n + k) (heap_after h n a) ≡ false
  pub more : (v : Value) (k : ℕ) → a.answer ≡ stored_as v k → take (n + k) (heap_after h n a) ≡ take n h ++ a.bytes

-- what is stored, and the heap that has grown by it
record Grown (h : List ℕ) (n tag : ℕ) (c : List ℕ) (inline : Bool) (v : Value) (k : ℕ) (a : Appending) : Type 0 where
  value : v ≡ naming tag n
  bytes : k ≡ length c
  none : inline ≡ false
  offset : (n % 8 ≡ 0) × (n < 2 ^ 62)
  fits : n ≤ length h
  heap : take (n + k) (heap_after h n a) ≡ take n h ++ c

module _ (h : List ℕ) (n : ℕ) (inline : Bool) (tag : ℕ) (c : List ℕ) where
  front : n ≤ length h → take (n + length c) (patch h n c) ≡ take n h ++ c
  unfolding patch
  front l = take_at (take n h ++ c) (drop (n + length c) h) (n + length c) (rw (length-append, length-take-le n h l))

  keeps : length c % 8 ≡ 0 → 0 < length c → Keeps h n (append_constant h n inline tag c)
  unfolding heap_after
  keeps z s = side (way h n tag c inline)
    where
      side : {a : Appending} → Way h n inline tag c a → Keeps h n a
      side (not_stored q) =
          let same = after_refused h n q in
          record {
            below = ap (take n) same;
            past = ap (drop (n + 0)) same;
            slice = ap length same;
            refused = λ r e. same;
            counted = λ v k e. absurd (apart (cc));
            whole = λ v k e. absurd (apart (cc));
            good = λ v k e. absurd (apart (cc));
            more = λ v k e. absurd (apart (cc));
          }
      side (is_stored g i f) =
          let l = heap_in n h g in
          let r = room_in h n (length c) f in
          let m : length (patch h n c) ≡ length h = patch_length h n c r.1 in
          record {
            below = take_patch h n c l.0;
            past = drop_patch_le h n c (n + length c) (omega arith) r.1;
            slice = m;
            refused = λ r e. absurd (apart (cc));
            counted = λ v k e. sym (same_stored e).1;
            whole = λ v k e. let x : k ≡ length c = sym (same_stored e).1 in (rw x z, rw x s);
            good = λ v k e. let x : k ≡ length c = sym (same_stored e).1 in rw x (heap_good (n + length c) (patch h n c) (omega arith) (omega (arith, l.1)));
            more = λ v k e. let x : k ≡ length c = sym (same_stored e).1 in rw x (front l.0);
          }

  module _ (v : Value) (k : ℕ) where
    grown : (append_constant h n inline tag c).answer ≡ stored_as v k → Grown h n tag c inline v k (append_constant h n inline tag c)
    unfolding heap_after
    grown e = side (way h n tag c inline) e
      where
        side : {a : Appending} → Way h n inline tag c a → a.answer ≡ stored_as v k → Grown h n tag c inline v k a
        side (not_stored q) e = absurd (apart (cc))
        side (is_stored g i f) e =
            let l = heap_in n h g in
            let m : k ≡ length c = sym (same_stored e).1 in
            let u : v ≡ naming tag n = sym (same_stored e).0 in
            record {
              value = u;
              bytes = m;
              none = i;
              offset = (l.1, (room_in h n (length c) f).0);
              fits = l.0;
              heap = rw m (front l.0);
            }

zeros_zero : (k : ℕ) → all_zero (zeros k) ≡ true
unfolding all_zero
zeros_zero zero = refl
zeros_zero (suc k) = zeros_zero k

-- a constant at the end of a heap
module _ (u : List ℕ) (w : ℕ) (b : List ℕ) (word : w < 2 ^ 64) where
  constant_end : length (u ++ constant_bytes w b) ≡ length u + (8 + up_to8 (length b))
  constant_end = rw (length-append, constant_length w b)

  constant_word : word_at (u ++ constant_bytes w b) (length u) ≡ w
  unfolding word_at constant_bytes
  constant_word = rw (drop_at u (bytes_of 8 w ++ pad (up_to8 (length b)) b) (length u) refl, take_at (bytes_of 8 w) (pad (up_to8 (length b)) b) 8 (bytes_length 8 w)) (little_bytes 8 w word)

  constant_there : word_there (u ++ constant_bytes w b) (length u) ≡ true
  unfolding word_there
  constant_there = le-leb (length u + 8) (length (u ++ constant_bytes w b)) (omega (arith, constant_end))

  behind : drop (length u + 8) (u ++ constant_bytes w b) ≡ pad (up_to8 (length b)) b
  unfolding constant_bytes
  behind =
      let p = pad (up_to8 (length b)) b in
      sym (drop-drop 8 (length u) (u ++ (bytes_of 8 w ++ p)))
      ∙ rw (drop_at u (bytes_of 8 w ++ p) (length u) refl, drop_at (bytes_of 8 w) p 8 (bytes_length 8 w))

  end_integer : integer_at (u ++ constant_bytes w b) (length u) ≡ w
  unfolding integer_at
  end_integer = rw constant_there constant_word

  end_int_valid : length u % 8 ≡ 0 → 2 ^ 62 ≤ w → valid_int (u ++ constant_bytes w b) (length u) ≡ true
  unfolding valid_int
  end_int_valid z l = rw (eq-eqb (length u % 8) 0 z, constant_there, constant_word) (le-leb (2 ^ 62) w l)

module _ (u b : List ℕ) (word : length b < 2 ^ 64) where
  end_there : bytes_there (u ++ constant_bytes (length b) b) (length u) ≡ true
  unfolding bytes_there
  end_there =
      rw (constant_there u (length b) b word, constant_word u (length b) b word)
      (le-leb (length u + 8 + length b) (length (u ++ constant_bytes (length b) b)) (omega (arith, constant_end u (length b) b word, (up_to (length b)).0)))

  end_bytes : bytes_at (u ++ constant_bytes (length b) b) (length u) ≡ b
  unfolding bytes_at pad
  end_bytes =
      rw (end_there, constant_word u (length b) b word, behind u (length b) b word) (take_at b (zeros (up_to8 (length b) - length b)) (length b) refl)

  end_padded : padded (u ++ constant_bytes (length b) b) (length u + 8 + length b) (length b) ≡ true
  unfolding padded pad
  end_padded =
      let k = up_to8 (length b) - length b in
      let g = u ++ constant_bytes (length b) b in
      let d : drop (length u + 8 + length b) g ≡ zeros k =
      sym (drop-drop (length b) (length u + 8) g) ∙ rw (behind u (length b) b word) (drop_at b (zeros k) (length b) refl) in
      rw (
        le-leb (length u + 8 + length b + k) (length g) (omega (arith, constant_end u (length b) b word, (up_to (length b)).0)),
        d,
        take_all k (zeros k) (omega (arith, zeros_length k)),
      )
      (zeros_zero k)

  end_str_valid : length u % 8 ≡ 0 → 8 ≤ length b → valid_str (u ++ constant_bytes (length b) b) (length u) ≡ true
  unfolding valid_str
  end_str_valid z l =
      rw (eq-eqb (length u % 8) 0 z, end_there, constant_word u (length b) b word, le-leb 8 (length b) l) end_padded

-- an integer that was appended, and the heap of the new length
pub record WordStored (n w : ℕ) (v : Value) (k : ℕ) (g : List ℕ) : Type 0 where
  pub value : v ≡ naming int_tag n
  pub offset : (n % 8 ≡ 0) × (n < 2 ^ 62)
  pub bytes : k ≡ 8
  pub valid : valid_int g n ≡ true
  pub holds : integer_at g n ≡ w

-- a byte string
pub record TextStored (n : ℕ) (b : List ℕ) (v : Value) (k : ℕ) (g : List ℕ) : Type 0 where
  pub value : v ≡ naming bytes_tag n
  pub offset : (n % 8 ≡ 0) × (n < 2 ^ 62)
  pub bytes : k ≡ 8 + up_to8 (length b)
  pub valid : valid_str g n ≡ true
  pub holds : bytes_at g n ≡ b

module _ (h : List ℕ) (n : ℕ) where
  pub word_keeps : (w : ℕ) → Keeps h n (append_word h n w)
  unfolding append_word
  word_keeps w =
      let l = constant_length w [] in
      let z = up_to 0 in
      keeps h n (ltb w (2 ^ 62)) int_tag (constant_bytes w []) (omega arith) (omega arith)

  pub text_keeps : (b : List ℕ) → Keeps h n (append_text h n b)
  unfolding append_text
  text_keeps b =
      let l = constant_length (length b) b in
      let z = up_to (length b) in
      keeps h n (ltb (length b) 8) bytes_tag (constant_bytes (length b) b) (omega arith) (omega arith)

  module _ (v : Value) (k : ℕ) where
    pub word_stored :
        (w : ℕ) → w < 2 ^ 64 → (append_word h n w).answer ≡ stored_as v k → WordStored n w v k (take (n + k) (heap_after h n (append_word h n w)))
    unfolding append_word up_to8
    word_stored w word e =
        let G = grown h n (ltb w (2 ^ 62)) int_tag (constant_bytes w []) v k e in
        let m = length-take-le n h G.fits in
        let l = constant_length w [] in
        record {
          value = G.value;
          offset = G.offset;
          bytes = G.bytes ∙ l;
          valid = rw G.heap (rw m at (end_int_valid (take n h) w [] word (rw m G.offset.0) (ltb-false w (2 ^ 62) G.none)));
          holds = rw G.heap (rw m at (end_integer (take n h) w [] word));
        }

    pub text_stored :
        (b : List ℕ) → length b < 2 ^ 64 → (append_text h n b).answer ≡ stored_as v k → TextStored n b v k (take (n + k) (heap_after h n (append_text h n b)))
    unfolding append_text
    text_stored b word e =
        let G = grown h n (ltb (length b) 8) bytes_tag (constant_bytes (length b) b) v k e in
        let m = length-take-le n h G.fits in
        record {
          value = G.value;
          offset = G.offset;
          bytes = G.bytes ∙ constant_length (length b) b;
          valid = rw G.heap (rw m at (end_str_valid (take n h) b word (rw m G.offset.0) (ltb-false (length b) 8 G.none)));
          holds = rw G.heap (rw m at (end_bytes (take n h) b word));
        }
