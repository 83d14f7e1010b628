-- Document 02, Two: appends to the constant heap, "a lent slice growing by 8-byte words". What one answers, and what it stores.
use Rattle.std.specs.Prelude.{Err}
use Rattle.answer.specs.Answers.{Append, stored_as}
use Rattle.std.specs.Prelude.{ℕ, ◌+◌, ◌^◌, Bool, ◌||◌, List, [], ◌++◌, leb, ltb, length}
use Rattle.store.specs.Words.{bytes_of, pad, patch}
unfoldable pub use Rattle.heap.specs.Constant.{bad_heap}
use Rattle.heap.specs.Constant.{up_to8}
use Rattle.datom.specs.declared.Value.{Value}
use Rattle.answer.specs.declared.Refusal.{Refusal}
use Rattle.answer.specs.declared.Refusal.TheVariants.{BadStore, BadConstant, HeapFull}
use Rattle.rules.specs.Lookup.{Finding, found}
use Rattle.rules.specs.Store.{refuse_if, or_else}

-- "12 HeapFull for an append that does not fit": k bytes into the slice, or the offset into the 62 bits that a value has for it
unfoldable pub heap_full : List ℕ → ℕ → ℕ → Bool
heap_full h n k = leb (2 ^ 62) n || ltb (length h) (n + k)

-- "an integer as one word, a byte string as its length word, its bytes, and zeros to a multiple of 8": a word, and the bytes behind it
unfoldable pub constant_bytes : ℕ → List ℕ → List ℕ
constant_bytes w b = bytes_of 8 w ++ pad (up_to8 (length b)) b

-- "A value then names an offset with tag 01 (integer) or 11 (bytes)."
abbrev pub int_tag : ℕ
int_tag = 2 ^ 62

abbrev pub bytes_tag : ℕ
bytes_tag = 2 ^ 63 + 2 ^ 62

abbrev pub naming : ℕ → ℕ → Value
naming tag offset = record { 0 = tag + offset }

-- what an append gives: its answer, and the bytes that are stored at the heap length, in order
pub record Appending : Type 0 where
  pub answer : Append
  pub bytes : List ℕ

-- "both write nothing"
abbrev pub refuse_append : Refusal → Appending
refuse_append r = record { answer = Err r; bytes = [] }

-- a constant of bytes c behind the heap length: refusals 1, 11 ("with index 0 for an append of content that has an inline form"), 12
unfoldable pub append_fault : List ℕ → ℕ → Bool → List ℕ → Finding
append_fault h n inline c =
    or_else found (refuse_if (bad_heap n h) BadStore)
    (or_else found (refuse_if inline (BadConstant 0))
    (refuse_if (heap_full h n (length c)) HeapFull))

unfoldable pub append_constant : List ℕ → ℕ → Bool → ℕ → List ℕ → Appending
append_constant h n inline tag c =
    or_else refuse_append (append_fault h n inline c) (record { answer = stored_as (naming tag n) (length c); bytes = c })

-- "Heap integers are 2^62 or more, heap strings 8 bytes or more, so content never has both an inline and a heap form."
unfoldable pub append_word : List ℕ → ℕ → ℕ → Appending
append_word h n w = append_constant h n (ltb w (2 ^ 62)) int_tag (constant_bytes w [])

unfoldable pub append_text : List ℕ → ℕ → List ℕ → Appending
append_text h n b = append_constant h n (ltb (length b) 8) bytes_tag (constant_bytes (length b) b)

-- the heap's slice afterwards: "The heap only grows"
unfoldable pub heap_after : List ℕ → ℕ → Appending → List ℕ
heap_after h n a = patch h n a.bytes
