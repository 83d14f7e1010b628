-- The order of values, by example: what document 01 expects people to get wrong.
use Prim.Native.Nat.{ℕ, ◌^◌, Ordering}
use Rattle.std.specs.Prelude.{List, [], ◌∷◌, ◌++◌, ◌≡◌, refl}
use Rattle.store.specs.Words as Words
use Rattle.store.specs.Words.{bytes_of}
use Rattle.heap.specs.Constant as Constant
use Rattle.datom.specs.Value as Value
use Rattle.index.specs.Order.{and_then, cmp_bytes, cmp_content, cmp_value}

-- the definitions behind the order of values, opened
unfoldable values : Unit {0}
unfolding Words.bytes_of Words.little Words.word_at Constant.word_there Constant.bytes_there Constant.integer_at Constant.bytes_at Value.is_int Value.str_len Value.is_str Value.is_max Value.names_int Value.names_str Value.offset_of Value.inline_content Value.named_int Value.named_str Value.content and_then cmp_bytes cmp_content cmp_value
values = tt

-- over a heap that has "abcdefgh" at 0, 2^62 at 16, and "abcdefgh" again at 24
abbrev heap : List ℕ
heap = text ++ (bytes_of 8 (2 ^ 62) ++ text)
  where
    text : List ℕ
    text = bytes_of 8 8 ++ (97 ∷ 98 ∷ 99 ∷ 100 ∷ 101 ∷ 102 ∷ 103 ∷ 104 ∷ [])

abbrev order : ℕ → ℕ → Ordering
order v w = cmp_value heap (record { 0 = v }) (record { 0 = w })

-- ""ab" sorts below "b"", though its word is the larger number
ab_below_b : order 0x8200_0000_0000_6261 0x8100_0000_0000_0062 ≡ Ordering.lt
unfolding values
ab_below_b = refl

-- "a proper prefix first": "b" below "ba", and the empty string below "a"
prefix_first : order 0x8100_0000_0000_0062 0x8200_0000_0000_6162 ≡ Ordering.lt
unfolding values
prefix_first = refl

empty_first : order 0x8100_0000_0000_0061 0x8000_0000_0000_0000 ≡ Ordering.gt
unfolding values
empty_first = refl

-- "unsigned bytes": byte 128 above byte 127
unsigned : order 0x8100_0000_0000_007f 0x8100_0000_0000_0080 ≡ Ordering.lt
unfolding values
unsigned = refl

-- "Integers come before byte strings, these before max"
integers_first : order 0x3fff_ffff_ffff_ffff 0x8000_0000_0000_0000 ≡ Ordering.lt
unfolding values
integers_first = refl

max_last : order 0x87ff_ffff_ffff_ffff 0xffff_ffff_ffff_ffff ≡ Ordering.lt
unfolding values
max_last = refl

-- document 02, Two: "two offsets with equal content are equal"
by_content : order 0xc000_0000_0000_0000 0xc000_0000_0000_0018 ≡ Ordering.eq
unfolding values
by_content = refl

-- "a proper prefix first", also of an inline one: "abcdefg" below "abcdefgh"
inline_prefix : order 0x8767_6665_6463_6261 0xc000_0000_0000_0000 ≡ Ordering.lt
unfolding values
inline_prefix = refl

-- the integer 2^62, above every inline one and below every byte string
large_integer : order 0x3fff_ffff_ffff_ffff 0x4000_0000_0000_0010 ≡ Ordering.lt
unfolding values
large_integer = refl

below_strings : order 0x4000_0000_0000_0010 0x8000_0000_0000_0000 ≡ Ordering.lt
unfolding values
below_strings = refl

-- what is not there is taken for max
past_the_end : order 0xc000_0000_0000_0028 0xffff_ffff_ffff_ffff ≡ Ordering.eq
unfolding values
past_the_end = refl
