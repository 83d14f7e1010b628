-- Values: which words are one, and what each stands for.
use Rattle.std.specs.Prelude.{ℕ, ◌+◌, ◌*◌, ◌/◌, ◌%◌, ◌^◌, Bool, ◌&&◌, ◌||◌, not, cond, List, Option, Some, None, leb, ltb, eqb, length}
use Rattle.store.specs.Words.{little, bytes_of}
use Rattle.heap.specs.Constant.{word_there, bytes_there, integer_at, bytes_at, valid_int, valid_str}
use Rattle.datom.specs.declared.Value.{Value}

-- "Value: below 2^62, an inline integer."
unfoldable pub is_int : Value → Bool
is_int v = ltb v.0 (2 ^ 62)

-- "length 0 to 7 in bits 56 to 61"
unfoldable pub str_len : Value → ℕ
str_len v = (v.0 / 2 ^ 56) % 64

-- "Top bits 10, an inline byte string: length 0 to 7 .., first byte lowest, unused bytes zero."
unfoldable pub is_str : Value → Bool
is_str v = eqb (v.0 / 2 ^ 62) 2 && leb (str_len v) 7 && ltb (v.0 % 2 ^ 56) (256 ^ str_len v)

-- "2^64-1 is max."
abbrev pub max_word : ℕ
max_word = 0xffff_ffff_ffff_ffff

unfoldable pub is_max : Value → Bool
is_max v = eqb v.0 max_word

-- document 02, Two: "A value then names an offset with tag 01 (integer) or 11 (bytes)"; "2^64-1 stays max"
unfoldable pub names_int : Value → Bool
names_int v = eqb (v.0 / 2 ^ 62) 1

unfoldable pub names_str : Value → Bool
names_str v = eqb (v.0 / 2 ^ 62) 3 && not (is_max v)

unfoldable pub offset_of : Value → ℕ
offset_of v = v.0 % 2 ^ 62

-- the bit of both tags, which max has too
unfoldable pub is_external : Value → Bool
is_external v = eqb (v.0 / 2 ^ 62 % 2) 1

-- what the word alone may be (refusal 3): "All else is malformed here. A stored datom may not have max"
unfoldable pub formed_value : Value → Bool
formed_value v = is_int v || is_str v || names_int v || names_str v

-- a constant that is named must be valid where it stands (refusal 11)
unfoldable pub stored_value : List ℕ → Value → Bool
stored_value h v = is_int v || is_str v || (names_int v && valid_int h (offset_of v)) || (names_str v && valid_str h (offset_of v))

-- ".. a bound may."
unfoldable pub bound_value : List ℕ → Value → Bool
bound_value h v = stored_value h v || is_max v

-- what a value stands for; a malformed one is taken for max, so that the order is total
pub data Content : Type 0 where
  int : ℕ → Content
  str : List ℕ → Content
  top : Content

-- by its word alone
unfoldable pub inline_content : Value → Content
inline_content v = cond (is_int v) (int v.0) (cond (is_str v) (str (bytes_of (str_len v) v.0)) top)

-- by the constant that it names, if its bytes are there: nothing else is asked of it, so that a comparison reads no padding
unfoldable pub named_int : List ℕ → ℕ → Content
named_int h o = cond (word_there h o) (int (integer_at h o)) top

unfoldable pub named_str : List ℕ → ℕ → Content
named_str h o = cond (bytes_there h o) (str (bytes_at h o)) top

unfoldable pub content : List ℕ → Value → Content
content h v = cond (names_int v) (named_int h (offset_of v)) (cond (names_str v) (named_str h (offset_of v)) (inline_content v))

-- an integer in the word itself
abbrev pub inline_int : ℕ → Option Value
inline_int n = cond (ltb n (2 ^ 62)) (Some (record { 0 = n })) None

-- a flag, as the integer 1 or 0
abbrev pub bool_int : Bool → Value
bool_int b = cond b (record { 0 = 1 }) (record { 0 = 0 })

-- a byte string in the word itself: the tag, the length, and the bytes, the first one lowest
abbrev pub inline_str : List ℕ → Option Value
inline_str b = cond (leb (length b) 7) (Some (record { 0 = 2 ^ 63 + length b * 2 ^ 56 + little b })) None
