-- Appends that the rules compute, one for each sentence of document 02, Two, that speaks of them.
use Rattle.answer.specs.Answers.{stored_as}
use Rattle.std.specs.Prelude.{ℕ, ◌+◌, ◌-◌, ◌^◌, List, [], ◌∷◌, ◌++◌, ◌≡◌, refl, replicate, take}
use Rattle.store.specs.Words.{zeros}
use Rattle.heap.specs.Constant.{bytes_at}
use Rattle.answer.specs.declared.Refusal.TheVariants.{BadStore, BadConstant, HeapFull}
use Rattle.answer.specs.Table.{append_words}
use Rattle.rules.specs.Append.{naming, bytes_tag, refuse_append, append_word, append_text, heap_after}
use Rattle.rules.specs.Open.{rules}

-- a slice that was used for something else, and strings of ones
abbrev slice : List ℕ
slice = replicate 40 255

abbrev ones : ℕ → List ℕ
ones n = replicate n 1

-- "an integer as one word"
one_word : heap_after slice 8 (append_word slice 8 (2 ^ 62 + 5)) ≡ replicate 8 255 ++ ((5 ∷ 0 ∷ 0 ∷ 0 ∷ 0 ∷ 0 ∷ 0 ∷ 64 ∷ []) ++ replicate 24 255)
unfolding rules
one_word = refl

-- "a byte string as its length word, its bytes, and zeros to a multiple of 8"
padded_bytes : heap_after slice 8 (append_text slice 8 (ones 9)) ≡ replicate 8 255 ++ ((9 ∷ zeros 7) ++ (ones 9 ++ (zeros 7 ++ replicate 8 255)))
unfolding rules
padded_bytes = refl

-- of a multiple of 8 there is nothing to fill up
even_bytes : heap_after slice 8 (append_text slice 8 (ones 8)) ≡ replicate 8 255 ++ ((8 ∷ zeros 7) ++ (ones 8 ++ replicate 16 255))
unfolding rules
even_bytes = refl

-- "A value then names an offset with tag 01 (integer) or 11 (bytes)."
word_named : append_words (append_word slice 8 (2 ^ 62)).answer ≡ record { number = 0; root = 0x4000_0000_0000_0008; pages = 8; detail = 0 }
unfolding rules
word_named = refl

bytes_named : append_words (append_text slice 8 (ones 9)).answer ≡ record { number = 0; root = 0xc000_0000_0000_0008; pages = 24; detail = 0 }
unfolding rules
bytes_named = refl

-- the constant can be read back below the new length
bytes_read : bytes_at (take 32 (heap_after slice 8 (append_text slice 8 (ones 9)))) 8 ≡ ones 9
unfolding rules
bytes_read = refl

-- "1 also when the heap length passes its slice or is no multiple of 8"
length_passes : append_word slice 48 (2 ^ 62) ≡ refuse_append BadStore
unfolding rules
length_passes = refl

length_odd : append_word slice 4 (2 ^ 62) ≡ refuse_append BadStore
unfolding rules
length_odd = refl

-- "11 BadConstant(i) .. with index 0 for an append of content that has an inline form"
inline_integer : append_word slice 8 (2 ^ 62 - 1) ≡ refuse_append (BadConstant 0)
unfolding rules
inline_integer = refl

inline_bytes : append_text slice 8 (ones 7) ≡ refuse_append (BadConstant 0)
unfolding rules
inline_bytes = refl

-- "12 HeapFull for an append that does not fit": the last that fits, and the first that does not
fits_exactly : (append_text slice 8 (ones 24)).answer ≡ stored_as (naming bytes_tag 8) 32
unfolding rules
fits_exactly = refl

one_too_many : append_text slice 8 (ones 25) ≡ refuse_append HeapFull
unfolding rules
one_too_many = refl

no_word_left : append_word slice 40 (2 ^ 62) ≡ refuse_append HeapFull
unfolding rules
no_word_left = refl

-- 1 before 11, and 11 before 12
store_first : append_text slice 4 [] ≡ refuse_append BadStore
unfolding rules
store_first = refl

constant_first : append_word slice 40 0 ≡ refuse_append (BadConstant 0)
unfolding rules
constant_first = refl
