-- Pages of 8192 bytes (document 02, Thirteen): where things stand in one, and an example beside k and l, which the rules compute over bytes.
use Rattle.std.specs.Prelude.{Err}
use Rattle.answer.specs.Answers.{done_with}
use Rattle.std.specs.Prelude.{ℕ, ◌+◌, ◌*◌, List, [], ◌∷◌, ◌≡◌, refl, get_or}
use Rattle.store.specs.declared.Extent.{Extent}
use Rattle.store.specs.Words.{word_at, zeros}
use Rattle.store.specs.Page.{page}
use Rattle.store.specs.Size.{capacity}
use Rattle.answer.specs.declared.Refusal.TheVariants.{BadStore}
use Rattle.rules.specs.Page.{child_at, level_of, count_of}
use Rattle.rules.specs.Store.{store_after}
use Rattle.rules.specs.Insert.{Outcome, leaf_of, initialise, insert}
use Rattle.rules.specs.Table.{d, eavt, run}
use Rattle.rules.specs.Open.{rules}

-- "children start at 6528"
children_start : (s : List ℕ) (i : ℕ) → child_at (capacity 8192) s i ≡ page (word_at s (6528 + 8 * i))
unfolding rules
children_start s i = refl

-- "the header at 8168": level, then count
level_at : (s : List ℕ) → level_of (capacity 8192) s ≡ get_or s 8168 0
unfolding rules
level_at s = refl

count_at : (s : List ℕ) → count_of (capacity 8192) s ≡ get_or s 8169 0
unfolding rules
count_at s = refl

-- a store with room for four pages, of which so many are in use
abbrev wide : ℕ → Extent
wide count = record { size = 8192; count = count }

abbrev bytes : List ℕ
bytes = zeros 32768

-- a batch of 128 fits into one page
abbrev first : Outcome
first = initialise eavt (wide 0) bytes 619584 (run 0 128)

first_fits : first ≡ record { answer = done_with (page 0) 1; pages = leaf_of (run 0 128) ∷ [] }
unfolding rules
first_fits = refl

-- the insert of n more, with so much scratch
abbrev second : ℕ → ℕ → Outcome
second n room = insert eavt (wide 1) (store_after (wide 0) bytes first.pages) room (page 0) (run 128 n)

-- 204 datoms are a full page
second_fits : second 76 619584 ≡ record { answer = done_with (page 1) 1; pages = leaf_of (run 0 204) ∷ [] }
unfolding rules
second_fits = refl

-- 205 are one too many: 206 children for two pages, 103 each, so 102 datoms each, and d102 goes up
second_splits :
    second 77 619584 ≡ record {
      answer = done_with (page 3) 3;
      pages = leaf_of (run 0 102) ∷ leaf_of (run 103 102) ∷ record { level = 1; datoms = d 102 ∷ []; children = page 1 ∷ page 2 ∷ [] } ∷ [];
    }
unfolding rules
second_splits = refl

-- 206: the first page takes the child that is left over. The Rust loses d205.
second_keeps :
    second 78 619584 ≡ record {
      answer = done_with (page 3) 3;
      pages = leaf_of (run 0 103) ∷ leaf_of (run 104 102) ∷ record { level = 1; datoms = d 103 ∷ []; children = page 1 ∷ page 2 ∷ [] } ∷ [];
    }
unfolding rules
second_keeps = refl

-- a byte of scratch less is 1
second_short : second 77 619583 ≡ record { answer = Err BadStore; pages = [] }
unfolding rules
second_short = refl
