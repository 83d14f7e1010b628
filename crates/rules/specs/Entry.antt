-- "A second entry is called from the C++ replicator with numbers and byte slices": what it returns, and what it leaves.
use Rattle.answer.specs.Answers.{Answer}
use Rattle.std.specs.Prelude.{ℕ, cond, List, [], ◌∷◌, eqb, length}
use Rattle.store.specs.declared.PageId.{PageId}
use Rattle.store.specs.declared.Extent.{Extent}
use Rattle.store.specs.declared.StoreRecord.{StoreRecord}
use Rattle.store.specs.Words.{bytes_of, spread}
use Rattle.store.specs.Page.{none}
use Rattle.answer.specs.Table.{Words, answer_words, named_answer}
use Rattle.rules.specs.Store.{store_after}
use Rattle.rules.specs.Insert.{Outcome}
use Rattle.rules.specs.Calls.{extent_of, insert_bytes_call, initialise_bytes_call}

-- "It writes four 8-byte little-endian words to a lent answer area and returns the first"
unfoldable pub word_bytes : Words → List ℕ
word_bytes w = spread (bytes_of 8) (w.number ∷ w.root ∷ w.pages ∷ w.detail ∷ [])

-- the word returned, and the store and the answer area afterwards
pub record Reply : Type 0 where
  pub returns : ℕ
  pub store : List ℕ
  pub area : List ℕ

-- "An area not 32 bytes long is 1 before all else and stays unchanged."
unfoldable pub reply_in : (Answer → Words) → Extent → List ℕ → List ℕ → Outcome → Reply
reply_in words x s area o =
    cond (eqb (length area) 32)
    (record { returns = (words o.answer).number; store = store_after x s o.pages; area = word_bytes (words o.answer) })
    (record { returns = 1; store = s; area = area })

abbrev pub reply : Extent → List ℕ → List ℕ → PageId → Outcome → Reply
reply x s area root o = reply_in (answer_words root) x s area o

-- of a record, a store and a heap
unfoldable pub insert_reply : StoreRecord → List ℕ → List ℕ → ℕ → PageId → List ℕ → List ℕ → Reply
insert_reply r s h scratch root batch area = reply (extent_of r) s area root (insert_bytes_call r s h scratch root batch)

-- document 02, One: the same insert, which tells the fault too
unfoldable pub insert_named_reply : StoreRecord → List ℕ → List ℕ → ℕ → PageId → List ℕ → List ℕ → Reply
insert_named_reply r s h scratch root batch area = reply_in (named_answer root) (extent_of r) s area (insert_bytes_call r s h scratch root batch)

-- an initialise is given no root: none
unfoldable pub initialise_reply : StoreRecord → List ℕ → List ℕ → ℕ → List ℕ → List ℕ → Reply
initialise_reply r s h scratch batch area = reply (extent_of r) s area none (initialise_bytes_call r s h scratch batch)
