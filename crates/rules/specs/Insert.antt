-- Insert and initialise: the answer, with the pages written in order.
use Rattle.std.specs.Prelude.{Err}
use Rattle.answer.specs.Answers.{Answer, done_with}
use Prim.Native.Nat.{ℕ, suc, ◌/◌, ◌%◌, Ordering}
use Rattle.std.specs.Prelude.{Bool, false, ◌||◌, not, cond, List, [], ◌∷◌, ltb, eqb, length, replicate}
use Rattle.store.specs.declared.PageId.{PageId}
use Rattle.store.specs.declared.Extent.{Extent}
use Rattle.store.specs.Page.{none, is_none}
use Rattle.datom.specs.declared.Datom.{Datom}
use Rattle.datom.specs.Datom.{datoms_of}
use Rattle.index.specs.Order.{DatomOrd, is_less, is_same}
use Rattle.answer.specs.declared.Refusal.{Refusal}
use Rattle.answer.specs.declared.Refusal.TheVariants.{BadStore, TooMany, BadDatom, BadConstant, OutOfOrder, NoPage, Damaged}
use Rattle.rules.specs.Page.{Node}
use Rattle.rules.specs.Tree.{Fetched, faulty, fine, Env, Stage, stop, go, write_root, insert_tree}
use Rattle.rules.specs.Lookup.{Finding, clear, found, lookup_all}
use Rattle.rules.specs.Store.{refuse_if, or_else, bad_store, bad_scratch, bad_root, fetch_page, env_of}

-- what a call gives: its answer, and the pages written, in order
pub record Outcome : Type 0 where
  pub answer : Answer
  pub pages : List Node

-- a refusal before anything is written
abbrev pub refuse : Refusal → Outcome
refuse r = record { answer = Err r; pages = [] }

-- "Done carries the root and the number of pages written."
unfoldable pub outcome : Stage PageId → Outcome
outcome (stop r o) = record { answer = Err r; pages = o }
outcome (go root o) = record { answer = done_with root (length o); pages = o }

-- 1
unfoldable pub store_fault : Extent → List ℕ → ℕ → Finding
store_fault x s scratch = refuse_if (bad_store x s || bad_scratch x scratch) BadStore

-- 2: "batch over 128"
unfoldable pub count_fault : List Datom → Finding
count_fault ds = refuse_if (ltb 128 (length ds)) TooMany

-- the first datom that fails a test, refused with its index
unfoldable pub form_fault : (ℕ → Refusal) → (Datom → Bool) → ℕ → List Datom → Finding
form_fault bad ok i [] = clear
form_fault bad ok i (d ∷ ds) = let rest = form_fault bad ok (suc i) ds in cond (ok d) rest (found (bad i))

-- 3: "first malformed datom, or one with value max"; document 02, Two: "11 BadConstant(i), after 3"
unfoldable pub word_fault : DatomOrd → List Datom → Finding
word_fault t ds = or_else found (form_fault BadDatom t.formed 0 ds) (form_fault BadConstant t.stored 0 ds)

-- 4: "first datom not above its predecessor"
unfoldable pub low_fault : (Datom → Datom → Ordering) → ℕ → Datom → List Datom → Finding
low_fault cmp i p [] = clear
low_fault cmp i p (d ∷ ds) = let rest = low_fault cmp (suc i) d ds in cond (is_less (cmp p d)) rest (found (OutOfOrder i))

unfoldable pub order_fault : (Datom → Datom → Ordering) → List Datom → Finding
order_fault cmp [] = clear
order_fault cmp (d ∷ ds) = low_fault cmp 1 d ds

-- 4: "for initialise, first equal to an earlier one, indices as the batch was given"
unfoldable pub has_same : (Datom → Datom → Ordering) → Datom → List Datom → Bool
has_same cmp d [] = false
has_same cmp d (x ∷ xs) = is_same (cmp x d) || has_same cmp d xs

unfoldable pub twin_fault : (Datom → Datom → Ordering) → ℕ → List Datom → List Datom → Finding
twin_fault cmp i seen [] = clear
twin_fault cmp i seen (d ∷ ds) =
    let rest = twin_fault cmp (suc i) (d ∷ seen) ds in
    cond (has_same cmp d seen) (found (OutOfOrder i)) rest

-- 5
unfoldable pub root_fault : Extent → PageId → Finding
root_fault x root = refuse_if (bad_root x root) NoPage

-- "Initialise sorts its batch first"
unfoldable pub place : (Datom → Datom → Ordering) → Datom → List Datom → List Datom
place cmp d [] = d ∷ []
place cmp d (x ∷ xs) = let rest = place cmp d xs in cond (is_less (cmp x d)) (x ∷ rest) (d ∷ x ∷ xs)

unfoldable pub sort : (Datom → Datom → Ordering) → List Datom → List Datom
sort cmp [] = []
sort cmp (d ∷ ds) = place cmp d (sort cmp ds)

-- a node of level 0
unfoldable pub leaf_of : List Datom → Node
leaf_of ds = record { level = 0; datoms = ds; children = replicate (suc (length ds)) none }

-- what initialise writes, of a sorted batch, after the pages o; "an empty batch there writes nothing and answers root none"
abbrev pub fresh_tree : Env → List Datom → List Node → Stage PageId
fresh_tree e ds o = write_root e (length ds) (leaf_of ds) o

unfoldable pub write_fresh : Env → List Datom → Outcome
write_fresh e ds = outcome (fresh_tree e ds [])

-- "Before writing, insert looks every batch datom up": 6 and 7, then 7 to 9 once writing has begun
unfoldable pub insert_at : Env → PageId → List Datom → Fetched → Outcome
insert_at e root ds (faulty f) = refuse (Damaged root f)
insert_at e root ds (fine n) = or_else refuse (lookup_all e n.level root (fine n) 0 ds) (outcome (insert_tree e n.level root ds []))

-- "Insert at root "none" writes what initialise would, after insert's own checks"
unfoldable pub insert_under : DatomOrd → Extent → List ℕ → PageId → List Datom → Outcome
insert_under t x s root ds =
    cond (is_none root) (write_fresh (env_of t x s) ds) (insert_at (env_of t x s) root ds (fetch_page t x s root))

-- 3, 11, 4 and 5 of an insert, and what comes after them
unfoldable pub insert_counted : DatomOrd → Extent → List ℕ → PageId → List Datom → Outcome
insert_counted t x s root ds =
    or_else refuse (word_fault t ds)
    (or_else refuse (order_fault t.cmp ds)
    (or_else refuse (root_fault x root)
    (insert_under t x s root ds)))

-- 3, 11 and 4 of an initialise: "Initialise sorts its batch first and reads no page."
unfoldable pub initialise_counted : DatomOrd → Extent → List ℕ → List Datom → Outcome
initialise_counted t x s ds =
    or_else refuse (word_fault t ds)
    (or_else refuse (twin_fault t.cmp 0 [] ds)
    (write_fresh (env_of t x s) (sort t.cmp ds)))

-- the two calls of datoms, with the length of the scratch: 1 and 2, then the rest in the table's order
unfoldable pub insert : DatomOrd → Extent → List ℕ → ℕ → PageId → List Datom → Outcome
insert t x s scratch root ds =
    or_else refuse (store_fault x s scratch)
    (or_else refuse (count_fault ds)
    (insert_counted t x s root ds))

unfoldable pub initialise : DatomOrd → Extent → List ℕ → ℕ → List Datom → Outcome
initialise t x s scratch ds =
    or_else refuse (store_fault x s scratch)
    (or_else refuse (count_fault ds)
    (initialise_counted t x s ds))

-- 2, of bytes: "or its bytes no multiple of 32"
unfoldable pub bytes_fault : List ℕ → Finding
bytes_fault b = refuse_if (not (eqb (length b % 32) 0)) TooMany

abbrev pub batch_of : List ℕ → List Datom
batch_of b = datoms_of (length b / 32) b

-- the same two of bytes
unfoldable pub insert_bytes : DatomOrd → Extent → List ℕ → ℕ → PageId → List ℕ → Outcome
insert_bytes t x s scratch root b =
    or_else refuse (store_fault x s scratch)
    (or_else refuse (bytes_fault b)
    (or_else refuse (count_fault (batch_of b))
    (insert_counted t x s root (batch_of b))))

unfoldable pub initialise_bytes : DatomOrd → Extent → List ℕ → ℕ → List ℕ → Outcome
initialise_bytes t x s scratch b =
    or_else refuse (store_fault x s scratch)
    (or_else refuse (bytes_fault b)
    (or_else refuse (count_fault (batch_of b))
    (initialise_counted t x s (batch_of b))))
