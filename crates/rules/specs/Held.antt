-- Whether a tree holds all datoms of a batch: Repeated says that it holds one, and not that it holds all. Document 02, Ten, has the
-- question within a run of the feed: "skipped if the tree holds all its datoms"; here it is a call of its own.
use Rattle.std.specs.Prelude.{Err, Ok}
use Rattle.answer.specs.Answers.{Held, all_held}
use Rattle.std.specs.Prelude.{ℕ, suc, cond, List, [], ◌∷◌}
use Rattle.store.specs.declared.PageId.{PageId}
use Rattle.store.specs.declared.Extent.{Extent}
use Rattle.store.specs.Page.{is_none}
use Rattle.datom.specs.declared.Datom.{Datom}
use Rattle.index.specs.Order.{DatomOrd}
use Rattle.answer.specs.declared.Refusal.TheVariants.{BadStore, Damaged, NotHeld}
use Rattle.rules.specs.Tree.{Fetched, faulty, fine, Env}
use Rattle.rules.specs.Lookup.{Look, met, absent, lost, lookup, Finding, clear, found}
use Rattle.rules.specs.Store.{refuse_if, or_else, bad_store, fetch_page, env_of}
use Rattle.rules.specs.Insert.{count_fault, word_fault, order_fault, root_fault, bytes_fault, batch_of}

-- what a datom's path tells of datom i: "16 NotHeld(i) .. with datom i missing, the first such"; "16 stands where 6 would", so 7 as met
unfoldable pub after_held : ℕ → Look → Finding → Finding
after_held i (met p j) rest = rest
after_held i (absent p) rest = found (NotHeld i)
after_held i (lost p f) rest = found (Damaged p f)

-- "if the tree holds all its datoms": each is looked up along its path, in batch order, from a root of level l that was read as r
unfoldable pub held_all : Env → ℕ → PageId → Fetched → ℕ → List Datom → Finding
held_all e l root r i [] = clear
held_all e l root r i (d ∷ ds) = let rest = held_all e l root r (suc i) ds in after_held i (lookup e d l root r) rest

unfoldable pub held_at : Env → PageId → List Datom → Fetched → Finding
held_at e root ds (faulty f) = found (Damaged root f)
held_at e root ds (fine n) = held_all e n.level root (fine n) 0 ds

-- "An empty batch .. counts as held", and no page is read for it; root "none" holds no datom
unfoldable pub held_tree : DatomOrd → Extent → List ℕ → PageId → List Datom → Finding
held_tree t x s root [] = clear
held_tree t x s root (d ∷ ds) = cond (is_none root) (found (NotHeld 0)) (held_at (env_of t x s) root (d ∷ ds) (fetch_page t x s root))

-- 3, 11, 4 and 5 as an insert has them, and what comes after them
unfoldable pub held_counted : DatomOrd → Extent → List ℕ → PageId → List Datom → Finding
held_counted t x s root ds =
    or_else found (word_fault t ds)
    (or_else found (order_fault t.cmp ds)
    (or_else found (root_fault x root)
    (held_tree t x s root ds)))

-- 1 to 5 before it, as before 6: the call takes no scratch, so 1 is about the store alone
unfoldable pub held_fault : DatomOrd → Extent → List ℕ → PageId → List ℕ → Finding
held_fault t x s root b =
    or_else found (refuse_if (bad_store x s) BadStore)
    (or_else found (bytes_fault b)
    (or_else found (count_fault (batch_of b))
    (held_counted t x s root (batch_of b))))

-- the answer to a batch of bytes
unfoldable pub held_bytes : DatomOrd → Extent → List ℕ → PageId → List ℕ → Held
held_bytes t x s root b = or_else Err (held_fault t x s root b) all_held
