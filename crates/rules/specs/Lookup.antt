-- The path of a datom, and the search for a batch that repeats one.
use Rattle.std.specs.Prelude.{None, Option, Some}
use Rattle.std.specs.Prelude.{ℕ, zero, suc, true, false, cond, List, [], ◌∷◌, drop}
use Rattle.store.specs.declared.PageId.{PageId}
use Rattle.store.specs.Page.{none}
use Rattle.datom.specs.declared.Datom.{Datom}
use Rattle.answer.specs.declared.Fault.{Fault}
use Rattle.answer.specs.declared.Refusal.{Refusal}
use Rattle.answer.specs.declared.Refusal.TheVariants.{Repeated, Damaged}
use Rattle.rules.specs.Node.{rank, head_same, next_midpoint}
use Rattle.rules.specs.Tree.{Fetched, faulty, fine, Env, fetch_at}

-- the child that a path goes on to; a readable page above level 0 always has one
abbrev pub child_of : (Option PageId) → PageId
child_of (Some p) = p
child_of None = none

-- where a datom's path ends: at an equal datom, its page and index; at level 0 without one; at a page that cannot be read
pub data Look : Type 0 where
  met : PageId → ℕ → Look
  absent : PageId → Look
  lost : PageId → Fault → Look

-- "In each page the path finds the first datom not below the one sought; it stops if that is equal or the level is 0, and else goes
-- on to the first real child at or after that index."
unfoldable pub lookup : Env → Datom → ℕ → PageId → Fetched → Look
lookup e d zero p (faulty f) = lost p f
lookup e d zero p (fine n) =
    let i = rank e.cmp d n.datoms in
    cond (head_same e.cmp d (drop i n.datoms)) (met p i) (absent p)
lookup e d (suc l) p (faulty f) = lost p f
lookup e d (suc l) p (fine n) =
    let i = rank e.cmp d n.datoms in
    let c = child_of (next_midpoint (drop i n.children)) in
    elim (head_same e.cmp d (drop i n.datoms)) [ true ↦ met p i | false ↦ lookup e d l c (fetch_at e l c) ]

-- what a check finds: nothing, or the refusal to give
pub data Finding : Type 0 where
  clear : Finding
  found : Refusal → Finding

unfoldable pub after_look : ℕ → Look → Finding → Finding
after_look i (met p j) rest = found (Repeated i)
after_look i (absent p) rest = rest
after_look i (lost p f) rest = found (Damaged p f)

-- "insert looks every batch datom up along its path, in batch order", from a root of level l that was read as r
unfoldable pub lookup_all : Env → ℕ → PageId → Fetched → ℕ → List Datom → Finding
lookup_all e l root r i [] = clear
lookup_all e l root r i (d ∷ ds) = let rest = lookup_all e l root r (suc i) ds in after_look i (lookup e d l root r) rest
