-- What is done to one node: merge, the longest pending span, split, and what a flush puts in place of a span.
use Rattle.std.specs.Prelude.{None, Option, Some}
use Prim.Native.Nat.{ℕ, zero, suc, pred, ◌+◌, ◌-◌, ◌/◌, ◌%◌, Ordering}
use Rattle.std.specs.Prelude.{Bool, true, false, ◌||◌, not, cond, List, [], ◌∷◌, ◌++◌, ltb, length, take, drop, get_or, replicate}
use Rattle.store.specs.declared.PageId.{PageId}
use Rattle.store.specs.Page.{none, is_none}
use Rattle.datom.specs.declared.Datom.{Datom}
use Rattle.index.specs.Order.{is_less, is_same}
use Rattle.rules.specs.Page.{Node}

-- "A datom is a midpoint if the child at its index is real; otherwise it is pending."
unfoldable pub is_midpoint : List PageId → ℕ → Bool
is_midpoint cs i = not (is_none (get_or cs i none))

-- "the first real child at or after that index"
unfoldable pub next_midpoint : List PageId → (Option PageId)
next_midpoint [] = None
next_midpoint (c ∷ cs) = elim (is_none c) [ true ↦ next_midpoint cs | false ↦ Some c ]

-- how many datoms at the front pass a test; the first datom not below d stands where the test "below d" first fails
unfoldable pub rank_by : (Datom → Bool) → List Datom → ℕ
rank_by p [] = 0
rank_by p (x ∷ xs) = elim (p x) [ true ↦ suc (rank_by p xs) | false ↦ 0 ]

abbrev pub below : (Datom → Datom → Ordering) → Datom → Datom → Bool
below cmp d x = is_less (cmp x d)

abbrev pub rank : (Datom → Datom → Ordering) → Datom → List Datom → ℕ
rank cmp d xs = rank_by (below cmp d) xs

unfoldable pub head_same : (Datom → Datom → Ordering) → Datom → List Datom → Bool
head_same cmp d [] = false
head_same cmp d (x ∷ xs) = is_same (cmp x d)

-- "Merge: the increasing union."
unfoldable pub merge_datoms : (Datom → Datom → Ordering) → List Datom → List Datom → List Datom
merge_datoms cmp [] new = new
merge_datoms cmp (d ∷ ds) [] = d ∷ ds
merge_datoms cmp (d ∷ ds) (x ∷ xs) =
    elim (is_less (cmp d x)) [ true ↦ d ∷ merge_datoms cmp ds (x ∷ xs) | false ↦ x ∷ merge_datoms cmp (d ∷ ds) xs ]

-- "Old datoms keep their left child, the final child stays, new datoms get none."
unfoldable pub merge_children : (Datom → Datom → Ordering) → List Datom → List PageId → List Datom → List PageId
merge_children cmp [] cs new = replicate (length new) none ++ cs
merge_children cmp (d ∷ ds) cs [] = cs
merge_children cmp (d ∷ ds) cs (x ∷ xs) =
    elim (is_less (cmp d x))
    [ true ↦ get_or cs 0 none ∷ merge_children cmp ds (drop 1 cs) (x ∷ xs) | false ↦ none ∷ merge_children cmp (d ∷ ds) cs xs ]

unfoldable pub merge_node : (Datom → Datom → Ordering) → Node → List Datom → Node
merge_node cmp n new =
    record {
      level = n.level;
      datoms = merge_datoms cmp n.datoms new;
      children = merge_children cmp n.datoms n.children new;
    }

-- "a merge into that page meets an equal datom"
unfoldable pub meets : (Datom → Datom → Ordering) → List Datom → List Datom → Bool
meets cmp [] new = false
meets cmp (d ∷ ds) [] = false
meets cmp (d ∷ ds) (x ∷ xs) =
    elim (cmp d x) [ Ordering.lt ↦ meets cmp ds (x ∷ xs) | Ordering.eq ↦ true | Ordering.gt ↦ meets cmp (d ∷ ds) xs ]

-- a span of datoms, from `from` up to `upto`, which is the index of the child that ends it
pub record Span : Type 0 where
  pub from : ℕ
  pub upto : ℕ

-- whether the run from `start` up to i is longer than the best span so far: "first on ties"
abbrev pub is_longer : Span → ℕ → ℕ → Bool
is_longer best start i = ltb (best.upto - best.from) (i - start)

-- the children left, the index of the first of them, where the run at hand began, and the best span so far
unfoldable pub span_from : List PageId → ℕ → ℕ → Span → Span
span_from [] i start best = best
span_from (c ∷ cs) i start best =
    elim (is_none c) [
      | true ↦ span_from cs (suc i) start best
      | false ↦ span_from cs (suc i) (suc i) (cond (is_longer best start i) (record { from = start; upto = i }) best)
    ]

-- "Longest pending span: the longest run of none-children ended by a real child; first on ties; a trailing run is ignored."
unfoldable pub longest_span : List PageId → Span
longest_span cs = span_from cs 0 0 (record { from = 0; upto = 0 })

-- "has pending datoms"
unfoldable pub any_pending : List PageId → Bool
any_pending [] = false
any_pending (c ∷ cs) = is_none c || any_pending cs

-- "P = n/C rounded up"
unfoldable pub pages_for : ℕ → ℕ → ℕ
pages_for cap n = (n + pred cap) / cap

-- a datoms of a node from index i on, with one child more
unfoldable pub part_of : ℕ → ℕ → Node → Node
part_of i a n = record { level = n.level; datoms = take a (drop i n.datoms); children = take (suc a) (drop i n.children) }

-- "The first r pages take q+1 children, the others q": what the next page takes while r still take one more
unfoldable pub share : ℕ → ℕ → ℕ
share q zero = q
share q (suc r) = suc q

-- p parts, left to right: a part has one datom less than children
unfoldable pub parts : ℕ → ℕ → ℕ → ℕ → List Datom → List PageId → List Node
parts l zero q r ds cs = []
parts l (suc p) q r ds cs =
    let k = share q r in
    record { level = l; datoms = take (pred k) ds; children = take k cs } ∷ parts l p q (pred r) (drop k ds) (drop k cs)

-- "The datom between two parts goes up as midpoint": p of them
unfoldable pub between : ℕ → ℕ → ℕ → List Datom → List Datom
between zero q r ds = []
between (suc p) q r ds =
    let k = share q r in
    take 1 (drop (pred k) ds) ++ between p q (pred r) (drop k ds)

-- "Split of n datoms, n > C: P = n/C rounded up, N = n+1 children, q = N div P, r = N mod P."
unfoldable pub split_parts : ℕ → Node → List Node
split_parts cap n =
    let p = pages_for cap (length n.datoms) in
    let m = suc (length n.datoms) in
    parts n.level p (m / p) (m % p) n.datoms n.children

unfoldable pub split_up : ℕ → Node → List Datom
split_up cap n =
    let p = pages_for cap (length n.datoms) in
    let m = suc (length n.datoms) in
    between (pred p) (m / p) (m % p) n.datoms

-- "the resulting midpoints and children replace span and child"
unfoldable pub splice : Node → Span → Node → Node
splice n s m =
    record {
      level = n.level;
      datoms = take s.from n.datoms ++ (m.datoms ++ drop s.upto n.datoms);
      children = take s.from n.children ++ (m.children ++ drop (suc s.upto) n.children);
    }
