-- The starred examples of document 01, a to j: one table. A row is a case and what the rules must give for it.
use Rattle.std.specs.Prelude.{Ok}
use Rattle.std.specs.Prelude.{Err}
use Rattle.answer.specs.Answers.{Answer, done_with}
use Prim.Native.Nat.{ℕ, zero, suc, ◌+◌, ◌-◌, ◌^◌, Ordering}
use Rattle.std.specs.Prelude.{Bool, true, false, List, [], ◌∷◌, ◌++◌, ◌≡◌, replicate}
use Rattle.store.specs.declared.PageId.{PageId}
use Rattle.store.specs.declared.Extent.{Extent}
use Rattle.store.specs.Words.{bytes_of, zeros}
use Rattle.store.specs.Page.{page, none}
use Rattle.datom.specs.declared.Datom.{Datom}
use Rattle.datom.specs.Value.{bound_value, Content, int, str, content}
use Rattle.index.specs.declared.Index.TheVariants.{Eavt}
use Rattle.index.specs.Order.{cmp_value, DatomOrd, order_in}
use Rattle.answer.specs.declared.Refusal.TheVariants.{Repeated}
use Rattle.rules.specs.Node.{Span, longest_span}
use Rattle.rules.specs.Tree.{Fetched, fine}
use Rattle.rules.specs.Store.{page_at, fetch_page, store_after}
use Rattle.rules.specs.Insert.{Outcome, insert, initialise}

-- "d(k): entity k, attribute 1, value k, last word 3; 256-byte pages"
unfoldable pub d : ℕ → Datom
d k = record { entity = record { 0 = k }; attribute = record { 0 = 1 }; value = record { 0 = k }; transaction_operation = record { 0 = 3 } }

-- d(k) to d(k+n-1)
unfoldable pub run : ℕ → ℕ → List Datom
run k zero = []
run k (suc n) = d k ∷ run (suc k) n

-- the order over an empty heap
abbrev pub eavt : DatomOrd
eavt = order_in Eavt []

-- where a run of calls has come to
pub record Place : Type 0 where
  pub extent : Extent
  pub store : List ℕ
  pub root : PageId
  pub answer : Answer

-- the page count and the root that the next call is handed
unfoldable pub went : Extent → List ℕ → PageId → Outcome → Place
went x s root o = elim o.answer [
  | Ok d ↦ record { extent = record { size = x.size; count = x.count + d.pages }; store = store_after x s o.pages; root = d.root; answer = o.answer }
  | Err f ↦ record { extent = x; store = store_after x s o.pages; root = root; answer = o.answer }
]

-- scratch in order
abbrev pub scratch : ℕ
scratch = 65536

unfoldable pub inserts : Place → List (List Datom) → Place
inserts p [] = p
inserts p (b ∷ bs) = inserts (went p.extent p.store p.root (insert eavt p.extent p.store scratch p.root b)) bs

-- room for eight pages: the first batch initialises, the others are inserted at the root that came before
unfoldable pub calls : List Datom → List (List Datom) → Place
calls b bs =
    let x : Extent = record { size = 256; count = 0 } in
    inserts (went x (zeros 2048) none (initialise eavt x (zeros 2048) scratch b)) bs

-- what the first n pages from p on hold
unfoldable pub holding : Place → ℕ → ℕ → List Fetched
holding w p zero = []
holding w p (suc n) = fetch_page eavt w.extent w.store (page p) ∷ holding w (suc p) n

pub data Case : Type 0 where
  tree : List Datom → List (List Datom) → Case
  bytes_of_page : ℕ → List Datom → List (List Datom) → Case
  span_of : List PageId → Case
  well_formed : List ℕ → ℕ → Case
  meaning : List ℕ → ℕ → Case
  order : ℕ → ℕ → Case

pub data Seen : Type 0 where
  holds : Answer → List Fetched → Seen
  bytes : List ℕ → Seen
  span : Span → Seen
  test : Bool → Seen
  means : Content → Seen
  goes : Ordering → Seen

unfoldable pub see_tree : Place → Seen
see_tree w = holds w.answer (holding w 0 w.extent.count)

unfoldable pub see : Case → Seen
see (tree b bs) = see_tree (calls b bs)
see (bytes_of_page p b bs) = let w = calls b bs in bytes (page_at w.extent w.store (page p))
see (span_of cs) = span (longest_span cs)
see (well_formed h v) = test (bound_value h (record { 0 = v }))
see (meaning h v) = means (content h (record { 0 = v }))
see (order v w) = goes (cmp_value [] (record { 0 = v }) (record { 0 = w }))

pub record Row : Type 0 where
  pub given : Case
  pub expected : Seen

unfoldable pub row : Case → Seen → Row
row c s = record { given = c; expected = s }

-- every row holds
abbrev pub Holds : List Row → Type 0
Holds [] = Unit {0}
Holds (r ∷ rs) = (see r.given ≡ r.expected) × Holds rs

-- a leaf of d(k) to d(k+n-1), and a page of level 1
unfoldable pub leaf : ℕ → ℕ → Fetched
leaf k n = fine (record { level = 0; datoms = run k n; children = replicate (suc n) none })

unfoldable pub inner : List Datom → List PageId → Fetched
inner ds cs = fine (record { level = 1; datoms = ds; children = cs })

-- a small word as bytes
unfoldable pub small : ℕ → List ℕ
small k = k ∷ zeros 7

-- the pages of examples c, e and f, in the order in which they are written
abbrev pub pages_c : List Fetched
pages_c = leaf 0 3 ∷ leaf 4 3 ∷ inner (run 3 1) (page 0 ∷ page 1 ∷ []) ∷ []

abbrev pub pages_e : List Fetched
pages_e = pages_c ++ (inner (d 3 ∷ run 7 5) (page 0 ∷ none ∷ none ∷ none ∷ none ∷ none ∷ page 1 ∷ []) ∷ [])

abbrev pub page6 : Fetched
page6 = inner (d 3 ∷ d 8 ∷ []) (page 0 ∷ page 4 ∷ page 5 ∷ [])

abbrev pub pages_f : List Fetched
pages_f = pages_e ++ (leaf 4 4 ∷ leaf 9 4 ∷ page6 ∷ [])

unfoldable pub bytes6 : List ℕ
bytes6 =
    small 3 ++ (small 1 ++ (small 3 ++ (small 3 ++ (small 8 ++ (small 1 ++ (small 8 ++ (small 3 ++ (zeros 128
    ++ (small 0 ++ (small 4 ++ (small 5 ++ (zeros 32 ++ (1 ∷ 2 ∷ zeros 6)))))))))))))

unfoldable pub starred : List Row
starred =
    -- a
    row (tree [] []) (holds (done_with none 0) [])
    -- b
    ∷ row (bytes_of_page 0 (run 5 1) [])
    (bytes (small 5 ++ (small 1 ++ (small 5 ++ (small 3 ++ (zeros 160 ++ (replicate 16 255 ++ (zeros 41 ++ (1 ∷ zeros 6)))))))))
    -- c
    ∷ row (tree (run 0 7) []) (holds (done_with (page 2) 3) pages_c)
    -- d
    ∷ row (tree (run 0 8) []) (holds (done_with (page 2) 3) (leaf 0 4 ∷ leaf 5 3 ∷ inner (run 4 1) (page 0 ∷ page 1 ∷ []) ∷ []))
    -- e
    ∷ row (tree (run 0 7) (run 7 5 ∷ [])) (holds (done_with (page 3) 1) pages_e)
    -- f
    ∷ row (tree (run 0 7) (run 7 5 ∷ run 12 1 ∷ [])) (holds (done_with (page 6) 3) pages_f)
    -- g
    ∷ row (tree (run 0 7) (run 7 5 ∷ run 12 1 ∷ run 12 1 ∷ [])) (holds (Err (Repeated 0)) pages_f)
    -- h
    ∷ row (tree (run 0 7) (run 7 5 ∷ run 12 1 ∷ run 12 1 ∷ [] ∷ [])) (holds (done_with (page 7) 1) (pages_f ++ (page6 ∷ [])))
    ∷ row (bytes_of_page 6 (run 0 7) (run 7 5 ∷ run 12 1 ∷ run 12 1 ∷ [] ∷ [])) (bytes bytes6)
    ∷ row (bytes_of_page 7 (run 0 7) (run 7 5 ∷ run 12 1 ∷ run 12 1 ∷ [] ∷ [])) (bytes bytes6)
    -- i
    ∷ row (span_of (none ∷ page 4 ∷ none ∷ page 9 ∷ [])) (span (record { from = 0; upto = 1 }))
    ∷ row (span_of (page 4 ∷ none ∷ none ∷ [])) (span (record { from = 0; upto = 0 }))
    -- j
    ∷ row (well_formed [] (2 ^ 62 - 1)) (test true)
    ∷ row (meaning [] (2 ^ 62 - 1)) (means (int (2 ^ 62 - 1)))
    ∷ row (well_formed [] (2 ^ 62)) (test false)
    -- document 02, Two: "In example j, 2^62 then names offset 0": here that integer itself
    ∷ row (well_formed (bytes_of 8 (2 ^ 62)) (2 ^ 62)) (test true)
    ∷ row (meaning (bytes_of 8 (2 ^ 62)) (2 ^ 62)) (means (int (2 ^ 62)))
    ∷ row (meaning [] 0x8100_0000_0000_0061) (means (str (97 ∷ [])))
    ∷ row (order 0x8200_0000_0000_6261 0x8100_0000_0000_0062) (goes Ordering.lt)
    ∷ []
