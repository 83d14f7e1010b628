-- "Split, flush, insert": over what each page holds, the order, and the room. Pages are read below the count and written past it.
use Prim.Native.Nat.{ℕ, zero, suc, ◌+◌, Ordering}
use Rattle.std.specs.Prelude.{Bool, true, false, ◌&&◌, cond, List, [], ◌∷◌, ◌++◌, leb, ltb, eqb, length, take, drop, get_or}
use Rattle.store.specs.declared.PageId.{PageId}
use Rattle.store.specs.Page.{page, none}
use Rattle.datom.specs.declared.Datom.{Datom}
use Rattle.answer.specs.declared.Fault.{Fault}
use Rattle.answer.specs.declared.Fault.TheVariants.{WrongLevel, EqualDatoms}
use Rattle.answer.specs.declared.Refusal.{Refusal}
use Rattle.answer.specs.declared.Refusal.TheVariants.{Damaged, TooTall, NoRoom}
use Rattle.rules.specs.Page.{Node}
use Rattle.rules.specs.Node.{meets, merge_node, longest_span, any_pending, split_parts, split_up, splice}

-- what reading a page gives
pub data Fetched : Type 0 where
  faulty : Fault → Fetched
  fine : Node → Fetched

-- what a call works in: the capacity, the order, what each page holds, the page count, and how many pages it may still write
pub record Env : Type 0 where
  pub cap : ℕ
  pub cmp : Datom → Datom → Ordering
  pub fetch : PageId → Fetched
  pub count : ℕ
  pub allow : ℕ

-- a stage of a call: it stops with a refusal or goes on with a value; with it the pages written so far, in order
pub data Stage (A : Type 0) : Type 0 where
  stop : Refusal → List Node → Stage A
  go : A → List Node → Stage A

unfoldable pub then : {A B : Type 0} → Stage A → (A → List Node → Stage B) → Stage B
then (stop r o) k = stop r o
then (go a o) k = k a o

-- "a page read is missing, unreadable or of the wrong level"
unfoldable pub at_level : ℕ → Fetched → Fetched
at_level l (faulty f) = faulty f
at_level l (fine n) = cond (eqb n.level l) (fine n) (faulty WrongLevel)

unfoldable pub fetch_at : Env → ℕ → PageId → Fetched
fetch_at e l p = at_level l (e.fetch p)

-- "8 TooTall: the next page to write has level 8"
abbrev pub is_tall : Node → Bool
is_tall n = leb 8 n.level

-- "9 NoRoom: the next page to write does not fit"; "8 goes before 9 at the same page"
unfoldable pub put : Env → Node → List Node → Stage PageId
put e n o =
    cond (is_tall n) (stop TooTall o)
    (cond (ltb (length o) e.allow) (go (page (e.count + length o)) (o ++ (n ∷ []))) (stop NoRoom o))

-- "Pages are written left to right."
unfoldable pub put_all : Env → List Node → List Node → Stage (List PageId)
put_all e [] o = go [] o
put_all e (n ∷ ns) o = then (put e n o) λ id o₁. then (put_all e ns o₁) λ ids o₂. go (id ∷ ids) o₂

unfoldable pub split : Env → Node → List Node → Stage Node
split e n o =
    then (put_all e (split_parts e.cap n) o) λ ids o₁.
    go (record { level = suc n.level; datoms = split_up e.cap n; children = ids }) o₁

-- "over C"
unfoldable pub is_over : Env → Node → Bool
is_over e n = ltb e.cap (length n.datoms)

-- "then it splits if still over C, else writes one page"
unfoldable pub settle : Env → Node → List Node → Stage Node
settle e n o =
    cond (is_over e n) (split e n o)
    (then (put e n o) λ id o₁. go (record { level = suc n.level; datoms = []; children = id ∷ [] }) o₁)

-- insert into a page of the level below
abbrev pub Below : Type 0
Below = PageId → List Datom → List Node → Stage Node

-- "Flush sends the longest span into the child that ends it"
unfoldable pub flush : Below → Node → List Node → Stage Node
flush ins n o =
    let s = longest_span n.children in
    then (ins (get_or n.children s.upto none) (drop s.from (take s.upto n.datoms)) o) λ m o₁.
    go (splice n s m) o₁

-- "flushes while the node is .. over C and has pending datoms"; each flush sends at least one datom, so the datoms count the turns
unfoldable pub flush_all : Env → Below → ℕ → Node → List Node → Stage Node
flush_all e ins zero n o = go n o
flush_all e ins (suc k) n o =
    elim (is_over e n && any_pending n.children)
    [ false ↦ go n o | true ↦ then (flush ins n o) λ m o₁. flush_all e ins k m o₁ ]

-- "Insert into a page merges, then ..", or is Damaged, with the reader's own answer or "equal datoms met"
unfoldable pub insert_merged : Env → PageId → List Datom → (Node → List Node → Stage Node) → Fetched → List Node → Stage Node
insert_merged e p ds k (faulty f) o = stop (Damaged p f) o
insert_merged e p ds k (fine n) o =
    cond (meets e.cmp n.datoms ds) (stop (Damaged p EqualDatoms) o)
    (then (k (merge_node e.cmp n ds) o) λ m o₁. settle e m o₁)

-- "Flush calls insert on a child, and insert calls flush, one level lower each time."
unfoldable pub insert_into : Env → ℕ → PageId → List Datom → List Node → Stage Node
insert_into e zero p ds o = insert_merged e p ds (λ n o₁. go n o₁) (fetch_at e 0 p) o
insert_into e (suc l) p ds o =
    insert_merged e p ds (λ n o₁. flush_all e (λ p₁ ds₁ o₂. insert_into e l p₁ ds₁ o₂) (length n.datoms) n o₁) (fetch_at e (suc l) p) o

-- "one child is the root, several are written as the root"
unfoldable pub root_of : Env → List PageId → Node → List Node → Stage PageId
root_of e [] n o = put e n o
root_of e (c ∷ []) n o = go c o
root_of e (c ∷ d ∷ cs) n o = put e n o

-- "At the top, while more than C midpoints remain they are split"; each split leaves fewer, so the datoms count the turns
unfoldable pub write_root : Env → ℕ → Node → List Node → Stage PageId
write_root e zero n o = root_of e n.children n o
write_root e (suc k) n o =
    elim (is_over e n) [ false ↦ root_of e n.children n o | true ↦ then (split e n o) λ m o₁. write_root e k m o₁ ]

-- an insert at a root of level l, and the top of what comes back
unfoldable pub insert_tree : Env → ℕ → PageId → List Datom → List Node → Stage PageId
insert_tree e l root ds o = then (insert_into e l root ds o) λ n o₁. write_root e (length n.datoms) n o₁
