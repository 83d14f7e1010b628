-- "Page and node": what a page's bytes say, when a page is readable, and the bytes that a node is written as.
use Prim.Native.Nat.{ℕ, suc, ◌+◌, ◌*◌, Ordering}
use Rattle.std.specs.Prelude.{Bool, true, ◌&&◌, ◌||◌, not, cond, List, [], ◌∷◌, ◌++◌, ◌≡◌, refl, leb, ltb, eqb, length, drop, get_or}
use Rattle.store.specs.declared.PageId.{PageId}
use Rattle.store.specs.Words.{cells, spread, pad, word_at}
use Rattle.store.specs.Page.{page, none, is_none, page_of, page_bytes}
use Rattle.datom.specs.declared.Datom.{Datom}
use Rattle.datom.specs.Datom.{datoms_of, datoms_bytes}
use Rattle.index.specs.Order.{DatomOrd, is_less}
use Rattle.answer.specs.declared.Rule.{Rule}
use Rattle.answer.specs.declared.Rule.TheVariants.{Level, Count, Form, Order, LeafChild, LastChild, ChildId}

-- what a page holds
pub record Node : Type 0 where
  pub level : ℕ
  pub datoms : List Datom
  pub children : List PageId

-- "Datoms at 0, children (8 bytes each, one more than datoms) at 32C, header at 40C+8: level, count."
-- An area with room for c datoms has its datoms and children at the same places as a page of capacity c.
abbrev pub child_at : ℕ → List ℕ → ℕ → PageId
child_at c s i = page (word_at s (32 * c + 8 * i))

-- the first t children
abbrev pub children_of : ℕ → ℕ → List ℕ → List PageId
children_of c t s = cells page_of 8 t (drop (32 * c) s)

unfoldable pub node_of : ℕ → ℕ → ℕ → List ℕ → Node
node_of c l k s = record { level = l; datoms = datoms_of k s; children = children_of c (suc k) s }

pub node_is : (c l k : ℕ) (s : List ℕ) → node_of c l k s ≡ record { level = l; datoms = datoms_of k s; children = children_of c (suc k) s }
unfolding node_of
node_is c l k s = refl

unfoldable pub level_of : ℕ → List ℕ → ℕ
level_of c s = get_or s (40 * c + 8) 0

unfoldable pub count_of : ℕ → List ℕ → ℕ
count_of c s = get_or s (40 * c + 9) 0

-- "Written pages have zeros elsewhere; the reader ignores those places."
unfoldable pub encode_page : ℕ → ℕ → Node → List ℕ
encode_page size c n =
    pad size
    (pad (32 * c) (datoms_bytes n.datoms) ++ (pad (8 * c + 8) (spread page_bytes n.children) ++ (n.level ∷ length n.datoms ∷ [])))

-- the reader's answer: the first rule that the page breaks, or the node
pub data Read : Type 0 where
  broken : Rule → Read
  good : Node → Read

abbrev pub unless : Bool → Rule → Read → Read
unless kept r rest = cond kept rest (broken r)

unfoldable pub all : {A : Type 0} → (A → Bool) → List A → Bool
all ok [] = true
all ok (x ∷ xs) = ok x && all ok xs

-- "strictly increasing"
unfoldable pub above : (Datom → Datom → Ordering) → Datom → List Datom → Bool
above cmp p [] = true
above cmp p (d ∷ ds) = is_less (cmp p d) && above cmp d ds

unfoldable pub rising : (Datom → Datom → Ordering) → List Datom → Bool
rising cmp [] = true
rising cmp (d ∷ ds) = above cmp d ds

-- "every real child id below the page's own id"
unfoldable pub older : PageId → PageId → Bool
older id c = is_none c || ltb c.0 id.0

-- "at level 0 every child none; above, the last child real; every real child id below the page's own id"
unfoldable pub child_rules : PageId → Node → Read
child_rules id n =
    cond (eqb n.level 0)
    (unless (all is_none n.children) LeafChild (good n))
    (unless (not (is_none (get_or n.children (length n.datoms) none))) LastChild
    (unless (all (older id) n.children) ChildId (good n)))

-- "datoms well formed, none with value max, and strictly increasing"
unfoldable pub node_rules : DatomOrd → PageId → Node → Read
node_rules t id n =
    unless (all t.stored n.datoms) Form
    (unless (rising t.cmp n.datoms) Order
    (child_rules id n))

-- "Readable, checked in this order: level at most 7; count at most C; .."
unfoldable pub read_page : DatomOrd → ℕ → PageId → List ℕ → Read
read_page t c id s =
    unless (leb (level_of c s) 7) Level
    (unless (leb (count_of c s) c) Count
    (node_rules t id (node_of c (level_of c s) (count_of c s) s)))
