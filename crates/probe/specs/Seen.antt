-- What bytes are as a page, and the numbers that the entries answer with: the definitions of the rules, over any bytes.
use Rattle.std.specs.Prelude.{ℕ, cond, List, [], ◌∷◌, eqb, length, drop, get_or, Result, Ok, Err}
use Rattle.store.specs.Words.{patch}
use Rattle.store.specs.Page.{page, none}
use Rattle.store.specs.Size.{capacity}
use Rattle.datom.specs.declared.Datom.{Datom}
use Rattle.datom.specs.Datom.{datom_of}
use Rattle.index.specs.declared.Index.{Index}
use Rattle.std.specs.Prelude.{Option, Some, None}
use Rattle.std.specs.declared.cmp.Ordering.{Ordering}
use Rattle.std.specs.declared.cmp.Ordering.TheVariants.{Less, Equal, Greater}
use Rattle.index.specs.Order.{DatomOrd, named}
use Rattle.answer.specs.declared.Rule.{Rule}
use Rattle.answer.specs.Names.{rule_number}
use Rattle.rules.specs.Page.{Node, Read, broken, good, node_of, encode_page, read_page}
use Rattle.rules.specs.Node.{rank, next_midpoint}
use Rattle.rules.specs.Lookup as lookup
use Rattle.memory_store.specs.declared.reader.Header.{Header}

abbrev pub nothing : ℕ
nothing = 0xffff_ffff_ffff_ffff

-- in the order that a number names, or what is said of one that is unknown
abbrev pub in_good_order : {A : Type 0} → A → (Index → A) → Option Index → A
in_good_order otherwise f (Some i) = f i
in_good_order otherwise f None = otherwise

-- a page that is not readable, with the number of the first broken rule, or what it holds
pub data Seen : Type 0 where
  unread : ℕ → Seen
  holds : Node → Seen

abbrev pub of_read : Read → Seen
of_read (broken r) = unread (rule_number r)
of_read (good n) = holds n

-- bytes as page `id`; no page at all where no page has so many
unfoldable pub seen : DatomOrd → List ℕ → ℕ → Seen
seen t s id = cond (eqb (capacity (length s)) 0) (unread nothing) (of_read (read_page t (capacity (length s)) (page id) s))

-- the number of a broken rule, or of bytes that no page has so many of
abbrev pub unread_number : Option Rule → ℕ
unread_number (Some r) = rule_number r
unread_number None = nothing

-- the code's answer
unfoldable pub shown : List ℕ → Result Header (Option Rule) → Seen
shown s (Err r) = unread (unread_number r)
shown s (Ok h) = holds (node_of (capacity (length s)) h.level h.count s)

abbrev pub rule_of : Seen → ℕ
rule_of (unread n) = n
rule_of (holds n) = 0

-- what a readable page holds
abbrev pub of_node : (Node → ℕ) → Seen → ℕ
of_node f (unread n) = nothing
of_node f (holds n) = f n

abbrev pub level_of : Seen → ℕ
level_of v = of_node (λ n. n.level) v

abbrev pub count_of : Seen → ℕ
count_of v = of_node (λ n. length n.datoms) v

-- word j of the first datom
unfoldable pub head_word : ℕ → List Datom → ℕ
head_word j [] = nothing
head_word j (d ∷ ds) = get_or (d.entity.0 ∷ d.attribute.0 ∷ d.value.0 ∷ d.transaction_operation.0 ∷ []) j nothing

abbrev pub word_of : ℕ → ℕ → Seen → ℕ
word_of i j v = of_node (λ n. head_word j (drop i n.datoms)) v

abbrev pub child_of : ℕ → Seen → ℕ
child_of i v = of_node (λ n. (get_or n.children i none).0) v

abbrev pub next_of : ℕ → Seen → ℕ
next_of from v = of_node (λ n. (lookup.child_of (next_midpoint (drop from n.children))).0) v

-- of a datom's 32 bytes
unfoldable pub of_datom : (Datom → ℕ) → List ℕ → ℕ
of_datom f b = cond (eqb (length b) 32) (f (datom_of b)) nothing

abbrev pub first_of : DatomOrd → List ℕ → Seen → ℕ
first_of t b v = of_node (λ n. of_datom (λ d. rank t.cmp d n.datoms) b) v

-- 0 below, 1 equal, 2 above
abbrev pub order_number : Ordering → ℕ
order_number Less = 0
order_number Equal = 1
order_number Greater = 2

abbrev pub order_of : DatomOrd → List ℕ → List ℕ → ℕ
order_of t a b = of_datom (λ d. of_datom (λ e. order_number (named (t.cmp d e))) b) a

-- a readable page, written anew into a free one of the same length: whether it is, and the free one afterwards
unfoldable pub wrote_of : List ℕ → List ℕ → Seen → ℕ
wrote_of s free (unread n) = 0
wrote_of s free (holds n) = cond (eqb (length free) (length s)) 1 0

unfoldable pub rewritten : List ℕ → List ℕ → Seen → List ℕ
rewritten s free (unread n) = free
rewritten s free (holds n) = cond (eqb (length free) (length s)) (patch free 0 (encode_page (length s) (capacity (length s)) n)) free
