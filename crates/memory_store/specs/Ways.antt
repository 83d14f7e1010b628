-- The ways through the reader: one law for each of its answers.
use Rattle.std.specs.Prelude.{◌≡◌, ℕ, suc, ◌+◌, ◌*◌, ◌<◌, ◌≤◌, true, false, List, length, drop, slice_index_or}
use Rattle.std.proofs.Math.Numerals.{add-one}
use Rattle.std.proofs.Common.{arith}
use borrow.Author.Tests.{eq-eqb, ne_eqb, le-leb, lt-leb}
use Rattle.store.specs.declared.PageId.{PageId}
use Rattle.store.specs.Words.{word_at, cells}
use Rattle.store.specs.Page.{none, is_none, page_of}
use Rattle.store.specs.Cells.{pages_at}
use Rattle.store.specs.Laws.{cells_length}
use Rattle.datom.specs.Datom.{datom_of, datoms_of}
use Rattle.index.specs.Order.{DatomOrd}
use Rattle.answer.specs.declared.Rule.TheVariants.{Level, Count, Form, Order, LeafChild, LastChild, ChildId}
use Rattle.rules.specs.Page.{broken, good, node_of, level_of, count_of, all, rising, older, child_rules, node_rules, read_page, child_at, children_of}
use Rattle.memory_store.specs.Steps.{none_word, real_word}

-- the last child, by the bytes
last_child : (c k : ℕ) (s : List ℕ) → slice_index_or (children_of c (suc k) s) (length (datoms_of k s)) none ≡ child_at c s k
last_child c k s = rw (cells_length datom_of 32 k s) (pages_at (suc k) k (32 * c) s none (omega arith))

module _ (id : PageId) (c l k : ℕ) (s : List ℕ) where
  module _ (z : l ≡ 0) where
    pub way_leaf : all is_none (cells page_of 8 (k + 1) (drop (32 * c) s)) ≡ false → broken LeafChild ≡ child_rules id (node_of c l k s)
    unfolding child_rules node_of
    way_leaf n = simp (eq-eqb l 0 z, ← add-one, n)

    pub way_flat : all is_none (cells page_of 8 (k + 1) (drop (32 * c) s)) ≡ true → good (node_of c l k s) ≡ child_rules id (node_of c l k s)
    unfolding child_rules node_of
    way_flat n = simp (eq-eqb l 0 z, ← add-one, n)

  module _ (z : l ≡ 0 → ⊥) where
    pub way_last : word_at s (32 * c + 8 * k) ≡ none.0 → broken LastChild ≡ child_rules id (node_of c l k s)
    unfolding child_rules node_of
    way_last n = rw (ne_eqb l 0 z, last_child c k s, none_word _ n)

    module _ (n : word_at s (32 * c + 8 * k) ≡ none.0 → ⊥) where
      pub way_child : all (older id) (cells page_of 8 (k + 1) (drop (32 * c) s)) ≡ false → broken ChildId ≡ child_rules id (node_of c l k s)
      unfolding child_rules node_of
      way_child o = simp (ne_eqb l 0 z, last_child c k s, real_word _ n, ← add-one, o)

      pub way_tall : all (older id) (cells page_of 8 (k + 1) (drop (32 * c) s)) ≡ true → good (node_of c l k s) ≡ child_rules id (node_of c l k s)
      unfolding child_rules node_of
      way_tall o = simp (ne_eqb l 0 z, last_child c k s, real_word _ n, ← add-one, o)

-- by the level l and the count k that the header tells
module _ (t : DatomOrd) (c : ℕ) (id : PageId) (s : List ℕ) (l : ℕ) (el : l ≡ level_of c s) where
  pub way_level : 7 < l → broken Level ≡ read_page t c id s
  unfolding read_page
  way_level h = simp (← el, lt-leb _ _ h)

  module _ (k : ℕ) (ek : k ≡ count_of c s) (hl : l ≤ 7) where
    pub way_count : c < k → broken Count ≡ read_page t c id s
    unfolding read_page
    way_count h = simp (← el, ← ek, le-leb _ _ hl, lt-leb _ _ h)

    module _ (hk : k ≤ c) where
      pub way_form : all t.stored (datoms_of k s) ≡ false → broken Form ≡ read_page t c id s
      unfolding read_page node_rules node_of
      way_form f = simp (← el, ← ek, le-leb _ _ hl, le-leb _ _ hk, f)

      module _ (f : all t.stored (datoms_of k s) ≡ true) where
        pub way_order : rising t.cmp (datoms_of k s) ≡ false → broken Order ≡ read_page t c id s
        unfolding read_page node_rules node_of
        way_order g = simp (← el, ← ek, le-leb _ _ hl, le-leb _ _ hk, f, g)

        pub way_on : rising t.cmp (datoms_of k s) ≡ true → child_rules id (node_of c l k s) ≡ read_page t c id s
        unfolding read_page node_rules node_of
        way_on g = simp (← el, ← ek, le-leb _ _ hl, le-leb _ _ hk, f, g)
