-- A page that is written is read back as the node that it was written from.
use Rattle.std.specs.Prelude.{ℕ, suc, ◌+◌, ◌-◌, ◌*◌, ◌^◌, ◌≤◌, ◌<◌, true, ◌≡◌, drop, get_or}
use Rattle.std.proofs.Common.{arith, ◌∙◌}
use mathlib.Core.List.{List, [], ◌∷◌, ◌++◌, append_assoc}
use Rattle.std.proofs.Math.Path.{ap}
use borrow.Author.Tests.{le-leb}
use Rattle.std.proofs.Math.ListN.{length, length-append}
use Rattle.std.proofs.Math.Seq.{drop_at}
use Rattle.std.proofs.lemmas.List.{get_or_at}
use Rattle.store.specs.declared.PageId.{PageId}
use Rattle.store.specs.Words.{cells, spread, zeros, pad}
use Rattle.store.specs.Page.{page_of, page_bytes}
use Rattle.store.specs.Laws.{pad_length, spread_length, cells_spread, page_length, page_back}
use Rattle.datom.specs.declared.Datom.{Datom}
use Rattle.datom.specs.Datom.{datom_of, datom_bytes, datoms_of, datoms_bytes, WordSized}
use Rattle.datom.specs.Laws.{datom_length, datom_back}
use Rattle.index.specs.Order.{DatomOrd}
use Rattle.rules.specs.Page.{Node, node_of, level_of, count_of, encode_page, good, all, rising, child_rules, node_rules, read_page}
use Rattle.rules.specs.Lists.{In, in_get_d}

-- a node that may be written as the page of an id
pub record Writable (t : DatomOrd) (c : ℕ) (id : PageId) (n : Node) : Type 0 where
  pub low : n.level ≤ 7
  pub few : length n.datoms ≤ c
  pub form : all t.stored n.datoms ≡ true
  pub rise : rising t.cmp n.datoms ≡ true
  pub kids : child_rules id n ≡ good n
  pub lens : length n.children ≡ suc (length n.datoms)
  pub words : (d : Datom) → In d n.datoms → WordSized d
  pub ids : (p : PageId) → In p n.children → p.0 < 2 ^ 64

pub datoms_length : (ds : List Datom) → length (datoms_bytes ds) ≡ 32 * length ds
datoms_length ds = spread_length datom_bytes 32 datom_length ds

-- a page is as long as its size
pub encoded_length :
    (size c : ℕ) (n : Node) → 40 * c + 10 ≤ size → length n.datoms ≤ c → length n.children ≡ suc (length n.datoms) →
    length (encode_page size c n) ≡ size
unfolding encode_page
encoded_length size c n h few lens =
    pad_length size _
    (simp (
      length-append,
      pad_length (32 * c) (datoms_bytes n.datoms) (omega (arith, datoms_length n.datoms)),
      pad_length (8 * c + 8) (spread page_bytes n.children) (omega (arith, spread_length page_bytes 8 page_length n.children)),
    )
    (omega arith))

-- a batch comes back from its bytes
pub datoms_back : (ds : List Datom) (rest : List ℕ) → ((d : Datom) → In d ds → WordSized d) → datoms_of (length ds) (datoms_bytes ds ++ rest) ≡ ds
datoms_back ds rest w =
    cells_spread datom_bytes 32 datom_length datom_of ds rest λ i d h. datom_back (get_or ds i d) (w (get_or ds i d) (in_get_d ds i d h))

module _ (t : DatomOrd) (size c : ℕ) (id : PageId) (n : Node) (W : Writable t c id n) (big : 40 * c + 10 ≤ size) where
  a : List ℕ
  a = pad (32 * c) (datoms_bytes n.datoms)

  b : List ℕ
  b = pad (8 * c + 8) (spread page_bytes n.children)

  z : List ℕ
  z = zeros (size - length (a ++ (b ++ (n.level ∷ length n.datoms ∷ []))))

  a_length : length a ≡ 32 * c
  unfolding a
  a_length = pad_length (32 * c) (datoms_bytes n.datoms) (omega (arith, datoms_length n.datoms, W.few))

  b_length : length b ≡ 8 * c + 8
  unfolding b
  b_length = pad_length (8 * c + 8) (spread page_bytes n.children) (omega (arith, spread_length page_bytes 8 page_length n.children, W.few, W.lens))

  ab_length : length (a ++ b) ≡ 40 * c + 8
  ab_length = simp length-append (omega (arith, a_length, b_length))

  shape : encode_page size c n ≡ a ++ (b ++ (n.level ∷ length n.datoms ∷ z))
  unfolding encode_page pad a b z
  shape =
      append_assoc a (b ++ (n.level ∷ length n.datoms ∷ [])) z
      ∙ ap (λ (l : List ℕ). a ++ l) (append_assoc b (n.level ∷ length n.datoms ∷ []) z)

  front : encode_page size c n ≡ (a ++ b) ++ (n.level ∷ length n.datoms ∷ z)
  front = rw append_assoc shape

  level_back : level_of c (encode_page size c n) ≡ n.level
  unfolding level_of
  level_back = rw front (get_or_at (a ++ b) n.level (length n.datoms ∷ z) 0 (40 * c + 8) ab_length)

  count_back : count_of c (encode_page size c n) ≡ length n.datoms
  unfolding count_of
  count_back =
      rw (front, ← append_assoc (a ++ b) (n.level ∷ []) (length n.datoms ∷ z))
      (get_or_at ((a ++ b) ++ (n.level ∷ [])) (length n.datoms) z 0 (40 * c + 9) (simp length-append (omega (arith, a_length, b_length))))

  datoms_read : datoms_of (length n.datoms) (encode_page size c n) ≡ n.datoms
  unfolding a pad
  datoms_read = rw (shape, append_assoc) (datoms_back n.datoms _ W.words)

  children_read : cells page_of 8 (suc (length n.datoms)) (drop (32 * c) (encode_page size c n)) ≡ n.children
  unfolding b pad
  children_read =
      rw (shape, drop_at a (b ++ (n.level ∷ length n.datoms ∷ z)) (32 * c) a_length, ← W.lens, append_assoc)
      (cells_spread page_bytes 8 page_length page_of n.children _
      λ i p h. page_back (get_or n.children i p) (W.ids (get_or n.children i p) (in_get_d n.children i p h)))

  node_back : node_of c n.level (length n.datoms) (encode_page size c n) ≡ n
  unfolding node_of
  node_back = rw (datoms_read, children_read)

  -- "reading an encoded node gives that node back"
  pub read_back : read_page t c id (encode_page size c n) ≡ good n
  unfolding read_page node_rules
  read_back =
      rw (level_back, count_back, le-leb n.level 7 W.low, le-leb (length n.datoms) c W.few, node_back, W.form, W.rise) W.kids
