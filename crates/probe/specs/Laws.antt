-- The ways through a look at bytes, and what is known of a readable page.
use Rattle.std.specs.Prelude.{ℕ, zero, suc, ◌+◌, ◌*◌, ◌≤◌, ◌<◌, Bool, true, false, List, [], ◌∷◌, ◌≡◌, refl, eqb, length, drop, get_or, Result, Ok, Err, Option, Some, None}
use Rattle.std.proofs.Common.{add-zero, mul-zero, arith, sym, ◌∙◌}
use Rattle.std.proofs.Math.Path.{ap}
use borrow.Author.Tests.{eqb-false, eq-eqb, ne_eqb}
use Rattle.std.proofs.Math.ListN.{get_or-eq_default}
use Rattle.store.specs.Words.{word_at, patch}
use Rattle.store.specs.Page.{page, none, page_of}
use Rattle.store.specs.Size.{most_size, most_datoms, capacity}
use Rattle.store.specs.Laws.{apart, cells_length, known_size}
use Rattle.store.specs.Cells.{cells_end, pages_at}
use Rattle.datom.specs.declared.Datom.{Datom}
use Rattle.datom.specs.Datom.{datom_at, datom_of, datoms_of}
use Rattle.datom.specs.Laws.{datoms_from}
use Rattle.std.specs.declared.cmp.Ordering.{Ordering}
use Rattle.index.specs.Order.{DatomOrd, named}
use Rattle.answer.specs.declared.Rule.{Rule}
use Rattle.answer.specs.Names.{rule_number}
use Rattle.rules.specs.Page.{Node, Read, broken, good, node_of, level_of, encode_page, rising, read_page, child_at, children_of}
use Rattle.rules.specs.Node.{part_of}
use Rattle.rules.proofs.SplitLaws.{whole_part}
use Rattle.rules.proofs.ReadLaws.{Readable, readable, read_count}
use Rattle.memory_store.specs.declared.reader.Header.{Header}
use Rattle.memory_store.specs.Reading.{said}
use Rattle.probe.specs.Seen.{unread, holds, nothing, seen, shown, of_node, head_word, of_datom, order_number, order_of, wrote_of, rewritten}

-- bytes that a page may have hold its header
pub look_fits : (s : List ℕ) (c : ℕ) → c ≡ capacity (length s) → (c ≡ 0 → ⊥) → 40 * c + 10 ≤ length s
look_fits s c e some = omega (arith, (known_size (length s) (λ z. some (e ∙ z))).fits)

-- one law for each answer of a look
module _ (t : DatomOrd) (s : List ℕ) (id c : ℕ) (e : c ≡ capacity (length s)) where
  pub look_none : c ≡ 0 → shown s (Err None) ≡ seen t s id
  unfolding shown seen
  look_none z = rw (eq-eqb (capacity (length s)) 0 (sym e ∙ z))

  module _ (some : c ≡ 0 → ⊥) where
    pub look_broken : (r : Rule) → said c s (Err r) ≡ read_page t c (page id) s → shown s (Err (Some r)) ≡ seen t s id
    unfolding shown seen said
    look_broken r q = rw (ne_eqb (capacity (length s)) 0 (λ z. some (e ∙ z)), ← e, ← q)

    pub look_good : (h : Header) → said c s (Ok h) ≡ read_page t c (page id) s → shown s (Ok h) ≡ seen t s id
    unfolding shown seen said
    look_good h q = rw (ne_eqb (capacity (length s)) 0 (λ z. some (e ∙ z)), ← e, ← q)

-- what is known of a readable page
pub record Held (t : DatomOrd) (s : List ℕ) (l k : ℕ) : Type 0 where
  pub low : l ≤ 7
  pub size : length s ≤ most_size
  pub fits : 40 * capacity (length s) + 10 ≤ length s
  pub few : k ≤ capacity (length s)
  pub most : capacity (length s) ≤ most_datoms
  pub rise : rising t.cmp (datoms_of k s) ≡ true

pub held : (t : DatomOrd) (s : List ℕ) (id : ℕ) (h : Header) → shown s (Ok h) ≡ seen t s id → Held t s h.level h.count
unfolding shown seen node_of
held t s id h e = side (eqb (capacity (length s)) 0) refl (read_page t (capacity (length s)) (page id) s) refl
  where
    side : (b : Bool) → eqb (capacity (length s)) 0 ≡ b → (r : Read) → read_page t (capacity (length s)) (page id) s ≡ r → Held t s h.level h.count
    side true p r q = let z : holds _ ≡ unread nothing = rw p at e in absurd (apart (cc))
    side false p (broken r) q = let z : holds _ ≡ unread (rule_number r) = rw (p, q) at e in absurd (apart (cc))
    side false p (good n) q =
        let z : holds (node_of (capacity (length s)) h.level h.count s) ≡ holds n = rw (p, q) at e in
        let m : node_of (capacity (length s)) h.level h.count s ≡ n = cc in
        let R : Readable t (capacity (length s)) (page id) s n = readable t (capacity (length s)) (page id) s n q in
        let K = known_size (length s) (eqb-false (capacity (length s)) 0 p) in
        let many : h.count ≡ length n.datoms = sym (cells_length datom_of 32 h.count s) ∙ ap (λ (x : Node). length x.datoms) m in
        let level : h.level ≡ level_of (capacity (length s)) s = ap (λ (x : Node). x.level) (m ∙ sym R.node) in
        record {
          low = omega (arith, R.low);
          size = K.most;
          fits = K.fits;
          few = omega (arith, read_count t (capacity (length s)) (page id) s n R, R.few);
          most = K.few;
          rise = ap (λ (x : Node). rising t.cmp x.datoms) m ∙ R.rise;
        }

-- from what a look showed to what an entry answers
module _ (t : DatomOrd) (s : List ℕ) (id : ℕ) {v : Result Header (Option Rule)} where
  pub of_unread : (f : Node → ℕ) {n : Option Rule} → v ≡ Err n → shown s v ≡ seen t s id → nothing ≡ of_node f (seen t s id)
  unfolding shown
  of_unread f e q = ap (of_node f) (ap (shown s) (sym e) ∙ q)

  module _ {h : Header} (e : v ≡ Ok h) (q : shown s v ≡ seen t s id) where
    pub of_good : (f : Node → ℕ) → f (node_of (capacity (length s)) h.level h.count s) ≡ of_node f (seen t s id)
    unfolding shown
    of_good f = ap (of_node f) (ap (shown s) (sym e) ∙ q)

    pub good_held : Held t s h.level h.count
    good_held = held t s id h (ap (shown s) (sym e) ∙ q)

-- words of datoms
word_of : (s : List ℕ) (at j : ℕ) (ds : List Datom) → j ≤ 3 → word_at s (at + 8 * j) ≡ head_word j (datom_at s at ∷ ds)
unfolding head_word datom_at
word_of s at zero ds h = rw (mul-zero, add-zero)
word_of s at (suc zero) ds h = refl
word_of s at (suc (suc zero)) ds h = refl
word_of s at (suc (suc (suc zero))) ds h = refl
word_of s at (suc (suc (suc (suc j)))) ds h = absurd (omega arith)

module _ (s : List ℕ) (k i j : ℕ) where
  pub word_here : i < k → j ≤ 3 → word_at s (32 * i + 8 * j) ≡ head_word j (drop i (datoms_of k s))
  word_here h g = rw (datoms_from k i s h) (word_of s (32 * i) j _ g)

  pub word_past : k ≤ i → nothing ≡ head_word j (drop i (datoms_of k s))
  unfolding head_word
  word_past h = rw (cells_end datom_of 32 k i s h)

pub word_none : (j : ℕ) (ds : List Datom) → 3 < j → nothing ≡ head_word j ds
unfolding head_word
word_none j [] h = refl
word_none j (d ∷ ds) h = sym (get_or-eq_default (d.entity.0 ∷ d.attribute.0 ∷ d.value.0 ∷ d.transaction_operation.0 ∷ []) nothing {n = j} (omega arith))

-- children
module _ (s : List ℕ) (c k i : ℕ) where
  pub child_here : i ≤ k → child_at c s i ≡ get_or (children_of c (suc k) s) i none
  child_here h = sym (pages_at (suc k) i (32 * c) s none (omega arith))

  pub child_past : k < i → none ≡ get_or (children_of c (suc k) s) i none
  child_past h =
      sym (get_or-eq_default (children_of c (suc k) s) none {n = i} (omega (arith, cells_length page_of 8 (suc k) (drop (32 * c) s))))

-- a datom's bytes
module _ (f : Datom → ℕ) (b : List ℕ) where
  pub of_datom_law : length b ≡ 32 → f (datom_at b 0) ≡ of_datom f b
  unfolding of_datom datom_of
  of_datom_law e = rw (eq-eqb (length b) 32 e)

  pub of_others : (length b ≡ 32 → ⊥) → nothing ≡ of_datom f b
  unfolding of_datom
  of_others e = rw (ne_eqb (length b) 32 e)

-- a page written anew
module _ (t : DatomOrd) (s free : List ℕ) (id : ℕ) {v : Result Header (Option Rule)} where
  pub not_written : {n : Option Rule} → v ≡ Err n → shown s v ≡ seen t s id → (0 ≡ wrote_of s free (seen t s id)) × (free ≡ rewritten s free (seen t s id))
  unfolding shown wrote_of rewritten
  not_written e q = let z = ap (shown s) (sym e) ∙ q in (ap (wrote_of s free) z, ap (rewritten s free) z)

  module _ {h : Header} (e : v ≡ Ok h) (q : shown s v ≡ seen t s id) where
    pub no_place : (length free ≡ length s → ⊥) → (0 ≡ wrote_of s free (seen t s id)) × (free ≡ rewritten s free (seen t s id))
    unfolding shown wrote_of rewritten
    no_place m = let z = ap (shown s) (sym e) ∙ q in rw (← z, ne_eqb (length free) (length s) m) (refl, refl)

    pub written :
        length free ≡ length s →
        (1 ≡ wrote_of s free (seen t s id))
        × (patch free 0 (encode_page (length s) (capacity (length s)) (part_of 0 h.count (node_of (capacity (length s)) h.level h.count s))) ≡ rewritten s free (seen t s id))
    unfolding shown wrote_of rewritten
    written m = let z = ap (shown s) (sym e) ∙ q in rw (← z, eq-eqb (length free) (length s) m, whole_part (capacity (length s)) h.level h.count s) (refl, refl)

-- two datoms' bytes, compared
module _ (t : DatomOrd) (a b : List ℕ) where
  pub ordered : length a ≡ 32 → length b ≡ 32 → {o : Ordering} → o ≡ named (t.cmp (datom_at a 0) (datom_at b 0)) → order_number o ≡ order_of t a b
  ordered e f q =
      ap order_number q
      ∙ (of_datom_law (λ y. order_number (named (t.cmp (datom_at a 0) y))) b f ∙ of_datom_law (λ x. of_datom (λ y. order_number (named (t.cmp x y))) b) a e)

  pub not_ordered : length a ≡ 32 → (length b ≡ 32 → ⊥) → nothing ≡ order_of t a b
  not_ordered e f =
      of_others (λ y. order_number (named (t.cmp (datom_at a 0) y))) b f ∙ of_datom_law (λ x. of_datom (λ y. order_number (named (t.cmp x y))) b) a e
