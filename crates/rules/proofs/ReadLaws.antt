-- What a page that is read is known to be.
use Prim.Native.Nat.{ℕ, suc, ◌+◌, ◌*◌, ◌^◌, ◌≤◌, ◌<◌}
use Rattle.std.proofs.Common.{div-le_self, arith, sym, ◌∙◌}
use Rattle.std.specs.Prelude.{Bool, true, not, List, ◌≡◌, refl, leb, ltb, length, drop, get_or}
use Rattle.std.proofs.Math.Bool.{false}
use Rattle.std.proofs.Math.Path.{ap}
use borrow.Author.Tests.{leb-true, ltb-true, not-true, ne_eqb}
use Rattle.std.proofs.Math.Dec.{eqb}
use Rattle.store.specs.declared.PageId.{PageId}
use Rattle.store.specs.declared.Extent.{Extent}
use Rattle.store.specs.Page.{none, is_none, page_of}
use Rattle.store.specs.Size.{capacity}
use Rattle.store.specs.Laws.{apart, cells_length}
use Rattle.datom.specs.Datom.{datom_of}
use Rattle.index.specs.Order.{DatomOrd}
use Rattle.answer.specs.declared.Rule.{Rule}
use Rattle.answer.specs.declared.Fault.TheVariants.{Missing}
use Rattle.rules.specs.Page.{Node, Read, broken, good, unless, node_of, level_of, count_of, all, rising, older, child_rules, node_rules, read_page}
use Rattle.rules.specs.Tree.{faulty, fine}
use Rattle.rules.specs.Store.{page_at, read_as, fetch_page, env_of}
use Rattle.rules.proofs.Sizes.{Capped}
use Rattle.rules.proofs.Turns.{Flushable}

-- a rule that was kept, and what comes after it
kept : (b : Bool) (r : Rule) (rest : Read) (n : Node) → unless b r rest ≡ good n → (b ≡ true) × (rest ≡ good n)
kept true r rest n e = (refl, e)
kept false r rest n e = absurd (apart (cc))

child_node : (id : PageId) (m n : Node) → child_rules id m ≡ good n → m ≡ n
unfolding child_rules
child_node id m n e = side (eqb m.level 0) refl
  where
    side : (b : Bool) → eqb m.level 0 ≡ b → m ≡ n
    side true q = let h = kept (all is_none m.children) _ (good m) n (rw q at e) in let k : good m ≡ good n = h.1 in cc
    side false q =
        let h = kept (not (is_none (get_or m.children (length m.datoms) none))) _ _ n (rw q at e) in
        let g = kept (all (older id) m.children) _ (good m) n h.1 in
        let k : good m ≡ good n = g.1 in cc

-- a readable page: the rules, as facts
pub record Readable (t : DatomOrd) (c : ℕ) (id : PageId) (s : List ℕ) (n : Node) : Type 0 where
  pub node : node_of c (level_of c s) (count_of c s) s ≡ n
  pub low : level_of c s ≤ 7
  pub few : count_of c s ≤ c
  pub form : all t.stored n.datoms ≡ true
  pub rise : rising t.cmp n.datoms ≡ true
  pub kids : child_rules id n ≡ good n

pub readable : (t : DatomOrd) (c : ℕ) (id : PageId) (s : List ℕ) (n : Node) → read_page t c id s ≡ good n → Readable t c id s n
unfolding read_page node_rules
readable t c id s n e =
    let m = node_of c (level_of c s) (count_of c s) s in
    let h₁ = kept (leb (level_of c s) 7) _ _ n e in
    let h₂ = kept (leb (count_of c s) c) _ _ n h₁.1 in
    let h₃ = kept (all t.stored m.datoms) _ _ n h₂.1 in
    let h₄ = kept (rising t.cmp m.datoms) _ _ n h₃.1 in
    let same : m ≡ n = child_node id m n h₄.1 in
    record {
      node = same;
      low = leb-true (level_of c s) 7 h₁.0;
      few = leb-true (count_of c s) c h₂.0;
      form = rw (← same) h₃.0;
      rise = rw (← same) h₄.0;
      kids = rw (← same) (h₄.1 ∙ ap good (sym same));
    }

module _ (t : DatomOrd) (c : ℕ) (id : PageId) (s : List ℕ) (n : Node) (R : Readable t c id s n) where
  pub read_count : length n.datoms ≡ count_of c s
  unfolding node_of
  read_count = rw (← R.node) (cells_length datom_of 32 (count_of c s) s)

  pub read_lens : length n.children ≡ suc (length n.datoms)
  unfolding node_of
  read_lens = rw (← R.node) (cells_length page_of 8 (suc (count_of c s)) (drop (32 * c) s) ∙ ap suc (sym (cells_length datom_of 32 (count_of c s) s)))

  -- "above, the last child real"
  pub read_last : (l : ℕ) → n.level ≡ suc l → is_none (get_or n.children (length n.datoms) none) ≡ false
  unfolding child_rules
  read_last l e =
      let above : eqb n.level 0 ≡ false = ne_eqb n.level 0 (λ z. omega arith) in
      let h = kept (not (is_none (get_or n.children (length n.datoms) none))) _ _ n (rw above at R.kids) in
      not-true _ h.0

-- a page that is fetched lies below the count, and is readable
pub fetch_tells :
    (t : DatomOrd) (x : Extent) (s : List ℕ) (p : PageId) (n : Node) → fetch_page t x s p ≡ fine n →
    (p.0 < x.count) × Readable t (capacity x.size) p (page_at x s p) n
unfolding fetch_page
fetch_tells t x s p n e = side (ltb p.0 x.count) refl (read_page t (capacity x.size) p (page_at x s p)) refl
  where
    side :
        (b : Bool) → ltb p.0 x.count ≡ b → (r : Read) → read_page t (capacity x.size) p (page_at x s p) ≡ r →
        (p.0 < x.count) × Readable t (capacity x.size) p (page_at x s p) n
    side false q r u = let k : faulty Missing ≡ fine n = rw q at e in absurd (apart (cc))
    side true q (broken r) u = let k : read_as (broken r) ≡ fine n = rw (q, u) at e in absurd (apart (cc))
    side true q (good m) u =
        let k : read_as (good m) ≡ fine n = rw (q, u) at e in
        let same : m ≡ n = cc in
        (ltb-true p.0 x.count q, readable t (capacity x.size) p (page_at x s p) n (u ∙ ap good same))

-- so a call works among pages of at most C datoms
pub env_capped : (t : DatomOrd) (x : Extent) (s : List ℕ) → 0 < capacity x.size → Capped (env_of t x s)
unfolding env_of
env_capped t x s pos =
    record {
      pos = pos;
      few = λ p n e. let R = (fetch_tells t x s p n e).1 in
          omega (arith, R.few, read_count t (capacity x.size) p (page_at x s p) n R);
      lens = λ p n e. read_lens t (capacity x.size) p (page_at x s p) n (fetch_tells t x s p n e).1;
    }

-- and, in a slice, every page above level 0 ends with a real child, and every id that is written is real
pub env_flushable : (t : DatomOrd) (x : Extent) (s : List ℕ) → 0 < capacity x.size → length s < 2 ^ 64 → Flushable (env_of t x s)
unfolding env_of is_none
env_flushable t x s pos small =
    record {
      capped = env_capped t x s pos;
      last = λ p n l e f. read_last t (capacity x.size) p (page_at x s p) n (fetch_tells t x s p n e).1 l f;
      fresh = λ i h. ne_eqb (x.count + i) 0xffff_ffff_ffff_ffff (λ z. omega (arith, div-le_self (length s) x.size));
    }
