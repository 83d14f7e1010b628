-- "that two results meeting it are equal is proved": most promises name the result, and there it holds by form. The reader's two say
-- what the result tells of the page; two results that tell the same are the same.
use Rattle.std.specs.Prelude.{ℕ, List, ◌≡◌, Result, Ok, Err}
use Rattle.std.proofs.Math.Path.{sym, ap}
use Rattle.std.proofs.Common.{◌∙◌, ap₂}
use Rattle.std.proofs.Math.ListN.{length}
use Rattle.store.specs.declared.PageId.{PageId}
use Rattle.store.specs.declared.Extent.{Extent}
use Rattle.store.specs.Size.{capacity}
use Rattle.store.specs.Laws.{apart, cells_length}
use Rattle.datom.specs.Datom.{datom_of}
use Rattle.rules.specs.Page.{Node, node_of}
use Rattle.rules.specs.Store.{page_at}
use Rattle.answer.specs.declared.Rule.{Rule}
use Rattle.answer.specs.declared.Fault.{Fault}
use Rattle.memory_store.specs.declared.reader.Header.{Header}
use Rattle.memory_store.specs.Reading.{said, told}

-- a node tells the level and the count that it was read with
module _ (c : ℕ) (s : List ℕ) (l k l₁ k₁ : ℕ) (e : node_of c l k s ≡ node_of c l₁ k₁ s) where
  node_level : l ≡ l₁
  unfolding node_of
  node_level = ap (λ (n : Node). n.level) e

  node_count : k ≡ k₁
  unfolding node_of
  node_count = sym (cells_length datom_of 32 k s) ∙ (ap (λ (n : Node). length n.datoms) e ∙ cells_length datom_of 32 k₁ s)

-- a header is its level and its count
header_is : (g h : Header) → g.level ≡ h.level → g.count ≡ h.count → g ≡ h
header_is g h e f = ap₂ (λ (i j : ℕ). record { level = i; count = j }) e f

-- of `read_page`
pub said_once : (c : ℕ) (s : List ℕ) (r q : Result Header Rule) → said c s r ≡ said c s q → r ≡ q
unfolding said
said_once c s (Err r) (Err q) e = cc
said_once c s (Err r) (Ok g) e = absurd (apart (cc))
said_once c s (Ok g) (Err q) e = absurd (apart (cc))
said_once c s (Ok g) (Ok h) e =
    let n : node_of c g.level g.count s ≡ node_of c h.level h.count s = cc in
    ap Ok (header_is g h (node_level c s g.level g.count h.level h.count n) (node_count c s g.level g.count h.level h.count n))

-- of `node_at`
pub told_once : (x : Extent) (s : List ℕ) (p : PageId) (r q : Result Header Fault) → told x s p r ≡ told x s p q → r ≡ q
unfolding told
told_once x s p (Err f) (Err g) e = cc
told_once x s p (Err f) (Ok g) e = absurd (apart (cc))
told_once x s p (Ok g) (Err f) e = absurd (apart (cc))
told_once x s p (Ok g) (Ok h) e =
    let n : node_of (capacity x.size) g.level g.count (page_at x s p) ≡ node_of (capacity x.size) h.level h.count (page_at x s p) = cc in
    ap Ok (header_is g h (node_level _ _ g.level g.count h.level h.count n) (node_count _ _ g.level g.count h.level h.count n))
