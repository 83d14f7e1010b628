-- Pending datoms: what the longest span of them is to the code, and the rules' steps at an index of the children, as the loops take
-- them.
use Rattle.std.specs.Prelude.{ℕ, suc, ◌+◌, ◌-◌, ◌*◌, ◌≤◌, ◌<◌, Bool, true, false, List, ◌≡◌, refl, drop}
use Rattle.std.proofs.Math.Numerals.{add-one}
use Rattle.std.proofs.Common.{arith, ap₂, ◌∙◌}
use Rattle.std.proofs.Math.Path.{sym, ap}
use borrow.Author.Tests.{lt-ltb, le-ltb}
use Rattle.store.specs.declared.PageId.{PageId}
use Rattle.store.specs.Page.{is_none, page_of}
use Rattle.store.specs.Cells.{pages_from, cells_end}
use Rattle.rules.specs.Page.{children_of, child_at}
use Rattle.rules.specs.Node as rules
use Rattle.rules.specs.Node.{span_from, longest_span, any_pending}
use Rattle.node.specs.declared.Span.{Span}

-- the code's span is the rules' one, and lies within n datoms
pub record Spans (r : Span) (n : ℕ) (cs : List PageId) : Type 0 where
  pub from : r.from ≡ (longest_span cs).from
  pub upto : r.upto ≡ (longest_span cs).upto
  pub rises : r.from ≤ r.upto
  pub within : r.upto ≤ n

-- two results that meet it are equal
pub spans_same : (r r₁ : Span) {n : ℕ} {cs : List PageId} → Spans r n cs → Spans r₁ n cs → r ≡ r₁
spans_same r r₁ A B = let e = A.from ∙ sym B.from in let f = A.upto ∙ sym B.upto in ap₂ (λ (i j : ℕ). record { from = i; upto = j }) e f

-- the loop that looks for it: from index i on, with a run that began at `start` and the best span so far, the rule gives the span
pub record Spanning (m n : ℕ) (s : List ℕ) (i start from upto : ℕ) : Type 0 where
  pub done : i ≤ n + 1
  pub begun : start ≤ i
  pub rises : from ≤ upto
  pub within : upto ≤ n
  pub left :
      span_from (drop i (children_of m (suc n) s)) i start (record { from = from; upto = upto }) ≡ longest_span (children_of m (suc n) s)

-- the children of n datoms from index i on, where the code has tested that at i
module _ (m n i : ℕ) (s : List ℕ) where
  abbrev cs : List PageId
  cs = children_of m (suc n) s

  module _ {b : Bool} (e : b ≡ is_none (child_at m s i)) (h : i ≤ n) where
    pub pending_here : b ≡ true → any_pending (drop i cs) ≡ true
    unfolding any_pending
    pending_here t = rw (pages_from (suc n) i (32 * m) s (omega arith), any_pending, ← e, t)

    pub pending_on : b ≡ false → any_pending (drop i cs) ≡ any_pending (drop (i + 1) cs)
    unfolding any_pending
    pending_on t = rw (pages_from (suc n) i (32 * m) s (omega arith), any_pending, ← e, t)

  pub pending_end : n < i → any_pending (drop i cs) ≡ false
  unfolding any_pending
  pending_end h = rw (cells_end page_of 8 (suc n) i (drop (32 * m) s) h)

pub spanning_start : (m n : ℕ) (s : List ℕ) → Spanning m n s 0 0 0 0
unfolding longest_span
spanning_start m n s = record { done = omega arith; begun = omega arith; rises = omega arith; within = omega arith; left = refl }

module _ {m n : ℕ} {s : List ℕ} {i a f u : ℕ} (g : Spanning m n s i a f u) where
  abbrev best : rules.Span
  best = record { from = f; upto = u }

  module _ {b : Bool} (e : b ≡ is_none (child_at m s i)) (h : i ≤ n) where
    pub spanning_none : b ≡ true → Spanning m n s (i + 1) a f u
    unfolding span_from
    spanning_none t =
        let step : span_from (drop i (cs m n i s)) i a best ≡ span_from (drop (i + 1) (cs m n i s)) (i + 1) a best =
        rw (pages_from (suc n) i (32 * m) s (omega arith)) (simp (← e, t, add-one, span_from)) in
        record { done = omega arith; begun = omega (arith, g.begun); rises = g.rises; within = g.within; left = sym step ∙ g.left }

    pub spanning_longer : b ≡ false → u - f < i - a → Spanning m n s (i + 1) (i + 1) a i
    unfolding span_from
    spanning_longer t l =
        let step : span_from (drop i (cs m n i s)) i a best ≡ span_from (drop (i + 1) (cs m n i s)) (i + 1) (i + 1) (record { from = a; upto = i }) =
        rw (pages_from (suc n) i (32 * m) s (omega arith)) (simp (← e, t, lt-ltb _ _ l, add-one, span_from)) in
        record { done = omega arith; begun = omega arith; rises = g.begun; within = h; left = sym step ∙ g.left }

    pub spanning_kept : b ≡ false → i - a ≤ u - f → Spanning m n s (i + 1) (i + 1) f u
    unfolding span_from
    spanning_kept t l =
        let step : span_from (drop i (cs m n i s)) i a best ≡ span_from (drop (i + 1) (cs m n i s)) (i + 1) (i + 1) best =
        rw (pages_from (suc n) i (32 * m) s (omega arith)) (simp (← e, t, le-ltb _ _ l, add-one, span_from)) in
        record { done = omega arith; begun = omega arith; rises = g.rises; within = g.within; left = sym step ∙ g.left }

  pub spanning_end : n < i → Spans (record { from = f; upto = u }) n (children_of m (suc n) s)
  unfolding span_from
  spanning_end h =
      let e : best ≡ longest_span (children_of m (suc n) s) = rw (cells_end page_of 8 (suc n) i (drop (32 * m) s) h) at g.left in
      record { from = ap (λ (r : rules.Span). r.from) e; upto = ap (λ (r : rules.Span). r.upto) e; rises = g.rises; within = g.within }
