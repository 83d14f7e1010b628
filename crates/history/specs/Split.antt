-- Split: the parts of a node written as pages, and the node of their numbers and of the datoms between them. Rests on Held and on the
-- rules' laws of a split.
use Prim.Native.Nat.{ℕ, zero, suc, ◌<◌, Ordering}
use Rattle.std.proofs.Common.{arith, inl, inr, ap}
use Rattle.std.specs.Prelude.{true, ◌↔◌, ◌≡◌, refl}
use mathlib.Core.List.{List, [], ◌∷◌, ◌++◌, append-nil}
use mathlib.Core.Logic.Iff as Iff
use borrow.Author.Tests.{ltb-true}
use Rattle.std.proofs.Math.ListN.{length}
use Rattle.store.specs.declared.PageId.{PageId}
use Rattle.datom.specs.declared.Datom.{Datom}
use Rattle.index.specs.Order.{DatomOrd}
use Rattle.index.proofs.Laws.{Preorder}
use Rattle.rules.specs.Page.{Node}
use Rattle.rules.specs.Node.{split_parts, split_up}
use Rattle.rules.specs.Tree.{Fetched, Env, then, put, put_all, split, is_over}
use Rattle.rules.specs.Lists.{In}
use Rattle.rules.proofs.SplitLaws.{weave, all_children, Part, split_keeps_every_datom, split_keeps_every_child, split_parts_fit, split_midpoints_fewer, split_shrinks}
use Rattle.history.specs.Tree.{Tree, last, item, InTree, Ends, Full, Good, item_in, item_same, midpoint}
use Rattle.history.specs.Pages.{page, Holds, h_last, h_item, holds_extends, holds_lengths, holds_real, leaf_own}
use Rattle.history.specs.Held.{held, EnvOk, Storable, Written, more_more, Grown, Goes, goes, goes_then, put_ok}

-- a node cut behind a child: the datom there goes up, below all right of it and above all left of it
record Halves
    (cmp : Datom → Datom → Ordering) (f : PageId → Fetched) (l : ℕ) (a : List Datom) (ca : List PageId) (d : Datom) (b : List Datom)
    (cb : List PageId) (t : Tree)
    : Type 0 where
  left : Tree
  right : Tree
  holds_left : Holds f (page l a ca) left
  holds_right : Holds f (page l b cb) right
  full_right : Full l right
  good_left : Good cmp left
  good_right : Good cmp right
  lows : (x : Datom) → InTree x left → cmp x d ≡ Ordering.lt
  highs : (x : Datom) → InTree x right → cmp d x ≡ Ordering.lt
  exactly : (x : Datom) → InTree x t ↔ InTree x (item left d right)

module _ (cmp : Datom → Datom → Ordering) (L : Preorder cmp) where
  -- behind a child that may end a page, the datom is below all that follows
  full_right_law :
      {f : PageId → Fetched} {ds : List Datom} {cs : List PageId} (l : ℕ) (t : Tree) (d : Datom) (r : Tree) → Good cmp (item t d r) →
      Ends l t →
      Holds f (page l ds cs) r → (x : Datom) → InTree x r → cmp d x ≡ Ordering.lt
  full_right_law zero t d r g u h x i = g.0.next x (leaf_own x h i)
  full_right_law (suc l) t d r g u h x i = g.0.right u x i

  cut :
      {f : PageId → Fetched} {l : ℕ} {d : Datom} {b : List Datom} {cb : List PageId} {t : Tree} (a : List Datom) (ca : List PageId) →
      length ca ≡ suc (length a) → Holds f (page l (a ++ (d ∷ b)) (ca ++ cb)) t → Full l t → Good cmp t → Halves cmp f l a ca d b cb t
  cut a [] n h u g = absurd (omega arith)
  cut [] (c ∷ x ∷ ca) n h u g = absurd (omega arith)
  cut {l} [] (c ∷ []) n (h_item {t} {r} d k h) u g =
      record {
        left = last t;
        right = r;
        holds_left = h_last k u.0;
        holds_right = h;
        full_right = u.1;
        good_left = g.1;
        good_right = g.2;
        lows = g.0.left;
        highs = full_right_law l t d r g u.0 h;
        exactly = λ x. Iff.rfl;
      }
  cut {f} {l} {d} {b} {cb} (e ∷ a) (c ∷ ca) n (h_item {t} {r} _ k h) u g = more (cut a ca (omega arith) h u.1 g.2)
    where
      above : (x : Datom) → InTree x r → cmp e x ≡ Ordering.lt
      above = full_right_law l t e r g u.0 h

      more : Halves cmp f l a ca d b cb r → Halves cmp f l (e ∷ a) (c ∷ ca) d b cb (item t e r)
      more w =
          let e<d : cmp e d ≡ Ordering.lt = above d ((w.exactly d).1 (inr (inl refl))) in
          record {
            left = item t e w.left;
            right = w.right;
            holds_left = h_item e k w.holds_left;
            holds_right = w.holds_right;
            full_right = w.full_right;
            good_left = (midpoint cmp g.0.left (λ x i. above x ((w.exactly x).1 (inl i))), g.1, w.good_left);
            good_right = w.good_right;
            lows = λ x i. elim i [
              | inl j ↦ L.trans x e d (g.0.left x j) e<d
              | inr j ↦ elim j [ inl q ↦ rw q e<d | inr q ↦ w.lows x q ]
            ];
            highs = w.highs;
            exactly = λ x. item_in t e r w.left x (w.exactly x);
          }

-- datoms and children of a node that may be cut anywhere, which hold a good tree of exactly the datoms of P
pub record Made (t : DatomOrd) (e : Env) (P : Datom → Type 0) (l : ℕ) (ds : List Datom) (cs : List PageId) (o o₁ : List Node) : Type 0 where
  pub grown : Grown t e P (page l ds cs) o o₁
  pub full : Full l grown.tree

module _ (t : DatomOrd) (e : Env) (E : EnvOk e) (l : ℕ) where
  puts :
      (ns : List Node) (up : List Datom) (tr : Tree) (o : List Node) → suc (length up) ≡ length ns →
      ((n : Node) → In n ns → Part l e.cap n) →
      Holds (held e o) (page l (weave ns up) (all_children ns)) tr → Full l tr → Good e.cmp tr →
      ((x : Datom) → InTree x tr → Storable t x) →
      Written t e o → Goes (λ ids o₁. Made t e (λ x. InTree x tr) (suc l) up ids o o₁) (put_all e ns o)
  unfolding put_all then weave all_children
  puts [] up tr o n part h u g a ws = absurd (omega arith)
  puts (m ∷ []) (d ∷ up) tr o n part h u g a ws = absurd (omega arith)
  puts (m ∷ k ∷ ns) [] tr o n part h u g a ws = absurd (omega arith)
  puts (m ∷ []) [] tr o n part h u g a ws =
      goes_then (put e m o) _
      (put_ok t e E l m tr o (part m (inl refl)).level (rw (append-nil m.datoms, append-nil m.children) at h) g a (part m (inl refl)).few ws)
      λ id o₁ q. goes
      (record {
        grown = record { tree = last tr; holds = h_last q.0 (holds_real h); good = g; exactly = λ x. Iff.rfl; more = q.1 };
        full = holds_real h;
      })
  puts (m ∷ k ∷ ns) (d ∷ up) tr o n part h u g a ws =
      goes_then (put e m o) _
      (put_ok t e E l m w.left o (part m (inl refl)).level w.holds_left w.good_left (λ x i. a x ((w.exactly x).1 (inl i)))
      (part m (inl refl)).few ws)
      λ id o₁ q. goes_then (put_all e (k ∷ ns) o₁) _
      (puts (k ∷ ns) up w.right o₁ (omega arith) (λ j i. part j (inr i)) (holds_extends q.1.extends w.holds_right) w.full_right
      w.good_right (λ x i. a x ((w.exactly x).1 (inr (inr i)))) q.1.written)
      λ ids o₂ p. goes
      (record {
        grown = record {
          tree = item w.left d p.grown.tree;
          holds = h_item d (holds_extends p.grown.more.extends q.0) p.grown.holds;
          good = (midpoint e.cmp w.lows (λ x i. w.highs x ((p.grown.exactly x).0 i)), w.good_left, p.grown.good);
          exactly = λ x. Iff.trans (item_same w.left d p.grown.tree w.right x (p.grown.exactly x)) (Iff.symm (w.exactly x));
          more = more_more q.1 p.grown.more;
        };
        full = (holds_real w.holds_left, p.full);
      })
    where
      w : Halves e.cmp (held e o) l m.datoms m.children d (weave (k ∷ ns) up) (all_children (k ∷ ns)) tr
      w = cut e.cmp E.laws m.datoms m.children (part m (inl refl)).lens h u g

  -- the node one level higher, with fewer datoms
  pub split_ok :
      (n : Node) (tr : Tree) (o : List Node) → n.level ≡ l → Holds (held e o) (page l n.datoms n.children) tr → Full l tr →
      Good e.cmp tr →
      ((x : Datom) → InTree x tr → Storable t x) → is_over e n ≡ true → Written t e o →
      Goes
      (λ m o₁. (m.level ≡ suc l) × Made t e (λ x. InTree x tr) (suc l) m.datoms m.children o o₁ × (length m.datoms < length n.datoms))
      (split e n o)
  unfolding split is_over
  split_ok n tr o q h u g a v ws =
      let over : e.cap < length n.datoms = ltb-true e.cap (length n.datoms) v in
      goes_then (put_all e (split_parts e.cap n) o) _
      (puts (split_parts e.cap n) (split_up e.cap n) tr o (split_midpoints_fewer e.cap n E.pos over)
      (λ m i. rw (← q) (split_parts_fit e.cap n E.pos over (holds_lengths h) m i))
      (rw (split_keeps_every_datom e.cap n E.pos over, split_keeps_every_child e.cap n E.pos over (holds_lengths h)) h) u g a ws)
      λ ids o₁ p. goes (ap suc q, p, split_shrinks e.cap n E.pos over)
