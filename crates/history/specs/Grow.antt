-- Insert: the tree that a call leaves is good and holds the old datoms and the batch; only TooTall and NoRoom stop it.
-- Rests on Merge, Split and Flush.
use Prim.Native.Nat.{ℕ, zero, suc, ◌≤◌, ◌<◌}
use Rattle.std.proofs.Common.{arith, ap, ltb-false}
use Rattle.std.specs.Prelude.{Bool, ◌⊎◌, ◌↔◌, ◌≡◌, ltb, length, take, drop}
use Rattle.std.proofs.Math.Bool.{true, false}
use mathlib.Core.List.{List, [], ◌∷◌, ◌++◌}
use mathlib.Core.Logic.Iff as Iff
use Rattle.std.proofs.Math.Path.{refl}
use Rattle.store.specs.declared.PageId.{PageId}
use Rattle.datom.specs.declared.Datom.{Datom}
use Rattle.index.specs.Order.{DatomOrd}
use Rattle.rules.specs.Page.{Node}
use Rattle.rules.specs.Node.{meets, merge_node, Span, longest_span, any_pending, splice}
use Rattle.rules.specs.Tree.{Env, Stage, go, fetch_at, put, split, is_over, settle, Below, flush, flush_all, insert_merged, insert_into, root_of, write_root, insert_tree}
use Rattle.rules.specs.Lists.{In, Rising}
use Rattle.rules.proofs.Sizes.{level_is}
use Rattle.rules.proofs.Spans.{pendings}
use Rattle.history.specs.Order.{clash}
use Rattle.history.specs.Tree.{Tree, last, InTree, Full, Good, own_in, Exactly, Apart}
use Rattle.history.specs.Pages.{Place, page, child, Holds, h_last, h_item, Stored, holds_extends, holds_own, holds_lengths, holds_real, leaf_full, real_last}
use Rattle.history.specs.Merge.{merge_holds, merged_in, merged_good, merge_clear}
use Rattle.history.specs.Held.{held, EnvOk, held_old, Storable, Written, none_written, More, same_more, more_more, Grown, Goes, goes, goes_then, goes_map, put_ok}
use Rattle.history.specs.Split.{Made, split_ok}
use Rattle.history.specs.Span.{Spotted, longest_ok, Cuts, cuts}
use Rattle.history.specs.Flush.{Row, row_of, row_holds, row_pendings, row_full, Target, target, pendings_fewer, none_pending}

-- the same pages for a larger start and other words for the contents
abbrev pub regrown :
    {t : DatomOrd} {e : Env} {P Q : Datom → Type 0} {w : Place} {o₀ o o₁ : List Node} →
    ((x : Datom) → P x ↔ Q x) → More t e o₀ o → Grown t e P w o o₁ → Grown t e Q w o₀ o₁
regrown s m g =
    record { tree = g.tree; holds = g.holds; good = g.good; exactly = λ x. Iff.trans (g.exactly x) (s x); more = more_more m g.more }

-- a node that is not flushed further
record Settling (t : DatomOrd) (e : Env) (P : Datom → Type 0) (l : ℕ) (o : List Node) (n : Node) (o₁ : List Node) : Type 0 where
  level : n.level ≡ l
  grown : Grown t e P (page l n.datoms n.children) o o₁
  full : is_over e n ≡ true → Full l grown.tree

-- a node above level 0 that may be flushed
record Flushing (t : DatomOrd) (e : Env) (P : Datom → Type 0) (l : ℕ) (o : List Node) (n : Node) (o₁ : List Node) : Type 0 where
  level : n.level ≡ suc l
  tree : Tree
  row : Row e.fetch (held e o₁) l false n.datoms n.children tree
  good : Good e.cmp tree
  exactly : Exactly P tree
  more : More t e o o₁

-- the span that a flush of a node sends down
abbrev span_of : Node → Span
span_of n = longest_span n.children

abbrev sent : Node → List Datom
sent n = drop (span_of n).from (take (span_of n).upto n.datoms)

-- a node one level higher that stands for it
abbrev Raised : DatomOrd → Env → (Datom → Type 0) → ℕ → List Node → Node → List Node → Type 0
Raised t e P l o m o₁ = (m.level ≡ suc l) × Made t e P (suc l) m.datoms m.children o o₁

module _ (t : DatomOrd) (e : Env) (E : EnvOk e) where
  settle_ok :
      (l : ℕ) (P : Datom → Type 0) (o : List Node) (n : Node) (o₁ : List Node) → ((x : Datom) → P x → Storable t x) →
      Settling t e P l o n o₁ →
      Goes (Raised t e P l o) (settle e n o₁)
  unfolding settle is_over
  settle_ok l P o n o₁ a w = side (ltb e.cap (length n.datoms)) refl
    where
      G : Grown t e P (page l n.datoms n.children) o o₁
      G = w.grown

      b : (x : Datom) → InTree x G.tree → Storable t x
      b x i = a x ((G.exactly x).0 i)

      side : (v : Bool) → ltb e.cap (length n.datoms) ≡ v → Goes (Raised t e P l o) (settle e n o₁)
      side true v =
          rw v
          (goes_map (λ m o₂ q. (q.0, record { grown = regrown G.exactly G.more q.1.grown; full = q.1.full }))
          (split_ok t e E l n G.tree o₁ w.level G.holds (w.full v) G.good b v G.more.written))
      side false v =
          rw v
          (goes_then (put e n o₁) _
          (put_ok t e E l n G.tree o₁ w.level G.holds G.good b (ltb-false e.cap (length n.datoms) v) G.more.written)
          λ id o₂ q. goes (
            ap suc w.level,
            record {
              grown = record {
                tree = last G.tree;
                holds = h_last q.0 (holds_real G.holds);
                good = G.good;
                exactly = G.exactly;
                more = more_more G.more q.1;
              };
              full = holds_real G.holds;
            },
          ))

  -- an insert into a page of level l that does what is asked of it
  abbrev Inserts : ℕ → Below → Type 0
  Inserts l ins =
      (p : PageId) (ds : List Datom) (o : List Node) (tr : Tree) → Stored e.fetch l p tr → Good e.cmp tr → Rising e.cmp ds →
      Apart e.cmp ds tr →
      ((x : Datom) → InTree x tr ⊎ In x ds → Storable t x) → Written t e o → Goes (Raised t e (λ x. InTree x tr ⊎ In x ds) l o) (ins p ds o)

  module _ (l : ℕ) (ins : Below) (ins-ok : Inserts l ins) (P : Datom → Type 0) (a : (x : Datom) → P x → Storable t x) (o₀ : List Node) where
    settled :
        {n : Node} {o : List Node} → (F : Flushing t e P l o₀ n o) → (is_over e n ≡ true → Full (suc l) F.tree) →
        Settling t e P (suc l) o₀ n o
    settled {n} {o} F f =
        record {
          level = F.level;
          grown = record { tree = F.tree; holds = row_holds (held_old e E o) F.row; good = F.good; exactly = F.exactly; more = F.more };
          full = f;
        }

    -- one flush: the same datoms, and fewer of them pending
    flush_ok :
        (n : Node) (o : List Node) → Flushing t e P l o₀ n o → any_pending n.children ≡ true →
        Goes (λ n₁ o₁. Flushing t e P l o₀ n₁ o₁ × (pendings n₁.children < pendings n.children)) (flush ins n o)
    unfolding flush splice
    flush_ok n o F w =
        rw C.child
        (goes_then _ _
        (ins-ok S.end (sent n) o T.kid T.stored T.good T.rising T.apart (λ x i. a x ((F.exactly x).0 (T.inside x i))) F.more.written)
        λ n₁ o₁ r. goes (back n₁ o₁ r.1))
      where
        h : Holds (held e o) (page (suc l) n.datoms n.children) F.tree
        h = row_holds (held_old e E o) F.row

        S : Spotted n.children (span_of n)
        S = longest_ok n.children (length n.datoms) (holds_lengths h) (real_last h) w

        C : Cuts n.datoms n.children (span_of n) S
        C = cuts n.datoms n.children (span_of n) S (holds_lengths h)

        T :
            Target e.cmp e.fetch (held e o) l F.tree (take (span_of n).from n.datoms) S.before (sent n) S.end
            (drop (span_of n).upto n.datoms) S.behind
        T =
            target e.cmp E.laws _ _ S.before S.run C.first C.sent S.some S.nones S.real S.closed
            (rw (C.datoms, ← S.parts) F.row) F.good

        back :
            (n₁ : Node) (o₁ : List Node) → Made t e (λ x. InTree x T.kid ⊎ In x (sent n)) (suc l) n₁.datoms n₁.children o o₁ →
            Flushing t e P l o₀ (splice n (span_of n) n₁) o₁ × (pendings (splice n (span_of n) n₁).children < pendings n.children)
        back n₁ o₁ M =
            let G = M.grown in
            let R = T.rebuild G.more.extends G.holds M.full G.good G.exactly in
            let fewer : pendings (S.before ++ (n₁.children ++ S.behind)) < pendings (S.before ++ (S.run ++ (S.end ∷ S.behind))) =
            pendings_fewer S.before S.run S.end S.behind S.nones S.some G.holds M.full in (
              record {
                level = F.level;
                tree = R.tree;
                row = rw (C.front, C.behind) R.row;
                good = R.good;
                exactly = λ x. Iff.trans (R.exactly x) (F.exactly x);
                more = more_more F.more G.more;
              },
              rw (C.front, C.behind) (omega (arith, fewer, ap pendings S.parts)),
            )

    flush_all_ok :
        (k : ℕ) (n : Node) (o : List Node) → Flushing t e P l o₀ n o → pendings n.children ≤ k →
        Goes (Settling t e P (suc l) o₀) (flush_all e ins k n o)
    unfolding flush_all
    flush_all_ok zero n o F f = goes (settled F λ v. row_full F.row (omega arith))
    flush_all_ok (suc k) n o F f = side (is_over e n) refl (any_pending n.children) refl (flush_all_ok k)
      where
        side :
            (u : Bool) → is_over e n ≡ u → (v : Bool) → any_pending n.children ≡ v →
            ((n₁ : Node) (o₁ : List Node) → Flushing t e P l o₀ n₁ o₁ → pendings n₁.children ≤ k → Goes (Settling t e P (suc l) o₀) (flush_all e ins k n₁ o₁)) →
            Goes (Settling t e P (suc l) o₀) (flush_all e ins (suc k) n o)
        side false u v w ih = rw (u, flush_all) (goes (settled F λ z. absurd (clash u z)))
        side true u false w ih = rw (u, w, flush_all) (goes (settled F λ z. row_full F.row (none_pending n.children w)))
        side true u true w ih =
            rw (u, w, flush_all) (goes_then (flush ins n o) _ (flush_ok n o F w) λ n₁ o₁ r. ih n₁ o₁ r.0 (omega (arith, r.1)))

  module _ (l : ℕ) (k : Node → List Node → Stage Node)
      (k-ok :
      (n : Node) (tr : Tree) (o : List Node) → n.level ≡ l → Holds e.fetch (page l n.datoms n.children) tr → Good e.cmp tr →
      ((x : Datom) → InTree x tr → Storable t x) → Written t e o → Goes (Settling t e (λ x. InTree x tr) l o) (k n o))
    where
      merged_ok : Inserts l (λ p ds o. insert_merged e p ds k (fetch_at e l p) o)
      unfolding insert_merged fetch_at merge_node
      merged_ok p ds o tr s g r a b ws =
          let W = merge_holds e.cmp s.holds ds in
          let M = merged_in W.merged in
          rw (s.read, clear)
          (goes_then _ _
          (k-ok (merge_node e.cmp s.node ds) W.tree o (level_is l (e.fetch p) s.node s.read) W.holds
          (merged_good e.cmp E.laws W.merged g r a) (λ x i. b x ((M x).0 i)) ws)
          λ m o₁ w. settle_ok l (λ x. InTree x tr ⊎ In x ds) o m o₁ b
          (record { level = w.level; grown = regrown M (same_more ws) w.grown; full = w.full }))
        where
          clear : meets e.cmp s.node.datoms ds ≡ false
          clear = merge_clear e.cmp E.laws s.node.datoms ds (λ x y i j. a x y i (own_in y tr (rw (holds_own s.holds) j)))

  pub insert_into_ok : (l : ℕ) → Inserts l (insert_into e l)
  unfolding insert_into
  insert_into_ok zero =
      merged_ok 0 (λ n o₁. go n o₁)
      λ n tr o q h g a ws. goes
      (record {
        level = q;
        grown = record {
          tree = tr;
          holds = holds_extends (held_old e E o) h;
          good = g;
          exactly = λ x. Iff.rfl;
          more = same_more ws;
        };
        full = λ v. leaf_full h;
      })
  insert_into_ok (suc l) =
      merged_ok (suc l) _
      λ n tr o q h g a ws.
      let w = row_of false (held_old e E o) h in
      flush_all_ok l (insert_into e l) (insert_into_ok l) (λ x. InTree x tr) a o (length n.datoms) n o
      (record { level = q; tree = tr; row = w; good = g; exactly = λ x. Iff.rfl; more = same_more ws }) (row_pendings w)

-- a root: none or a page, a child of no page
pub record Rooted (t : DatomOrd) (e : Env) (P : Datom → Type 0) (o : List Node) (root : PageId) (o₁ : List Node) : Type 0 where
  pub level : ℕ
  pub grown : Grown t e P (child level root) o o₁

module _ (t : DatomOrd) (e : Env) (E : EnvOk e) (P : Datom → Type 0) (a : (x : Datom) → P x → Storable t x) (o₀ : List Node) where
  -- "one child is the root, several are written as the root"
  root_of_ok :
      (l : ℕ) (n : Node) (o : List Node) (cs : List PageId) → n.level ≡ l → n.children ≡ cs →
      (G : Grown t e P (page l n.datoms cs) o₀ o) →
      length n.datoms ≤ e.cap → Goes (Rooted t e P o₀) (root_of e cs n o)
  unfolding root_of
  root_of_ok l n o [] q c G k = absurd (omega (arith, holds_lengths G.holds))
  root_of_ok l n o (c ∷ []) q z G k = goes (one G.tree G.holds G.good G.exactly)
    where
      one : {ds : List Datom} (tr : Tree) → Holds (held e o) (page l ds (c ∷ [])) tr → Good e.cmp tr → Exactly P tr → Rooted t e P o₀ c o
      one tr (h_last {t} h u) g ex = record { level = l; grown = record { tree = t; holds = h; good = g; exactly = ex; more = G.more } }
      one tr (h_item d u h) g ex = absurd (omega (arith, holds_lengths h))
  root_of_ok l n o (c ∷ d ∷ cs) q z G k =
      goes_map (λ id o₁ p. record {
        level = suc l;
        grown = record { tree = G.tree; holds = p.0; good = G.good; exactly = G.exactly; more = more_more G.more p.1 };
      })
      (put_ok t e E l n G.tree o q (rw z G.holds) G.good (λ x i. a x ((G.exactly x).0 i)) k G.more.written)

  pub write_root_ok :
      (k l : ℕ) (n : Node) (o : List Node) → n.level ≡ l → Made t e P l n.datoms n.children o₀ o → length n.datoms ≤ k →
      Goes (Rooted t e P o₀) (write_root e k n o)
  unfolding write_root is_over
  write_root_ok zero l n o q M b = root_of_ok l n o n.children q refl M.grown (omega arith)
  write_root_ok (suc k) l n o q M b =
      side (ltb e.cap (length n.datoms)) refl (λ m o₁. write_root_ok k (suc l) m o₁)
    where
      G : Grown t e P (page l n.datoms n.children) o₀ o
      G = M.grown

      side :
          (v : Bool) → ltb e.cap (length n.datoms) ≡ v →
          ((m : Node) (o₁ : List Node) → m.level ≡ suc l → Made t e P (suc l) m.datoms m.children o₀ o₁ → length m.datoms ≤ k →
          Goes (Rooted t e P o₀) (write_root e k m o₁)) →
          Goes (Rooted t e P o₀) (write_root e (suc k) n o)
      side false v ih = rw (v, write_root) (root_of_ok l n o n.children q refl M.grown (ltb-false e.cap (length n.datoms) v))
      side true v ih =
          rw (v, write_root)
          (goes_then (split e n o) _
          (split_ok t e E l n G.tree o q G.holds M.full G.good (λ x i. a x ((G.exactly x).0 i)) v G.more.written)
          λ m o₁ p. ih m o₁ p.0 (record { grown = regrown G.exactly G.more p.1.grown; full = p.1.full }) (omega (arith, p.2)))

module _ (t : DatomOrd) (e : Env) (E : EnvOk e) where
  pub insert_tree_ok :
      (l : ℕ) (root : PageId) (ds : List Datom) (tr : Tree) → Stored e.fetch l root tr → Good e.cmp tr → Rising e.cmp ds →
      Apart e.cmp ds tr →
      ((x : Datom) → InTree x tr ⊎ In x ds → Storable t x) → Goes (Rooted t e (λ x. InTree x tr ⊎ In x ds) []) (insert_tree e l root ds [])
  unfolding insert_tree
  insert_tree_ok l root ds tr s g r a b =
      goes_then (insert_into e l root ds []) _ (insert_into_ok t e E l root ds [] tr s g r a b (none_written t e))
      λ n o p. write_root_ok t e E (λ x. InTree x tr ⊎ In x ds) b [] (length n.datoms) (suc l) n o p.0 p.1 (omega arith)
