-- Flush: a run of pending datoms and the child that ends it, replaced by what an insert into that child gives. "An insert reads only
-- pages below the old count": a child behind a pending datom is held by the old pages, any other by the old and the new.
-- Rests on Pages, Graft and Span.
use Prim.Native.Nat.{ℕ, suc, ◌≤◌, ◌<◌, zero-le, suc-le-suc, Ordering}
use Rattle.std.proofs.Common.{arith, inl, inr, ap}
use Rattle.std.specs.Prelude.{Bool, List, [], ◌∷◌, ◌++◌, ◌⊎◌, ◌≡◌}
use Rattle.std.proofs.Math.Bool.{true, false}
use Rattle.std.proofs.Math.Path.{refl}
use Rattle.std.proofs.Math.ListN.{length}
use Rattle.store.specs.declared.PageId.{PageId}
use Rattle.store.specs.Page.{is_none}
use Rattle.datom.specs.declared.Datom.{Datom}
use Rattle.index.proofs.Laws.{Preorder}
use Rattle.rules.specs.Node.{any_pending}
use Rattle.rules.specs.Tree.{Fetched}
use Rattle.rules.specs.Lists.{In, Rising}
use Rattle.rules.proofs.Spans.{pendings, pendings_append, Closed}
use Rattle.history.specs.Order.{clash}
use Rattle.history.specs.Tree.{Tree, blank, last, item, InTree, Real, is_blank, real_flag, Full, Good, Exactly, Apart, pending, pending_in}
use Rattle.history.specs.Graft.{prepend, Tail, nothing, then, join, graft, graft_in, join_in, prepend_in, prepend_has, prepend_rest, ClosedItems, Around, graft_good, run_around, prepend_good}
use Rattle.history.specs.Pages.{page, child, Holds, no_page, a_page, h_last, h_item, Stored, Extends, holds_extends, child_real, child_blank, child_flag, child_page}
use Rattle.history.specs.Span.{Nones}

-- the old pages, or the old and the new
abbrev pub choose : Bool → (PageId → Fetched) → (PageId → Fetched) → (PageId → Fetched)
choose true f g = f
choose false f g = g

choose_old : {f g : PageId → Fetched} (v : Bool) → Extends f g → Extends f (choose v f g)
choose_old true x p n q = q
choose_old false x p n q = x p n q

choose_new : {f g : PageId → Fetched} (v : Bool) → Extends f g → Extends (choose v f g) g
choose_new true x p n q = x p n q
choose_new false x p n q = q

choose_grow : (f : PageId → Fetched) {g g₁ : PageId → Fetched} (v : Bool) → Extends g g₁ → Extends (choose v f g) (choose v f g₁)
choose_grow f true x p n q = q
choose_grow f false x p n q = x p n q

-- datoms and children of a node above level 0; the flag tells whether the datom before them is pending
pub data Row (f g : PageId → Fetched) (l : ℕ) : Bool → List Datom → List PageId → Tree → Type 0 where
  r_last : {v : Bool} {c : PageId} {t : Tree} → Holds (choose v f g) (child (suc l) c) t → Real t → Row f g l v [] (c ∷ []) (last t)
  r_item :
      {v : Bool} {c : PageId} {t : Tree} {ds : List Datom} {cs : List PageId} {r : Tree} (d : Datom) →
      Holds (choose v f g) (child (suc l) c) t →
      Row f g l (is_blank t) ds cs r → Row f g l v (d ∷ ds) (c ∷ cs) (item t d r)

module _ {f : PageId → Fetched} {l : ℕ} where
  pub row_of :
      {g : PageId → Fetched} {ds : List Datom} {cs : List PageId} {t : Tree} (v : Bool) → Extends f g → Holds f (page (suc l) ds cs) t →
      Row f g l v ds cs t
  row_of v x (h_last k e) = r_last (holds_extends (choose_old v x) k) e
  row_of v x (h_item {t} d k h) = r_item d (holds_extends (choose_old v x) k) (row_of (is_blank t) x h)

  pub row_holds :
      {g : PageId → Fetched} {v : Bool} {ds : List Datom} {cs : List PageId} {t : Tree} → Extends f g → Row f g l v ds cs t →
      Holds g (page (suc l) ds cs) t
  row_holds x (r_last {v} k e) = h_last (holds_extends (choose_new v x) k) e
  row_holds x (r_item {v} d k h) = h_item d (holds_extends (choose_new v x) k) (row_holds x h)

  row_grow :
      {g g₁ : PageId → Fetched} {v : Bool} {ds : List Datom} {cs : List PageId} {t : Tree} → Extends g g₁ → Row f g l v ds cs t →
      Row f g₁ l v ds cs t
  row_grow x (r_last {v} k e) = r_last (holds_extends (choose_grow f v x) k) e
  row_grow x (r_item {v} d k h) = r_item d (holds_extends (choose_grow f v x) k) (row_grow x h)

  -- behind a real child
  row_behind :
      {g : PageId → Fetched} {ds : List Datom} {cs : List PageId} {r : Tree} (t : Tree) → Real t → Row f g l false ds cs r →
      Row f g l (is_blank t) ds cs r
  row_behind t u h = rw (real_flag t u) h

module _ {f g : PageId → Fetched} {l : ℕ} where
  pub row_pendings : {v : Bool} {ds : List Datom} {cs : List PageId} {t : Tree} → Row f g l v ds cs t → pendings cs ≤ length ds
  unfolding pendings
  row_pendings (r_last {c} k e) = side (is_none c) refl
    where
      side : (b : Bool) → is_none c ≡ b → pendings (c ∷ []) ≤ 0
      side true q = absurd (rw (child_blank k q) at e)
      side false q = rw (q, pendings) zero-le
  row_pendings (r_item {c} {ds} {cs} d k h) = side (is_none c) refl (row_pendings h)
    where
      side : (b : Bool) → is_none c ≡ b → pendings cs ≤ length ds → pendings (c ∷ cs) ≤ suc (length ds)
      side true q ih = rw (q, pendings) (suc-le-suc ih)
      side false q ih = rw (q, pendings) (omega arith)

  -- nothing pending
  pub row_full : {v : Bool} {ds : List Datom} {cs : List PageId} {t : Tree} → Row f g l v ds cs t → pendings cs ≡ 0 → Full (suc l) t
  unfolding pendings
  row_full (r_last k e) z = e
  row_full (r_item {c} {t} {cs} {r} d k h) z = side (is_none c) refl (row_full h)
    where
      side : (b : Bool) → is_none c ≡ b → (pendings cs ≡ 0 → Full (suc l) r) → Real t × Full (suc l) r
      side true q ih = let n : suc (pendings cs) ≡ 0 = rw (q, pendings) at z in absurd (omega arith)
      side false q ih = (child_real k q, ih (rw (q, pendings) at z))

module _ (f g : PageId → Fetched) (l : ℕ) where
  -- items at the front of a row
  data Front : Bool → List Datom → List PageId → List (Tree × Datom) → Bool → Type 0 where
    f_nil : {v : Bool} → Front v [] [] [] v
    f_item :
        {v w : Bool} {c : PageId} {k : Tree} {ds : List Datom} {cs : List PageId} {ks : List (Tree × Datom)} (d : Datom) →
        Holds (choose v f g) (child (suc l) c) k → Front (is_blank k) ds cs ks w → Front v (d ∷ ds) (c ∷ cs) ((k, d) ∷ ks) w

  data Fronted (v : Bool) (pD ds : List Datom) (pC cs : List PageId) : Tree → Type 0 where
    fronted :
        {w : Bool} {r : Tree} (ks : List (Tree × Datom)) → Front v pD pC ks w → Row f g l w ds cs r → Fronted v pD ds pC cs (prepend ks r)

  row_front :
      {v : Bool} {ds : List Datom} {cs : List PageId} {t : Tree} (pD : List Datom) (pC : List PageId) → length pC ≡ length pD →
      Row f g l v (pD ++ ds) (pC ++ cs) t → Fronted v pD ds pC cs t
  row_front [] [] n h = fronted [] f_nil h
  row_front [] (c ∷ pC) n h = absurd (omega arith)
  row_front (d ∷ pD) [] n h = absurd (omega arith)
  row_front {v} {ds} {cs} (d ∷ pD) (c ∷ pC) n (r_item {t} {r} _ k h) = more (row_front pD pC (omega arith) h)
    where
      more : {r : Tree} → Fronted (is_blank t) pD ds pC cs r → Fronted v (d ∷ pD) ds (c ∷ pC) cs (item t d r)
      more (fronted ks a b) = fronted ((t, d) ∷ ks) (f_item d k a) b

  front_closed :
      {v w : Bool} {ds : List Datom} {cs : List PageId} {ks : List (Tree × Datom)} → Front v ds cs ks w → Closed v cs →
      ClosedItems v ks × (w ≡ false)
  front_closed f_nil e = (e, e)
  front_closed (f_item d k h) e = front_closed h (rw (child_flag k) at e)

  -- the children behind a child
  data RowTail : List Datom → List PageId → Tail → Type 0 where
    t_stop : RowTail [] [] nothing
    t_go : {ds : List Datom} {cs : List PageId} {r : Tree} (d : Datom) → Row f g l false ds cs r → RowTail (d ∷ ds) cs (then d r)

  -- a run of pending datoms, the child that ends it, and its tail
  data Ran (b : List Datom) (c : PageId) (qD : List Datom) (qC : List PageId) : Tree → Type 0 where
    ran : {q : Tail} (t : Tree) → Stored f l c t → Real t → RowTail qD qC q → Ran b c qD qC (pending b (join t q))

  -- behind a pending datom, or with one in the run, the child is held by the old pages
  run_of :
      {qD : List Datom} {c : PageId} {qC : List PageId} {r : Tree} (v : Bool) (b : List Datom) (nC : List PageId) → length nC ≡ length b →
      Nones nC →
      is_none c ≡ false → (length nC ≡ 0 → v ≡ true) → Row f g l v (b ++ qD) (nC ++ (c ∷ qC)) r → Ran b c qD qC r
  run_of v [] (x ∷ nC) n a u z h = absurd (omega arith)
  run_of v (d ∷ b) [] n a u z h = absurd (omega arith)
  run_of false [] [] n a u z h = absurd (clash refl (z refl))
  run_of true [] [] n a u z (r_last {t} k e) = ran t (child_page k u) e t_stop
  run_of true [] [] n a u z (r_item {t} d k h) = ran t (child_page k u) (child_real k u) (t_go d (rw (real_flag t (child_real k u)) at h))
  run_of v (d ∷ b) (x ∷ nC) n a u z (r_item _ (a_page r q y) h) = absurd (clash r (a x (inl refl)))
  run_of {qD} {c} {qC} v (d ∷ b) (x ∷ nC) n a u z (r_item _ (no_page q) h) =
      more (run_of true b nC (omega arith) (λ y i. a y (inr i)) u (λ y. refl) h)
    where
      more : {r : Tree} → Ran b c qD qC r → Ran (d ∷ b) c qD qC (item blank d r)
      more (ran t k e w) = ran t k e w

module _ {f g g₁ : PageId → Fetched} {l : ℕ} (x : Extends g g₁) where
  front_row :
      {v w : Bool} {pD ds : List Datom} {pC cs : List PageId} {ks : List (Tree × Datom)} {r : Tree} → Front f g l v pD pC ks w →
      Row f g₁ l w ds cs r →
      Row f g₁ l v (pD ++ ds) (pC ++ cs) (prepend ks r)
  front_row f_nil h = h
  front_row (f_item {v} d k a) h = r_item d (holds_extends (choose_grow f v x) k) (front_row a h)

  row_graft :
      {mD qD : List Datom} {mC qC : List PageId} {t : Tree} {q : Tail} → Holds g₁ (page (suc l) mD mC) t → Full (suc l) t →
      RowTail f g l qD qC q →
      Row f g₁ l false (mD ++ qD) (mC ++ qC) (graft t q)
  row_graft (h_last k e) u t_stop = r_last k e
  row_graft (h_last {t} k e) u (t_go d h) = r_item d k (row_behind t e (row_grow x h))
  row_graft (h_item {t} d k h) u w = r_item d k (row_behind t u.0 (row_graft h u.1 w))

-- the row after a flush
pub record Rebuilt (cmp : Datom → Datom → Ordering) (f g : PageId → Fetched) (l : ℕ) (t : Tree) (ds : List Datom) (cs : List PageId) : Type 0 where
  pub tree : Tree
  pub row : Row f g l false ds cs tree
  pub good : Good cmp tree
  pub exactly : Exactly (λ x. InTree x t) tree

-- what a flush finds: the child that the run b goes into, and how the row goes on with what comes back
pub record Target
    (cmp : Datom → Datom → Ordering) (f g : PageId → Fetched) (l : ℕ) (t : Tree) (pD : List Datom) (pC : List PageId) (b : List Datom) (c : PageId)
    (qD : List Datom) (qC : List PageId)
    : Type 0 where
  pub kid : Tree
  pub stored : Stored f l c kid
  pub good : Good cmp kid
  pub rising : Rising cmp b
  pub apart : Apart cmp b kid
  pub inside : (x : Datom) → InTree x kid ⊎ In x b → InTree x t
  pub rebuild :
      {g₁ : PageId → Fetched} → Extends g g₁ → {mD : List Datom} {mC : List PageId} {t₁ : Tree} → Holds g₁ (page (suc l) mD mC) t₁ →
      Full (suc l) t₁ →
      Good cmp t₁ → Exactly (λ x. InTree x kid ⊎ In x b) t₁ → Rebuilt cmp f g₁ l t (pD ++ (mD ++ qD)) (pC ++ (mC ++ qC))

module _ (cmp : Datom → Datom → Ordering) (L : Preorder cmp) {f g : PageId → Fetched} {l : ℕ} where
  assemble :
      {pD qD : List Datom} {pC qC : List PageId} {c : PageId} {r : Tree} (ks : List (Tree × Datom)) (b : List Datom) →
      ClosedItems false ks →
      Front f g l false pD pC ks false → Ran f g l b c qD qC r → Good cmp (prepend ks r) → Target cmp f g l (prepend ks r) pD pC b c qD qC
  assemble ks b k a (ran {q} t h e w) g₀ =
      record {
        kid = t;
        stored = h;
        good = A.good;
        rising = A.rising;
        apart = A.apart;
        inside = λ x i. prepend_has ks (pending b (join t q)) x
            ((pending_in b (join t q) x).1 (elim i [ inl j ↦ inl ((join_in t q x).1 (inl j)) | inr j ↦ inr j ]));
        rebuild = λ y {mD} {mC} {t₁} m u gd ex. record {
          tree = prepend ks (graft t₁ q);
          row = front_row y a (row_graft y m u w);
          good = prepend_good cmp L (pending b (join t q)) (graft t₁ q) (same t₁ u ex) false ks k g₀
              (graft_good cmp L l t₁ q u gd A.good_tail (λ x i. A.before x ((ex x).0 i)));
          exactly = prepend_in (pending b (join t q)) (graft t₁ q) ks (same t₁ u ex);
        };
      }
    where
      A : Around cmp L b t q
      A = run_around cmp L b t q e (prepend_rest cmp ks (pending b (join t q)) g₀)

      same :
          (t₁ : Tree) → Full (suc l) t₁ → Exactly (λ x. InTree x t ⊎ In x b) t₁ →
          Exactly (λ x. InTree x (pending b (join t q))) (graft t₁ q)
      same t₁ u ex x = (
        λ i. (pending_in b (join t q) x).1 (elim ((graft_in (suc l) t₁ q u x).0 i) [
          | inl j ↦ elim ((ex x).0 j) [ inl v ↦ inl ((join_in t q x).1 (inl v)) | inr v ↦ inr v ]
          | inr j ↦ inl ((join_in t q x).1 (inr j))
        ]),
        λ i. (graft_in (suc l) t₁ q u x).1 (elim ((pending_in b (join t q) x).0 i) [
          | inl j ↦ elim ((join_in t q x).0 j) [ inl v ↦ inl ((ex x).1 (inl v)) | inr v ↦ inr v ]
          | inr j ↦ inl ((ex x).1 (inr j))
        ]),
      )

  pub target :
      {qD : List Datom} {c : PageId} {qC : List PageId} {t : Tree} (pD b : List Datom) (pC nC : List PageId) → length pC ≡ length pD →
      length nC ≡ length b → 0 < length nC → Nones nC → is_none c ≡ false → Closed false pC →
      Row f g l false (pD ++ (b ++ qD)) (pC ++ (nC ++ (c ∷ qC))) t → Good cmp t → Target cmp f g l t pD pC b c qD qC
  target {qD} {c} {qC} pD b pC nC n m z a u k h w = side (row_front f g l pD pC n h) w
    where
      side : {t : Tree} → Fronted f g l false pD (b ++ qD) pC (nC ++ (c ∷ qC)) t → Good cmp t → Target cmp f g l t pD pC b c qD qC
      side (fronted {w} {r} ks x y) v =
          let e = front_closed f g l x k in
          assemble ks b e.0 (rw e.1 at x) (run_of f g l false b nC m a u (λ q. absurd (omega arith)) (rw e.1 at y)) v

-- a flush leaves fewer pending datoms
pendings_nones : (r : List PageId) → Nones r → pendings r ≡ length r
unfolding pendings
pendings_nones [] a = refl
pendings_nones (c ∷ r) a = rw (a c (inl refl), pendings) (ap suc (pendings_nones r (λ x i. a x (inr i))))

full_pendings :
    {f : PageId → Fetched} {l : ℕ} {ds : List Datom} {cs : List PageId} {t : Tree} → Holds f (page (suc l) ds cs) t → Full (suc l) t →
    pendings cs ≡ 0
unfolding pendings
full_pendings (h_last (no_page n) e) u = absurd e
full_pendings (h_last (a_page r q h) e) u = rw (r, pendings)
full_pendings (h_item d (no_page n) h) u = absurd u.0
full_pendings (h_item d (a_page r q k) h) u = rw (r, pendings) (full_pendings h u.1)

pub pendings_fewer :
    {f : PageId → Fetched} {l : ℕ} {mD : List Datom} {mC : List PageId} {t : Tree} (p r : List PageId) (c : PageId) (q : List PageId) →
    Nones r →
    0 < length r → Holds f (page (suc l) mD mC) t → Full (suc l) t → pendings (p ++ (mC ++ q)) < pendings (p ++ (r ++ (c ∷ q)))
unfolding pendings
pendings_fewer {mC} p r c q a z h u =
    simp pendings_append (omega (arith, full_pendings h u, pendings_nones r a, pendings_append (c ∷ []) q))

pub none_pending : (cs : List PageId) → any_pending cs ≡ false → pendings cs ≡ 0
unfolding pendings any_pending
none_pending [] e = refl
none_pending (c ∷ cs) e = side (is_none c) refl (none_pending cs)
  where
    side : (v : Bool) → is_none c ≡ v → (any_pending cs ≡ false → pendings cs ≡ 0) → pendings (c ∷ cs) ≡ 0
    side true q ih = absurd (clash e (rw q))
    side false q ih = rw (q, pendings) (ih (rw q at e))
