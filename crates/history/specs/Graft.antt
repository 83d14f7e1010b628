-- Trees put together: items in front of a tree, and a page whose last child has more behind it. Rests on Tree.
use Prim.Native.Nat.{ℕ, suc, Ordering}
use Rattle.std.specs.Prelude.{Bool, true, false, List, [], ◌∷◌, ◌⊎◌, ◌≡◌, refl}
use Rattle.std.proofs.Common.{inl, inr}
use mathlib.Core.Logic.Iff as Iff
use Rattle.datom.specs.declared.Datom.{Datom}
use Rattle.index.proofs.Laws.{Preorder}
use Rattle.rules.specs.Lists.{In, in_left, in_right, Rising}
use Rattle.history.specs.Order.{clash}
use Rattle.history.specs.Tree.{Tree, blank, last, item, InTree, own, Real, is_blank, flag_real, Full, Good, own_in, Exactly, item_in, item_same, Apart, pending, pending_in, pending_own, midpoint}

-- items in front of a tree: each a child and the datom behind it
abbrev pub prepend : List (Tree × Datom) → Tree → Tree
prepend [] t = t
prepend (k ∷ ks) t = item k.0 k.1 (prepend ks t)

-- what stands behind a child
pub data Tail : Type 0 where
  nothing : Tail
  then : Datom → Tree → Tail

abbrev pub InTail : Datom → Tail → Type 0
InTail x nothing = ⊥
InTail x (then d r) = (x ≡ d) ⊎ InTree x r

abbrev pub Above : (Datom → Datom → Ordering) → Tail → Datom → Type 0
Above cmp nothing x = Unit {0}
Above cmp (then d r) x = cmp x d ≡ Ordering.lt

abbrev pub GoodTail : (Datom → Datom → Ordering) → Tail → Type 0
GoodTail cmp nothing = Unit {0}
GoodTail cmp (then d r) = ((x : Datom) → InTree x r → cmp d x ≡ Ordering.lt) × Good cmp r

-- a child with its tail, and a page whose last child has it
abbrev pub join : Tree → Tail → Tree
join t nothing = last t
join t (then d r) = item t d r

abbrev pub graft : Tree → Tail → Tree
graft blank q = blank
graft (last t) q = join t q
graft (item t d r) q = item t d (graft r q)

pub join_in : (t : Tree) (q : Tail) → Exactly (λ x. InTree x t ⊎ InTail x q) (join t q)
join_in t nothing x = (inl, λ i. elim i [ inl j ↦ j | inr j ↦ absurd j ])
join_in t (then d r) x = Iff.rfl

pub graft_in : (l : ℕ) (t : Tree) (q : Tail) → Full l t → Exactly (λ x. InTree x t ⊎ InTail x q) (graft t q)
graft_in l blank q u x = absurd u
graft_in l (last t) q u x = join_in t q x
graft_in l (item t d r) q u x = item_in t d (graft r q) r x (graft_in l r q u.1 x)

pub prepend_in :
    (t t₁ : Tree) (ks : List (Tree × Datom)) → Exactly (λ x. InTree x t) t₁ → Exactly (λ x. InTree x (prepend ks t)) (prepend ks t₁)
prepend_in t t₁ [] e x = e x
prepend_in t t₁ (k ∷ ks) e x = item_same k.0 k.1 (prepend ks t₁) (prepend ks t) x (prepend_in t t₁ ks e x)

pub prepend_has : (ks : List (Tree × Datom)) (t : Tree) (x : Datom) → InTree x t → InTree x (prepend ks t)
prepend_has [] t x i = i
prepend_has (k ∷ ks) t x i = inr (inr (prepend_has ks t x i))

pub prepend_rest : (cmp : Datom → Datom → Ordering) (ks : List (Tree × Datom)) (t : Tree) → Good cmp (prepend ks t) → Good cmp t
prepend_rest cmp [] t g = g
prepend_rest cmp (k ∷ ks) t g = prepend_rest cmp ks t g.2

-- no pending datom right before what follows
abbrev pub ClosedItems : Bool → List (Tree × Datom) → Type 0
ClosedItems v [] = v ≡ false
ClosedItems v (k ∷ ks) = ClosedItems (is_blank k.0) ks

module _ (cmp : Datom → Datom → Ordering) (L : Preorder cmp) where
  above_tail : (a : Datom) (q : Tail) → GoodTail cmp q → Above cmp q a → (x : Datom) → InTail x q → cmp a x ≡ Ordering.lt
  above_tail a nothing g b x i = absurd i
  above_tail a (then d r) g b x (inl i) = rw i b
  above_tail a (then d r) g b x (inr i) = L.trans a d x b (g.0 x i)

  pub graft_good :
      (l : ℕ) (t : Tree) (q : Tail) → Full (suc l) t → Good cmp t → GoodTail cmp q → ((x : Datom) → InTree x t → Above cmp q x) →
      Good cmp (graft t q)
  graft_good l blank q u g k b = absurd u
  graft_good l (last t) nothing u g k b = g
  graft_good l (last t) (then d r) u g k b = (midpoint cmp b k.0, g, k.1)
  graft_good l (item t d r) q u g k b = (
    midpoint cmp g.0.left
        (λ x i. elim ((graft_in (suc l) r q u.1 x).0 i) [ inl j ↦ g.0.right u.0 x j | inr j ↦ above_tail d q k (b d (inr (inl refl))) x j ]),
    g.1,
    graft_good l r q u.1 g.2 k (λ x i. b x (inr (inr i))),
  )

  -- what a run, its child and their tail are known to be
  pub record Around (b : List Datom) (t : Tree) (q : Tail) : Type 0 where
    pub good : Good cmp t
    pub good_tail : GoodTail cmp q
    pub rising : Rising cmp b
    pub apart : Apart cmp b t
    pub before : (x : Datom) → InTree x t ⊎ In x b → Above cmp q x

  join_around : (t : Tree) (q : Tail) → Real t → Good cmp (join t q) → Around [] t q
  join_around t nothing u g =
      record { good = g; good_tail = tt; rising = tt; apart = λ x y i j e. i; before = λ x i. tt }
  join_around t (then d r) u g =
      record {
        good = g.1;
        good_tail = (g.0.right u, g.2);
        rising = tt;
        apart = λ x y i j e. i;
        before = λ x i. elim i [ inl j ↦ g.0.left x j | inr j ↦ absurd j ];
      }

  above_own : (d : Datom) (t : Tree) (q : Tail) → ((x : Datom) → In x (own (join t q)) → cmp d x ≡ Ordering.lt) → Above cmp q d
  above_own d t nothing a = tt
  above_own d t (then e r) a = a e (inl refl)

  pub run_around : (b : List Datom) (t : Tree) (q : Tail) → Real t → Good cmp (pending b (join t q)) → Around b t q
  run_around [] t q u g = join_around t q u g
  run_around (d ∷ b) t q u g = more (run_around b t q u g.2)
    where
      more : Around b t q → Around (d ∷ b) t q
      more w =
          record {
            good = w.good;
            good_tail = w.good_tail;
            rising = (λ x i. g.0.next x (rw (pending_own b (join t q)) (in_left x b (own (join t q)) i)), w.rising);
            apart = λ x y i j e. elim i [
              | inl z ↦ g.0.apart y ((pending_in b (join t q) y).1 (inl ((join_in t q y).1 (inl j)))) (rw z at e)
              | inr z ↦ w.apart x y z j e
            ];
            before = λ x i. elim i [
              | inl j ↦ w.before x (inl j)
              | inr j ↦ elim j [
                | inl z ↦ rw z (above_own d t q λ y v. g.0.next y (rw (pending_own b (join t q)) (in_right y b (own (join t q)) v)))
                | inr z ↦ w.before x (inr z)
              ]
            ];
          }

  -- the same contents behind items: the last of these is a midpoint
  module _ (t t₁ : Tree) (same : Exactly (λ x. InTree x t) t₁) where
    prepend_next :
        (ks : List (Tree × Datom)) → ClosedItems true ks → Good cmp (prepend ks t) → (y : Datom) →
        ((x : Datom) → In x (own (prepend ks t)) → cmp y x ≡ Ordering.lt) → (x : Datom) → In x (own (prepend ks t₁)) → cmp y x ≡ Ordering.lt
    prepend_next [] u g y a x i = absurd (clash u refl)
    prepend_next (k ∷ ks) u g y a x (inl i) = a x (inl i)
    prepend_next (k ∷ ks) u g y a x (inr i) =
        side (is_blank k.0) refl λ z. prepend_next ks z g.2 y (λ w j. a w (inr j)) x i
      where
        side : (v : Bool) → is_blank k.0 ≡ v → (ClosedItems true ks → cmp y x ≡ Ordering.lt) → cmp y x ≡ Ordering.lt
        side true e ih = ih (rw e at u)
        side false e ih =
            L.trans y k.1 x (a k.1 (inl refl))
            (g.0.right (flag_real k.0 e) x ((prepend_in t t₁ ks same x).0 (own_in x (prepend ks t₁) i)))

    pub prepend_good :
        (v : Bool) (ks : List (Tree × Datom)) → ClosedItems v ks → Good cmp (prepend ks t) → Good cmp t₁ → Good cmp (prepend ks t₁)
    prepend_good v [] u g w = w
    prepend_good v (k ∷ ks) u g w = (
      record {
        left = g.0.left;
        next = side (is_blank k.0) refl;
        apart = λ x i. g.0.apart x ((prepend_in t t₁ ks same x).0 i);
        right = λ z x i. g.0.right z x ((prepend_in t t₁ ks same x).0 i);
      },
      g.1,
      prepend_good (is_blank k.0) ks u g.2 w,
    )
      where
        side : (b : Bool) → is_blank k.0 ≡ b → (x : Datom) → In x (own (prepend ks t₁)) → cmp k.1 x ≡ Ordering.lt
        side true e = prepend_next ks (rw e at u) g.2 k.1 g.0.next
        side false e = λ x i. g.0.right (flag_real k.0 e) x ((prepend_in t t₁ ks same x).0 (own_in x (prepend ks t₁) i))
