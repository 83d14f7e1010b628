-- The middle layer: trees with no page number in them, what stands in one, and when one is good. Over any order.
use Prim.Native.Nat.{ℕ, zero, suc, Ordering}
use Rattle.std.specs.Prelude.{Bool, true, false, List, [], ◌∷◌, ◌++◌, ◌⊎◌, ◌↔◌, ◌≡◌, refl}
use Rattle.std.proofs.Common.{inl, inr, ap}
use Rattle.datom.specs.declared.Datom.{Datom}
use Rattle.rules.specs.Lists.{In, in_append, Rising}
use Rattle.history.specs.Order.{clash, not_both}

-- no page; or a page with all that is below it, from left to right: each datom with the child before it, then the last child
pub data Tree : Type 0 where
  blank : Tree
  last : Tree → Tree
  item : Tree → Datom → Tree → Tree

-- x stands somewhere in the tree
abbrev pub InTree : Datom → Tree → Type 0
InTree x blank = ⊥
InTree x (last t) = InTree x t
InTree x (item t d r) = InTree x t ⊎ ((x ≡ d) ⊎ InTree x r)

-- the datoms of the page itself
abbrev pub own : Tree → List Datom
own blank = []
own (last t) = []
own (item t d r) = d ∷ own r

-- a page, so a datom behind it is a midpoint
abbrev pub Real : Tree → Type 0
Real blank = ⊥
Real (last t) = Unit {0}
Real (item t d r) = Unit {0}

-- the test for no page
abbrev pub is_blank : Tree → Bool
is_blank blank = true
is_blank (last t) = false
is_blank (item t d r) = false

pub real_flag : (t : Tree) → Real t → is_blank t ≡ false
real_flag blank u = absurd u
real_flag (last t) u = refl
real_flag (item t d r) u = refl

pub flag_real : (t : Tree) → is_blank t ≡ false → Real t
flag_real blank e = clash e refl
flag_real (last t) e = tt
flag_real (item t d r) e = tt

-- what level l asks of a last child: "above, the last child real"
abbrev pub Ends : ℕ → Tree → Type 0
Ends zero t = Unit {0}
Ends (suc l) t = Real t

-- a page of level l that may be cut behind any child
abbrev pub Full : ℕ → Tree → Type 0
Full l blank = ⊥
Full l (last t) = Ends l t
Full l (item t d r) = Ends l t × Full l r

-- how a datom stands between the child before it and the rest of its page: above the child, below the later datoms of the page and
-- equal to nothing in the rest; a midpoint is below all of the rest
pub record Between (cmp : Datom → Datom → Ordering) (t : Tree) (d : Datom) (r : Tree) : Type 0 where
  pub left : (x : Datom) → InTree x t → cmp x d ≡ Ordering.lt
  pub next : (x : Datom) → In x (own r) → cmp d x ≡ Ordering.lt
  pub apart : (x : Datom) → InTree x r → cmp d x ≡ Ordering.eq → ⊥
  pub right : Real t → (x : Datom) → InTree x r → cmp d x ≡ Ordering.lt

-- the invariant
abbrev pub Good : (Datom → Datom → Ordering) → Tree → Type 0
Good cmp blank = Unit {0}
Good cmp (last t) = Good cmp t
Good cmp (item t d r) = Between cmp t d r × Good cmp t × Good cmp r

pub own_in : (x : Datom) (t : Tree) → In x (own t) → InTree x t
own_in x blank i = i
own_in x (last t) i = absurd i
own_in x (item t d r) (inl i) = inr (inl i)
own_in x (item t d r) (inr i) = inr (inr (own_in x r i))

pub own_rising : (cmp : Datom → Datom → Ordering) (t : Tree) → Good cmp t → Rising cmp (own t)
own_rising cmp blank g = tt
own_rising cmp (last t) g = tt
own_rising cmp (item t d r) g = (g.0.next, own_rising cmp r g.2)

-- the tree holds exactly the datoms of P
abbrev pub Exactly : (Datom → Type 0) → Tree → Type 0
Exactly P t = (x : Datom) → InTree x t ↔ P x

-- contents behind an item, and behind a pending datom
pub item_in :
    {Q : Type 0} (t : Tree) (d : Datom) (r r₁ : Tree) (x : Datom) → InTree x r ↔ (InTree x r₁ ⊎ Q) →
    InTree x (item t d r) ↔ (InTree x (item t d r₁) ⊎ Q)
item_in t d r r₁ x e = (
  λ i. elim i [
    | inl j ↦ inl (inl j)
    | inr j ↦ elim j [ inl k ↦ inl (inr (inl k)) | inr k ↦ elim (e.0 k) [ inl q ↦ inl (inr (inr q)) | inr q ↦ inr q ] ]
  ],
  λ i. elim i [
    | inl j ↦ elim j [ inl k ↦ inl k | inr k ↦ inr (elim k [ inl q ↦ inl q | inr q ↦ inr (e.1 (inl q)) ]) ]
    | inr j ↦ inr (inr (e.1 (inr j)))
  ],
)

pub item_same : (t : Tree) (d : Datom) (r r₁ : Tree) (x : Datom) → InTree x r ↔ InTree x r₁ → InTree x (item t d r) ↔ InTree x (item t d r₁)
item_same t d r r₁ x e = (
  λ i. elim i [ inl j ↦ inl j | inr j ↦ inr (elim j [ inl k ↦ inl k | inr k ↦ inr (e.0 k) ]) ],
  λ i. elim i [ inl j ↦ inl j | inr j ↦ inr (elim j [ inl k ↦ inl k | inr k ↦ inr (e.1 k) ]) ],
)

pub pend_in : {P Q : Type 0} (d : Datom) (r : Tree) (x : Datom) → InTree x r ↔ (P ⊎ Q) → InTree x (item blank d r) ↔ (P ⊎ ((x ≡ d) ⊎ Q))
pend_in d r x e = (
  λ i. elim i [
    | inl j ↦ absurd j
    | inr j ↦ elim j [ inl k ↦ inr (inl k) | inr k ↦ elim (e.0 k) [ inl q ↦ inl q | inr q ↦ inr (inr q) ] ]
  ],
  λ i. inr (elim i [ inl j ↦ inr (e.1 (inl j)) | inr j ↦ elim j [ inl k ↦ inl k | inr k ↦ inr (e.1 (inr k)) ] ]),
)

-- no datom of the list is equal to one of the tree
abbrev pub Apart : (Datom → Datom → Ordering) → List Datom → Tree → Type 0
Apart cmp ds t = (x y : Datom) → In x ds → InTree y t → cmp x y ≡ Ordering.eq → ⊥

-- datoms pending in front of a tree
abbrev pub pending : List Datom → Tree → Tree
pending [] t = t
pending (d ∷ ds) t = item blank d (pending ds t)

pub pending_in : (ds : List Datom) (t : Tree) → Exactly (λ x. InTree x t ⊎ In x ds) (pending ds t)
pending_in [] t x = (inl, λ i. elim i [ inl j ↦ j | inr j ↦ absurd j ])
pending_in (d ∷ ds) t x = pend_in d (pending ds t) x (pending_in ds t x)

pub pending_own : (ds : List Datom) (t : Tree) → own (pending ds t) ≡ ds ++ own t
pending_own [] t = refl
pending_own (d ∷ ds) t = ap (d ∷◌) (pending_own ds t)

module _ (cmp : Datom → Datom → Ordering) where
  -- a datom without a child before it
  pub alone :
      {d : Datom} {r : Tree} → ((x : Datom) → In x (own r) → cmp d x ≡ Ordering.lt) →
      ((x : Datom) → InTree x r → cmp d x ≡ Ordering.eq → ⊥) →
      Between cmp blank d r
  alone n a = record { left = λ x i. absurd i; next = n; apart = a; right = λ u. absurd u }

  -- a datom below all that is behind it
  pub midpoint :
      {t : Tree} {d : Datom} {r : Tree} → ((x : Datom) → InTree x t → cmp x d ≡ Ordering.lt) →
      ((x : Datom) → InTree x r → cmp d x ≡ Ordering.lt) →
      Between cmp t d r
  midpoint {r} a b = record { left = a; next = λ x i. b x (own_in x r i); apart = λ x i. not_both cmp (b x i); right = λ u. b }

  pub pending_good :
      (ds : List Datom) (t : Tree) → Good cmp t → Rising cmp ds → Apart cmp ds t →
      ((x y : Datom) → In x ds → In y (own t) → cmp x y ≡ Ordering.lt) → Good cmp (pending ds t)
  pending_good [] t g r a b = g
  pending_good (d ∷ ds) t g r a b = (
    alone
        (λ x i. elim (in_append x ds (own t) (rw (pending_own ds t) at i)) [ inl j ↦ r.0 x j | inr j ↦ b d x (inl refl) j ])
        (λ x i q. elim ((pending_in ds t x).0 i) [ inl j ↦ a d x (inl refl) j q | inr j ↦ not_both cmp (r.0 x j) q ]),
    tt,
    pending_good ds t g r.1 (λ x y i. a x y (inr i)) (λ x y i. b x y (inr i)),
  )
