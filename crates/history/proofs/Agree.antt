-- One order in the place of another that it agrees with: what is said of datoms that the other may store or take as a bound stays true.
-- So the heap may grow between two calls. Rests on Calls.
use Rattle.std.specs.Prelude.{ℕ, ◌≡◌}
use Rattle.std.proofs.Math.Bool.{true, ◌&&◌}
use mathlib.Core.List.{List, [], ◌∷◌}
use Rattle.std.proofs.Common.{inl, inr, sym, ◌∙◌, ap}
use Rattle.std.proofs.Math.Path.{refl, ap₂}
use borrow.Author.Tests.{le-leb, lt-ltb}
use Rattle.store.specs.declared.PageId.{PageId}
use Rattle.store.specs.declared.Extent.{Extent}
use Rattle.store.specs.Size.{capacity}
use Rattle.datom.specs.declared.Datom.{Datom}
use Rattle.index.specs.Order.{DatomOrd, is_less}
use Rattle.index.proofs.Agree.{Agrees}
use Rattle.rules.specs.Page.{Node, good, all, above, rising, node_rules, read_page}
use Rattle.rules.specs.Store.{page_at, fetch_page}
use Rattle.rules.specs.Insert.{place, sort, batch_of}
use Rattle.rules.specs.Lists.{In, Rising, all_in, all_of}
use Rattle.rules.proofs.ReadLaws.{Readable, fetch_tells}
use Rattle.history.specs.Statement.{Known, gathered, WellFormed}
use Rattle.history.specs.Tree.{Tree, blank, last, item, InTree, Good, own_in}
use Rattle.history.specs.Pages.{Extends, holds_extends}
use Rattle.history.specs.Held.{Storable}
use Rattle.history.specs.Sort.{Distinct, within, sort_in}
use Rattle.history.proofs.Calls.{RootIs}

-- a root as the pages hold it: a good tree of exactly the datoms that led to it, no two of them equal
pub record KnownOk (t : DatomOrd) (x : Extent) (s : List ℕ) (k : Known) : Type 0 where
  pub distinct : Distinct t.cmp (gathered k.batches)
  pub stored : (y : Datom) → In y (gathered k.batches) → Storable t y
  pub root : RootIs t x s k.root (gathered k.batches)

-- datoms that the first order may store
abbrev pub AllStored : DatomOrd → List Datom → Type 0
AllStored t ds = (d : Datom) → In d ds → t.stored d ≡ true

module _ (t u : DatomOrd) (A : Agrees t u) where
  same : (a b : Datom) → t.stored a ≡ true → t.stored b ≡ true → u.cmp a b ≡ t.cmp a b
  same a b p q = A.cmp a b (A.may a p) (A.may b q)

  above_agrees : (d : Datom) (ds : List Datom) → t.stored d ≡ true → AllStored t ds → above u.cmp d ds ≡ above t.cmp d ds
  unfolding above
  above_agrees d [] p f = refl
  above_agrees d (x ∷ xs) p f =
      let q = f x (inl refl) in
      ap₂ ◌&&◌ (ap is_less (same d x p q)) (above_agrees x xs q (λ y i. f y (inr i)))

  rising_agrees : (ds : List Datom) → AllStored t ds → rising u.cmp ds ≡ rising t.cmp ds
  unfolding rising
  rising_agrees [] f = refl
  rising_agrees (d ∷ ds) f = above_agrees d ds (f d (inl refl)) (λ y i. f y (inr i))

  -- a page that could be read still can
  read_agrees : (c : ℕ) (id : PageId) (s : List ℕ) (n : Node) → Readable t c id s n → read_page u c id s ≡ good n
  unfolding read_page node_rules
  read_agrees c id s n R =
      let f : AllStored t n.datoms = all_in t.stored n.datoms R.form in
      let form : all u.stored n.datoms ≡ true = all_of u.stored n.datoms (λ d i. A.stored d (f d i)) in
      rw (le-leb _ _ R.low, le-leb _ _ R.few, R.node, form, rising_agrees n.datoms f, R.rise) R.kids

  pub fetch_agrees : (x : Extent) (s : List ℕ) → Extends (fetch_page t x s) (fetch_page u x s)
  unfolding fetch_page
  fetch_agrees x s p n e =
      let w = fetch_tells t x s p n e in
      rw (lt-ltb p.0 x.count w.0, read_agrees (capacity x.size) p (page_at x s p) n w.1)

  -- a good tree is good
  pub good_agrees : (tr : Tree) → ((d : Datom) → InTree d tr → t.stored d ≡ true) → Good t.cmp tr → Good u.cmp tr
  good_agrees blank f g = tt
  good_agrees (last tr) f g = good_agrees tr f g
  good_agrees (item tr d r) f g =
      let B = g.0 in
      let p : t.stored d ≡ true = f d (inr (inl refl)) in
      let left : (y : Datom) → InTree y tr → t.stored y ≡ true = λ y i. f y (inl i) in
      let rest : (y : Datom) → InTree y r → t.stored y ≡ true = λ y i. f y (inr (inr i)) in (
        record {
          left = λ y i. same y d (left y i) p ∙ B.left y i;
          next = λ y i. same d y p (rest y (own_in y r i)) ∙ B.next y i;
          apart = λ y i e. B.apart y i (sym (same d y p (rest y i)) ∙ e);
          right = λ k y i. same d y p (rest y i) ∙ B.right k y i;
        },
        good_agrees tr left g.1,
        good_agrees r rest g.2,
      )

  distinct_agrees : (ds : List Datom) → AllStored t ds → Distinct t.cmp ds → Distinct u.cmp ds
  distinct_agrees [] f d = tt
  distinct_agrees (x ∷ xs) f d =
      (λ y i e. d.0 y i (sym (same x y (f x (inl refl)) (f y (inr i))) ∙ e), distinct_agrees xs (λ y i. f y (inr i)) d.1)

  -- a batch is sorted in the same way, and the same of it lies between two bounds
  place_agrees : (d : Datom) (ds : List Datom) → t.stored d ≡ true → AllStored t ds → place u.cmp d ds ≡ place t.cmp d ds
  unfolding place
  place_agrees d [] p f = refl
  place_agrees d (x ∷ xs) p f =
      rw (same x d (f x (inl refl)) p, place_agrees d xs p (λ y i. f y (inr i)))

  pub sort_agrees : (ds : List Datom) → AllStored t ds → sort u.cmp ds ≡ sort t.cmp ds
  unfolding sort
  sort_agrees [] f = refl
  sort_agrees (d ∷ ds) f =
      let rest : AllStored t ds = λ y i. f y (inr i) in
      rw (sort_agrees ds rest) (place_agrees d (sort t.cmp ds) (f d (inl refl)) (λ y i. rest y ((sort_in t.cmp ds y).0 i)))

  pub within_agrees :
      (lo hi : Datom) → t.bound lo ≡ true → t.bound hi ≡ true → (ds : List Datom) → AllStored t ds →
      within u.cmp lo hi ds ≡ within t.cmp lo hi ds
  unfolding within
  within_agrees lo hi a b [] f = refl
  within_agrees lo hi a b (d ∷ ds) f =
      let p = A.may d (f d (inl refl)) in
      rw (A.cmp d lo p a, A.cmp d hi p b, within_agrees lo hi a b ds (λ y i. f y (inr i)))

  -- a well-formed batch stays so
  pub ascends_agrees : (ds : List Datom) → AllStored t ds → Rising t.cmp ds → Rising u.cmp ds
  ascends_agrees [] f r = tt
  ascends_agrees (x ∷ xs) f r =
      (λ y i. same x y (f x (inl refl)) (f y (inr i)) ∙ r.0 y i, ascends_agrees xs (λ y i. f y (inr i)) r.1)

  pub formed_agrees : (b : List ℕ) → WellFormed t b → WellFormed u b
  formed_agrees b w =
      record {
        multiple = w.multiple;
        few = w.few;
        formed = λ d i. A.formed d (w.formed d i);
        form = λ d i. A.stored d (w.form d i);
        order = ascends_agrees (batch_of b) w.form w.order;
      }

  -- a root that is known stays so
  pub known_agrees : {x : Extent} {s : List ℕ} {k : Known} → KnownOk t x s k → KnownOk u x s k
  known_agrees {x} {s} {k} K =
      let R = K.root in
      let f : AllStored t (gathered k.batches) = λ y i. (K.stored y i).form in
      record {
        distinct = distinct_agrees (gathered k.batches) f K.distinct;
        stored = λ y i. record { form = A.stored y (f y i); words = (K.stored y i).words };
        root = record {
          level = R.level;
          tree = R.tree;
          holds = holds_extends (fetch_agrees x s) R.holds;
          good = good_agrees R.tree (λ y i. f y ((R.exactly y).0 i)) R.good;
          exactly = R.exactly;
        };
      }
