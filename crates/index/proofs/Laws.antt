-- Every order is a total preorder: natural numbers, byte strings, contents; one after another; seen through a function. What compares
-- equal has equal content.
use Prim.Native.Nat.{ℕ, zero, suc, compare, Ordering}
use Rattle.std.specs.Prelude.{true, ◌⊎◌, ◌≡◌}
use mathlib.Core.List.{List, [], ◌∷◌}
use Rattle.std.proofs.Common.{inl, inr, sym, ◌∙◌, ap₂}
use Rattle.std.proofs.Math.Path.{refl, ap}
use Rattle.store.specs.Laws.{apart}
use Rattle.datom.specs.declared.Datom.{Datom}
use Rattle.datom.specs.declared.Value.{Value}
use Rattle.datom.specs.Value.{Content, int, str, top, content}
use Rattle.datom.specs.Datom.{bound_datom}
use Rattle.datom.specs.Content.{names, content_tells}
use Rattle.index.specs.declared.Index.{Index}
use Rattle.index.specs.declared.Index.TheVariants.{Eavt, Aevt, Avet}
use Rattle.index.specs.Order.{and_then, cmp_bytes, cmp_content, cmp_value, Part, the_entity, the_attribute, the_value, the_last, cmp_part, cmp_parts, parts_of, order_in}

-- the other way round
abbrev pub flipped : Ordering → Ordering
flipped Ordering.lt = Ordering.gt
flipped Ordering.eq = Ordering.eq
flipped Ordering.gt = Ordering.lt

-- the laws of a total preorder: what is equal in the order need not be the same
pub record Preorder {A : Type 0} (cmp : A → A → Ordering) : Type 0 where
  pub flip : (a b : A) → cmp b a ≡ flipped (cmp a b)
  pub trans : (a b c : A) → cmp a b ≡ Ordering.lt → cmp b c ≡ Ordering.lt → cmp a c ≡ Ordering.lt
  pub congr : (a b c : A) → cmp a b ≡ Ordering.eq → cmp a c ≡ cmp b c

num_flip : (m n : ℕ) → compare n m ≡ flipped (compare m n)
num_flip zero zero = rw Prim.Native.Nat.compare.zero-zero
num_flip zero (suc n) = rw (Prim.Native.Nat.compare.zero-suc, Prim.Native.Nat.compare.suc-zero)
num_flip (suc m) zero = rw (Prim.Native.Nat.compare.zero-suc, Prim.Native.Nat.compare.suc-zero)
num_flip (suc m) (suc n) = rw (Prim.Native.Nat.compare.suc-suc m n, Prim.Native.Nat.compare.suc-suc n m) (num_flip m n)

num_trans : (a b c : ℕ) → compare a b ≡ Ordering.lt → compare b c ≡ Ordering.lt → compare a c ≡ Ordering.lt
num_trans zero b zero p q =
    let k : compare b 0 ≡ flipped (compare 0 b) = num_flip 0 b in absurd (apart (cc))
num_trans zero b (suc c) p q = Prim.Native.Nat.compare.zero-suc c
num_trans (suc a) zero c p q = absurd (apart (cc (Prim.Native.Nat.compare.suc-zero a)))
num_trans (suc a) (suc b) zero p q = absurd (apart (cc (Prim.Native.Nat.compare.suc-zero b)))
num_trans (suc a) (suc b) (suc c) p q = rw Prim.Native.Nat.compare.suc-suc (num_trans a b c (rw Prim.Native.Nat.compare.suc-suc at p) (rw Prim.Native.Nat.compare.suc-suc at q))

num_eq : (a b : ℕ) → compare a b ≡ Ordering.eq → a ≡ b
num_eq zero zero p = refl
num_eq zero (suc b) p = absurd (apart (cc (Prim.Native.Nat.compare.zero-suc b)))
num_eq (suc a) zero p = absurd (apart (cc (Prim.Native.Nat.compare.suc-zero a)))
num_eq (suc a) (suc b) p = ap suc (num_eq a b (rw Prim.Native.Nat.compare.suc-suc at p))

num : Preorder compare
num = record { flip = num_flip; trans = num_trans; congr = λ a b c e. rw (num_eq a b e) }

-- seen through a function
through : {A B : Type 0} {cmp : B → B → Ordering} (g : A → B) → Preorder cmp → Preorder (λ a b. cmp (g a) (g b))
through g o = record { flip = λ a b. o.flip (g a) (g b); trans = λ a b c. o.trans (g a) (g b) (g c); congr = λ a b c. o.congr (g a) (g b) (g c) }

-- one after another
flip_then : (a b : Ordering) → flipped (and_then a b) ≡ and_then (flipped a) (flipped b)
unfolding and_then
flip_then Ordering.lt b = refl
flip_then Ordering.eq b = refl
flip_then Ordering.gt b = refl

then_eq : (a b : Ordering) → and_then a b ≡ Ordering.eq → (a ≡ Ordering.eq) × (b ≡ Ordering.eq)
unfolding and_then
then_eq Ordering.lt b e = (e, absurd (apart (cc)))
then_eq Ordering.eq b e = (refl, e)
then_eq Ordering.gt b e = (e, absurd (apart (cc)))

module _ {A : Type 0} {f g : A → A → Ordering} (F : Preorder f) (G : Preorder g) where
  then_trans : (a b c : A) → and_then (f a b) (g a b) ≡ Ordering.lt → and_then (f b c) (g b c) ≡ Ordering.lt → and_then (f a c) (g a c) ≡ Ordering.lt
  unfolding and_then
  then_trans a b c p q = side (f a b) refl (f b c) refl
    where
      lt_eq : f a b ≡ Ordering.lt → f b c ≡ Ordering.eq → f a c ≡ Ordering.lt
      lt_eq u v =
          let w : f b a ≡ f c a = F.congr b c a v in
          let x : f b a ≡ Ordering.gt = F.flip a b ∙ ap flipped u in
          F.flip c a ∙ ap flipped (sym w ∙ x)

      side : (x : Ordering) → f a b ≡ x → (y : Ordering) → f b c ≡ y → and_then (f a c) (g a c) ≡ Ordering.lt
      side Ordering.lt u Ordering.lt v = rw (F.trans a b c u v)
      side Ordering.lt u Ordering.eq v = rw (lt_eq u v)
      side Ordering.lt u Ordering.gt v = let h : Ordering.gt ≡ Ordering.lt = rw v at q in absurd (apart (cc))
      side Ordering.eq u Ordering.lt v = rw (F.congr a b c u ∙ v)
      side Ordering.eq u Ordering.eq v = rw (F.congr a b c u ∙ v) (G.trans a b c (rw u at p) (rw v at q))
      side Ordering.eq u Ordering.gt v = let h : Ordering.gt ≡ Ordering.lt = rw v at q in absurd (apart (cc))
      side Ordering.gt u y v = let h : Ordering.gt ≡ Ordering.lt = rw u at p in absurd (apart (cc))

  after : Preorder (λ a b. and_then (f a b) (g a b))
  after =
      record {
        flip = λ a b. rw (F.flip a b, G.flip a b) (sym (flip_then (f a b) (g a b)));
        trans = then_trans;
        congr = λ a b c e. let w = then_eq (f a b) (g a b) e in rw (F.congr a b c w.0, G.congr a b c w.1);
      }

-- byte strings
bytes_flip : (a b : List ℕ) → cmp_bytes b a ≡ flipped (cmp_bytes a b)
unfolding cmp_bytes
bytes_flip [] [] = refl
bytes_flip [] (y ∷ ys) = refl
bytes_flip (x ∷ xs) [] = refl
bytes_flip (x ∷ xs) (y ∷ ys) = rw (num_flip x y, bytes_flip xs ys) (sym (flip_then (compare x y) (cmp_bytes xs ys)))

bytes_eq : (a b : List ℕ) → cmp_bytes a b ≡ Ordering.eq → a ≡ b
unfolding cmp_bytes
bytes_eq [] [] e = refl
bytes_eq [] (y ∷ ys) e = absurd (apart (cc))
bytes_eq (x ∷ xs) [] e = absurd (apart (cc))
bytes_eq (x ∷ xs) (y ∷ ys) e = let w = then_eq (compare x y) (cmp_bytes xs ys) e in ap₂ ◌∷◌ (num_eq x y w.0) (bytes_eq xs ys w.1)

bytes_trans : (a b c : List ℕ) → cmp_bytes a b ≡ Ordering.lt → cmp_bytes b c ≡ Ordering.lt → cmp_bytes a c ≡ Ordering.lt
unfolding cmp_bytes and_then
bytes_trans [] b [] p q = let k : cmp_bytes b [] ≡ flipped (cmp_bytes [] b) = bytes_flip [] b in absurd (apart (cc))
bytes_trans [] b (z ∷ zs) p q = refl
bytes_trans (x ∷ xs) [] c p q = absurd (apart (cc))
bytes_trans (x ∷ xs) (y ∷ ys) [] p q = absurd (apart (cc))
bytes_trans (x ∷ xs) (y ∷ ys) (z ∷ zs) p q = side (compare x y) refl (compare y z) refl (bytes_trans xs ys zs)
  where
    side :
        (u : Ordering) → compare x y ≡ u → (v : Ordering) → compare y z ≡ v →
        (cmp_bytes xs ys ≡ Ordering.lt → cmp_bytes ys zs ≡ Ordering.lt → cmp_bytes xs zs ≡ Ordering.lt) → and_then (compare x z) (cmp_bytes xs zs) ≡ Ordering.lt
    side Ordering.lt e Ordering.lt f ih = rw (num_trans x y z e f)
    side Ordering.lt e Ordering.eq f ih = rw (← num_eq y z f, e)
    side Ordering.lt e Ordering.gt f ih = let h : Ordering.gt ≡ Ordering.lt = rw f at q in absurd (apart (cc))
    side Ordering.eq e Ordering.lt f ih = rw (num_eq x y e, f)
    side Ordering.eq e Ordering.eq f ih = rw (num_eq x y e, f) (ih (rw e at p) (rw f at q))
    side Ordering.eq e Ordering.gt f ih = let h : Ordering.gt ≡ Ordering.lt = rw f at q in absurd (apart (cc))
    side Ordering.gt e v f ih = let h : Ordering.gt ≡ Ordering.lt = rw e at p in absurd (apart (cc))

-- contents
content_flip : (a b : Content) → cmp_content b a ≡ flipped (cmp_content a b)
unfolding cmp_content
content_flip (int a) (int b) = num_flip a b
content_flip (int a) (str b) = refl
content_flip (int a) top = refl
content_flip (str a) (int b) = refl
content_flip (str a) (str b) = bytes_flip a b
content_flip (str a) top = refl
content_flip top (int b) = refl
content_flip top (str b) = refl
content_flip top top = refl

content_eq : (a b : Content) → cmp_content a b ≡ Ordering.eq → a ≡ b
unfolding cmp_content
content_eq (int a) (int b) e = ap int (num_eq a b e)
content_eq (int a) (str b) e = absurd (apart (cc))
content_eq (int a) top e = absurd (apart (cc))
content_eq (str a) (int b) e = absurd (apart (cc))
content_eq (str a) (str b) e = ap str (bytes_eq a b e)
content_eq (str a) top e = absurd (apart (cc))
content_eq top (int b) e = absurd (apart (cc))
content_eq top (str b) e = absurd (apart (cc))
content_eq top top e = refl

content_trans : (a b c : Content) → cmp_content a b ≡ Ordering.lt → cmp_content b c ≡ Ordering.lt → cmp_content a c ≡ Ordering.lt
unfolding cmp_content
content_trans (int a) (int b) (int c) p q = num_trans a b c p q
content_trans (int a) b (str c) p q = refl
content_trans (int a) b top p q = refl
content_trans (int a) (str b) (int c) p q = absurd (apart (cc))
content_trans (int a) top (int c) p q = absurd (apart (cc))
content_trans (str a) (int b) c p q = absurd (apart (cc))
content_trans (str a) (str b) (int c) p q = absurd (apart (cc))
content_trans (str a) (str b) (str c) p q = bytes_trans a b c p q
content_trans (str a) (str b) top p q = refl
content_trans (str a) top (int c) p q = absurd (apart (cc))
content_trans (str a) top (str c) p q = absurd (apart (cc))
content_trans (str a) top top p q = refl
content_trans top (int b) c p q = absurd (apart (cc))
content_trans top (str b) c p q = absurd (apart (cc))
content_trans top top c p q = absurd (apart (cc))

-- a part is among those of an order
abbrev pub Among : Part → List Part → Type 0
Among p [] = ⊥
Among p (q ∷ qs) = (p ≡ q) ⊎ Among p qs

-- the parts of a datom
module _ (h : List ℕ) where
  values : Preorder (cmp_value h)
  unfolding cmp_value
  values = through (content h) (record { flip = content_flip; trans = content_trans; congr = λ a b c e. rw (content_eq a b e) })

  part_preorder : (p : Part) → Preorder (cmp_part h p)
  unfolding cmp_part
  part_preorder the_entity = through (λ (d : Datom). d.entity.0) num
  part_preorder the_attribute = through (λ (d : Datom). d.attribute.0) num
  part_preorder the_value = through (λ (d : Datom). d.value) values
  part_preorder the_last = through (λ (d : Datom). d.transaction_operation.0) num

  -- one after the other
  pub parts_preorder : (ps : List Part) → Preorder (cmp_parts h ps)
  unfolding cmp_parts
  parts_preorder [] = record { flip = λ a b. refl; trans = λ a b c p q. p; congr = λ a b c e. refl }
  parts_preorder (p ∷ ps) = after (part_preorder p) (parts_preorder ps)

  -- what is equal in all is equal in each
  pub parts_equal : (p : Part) (ps : List Part) (a b : Datom) → Among p ps → cmp_parts h ps a b ≡ Ordering.eq → cmp_part h p a b ≡ Ordering.eq
  unfolding cmp_parts
  parts_equal p [] a b i e = absurd i
  parts_equal p (q ∷ qs) a b (inl i) e = rw i (then_eq (cmp_part h q a b) (cmp_parts h qs a b) e).0
  parts_equal p (q ∷ qs) a b (inr i) e = parts_equal p qs a b i (then_eq (cmp_part h q a b) (cmp_parts h qs a b) e).1

-- every order is a total preorder
pub order_preorder : (i : Index) (h : List ℕ) → Preorder (order_in i h).cmp
unfolding order_in
order_preorder i h = parts_preorder h (parts_of i)

-- every order goes by every part
every_part : (i : Index) (p : Part) → Among p (parts_of i)
unfolding parts_of
every_part Eavt the_entity = inl refl
every_part Eavt the_attribute = inr (inl refl)
every_part Eavt the_value = inr (inr (inl refl))
every_part Eavt the_last = inr (inr (inr (inl refl)))
every_part Aevt the_entity = inr (inl refl)
every_part Aevt the_attribute = inl refl
every_part Aevt the_value = inr (inr (inl refl))
every_part Aevt the_last = inr (inr (inr (inl refl)))
every_part Avet the_entity = inr (inr (inl refl))
every_part Avet the_attribute = inl refl
every_part Avet the_value = inr (inl refl)
every_part Avet the_last = inr (inr (inr (inl refl)))

-- "equal only for equal datoms", as document 02 reads equal: the same entity, attribute and last word, and values that stand for the same
pub record Alike (h : List ℕ) (a b : Datom) : Type 0 where
  pub entity : a.entity.0 ≡ b.entity.0
  pub attribute : a.attribute.0 ≡ b.attribute.0
  pub content : content h a.value ≡ content h b.value
  pub last : a.transaction_operation.0 ≡ b.transaction_operation.0

pub order_same : (i : Index) (h : List ℕ) (a b : Datom) → (order_in i h).cmp a b ≡ Ordering.eq → Alike h a b
unfolding order_in cmp_part cmp_value
order_same i h a b e =
    record {
      entity = num_eq a.entity.0 b.entity.0 (part the_entity);
      attribute = num_eq a.attribute.0 b.attribute.0 (part the_attribute);
      content = content_eq (content h a.value) (content h b.value) (part the_value);
      last = num_eq a.transaction_operation.0 b.transaction_operation.0 (part the_last);
    }
  where
    part : (p : Part) → cmp_part h p a b ≡ Ordering.eq
    part p = parts_equal h p (parts_of i) a b (every_part i p) e

-- of datoms that may be bounds, so also of those that may be stored: the very same, or both values name a constant
pub order_very_same :
    (i : Index) (h : List ℕ) (a b : Datom) → (order_in i h).bound a ≡ true → (order_in i h).bound b ≡ true → (order_in i h).cmp a b ≡ Ordering.eq →
    (a ≡ b) ⊎ ((names a.value ≡ true) × (names b.value ≡ true))
unfolding order_in bound_datom
order_very_same i h a b p q e = side (content_tells h a.value b.value p q s.content)
  where
    s : Alike h a b
    s = order_same i h a b e

    same :
        {e f : ℕ} {v : Value} {w : ℕ} → e ≡ b.entity.0 → f ≡ b.attribute.0 → v ≡ b.value → w ≡ b.transaction_operation.0 →
        record { entity = record { 0 = e }; attribute = record { 0 = f }; value = v; transaction_operation = record { 0 = w } } ≡ b
    same e₁ e₂ e₃ e₄ = rw (e₁, e₂, e₃, e₄)

    side :
        ((a.value ≡ b.value) ⊎ ((names a.value ≡ true) × (names b.value ≡ true))) →
        (a ≡ b) ⊎ ((names a.value ≡ true) × (names b.value ≡ true))
    side (inl v) = inl (same s.entity s.attribute v s.last)
    side (inr w) = inr w
