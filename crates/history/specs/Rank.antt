-- How many datoms of a page pass a test, and the first that does not: where a path goes on, and where a listing stands. Rests on the
-- order's laws.
use Prim.Native.Nat.{ℕ, zero, suc, ◌<◌, zero-le, suc-le-suc, Ordering}
use Rattle.std.specs.Prelude.{Bool, ◌≡◌, length, drop}
use Rattle.std.proofs.Math.Bool.{true, false}
use mathlib.Core.List.{List, [], ◌∷◌}
use Rattle.std.proofs.Math.Logic.{inl, inr}
use Rattle.std.proofs.Math.Path.{refl}
use Rattle.std.proofs.Common.{ap}
use Rattle.datom.specs.declared.Datom.{Datom}
use Rattle.index.proofs.Laws.{Preorder}
use Rattle.rules.specs.Node.{rank_by}
use Rattle.rules.specs.Lists.{In, Rising}
use Rattle.history.specs.Order.{clash, up_to, AtMost, up_false, up_true, one_way, not_self}

-- the first datom of a list
abbrev pub Head : Datom → List Datom → Type 0
Head y [] = ⊥
Head y (d ∷ ds) = y ≡ d

pub head_in : (y : Datom) (i : ℕ) (ds : List Datom) → Head y (drop i ds) → In y ds
head_in y zero [] h = h
head_in y (suc i) [] h = h
head_in y zero (d ∷ ds) h = inl h
head_in y (suc i) (d ∷ ds) h = inr (head_in y i ds h)

-- the first datom that does not pass
abbrev pub Stop : (Datom → Bool) → List Datom → Datom → Type 0
Stop p ds y = Head y (drop (rank_by p ds) ds)

pub stop_fails : (p : Datom → Bool) (y : Datom) (ds : List Datom) → Stop p ds y → p y ≡ false
unfolding rank_by
stop_fails p y [] h = absurd h
stop_fails p y (d ∷ ds) h = side (p d) refl (stop_fails p y ds)
  where
    side : (b : Bool) → p d ≡ b → (Stop p ds y → p y ≡ false) → p y ≡ false
    side true e ih = ih (rw (e, rank_by) at h)
    side false e ih = let k : y ≡ d = rw (e, rank_by) at h in rw k e

pub stop_short : (p : Datom → Bool) (x : Datom) (ds : List Datom) → Stop p ds x → rank_by p ds < length ds
unfolding rank_by
stop_short p x [] h = absurd h
stop_short p x (d ∷ ds) h = side (p d) refl (stop_short p x ds)
  where
    side : (b : Bool) → p d ≡ b → (Stop p ds x → rank_by p ds < length ds) → rank_by p (d ∷ ds) < suc (length ds)
    side true e ih = rw (e, rank_by) (suc-le-suc (ih (rw (e, rank_by) at h)))
    side false e ih = rw (e, rank_by) (suc-le-suc zero-le)

pub rank_agree : (p q : Datom → Bool) (ds : List Datom) → ((x : Datom) → In x ds → p x ≡ q x) → rank_by p ds ≡ rank_by q ds
unfolding rank_by
rank_agree p q [] a = refl
rank_agree p q (d ∷ ds) a = side (q d) refl (rank_agree p q ds (λ x i. a x (inr i)))
  where
    side : (b : Bool) → q d ≡ b → rank_by p ds ≡ rank_by q ds → rank_by p (d ∷ ds) ≡ rank_by q (d ∷ ds)
    side true e ih = rw (a d (inl refl), e, rank_by) (ap suc ih)
    side false e ih = rw (a d (inl refl), e, rank_by)

module _ (cmp : Datom → Datom → Ordering) (L : Preorder cmp) where
  rank_above : (x : Datom) (ds : List Datom) → ((y : Datom) → In y ds → cmp x y ≡ Ordering.lt) → rank_by (up_to cmp x) ds ≡ 0
  unfolding rank_by
  rank_above x [] a = refl
  rank_above x (d ∷ ds) a = rw (up_false cmp (a d (inl refl)), rank_by)

  -- past the first datom that does not pass
  pub rank_next :
      (p : Datom → Bool) (x : Datom) (ds : List Datom) → Rising cmp ds → Stop p ds x → rank_by (up_to cmp x) ds ≡ suc (rank_by p ds)
  unfolding rank_by
  rank_next p x [] r h = absurd h
  rank_next p x (d ∷ ds) r h = side (p d) refl (rank_next p x ds r.1)
    where
      side :
          (b : Bool) → p d ≡ b → (Stop p ds x → rank_by (up_to cmp x) ds ≡ suc (rank_by p ds)) →
          rank_by (up_to cmp x) (d ∷ ds) ≡ suc (rank_by p (d ∷ ds))
      side true e ih =
          let k : Stop p ds x = rw (e, rank_by) at h in
          let v : up_to cmp x d ≡ true = up_true cmp (one_way cmp L (r.0 x (head_in x (rank_by p ds) ds k))) in
          rw (e, v, rank_by) (ap suc (ih k))
      side false e ih =
          let k : x ≡ d = rw (e, rank_by) at h in
          let v : up_to cmp x d ≡ true = up_true cmp (not_self cmp L k) in
          rw (e, v, rank_by) (ap suc (rank_above x ds (λ y i. rw k (r.0 y i))))

  -- a datom of the page that does not pass is at or above the first such
  pub own_cover :
      (p : Datom → Bool) (z : Datom) (ds : List Datom) → Rising cmp ds → In z ds → p z ≡ false → (y : Datom) × Stop p ds y × AtMost cmp y z
  unfolding rank_by
  own_cover p z [] r i n = absurd i
  own_cover p z (d ∷ ds) r i n = side (p d) refl i (λ j. own_cover p z ds r.1 j n)
    where
      side :
          (b : Bool) → p d ≡ b → In z (d ∷ ds) → (In z ds → (y : Datom) × Stop p ds y × AtMost cmp y z) →
          (y : Datom) × Stop p (d ∷ ds) y × AtMost cmp y z
      side true e (inl j) ih = absurd (clash n (rw j e))
      side true e (inr j) ih = rw (e, rank_by) (ih j)
      side false e (inl j) ih = rw (e, rank_by) (d, refl, inl j)
      side false e (inr j) ih = rw (e, rank_by) (d, refl, inr (r.0 z j))
