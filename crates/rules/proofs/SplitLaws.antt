-- Split, over C: every datom stands in exactly one part or goes up, every child stands in one part, parts fit in C, and the
-- midpoints are one fewer than the parts.
use Prim.Native.Nat.{ℕ, zero, suc, pred, ◌+◌, ◌-◌, ◌*◌, ◌/◌, ◌%◌, ◌≤◌, ◌<◌, zero-le, suc-le-suc}
use Rattle.std.proofs.Math.Decide.{dec_le}
use Rattle.std.proofs.Math.Nat.{suc-mul, div-add-mod}
use Rattle.std.proofs.Common.{mod-lt, mul-le-mul_left, mul-le-mul_right, div-mul-le_self, div-lt_iff_lt-mul, arith, inl, inr, sym, ◌∙◌, length-append, length-take-le, drop-cons}
use mathlib.Core.List.{List, [], ◌∷◌, ◌++◌, append-nil}
use Rattle.std.specs.Prelude.{◌≡◌, refl, length, get_or}
use Rattle.std.proofs.Math.Path.{ap, ap₂}
use Rattle.std.proofs.Math.ListN.{take, drop, length-take, length-drop, take-append-drop}
use Rattle.std.proofs.Math.Seq.{take_all, split_at}
use Rattle.store.specs.declared.PageId.{PageId}
use Rattle.store.specs.Page.{page_of}
use Rattle.store.specs.Laws.{cells_length}
use Rattle.datom.specs.declared.Datom.{Datom}
use Rattle.datom.specs.Datom.{datom_of, datoms_of}
use Rattle.rules.specs.Page.{Node, children_of, node_of}
use Rattle.rules.specs.Node.{part_of, share, parts, between, pages_for, split_parts, split_up}
use Rattle.rules.specs.Lists.{In}

-- all of a node is a part of it
pub whole_part : (c l k : ℕ) (s : List ℕ) → part_of 0 k (node_of c l k s) ≡ node_of c l k s
unfolding part_of node_of
whole_part c l k s =
    rw (
      take_all k (datoms_of k s) (omega (arith, cells_length datom_of 32 k s)),
      take_all (suc k) (children_of c (suc k) s) (omega (arith, cells_length page_of 8 (suc k) (drop (32 * c) s))),
    )

-- the datoms of the parts with the midpoints between them, and the children of the parts
unfoldable pub weave : List Node → List Datom → List Datom
weave [] up = []
weave (n ∷ ns) up = n.datoms ++ (take 1 up ++ weave ns (drop 1 up))

unfoldable pub all_children : List Node → List PageId
all_children [] = []
all_children (n ∷ ns) = n.children ++ all_children ns

-- one part and the datom after it
weave_step :
    (k : ℕ) (ds : List Datom) (ns : List Node) (up : List Datom) → k < length ds → weave ns up ≡ drop (suc k) ds →
    take k ds ++ (take 1 (take 1 (drop k ds) ++ up) ++ weave ns (drop 1 (take 1 (drop k ds) ++ up))) ≡ ds
weave_step k [] ns up h e = absurd (omega arith)
weave_step k (d ∷ ds) ns up h e =
    ap (λ (t : List Datom). take k (d ∷ ds) ++ (take 1 (take 1 t ++ up) ++ weave ns (drop 1 (take 1 t ++ up)))) (drop-cons (d ∷ ds) k d h)
    ∙ ap (λ (t : List Datom). take k (d ∷ ds) ++ (get_or (d ∷ ds) k d ∷ t)) e
    ∙ sym (split_at (d ∷ ds) k d h)

-- what a part is: of level l, with one child more than datoms, and at most m datoms
pub record Part (l m : ℕ) (n : Node) : Type 0 where
  pub level : n.level ≡ l
  pub few : length n.datoms ≤ m
  pub lens : length n.children ≡ suc (length n.datoms)

-- what is left behind the first part: one equation for both widths of a part
rest_total : (p q r k n : ℕ) → suc (suc p) * suc q + r ≡ suc n → k + (suc p * suc q + pred r) ≡ suc (suc p) * suc q + r → suc p * suc q + pred r ≡ suc (n - k)
rest_total p q r k n e f = omega (arith, suc-mul p (suc q))

-- a part and those behind it, r of them with one more
pub share_sum : (p q r : ℕ) → share q r + (p * q + pred r) ≡ suc p * q + r
unfolding share
share_sum p q zero = omega (arith, suc-mul p q)
share_sum p q (suc r) = omega (arith, suc-mul p q)

-- the last part is all that is left
share_last : (q r n : ℕ) → r ≤ 1 → 1 * suc q + r ≡ suc n → share (suc q) r ≡ suc n
unfolding share
share_last q zero n h e = omega arith
share_last q (suc zero) n h e = omega arith
share_last q (suc (suc r)) n h e = absurd (omega arith)

pub share_some : (q r : ℕ) → 0 < q → 0 < share q r
unfolding share
share_some q zero h = h
share_some q (suc r) h = omega arith

share_pos : (q r : ℕ) → share (suc q) r ≡ suc (pred (share (suc q) r))
share_pos q r = omega (arith, share_some (suc q) r (omega arith))

pub share_most : (q r m : ℕ) → q ≤ m → (0 < r → q + 1 ≤ m) → share q r ≤ m
unfolding share
share_most q zero m a b = a
share_most q (suc r) m a b = omega (arith, b (omega arith))

-- p + 1 parts of q + 1 children each, r of them with one more
module _ (l q : ℕ) where
  weave_all :
      (p r : ℕ) (ds : List Datom) (cs : List PageId) → r ≤ suc p → suc p * suc q + r ≡ suc (length ds) →
      weave (parts l (suc p) (suc q) r ds cs) (between p (suc q) r ds) ≡ ds
  unfolding weave parts between
  weave_all zero r ds cs b e =
      let k : share (suc q) r ≡ suc (length ds) = share_last q r (length ds) b e in
      append-nil _ ∙ take_all (pred (share (suc q) r)) ds (omega arith)
  weave_all (suc p) r ds cs b e =
      let k = share (suc q) r in
      let s : k + (suc p * suc q + pred r) ≡ suc (suc p) * suc q + r = share_sum (suc p) (suc q) r in
      let v : k ≡ suc (pred k) = share_pos q r in
      let u : suc p * suc q + pred r ≡ suc (length ds - k) = rest_total p q r k (length ds) e s in
      weave_step (pred k) ds (parts l (suc p) (suc q) (pred r) (drop k ds) (drop k cs)) (between p (suc q) (pred r) (drop k ds)) (omega arith)
      (weave_all p (pred r) (drop k ds) (drop k cs) (omega arith) (u ∙ ap suc (sym (length-drop k ds))) ∙ ap (λ (j : ℕ). drop j ds) v)

  children_all :
      (p r : ℕ) (ds : List Datom) (cs : List PageId) → r ≤ suc p → suc p * suc q + r ≡ suc (length ds) → length cs ≡ suc (length ds) →
      all_children (parts l (suc p) (suc q) r ds cs) ≡ cs
  unfolding all_children parts
  children_all zero r ds cs b e n =
      let k : share (suc q) r ≡ suc (length ds) = share_last q r (length ds) b e in
      append-nil _ ∙ take_all (share (suc q) r) cs (omega arith)
  children_all (suc p) r ds cs b e n =
      let k = share (suc q) r in
      let s : k + (suc p * suc q + pred r) ≡ suc (suc p) * suc q + r = share_sum (suc p) (suc q) r in
      let u : suc p * suc q + pred r ≡ suc (length ds - k) = rest_total p q r k (length ds) e s in
      ap (λ (t : List PageId). take k cs ++ t)
      (children_all p (pred r) (drop k ds) (drop k cs) (omega arith) (u ∙ ap suc (sym (length-drop k ds))) (simp length-drop (omega (arith, suc-mul p (suc q)))))
      ∙ take-append-drop k cs

  parts_are :
      (m p r : ℕ) (ds : List Datom) (cs : List PageId) → q ≤ m → (0 < r → suc q ≤ m) → r ≤ suc p → suc p * suc q + r ≡ suc (length ds) →
      length cs ≡ suc (length ds) → (n : Node) → In n (parts l (suc p) (suc q) r ds cs) → Part l m n
  unfolding parts
  parts_are m zero r ds cs f g b e c n (inr i) = elim i [ ]
  parts_are m zero r ds cs f g b e c n (inl h) =
      let k : share (suc q) r ≡ suc (length ds) = share_last q r (length ds) b e in
      rw h
      (record {
        level = refl;
        few = omega (arith, length-take (pred (share (suc q) r)) ds, share_most (suc q) r (suc m) (omega arith) (λ z. omega (arith, g z)));
        lens = simp length-take (omega arith);
      })
  parts_are m (suc p) r ds cs f g b e c n (inl h) =
      let v : share (suc q) r ≡ suc (pred (share (suc q) r)) = share_pos q r in
      let s = share_sum (suc p) (suc q) r in
      rw h
      (record {
        level = refl;
        few = omega (arith, length-take (pred (share (suc q) r)) ds, share_most (suc q) r (suc m) (omega arith) (λ z. omega (arith, g z)));
        lens = simp length-take (omega (arith, suc-mul p (suc q)));
      })
  parts_are m (suc p) r ds cs f g b e c n (inr i) =
      let k = share (suc q) r in
      let s : k + (suc p * suc q + pred r) ≡ suc (suc p) * suc q + r = share_sum (suc p) (suc q) r in
      let u : suc p * suc q + pred r ≡ suc (length ds - k) = rest_total p q r k (length ds) e s in
      parts_are m p (pred r) (drop k ds) (drop k cs) f (λ z. g (omega arith)) (omega arith) (u ∙ ap suc (sym (length-drop k ds)))
      (simp length-drop (omega (arith, suc-mul p (suc q)))) n i

between_length : (q p r : ℕ) (ds : List Datom) → r ≤ suc p → suc p * suc q + r ≡ suc (length ds) → length (between p (suc q) r ds) ≡ p
unfolding between
between_length q zero r ds b e = refl
between_length q (suc p) r ds b e =
    let k = share (suc q) r in
    let s : k + (suc p * suc q + pred r) ≡ suc (suc p) * suc q + r = share_sum (suc p) (suc q) r in
    let v : k ≡ suc (pred k) = share_pos q r in
    let u : suc p * suc q + pred r ≡ suc (length ds - k) = rest_total p q r k (length ds) e s in
    let one : length (take 1 (drop (pred k) ds)) ≡ 1 = length-take-le 1 (drop (pred k) ds) (simp length-drop (omega (arith, suc-mul p (suc q)))) in
    simp (length-append, one) (omega (arith, between_length q p (pred r) (drop k ds) (omega arith) (u ∙ ap suc (sym (length-drop k ds)))))

parts_length : (l p q r : ℕ) (ds : List Datom) (cs : List PageId) → length (parts l p q r ds cs) ≡ p
unfolding parts
parts_length l zero q r ds cs = refl
parts_length l (suc p) q r ds cs = ap suc (parts_length l p q (pred r) (drop (share q r) ds) (drop (share q r) cs))

-- how a node that is over the capacity is divided
pub record Shares (cap n : ℕ) : Type 0 where
  pub p : ℕ
  pub q : ℕ
  pub pages : pages_for cap n ≡ suc p
  pub each : suc n / pages_for cap n ≡ suc q
  pub most : p < n
  pub tight : suc p * cap ≤ n + pred cap
  pub rest : suc n % pages_for cap n ≤ suc p
  pub total : suc p * suc q + suc n % pages_for cap n ≡ suc n
  pub fit : q ≤ cap
  pub fit₁ : 0 < suc n % pages_for cap n → suc q ≤ cap

pub shares : (cap n : ℕ) → 0 < cap → cap < n → Shares cap n
unfolding pages_for
shares cap n c k = go (pages_for cap n) refl (suc n / pages_for cap n) refl
  where
    go : (P : ℕ) → pages_for cap n ≡ P → (Q : ℕ) → suc n / pages_for cap n ≡ Q → Shares cap n
    go P e Q u =
        let d₁ : P * cap ≤ n + pred cap = rw (← e) (div-mul-le_self (n + pred cap) cap) in
        let d₂ : n + pred cap < suc P * cap = (div-lt_iff_lt-mul {k = cap} {x = n + pred cap} {y = suc P} c).0 (omega arith) in
        let n₁ : n ≤ P * cap = omega (arith, suc-mul P cap) in
        let p₁ : 0 < P = pos P n₁ in
        let p₂ : P ≤ n = le P d₁ in
        let r₁ : suc n % P < P = mod-lt (suc n) p₁ in
        let t₁ : P * Q + suc n % P ≡ suc n = rw (← u, e) (div-add-mod (suc n) P) in
        let q₁ : 0 < Q = pos_q P Q p₂ r₁ t₁ in
        let q₂ : Q ≤ suc cap = le_q P Q n₁ p₁ t₁ in
        let q₃ : 0 < suc n % P → Q ≤ cap = le_r P Q n₁ p₁ t₁ in
        done P e Q u p₁ p₂ d₁ r₁ t₁ q₁ q₂ q₃
      where
        pos : (P : ℕ) → n ≤ P * cap → 0 < P
        pos zero h = absurd (omega arith)
        pos (suc P) h = suc-le-suc zero-le

        le : (P : ℕ) → P * cap ≤ n + pred cap → P ≤ n
        le P h = elim (dec_le P n) [
          | yes a ↦ a
          | no a ↦ absurd (omega (arith, a, mul-le-mul_right {m = suc n} {n = P} cap (omega (arith, a)), suc-mul n cap, mul-le-mul_left {m = 1} {n = cap} n c))
        ]

        pos_q : (P Q : ℕ) → P ≤ n → suc n % P < P → P * Q + suc n % P ≡ suc n → 0 < Q
        pos_q P zero a b t = absurd (omega arith)
        pos_q P (suc Q) a b t = suc-le-suc zero-le

        le_q : (P Q : ℕ) → n ≤ P * cap → 0 < P → P * Q + suc n % P ≡ suc n → Q ≤ suc cap
        le_q P Q a b t = elim (dec_le Q (suc cap)) [ yes z ↦ z | no z ↦ absurd (omega (arith, mul-le-mul_left {m = suc (suc cap)} {n = Q} P (omega (arith, z)))) ]

        le_r : (P Q : ℕ) → n ≤ P * cap → 0 < P → P * Q + suc n % P ≡ suc n → 0 < suc n % P → Q ≤ cap
        le_r P Q a b t r = elim (dec_le Q cap) [ yes z ↦ z | no z ↦ absurd (omega (arith, mul-le-mul_left {m = suc cap} {n = Q} P (omega (arith, z)))) ]

        done :
            (P : ℕ) → pages_for cap n ≡ P → (Q : ℕ) → suc n / pages_for cap n ≡ Q → 0 < P → P ≤ n → P * cap ≤ n + pred cap → suc n % P < P →
            P * Q + suc n % P ≡ suc n → 0 < Q →
            Q ≤ suc cap → (0 < suc n % P → Q ≤ cap) → Shares cap n
        done zero e Q u a b g r t c d f = absurd (omega arith)
        done (suc p) e zero u a b g r t c d f = absurd (omega arith)
        done (suc p) e (suc q) u a b g r t c d f =
            record {
              p = p;
              q = q;
              pages = e;
              each = u;
              most = b;
              tight = g;
              rest = rw e (omega arith);
              total = rw e t;
              fit = omega arith;
              fit₁ = rw e f;
            }

module _ (cap : ℕ) (n : Node) (pos : 0 < cap) (over : cap < length n.datoms) where
  S : Shares cap (length n.datoms)
  S = shares cap (length n.datoms) pos over

  parts_shape : split_parts cap n ≡ parts n.level (suc S.p) (suc S.q) (suc (length n.datoms) % pages_for cap (length n.datoms)) n.datoms n.children
  unfolding split_parts
  parts_shape =
      ap₂ (λ (p q : ℕ). parts n.level p q (suc (length n.datoms) % pages_for cap (length n.datoms)) n.datoms n.children) S.pages S.each

  up_shape : split_up cap n ≡ between S.p (suc S.q) (suc (length n.datoms) % pages_for cap (length n.datoms)) n.datoms
  unfolding split_up
  up_shape =
      ap₂ (λ (p q : ℕ). between (pred p) q (suc (length n.datoms) % pages_for cap (length n.datoms)) n.datoms) S.pages S.each

  -- "every datom of the node stands in exactly one part or goes up", in order
  pub split_keeps_every_datom : weave (split_parts cap n) (split_up cap n) ≡ n.datoms
  split_keeps_every_datom = rw (parts_shape, up_shape) (weave_all n.level S.q S.p _ n.datoms n.children S.rest S.total)

  -- and every child in exactly one part
  pub split_keeps_every_child : length n.children ≡ suc (length n.datoms) → all_children (split_parts cap n) ≡ n.children
  split_keeps_every_child lens = rw parts_shape (children_all n.level S.q S.p _ n.datoms n.children S.rest S.total lens)

  -- each part is a node of the same level that fits in C
  pub split_parts_fit : length n.children ≡ suc (length n.datoms) → (m : Node) → In m (split_parts cap n) → Part n.level cap m
  split_parts_fit lens m i =
      parts_are n.level S.q cap S.p _ n.datoms n.children S.fit S.fit₁ S.rest S.total lens m (rw parts_shape at i)

  -- "P = n/C rounded up" parts, and one midpoint fewer
  pub split_parts_length : length (split_parts cap n) ≡ pages_for cap (length n.datoms)
  split_parts_length = rw (parts_shape, S.pages) (parts_length n.level (suc S.p) (suc S.q) _ n.datoms n.children)

  pub split_midpoints_fewer : suc (length (split_up cap n)) ≡ length (split_parts cap n)
  split_midpoints_fewer =
      ap suc (ap length up_shape ∙ between_length S.q S.p _ n.datoms S.rest S.total) ∙ sym S.pages ∙ sym split_parts_length

  -- so the midpoints are fewer than the datoms
  pub split_shrinks : length (split_up cap n) < length n.datoms
  split_shrinks = rw up_shape (omega (arith, between_length S.q S.p _ n.datoms S.rest S.total, S.most))

  -- a node with at most b more datoms than fit has at most b midpoints
  pub split_midpoints_few : (b : ℕ) → length n.datoms ≤ cap + b → length (split_up cap n) ≤ b
  split_midpoints_few b h =
      let e : length (split_up cap n) ≡ S.p = ap length up_shape ∙ between_length S.q S.p _ n.datoms S.rest S.total in
      elim (dec_le S.p b) [
        | yes a ↦ omega (arith, a)
        | no a ↦ absurd
            (omega (
              arith,
              a,
              S.tight,
              mul-le-mul_right {m = suc (suc b)} {n = suc S.p} cap (omega (arith, a)),
              suc-mul (suc b) cap,
              suc-mul b cap,
              mul-le-mul_left {m = 1} {n = cap} b pos,
            ))
      ]
