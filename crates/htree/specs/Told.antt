-- What a function that writes answers, against the stage of the rules that it carries out: for every list of pages written before.
use Prim.Native.Nat.{Ordering}
use Rattle.std.specs.Prelude.{ℕ, ◌+◌, ◌*◌, ◌^◌, ◌≤◌, ◌<◌, true, false, List, [], ◌∷◌, ◌++◌, ◌≡◌, refl, length, drop, replicate, Result, Ok, Err}
use Rattle.std.proofs.Common.{sym, ◌∙◌, ap, ap₂, drop_at}
use Rattle.std.proofs.lemmas.List.{length-replicate}
use Rattle.store.specs.declared.PageId.{PageId}
use Rattle.store.specs.declared.Extent.{Extent}
use Rattle.store.specs.Size.{capacity}
use Rattle.store.specs.Laws.{apart, cells_length}
use Rattle.datom.specs.Datom.{datom_of}
use Rattle.index.specs.Order.{DatomOrd}
use Rattle.answer.specs.declared.Refusal.{Refusal}
use Rattle.rules.specs.Page.{Node, node_of}
use Rattle.rules.specs.Tree.{Stage, stop, go, put}
use Rattle.rules.specs.Store.{bad_store, env_of}
use Rattle.htree.specs.declared.place.Placed.{Placed}
use Rattle.htree.specs.declared.place.Failed.{Failed}
use Rattle.htree.specs.Wrote.{Wrote, wrote_same}

-- what holds while a call writes: the store is in order, and w pages past the count fit
pub record Ready (x : Extent) (s : List ℕ) (c w : ℕ) : Type 0 where
  pub good : bad_store x s ≡ false
  pub cap : c ≡ capacity x.size
  pub room : (x.count + w) * x.size ≤ length s

-- some order, and some list of so many pages, to read off what does not depend on them
pub any_order : DatomOrd
any_order = record { cmp = λ a b. Ordering.eq; formed = λ d. true; stored = λ d. true; bound = λ d. true }

pub blanks : ℕ → List Node
blanks w = replicate w (record { level = 0; datoms = []; children = [] })

pub blanks_length : (w : ℕ) → length (blanks w) ≡ w
unfolding blanks
blanks_length w = length-replicate w _

-- an answer of an insert into a page, and one that ends early, by their parts
abbrev pub placed : ℕ → ℕ → Placed
placed k v = record { datoms = k; written = v }

abbrev pub failed : Refusal → ℕ → Failed
failed r v = record { refusal = r; written = v }

-- one page
pub data PutTold (x : Extent) (s s₁ : List ℕ) (n : Node) (o : List Node) : Result PageId Failed → Stage PageId → Type 0 where
  put_placed :
      {id : PageId} → id.0 < 2 ^ 64 → Wrote x s (length o) (n ∷ []) s₁ → PutTold x s s₁ n o (Ok id) (go id (o ++ (n ∷ [])))
  put_failed : {r : Refusal} → s₁ ≡ s → PutTold x s s₁ n o (Err (failed r (length o))) (stop r o)

-- whatever the order, of which a page that is written tells nothing
abbrev pub Puts : Extent → List ℕ → List ℕ → ℕ → Node → Result PageId Failed → Type 0
Puts x s s₁ w n r = (t : DatomOrd) (o : List Node) → length o ≡ w → PutTold x s s₁ n o r (put (env_of t x s) n o)

-- a node of midpoints and children, left in the area a₁ with room for m
pub data Told (x : Extent) (s s₁ : List ℕ) (m : ℕ) (a₁ : List ℕ) (o : List Node) : Result Placed Failed → Stage Node → Type 0 where
  told_placed :
      {n : Node} {k : ℕ} (new : List Node) → node_of m n.level k a₁ ≡ n → k ≤ m → Wrote x s (length o) new s₁ →
      Told x s s₁ m a₁ o (Ok (placed k (length o + length new))) (go n (o ++ new))
  told_failed :
      {r : Refusal} (new : List Node) → Wrote x s (length o) new s₁ → Told x s s₁ m a₁ o (Err (failed r (length o + length new))) (stop r (o ++ new))

abbrev pub Tells : Extent → List ℕ → List ℕ → ℕ → List ℕ → ℕ → Result Placed Failed → (List Node → Stage Node) → Type 0
Tells x s s₁ m a₁ w r stage = (o : List Node) → length o ≡ w → Told x s s₁ m a₁ o r (stage o)

-- what an answer says of the stage, and an answer from what is known of it
module _ {x : Extent} {s s₁ : List ℕ} {n : Node} {o : List Node} where
  pub put_is :
      {id : PageId} {t : Stage PageId} → PutTold x s s₁ n o (Ok id) t →
      (t ≡ go id (o ++ (n ∷ []))) × Wrote x s (length o) (n ∷ []) s₁ × (id.0 < 2 ^ 64)
  put_is (put_placed f w) = (refl, w, f)

  pub put_is_not : {f : Failed} {t : Stage PageId} → PutTold x s s₁ n o (Err f) t → (t ≡ stop f.refusal o) × (s₁ ≡ s) × (f.written ≡ length o)
  put_is_not (put_failed e) = (refl, e, refl)

pub record Went (x : Extent) (s s₁ : List ℕ) (m : ℕ) (a₁ : List ℕ) (o : List Node) (k v : ℕ) (t : Stage Node) : Type 0 where
  pub node : Node
  pub new : List Node
  pub stage : t ≡ go node (o ++ new)
  pub count : v ≡ length o + length new
  pub area : node_of m node.level k a₁ ≡ node
  pub few : k ≤ m
  pub wrote : Wrote x s (length o) new s₁

pub record Stopped (x : Extent) (s s₁ : List ℕ) (o : List Node) (r : Refusal) (v : ℕ) (t : Stage Node) : Type 0 where
  pub new : List Node
  pub stage : t ≡ stop r (o ++ new)
  pub count : v ≡ length o + length new
  pub wrote : Wrote x s (length o) new s₁

module _ {x : Extent} {s s₁ : List ℕ} {m : ℕ} {a₁ : List ℕ} {o : List Node} where
  pub went : {p : Placed} {t : Stage Node} → Told x s s₁ m a₁ o (Ok p) t → Went x s s₁ m a₁ o p.datoms p.written t
  went (told_placed {n} new e f w) = record { node = n; new = new; stage = refl; count = refl; area = e; few = f; wrote = w }

  pub stopped : {f : Failed} {t : Stage Node} → Told x s s₁ m a₁ o (Err f) t → Stopped x s s₁ o f.refusal f.written t
  stopped (told_failed new w) = record { new = new; stage = refl; count = refl; wrote = w }

  pub tell_went : {k v : ℕ} {t : Stage Node} → Went x s s₁ m a₁ o k v t → Told x s s₁ m a₁ o (Ok (placed k v)) t
  tell_went g = rw (g.stage, g.count) (told_placed g.new g.area g.few g.wrote)

  pub tell_stopped : {r : Refusal} {v : ℕ} {t : Stage Node} → Stopped x s s₁ o r v t → Told x s s₁ m a₁ o (Err (failed r v)) t
  tell_stopped g = rw (g.stage, g.count) (told_failed g.new g.wrote)

-- Two results that meet a promise are equal: the answer, the store, and where something was placed the node in the area. What else
-- stands in the scratch may differ.
pub behind_same : (o a b : List Node) → o ++ a ≡ o ++ b → a ≡ b
behind_same o a b e = sym (drop_at o a (length o) refl) ∙ ap (drop (length o)) e ∙ drop_at o b (length o) refl

put_told_same :
    {x : Extent} {s s₁ s₂ : List ℕ} {n : Node} {o : List Node} {t : Stage PageId} (r r₁ : Result PageId Failed) → PutTold x s s₁ n o r t → PutTold x s s₂ n o r₁ t →
    (r ≡ r₁) × (s₁ ≡ s₂)
put_told_same (Ok id) (Ok id₁) A B =
    let q = sym (put_is A).0 ∙ (put_is B).0 in
    let e : id ≡ id₁ = cc in
    (ap Ok e, wrote_same (put_is A).1 (put_is B).1 refl)
put_told_same (Err r) (Err r₁) A B =
    let q = sym (put_is_not A).0 ∙ (put_is_not B).0 in
    let e : r.refusal ≡ r₁.refusal = cc in
    let f : r.written ≡ r₁.written = (put_is_not A).2 ∙ sym (put_is_not B).2 in
    (ap₂ (λ (i : Refusal) (u : ℕ). Err (failed i u)) e f, (put_is_not A).1 ∙ sym (put_is_not B).1)
put_told_same (Ok id) (Err r) A B = let q = sym (put_is A).0 ∙ (put_is_not B).0 in absurd (apart (cc))
put_told_same (Err r) (Ok id) A B = let q = sym (put_is_not A).0 ∙ (put_is B).0 in absurd (apart (cc))

pub puts_same : {x : Extent} {s s₁ s₂ : List ℕ} {w : ℕ} {n : Node} (r r₁ : Result PageId Failed) → Puts x s s₁ w n r → Puts x s s₂ w n r₁ → (r ≡ r₁) × (s₁ ≡ s₂)
puts_same {w = w} r r₁ A B = put_told_same r r₁ (A any_order (blanks w) (blanks_length w)) (B any_order (blanks w) (blanks_length w))

-- a node in the area, by its datoms and children alone
pub node_count : (m l n : ℕ) (a : List ℕ) → length (node_of m l n a).datoms ≡ n
unfolding node_of
node_count m l n a = cells_length datom_of 32 n a

node_any : (m l l₁ k k₁ : ℕ) (a b : List ℕ) → node_of m l k a ≡ node_of m l₁ k₁ b → (j : ℕ) → node_of m j k a ≡ node_of m j k₁ b
unfolding node_of
node_any m l l₁ k k₁ a b e j = ap (λ (n : Node). record { level = j; datoms = n.datoms; children = n.children }) e

-- the answer, the store, and the node that was placed
abbrev Alike : ℕ → (r r₁ : Result Placed Failed) → (s₁ s₂ a₁ a₂ : List ℕ) → Type 0
Alike m r r₁ s₁ s₂ a₁ a₂ = (r ≡ r₁) × (s₁ ≡ s₂) × ((k v : ℕ) → r ≡ Ok (placed k v) → (l : ℕ) → node_of m l k a₁ ≡ node_of m l k a₂)

told_same :
    {x : Extent} {s s₁ s₂ : List ℕ} {m : ℕ} {a₁ a₂ : List ℕ} {o : List Node} {t : Stage Node} (r r₁ : Result Placed Failed) → Told x s s₁ m a₁ o r t →
    Told x s s₂ m a₂ o r₁ t → Alike m r r₁ s₁ s₂ a₁ a₂
told_same {m = m} {a₁} {a₂} {o} (Ok p) (Ok p₁) A B =
    let a = went A in
    let b = went B in
    let q = sym a.stage ∙ b.stage in
    let e : a.node ≡ b.node = cc in
    let f : a.new ≡ b.new = behind_same o a.new b.new (cc) in
    let n : node_of m a.node.level p.datoms a₁ ≡ node_of m b.node.level p₁.datoms a₂ = a.area ∙ e ∙ sym b.area in
    let g : p.datoms ≡ p₁.datoms = sym (node_count m a.node.level p.datoms a₁) ∙ ap (λ (j : Node). length j.datoms) n ∙ node_count m b.node.level p₁.datoms a₂ in
    let h : p.written ≡ p₁.written = a.count ∙ ap (λ (ns : List Node). length o + length ns) f ∙ sym b.count in (
      ap₂ (λ (j u : ℕ). Ok (placed j u)) g h,
      wrote_same a.wrote b.wrote f,
      λ j u y l.
          let w : p ≡ placed j u = cc in
          let z : p.datoms ≡ j = ap (λ (i : Placed). i.datoms) w in
          ap (λ (i : ℕ). node_of m l i a₁) (sym z) ∙ node_any m a.node.level b.node.level p.datoms p₁.datoms a₁ a₂ n l ∙ ap (λ (i : ℕ). node_of m l i a₂) (sym g ∙ z),
    )
told_same {o = o} (Err r) (Err r₁) A B =
    let a = stopped A in
    let b = stopped B in
    let q = sym a.stage ∙ b.stage in
    let e : r.refusal ≡ r₁.refusal = cc in
    let f : a.new ≡ b.new = behind_same o a.new b.new (cc) in
    let h : r.written ≡ r₁.written = a.count ∙ ap (λ (ns : List Node). length o + length ns) f ∙ sym b.count in
    (ap₂ (λ (i : Refusal) (u : ℕ). Err (failed i u)) e h, wrote_same a.wrote b.wrote f, λ j u y l. absurd (apart (cc)))
told_same (Ok p) (Err r) A B = let q = sym (went A).stage ∙ (stopped B).stage in absurd (apart (cc))
told_same (Err r) (Ok p) A B = let q = sym (stopped A).stage ∙ (went B).stage in absurd (apart (cc))

pub tells_same :
    {x : Extent} {s s₁ s₂ : List ℕ} {m : ℕ} {a₁ a₂ : List ℕ} {w : ℕ} (r r₁ : Result Placed Failed) (stage : List Node → Stage Node) →
    Tells x s s₁ m a₁ w r stage → Tells x s s₂ m a₂ w r₁ stage → Alike m r r₁ s₁ s₂ a₁ a₂
tells_same {w = w} r r₁ stage A B = told_same r r₁ (A (blanks w) (blanks_length w)) (B (blanks w) (blanks_length w))
