-- The top: midpoints are split while there are too many for a page; then one child is the root, or several are written as the root.
use Prim.Native.Nat.{ℕ, zero, suc, ◌+◌, ◌-◌, ◌*◌, ◌≤◌, ◌<◌}
use Rattle.std.proofs.Common.{add-zero, ◌∙◌}
use native.Mathlib.Omega.{arith}
use Rattle.std.specs.Prelude.{true, false, ◌≡◌, refl, length, take, drop, Result, Ok, Err}
use mathlib.Core.List.{List, [], ◌∷◌, ◌++◌, append_assoc, append-nil}
use Rattle.std.proofs.Math.Path.{sym, ap, ap₂}
use Rattle.std.proofs.Math.ListN.{length-append}
use Rattle.store.specs.declared.PageId.{PageId}
use Rattle.store.specs.declared.Extent.{Extent}
use Rattle.store.specs.Words.{little, word_at, cells}
use Rattle.store.specs.Page.{page, page_of}
use Rattle.store.specs.Size.{capacity}
use Rattle.store.specs.Laws.{apart}
use Rattle.index.specs.Order.{DatomOrd}
use Rattle.answer.specs.declared.Refusal.{Refusal}
use Rattle.rules.specs.Page.{Node, node_of, children_of, child_at}
use Rattle.rules.specs.Node.{split_up, split_parts}
use Rattle.rules.specs.Tree.{Env, Stage, stop, go, then, put, put_all, split, is_over, root_of, write_root}
use Rattle.rules.specs.Store.{env_of}
use Rattle.rules.proofs.SplitLaws.{split_shrinks}
use Rattle.memory_store.specs.FetchLaws.{in_order}
use Rattle.htree.specs.declared.place.Failed.{Failed}
use Rattle.htree.specs.declared.root.Rooted.{Rooted}
use Rattle.htree.specs.Wrote.{Wrote, wrote_same, wrote_none, wrote_more, wrote_length, wrote_env}
use Rattle.htree.specs.Told.{any_order, blanks, blanks_length, behind_same, node_count, Ready, PutTold, put_is, put_is_not, Tells, Went, Stopped, went, stopped, placed, failed}
use Rattle.htree.specs.Split.{ready_after}
use Rattle.htree.specs.Flush.{node_level, node_children, is_over_law, is_not_over}

-- an answer of the root, by its parts
abbrev pub rooted : PageId → ℕ → Rooted
rooted id v = record { root = id; written = v }

-- the root and how many pages are written, or why not
pub data RootTold (x : Extent) (s s₁ : List ℕ) (o : List Node) : Result Rooted Failed → Stage PageId → Type 0 where
  root_at : {id : PageId} (new : List Node) → Wrote x s (length o) new s₁ → RootTold x s s₁ o (Ok (rooted id (length o + length new))) (go id (o ++ new))
  root_not : {r : Refusal} (new : List Node) → Wrote x s (length o) new s₁ → RootTold x s s₁ o (Err (failed r (length o + length new))) (stop r (o ++ new))

abbrev pub Roots : Extent → List ℕ → List ℕ → ℕ → Result Rooted Failed → (List Node → Stage PageId) → Type 0
Roots x s s₁ w r stage = (o : List Node) → length o ≡ w → RootTold x s s₁ o r (stage o)

-- an answer from what is known of the stage
pub tell_root :
    {x : Extent} {s s₁ : List ℕ} {o : List Node} {t : Stage PageId} (id : PageId) (new : List Node) (v : ℕ) → t ≡ go id (o ++ new) → v ≡ length o + length new →
    Wrote x s (length o) new s₁ → RootTold x s s₁ o (Ok (rooted id v)) t
tell_root id new v e c w = rw (e, c) (root_at new w)

pub tell_no_root :
    {x : Extent} {s s₁ : List ℕ} {o : List Node} {t : Stage PageId} (r : Refusal) (new : List Node) (v : ℕ) → t ≡ stop r (o ++ new) → v ≡ length o + length new →
    Wrote x s (length o) new s₁ → RootTold x s s₁ o (Err (failed r v)) t
tell_no_root r new v e c w = rw (e, c) (root_not new w)

-- and back
module _ {x : Extent} {s s₁ : List ℕ} {o : List Node} where
  is_root :
      {r : Rooted} {t : Stage PageId} → RootTold x s s₁ o (Ok r) t →
      (new : List Node) × (t ≡ go r.root (o ++ new)) × (r.written ≡ length o + length new) × Wrote x s (length o) new s₁
  is_root (root_at new w) = (new, refl, refl, w)

  is_no_root :
      {f : Failed} {t : Stage PageId} → RootTold x s s₁ o (Err f) t →
      (new : List Node) × (t ≡ stop f.refusal (o ++ new)) × (f.written ≡ length o + length new) × Wrote x s (length o) new s₁
  is_no_root (root_not new w) = (new, refl, refl, w)

-- two results that meet a promise are equal: the answer and the store
root_told_same :
    {x : Extent} {s s₁ s₂ : List ℕ} {o : List Node} {t : Stage PageId} (r r₁ : Result Rooted Failed) → RootTold x s s₁ o r t → RootTold x s s₂ o r₁ t →
    (r ≡ r₁) × (s₁ ≡ s₂)
root_told_same {o = o} (Ok r) (Ok r₁) A B =
    let a = is_root A in
    let b = is_root B in
    let q = sym a.1 ∙ b.1 in
    let e : r.root ≡ r₁.root = cc in
    let f : a.0 ≡ b.0 = behind_same o a.0 b.0 (cc) in
    let g : r.written ≡ r₁.written = a.2 ∙ ap (λ (ns : List Node). length o + length ns) f ∙ sym b.2 in
    (ap₂ (λ (i : PageId) (u : ℕ). Ok (rooted i u)) e g, wrote_same a.3 b.3 f)
root_told_same {o = o} (Err r) (Err r₁) A B =
    let a = is_no_root A in
    let b = is_no_root B in
    let q = sym a.1 ∙ b.1 in
    let e : r.refusal ≡ r₁.refusal = cc in
    let f : a.0 ≡ b.0 = behind_same o a.0 b.0 (cc) in
    let g : r.written ≡ r₁.written = a.2 ∙ ap (λ (ns : List Node). length o + length ns) f ∙ sym b.2 in
    (ap₂ (λ (i : Refusal) (u : ℕ). Err (failed i u)) e g, wrote_same a.3 b.3 f)
root_told_same (Ok r) (Err f) A B =
    let q = sym (is_root A).1 ∙ (is_no_root B).1 in absurd (apart (cc))
root_told_same (Err f) (Ok r) A B =
    let q = sym (is_no_root A).1 ∙ (is_root B).1 in absurd (apart (cc))

pub roots_same :
    {x : Extent} {s s₁ s₂ : List ℕ} {w : ℕ} (r r₁ : Result Rooted Failed) (stage : List Node → Stage PageId) → Roots x s s₁ w r stage → Roots x s s₂ w r₁ stage →
    (r ≡ r₁) × (s₁ ≡ s₂)
roots_same {w = w} r r₁ stage A B = root_told_same r r₁ (A (blanks w) (blanks_length w)) (B (blanks w) (blanks_length w))

-- pages written before are written too
pub root_after :
    (x : Extent) (s₀ : List ℕ) (w : ℕ) (o : List Node) → length o ≡ w → {s s₁ : List ℕ} {new : List Node} {r : Result Rooted Failed} {t : Stage PageId} → Wrote x s₀ w new s →
    RootTold x s s₁ (o ++ new) r t → RootTold x s₀ s₁ o r t
root_after x s₀ w o here {s} {s₁} {new} W (root_at {id = id} more B) =
    tell_root id (new ++ more) _ (ap (λ (os : List Node). go id os) (append_assoc o new more))
    (omega (arith, length-append new more, length-append o new))
    (rw here (wrote_more x s₀ w W (rw (let k : length (o ++ new) ≡ w + length new = omega (arith, length-append o new) in k) at B)))
root_after x s₀ w o here {s} {s₁} {new} W (root_not {r = r} more B) =
    tell_no_root r (new ++ more) _ (ap (λ (os : List Node). stop r os) (append_assoc o new more))
    (omega (arith, length-append new more, length-append o new))
    (rw here (wrote_more x s₀ w W (rw (let k : length (o ++ new) ≡ w + length new = omega (arith, length-append o new) in k) at B)))

-- one turn of the rules, or none
root_turn : (e : Env) (k : ℕ) (n : Node) (o : List Node) → is_over e n ≡ true → write_root e (suc k) n o ≡ then (split e n o) λ j o₁. write_root e k j o₁
unfolding write_root
root_turn e k n o h = rw (h, write_root)

root_rest : (e : Env) (k : ℕ) (n : Node) (o : List Node) → is_over e n ≡ false → write_root e k n o ≡ root_of e n.children n o
unfolding write_root
root_rest e zero n o h = refl
root_rest e (suc k) n o h = rw (h, write_root)

-- what a split goes on with
pub split_gives :
    (e : Env) (n : Node) (o : List Node) (k : Node) (o₁ : List Node) → split e n o ≡ go k o₁ → (k.level ≡ suc n.level) × (k.datoms ≡ split_up e.cap n)
unfolding split then
split_gives e n o k o₁ q = side (put_all e (split_parts e.cap n) o) q
  where
    side :
        (t : Stage (List PageId)) → then t (λ ids o₂. go (record { level = suc n.level; datoms = split_up e.cap n; children = ids }) o₂) ≡ go k o₁ →
        (k.level ≡ suc n.level) × (k.datoms ≡ split_up e.cap n)
    side (stop r o₂) q = absurd (apart (cc))
    side (go ids o₂) q = let g : record { level = suc n.level; datoms = split_up e.cap n; children = ids } ≡ k = cc in rw (← g) (refl, refl)

-- the loop: some turns are left, enough for the midpoints at hand
pub record Rooting (t : DatomOrd) (x : Extent) (s₀ : List ℕ) (w l m n : ℕ) (a₀ : List ℕ) (o : List Node) (s a : List ℕ) (high count next : ℕ) : Type 0 where
  pub new : List Node
  pub turns : ℕ
  pub wrote : Wrote x s₀ w new s
  pub reach : next ≡ w + length new
  pub enough : count ≤ turns
  pub stage :
      write_root (env_of t x s₀) n (node_of m l n a₀) o ≡ write_root (env_of t x s₀) turns (node_of m high count a) (o ++ new)

module _ (t : DatomOrd) (x : Extent) (s₀ : List ℕ) (w l m n : ℕ) (a₀ : List ℕ) (o : List Node) (here : length o ≡ w) where
  pub rooting_start : (x.count + w) * x.size ≤ length s₀ → Rooting t x s₀ w l m n a₀ o s₀ a₀ l n w
  rooting_start room =
      record { new = []; turns = n; wrote = wrote_none x s₀ w room; reach = omega arith; enough = omega arith; stage = ap (write_root _ n _) (sym (append-nil o)) }

  module _ {s a : List ℕ} {high count next : ℕ} (D : Rooting t x s₀ w l m n a₀ o s a high count next) where
    abbrev e : Env
    e = env_of t x s₀

    abbrev done : List Node
    done = o ++ D.new

    pub rooting_count : length done ≡ next
    rooting_count = omega (arith, length-append o D.new, D.reach)

    same : env_of t x s ≡ e
    same = wrote_env x s₀ w D.wrote t

    module _ (over : capacity x.size < count) where
      turn : write_root e D.turns (node_of m high count a) done ≡ then (split e (node_of m high count a) done) λ j o₁. write_root e (D.turns - 1) j o₁
      turn =
          ap (λ (k : ℕ). write_root e k (node_of m high count a) done) (let z : D.turns ≡ suc (D.turns - 1) = omega (arith, D.enough) in z)
          ∙ root_turn e (D.turns - 1) (node_of m high count a) done (is_over_law t x s₀ m high count a over)

      abbrev splits : Env → Stage Node
      splits f = split f (node_of m high count a) done

      module _ (pos : 0 < capacity x.size) (s₁ a₁ : List ℕ) (k v : ℕ) (T : Went x s s₁ m a₁ done k v (splits (env_of t x s))) where
        g : splits e ≡ go T.node (done ++ T.new)
        g = sym (ap splits same) ∙ T.stage

        gives : (T.node.level ≡ suc (node_of m high count a).level) × (T.node.datoms ≡ split_up (capacity x.size) (node_of m high count a))
        unfolding env_of
        gives = split_gives e (node_of m high count a) done T.node _ g

        pub split_fewer : k < count
        split_fewer =
            omega (
              arith,
              split_shrinks (capacity x.size) (node_of m high count a) pos (omega (arith, node_count m high count a)),
              node_count m high count a,
              node_count m T.node.level k a₁,
              ap (λ (j : Node). length j.datoms) T.area,
              ap length gives.1,
            )

        pub rooting_on : Rooting t x s₀ w l m n a₀ o s₁ a₁ (high + 1) k v
        unfolding then
        rooting_on =
            let lev : T.node.level ≡ high + 1 = gives.0 ∙ ap suc (node_level m high count a) ∙ (let z : suc high ≡ high + 1 = omega arith in z) in
            let is : T.node ≡ node_of m (high + 1) k a₁ = sym T.area ∙ ap (λ (j : ℕ). node_of m j k a₁) lev in
            record {
              new = D.new ++ T.new;
              turns = D.turns - 1;
              wrote = wrote_more x s₀ w D.wrote (rw (rooting_count ∙ D.reach) at T.wrote);
              reach = omega (arith, T.count, rooting_count, D.reach, length-append D.new T.new);
              enough = omega (arith, split_fewer, D.enough);
              stage =
                  D.stage ∙ turn ∙ ap (λ (j : Stage Node). then j λ n₁ o₁. write_root e (D.turns - 1) n₁ o₁) g
                  ∙ ap₂ (λ (j : Node) (os : List Node). write_root e (D.turns - 1) j os) is (append_assoc o D.new T.new);
            }

      pub rooting_stop :
          (s₁ : List ℕ) (r : Refusal) (v : ℕ) → Stopped x s s₁ done r v (splits (env_of t x s)) → RootTold x s₀ s₁ o (Err (failed r v)) (write_root e n (node_of m l n a₀) o)
      unfolding then
      rooting_stop s₁ r v T =
          tell_no_root r (D.new ++ T.new) v
          (D.stage ∙ turn ∙ ap (λ (j : Stage Node). then j λ n₁ o₁. write_root e (D.turns - 1) n₁ o₁) (sym (ap splits same) ∙ T.stage)
          ∙ ap (λ (os : List Node). stop r os) (append_assoc o D.new T.new))
          (omega (arith, T.count, rooting_count, D.reach, here, length-append D.new T.new))
          (rw here (wrote_more x s₀ w D.wrote (rw (rooting_count ∙ D.reach) at T.wrote)))

    -- the end: what the top function gives is what the whole gives
    module _ (fits : count ≤ capacity x.size) where
      top : write_root e n (node_of m l n a₀) o ≡ root_of (env_of t x s) (children_of m (suc count) a) (node_of m high count a) done
      top =
          D.stage ∙ root_rest e D.turns (node_of m high count a) done (is_not_over t x s₀ m high count a fits)
          ∙ ap₂ (λ (f : Env) (cs : List PageId). root_of f cs (node_of m high count a) done) (sym same) (node_children m high count a)

      pub rooting_end :
          (s₁ : List ℕ) (r : Result Rooted Failed) → RootTold x s s₁ done r (root_of (env_of t x s) (children_of m (suc count) a) (node_of m high count a) done) →
          RootTold x s₀ s₁ o r (write_root e n (node_of m l n a₀) o)
      rooting_end s₁ r T = rw top (root_after x s₀ w o here D.wrote T)

-- one child is the root, several are written as the root
one_child : (e : Env) (m k : ℕ) (a : List ℕ) (n : Node) (o : List Node) → k ≡ 0 → root_of e (children_of m (suc k) a) n o ≡ go (child_at m a 0) o
unfolding root_of cells page_of word_at
one_child e m zero a n o z = ap (λ (j : ℕ). go (page (little (take 8 (drop j a)))) o) (sym (add-zero (32 * m)))
one_child e m (suc k) a n o z = absurd (omega arith)

more_children : (e : Env) (m k : ℕ) (a : List ℕ) (n : Node) (o : List Node) → 0 < k → root_of e (children_of m (suc k) a) n o ≡ put e n o
unfolding root_of cells
more_children e m zero a n o h = absurd (omega arith)
more_children e m (suc k) a n o h = refl

module _ (t : DatomOrd) (x : Extent) (s : List ℕ) (l m n : ℕ) (a : List ℕ) (o : List Node) where
  abbrev tops : Stage PageId
  tops = root_of (env_of t x s) (children_of m (suc n) a) (node_of m l n a) o

  pub top_one : n ≡ 0 → (x.count + length o) * x.size ≤ length s → RootTold x s s o (Ok (rooted (child_at m a 0) (length o))) tops
  top_one h room =
      tell_root (child_at m a 0) [] (length o)
      (one_child (env_of t x s) m n a (node_of m l n a) o h ∙ ap (λ (os : List Node). go (child_at m a 0) os) (sym (append-nil o))) (omega arith)
      (wrote_none x s (length o) room)

  module _ (h : 0 < n) where
    pub top_put : (s₁ : List ℕ) (id : PageId) → PutTold x s s₁ (node_of m l n a) o (Ok id) (put (env_of t x s) (node_of m l n a) o) →
        RootTold x s s₁ o (Ok (rooted id (length o + 1))) tops
    top_put s₁ id T =
        let u = put_is T in
        tell_root id (node_of m l n a ∷ []) (length o + 1) (more_children (env_of t x s) m n a (node_of m l n a) o h ∙ u.0) (omega arith) u.1

    pub top_refused : (s₁ : List ℕ) (f : Failed) → PutTold x s s₁ (node_of m l n a) o (Err f) (put (env_of t x s) (node_of m l n a) o) →
        (x.count + length o) * x.size ≤ length s → RootTold x s s₁ o (Err f) tops
    top_refused s₁ f T room =
        let u = put_is_not T in
        tell_no_root f.refusal [] f.written
        (more_children (env_of t x s) m n a (node_of m l n a) o h ∙ u.0 ∙ ap (λ (os : List Node). stop f.refusal os) (sym (append-nil o))) (omega (arith, u.2))
        (rw u.1 (wrote_none x s (length o) room))

-- the loop, whatever the order and whatever was written before
pub record Rises (x : Extent) (s₀ : List ℕ) (c w l m n : ℕ) (a₀ s a : List ℕ) (high count next : ℕ) : Type 0 where
  pub all : (t : DatomOrd) (o : List Node) → length o ≡ w → Rooting t x s₀ w l m n a₀ o s a high count next
  pub begun : Ready x s₀ c w
  pub few : count ≤ n
  pub low : high + count ≤ l + n
  pub same : length a ≡ length a₀

pub rises_start : (x : Extent) (s₀ : List ℕ) (c w l m n : ℕ) (a₀ : List ℕ) → Ready x s₀ c w → Rises x s₀ c w l m n a₀ s₀ a₀ l n w
rises_start x s₀ c w l m n a₀ R =
    record { all = λ t o e. rooting_start t x s₀ w l m n a₀ o e R.room; begun = R; few = omega arith; low = omega arith; same = refl }

module _ {x : Extent} {s₀ : List ℕ} {c w l m n : ℕ} {a₀ s a : List ℕ} {high count next : ℕ} (I : Rises x s₀ c w l m n a₀ s a high count next) where
  some : Rooting any_order x s₀ w l m n a₀ (blanks w) s a high count next
  some = I.all any_order (blanks w) (blanks_length w)

  pub rises_ready : Ready x s c next
  rises_ready = ready_after I.begun some.wrote some.reach

  pub rises_length : length s ≡ length s₀
  rises_length = wrote_length x s₀ w some.wrote

  abbrev whole : DatomOrd → List Node → Stage PageId
  whole t o = write_root (env_of t x s₀) n (node_of m l n a₀) o

  pub rises_end :
      count ≤ capacity x.size → (s₁ : List ℕ) (r : Result Rooted Failed) →
      ((t : DatomOrd) → Roots x s s₁ next r (root_of (env_of t x s) (children_of m (suc count) a) (node_of m high count a))) →
      (t : DatomOrd) → Roots x s₀ s₁ w r (whole t)
  rises_end fits s₁ r T t o e =
      let D = I.all t o e in
      rooting_end t x s₀ w l m n a₀ o e D fits s₁ r (T t (o ++ D.new) (rooting_count t x s₀ w l m n a₀ o e D))

  module _ (over : capacity x.size < count) where
    pub rises_stop :
        (s₁ a₁ : List ℕ) (r : Refusal) (v : ℕ) → ((t : DatomOrd) → Tells x s s₁ m a₁ next (Err (failed r v)) (split (env_of t x s) (node_of m high count a))) →
        (t : DatomOrd) → Roots x s₀ s₁ w (Err (failed r v)) (whole t)
    rises_stop s₁ a₁ r v T t o e =
        let D = I.all t o e in
        rooting_stop t x s₀ w l m n a₀ o e D over s₁ r v (stopped (T t (o ++ D.new) (rooting_count t x s₀ w l m n a₀ o e D)))

    module _ (s₁ a₁ : List ℕ) (k v : ℕ) (T : (t : DatomOrd) → Tells x s s₁ m a₁ next (Ok (placed k v)) (split (env_of t x s) (node_of m high count a))) where
      pos : 0 < capacity x.size
      pos = (in_order x s rises_ready.good).known.some

      pub rises_fewer : k < count
      rises_fewer =
          split_fewer any_order x s₀ w l m n a₀ (blanks w) (blanks_length w) some over pos s₁ a₁ k v
          (went (T any_order (blanks w ++ some.new) (rooting_count any_order x s₀ w l m n a₀ (blanks w) (blanks_length w) some)))

      pub rises_on : length a₁ ≡ length a → Rises x s₀ c w l m n a₀ s₁ a₁ (high + 1) k v
      rises_on same =
          record {
            all = λ t o e. let D = I.all t o e in
                rooting_on t x s₀ w l m n a₀ o e D over pos s₁ a₁ k v (went (T t (o ++ D.new) (rooting_count t x s₀ w l m n a₀ o e D)));
            begun = I.begun;
            few = omega (arith, I.few, rises_fewer);
            low = omega (arith, I.low, rises_fewer);
            same = same ∙ I.same;
          }
