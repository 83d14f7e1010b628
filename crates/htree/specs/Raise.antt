-- The whole of an insert at a root: what comes back of the root's page is the top, one level higher.
use Prim.Native.Nat.{ℕ, zero, suc, ◌+◌, ◌≤◌}
use native.Mathlib.Omega.{arith}
use Rattle.std.specs.Prelude.{Bool, true, false, List, ◌∷◌, [], ◌++◌, ◌≡◌, Result, Ok, Err}
use Rattle.std.proofs.Math.Path.{refl, sym, ap}
use Rattle.std.proofs.Common.{◌∙◌, ap₂, length-append}
use Rattle.std.proofs.Math.ListN.{length}
use Rattle.store.specs.declared.PageId.{PageId}
use Rattle.store.specs.declared.Extent.{Extent}
use Rattle.store.specs.Laws.{apart}
use Rattle.datom.specs.declared.Datom.{Datom}
use Rattle.index.specs.Order.{DatomOrd}
use Rattle.answer.specs.declared.Refusal.{Refusal}
use Rattle.rules.specs.Page.{Node, node_of}
use Rattle.rules.specs.Node.{meets, merge_node}
use Rattle.rules.specs.Tree.{Fetched, faulty, fine, Env, Stage, stop, go, then, fetch_at, put, is_over, settle, insert_merged, insert_into, write_root, insert_tree}
use Rattle.rules.specs.Store.{env_of}
use Rattle.rules.proofs.Sizes.{level_is}
use Rattle.htree.specs.declared.place.Failed.{Failed}
use Rattle.htree.specs.declared.root.Rooted.{Rooted}
use Rattle.htree.specs.Wrote.{wrote_env}
use Rattle.htree.specs.Told.{blanks, blanks_length, node_count, Ready, Tells, went, stopped, placed, failed}
use Rattle.htree.specs.Split.{ready_after}
use Rattle.htree.specs.Flush.{flush_all_level}
use Rattle.htree.specs.Root.{Roots, tell_no_root, root_after, split_gives}

-- what comes back stands one level higher
settle_level : (e : Env) (n : Node) (o : List Node) (k : Node) (o₁ : List Node) → settle e n o ≡ go k o₁ → k.level ≡ suc n.level
unfolding settle then
settle_level e n o k o₁ q = side (is_over e n) refl
  where
    one : (t : Stage PageId) → then t (λ id o₂. go (record { level = suc n.level; datoms = []; children = id ∷ [] }) o₂) ≡ go k o₁ → k.level ≡ suc n.level
    one (stop r o₂) v = absurd (apart (cc))
    one (go id o₂) v = let g : record { level = suc n.level; datoms = []; children = id ∷ [] } ≡ k = cc in rw (← g)

    side : (b : Bool) → is_over e n ≡ b → k.level ≡ suc n.level
    side true u = (split_gives e n o k o₁ (rw u at q)).0
    side false u = one (put e n o) (rw u at q)

-- of a page of level l, whatever is done with its merged node, if that keeps the level
merged_level :
    (e : Env) (p : PageId) (ds : List Datom) (l : ℕ) (f : Node → List Node → Stage Node) →
    ((n : Node) (o : List Node) (k : Node) (o₁ : List Node) → f n o ≡ go k o₁ → k.level ≡ n.level) →
    (o : List Node) (k : Node) (o₁ : List Node) → insert_merged e p ds f (fetch_at e l p) o ≡ go k o₁ → k.level ≡ suc l
unfolding insert_merged then fetch_at merge_node
merged_level e p ds l f keeps o k o₁ q = page (fetch_at e l p) refl q
  where
    after : (n : Node) (t : Stage Node) → f (merge_node e.cmp n ds) o ≡ t → then t (λ j o₂. settle e j o₂) ≡ go k o₁ → k.level ≡ suc n.level
    after n (stop r o₂) u v = absurd (apart (cc))
    after n (go j o₂) u v = settle_level e j o₂ k o₁ v ∙ ap suc (keeps (merge_node e.cmp n ds) o j o₂ u)

    side : (n : Node) (b : Bool) → meets e.cmp n.datoms ds ≡ b → insert_merged e p ds f (fine n) o ≡ go k o₁ → k.level ≡ suc n.level
    side n true u v = let g : stop _ o ≡ go k o₁ = rw u at v in absurd (apart (cc))
    side n false u v = after n (f (merge_node e.cmp n ds) o) refl (rw u at v)

    page : (r : Fetched) → fetch_at e l p ≡ r → insert_merged e p ds f r o ≡ go k o₁ → k.level ≡ suc l
    page (faulty g) u v = absurd (apart (cc))
    page (fine n) u v = side n (meets e.cmp n.datoms ds) refl v ∙ ap suc (level_is l (e.fetch p) n u)

insert_level : (e : Env) (l : ℕ) (p : PageId) (ds : List Datom) (o : List Node) (k : Node) (o₁ : List Node) → insert_into e l p ds o ≡ go k o₁ → k.level ≡ suc l
unfolding insert_into
insert_level e zero p ds o k o₁ q = merged_level e p ds 0 (λ n o₂. go n o₂) (λ n o₂ j o₃ g. let h : n ≡ j = cc in rw h) o k o₁ q
insert_level e (suc l) p ds o k o₁ q =
    merged_level e p ds (suc l) _ (λ n o₂ j o₃ g. flush_all_level e (λ p₁ ds₁ o₄. insert_into e l p₁ ds₁ o₄) (length n.datoms) n o₂ j o₃ g) o k o₁ q

-- the code's insert at a root: the insert, then the top of what comes back
module _ (t : DatomOrd) (x : Extent) (s : List ℕ) (l m : ℕ) (p : PageId) (ds : List Datom) (w : ℕ) where
  abbrev inserts : List Node → Stage Node
  inserts o = insert_into (env_of t x s) l p ds o

  pub raise_stops :
      (s₁ a₁ : List ℕ) (r : Refusal) (v : ℕ) → Tells x s s₁ m a₁ w (Err (failed r v)) inserts →
      Roots x s s₁ w (Err (failed r v)) (insert_tree (env_of t x s) l p ds)
  unfolding then insert_tree
  raise_stops s₁ a₁ r v T o e = let S = stopped (T o e) in
      tell_no_root r S.new v (ap (λ (g : Stage Node). then g λ n o₁. write_root (env_of t x s) (length n.datoms) n o₁) S.stage) S.count S.wrote

  module _ (s₁ a₁ : List ℕ) (k v : ℕ) (T : Tells x s s₁ m a₁ w (Ok (placed k v)) inserts) where
    pub raise_ready : {c : ℕ} → Ready x s c w → Ready x s₁ c v
    raise_ready R =
        let W = went (T (blanks w) (blanks_length w)) in
        ready_after R (rw (blanks_length w) at W.wrote) (W.count ∙ ap (λ (j : ℕ). j + length W.new) (blanks_length w))

    pub raise_few : k ≤ m
    raise_few = (went (T (blanks w) (blanks_length w))).few

    pub raise_goes :
        (s₂ : List ℕ) (r : Result Rooted Failed) → Roots x s₁ s₂ v r (write_root (env_of t x s₁) k (node_of m (l + 1) k a₁)) →
        Roots x s s₂ w r (insert_tree (env_of t x s) l p ds)
    unfolding then insert_tree
    raise_goes s₂ r U o e =
        let W = went (T o e) in
        let env : env_of t x s₁ ≡ env_of t x s = wrote_env x s (length o) W.wrote t in
        let lev : W.node.level ≡ l + 1 = insert_level (env_of t x s) l p ds o W.node _ W.stage ∙ (let z : suc l ≡ l + 1 = omega arith in z) in
        let is : node_of m (l + 1) k a₁ ≡ W.node = ap (λ (j : ℕ). node_of m j k a₁) (sym lev) ∙ W.area in
        let many : k ≡ length W.node.datoms = sym (node_count m (l + 1) k a₁) ∙ ap (λ (j : Node). length j.datoms) is in
        let same : insert_tree (env_of t x s) l p ds o ≡ write_root (env_of t x s₁) k (node_of m (l + 1) k a₁) (o ++ W.new) =
        ap (λ (g : Stage Node). then g λ n o₁. write_root (env_of t x s) (length n.datoms) n o₁) W.stage
        ∙ sym (ap₂ (λ (j : ℕ) (n : Node). write_root (env_of t x s) j n (o ++ W.new)) many is)
        ∙ sym (ap (λ (f : Env). write_root f k (node_of m (l + 1) k a₁) (o ++ W.new)) env) in
        rw same
        (root_after x s (length o) o refl W.wrote (U (o ++ W.new) (let g : length (o ++ W.new) ≡ v = sym (W.count ∙ sym (length-append o W.new)) in g)))
