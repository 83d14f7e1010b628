-- Flush, insert into a page, and the loop between them, in the rules' words.
use Rattle.std.specs.Prelude.{ℕ, zero, suc, ◌+◌, ◌-◌, ◌*◌, ◌≤◌, ◌<◌, Bool, true, false, ◌&&◌, ◌≡◌, refl, length, take, drop, get_or, Ok, Err}
use Rattle.std.proofs.Math.Decide.{dec_le}
use Rattle.std.proofs.Common.{arith, ◌∙◌, lt-ltb, le-ltb}
use mathlib.Core.List.{List, [], ◌++◌, append_assoc, append-nil}
use Rattle.std.proofs.Math.Path.{sym, ap, ap₂}
use Rattle.std.proofs.Math.ListN.{length-append}
use Rattle.store.specs.declared.PageId.{PageId}
use Rattle.store.specs.declared.Extent.{Extent}
use Rattle.store.specs.Words.{cells}
use Rattle.store.specs.Page.{none, page_of}
use Rattle.store.specs.Size.{capacity}
use Rattle.store.specs.Laws.{apart, cells_length}
use Rattle.store.specs.Cells.{pages_at}
use Rattle.datom.specs.declared.Datom.{Datom}
use Rattle.datom.specs.Datom.{datom_of, datoms_of}
use Rattle.index.specs.Order.{DatomOrd}
use Rattle.answer.specs.declared.Refusal.{Refusal}
use Rattle.answer.specs.declared.Fault.{Fault}
use Rattle.answer.specs.declared.Refusal.TheVariants.{Damaged}
use Rattle.rules.specs.Page.{Node, node_of, children_of, child_at}
use Rattle.rules.specs.Node.{longest_span, any_pending, splice}
use Rattle.rules.specs.Tree.{Env, Stage, stop, go, then, fetch_at, is_over, settle, Below, flush, flush_all, insert_merged, insert_into}
use Rattle.rules.specs.Store.{env_of}
use Rattle.rules.proofs.ReadLaws.{env_capped}
use Rattle.rules.proofs.Sizes.{Few, flush_no_bigger, insert_gives_few}
use Rattle.memory_store.specs.FetchLaws.{InOrder}
use Rattle.node.specs.declared.Span.{Span}
use Rattle.node.specs.Spans.{Spans}
use Rattle.htree.specs.Wrote.{Wrote, wrote_none, wrote_more, wrote_env}
use Rattle.htree.specs.Told.{node_count, Went, Stopped}
use Rattle.htree.specs.Load.{batch_at, Loads, loads_node, loads_bad}

-- insert into a page of the level below l
abbrev pub insert_lower : DatomOrd → Extent → List ℕ → ℕ → Below
insert_lower t x s l = λ p ds o. insert_into (env_of t x s) (l - 1) p ds o

node_lens : (m l n : ℕ) (a : List ℕ) → length (node_of m l n a).children ≡ suc (length (node_of m l n a).datoms)
unfolding node_of
node_lens m l n a = cells_length page_of 8 (suc n) (drop (32 * m) a) ∙ ap suc (sym (cells_length datom_of 32 n a))

-- a flush, from what the insert into the child gives; `sp` is the longest pending span
module _
    (x : Extent) (s : List ℕ) (l m n : ℕ) (a : List ℕ) (sp : Span) (P : Spans sp n (children_of m (suc n) a))
  where
    abbrev N : Node
    N = node_of m l n a

    -- the child that ends the span, and the span itself, as the code finds them
    sent :
        (ins : Below) (ds : List Datom) → ds ≡ drop sp.from (take sp.upto (datoms_of n a)) → (o : List Node) →
        flush ins N o ≡ then (ins (child_at m a sp.upto) ds o) λ k o₁. go (splice N (record { from = sp.from; upto = sp.upto }) k) o₁
    unfolding flush node_of
    sent ins ds e o =
        rw (← P.from, ← P.upto, e, pages_at (suc n) sp.upto (32 * m) a none (omega (arith, P.within)))

    module _ (ins : Below) (ds : List Datom) (e : ds ≡ drop sp.from (take sp.upto (datoms_of n a))) (o : List Node) where
      pub flush_stops :
          {s₁ : List ℕ} {r : Refusal} {v : ℕ} → Stopped x s s₁ o r v (ins (child_at m a sp.upto) ds o) → Stopped x s s₁ o r v (flush ins N o)
      unfolding then
      flush_stops T =
          record { new = T.new; stage = sent ins ds e o ∙ rw T.stage; count = T.count; wrote = T.wrote }

      pub flush_goes :
          {s₁ b : List ℕ} {k v : ℕ} → Went x s s₁ m b o k v (ins (child_at m a sp.upto) ds o) → (a₁ : List ℕ) →
          ((l₁ : ℕ) → node_of m l (n - (sp.upto - sp.from) + k) a₁ ≡ splice N (record { from = sp.from; upto = sp.upto }) (node_of m l₁ k b)) →
          n - (sp.upto - sp.from) + k ≤ m → Went x s s₁ m a₁ o (n - (sp.upto - sp.from) + k) v (flush ins N o)
      unfolding then splice node_of
      flush_goes T a₁ f few =
          record {
            node = splice N (record { from = sp.from; upto = sp.upto }) T.node;
            new = T.new;
            stage = sent ins ds e o ∙ rw T.stage;
            count = T.count;
            area = f T.node.level ∙ ap (λ (j : Node). splice N (record { from = sp.from; upto = sp.upto }) j) T.area;
            few = few;
            wrote = T.wrote;
          }

-- what comes back from an insert is at most what was sent
module _ (t : DatomOrd) (x : Extent) (s : List ℕ) (l : ℕ) (I : InOrder x s) (p : PageId) (ds : List Datom) (o : List Node) where
  pub comes_back : {s₁ b : List ℕ} {m k v : ℕ} → Went x s s₁ m b o k v (insert_into (env_of t x s) l p ds o) → k ≤ length ds
  comes_back {s₁} {b} {m} {k} {v} T =
      few (insert_into (env_of t x s) l p ds o) T.stage (insert_gives_few (env_of t x s) (env_capped t x s I.known.some) l p ds o)
    where
      few : (g : Stage Node) → g ≡ go T.node (o ++ T.new) → Few (length ds) g → k ≤ length ds
      few (stop r o₁) e f = absurd (apart (cc))
      few (go n₁ o₁) e f =
          let g : n₁ ≡ T.node = cc in
          omega (arith, f.0, node_count m T.node.level k b, ap (λ (j : Node). length j.datoms) T.area, ap (λ (j : Node). length j.datoms) g)

-- and a flush makes no node bigger
module _ (t : DatomOrd) (x : Extent) (s : List ℕ) (l : ℕ) (I : InOrder x s) (m n : ℕ) (a : List ℕ) (o : List Node) where
  pub no_bigger : {s₁ b : List ℕ} {k v : ℕ} → Went x s s₁ m b o k v (flush (insert_lower t x s l) (node_of m l n a) o) → k ≤ n
  no_bigger {s₁} {b} {k} {v} T =
      few (flush (insert_lower t x s l) (node_of m l n a) o) T.stage
      (flush_no_bigger (env_of t x s) (insert_lower t x s l) (insert_gives_few (env_of t x s) (env_capped t x s I.known.some) (l - 1)) (node_of m l n a) o (node_lens m l n a))
    where
      few : (g : Stage Node) → g ≡ go T.node (o ++ T.new) → Few (length (node_of m l n a).datoms) g → k ≤ n
      few (stop r o₁) e f = absurd (apart (cc))
      few (go n₁ o₁) e f =
          let g : n₁ ≡ T.node = cc in
          omega (arith, f.0, node_count m l n a, node_count m T.node.level k b, ap (λ (j : Node). length j.datoms) T.area, ap (λ (j : Node). length j.datoms) g)

-- a flush keeps the level
flush_level : (ins : Below) (n : Node) (o : List Node) (k : Node) (o₁ : List Node) → flush ins n o ≡ go k o₁ → k.level ≡ n.level
unfolding flush then splice
flush_level ins n o k o₁ e = side (ins (get_or n.children (longest_span n.children).upto none) (drop (longest_span n.children).from (take (longest_span n.children).upto n.datoms)) o) e
  where
    side : (f : Stage Node) → then f (λ j o₂. go (splice n (longest_span n.children) j) o₂) ≡ go k o₁ → k.level ≡ n.level
    side (stop r o₂) q = absurd (apart (cc))
    side (go j o₂) q = let g : splice n (longest_span n.children) j ≡ k = cc in rw (← g)

-- one turn of the rules' loop, or none
all_on :
    (e : Env) (ins : Below) (k : ℕ) (n : Node) (o : List Node) → is_over e n ≡ true → any_pending n.children ≡ true →
    flush_all e ins (suc k) n o ≡ then (flush ins n o) λ n₁ o₁. flush_all e ins k n₁ o₁
unfolding flush_all
all_on e ins k n o p q = rw (p, q, flush_all)

pub all_small : (e : Env) (ins : Below) (k : ℕ) (n : Node) (o : List Node) → is_over e n ≡ false → flush_all e ins k n o ≡ go n o
unfolding flush_all
all_small e ins zero n o p = refl
all_small e ins (suc k) n o p = rw (p, flush_all)

pub all_sent : (e : Env) (ins : Below) (k : ℕ) (n : Node) (o : List Node) → any_pending n.children ≡ false → flush_all e ins k n o ≡ go n o
unfolding flush_all
all_sent e ins zero n o p = refl
all_sent e ins (suc k) n o p = side (is_over e n) refl
  where
    side : (b : Bool) → is_over e n ≡ b → flush_all e ins (suc k) n o ≡ go n o
    side true q = rw (q, p, flush_all)
    side false q = rw (q, flush_all)

pub all_none : (e : Env) (ins : Below) (k : ℕ) (n : Node) (o : List Node) → k ≡ 0 → flush_all e ins k n o ≡ go n o
unfolding flush_all
all_none e ins zero n o z = refl
all_none e ins (suc k) n o z = absurd (omega arith)

-- the node in the area, by its count and children
pub is_over_law : (t : DatomOrd) (x : Extent) (s : List ℕ) (m l n : ℕ) (a : List ℕ) → capacity x.size < n → is_over (env_of t x s) (node_of m l n a) ≡ true
unfolding is_over env_of node_of
is_over_law t x s m l n a h = lt-ltb (capacity x.size) (length (cells datom_of 32 n a)) (omega (arith, cells_length datom_of 32 n a))

pub is_not_over : (t : DatomOrd) (x : Extent) (s : List ℕ) (m l n : ℕ) (a : List ℕ) → n ≤ capacity x.size → is_over (env_of t x s) (node_of m l n a) ≡ false
unfolding is_over env_of node_of
is_not_over t x s m l n a h = le-ltb (capacity x.size) (length (cells datom_of 32 n a)) (omega (arith, cells_length datom_of 32 n a))

pub node_level : (m l n : ℕ) (a : List ℕ) → (node_of m l n a).level ≡ l
unfolding node_of
node_level m l n a = refl

pub node_children : (m l n : ℕ) (a : List ℕ) → (node_of m l n a).children ≡ children_of m (suc n) a
unfolding node_of
node_children m l n a = refl

-- the loop: so many turns are left, and what they make of the node at hand is what was to be made of the first
pub record Draining (t : DatomOrd) (x : Extent) (s₀ : List ℕ) (w l m n : ℕ) (a₀ : List ℕ) (o : List Node) (s a : List ℕ) (turns count next : ℕ) : Type 0 where
  pub new : List Node
  pub wrote : Wrote x s₀ w new s
  pub reach : next ≡ w + length new
  pub stage :
      flush_all (env_of t x s₀) (insert_lower t x s₀ l) n (node_of m l n a₀) o
      ≡ flush_all (env_of t x s₀) (insert_lower t x s₀ l) turns (node_of m l count a) (o ++ new)

module _ (t : DatomOrd) (x : Extent) (s₀ : List ℕ) (w l m n : ℕ) (a₀ : List ℕ) (o : List Node) (here : length o ≡ w) where
  pub draining_start : (x.count + w) * x.size ≤ length s₀ → Draining t x s₀ w l m n a₀ o s₀ a₀ n n w
  draining_start room = record { new = []; wrote = wrote_none x s₀ w room; reach = omega arith; stage = ap (flush_all _ _ n _) (sym (append-nil o)) }

  module _ {s a : List ℕ} {turns count next : ℕ} (D : Draining t x s₀ w l m n a₀ o s a turns count next) where
    abbrev e : Env
    e = env_of t x s₀

    pub drained_count : length (o ++ D.new) ≡ next
    drained_count = omega (arith, length-append o D.new, D.reach)

    -- no turn is left, or none is needed: the node at hand is what is made
    pub drained :
        flush_all e (insert_lower t x s₀ l) turns (node_of m l count a) (o ++ D.new) ≡ go (node_of m l count a) (o ++ D.new) → count ≤ m →
        Went x s₀ s m a o count next (flush_all e (insert_lower t x s₀ l) n (node_of m l n a₀) o)
    unfolding node_of
    drained q few =
        record {
          node = node_of m l count a;
          new = D.new;
          stage = D.stage ∙ q;
          count = rw (D.reach, here);
          area = refl;
          few = few;
          wrote = rw here D.wrote;
        }

    module _ (left : ℕ) (more : turns ≡ suc left) (over : capacity x.size < count) (pending : any_pending (children_of m (suc count) a) ≡ true) where
      turn :
          flush_all e (insert_lower t x s₀ l) turns (node_of m l count a) (o ++ D.new)
          ≡ then (flush (insert_lower t x s₀ l) (node_of m l count a) (o ++ D.new)) λ n₁ o₁. flush_all e (insert_lower t x s₀ l) left n₁ o₁
      turn = rw more (all_on e (insert_lower t x s₀ l) left (node_of m l count a) (o ++ D.new) (is_over_law t x s₀ m l count a over) (rw (node_children m l count a) pending))

      same : env_of t x s ≡ e
      same = wrote_env x s₀ w D.wrote t

      abbrev flushed : Env → Stage Node
      flushed f = flush (λ p ds o₁. insert_into f (l - 1) p ds o₁) (node_of m l count a) (o ++ D.new)

      pub draining_on :
          (s₁ a₁ : List ℕ) (k v : ℕ) → Went x s s₁ m a₁ (o ++ D.new) k v (flush (insert_lower t x s l) (node_of m l count a) (o ++ D.new)) →
          Draining t x s₀ w l m n a₀ o s₁ a₁ left k v
      unfolding then
      draining_on s₁ a₁ k v T =
          let g : flushed e ≡ go T.node ((o ++ D.new) ++ T.new) = sym (ap flushed same) ∙ T.stage in
          let lev : T.node.level ≡ l = flush_level (insert_lower t x s₀ l) (node_of m l count a) (o ++ D.new) T.node _ g ∙ node_level m l count a in
          let is : T.node ≡ node_of m l k a₁ = sym T.area ∙ ap (λ (j : ℕ). node_of m j k a₁) lev in
          record {
            new = D.new ++ T.new;
            wrote = wrote_more x s₀ w D.wrote (rw (drained_count ∙ D.reach) at T.wrote);
            reach = omega (arith, T.count, drained_count, D.reach, length-append D.new T.new);
            stage =
                D.stage ∙ turn ∙ ap (λ (j : Stage Node). then j λ n₁ o₁. flush_all e (insert_lower t x s₀ l) left n₁ o₁) g
                ∙ ap₂ (λ (j : Node) (os : List Node). flush_all e (insert_lower t x s₀ l) left j os) is (append_assoc o D.new T.new);
          }

      pub draining_stop :
          (s₁ : List ℕ) (r : Refusal) (v : ℕ) → Stopped x s s₁ (o ++ D.new) r v (flush (insert_lower t x s l) (node_of m l count a) (o ++ D.new)) →
          Stopped x s₀ s₁ o r v (flush_all e (insert_lower t x s₀ l) n (node_of m l n a₀) o)
      unfolding then
      draining_stop s₁ r v T =
          let g : flushed e ≡ stop r ((o ++ D.new) ++ T.new) = sym (ap flushed same) ∙ T.stage in
          record {
            new = D.new ++ T.new;
            stage =
                D.stage ∙ turn ∙ ap (λ (j : Stage Node). then j λ n₁ o₁. flush_all e (insert_lower t x s₀ l) left n₁ o₁) g
                ∙ ap (λ (os : List Node). stop r os) (append_assoc o D.new T.new);
            count = omega (arith, T.count, drained_count, D.reach, here, length-append D.new T.new);
            wrote = rw here (wrote_more x s₀ w D.wrote (rw (drained_count ∙ D.reach) at T.wrote));
          }

-- so does the loop
pub flush_all_level : (e : Env) (ins : Below) (turns : ℕ) (n : Node) (o : List Node) (k : Node) (o₁ : List Node) → flush_all e ins turns n o ≡ go k o₁ → k.level ≡ n.level
unfolding flush_all then
flush_all_level e ins zero n o k o₁ q = let g : n ≡ k = cc in rw g
flush_all_level e ins (suc turns) n o k o₁ q = side (is_over e n && any_pending n.children) refl (λ j o₂ r. flush_all_level e ins turns j o₂ k o₁ r)
  where
    inner : ((j : Node) (o₂ : List Node) → flush_all e ins turns j o₂ ≡ go k o₁ → k.level ≡ j.level) →
        (f : Stage Node) → flush ins n o ≡ f → then f (λ j o₂. flush_all e ins turns j o₂) ≡ go k o₁ → k.level ≡ n.level
    inner ih (stop r o₂) u v = absurd (apart (cc))
    inner ih (go j o₂) u v = ih j o₂ v ∙ flush_level ins n o j o₂ u

    side : (b : Bool) → (is_over e n && any_pending n.children) ≡ b →
        ((j : Node) (o₂ : List Node) → flush_all e ins turns j o₂ ≡ go k o₁ → k.level ≡ j.level) → k.level ≡ n.level
    side false u ih = let g : go n o ≡ go k o₁ = rw (u, flush_all) at q in let h : n ≡ k = cc in rw h
    side true u ih = inner ih (flush ins n o) refl (rw (u, flush_all) at q)

-- insert into a page, whose level decides what comes between the merge and the end
insert_zero : (e : Env) (l : ℕ) (p : PageId) (ds : List Datom) (o : List Node) → l ≡ 0 → insert_into e l p ds o ≡ insert_merged e p ds (λ n o₁. go n o₁) (fetch_at e l p) o
unfolding insert_into
insert_zero e zero p ds o h = refl
insert_zero e (suc l) p ds o h = absurd (omega arith)

insert_suc :
    (e : Env) (l : ℕ) (p : PageId) (ds : List Datom) (o : List Node) → 0 < l →
    insert_into e l p ds o
    ≡ insert_merged e p ds (λ n o₁. flush_all e (λ p₁ ds₁ o₂. insert_into e (l - 1) p₁ ds₁ o₂) (length n.datoms) n o₁) (fetch_at e l p) o
unfolding insert_into
insert_suc e zero p ds o h = absurd (omega arith)
insert_suc e (suc l) p ds o h = ap (λ (j : ℕ). insert_merged e p ds (λ n o₁. flush_all e (λ p₁ ds₁ o₂. insert_into e j p₁ ds₁ o₂) (length n.datoms) n o₁) (fetch_at e (suc l) p) o) (let z : l ≡ suc l - 1 = omega arith in z)

-- insert into a page, from what was loaded
module _ (t : DatomOrd) (x : Extent) (s : List ℕ) (l : ℕ) (p : PageId) (a : List ℕ) (m n : ℕ) (a₁ : List ℕ) (o : List Node) where
  abbrev e₀ : Env
  e₀ = env_of t x s

  abbrev whole : Stage Node
  whole = insert_into e₀ l p (batch_at m n a) o

  pub insert_damaged :
      (g : Fault) → Loads t x s l p a m n a₁ (Err g) → (x.count + length o) * x.size ≤ length s →
      Stopped x s s o (Damaged p g) (length o) whole
  insert_damaged g (loads_bad same f) room =
      record { new = []; stage = stage (dec_le l 0) ∙ ap (λ (os : List Node). stop (Damaged p g) os) (sym (append-nil o)); count = omega arith; wrote = wrote_none x s (length o) room }
    where
      stage : Dec (l ≤ 0) → whole ≡ stop (Damaged p g) o
      stage (yes h) = insert_zero e₀ l p (batch_at m n a) o (omega arith) ∙ f _ o
      stage (no h) = insert_suc e₀ l p (batch_at m n a) o (omega (arith, h)) ∙ f _ o

  pub insert_leaf : {k : ℕ} → Loads t x s l p a m n a₁ (Ok k) → l ≡ 0 → whole ≡ settle e₀ (node_of m l k a₁) o
  unfolding then
  insert_leaf (loads_node few _ f) h = insert_zero e₀ l p (batch_at m n a) o h ∙ f _ o

  pub insert_inner :
      {k : ℕ} → Loads t x s l p a m n a₁ (Ok k) → 0 < l →
      whole ≡ then (flush_all e₀ (insert_lower t x s l) k (node_of m l k a₁) o) λ n₁ o₁. settle e₀ n₁ o₁
  insert_inner {k} (loads_node few _ f) h =
      insert_suc e₀ l p (batch_at m n a) o h ∙ f _ o
      ∙ ap (λ (j : ℕ). then (flush_all e₀ (insert_lower t x s l) j (node_of m l k a₁) o) λ n₁ o₁. settle e₀ n₁ o₁) (node_count m l k a₁)

  -- the loop was stopped
  pub inner_stops :
      {k : ℕ} → Loads t x s l p a m n a₁ (Ok k) → 0 < l → {s₁ : List ℕ} {r : Refusal} {v : ℕ} →
      Stopped x s s₁ o r v (flush_all e₀ (insert_lower t x s l) k (node_of m l k a₁) o) → Stopped x s s₁ o r v whole
  unfolding then
  inner_stops L h T = record { new = T.new; stage = insert_inner L h ∙ rw T.stage; count = T.count; wrote = T.wrote }

  -- or it went on to settle the node that it left
  module _ {k : ℕ} (L : Loads t x s l p a m n a₁ (Ok k)) (h : 0 < l) {s₁ a₂ : List ℕ} {j v : ℕ} (T : Went x s s₁ m a₂ o j v (flush_all e₀ (insert_lower t x s l) k (node_of m l k a₁) o)) where
    abbrev on : List Node
    on = o ++ T.new

    pub on_count : length on ≡ v
    on_count = omega (arith, length-append o T.new, T.count)

    settles : whole ≡ settle (env_of t x s₁) (node_of m l j a₂) on
    unfolding then
    settles =
        let lev : T.node.level ≡ l = flush_all_level e₀ (insert_lower t x s l) k (node_of m l k a₁) o T.node on T.stage ∙ node_level m l k a₁ in
        let is : T.node ≡ node_of m l j a₂ = sym T.area ∙ ap (λ (i : ℕ). node_of m i j a₂) lev in
        insert_inner L h ∙ ap (λ (g : Stage Node). then g λ n₁ o₁. settle e₀ n₁ o₁) T.stage
        ∙ ap₂ (λ (f : Env) (i : Node). settle f i on) (sym (wrote_env x s (length o) T.wrote t)) is

    pub inner_goes :
        {s₂ a₃ : List ℕ} {i u : ℕ} → Went x s₁ s₂ m a₃ on i u (settle (env_of t x s₁) (node_of m l j a₂) on) → Went x s s₂ m a₃ o i u whole
    inner_goes U =
        record {
          node = U.node;
          new = T.new ++ U.new;
          stage = settles ∙ U.stage ∙ ap (λ (os : List Node). go U.node os) (append_assoc o T.new U.new);
          count = omega (arith, U.count, length-append o T.new, length-append T.new U.new);
          area = U.area;
          few = U.few;
          wrote = wrote_more x s (length o) T.wrote (rw (length-append o T.new) at U.wrote);
        }

    pub inner_fails :
        {s₂ : List ℕ} {r : Refusal} {u : ℕ} → Stopped x s₁ s₂ on r u (settle (env_of t x s₁) (node_of m l j a₂) on) → Stopped x s s₂ o r u whole
    inner_fails {s₂} {r} {u} U =
        record {
          new = T.new ++ U.new;
          stage = settles ∙ U.stage ∙ ap (λ (os : List Node). stop r os) (append_assoc o T.new U.new);
          count = omega (arith, U.count, length-append o T.new, length-append T.new U.new);
          wrote = wrote_more x s (length o) T.wrote (rw (length-append o T.new) at U.wrote);
        }
