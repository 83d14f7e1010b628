-- What the three functions of the cycle keep and promise: the loop of flushes, one flush, and insert into a page.
use Rattle.std.specs.Prelude.{ℕ, suc, ◌+◌, ◌-◌, ◌*◌, ◌≤◌, ◌<◌, true, false, List, ◌++◌, ◌≡◌, refl, length, take, drop, Result, Ok, Err}
use Rattle.std.proofs.Common.{add-mul, one-mul, arith, ◌∙◌, drop-drop}
use Rattle.store.specs.declared.PageId.{PageId}
use Rattle.store.specs.declared.Extent.{Extent}
use Rattle.store.specs.Size.{capacity}
use Rattle.store.specs.Laws.{cells_length}
use Rattle.datom.specs.Datom.{datom_of, datoms_of}
use Rattle.index.specs.Order.{DatomOrd}
use Rattle.answer.specs.declared.Refusal.{Refusal}
use Rattle.answer.specs.declared.Fault.{Fault}
use Rattle.answer.specs.declared.Refusal.TheVariants.{Damaged}
use Rattle.rules.specs.Page.{Node, node_of, children_of, child_at}
use Rattle.rules.specs.Node.{any_pending}
use Rattle.rules.specs.Tree.{Stage, flush, flush_all, insert_into, settle}
use Rattle.rules.specs.Store.{env_of}
use Rattle.memory_store.specs.FetchLaws.{InOrder, in_order}
use Rattle.node.specs.declared.Span.{Span}
use Rattle.node.specs.Spans.{Spans}
use Rattle.node.specs.Moves.{move_of, move_length}
use Rattle.node.specs.Splice.{Spliced}
use Rattle.node.specs.Frames.{node_framed, node_kept, lent, given_back, span_sent}
use Rattle.htree.specs.declared.place.Placed.{Placed}
use Rattle.htree.specs.declared.place.Failed.{Failed}
use Rattle.htree.specs.Wrote.{wrote_length}
use Rattle.htree.specs.Told.{blanks, blanks_length, Ready, Told, Tells, went, stopped, tell_went, tell_stopped, placed, failed}
use Rattle.htree.specs.Split.{ready_after}
use Rattle.htree.specs.Load.{batch_at, Loads, loads_node}
use Rattle.htree.specs.Flush.{insert_lower, flush_stops, flush_goes, comes_back, no_bigger, Draining, draining_start, drained, drained_count, draining_on, draining_stop, all_small, all_sent, all_none, is_not_over, node_children, insert_damaged, insert_leaf, inner_stops, on_count, inner_goes, inner_fails}

-- an area and what is behind it
pub area_fits : (l A B L : ℕ) → (l + 1) * A + B ≤ L → A + B ≤ L
area_fits l A B L h = omega (arith, add-mul l 1 A, one-mul A)

areas_fit : (l A B L : ℕ) → 0 < l → (l + 1) * A + B ≤ L → l * A + B ≤ L - A
areas_fit l A B L p h = omega (arith, add-mul l 1 A, one-mul A)

pub lower : (l : ℕ) → 0 < l → l - 1 + 1 ≡ l
lower l h = omega arith

-- the room of a flush at level l, in L bytes: its own area of A bytes, and behind it those of the lower levels and a batch of B bytes
pub record Rooms (l A B L : ℕ) : Type 0 where
  pub own : A + B ≤ L
  pub behind : l * A + B ≤ L - A
  pub next : A + B ≤ L - A

pub rooms : (l A B L : ℕ) → 0 < l → (l + 1) * A + B ≤ L → Rooms l A B L
rooms l A B L p h =
    let g = areas_fit l A B L p h in
    record { own = area_fits l A B L h; behind = g; next = area_fits (l - 1) A B (L - A) (rw (lower l p) g) }

-- the loop: it drains whatever was written before
pub record Drains (t : DatomOrd) (x : Extent) (s₀ : List ℕ) (c w l m n : ℕ) (a₀ s a : List ℕ) (turns count next : ℕ) : Type 0 where
  pub all : (o : List Node) → length o ≡ w → Draining t x s₀ w l m n a₀ o s a turns count next
  pub begun : Ready x s₀ c w
  pub few : count ≤ n
  pub same : length a ≡ length a₀

pub drains_start : (t : DatomOrd) (x : Extent) (s₀ : List ℕ) (c w l m n : ℕ) (a₀ : List ℕ) → Ready x s₀ c w → Drains t x s₀ c w l m n a₀ s₀ a₀ n n w
drains_start t x s₀ c w l m n a₀ R =
    record { all = λ o e. draining_start t x s₀ w l m n a₀ o e R.room; begun = R; few = omega arith; same = refl }

module _ {t : DatomOrd} {x : Extent} {s₀ : List ℕ} {c w l m n : ℕ} {a₀ s a : List ℕ} {turns count next : ℕ} (I : Drains t x s₀ c w l m n a₀ s a turns count next) where
  some : Draining t x s₀ w l m n a₀ (blanks w) s a turns count next
  some = I.all (blanks w) (blanks_length w)

  pub drains_ready : Ready x s c next
  drains_ready = ready_after I.begun some.wrote some.reach

  pub drains_length : length s ≡ length s₀
  drains_length = wrote_length x s₀ w some.wrote

  order : InOrder x s
  order = in_order x s drains_ready.good

  abbrev whole : List Node → Stage Node
  whole o = flush_all (env_of t x s₀) (insert_lower t x s₀ l) n (node_of m l n a₀) o

  module _ (fit : n ≤ m) (o : List Node) (e : length o ≡ w) where
    abbrev D : Draining t x s₀ w l m n a₀ o s a turns count next
    D = I.all o e

    -- it ends: the node fits, nothing is pending, or no turn is left
    pub drains_small : count ≤ capacity x.size → Told x s₀ s m a o (Ok (placed count next)) (whole o)
    drains_small h = tell_went (drained t x s₀ w l m n a₀ o e D (all_small _ _ turns _ _ (is_not_over t x s₀ m l count a h)) (omega (arith, I.few)))

    pub drains_sent : any_pending (children_of m (suc count) a) ≡ false → Told x s₀ s m a o (Ok (placed count next)) (whole o)
    drains_sent h = tell_went (drained t x s₀ w l m n a₀ o e D (all_sent _ _ turns _ _ (rw (node_children m l count a) h)) (omega (arith, I.few)))

    pub drains_none : turns ≡ 0 → Told x s₀ s m a o (Ok (placed count next)) (whole o)
    drains_none h = tell_went (drained t x s₀ w l m n a₀ o e D (all_none _ _ turns _ _ h) (omega (arith, I.few)))

  module _ (left : 0 < turns) (over : capacity x.size < count) (pending : any_pending (children_of m (suc count) a) ≡ true) where
    more : turns ≡ suc (turns - 1)
    more = omega arith

    pub drains_on :
        (s₁ a₁ : List ℕ) (k v : ℕ) → Tells x s s₁ m a₁ next (Ok (placed k v)) (flush (insert_lower t x s l) (node_of m l count a)) → length a₁ ≡ length a →
        Drains t x s₀ c w l m n a₀ s₁ a₁ (turns - 1) k v
    drains_on s₁ a₁ k v T same =
        record {
          all = λ o e. let D = I.all o e in
              draining_on t x s₀ w l m n a₀ o e D (turns - 1) more over pending s₁ a₁ k v (went (T (o ++ D.new) (drained_count t x s₀ w l m n a₀ o e D)));
          begun = I.begun;
          few =
              omega (
                arith,
                I.few,
                no_bigger t x s l order m count a (blanks w ++ some.new) (went (T (blanks w ++ some.new) (drained_count t x s₀ w l m n a₀ (blanks w) (blanks_length w) some))),
              );
          same = same ∙ I.same;
        }

    pub drains_stop :
        (s₁ a₁ : List ℕ) (r : Refusal) (v : ℕ) → Tells x s s₁ m a₁ next (Err (failed r v)) (flush (insert_lower t x s l) (node_of m l count a)) →
        (o : List Node) → length o ≡ w → Told x s₀ s₁ m a₁ o (Err (failed r v)) (whole o)
    drains_stop s₁ a₁ r v T o e =
        let D = I.all o e in
        tell_stopped
        (draining_stop t x s₀ w l m n a₀ o e D (turns - 1) more over pending s₁ r v (stopped (T (o ++ D.new) (drained_count t x s₀ w l m n a₀ o e D))))

-- one flush: the span goes behind the area's successor, the child's insert works behind the area, and what comes back is spliced in
module _ (x : Extent) (s : List ℕ) (c w l m n : ℕ) (a : List ℕ) (R : Ready x s c w) (sp : Span) (P : Spans sp n (children_of m (suc n) a)) (fit : n ≤ m)
    (big : 40 * m + 8 + (40 * m + 8) + 32 * m ≤ length a)
  where
    abbrev own : ℕ
    own = 40 * m + 8

    abbrev k : ℕ
    k = sp.upto - sp.from

    abbrev pub sent_to : List ℕ
    sent_to = move_of a (32 * sp.from) (own + own) (32 * k)

    pub sent_length : length sent_to ≡ length a
    sent_length = move_length a (32 * sp.from) (own + own) (32 * k) (omega (arith, P.rises, P.within)) (omega (arith, P.rises, P.within))

    -- what the child finds
    abbrev pub behind : List ℕ
    behind = take (length sent_to - own) (drop own sent_to)

    batch_is : batch_at m k behind ≡ drop sp.from (take sp.upto (datoms_of n a))
    batch_is =
        rw (lent own sent_to, drop-drop)
        (span_sent n sp.from sp.upto (own + own) a P.rises P.within (omega (arith, P.rises, P.within)) (omega arith))

    batch_length : length (batch_at m k behind) ≡ k
    batch_length = cells_length datom_of 32 k (drop own behind)

    abbrev child : PageId
    child = child_at m a sp.upto

    abbrev pub back : List ℕ → List ℕ
    back b₁ = take own sent_to ++ (b₁ ++ drop (length sent_to - own) (drop own sent_to))

    node_same : (b₁ : List ℕ) → node_of m l n (back b₁) ≡ node_of m l n a
    node_same b₁ =
        node_framed m l n fit sent_to _ (omega (arith, sent_length))
        ∙ node_kept m l n fit a (own + own) (take (32 * k) (drop (32 * sp.from) a)) (omega arith) (omega arith)

    module _ (t : DatomOrd) where
      abbrev inner : List Node → Stage Node
      inner o = insert_into (env_of t x s) (l - 1) child (batch_at m k behind) o

      pub flush_fails :
          (s₁ b₁ a₁ : List ℕ) (r : Refusal) (v : ℕ) → Tells x s s₁ m b₁ w (Err (failed r v)) inner →
          Tells x s s₁ m a₁ w (Err (failed r v)) (flush (insert_lower t x s l) (node_of m l n a))
      flush_fails s₁ b₁ a₁ r v T o e = tell_stopped (flush_stops x s l m n a sp P (insert_lower t x s l) _ batch_is o (stopped (T o e)))

      -- no more come back than went down
      pub flush_back : (s₁ b₁ : List ℕ) (j v : ℕ) → Tells x s s₁ m b₁ w (Ok (placed j v)) inner → j ≤ k
      flush_back s₁ b₁ j v T =
          omega
          (arith, batch_length, comes_back t x s (l - 1) (in_order x s R.good) child (batch_at m k behind) (blanks w) (went (T (blanks w) (blanks_length w))))

      pub flush_done :
          (s₁ b₁ a₁ : List ℕ) (j v : ℕ) → Tells x s s₁ m b₁ w (Ok (placed j v)) inner → Spliced m n sp.from sp.upto j (back b₁) a₁ →
          Tells x s s₁ m a₁ w (Ok (placed (n - k + j) v)) (flush (insert_lower t x s l) (node_of m l n a))
      flush_done s₁ b₁ a₁ j v T S o e =
          tell_went
          (flush_goes x s l m n a sp P (insert_lower t x s l) _ batch_is o (went (T o e)) a₁
          (λ l₁. rw (node_same b₁, given_back own sent_to b₁ (omega (arith, sent_length))) at (S.node l l₁))
          (omega (arith, flush_back s₁ b₁ j v T, P.rises, P.within)))

-- insert into a page, from what was loaded
module _ (t : DatomOrd) (x : Extent) (s : List ℕ) (c w l : ℕ) (p : PageId) (a : List ℕ) (m n : ℕ) (a₁ : List ℕ) where
  abbrev inserts : List Node → Stage Node
  inserts o = insert_into (env_of t x s) l p (batch_at m n a) o

  pub insert_bad :
      Ready x s c w → (f : Fault) → Loads t x s l p a m n a₁ (Err f) → (a₂ : List ℕ) →
      Tells x s s m a₂ w (Err (failed (Damaged p f) w)) inserts
  insert_bad R f L a₂ o e = rw (← e) (tell_stopped (insert_damaged t x s l p a m n a₁ o f L (rw e R.room)))

  module _ {k : ℕ} (L : Loads t x s l p a m n a₁ (Ok k)) where
    pub loads_few : k ≤ capacity x.size + n
    loads_few = few L
      where
        few : Loads t x s l p a m n a₁ (Ok k) → k ≤ capacity x.size + n
        few (loads_node f same g) = f

    pub insert_flat : l ≡ 0 → (s₁ a₂ : List ℕ) (r : Result Placed Failed) → Tells x s s₁ m a₂ w r (settle (env_of t x s) (node_of m l k a₁)) → Tells x s s₁ m a₂ w r inserts
    insert_flat h s₁ a₂ r T o e = rw (insert_leaf t x s l p a m n a₁ o L h) (T o e)

    module _ (h : 0 < l) where
      abbrev drained_stage : List Node → Stage Node
      drained_stage o = flush_all (env_of t x s) (insert_lower t x s l) k (node_of m l k a₁) o

      pub insert_stops : (s₁ a₂ : List ℕ) (r : Refusal) (v : ℕ) → Tells x s s₁ m a₂ w (Err (failed r v)) drained_stage → Tells x s s₁ m a₂ w (Err (failed r v)) inserts
      insert_stops s₁ a₂ r v T o e = tell_stopped (inner_stops t x s l p a m n a₁ o L h (stopped (T o e)))

      module _ (s₁ a₂ : List ℕ) (j v : ℕ) (T : Tells x s s₁ m a₂ w (Ok (placed j v)) drained_stage) where
        pub went_ready : Ready x s c w → Ready x s₁ c v
        went_ready R = let W = went (T (blanks w) (blanks_length w)) in ready_after R (rw (blanks_length w) at W.wrote) (rw (blanks_length w) at W.count)

        pub went_few : j ≤ m
        went_few = (went (T (blanks w) (blanks_length w))).few

        pub insert_goes : (s₂ a₃ : List ℕ) (r : Result Placed Failed) → Tells x s₁ s₂ m a₃ v r (settle (env_of t x s₁) (node_of m l j a₂)) → Tells x s s₂ m a₃ w r inserts
        insert_goes s₂ a₃ r U o e =
            let W = went (T o e) in
            on r (U (o ++ W.new) (on_count t x s l p a m n a₁ o L h W))
          where
            on :
                (r : Result Placed Failed) →
                Told x s₁ s₂ m a₃ (o ++ (went (T o e)).new) r (settle (env_of t x s₁) (node_of m l j a₂) (o ++ (went (T o e)).new)) →
                Told x s s₂ m a₃ o r (inserts o)
            on (Ok p₁) W = tell_went (inner_goes t x s l p a m n a₁ o L h (went (T o e)) (went W))
            on (Err f) W = tell_stopped (inner_fails t x s l p a m n a₁ o L h (went (T o e)) (stopped W))
