-- Demand 3, proved: what Statement says of a history holds, for any known page size; and what More says of a root. Rests on Listing,
-- Invariant and Roots.
use Rattle.std.specs.Prelude.{Ok}
use Rattle.std.specs.Prelude.{Err}
use Rattle.answer.specs.Answers.{Answer, done_with}
use Prim.Native.Nat.{ℕ, Ordering}
use Rattle.std.specs.Prelude.{true, false, List, ◌∷◌, ◌⊎◌, ◌↔◌, ◌≡◌, refl, length}
use Rattle.std.proofs.Common.{inl, inr, ◌∙◌, ap}
use mathlib.Core.Logic.Iff as Iff
use Rattle.store.specs.declared.PageId.{PageId}
use Rattle.store.specs.declared.Extent.{Extent}
use Rattle.store.specs.Size.{capacity}
use Rattle.store.specs.Laws.{apart}
use Rattle.datom.specs.declared.Datom.{Datom}
use Rattle.index.specs.Order.{DatomOrd}
use Rattle.index.proofs.Laws.{Preorder}
use Rattle.answer.specs.declared.Refusal.{Refusal}
use Rattle.answer.specs.declared.Refusal.TheVariants.{Repeated, TooTall, NoRoom}
use Rattle.rules.specs.Store.{bad_scratch}
use Rattle.rules.specs.Insert.{Outcome, sort, batch_of}
use Rattle.rules.specs.Calls.{extent_of, start_call}
use Rattle.rules.specs.Recorded.{held_call_law, check_call_law}
use Rattle.rules.specs.Listing.{whole}
use Rattle.rules.specs.Lists.{In, in_right, Rising, turned}
use Rattle.history.specs.Statement.{Known, Moment, at, inserts, given_root, given_batch, Lent, roots_after, outcome_of, Next, calls, appends, others, Later, now, next, History, gathered, Between, HandsOut, WellFormed, Shared, Demand3}
use Rattle.history.specs.More.{Answered, CursorsFit, Beyond3}
use Rattle.history.specs.Order.{clash}
use Rattle.history.specs.Fit.{read_small}
use Rattle.history.specs.Held.{Excused}
use Rattle.history.specs.Sort.{Fresh, within, sort_in, sort_rising, rising_once, within_in, within_rising}
use Rattle.history.proofs.Calls.{RootIs, root_known, Inserted, badly, early, met, stays, done}
use Rattle.history.proofs.Roots.{check_root_law}
use Rattle.history.proofs.Asked.{asked_ok}
use Rattle.history.proofs.Agree.{KnownOk, sort_agrees, within_agrees}
use Rattle.history.proofs.Heap.{at_laws, later_agrees}
use Rattle.history.proofs.Invariant.{inserted_at, inv}
use Rattle.history.proofs.Listing.{later_history, ready, later_goes, ListsFrom, lists}

-- a root stays known
one_more : (j k : Known) (b : List ℕ) (a : Answer) (ks : List Known) → In j ks → In j (roots_after k b a ks)
one_more j k b (Ok d) ks i = inr i
one_more j k b (Err r) ks i = i

pub later_known : {m m₁ : Moment} → Later m m₁ → (j : Known) → In j m.roots → In j m₁.roots
later_known now j i = i
later_known (next l n) j i = side n (later_known l j i)
  where
    side : {m m₁ : Moment} → Next m m₁ → In j m.roots → In j m₁.roots
    side {m} (calls c F) i = one_more j (given_root c) (given_batch c) (outcome_of m c).answer m.roots i
    side (appends c) i = i
    side (others s h e f) i = i

-- what Statement says of the list that is handed out settles it
pub between_once :
    (cmp : Datom → Datom → Ordering) → Preorder cmp → (lo hi : Datom) (u ds es : List Datom) → Between cmp lo hi u ds →
    Between cmp lo hi u es → ds ≡ es
between_once cmp L lo hi u ds es D E =
    rising_once cmp L ds es D.ascending E.ascending (λ x. Iff.trans (D.exactly x) (Iff.symm (E.exactly x)))

-- what a well-formed batch is answered
module _ (t : DatomOrd) (L : Preorder t.cmp) (x : Extent) (s : List ℕ) (scratch : ℕ) (u : List Datom) (b : List ℕ) where
  abbrev Shares : Type 0
  Shares = (d : Datom) × In d (batch_of b) × Shared t.cmp u d

  -- Repeated exactly if it shares a datom, and what More says of it
  record BatchAnswered (a : Answer) : Type 0 where
    pub repeated : ((i : ℕ) × (a ≡ Err (Repeated i))) ↔ Shares
    pub more : Answered t.cmp u (batch_of b) a

  -- a batch that shares nothing, and is not answered Repeated
  fresh_told :
      (a : Answer) → Fresh t.cmp (batch_of b) u → ((i : ℕ) → a ≡ Err (Repeated i) → ⊥) →
      ((root : PageId) × (n : ℕ) × (a ≡ done_with root n)) ⊎ ((a ≡ Err TooTall) ⊎ (a ≡ Err NoRoom)) → BatchAnswered a
  fresh_told a f n o =
      record {
        repeated = (λ r. absurd (n r.0 r.1), λ q. absurd (f q.0 q.2.0 q.1 q.2.1 (turned t.cmp L q.2.2)));
        more = record { first = λ i e. absurd (n i e); otherwise = λ q. o };
      }

  not_repeated : (r : Refusal) → Excused r → (i : ℕ) → ◌≡◌ {A = Answer} (Err r) (Err (Repeated i)) → ⊥
  not_repeated r (inl e) i q = apart (cc)
  not_repeated r (inr e) i q = apart (cc)

  told : {o : Outcome} → Inserted t x s scratch u b o → WellFormed t b → bad_scratch x scratch ≡ false → BatchAnswered o.answer
  told (badly y) w e = absurd (clash e y)
  told (early y n) w e = absurd (n w)
  told (met {i} F) w e =
      let shared : Shares = (F.datom, rw F.batch (in_right F.datom F.before (F.datom ∷ F.rest) (inl refl)), F.shared) in
      record {
        repeated = (λ r. shared, λ q. (i, refl));
        more = record {
          first = λ j q. let k : i ≡ j = cc in rw (← k) F;
          otherwise = λ n. absurd (n shared.0 shared.1 shared.2);
        };
      }
  told (stays {r} y f) w e = fresh_told (Err r) f (not_repeated r y) (inr (elim y [ inl q ↦ inl (rw q) | inr q ↦ inr (rw q) ]))
  told (done {root} {o} v f R) w e = fresh_told (done_with root (length o)) f (λ i q. apart (cc)) (inl (root, length o, refl))

-- what led to a root, in the order of a moment
abbrev pub ordered : Moment → Known → List Datom
ordered m k = sort (at m).cmp (gathered k.batches)

module _ (size : ℕ) (known : capacity size ≡ 0 → ⊥) where
  module _ (m : Moment) (h : History size m) (k : Known) (i : In k m.roots) where
    K : KnownOk (at m) (extent_of m.recorded) m.store k
    K = (inv size known h).known k i

    rising : Rising (at m).cmp (ordered m k)
    rising = sort_rising (at m).cmp (at_laws m) (gathered k.batches) K.distinct

    between : (lo hi : Datom) → Between (at m).cmp lo hi (gathered k.batches) (within (at m).cmp lo hi (ordered m k))
    between lo hi =
        record {
          exactly = λ x.
              let w = within_in (at m).cmp lo hi (ordered m k) x in
              let e = sort_in (at m).cmp (gathered k.batches) x in
              (λ j. (e.0 (w.0 j).0, (w.0 j).1, (w.0 j).2), λ j. w.1 (e.1 j.0, j.1, j.2));
          ascending = within_rising (at m).cmp lo hi (ordered m k) rising;
        }

    root_ordered : RootIs (at m) (extent_of m.recorded) m.store k.root (ordered m k)
    root_ordered =
        let R = K.root in
        record {
          level = R.level;
          tree = R.tree;
          holds = R.holds;
          good = R.good;
          exactly = λ y. Iff.trans (R.exactly y) (Iff.symm (sort_in (at m).cmp (gathered k.batches) y));
        }

    all_stored : (y : Datom) → In y (gathered k.batches) → (at m).stored y ≡ true
    all_stored y j = (K.stored y j).form

    ordered_stored : (y : Datom) → In y (ordered m k) → (at m).stored y ≡ true
    ordered_stored y j = all_stored y ((sort_in (at m).cmp (gathered k.batches) y).0 j)

    -- a listing that is begun at this moment
    listing :
        (lo hi : Datom) (a : (at m).bound lo ≡ true) (b : (at m).bound hi ≡ true) →
        ListsFrom m (ready size known h) (inv size known h).heap (inv size known h).order k.root (ordered m k) root_ordered rising ordered_stored lo hi a b
        (start_call m.recorded m.store m.heap k.root lo hi)
    listing lo hi a b =
        lists m (ready size known h) (inv size known h).heap (inv size known h).order k.root (ordered m k) root_ordered rising ordered_stored lo hi a b

    -- what lies between two bounds is the same at every later moment, word for word
    within_later :
        (m₁ : Moment) → Later m m₁ → (lo hi : Datom) → (at m).bound lo ≡ true → (at m).bound hi ≡ true →
        within (at m₁).cmp lo hi (ordered m₁ k) ≡ within (at m).cmp lo hi (ordered m k)
    within_later m₁ l lo hi a b =
        let A = later_agrees l in
        rw (sort_agrees (at m) (at m₁) A (gathered k.batches) all_stored)
        (within_agrees (at m) (at m₁) A lo hi a b (ordered m k) ordered_stored)

    answers :
        (b : List ℕ) → Lent m.store b → WellFormed (at m) b → (scratch : ℕ) → bad_scratch (extent_of m.recorded) scratch ≡ false →
        BatchAnswered (at m) (at_laws m) (extent_of m.recorded) m.store scratch (gathered k.batches) b (outcome_of m (inserts k b scratch)).answer
    answers b lent w scratch e =
        told (at m) (at_laws m) (extent_of m.recorded) m.store scratch (gathered k.batches) b
        (inserted_at size known (inv size known h) k i b scratch lent) w e

  -- the list that is handed out, computed
  pub hands_out :
      (m : Moment) → History size m → (k : Known) → In k m.roots → (lo hi : Datom) → (at m).bound lo ≡ true → (at m).bound hi ≡ true →
      HandsOut m k lo hi (within (at m).cmp lo hi (ordered m k))
  hands_out m h k i lo hi a b m₁ l s e =
      let h₁ : History size m₁ = later_history h l in
      let A = later_agrees l in
      let W = listing m₁ h₁ k (later_known l k i) lo hi (A.bound lo a) (A.bound hi b) in
      let z = within_later m h k i m₁ l lo hi a b in
      rw e (
        W.begun,
        λ when later n r w f. W.hands when (λ j. later_goes size known h₁ (later j)) n r w (rw z f) ∙ ap whole z,
      )

  cursors_fit :
      (m : Moment) → History size m → (k : Known) → In k m.roots → (lo hi : Datom) → (at m).bound lo ≡ true → (at m).bound hi ≡ true →
      CursorsFit m k lo hi
  cursors_fit m h k i lo hi a b short s e =
      let I = inv size known h in
      let F = (listing m h k i lo hi a b).fit (read_small (at m) (extent_of m.recorded) m.store (rw I.sized known) I.fits short) in
      rw e (F.0, λ when later n r w. F.1 when (λ j. later_goes size known h (later j)) n r w)

  pub demand : Demand3 size
  demand m h k i =
      record {
        listed = λ lo hi a b. (within (at m).cmp lo hi (ordered m k), between m h k i lo hi, hands_out m h k i lo hi a b);
        stays = λ m₁ l. later_known l k i;
        answered = λ b lent w scratch e. (answers m h k i b lent w scratch e).repeated;
        stored = all_stored m h k i;
      }

  pub beyond : Beyond3 size
  beyond m h k i =
      let I = inv size known h in
      let R = (K m h k i).root in
      record {
        answered = λ b lent w scratch e. (answers m h k i b lent w scratch e).more;
        asked = λ b w.
            rw (held_call_law m.recorded m.store m.heap I.heap I.order k.root b)
            (asked_ok (at m) (at_laws m) (extent_of m.recorded) m.store (gathered k.batches) (rw I.sized known) I.fits k.root R b w);
        cursors = cursors_fit m h k i;
        in_good_order = ready size known h;
        heap_in_order = I.heap;
        order_known = I.order;
        known = root_known (at m) (extent_of m.recorded) m.store k.root R.holds;
        sound =
            rw (check_call_law m.recorded m.store m.heap I.heap I.order k.root)
            (check_root_law (at m) (extent_of m.recorded) m.store (ready size known h) k.root (gathered k.batches) R);
        readable = I.readable;
      }
