-- What insert and initialise answer at a root whose pages hold a good tree, and what they leave. Rests on Checks, Look and Grow.
use Rattle.std.specs.Prelude.{Err}
use Rattle.answer.specs.Answers.{done_with}
use Rattle.std.specs.Prelude.{ℕ, suc, ◌*◌, ◌≤◌, ◌<◌, Bool, ◌⊎◌, ◌↔◌, ◌≡◌, length, get_or, replicate}
use Rattle.std.proofs.Common.{arith, lt-ltb}
use Rattle.std.proofs.Math.Bool.{true, false}
use mathlib.Core.List.{List, [], ◌∷◌}
use Rattle.std.proofs.Math.Logic.{inl, inr}
use Rattle.std.proofs.Math.Path.{refl}
use Rattle.store.specs.declared.PageId.{PageId}
use Rattle.store.specs.declared.Extent.{Extent}
use Rattle.store.specs.Page.{none}
use Rattle.store.specs.Size.{capacity}
use Rattle.datom.specs.declared.Datom.{Datom}
use Rattle.index.specs.Order.{DatomOrd}
use Rattle.index.proofs.Laws.{Preorder}
use Rattle.answer.specs.declared.Refusal.{Refusal}
use Rattle.answer.specs.declared.Refusal.TheVariants.{BadStore, Repeated}
use Rattle.rules.specs.Page.{Node}
use Rattle.rules.specs.Tree.{Fetched, fine, Env, Stage, insert_tree}
use Rattle.rules.specs.Lookup.{Finding}
use Rattle.rules.specs.Store.{or_else, bad_scratch, bad_root, fetch_page, env_of}
use Rattle.rules.specs.Insert.{Outcome, refuse, outcome, store_fault, root_fault, sort, leaf_of, fresh_tree, write_fresh, insert_at, insert_under, insert_counted, initialise_counted, batch_of, insert_bytes, initialise_bytes}
use Rattle.rules.specs.Lists.{In, Rising}
use Rattle.rules.proofs.ReadLaws.{fetch_tells}
use Rattle.rules.proofs.Sizes.{level_is, level_fine}
use Rattle.history.specs.Statement.{Lent, WellFormed}
use Rattle.history.specs.More.{FirstShared}
use Rattle.history.specs.Tree.{Tree, blank, last, Good, Exactly, pending, pending_in, pending_good}
use Rattle.history.specs.Pages.{page, child, Holds, no_page, a_page, h_last, h_item, Stored, leaf_full, none_is}
use Rattle.history.specs.Look.{Lookups, none_met, some_met, lookups_ok}
use Rattle.history.specs.Held.{held, EnvOk, Storable, none_written, same_more, Excused, Goes, stops, goes, goes_map, at_own}
use Rattle.history.specs.Grow.{regrown, Rooted, write_root_ok, insert_tree_ok}
use Rattle.history.specs.After.{in_order, env_ok}
use Rattle.history.specs.Sort.{Distinct, Fresh, rising_distinct, sort_in, sort_rising}
use Rattle.history.specs.Checks.{Early, Finds, is_clear, is_found, finds_even, finds_few, finds_word, finds_order, finds_distinct}
use Rattle.history.specs.Batch.{batch_words}

-- a root as the pages hold it: a good tree of exactly the datoms of u
pub record RootIs (t : DatomOrd) (x : Extent) (s : List ℕ) (root : PageId) (u : List Datom) : Type 0 where
  pub level : ℕ
  pub tree : Tree
  pub holds : Holds (fetch_page t x s) (child level root) tree
  pub good : Good t.cmp tree
  pub exactly : Exactly (λ y. In y u) tree

-- a call of insert: refused for scratch or for its batch, Repeated, out of levels or room, or done
pub data Inserted (t : DatomOrd) (x : Extent) (s : List ℕ) (scratch : ℕ) (u : List Datom) (b : List ℕ) : Outcome → Type 0 where
  badly : bad_scratch x scratch ≡ true → Inserted t x s scratch u b (refuse BadStore)
  early : {r : Refusal} → Early r → (WellFormed t b → ⊥) → Inserted t x s scratch u b (refuse r)
  met : {i : ℕ} → FirstShared t.cmp u (batch_of b) i → Inserted t x s scratch u b (refuse (Repeated i))
  stays :
      {r : Refusal} {o : List Node} → Excused r → Fresh t.cmp (batch_of b) u →
      Inserted t x s scratch u b (record { answer = Err r; pages = o })
  done :
      {root : PageId} {o : List Node} → WellFormed t b → Fresh t.cmp (batch_of b) u →
      Rooted t (env_of t x s) (λ y. In y u ⊎ In y (batch_of b)) [] root o →
      Inserted t x s scratch u b (record { answer = done_with root (length o); pages = o })

-- what any call leaves: a refusal, or a root that holds the datoms that it held and the batch
pub data Called (t : DatomOrd) (x : Extent) (s : List ℕ) (u b : List Datom) : Outcome → Type 0 where
  refuses : {r : Refusal} {o : List Node} → Called t x s u b (record { answer = Err r; pages = o })
  accepts :
      {root : PageId} {o : List Node} → Distinct t.cmp b → ((y : Datom) → In y b → Storable t y) → Fresh t.cmp b u →
      Rooted t (env_of t x s) (λ y. In y u ⊎ In y b) [] root o → Called t x s u b (record { answer = done_with root (length o); pages = o })

-- the datoms of a batch may be stored
may :
    (t : DatomOrd) (b : List ℕ) → ((i : ℕ) → get_or b i 0 < 256) → ((y : Datom) → In y (batch_of b) → t.stored y ≡ true) → (y : Datom) →
    In y (batch_of b) → Storable t y
may t b h f y i = record { form = f y i; words = batch_words b h y i }

pub called :
    (t : DatomOrd) (x : Extent) (s : List ℕ) (scratch : ℕ) (u : List Datom) (b : List ℕ) {o : Outcome} → Lent s b →
    Inserted t x s scratch u b o →
    Called t x s u (batch_of b) o
called t x s scratch u b lent (badly y) = refuses
called t x s scratch u b lent (early y n) = refuses
called t x s scratch u b lent (met y) = refuses
called t x s scratch u b lent (stays y f) = refuses
called t x s scratch u b lent (done w f R) = accepts (rising_distinct t.cmp (batch_of b) w.order) (may t b lent.bytes w.form) f R

-- past a check
check :
    (C : Outcome → Type 0) {P : Type 0} {f : Finding} (rest : Outcome) → Finds P f → ((r : Refusal) → Early r → (P → ⊥) → C (refuse r)) →
    (P → C rest) →
    C (or_else refuse f rest)
check C rest (is_clear p) e k = k p
check C rest (is_found {r} y n) e k = e r y n

leaf_holds : (f : PageId → Fetched) (ds : List Datom) → Holds f (page 0 ds (replicate (suc (length ds)) none)) (pending ds (last blank))
leaf_holds f [] = h_last (no_page none_is) tt
leaf_holds f (d ∷ ds) = h_item d (no_page none_is) (leaf_holds f ds)

module _ (t : DatomOrd) (e : Env) (E : EnvOk e) where
  -- what is written where there is no tree
  fresh_ok :
      (ds : List Datom) → Rising e.cmp ds → ((y : Datom) → In y ds → Storable t y) →
      Goes (Rooted t e (λ y. In y ds) []) (fresh_tree e ds [])
  unfolding leaf_of
  fresh_ok ds r a =
      write_root_ok t e E (λ y. In y ds) a [] (length ds) 0 (leaf_of ds) [] refl
      (record {
        grown = record {
          tree = pending ds (last blank);
          holds = leaf_holds (held e []) ds;
          good = pending_good e.cmp ds (last blank) tt r (λ y z i j. absurd j) (λ y z i j. absurd j);
          exactly = λ y. let e = pending_in ds (last blank) y in (λ i. elim (e.0 i) [ inl j ↦ absurd j | inr j ↦ j ], λ i. e.1 (inr i));
          more = same_more (none_written t e);
        };
        full = leaf_full (leaf_holds (held e []) ds);
      })
      (omega arith)

-- "5 NoPage: root neither none nor below the count"
pub root_known :
    (t : DatomOrd) (x : Extent) (s : List ℕ) {l : ℕ} {tr : Tree} (root : PageId) → Holds (fetch_page t x s) (child l root) tr →
    bad_root x root ≡ false
unfolding bad_root
root_known t x s root (no_page n) = rw n
root_known t x s root (a_page {l} {n} r q h) =
    rw (r, lt-ltb root.0 x.count (fetch_tells t x s root n (level_fine l (fetch_page t x s root) n q)).0)

-- other words for what a root holds
rerooted :
    {t : DatomOrd} {e : Env} {P Q : Datom → Type 0} {root : PageId} {o₁ : List Node} → ((y : Datom) → P y ↔ Q y) → Rooted t e P [] root o₁ →
    Rooted t e Q [] root o₁
rerooted {t} {e} s R = record { level = R.level; grown = regrown s (same_more (none_written t e)) R.grown }

module _
    (t : DatomOrd) (L : Preorder t.cmp) (x : Extent) (s : List ℕ) (known : capacity x.size ≡ 0 → ⊥) (fits : x.count * x.size ≤ length s)
  where
    module _
        (scratch : ℕ) (u : List Datom) (stored : (y : Datom) → In y u → Storable t y) (b : List ℕ) (lent : Lent s b)
      where
        E : EnvOk (env_of t x s)
        E = env_ok t L x s known fits lent.short

        finish :
            WellFormed t b → Fresh t.cmp (batch_of b) u → (st : Stage PageId) →
            Goes (Rooted t (env_of t x s) (λ y. In y u ⊎ In y (batch_of b)) []) st → Inserted t x s scratch u b (outcome st)
        unfolding outcome
        finish w f st (stops y) = stays y f
        finish w f st (goes q) = done w f q

        at_page :
            (tr : Tree) (root : PageId) (n : Node) → fetch_page t x s root ≡ fine n →
            Holds (fetch_page t x s) (page n.level n.datoms n.children) tr →
            Good t.cmp tr → Exactly (λ y. In y u) tr → WellFormed t b →
            Inserted t x s scratch u b (insert_at (env_of t x s) root (batch_of b) (fine n))
        unfolding insert_at env_of
        at_page tr root n read h g ex w = side (lookups_ok (env_of t x s) L n.level root n tr g h 0 (batch_of b))
          where
            st : Stored (fetch_page t x s) n.level root tr
            st = record { node = n; read = rw read (at_own n.level n refl); holds = h }

            side :
                {f : Finding} → Lookups t.cmp tr 0 (batch_of b) f →
                Inserted t x s scratch u b (or_else refuse f (outcome (insert_tree (env_of t x s) n.level root (batch_of b) [])))
            side (none_met a) =
                finish w (λ y z i j. a y z i ((ex z).1 j)) _
                (goes_map
                (λ r o q. rerooted (λ y.
                (λ i. elim i [ inl j ↦ inl ((ex y).0 j) | inr j ↦ inr j ], λ i. elim i [ inl j ↦ inl ((ex y).1 j) | inr j ↦ inr j ])) q)
                (insert_tree_ok t (env_of t x s) E n.level root (batch_of b) tr st g w.order a
                (λ y i. elim i [ inl j ↦ stored y ((ex y).0 j) | inr j ↦ may t b lent.bytes w.form y j ])))
            side (some_met {j} before d rest p z m c) =
                met {i = j}
                (record {
                  before = before;
                  datom = d;
                  rest = rest;
                  batch = p;
                  index = omega (arith, z);
                  shared = (m.0, (ex m.0).0 m.1, m.2);
                  first = λ y i v. c y i (v.0, (ex v.0).1 v.1, v.2);
                })

        at_root :
            {l : ℕ} {root : PageId} {tr : Tree} → Holds (fetch_page t x s) (child l root) tr → Good t.cmp tr → Exactly (λ y. In y u) tr →
            WellFormed t b →
            Inserted t x s scratch u b (insert_under t x s root (batch_of b))
        unfolding insert_under write_fresh env_of
        at_root (no_page n) g ex w =
            rw n
            (finish w (λ y z i j q. (ex z).1 j) _
            (goes_map (λ r o q. rerooted (λ y. (λ i. inr i, λ i. elim i [ inl j ↦ absurd ((ex y).1 j) | inr j ↦ j ])) q)
            (fresh_ok t (env_of t x s) E (batch_of b) w.order (may t b lent.bytes w.form))))
        at_root {root} {tr} (a_page {l} {n} r q h) g ex w =
            let read : fetch_page t x s root ≡ fine n = level_fine l (fetch_page t x s root) n q in
            rw (r, read) (at_page tr root n read (rw (level_is l (fetch_page t x s root) n q) h) g ex w)

        pub insert_ok : (root : PageId) → RootIs t x s root u → Inserted t x s scratch u b (insert_bytes t x s scratch root b)
        unfolding insert_bytes insert_counted store_fault root_fault
        insert_ok root R = side (bad_scratch x scratch) refl
          where
            side : (v : Bool) → bad_scratch x scratch ≡ v → Inserted t x s scratch u b (insert_bytes t x s scratch root b)
            side true e = rw (in_order x s known fits, e) (badly e)
            side false e =
                rw (in_order x s known fits, e, root_known t x s root R.holds)
                (check (Inserted t x s scratch u b) _ (finds_even b) (λ r y n. early y λ w. n w.multiple) λ even.
                check (Inserted t x s scratch u b) _ (finds_few (batch_of b)) (λ r y n. early y λ w. n w.few) λ few.
                check (Inserted t x s scratch u b) _ (finds_word t (batch_of b)) (λ r y n. early y λ w. n (w.formed, w.form)) λ form.
                check (Inserted t x s scratch u b) _ (finds_order t.cmp L (batch_of b)) (λ r y n. early y λ w. n w.order) λ order.
                at_root R.holds R.good R.exactly (record { multiple = even; few = few; formed = form.0; form = form.1; order = order }))

    pub initialise_ok : (scratch : ℕ) (b : List ℕ) → Lent s b → Called t x s [] (batch_of b) (initialise_bytes t x s scratch b)
    unfolding initialise_bytes initialise_counted store_fault write_fresh outcome env_of
    initialise_ok scratch b lent = side (bad_scratch x scratch) refl
      where
        finish :
            Distinct t.cmp (batch_of b) → ((y : Datom) → In y (batch_of b) → Storable t y) → (st : Stage PageId) →
            Goes (Rooted t (env_of t x s) (λ y. In y (sort t.cmp (batch_of b))) []) st → Called t x s [] (batch_of b) (outcome st)
        finish d a st (stops y) = refuses
        finish d a st (goes q) =
            accepts d a (λ y z i j q. j)
            (rerooted (λ y.
            let e = sort_in t.cmp (batch_of b) y in (λ i. inr (e.0 i), λ i. elim i [ inl j ↦ absurd j | inr j ↦ e.1 j ])) q)

        written :
            ((y : Datom) → In y (batch_of b) → t.stored y ≡ true) → Distinct t.cmp (batch_of b) →
            Called t x s [] (batch_of b) (write_fresh (env_of t x s) (sort t.cmp (batch_of b)))
        written form d =
            let a : (y : Datom) → In y (batch_of b) → Storable t y = may t b lent.bytes form in
            finish d a _
            (fresh_ok t (env_of t x s) (env_ok t L x s known fits lent.short) (sort t.cmp (batch_of b)) (sort_rising t.cmp L (batch_of b) d)
            (λ y i. a y ((sort_in t.cmp (batch_of b) y).0 i)))

        side : (v : Bool) → bad_scratch x scratch ≡ v → Called t x s [] (batch_of b) (initialise_bytes t x s scratch b)
        side true e = rw (in_order x s known fits, e) refuses
        side false e =
            rw (in_order x s known fits, e)
            (check (Called t x s [] (batch_of b)) _ (finds_even b) (λ r y n. refuses) λ even.
            check (Called t x s [] (batch_of b)) _ (finds_few (batch_of b)) (λ r y n. refuses) λ few.
            check (Called t x s [] (batch_of b)) _ (finds_word t (batch_of b)) (λ r y n. refuses) λ form.
            check (Called t x s [] (batch_of b)) _ (finds_distinct t.cmp L (batch_of b)) (λ r y n. refuses) λ d. written form.1 d)
