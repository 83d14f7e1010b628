-- The refusals before anything is written, one after another, as the entries find them.
use Rattle.std.specs.Prelude.{ℕ, ◌*◌, ◌≤◌, Bool, ◌||◌, List, [], ◌≡◌, length, Result, Ok, Err}
use Rattle.std.proofs.Math.Bool.{true, false}
use Rattle.std.proofs.Math.Logic.{inl, inr}
use Rattle.std.proofs.Math.Path.{refl, sym, ap}
use Rattle.std.proofs.Common.{◌∙◌}
use borrow.Author.Tests.{ltb-false}
use Rattle.std.proofs.Math.Dec.{ltb}
use Rattle.store.specs.declared.PageId.{PageId}
use Rattle.store.specs.declared.Extent.{Extent}
use Rattle.store.specs.Page.{is_none}
use Rattle.store.specs.Size.{capacity, scratch_need}
use Rattle.store.specs.Laws.{apart}
use Rattle.datom.specs.declared.Datom.{Datom}
use Rattle.datom.specs.Datom.{datoms_of, formed_datom, stored_datom}
use Rattle.index.specs.declared.Index.{Index}
use Rattle.index.specs.Order.{DatomOrd, order_in}
use Rattle.answer.specs.declared.Refusal.{Refusal}
use Rattle.answer.specs.declared.Refusal.TheVariants.{BadStore, BadDatom, BadConstant, NoPage}
use Rattle.rules.specs.Page.{rising}
use Rattle.rules.specs.Lookup.{Finding, clear, found}
use Rattle.rules.specs.Store.{or_else, bad_store, bad_scratch, bad_root, fetch_page, env_of}
use Rattle.rules.specs.Insert.{Outcome, refuse, outcome, store_fault, count_fault, form_fault, word_fault, order_fault, twin_fault, root_fault, sort, fresh_tree, write_fresh, insert_at, insert_under, insert_counted, initialise_counted, bytes_fault, batch_of, insert_bytes, initialise_bytes}
use Rattle.rules.specs.Checks.{order_rises}
use Rattle.batch.specs.Finding.{counted, given_count, refused_count}

-- 1 and 2, or how many datoms
unfoldable pub count_for : Extent → List ℕ → ℕ → List ℕ → Result ℕ Refusal
count_for x s scratch b = or_else Err (store_fault x s scratch) (counted b)

-- 3, 11 and 4 of an insert
unfoldable pub insert_fault : DatomOrd → List Datom → Finding
insert_fault t ds = or_else found (word_fault t ds) (order_fault t.cmp ds)

-- 3, 11 and 4 of an initialise
unfoldable pub initialise_fault : DatomOrd → List Datom → Finding
initialise_fault t ds = or_else found (word_fault t ds) (twin_fault t.cmp 0 [] ds)

-- what stands once 1 and 2 are past: the store and the scratch of L bytes are in order, and n datoms are few enough
pub record Roomy (x : Extent) (s : List ℕ) (c n L : ℕ) : Type 0 where
  pub good : bad_store x s ≡ false
  pub cap : c ≡ capacity x.size
  pub few : n ≤ 128
  pub scratch : scratch_need c ≤ L

pub record Passed (x : Extent) (s : List ℕ) (c : ℕ) (b : List ℕ) (n L : ℕ) : Type 0 where
  pub roomy : Roomy x s c n L
  pub batch : length b ≡ 32 * n

-- the ways through 1
module _ (x : Extent) (s : List ℕ) (L : ℕ) where
  pub bad_pages_law : bad_store x s ≡ true → true ≡ (bad_store x s || bad_scratch x L)
  bad_pages_law h = rw h

  pub bad_scratch_law : bad_store x s ≡ false → ltb L (scratch_need (capacity x.size)) ≡ (bad_store x s || bad_scratch x L)
  unfolding bad_scratch
  bad_scratch_law h = rw h

module _ (x : Extent) (s : List ℕ) (L : ℕ) (b : List ℕ) where
  pub count_bad : (bad_store x s || bad_scratch x L) ≡ true → Err BadStore ≡ count_for x s L b
  unfolding count_for store_fault
  count_bad h = rw h

  pub count_on_law : (bad_store x s || bad_scratch x L) ≡ false → counted b ≡ count_for x s L b
  unfolding count_for store_fault
  count_on_law h = rw h

  -- what 1 says when it is past
  store_clear : store_fault x s L ≡ clear → (bad_store x s ≡ false) × (scratch_need (capacity x.size) ≤ L)
  unfolding store_fault bad_scratch
  store_clear e = side (bad_store x s) refl (ltb L (scratch_need (capacity x.size))) refl
    where
      side : (p : Bool) → bad_store x s ≡ p → (q : Bool) → ltb L (scratch_need (capacity x.size)) ≡ q → (bad_store x s ≡ false) × (scratch_need (capacity x.size) ≤ L)
      side true u q v = let k : found BadStore ≡ clear = rw u at e in absurd (apart (cc))
      side false u true v = let k : found BadStore ≡ clear = rw (u, v) at e in absurd (apart (cc))
      side false u false v = (u, ltb-false L (scratch_need (capacity x.size)) v)

  -- the two entries over bytes begin alike
  abbrev begun : Outcome → Outcome
  begun rest =
      or_else refuse (store_fault x s L) (or_else refuse (bytes_fault b) (or_else refuse (count_fault (batch_of b)) rest))

  refused_begun : (r : Refusal) → count_for x s L b ≡ Err r → (rest : Outcome) → begun rest ≡ refuse r
  unfolding count_for
  refused_begun r e rest = side (store_fault x s L) refl
    where
      side : (f : Finding) → store_fault x s L ≡ f → begun rest ≡ refuse r
      side (found q) u = let k : Err q ≡ Err r = rw u at e in let g : q ≡ r = cc in rw (u, g)
      side clear u = elim (refused_count b r (rw u at e)) [ inl h ↦ rw (u, h) | inr h ↦ rw (u, h.0, h.1) ]

  given_begun : (n : ℕ) → count_for x s L b ≡ Ok n → (rest : Outcome) → (begun rest ≡ rest) × Passed x s (capacity x.size) b n L
  unfolding count_for
  given_begun n e rest = side (store_fault x s L) refl
    where
      side : (f : Finding) → store_fault x s L ≡ f → (begun rest ≡ rest) × Passed x s (capacity x.size) b n L
      side (found q) u = let k : Err q ≡ Ok n = rw u at e in absurd (apart (cc))
      side clear u =
          let G = given_count b n (rw u at e) in
          let c = store_clear u in
          (rw (u, G.bytes, G.count), record { roomy = record { good = c.0; cap = refl; few = G.few; scratch = c.1 }; batch = G.whole })

  -- the count of a batch that is given
  datoms_given : (n : ℕ) → count_for x s L b ≡ Ok n → batch_of b ≡ datoms_of n b
  unfolding count_for
  datoms_given n e = side (store_fault x s L) refl
    where
      side : (f : Finding) → store_fault x s L ≡ f → batch_of b ≡ datoms_of n b
      side (found q) u = let k : Err q ≡ Ok n = rw u at e in absurd (apart (cc))
      side clear u = ap (λ (k : ℕ). datoms_of k b) (given_count b n (rw u at e)).is

  module _ (t : DatomOrd) (r : Refusal) (e : count_for x s L b ≡ Err r) where
    pub insert_refused : (root : PageId) → insert_bytes t x s L root b ≡ refuse r
    unfolding insert_bytes
    insert_refused root = refused_begun r e _

    pub initialise_refused : initialise_bytes t x s L b ≡ refuse r
    unfolding initialise_bytes
    initialise_refused = refused_begun r e _

  module _ (n : ℕ) (e : count_for x s L b ≡ Ok n) where
    pub passed : Passed x s (capacity x.size) b n L
    passed = (given_begun n e (refuse BadStore)).1

    pub insert_counted_law : (t : DatomOrd) (root : PageId) → insert_bytes t x s L root b ≡ insert_counted t x s root (datoms_of n b)
    unfolding insert_bytes
    insert_counted_law t root = rw (← datoms_given n e) (given_begun n e _).0

    pub initialise_counted_law : (t : DatomOrd) → initialise_bytes t x s L b ≡ initialise_counted t x s (datoms_of n b)
    unfolding initialise_bytes
    initialise_counted_law t = rw (← datoms_given n e) (given_begun n e _).0

-- one finding after another is one finding, whatever a refusal is to give
pub both : {A : Type 0} (give : Refusal → A) (a b : Finding) (k : A) → or_else give (or_else found a b) k ≡ or_else give a (or_else give b k)
both give (found r) b k = refl
both give clear b k = refl

-- the ways through 3 and 11, of any order by a heap
module _ (i : Index) (h : List ℕ) (ds : List Datom) where
  pub words_form : (r : Refusal) → found r ≡ form_fault BadDatom formed_datom 0 ds → found r ≡ word_fault (order_in i h) ds
  unfolding word_fault order_in
  words_form r e = rw (← e)

  pub words_constant : clear ≡ form_fault BadDatom formed_datom 0 ds → (f : Finding) → f ≡ form_fault BadConstant (stored_datom h) 0 ds → f ≡ word_fault (order_in i h) ds
  unfolding word_fault order_in
  words_constant e f k = rw (← e) k

-- the ways through 3, 11 and 4, and what comes after them
module _ (t : DatomOrd) (ds : List Datom) where
  -- of an insert
  pub fault_form : (r : Refusal) → found r ≡ word_fault t ds → found r ≡ insert_fault t ds
  unfolding insert_fault
  fault_form r h = rw (← h)

  pub fault_order : clear ≡ word_fault t ds → (f : Finding) → f ≡ order_fault t.cmp ds → f ≡ insert_fault t ds
  unfolding insert_fault
  fault_order h f e = rw (← h) e

  pub fault_rises : clear ≡ insert_fault t ds → rising t.cmp ds ≡ true
  unfolding insert_fault
  fault_rises e = side (word_fault t ds) refl
    where
      side : (f : Finding) → word_fault t ds ≡ f → rising t.cmp ds ≡ true
      side (found r) u = let k : clear ≡ found r = rw u at e in absurd (apart (cc))
      side clear u = order_rises t.cmp ds (rw u at e)

  -- of an initialise
  pub twin_form : (r : Refusal) → found r ≡ word_fault t ds → found r ≡ initialise_fault t ds
  unfolding initialise_fault
  twin_form r h = rw (← h)

  pub twin_rest : clear ≡ word_fault t ds → (f : Finding) → f ≡ twin_fault t.cmp 0 [] ds → f ≡ initialise_fault t ds
  unfolding initialise_fault
  twin_rest h f e = rw (← h) e

  module _ (x : Extent) (s : List ℕ) where
    module _ (root : PageId) where
      counted_is : insert_counted t x s root ds ≡ or_else refuse (insert_fault t ds) (or_else refuse (root_fault x root) (insert_under t x s root ds))
      unfolding insert_counted insert_fault
      counted_is = sym (both refuse (word_fault t ds) _ _)

      pub counted_found : (r : Refusal) → found r ≡ insert_fault t ds → insert_counted t x s root ds ≡ refuse r
      counted_found r h = counted_is ∙ rw (← h)

      module _ (free : clear ≡ insert_fault t ds) where
        pub counted_missing : bad_root x root ≡ true → insert_counted t x s root ds ≡ refuse NoPage
        unfolding root_fault
        counted_missing h = counted_is ∙ rw (← free, h)

        module _ (known : bad_root x root ≡ false) where
          pub counted_fresh : is_none root ≡ true → insert_counted t x s root ds ≡ outcome (fresh_tree (env_of t x s) ds [])
          unfolding root_fault insert_under write_fresh
          counted_fresh h = counted_is ∙ rw (← free, known, h)

          pub counted_at : is_none root ≡ false → insert_counted t x s root ds ≡ insert_at (env_of t x s) root ds (fetch_page t x s root)
          unfolding root_fault insert_under
          counted_at h = counted_is ∙ rw (← free, known, h)

    sorted_is : initialise_counted t x s ds ≡ or_else refuse (initialise_fault t ds) (write_fresh (env_of t x s) (sort t.cmp ds))
    unfolding initialise_counted initialise_fault
    sorted_is = sym (both refuse (word_fault t ds) _ _)

    pub sorted_found : (r : Refusal) → found r ≡ initialise_fault t ds → initialise_counted t x s ds ≡ refuse r
    sorted_found r h = sorted_is ∙ rw (← h)

    pub sorted_fresh : clear ≡ initialise_fault t ds → initialise_counted t x s ds ≡ outcome (fresh_tree (env_of t x s) (sort t.cmp ds) [])
    unfolding write_fresh
    sorted_fresh h = sorted_is ∙ rw (← h)
