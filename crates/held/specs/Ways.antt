-- The ways through the call, one refusal after another, as the code finds them.
use Rattle.std.specs.Prelude.{Result, Err, Ok}
use Rattle.answer.specs.Answers.{Held, all_held}
use Prim.Native.Nat.{ℕ, zero, suc}
use Rattle.std.specs.Prelude.{true, false, List, ◌≡◌, refl}
use Rattle.std.proofs.Math.Logic.{inl, inr}
use Rattle.std.proofs.Math.Path.{sym}
use Rattle.store.specs.declared.PageId.{PageId}
use Rattle.store.specs.declared.Extent.{Extent}
use Rattle.store.specs.Page.{is_none}
use Rattle.store.specs.Words.{cells}
use Rattle.datom.specs.declared.Datom.{Datom}
use Rattle.datom.specs.Datom.{datoms_of}
use Rattle.index.specs.Order.{DatomOrd}
use Rattle.answer.specs.declared.Fault.{Fault}
use Rattle.answer.specs.declared.Refusal.{Refusal}
use Rattle.answer.specs.declared.Refusal.TheVariants.{BadStore, NoPage, Damaged, NotHeld}
use Rattle.rules.specs.Page.{node_of}
use Rattle.rules.specs.Tree.{faulty, fine}
use Rattle.rules.specs.Lookup as rules
use Rattle.rules.specs.Lookup.{clear, found}
use Rattle.rules.specs.Store.{or_else, bad_store, bad_root, fetch_page, env_of}
use Rattle.rules.specs.Insert.{word_fault, root_fault}
use Rattle.rules.specs.Held.{held_all, held_at, held_tree, held_counted, held_fault, held_bytes}
use Rattle.memory_store.specs.Readable.{node_at}
use Rattle.batch.specs.Finding.{finding_of, counted, given_count, refused_count}
use Rattle.entry.specs.Checks.{insert_fault, both}

-- what was found is the answer
abbrev pub held_of : Result (Unit {0}) Refusal → Held
held_of f = f

pub held_of_law : (f : Result (Unit {0}) Refusal) (g : rules.Finding) → finding_of f ≡ g → held_of f ≡ or_else Err g all_held
unfolding held_of
held_of_law (Ok done) g e = rw (← e)
held_of_law (Err r) g e = rw (← e)

module _ (t : DatomOrd) (x : Extent) (s : List ℕ) (root : PageId) where
  -- 1 and 2
  module _ (b : List ℕ) where
    pub bytes_bad : bad_store x s ≡ true → Err BadStore ≡ held_bytes t x s root b
    unfolding held_bytes held_fault
    bytes_bad h = rw h

    module _ (good : bad_store x s ≡ false) where
      pub bytes_refused : (r : Refusal) → counted b ≡ Err r → Err r ≡ held_bytes t x s root b
      unfolding held_bytes held_fault
      bytes_refused r e = elim (refused_count b r e) [ inl h ↦ rw (good, h) | inr h ↦ rw (good, h.0, h.1) ]

      pub bytes_counted :
          (n : ℕ) → counted b ≡ Ok n → or_else Err (held_counted t x s root (datoms_of n b)) all_held ≡ held_bytes t x s root b
      unfolding held_bytes held_fault
      bytes_counted n e = let G = given_count b n e in rw (good, G.bytes, G.count, ← G.is)

  -- 3, 11, 4 and 5
  module _ (ds : List Datom) where
    counted_is : held_counted t x s root ds ≡ or_else found (insert_fault t ds) (or_else found (root_fault x root) (held_tree t x s root ds))
    unfolding held_counted insert_fault
    counted_is = sym (both found (word_fault t ds) _ _)

    pub counted_found : (r : Refusal) → found r ≡ insert_fault t ds → found r ≡ held_counted t x s root ds
    counted_found r h = rw (counted_is, ← h)

    module _ (free : clear ≡ insert_fault t ds) where
      pub counted_missing : bad_root x root ≡ true → found NoPage ≡ held_counted t x s root ds
      unfolding root_fault
      counted_missing h = rw (counted_is, ← free, h)

      pub counted_on : bad_root x root ≡ false → held_tree t x s root ds ≡ held_counted t x s root ds
      unfolding root_fault
      counted_on h = rw (counted_is, ← free, h)

    -- a page that is unreadable, or of level l and k datoms
    pub at_bad : (f : Fault) → fetch_page t x s root ≡ faulty f → found (Damaged root f) ≡ held_at (env_of t x s) root ds (fetch_page t x s root)
    unfolding held_at
    at_bad f e = rw e

    pub at_read :
        (l k : ℕ) → fetch_page t x s root ≡ fine (node_at x s root l k) →
        held_all (env_of t x s) l root (fetch_page t x s root) 0 ds ≡ held_at (env_of t x s) root ds (fetch_page t x s root)
    unfolding held_at node_of
    at_read l k e = rw e

  -- an empty batch, and one with a datom
  pub tree_empty : (n : ℕ) (b : List ℕ) → n ≡ 0 → clear ≡ held_tree t x s root (datoms_of n b)
  unfolding held_tree cells
  tree_empty n b e = rw e

  pub tree_none : (n : ℕ) (b : List ℕ) → (n ≡ 0 → ⊥) → is_none root ≡ true → found (NotHeld 0) ≡ held_tree t x s root (datoms_of n b)
  unfolding held_tree cells
  tree_none zero b some h = absurd (some refl)
  tree_none (suc n) b some h = rw h

  pub tree_at :
      (n : ℕ) (b : List ℕ) → (n ≡ 0 → ⊥) → is_none root ≡ false →
      held_at (env_of t x s) root (datoms_of n b) (fetch_page t x s root) ≡ held_tree t x s root (datoms_of n b)
  unfolding held_tree cells
  tree_at zero b some h = absurd (some refl)
  tree_at (suc n) b some h = rw h
