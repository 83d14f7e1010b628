-- What the call may answer: that all is held, or a refusal of number 1 to 5, 7, 11, 13 or 16.
use Rattle.std.specs.Prelude.{Err, Ok}
use Rattle.answer.specs.Answers.{Held, all_held}
use Prim.Native.Nat.{ℕ, suc, ◌%◌, Ordering}
use Rattle.std.specs.Prelude.{Bool, ◌||◌, not, ◌≡◌, ltb, eqb, length}
use Rattle.std.proofs.Math.Bool.{true, false}
use mathlib.Core.List.{List, [], ◌∷◌}
use Rattle.std.proofs.Math.Path.{refl}
use Rattle.store.specs.declared.PageId.{PageId}
use Rattle.store.specs.declared.Extent.{Extent}
use Rattle.store.specs.declared.StoreRecord.{StoreRecord}
use Rattle.store.specs.Record.{extent_of}
use Rattle.store.specs.Page.{is_none}
use Rattle.datom.specs.declared.Datom.{Datom}
use Rattle.index.specs.Order.{DatomOrd, is_less, index_of}
use Rattle.answer.specs.declared.Refusal.{Refusal}
use Rattle.answer.specs.declared.Refusal.TheVariants.{BadStore, TooMany, BadDatom, BadConstant, NoPage}
use Rattle.answer.specs.Table.{number_of}
use Rattle.rules.specs.Tree.{Fetched, faulty, fine, Env}
use Rattle.rules.specs.Lookup.{Look, met, absent, lost, lookup, Finding, clear, found}
use Rattle.rules.specs.Store.{refuse_if, or_else, bad_store, bad_root, fetch_page, env_of}
use Rattle.rules.specs.Insert.{count_fault, form_fault, word_fault, low_fault, order_fault, root_fault, bytes_fault, batch_of}
use Rattle.rules.specs.Append.{bad_heap}
use Rattle.rules.specs.Calls.{ord_of, is_unknown, record_fault, bad_pages, held_call}
use Rattle.rules.specs.Held.{after_held, held_all, held_at, held_tree, held_counted, held_fault, held_bytes}

-- all of it, or refused with 1 to 5, 7, 11, 13 or 16
abbrev pub is_given : Refusal → Bool
is_given r = ltb (number_of r) 6 || (eqb (number_of r) 7 || (eqb (number_of r) 11 || (eqb (number_of r) 13 || eqb (number_of r) 16)))

unfoldable pub is_answer : Held → Bool
is_answer (Ok u) = true
is_answer (Err r) = is_given r

data Fits : Finding → Type 0 where
  nothing : Fits clear
  given : {r : Refusal} → is_given r ≡ true → Fits (found r)

fits_if : (b : Bool) (r : Refusal) → is_given r ≡ true → Fits (refuse_if b r)
fits_if true r h = given h
fits_if false r h = nothing

fits_then : {a b : Finding} → Fits a → Fits b → Fits (or_else found a b)
fits_then nothing k = k
fits_then (given h) k = given h

fits_form :
    (bad : ℕ → Refusal) → ((i : ℕ) → is_given (bad i) ≡ true) → (ok : Datom → Bool) (i : ℕ) (ds : List Datom) → Fits (form_fault bad ok i ds)
unfolding form_fault
fits_form bad g ok i [] = nothing
fits_form bad g ok i (d ∷ ds) = side (ok d) refl (fits_form bad g ok (suc i) ds)
  where
    side : (b : Bool) → ok d ≡ b → Fits (form_fault bad ok (suc i) ds) → Fits (form_fault bad ok i (d ∷ ds))
    side true e h = rw e h
    side false e h = rw e (given (g i))

fits_word : (t : DatomOrd) (ds : List Datom) → Fits (word_fault t ds)
unfolding word_fault
fits_word t ds = fits_then (fits_form BadDatom (λ i. refl) t.formed 0 ds) (fits_form BadConstant (λ i. refl) t.stored 0 ds)

fits_low : (cmp : Datom → Datom → Ordering) (i : ℕ) (p : Datom) (ds : List Datom) → Fits (low_fault cmp i p ds)
unfolding low_fault
fits_low cmp i p [] = nothing
fits_low cmp i p (d ∷ ds) = side (is_less (cmp p d)) refl (fits_low cmp (suc i) d ds)
  where
    side : (b : Bool) → is_less (cmp p d) ≡ b → Fits (low_fault cmp (suc i) d ds) → Fits (low_fault cmp i p (d ∷ ds))
    side true e h = rw e h
    side false e h = rw e (given refl)

fits_order : (cmp : Datom → Datom → Ordering) (ds : List Datom) → Fits (order_fault cmp ds)
unfolding order_fault
fits_order cmp [] = nothing
fits_order cmp (d ∷ ds) = fits_low cmp 1 d ds

fits_look : (i : ℕ) (k : Look) (rest : Finding) → Fits rest → Fits (after_held i k rest)
unfolding after_held
fits_look i (met p j) rest h = h
fits_look i (absent p) rest h = given refl
fits_look i (lost p f) rest h = given refl

fits_all : (e : Env) (l : ℕ) (root : PageId) (r : Fetched) (i : ℕ) (ds : List Datom) → Fits (held_all e l root r i ds)
unfolding held_all
fits_all e l root r i [] = nothing
fits_all e l root r i (d ∷ ds) = fits_look i (lookup e d l root r) _ (fits_all e l root r (suc i) ds)

fits_at : (e : Env) (root : PageId) (ds : List Datom) (r : Fetched) → Fits (held_at e root ds r)
unfolding held_at
fits_at e root ds (faulty f) = given refl
fits_at e root ds (fine n) = fits_all e n.level root (fine n) 0 ds

module _ (t : DatomOrd) (x : Extent) (s : List ℕ) (root : PageId) where
  fits_tree : (ds : List Datom) → Fits (held_tree t x s root ds)
  unfolding held_tree
  fits_tree [] = nothing
  fits_tree (d ∷ ds) = side (is_none root) refl
    where
      side : (b : Bool) → is_none root ≡ b → Fits (held_tree t x s root (d ∷ ds))
      side true e = rw e (given refl)
      side false e = rw e (fits_at (env_of t x s) root (d ∷ ds) (fetch_page t x s root))

  fits_counted : (ds : List Datom) → Fits (held_counted t x s root ds)
  unfolding held_counted root_fault
  fits_counted ds =
      fits_then (fits_word t ds) (fits_then (fits_order t.cmp ds) (fits_then (fits_if (bad_root x root) NoPage refl) (fits_tree ds)))

  fits_fault : (b : List ℕ) → Fits (held_fault t x s root b)
  unfolding held_fault bytes_fault count_fault
  fits_fault b =
      fits_then (fits_if (bad_store x s) BadStore refl)
      (fits_then (fits_if (not (eqb (length b % 32) 0)) TooMany refl)
      (fits_then (fits_if (ltb 128 (length (batch_of b))) TooMany refl) (fits_counted (batch_of b))))

  pub held_answers : (b : List ℕ) → is_answer (held_bytes t x s root b) ≡ true
  unfolding held_bytes is_answer
  held_answers b = side (fits_fault b)
    where
      side : {f : Finding} → Fits f → is_answer (or_else Err f all_held) ≡ true
      side nothing = refl
      side (given h) = h

-- the same of the call, with a heap
pub call_answers : (r : StoreRecord) (s h : List ℕ) (root : PageId) (b : List ℕ) → is_answer (held_call r s h root b) ≡ true
unfolding held_call record_fault is_answer
call_answers r s h root b = side (bad_heap r.heap h || bad_pages r s) refl (is_unknown (index_of r.order)) refl
  where
    side :
        (v : Bool) → (bad_heap r.heap h || bad_pages r s) ≡ v → (w : Bool) → is_unknown (index_of r.order) ≡ w →
        is_answer (held_call r s h root b) ≡ true
    side true e w f = rw e
    side false e true f = rw (e, f)
    side false e false f = rw (e, f) (held_answers (ord_of r h) (extent_of r) s root b)
