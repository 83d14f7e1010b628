-- What the byte entry is handed for records, and that it answers as the rules do of the records themselves.
use Rattle.std.specs.Prelude.{ℕ, ◌*◌, ◌/◌, ◌%◌, ◌≤◌, ◌<◌, Bool, true, false, cond, List, ◌≡◌, ltb, take}
use Rattle.std.proofs.Common.{arith, sym, ◌∙◌, ltb-true, ltb-false, lt-ltb, le-ltb, eq-eqb, length-take-le, take_at}
use Rattle.std.proofs.Math.Path.{refl, ap}
use Rattle.std.proofs.Math.ListN.{length}
use Rattle.std.proofs.lemmas.List.{length-replicate}
use Rattle.std.proofs.Math.Seq.{take-length}
use Rattle.store.specs.declared.PageId.{PageId}
use Rattle.store.specs.declared.Extent.{Extent}
use Rattle.store.specs.declared.StoreRecord.{StoreRecord}
use Rattle.store.specs.Words.{zeros, patch}
use Rattle.store.specs.Size.{capacity, room_for, scratch_need}
use Rattle.store.specs.Cells.{patch_length, cells_front}
use Rattle.store.specs.Laws.{apart, cells_length}
use Rattle.datom.specs.declared.Datom.{Datom}
use Rattle.datom.specs.Datom.{datom_of}
use Rattle.index.specs.Order.{DatomOrd}
use Rattle.answer.specs.declared.Refusal.TheVariants.{BadStore, TooMany}
use Rattle.rules.specs.Lookup.{Finding, clear, found}
use Rattle.rules.specs.Store.{or_else, bad_store, bad_scratch}
use Rattle.rules.specs.Insert.{Outcome, refuse, store_fault, count_fault, insert_counted, initialise_counted, bytes_fault, batch_of, insert, insert_bytes, initialise, initialise_bytes}
use Rattle.rules.specs.Calls.{extent_of, ord_of, record_fault, bad_room, insert_call, initialise_call, insert_bytes_call, initialise_bytes_call}
use Rattle.records.specs.Laid.{laid_count, Laid, laid_all, laid_fits, first_of, first_length}

-- the bytes of n records, or of 129 for any number of them over 128
unfoldable pub handed_length : ℕ → ℕ
handed_length n = cond (ltb 128 n) 4128 (32 * n)

-- the records that were laid, at the front of an array; of zeros, where they are handed on
unfoldable pub handed_in : ℕ → List ℕ → List ℕ → List ℕ
handed_in n s b = patch b 0 (take (32 * laid_count n (length s)) s)

unfoldable pub handed_area : ℕ → List ℕ → List ℕ
handed_area n s = handed_in n s (zeros 4128)

unfoldable pub handed_bytes : ℕ → List ℕ → List ℕ
handed_bytes n s = take (handed_length n) (handed_area n s)

pub handed_most : (n : ℕ) → handed_length n ≤ 4128
unfolding handed_length
handed_most n = side (ltb 128 n) refl
  where
    side : (t : Bool) → ltb 128 n ≡ t → cond t 4128 (32 * n) ≤ 4128
    side true e = omega arith
    side false e = omega (arith, ltb-false 128 n e)

in_length : (n : ℕ) (s b : List ℕ) → 4096 ≤ length b → length (handed_in n s b) ≡ length b
unfolding handed_in
in_length n s b h =
    let f = laid_fits n (length s) in
    patch_length b 0 (take (32 * laid_count n (length s)) s) (omega (arith, length-take-le (32 * laid_count n (length s)) s f.1, f.2))

pub area_length : (n : ℕ) (s : List ℕ) → length (handed_area n s) ≡ 4128
unfolding handed_area
area_length n s =
    let zs : length (zeros 4128) ≡ 4128 = length-replicate {A = ℕ} 4128 0 in
    in_length n s (zeros 4128) (omega (arith, zs)) ∙ zs

pub handed_fits : (n : ℕ) (s : List ℕ) (m : ℕ) (b : List ℕ) → m ≡ handed_length n → b ≡ handed_area n s → m ≤ length b
handed_fits n s m b e f = rw (e, f, area_length n s) (handed_most n)

-- a scratch that is long enough for a call has room for the records of a batch
scratch_wide : (x : Extent) (s : List ℕ) (room : ℕ) → store_fault x s room ≡ clear → 4096 ≤ room
unfolding store_fault bad_scratch scratch_need room_for
scratch_wide x s room e = side (bad_store x s) refl (ltb room (scratch_need (capacity x.size))) refl
  where
    side : (p : Bool) → bad_store x s ≡ p → (q : Bool) → ltb room (scratch_need (capacity x.size)) ≡ q → 4096 ≤ room
    side true u q v = let k : found BadStore ≡ clear = rw u at e in absurd (apart (cc))
    side false u true v = let k : found BadStore ≡ clear = rw (u, v) at e in absurd (apart (cc))
    side false u false v = omega (arith, ltb-false room (scratch_need (capacity x.size)) v)

-- over 128 records are handed on as 129
many_length : (n : ℕ) (s : List ℕ) → 128 < n → length (handed_bytes n s) ≡ 4128
unfolding handed_bytes handed_length
many_length n s h = rw (lt-ltb 128 n h) (length-take-le 4128 (handed_area n s) (omega (arith, area_length n s)))

-- a batch that may be laid is handed on as it was laid
few_handed : (n : ℕ) (s : List ℕ) → n ≤ 128 → 32 * n ≤ length s → handed_bytes n s ≡ take (32 * n) s
unfolding handed_bytes handed_length handed_area handed_in patch
few_handed n s h f =
    rw (le-ltb 128 n h, laid_all n (length s) h f) (take_at (take (32 * n) s) _ (32 * n) (length-take-le (32 * n) s f))

few_batch : (ds : List Datom) (s : List ℕ) → Laid ds s → length ds ≤ 128 → 32 * length ds ≤ length s → batch_of (handed_bytes (length ds) s) ≡ ds
unfolding Laid
few_batch ds s L h f =
    let n = length ds in
    let long : length (take (32 * n) s) ≡ 32 * n = length-take-le (32 * n) s f in
    let count : length (take (32 * n) s) / 32 ≡ n = omega arith in
    rw (few_handed n s h f, count) (cells_front datom_of 32 n (32 * n) s (omega arith) ∙ (rw (laid_all n (length s) h f) at L) ∙ take-length ds)

-- the byte entry, of what it is handed, answers as the rules do of the records
module _ (x : Extent) (st : List ℕ) (ds : List Datom) (s : List ℕ) (L : Laid ds s) where
  -- 2 is never given for what is no multiple of 32
  even : 4096 ≤ length s → bytes_fault (handed_bytes (length ds) s) ≡ clear
  unfolding bytes_fault
  even w = side (ltb 128 (length ds)) refl
    where
      by_length : length (handed_bytes (length ds) s) % 32 ≡ 0 → bytes_fault (handed_bytes (length ds) s) ≡ clear
      by_length e = rw (eq-eqb (length (handed_bytes (length ds) s) % 32) 0 e)

      side : (a : Bool) → ltb 128 (length ds) ≡ a → bytes_fault (handed_bytes (length ds) s) ≡ clear
      side true e = by_length (omega (arith, many_length (length ds) s (ltb-true 128 (length ds) e)))
      side false e =
          let h = ltb-false 128 (length ds) e in
          by_length (omega (arith, ap length (few_handed (length ds) s h (omega arith)), length-take-le (32 * length ds) s (omega arith)))

  many : 128 < length ds → count_fault (batch_of (handed_bytes (length ds) s)) ≡ found TooMany
  unfolding count_fault
  many h =
      let k : length (batch_of (handed_bytes (length ds) s)) ≡ 129 =
      cells_length datom_of 32 (length (handed_bytes (length ds) s) / 32) (handed_bytes (length ds) s)
      ∙ (let e : length (handed_bytes (length ds) s) / 32 ≡ 129 = omega (arith, many_length (length ds) s h) in e) in
      rw k

  too_many : 128 < length ds → count_fault ds ≡ found TooMany
  unfolding count_fault
  too_many h = rw (lt-ltb 128 (length ds) h)

  -- the two entries begin alike
  begun :
      (rest : List Datom → Outcome) →
      or_else refuse (store_fault x st (length s))
      (or_else refuse (bytes_fault (handed_bytes (length ds) s))
      (or_else refuse (count_fault (batch_of (handed_bytes (length ds) s)))
      (rest (batch_of (handed_bytes (length ds) s)))))
      ≡ or_else refuse (store_fault x st (length s)) (or_else refuse (count_fault ds) (rest ds))
  begun rest = side (store_fault x st (length s)) refl (ltb 128 (length ds)) refl
    where
      side :
          (f : Finding) → store_fault x st (length s) ≡ f → (a : Bool) → ltb 128 (length ds) ≡ a →
          or_else refuse (store_fault x st (length s))
          (or_else refuse (bytes_fault (handed_bytes (length ds) s))
          (or_else refuse (count_fault (batch_of (handed_bytes (length ds) s)))
          (rest (batch_of (handed_bytes (length ds) s)))))
          ≡ or_else refuse (store_fault x st (length s)) (or_else refuse (count_fault ds) (rest ds))
      side (found r) e a h = rw e
      side clear e true h =
          let k = ltb-true 128 (length ds) h in
          rw (e, even (scratch_wide x st (length s) e), many k, too_many k)
      side clear e false h =
          let k = ltb-false 128 (length ds) h in
          let w = scratch_wide x st (length s) e in
          rw (e, even w, few_batch ds s L k (omega arith))

  module _ (t : DatomOrd) where
    pub insert_handed : (root : PageId) → insert_bytes t x st (length s) root (handed_bytes (length ds) s) ≡ insert t x st (length s) root ds
    unfolding insert_bytes insert
    insert_handed root = begun λ ds. insert_counted t x st root ds

    pub initialise_handed : initialise_bytes t x st (length s) (handed_bytes (length ds) s) ≡ initialise t x st (length s) ds
    unfolding initialise_bytes initialise
    initialise_handed = begun λ ds. initialise_counted t x st ds

-- of the first n records of an array
pub insert_first :
    (x : Extent) (st : List ℕ) (n : ℕ) (ds : List Datom) (s : List ℕ) → Laid (first_of n ds) s → (t : DatomOrd) (root : PageId) →
    insert_bytes t x st (length s) root (handed_bytes n s) ≡ insert t x st (length s) root (first_of n ds)
insert_first x st n ds s L t root =
    ap (λ (k : ℕ). insert_bytes t x st (length s) root (handed_bytes k s)) (sym (first_length n ds)) ∙ insert_handed x st (first_of n ds) s L t root

-- the calls: what the record brings is refused of the bytes and of the records alike
module _ (r : StoreRecord) (st h : List ℕ) (ds : List Datom) (s : List ℕ) (L : Laid ds s) where
  pub insert_call_handed : (root : PageId) → insert_bytes_call r st h (length s) root (handed_bytes (length ds) s) ≡ insert_call r st h (length s) root ds
  unfolding insert_bytes_call insert_call
  insert_call_handed root = ap (or_else refuse (record_fault r h (bad_room r st (length s)))) (insert_handed (extent_of r) st ds s L (ord_of r h) root)

  pub initialise_call_handed : initialise_bytes_call r st h (length s) (handed_bytes (length ds) s) ≡ initialise_call r st h (length s) ds
  unfolding initialise_bytes_call initialise_call
  initialise_call_handed = ap (or_else refuse (record_fault r h (bad_room r st (length s)))) (initialise_handed (extent_of r) st ds s L (ord_of r h))

pub insert_call_first :
    (r : StoreRecord) (st h : List ℕ) (n : ℕ) (ds : List Datom) (s : List ℕ) → Laid (first_of n ds) s → (root : PageId) →
    insert_bytes_call r st h (length s) root (handed_bytes n s) ≡ insert_call r st h (length s) root (first_of n ds)
unfolding insert_bytes_call insert_call
insert_call_first r st h n ds s L root = ap (or_else refuse (record_fault r h (bad_room r st (length s)))) (insert_first (extent_of r) st n ds s L (ord_of r h) root)
