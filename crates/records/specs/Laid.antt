-- Records laid as bytes at the front of an area, and what is laid of a batch.
use Prim.Native.Nat.{ℕ, zero, suc, ◌+◌, ◌-◌, ◌*◌, ◌<◌, ◌≤◌}
use Rattle.std.proofs.Common.{lt_trans, lt-suc_self, add-one, ◌∙◌, subst, length-append, length-take, take-suc, take-take}
use Rattle.std.proofs.Math.Decide.{dec_le}
use native.Mathlib.Omega.{arith}
use Rattle.std.specs.Prelude.{Bool, ◌≡◌, length, take, replicate}
use Rattle.std.proofs.Math.Bool.{true, false, cond}
use mathlib.Core.List.{List, [], ◌∷◌, ◌++◌, append_assoc}
use Rattle.std.proofs.Math.Path.{refl, sym, ap}
use borrow.Author.Tests.{le-ltb, ltb-false}
use Rattle.std.proofs.Math.Dec.{ltb}
use Rattle.std.proofs.Math.ListN.{get_or}
use Rattle.std.proofs.lemmas.List.{append-nil, length-replicate, take-append-le}
use Rattle.std.proofs.Math.Seq.{take-length}
use Rattle.store.specs.Words.{bytes_of, patch, cells}
use Rattle.store.specs.Cells.{patch_length, patch_patch, cells_push}
use Rattle.store.specs.Laws.{bytes_length}
use Rattle.datom.specs.declared.Datom.{Datom}
use Rattle.datom.specs.Datom.{datom_of, datom_bytes, datoms_of, WordSized}
use Rattle.datom.specs.Laws.{datom_length, datom_back, bytes_back}
use Rattle.store.specs.Bytes.{Bytes, cells_tell}

-- all of n records, or none of a batch that is refused whatever its records are: one over 128, and one in a scratch that is too short
unfoldable pub laid_count : ℕ → ℕ → ℕ
laid_count n room = cond (ltb 128 n) 0 (cond (ltb room (32 * n)) 0 n)

-- the area's first datoms are the batch's records
unfoldable pub Laid : List Datom → List ℕ → Type 0
Laid ds s = datoms_of (laid_count (length ds) (length s)) s ≡ take (laid_count (length ds) (length s)) ds

module _ (n room : ℕ) where
  pub laid_all : n ≤ 128 → 32 * n ≤ room → laid_count n room ≡ n
  unfolding laid_count
  laid_all h k = rw (le-ltb 128 n h, le-ltb room (32 * n) k)

  -- what is laid is of the batch, in the area, and no more than a batch may have
  pub laid_fits : (laid_count n room ≤ n) × (32 * laid_count n room ≤ room) × (laid_count n room ≤ 128)
  unfolding laid_count
  laid_fits = side (ltb 128 n) refl (ltb room (32 * n)) refl
    where
      side : (a : Bool) → ltb 128 n ≡ a → (b : Bool) → ltb room (32 * n) ≡ b → (cond a 0 (cond b 0 n) ≤ n) × (32 * cond a 0 (cond b 0 n) ≤ room) × (cond a 0 (cond b 0 n) ≤ 128)
      side true d b e = (omega arith, omega arith, omega arith)
      side false d true e = (omega arith, omega arith, omega arith)
      side false d false e = (omega arith, ltb-false room (32 * n) e, ltb-false 128 n d)

-- two results that meet the promise of `lay` are equal where it says anything: in the bytes of the records that are laid. The rest is scratch.
pub laid_same :
    (ds : List Datom) (s r : List ℕ) → Bytes s → Bytes r → length s ≡ length r → Laid ds s → Laid ds r →
    take (32 * laid_count (length ds) (length s)) s ≡ take (32 * laid_count (length ds) (length s)) r
unfolding Laid
laid_same ds s r p q e A B =
    let k = laid_count (length ds) (length s) in
    let fits : 32 * k ≤ length s = (laid_fits (length ds) (length s)).1 in
    cells_tell datom_of datom_bytes 32 bytes_back k s r p q fits (omega arith) (A ∙ sym (rw (← e) at B))

-- four words stored one behind the other; a datom's are its bytes
module _ (s : List ℕ) (at : ℕ) where
  next_word :
      (p : List ℕ) (n w : ℕ) → length p ≡ n → at + n + 8 ≤ length s →
      patch (patch s at p) (at + n) (bytes_of 8 w) ≡ patch s at (p ++ bytes_of 8 w)
  next_word p n w e h =
      ap (λ (k : ℕ). patch (patch s at p) (at + k) (bytes_of 8 w)) (sym e) ∙ patch_patch s at p (bytes_of 8 w) (omega (arith, bytes_length 8 w))

  longer : (p : List ℕ) (n w : ℕ) → length p ≡ n → length (p ++ bytes_of 8 w) ≡ n + 8
  longer p n w e = rw (length-append, e, bytes_length 8 w)

  pub four_words :
      (u v w z : ℕ) → at + 32 ≤ length s →
      patch (patch (patch (patch s at (bytes_of 8 u)) (at + 8) (bytes_of 8 v)) (at + 16) (bytes_of 8 w)) (at + 24) (bytes_of 8 z)
      ≡ patch s at (bytes_of 8 u ++ (bytes_of 8 v ++ (bytes_of 8 w ++ bytes_of 8 z)))
  four_words u v w z h =
      let one = bytes_of 8 u in
      let two = one ++ bytes_of 8 v in
      let three = two ++ bytes_of 8 w in
      let two_long : length two ≡ 16 = longer one 8 v (bytes_length 8 u) in
      let three_long : length three ≡ 24 = longer two 16 w two_long in
      ap (λ (b : List ℕ). patch (patch b (at + 16) (bytes_of 8 w)) (at + 24) (bytes_of 8 z)) (next_word one 8 v (bytes_length 8 u) (omega arith))
      ∙ ap (λ (b : List ℕ). patch b (at + 24) (bytes_of 8 z)) (next_word two 16 w two_long (omega arith))
      ∙ next_word three 24 z three_long (omega arith)
      ∙ ap (patch s at) (append_assoc two (bytes_of 8 w) (bytes_of 8 z) ∙ append_assoc one (bytes_of 8 v) (bytes_of 8 w ++ bytes_of 8 z))

  pub datom_words :
      (d : Datom) → at + 32 ≤ length s →
      patch (patch (patch (patch s at (bytes_of 8 d.entity.0)) (at + 8) (bytes_of 8 d.attribute.0)) (at + 16) (bytes_of 8 d.value.0)) (at + 24) (bytes_of 8 d.transaction_operation.0)
      ≡ patch s at (datom_bytes d)
  unfolding datom_bytes
  datom_words d h = four_words d.entity.0 d.attribute.0 d.value.0 d.transaction_operation.0 h

-- the area once the first i records are laid
abbrev pub blank : Datom
blank = record { entity = record { 0 = 0 }; attribute = record { 0 = 0 }; value = record { 0 = 0 }; transaction_operation = record { 0 = 0 } }

abbrev pub laid_to : List Datom → List ℕ → ℕ → List ℕ
laid_to ds s zero = s
laid_to ds s (suc i) = patch (laid_to ds s i) (32 * i) (datom_bytes (get_or ds i blank))

-- the first i records have words of 64 bits
abbrev pub WordsTo : List Datom → ℕ → Type 0
WordsTo ds i = (j : ℕ) → j < i → WordSized (get_or ds j blank)

pub words_next : (ds : List Datom) (i : ℕ) → WordsTo ds i → WordSized (get_or ds i blank) → WordsTo ds (suc i)
words_next ds i w v j l = elim (dec_le i j) [
  | yes a ↦ (let e : i ≡ j = omega (arith, a) in subst (λ (k : ℕ). WordSized (get_or ds k blank)) e v)
  | no a ↦ w j (omega (arith, a))
]

module _ (ds : List Datom) (s : List ℕ) where
  pub laid_length : (i : ℕ) → 32 * i ≤ length s → length (laid_to ds s i) ≡ length s
  laid_length zero h = refl
  laid_length (suc i) h =
      let e = laid_length i (omega arith) in
      patch_length (laid_to ds s i) (32 * i) (datom_bytes (get_or ds i blank)) (omega (arith, e, datom_length (get_or ds i blank))) ∙ e

  laid_back : (i : ℕ) → i ≤ length ds → 32 * i ≤ length s → WordsTo ds i → datoms_of i (laid_to ds s i) ≡ take i ds
  unfolding cells
  laid_back zero l h w = refl
  laid_back (suc i) l h w =
      let d = get_or ds i blank in
      let e = laid_length i (omega arith) in
      sym (ap (λ (k : ℕ). datoms_of k (laid_to ds s (suc i))) (add-one i))
      ∙ cells_push datom_of 32 i (laid_to ds s i) (datom_bytes d) (datom_length d) (omega (arith, e))
      ∙ ap (λ (x : Datom). datoms_of i (laid_to ds s i) ++ (x ∷ [])) (datom_back d (w i (lt-suc_self i)))
      ∙ ap (λ (l : List Datom). l ++ (d ∷ [])) (laid_back i (omega arith) (omega arith) (λ j k. w j (lt_trans k (lt-suc_self i))))
      ∙ sym (take-suc ds i blank l)

  pub laid_done : WordsTo ds (laid_count (length ds) (length s)) → Laid ds (laid_to ds s (laid_count (length ds) (length s)))
  unfolding Laid
  laid_done w =
      let f = laid_fits (length ds) (length s) in
      rw (laid_length (laid_count (length ds) (length s)) f.1) (laid_back (laid_count (length ds) (length s)) f.0 f.1 w)

-- the first n records of an array, and blank ones past its end
unfoldable pub first_of : ℕ → List Datom → List Datom
first_of n ds = take n ds ++ replicate (n - length ds) blank

pub first_length : (n : ℕ) (ds : List Datom) → length (first_of n ds) ≡ n
unfolding first_of
first_length n ds = simp (length-append, length-take, length-replicate) (omega arith)

first_take : (n k : ℕ) (ds : List Datom) → k ≤ n → k ≤ length ds → take k (first_of n ds) ≡ take k ds
unfolding first_of
first_take n k ds h l =
    take-append-le k (take n ds) (replicate (n - length ds) blank) (omega (arith, length-take n ds)) ∙ take-take k n ds h

pub laid_first : (n : ℕ) (ds : List Datom) (s : List ℕ) → 128 ≤ length ds → WordsTo ds 128 → Laid (first_of n ds) (laid_to ds s (laid_count n (length s)))
unfolding Laid
laid_first n ds s h w =
    let k = laid_count n (length s) in
    let f = laid_fits n (length s) in
    rw (first_length n ds, laid_length ds s k f.1)
    (laid_back ds s k (omega arith) f.1 (λ j l. w j (omega arith)) ∙ sym (first_take n k ds f.0 (omega arith)))

-- and of a slice that has n records, unless they are too many to be laid
pub laid_there : (n room : ℕ) (ds : List Datom) → (n ≤ 128 → n ≤ length ds) → laid_count n room ≤ length ds
unfolding laid_count
laid_there n room ds h = side (ltb 128 n) refl (ltb room (32 * n))
  where
    side : (a : Bool) → ltb 128 n ≡ a → (b : Bool) → cond a 0 (cond b 0 n) ≤ length ds
    side true e b = omega arith
    side false e true = omega arith
    side false e false = h (ltb-false 128 n e)

pub laid_records :
    (n : ℕ) (ds : List Datom) (s : List ℕ) → (n ≤ 128 → n ≤ length ds) → WordsTo ds (laid_count n (length s)) →
    Laid (first_of n ds) (laid_to ds s (laid_count n (length s)))
unfolding Laid
laid_records n ds s h w =
    let k = laid_count n (length s) in
    let f = laid_fits n (length s) in
    let there = laid_there n (length s) ds h in
    rw (first_length n ds, laid_length ds s k f.1)
    (laid_back ds s k there f.1 w ∙ sym (first_take n k ds f.0 there))

-- the first records of a list, as many as it has
pub first_all : (ds : List Datom) → first_of (length ds) ds ≡ ds
unfolding first_of
first_all ds =
    let none : length ds - length ds ≡ 0 = omega arith in
    rw (none, take-length ds, append-nil)
