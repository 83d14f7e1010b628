-- Batches as bytes: their datoms have words of 64 bits, and the bytes of datoms are a batch of these datoms. Rests on the rules alone.
use Rattle.std.specs.Prelude.{ℕ, zero, suc, ◌*◌, ◌/◌, ◌%◌, ◌≤◌, List, [], ◌∷◌, ◌++◌, ◌≡◌, length, take, drop}
use Rattle.std.proofs.Common.{zero-le, suc-le-suc, arith, append-nil, inl, inr, sym, ◌∙◌, ap, eq-eqb, length-drop, length-take-le}
use Rattle.store.specs.declared.PageId.{PageId}
use Rattle.store.specs.declared.StoreRecord.{StoreRecord}
use Rattle.store.specs.Words.{bytes_of, cells, spread}
use Rattle.store.specs.Bytes.{Bytes, bytes_drop, bytes_take}
use Rattle.datom.specs.declared.Datom.{Datom}
use Rattle.datom.specs.Datom.{datom_of, datom_bytes, datoms_of, datoms_bytes, WordSized}
use Rattle.datom.specs.Laws.{words_of}
use Rattle.rules.specs.Lookup.{clear}
use Rattle.rules.specs.Insert.{bytes_fault, batch_of, insert, insert_bytes, initialise, initialise_bytes}
use Rattle.rules.specs.Calls.{insert_call, initialise_call, insert_bytes_call, initialise_bytes_call}
use Rattle.rules.specs.Lists.{In}
use Rattle.rules.specs.Round.{datoms_length, datoms_back}

cells_words : (n : ℕ) (s : List ℕ) → Bytes s → 32 * n ≤ length s → (d : Datom) → In d (datoms_of n s) → WordSized d
unfolding cells datom_of
cells_words zero s h f d i = absurd i
cells_words (suc n) s h f d (inl i) =
    rw i (words_of (take 32 s) (bytes_take 32 s h) 0 (omega (arith, length-take-le 32 s (omega arith))))
cells_words (suc n) s h f d (inr i) =
    cells_words n (drop 32 s) (bytes_drop 32 s h) (simp length-drop (omega arith)) d i

pub batch_words : (b : List ℕ) → Bytes b → (d : Datom) → In d (batch_of b) → WordSized d
batch_words b h = cells_words (length b / 32) b h (omega arith)

-- the bytes of datoms are bytes
bytes_append : (s r : List ℕ) → Bytes s → Bytes r → Bytes (s ++ r)
bytes_append [] r h k i = k i
bytes_append (b ∷ s) r h k zero = h 0
bytes_append (b ∷ s) r h k (suc i) = bytes_append s r (λ j. h (suc j)) k i

bytes_of_are_bytes : (n v : ℕ) → Bytes (bytes_of n v)
unfolding bytes_of
bytes_of_are_bytes zero v i = suc-le-suc zero-le
bytes_of_are_bytes (suc n) v zero = omega arith
bytes_of_are_bytes (suc n) v (suc i) = bytes_of_are_bytes n (v / 256) i

pub datoms_bytes_law : (ds : List Datom) → Bytes (datoms_bytes ds)
unfolding spread datom_bytes
datoms_bytes_law [] = λ i. suc-le-suc zero-le
datoms_bytes_law (d ∷ ds) =
    bytes_append (datom_bytes d) _
    (bytes_append (bytes_of 8 d.entity.0) _ (bytes_of_are_bytes 8 d.entity.0)
    (bytes_append (bytes_of 8 d.attribute.0) _ (bytes_of_are_bytes 8 d.attribute.0)
    (bytes_append (bytes_of 8 d.value.0) _ (bytes_of_are_bytes 8 d.value.0) (bytes_of_are_bytes 8 d.transaction_operation.0))))
    (datoms_bytes_law ds)

-- the record entry hands on the bytes of its datoms, and asks for no more than the rules of datoms
module _ (ds : List Datom) (w : (d : Datom) → In d ds → WordSized d) where
  pub batch_back : batch_of (datoms_bytes ds) ≡ ds
  batch_back =
      let k : length (datoms_bytes ds) / 32 ≡ length ds = omega (arith, datoms_length ds) in
      rw k (ap (datoms_of (length ds)) (sym (append-nil (datoms_bytes ds))) ∙ datoms_back ds [] w)

  batch_even : bytes_fault (datoms_bytes ds) ≡ clear
  unfolding bytes_fault
  batch_even = rw (eq-eqb (length (datoms_bytes ds) % 32) 0 (omega (arith, datoms_length ds)))

  module _ (r : StoreRecord) (s h : List ℕ) (scratch : ℕ) where
    pub insert_records : (root : PageId) → insert_bytes_call r s h scratch root (datoms_bytes ds) ≡ insert_call r s h scratch root ds
    unfolding insert_bytes_call insert_call insert_bytes insert
    insert_records root = rw (batch_even, batch_back)

    pub initialise_records : initialise_bytes_call r s h scratch (datoms_bytes ds) ≡ initialise_call r s h scratch ds
    unfolding initialise_bytes_call initialise_call initialise_bytes initialise
    initialise_records = rw (batch_even, batch_back)
