-- Datoms as bytes, and which may be stored or serve as a bound.
use Rattle.std.specs.Prelude.{ℕ, ◌+◌, ◌^◌, ◌<◌, Bool, List, ◌++◌}
use Rattle.store.specs.Words.{bytes_of, word_at, cells, spread}
use Rattle.datom.specs.declared.Datom.{Datom}
use Rattle.datom.specs.Value.{formed_value, stored_value, bound_value}

-- "32 bytes: entity, attribute, value, transaction_operation, each 8 bytes little-endian."
unfoldable pub datom_at : List ℕ → ℕ → Datom
datom_at s at =
    record {
      entity = record { 0 = word_at s at };
      attribute = record { 0 = word_at s (at + 8) };
      value = record { 0 = word_at s (at + 16) };
      transaction_operation = record { 0 = word_at s (at + 24) };
    }

unfoldable pub datom_of : List ℕ → Datom
datom_of s = datom_at s 0

unfoldable pub datom_bytes : Datom → List ℕ
datom_bytes d =
    bytes_of 8 d.entity.0 ++ (bytes_of 8 d.attribute.0 ++ (bytes_of 8 d.value.0 ++ bytes_of 8 d.transaction_operation.0))

-- the first n datoms of a list of bytes, and the bytes of datoms
abbrev pub datoms_of : ℕ → List ℕ → List Datom
datoms_of n s = cells datom_of 32 n s

abbrev pub datoms_bytes : List Datom → List ℕ
datoms_bytes ds = spread datom_bytes ds

-- a datom is well formed if its value is; the other words may be anything
unfoldable pub formed_datom : Datom → Bool
formed_datom d = formed_value d.value

unfoldable pub stored_datom : List ℕ → Datom → Bool
stored_datom h d = stored_value h d.value

unfoldable pub bound_datom : List ℕ → Datom → Bool
bound_datom h d = bound_value h d.value

-- what a datom that comes from bytes has: each word below 2^64
pub record WordSized (d : Datom) : Type 0 where
  pub entity : d.entity.0 < 2 ^ 64
  pub attribute : d.attribute.0 < 2 ^ 64
  pub value : d.value.0 < 2 ^ 64
  pub last : d.transaction_operation.0 < 2 ^ 64
