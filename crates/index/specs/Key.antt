-- A number for a value, in the values' order.
use Rattle.std.specs.Prelude.{ℕ, ◌+◌, ◌*◌, ◌/◌, ◌%◌, ◌^◌, cond}
use Rattle.datom.specs.declared.Value.{Value}
use Rattle.datom.specs.Value.{is_int, is_str, str_len}

-- the seven low bytes, the first of them highest
unfoldable pub turned : ℕ → ℕ
turned v =
    v % 256 * 281474976710656 + v / 256 % 256 * 1099511627776 + v / 65536 % 256 * 4294967296 + v / 16777216 % 256 * 16777216
    + v / 4294967296 % 256 * 65536
    + v / 1099511627776 % 256 * 256
    + v / 281474976710656 % 256

-- all eight bytes, the first of them highest
abbrev pub swapped : ℕ → ℕ
swapped v = turned v * 256 + v / 72057594037927936

-- an integer as it is; a byte string above all of them, by its bytes and then its length; max, and what is malformed, above these
unfoldable pub key : Value → ℕ
key v = cond (is_int v) v.0 (cond (is_str v) (2 ^ 62 + (turned v.0 * 8 + str_len v)) (2 ^ 63))
