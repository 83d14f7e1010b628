-- Page sizes: one table; all else stands over the capacity. A further size is one row more, and larger bounds where it is the largest.
use Rattle.std.specs.Prelude.{ℕ, ◌+◌, ◌*◌, cond, List, [], ◌∷◌, map, eqb}

-- a page size that is known: its bytes, and how many datoms a page of it holds
pub record PageSize : Type 0 where
  pub size : ℕ
  pub capacity : ℕ

abbrev pub sized : ℕ → ℕ → PageSize
sized size capacity = record { size = size; capacity = capacity }

-- "Sizes 256, 568, 4096 hold C = 6, 13, 102 datoms."; "Pages of 8192 bytes. .. Capacity is 204"
abbrev pub page_sizes : List PageSize
page_sizes = sized 256 6 ∷ sized 568 13 ∷ sized 4096 102 ∷ sized 8192 204 ∷ []

abbrev pub sizes_of : List PageSize → List ℕ
sizes_of = map (λ (p : PageSize). p.size)

-- the sizes that are known
abbrev pub sizes : List ℕ
sizes = sizes_of page_sizes

-- the bytes of the largest page, and the datoms of the fullest
abbrev pub most_size : ℕ
most_size = 8192

abbrev pub most_datoms : ℕ
most_datoms = 204

-- how many datoms a page of this size holds by the rows of a table; 0 for a size that has no row
unfoldable pub capacity_in : List PageSize → ℕ → ℕ
capacity_in [] size = 0
capacity_in (p ∷ ps) size = cond (eqb size p.size) p.capacity (capacity_in ps size)

unfoldable pub capacity : ℕ → ℕ
capacity size = capacity_in page_sizes size

-- "The node at depth d has at most (d+1)C+128 datoms.": room for a node at the eighth and last depth serves every depth
unfoldable pub room_for : ℕ → ℕ
room_for c = 8 * c + 128

-- "Scratch need is one constant per page size": eight nodes without header, and behind the last the batch that is sent into it
unfoldable pub scratch_need : ℕ → ℕ
scratch_need c = 8 * (40 * room_for c + 8) + 32 * room_for c
