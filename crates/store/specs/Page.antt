-- Page ids.
use Rattle.std.specs.Prelude.{ℕ, Bool, List, eqb}
use Rattle.store.specs.declared.PageId.{PageId}
use Rattle.store.specs.Words.{little, bytes_of}

-- the page of a number
abbrev pub page : ℕ → PageId
page n = record { 0 = n }

-- "Page id 2^64-1 (`PageId::max`) means "none"."
abbrev pub none : PageId
none = page 0xffff_ffff_ffff_ffff

-- whether a page id is none; the number itself stays shut in proofs
unfoldable pub is_none : PageId → Bool
is_none p = eqb p.0 none.0

-- "children (8 bytes each ..)": a page id as bytes
unfoldable pub page_of : List ℕ → PageId
page_of s = page (little s)

unfoldable pub page_bytes : PageId → List ℕ
page_bytes p = bytes_of 8 p.0
