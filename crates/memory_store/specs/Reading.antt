-- What the reader's answers say of a page.
use Rattle.std.specs.Prelude.{ℕ, List, Result, Ok, Err}
use Rattle.store.specs.declared.PageId.{PageId}
use Rattle.store.specs.declared.Extent.{Extent}
use Rattle.store.specs.Size.{capacity}
use Rattle.answer.specs.declared.Rule.{Rule}
use Rattle.answer.specs.declared.Fault.{Fault}
use Rattle.memory_store.specs.declared.reader.Header.{Header}
use Rattle.rules.specs.Page.{Read, broken, good, node_of}
use Rattle.rules.specs.Tree.{Fetched, faulty, fine}
use Rattle.rules.specs.Store.{page_at}

-- of a page of capacity c with the bytes s
unfoldable pub said : ℕ → List ℕ → Result Header Rule → Read
said c s (Err r) = broken r
said c s (Ok h) = good (node_of c h.level h.count s)

-- of a page of the store
unfoldable pub told : Extent → List ℕ → PageId → Result Header Fault → Fetched
told x s p (Err f) = faulty f
told x s p (Ok h) = fine (node_of (capacity x.size) h.level h.count (page_at x s p))
