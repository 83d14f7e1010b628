-- The lent store: its pages, what a call works in, and the bytes after it.
use Rattle.std.specs.Prelude.{Err, Ok}
use Rattle.answer.specs.Answers.{Fetch, page_given}
use Rattle.std.specs.Prelude.{ℕ, ◌-◌, ◌*◌, ◌/◌, Bool, ◌||◌, not, cond, List, [], ltb, eqb, length, take, drop}
use Rattle.store.specs.declared.PageId.{PageId}
use Rattle.store.specs.declared.Extent.{Extent}
use Rattle.store.specs.Words.{spread, patch}
use Rattle.store.specs.Page.{is_none}
use Rattle.store.specs.Size.{capacity, scratch_need}
use Rattle.index.specs.Order.{DatomOrd}
use Rattle.answer.specs.declared.Fault.TheVariants.{Missing, Breaks}
use Rattle.answer.specs.declared.Refusal.{Refusal}
use Rattle.answer.specs.declared.Refusal.TheVariants.{BadStore, NoPage}
use Rattle.rules.specs.Page.{Node, Read, broken, good, read_page, encode_page}
use Rattle.rules.specs.Tree.{Fetched, faulty, fine, Env}
use Rattle.rules.specs.Lookup.{Finding, clear, found}

-- a refusal that is given if a test holds, and what comes after a check that finds nothing
abbrev pub refuse_if : Bool → Refusal → Finding
refuse_if b r = cond b (found r) clear

abbrev pub or_else : {A : Type 0} → (Refusal → A) → Finding → A → A
or_else refuse (found r) rest = refuse r
or_else refuse clear rest = rest

-- "1 BadStore: page size unknown, count times size exceeds the slice"
unfoldable pub bad_store : Extent → List ℕ → Bool
bad_store x s = eqb (capacity x.size) 0 || ltb (length s) (x.count * x.size)

-- "or scratch, where a call takes it, too short"
unfoldable pub bad_scratch : Extent → ℕ → Bool
bad_scratch x scratch = ltb scratch (scratch_need (capacity x.size))

-- "5 NoPage: root neither none nor below the count"
unfoldable pub bad_root : Extent → PageId → Bool
bad_root x root = not (is_none root || ltb root.0 x.count)

-- "A fetch checks 1, 5 .. For a fetch, "none" is NoPage."
unfoldable pub fetch_fault : Extent → List ℕ → PageId → Finding
fetch_fault x s p = or_else found (refuse_if (bad_store x s) BadStore) (refuse_if (not (ltb p.0 x.count)) NoPage)

unfoldable pub fetch_answer : Extent → List ℕ → PageId → Fetch
fetch_answer x s p = or_else Err (fetch_fault x s p) page_given

-- the bytes of a page
unfoldable pub page_at : Extent → List ℕ → PageId → List ℕ
page_at x s p = take x.size (drop (p.0 * x.size) s)

-- "Fetching page p gives back that very part of the store, not a copy; a refused fetch gives an empty part"
unfoldable pub fetched : Extent → List ℕ → PageId → List ℕ
fetched x s p = or_else (λ r. []) (fetch_fault x s p) (page_at x s p)

abbrev pub read_as : Read → Fetched
read_as (broken r) = faulty (Breaks r)
read_as (good n) = fine n

-- a page as it is read during a call
unfoldable pub fetch_page : DatomOrd → Extent → List ℕ → PageId → Fetched
fetch_page t x s p = cond (ltb p.0 x.count) (read_as (read_page t (capacity x.size) p (page_at x s p))) (faulty Missing)

-- the room is what is left of the slice
unfoldable pub env_of : DatomOrd → Extent → List ℕ → Env
env_of t x s =
    record {
      cap = capacity x.size;
      cmp = t.cmp;
      fetch = fetch_page t x s;
      count = x.count;
      allow = length s / x.size - x.count;
    }

-- "the pages past the count hold those already written, in order, and every other byte stays"
unfoldable pub store_after : Extent → List ℕ → List Node → List ℕ
store_after x s pages = patch s (x.count * x.size) (spread (encode_page x.size (capacity x.size)) pages)
