-- "Listing": the start of a cursor, and a step. Frames stand from the root down; a cursor's eight places are written from them.
use Rattle.std.specs.Prelude.{Err, Ok, Some, None}
use Rattle.answer.specs.Answers.{Step, ended_step, has_begun, yielding}
use Prim.Native.Nat.{ℕ, zero, suc, ◌-◌, Ordering}
use Rattle.std.specs.Prelude.{Bool, true, false, ◌&&◌, not, cond, List, [], ◌∷◌, ◌++◌, map, reverse, leb, ltb, eqb, length, drop, get_or, replicate}
use Rattle.store.specs.declared.PageId.{PageId}
use Rattle.store.specs.declared.Extent.{Extent}
use Rattle.store.specs.Page.{page, none, is_none}
use Rattle.datom.specs.declared.Datom.{Datom}
use Rattle.index.specs.Order.{DatomOrd, is_less}
use Rattle.answer.specs.declared.Fault.{Fault}
use Rattle.answer.specs.declared.Fault.TheVariants.{EqualDatoms, PastCount, TooHigh, NothingLeft}
use Rattle.answer.specs.declared.Refusal.{Refusal}
use Rattle.answer.specs.declared.Refusal.TheVariants.{BadStore, BadBound, NoPage, Damaged}
use Rattle.answer.specs.declared.Cursor.{Cursor}
use Rattle.answer.specs.declared.Started.{Started}
use Rattle.answer.specs.declared.Stepped.{Stepped}
use Rattle.rules.specs.Page.{Node}
use Rattle.rules.specs.Node.{rank_by, below, is_midpoint, next_midpoint}
use Rattle.rules.specs.Tree.{Fetched, faulty, fine, at_level}
use Rattle.rules.specs.Lookup.{child_of}
use Rattle.rules.specs.Store.{refuse_if, or_else, bad_store, bad_root, fetch_page}

-- one level of one end: an index and a page
pub record Frame : Type 0 where
  pub at : ℕ
  pub page : PageId

-- "A cursor is a value: a height, and eight indices and eight page ids for each end. Only places below the height are used"
unfoldable pub frames_from : ℕ → List ℕ → List PageId → List Frame
frames_from zero indices pages = []
frames_from (suc l) indices pages = record { at = get_or indices l 0; page = get_or pages l (page 0) } ∷ frames_from l indices pages

abbrev pub begin_frames : Cursor → List Frame
begin_frames c = frames_from c.height c.begin_indices c.begin_pages

abbrev pub end_frames : Cursor → List Frame
end_frames c = frames_from c.height c.end_indices c.end_pages

-- "the others are written as zero"
unfoldable pub eight : {A : Type 0} → A → List A → List A
eight z xs = xs ++ replicate (8 - length xs) z

abbrev pub indices_of : List Frame → List ℕ
indices_of fs = eight 0 (reverse (map (λ f. f.at) fs))

abbrev pub pages_of : List Frame → List PageId
pages_of fs = eight (page 0) (reverse (map (λ f. f.page) fs))

unfoldable pub cursor_of : List Frame → List Frame → Cursor
cursor_of bs es =
    record {
      height = length bs;
      begin_indices = indices_of bs;
      begin_pages = pages_of bs;
      end_indices = indices_of es;
      end_pages = pages_of es;
    }

-- a way down to level 0, or the page where it is lost
pub data Path : Type 0 where
  lost_at : PageId → Fault → Path
  path : List Frame → Path

abbrev pub longer : Frame → Path → Path
longer a (lost_at q f) = lost_at q f
longer a (path fs) = path (a ∷ fs)

-- past the datoms that pass a test: the index in each page, and on to the first real child at or after it
unfoldable pub path_by : (PageId → Fetched) → (Datom → Bool) → ℕ → PageId → Fetched → Path
path_by fetch p zero q (faulty f) = lost_at q f
path_by fetch p zero q (fine n) = path (record { at = rank_by p n.datoms; page = q } ∷ [])
path_by fetch p (suc l) q (faulty f) = lost_at q f
path_by fetch p (suc l) q (fine n) =
    let i = rank_by p n.datoms in
    let c = child_of (next_midpoint (drop i n.children)) in
    longer (record { at = i; page = q }) (path_by fetch p l c (at_level l (fetch c)))

-- a refused start: its cursor has ended
abbrev pub refuse_start : Refusal → Started
refuse_start r = record { answer = Err r; cursor = cursor_of [] [] }

-- "Starting takes each bound down to level 0 as `find` does, the lower first; an equal datom does not stop it."
unfoldable pub join_paths : Path → Path → Started
join_paths (lost_at q f) es = refuse_start (Damaged q f)
join_paths (path bs) (lost_at q f) = refuse_start (Damaged q f)
join_paths (path bs) (path es) = record { answer = has_begun; cursor = cursor_of bs es }

unfoldable pub start_at : (Datom → Datom → Ordering) → (PageId → Fetched) → PageId → Datom → Datom → Fetched → Started
start_at cmp fetch root lo hi (faulty f) = refuse_start (Damaged root f)
start_at cmp fetch root lo hi (fine n) =
    join_paths (path_by fetch (below cmp lo) n.level root (fine n)) (path_by fetch (below cmp hi) n.level root (fine n))

-- "Lower bound at or above upper, or root none: height 0"
unfoldable pub start_under : DatomOrd → Extent → List ℕ → PageId → Datom → Datom → Started
start_under t x s root lo hi =
    cond (is_less (t.cmp lo hi) && not (is_none root))
    (start_at t.cmp (fetch_page t x s) root lo hi (fetch_page t x s root))
    (record { answer = has_begun; cursor = cursor_of [] [] })

-- "Starting a listing checks 1, 10, 5, then the bounds' order, then pages."
unfoldable pub start_list : DatomOrd → Extent → List ℕ → PageId → Datom → Datom → Started
start_list t x s root lo hi =
    or_else refuse_start (refuse_if (bad_store x s) BadStore)
    (or_else refuse_start (refuse_if (not (t.bound lo && t.bound hi)) BadBound)
    (or_else refuse_start (refuse_if (bad_root x root) NoPage)
    (start_under t x s root lo hi)))

-- a frame with the node that its page holds
pub record Open : Type 0 where
  pub at : ℕ
  pub page : PageId
  pub node : Node

abbrev pub frame_of : Open → Frame
frame_of o = record { at = o.at; page = o.page }

pub data Opens : Type 0 where
  not_open : PageId → Fault → Opens
  opened : List Open → Opens

abbrev pub open_more : Open → Opens → Opens
open_more o (not_open q f) = not_open q f
open_more o (opened os) = opened (o ∷ os)

unfoldable pub open_one : Frame → Fetched → Opens → Opens
open_one a (faulty f) os = not_open a.page f
open_one a (fine n) os =
    cond (leb a.at (length n.datoms)) (open_more (record { at = a.at; page = a.page; node = n }) os) (not_open a.page PastCount)

-- "then the begin pages from the top: a missing or unreadable page, a wrong level or an index past the count is Damaged with that page"
unfoldable pub open_frames : (PageId → Fetched) → List Frame → Opens
open_frames fetch [] = opened []
open_frames fetch (a ∷ fs) = open_one a (at_level (length fs) (fetch a.page)) (open_frames fetch fs)

-- the smallest datom under the indices of some levels, with their frames once it is taken
pub data Least : Type 0 where
  none_left : Least
  least : Datom → Path → Least
  twice : PageId → Least

abbrev pub never : Datom → Bool
never x = false

-- "then advances as `Iter::next` does": the levels below one whose datom is taken stay beside a pending datom, and are filled anew
-- from the next child behind a midpoint
unfoldable pub after : (PageId → Fetched) → Open → List Open → Path
after fetch o [] = path []
after fetch o (b ∷ bs) =
    let c = child_of (next_midpoint (drop (suc o.at) o.node.children)) in
    elim (is_midpoint o.node.children o.at) [
      | false ↦ path (map frame_of (b ∷ bs))
      | true ↦ path_by fetch never (length bs) c (at_level (length bs) (fetch c))
    ]

abbrev pub taking : (PageId → Fetched) → Open → List Open → Datom → Least
taking fetch o os x = least x (longer (record { at = suc o.at; page = o.page }) (after fetch o os))

abbrev pub keeping : Open → Least → Least
keeping o none_left = none_left
keeping o (twice q) = twice q
keeping o (least d a) = least d (longer (frame_of o) a)

-- the datoms left of a level, against the smallest of the levels below it
unfoldable pub choose : (PageId → Fetched) → (Datom → Datom → Ordering) → Open → List Open → List Datom → Least → Least
choose fetch cmp o os [] b = keeping o b
choose fetch cmp o os (x ∷ xs) none_left = taking fetch o os x
choose fetch cmp o os (x ∷ xs) (twice q) = twice q
choose fetch cmp o os (x ∷ xs) (least d a) =
    elim (cmp d x) [
      | Ordering.lt ↦ keeping o (least d a)
      | Ordering.eq ↦ twice o.page
      | Ordering.gt ↦ taking fetch o os x
    ]

-- "Candidates are compared from level 0 up; the first equal pair is Damaged, naming the page of the higher level."
unfoldable pub least_of : (PageId → Fetched) → (Datom → Datom → Ordering) → List Open → Least
least_of fetch cmp [] = none_left
least_of fetch cmp (o ∷ os) = choose fetch cmp o os (drop o.at o.node.datoms) (least_of fetch cmp os)

-- "It has ended if the height is 0 or the used indices of both ends are equal."
unfoldable pub same_indices : List Frame → List Frame → Bool
same_indices [] [] = true
same_indices [] (b ∷ bs) = false
same_indices (a ∷ fs) [] = false
same_indices (a ∷ fs) (b ∷ bs) = eqb a.at b.at && same_indices fs bs

-- "An ended or refused step returns its cursor unchanged."
abbrev pub staying : Cursor → Step → Stepped
staying c a = record { answer = a; cursor = c }

abbrev pub refuse_step : Cursor → Refusal → Stepped
refuse_step c r = staying c (Err r)

-- "A step yields the smallest datom under the indices"; "No candidate left is Damaged, id none."
unfoldable pub moved : Cursor → Least → Stepped
moved c none_left = refuse_step c (Damaged none NothingLeft)
moved c (twice q) = refuse_step c (Damaged q EqualDatoms)
moved c (least d (lost_at q f)) = refuse_step c (Damaged q f)
moved c (least d (path fs)) = record { answer = yielding d; cursor = cursor_of fs (end_frames c) }

unfoldable pub onward : (Datom → Datom → Ordering) → (PageId → Fetched) → Cursor → Opens → Stepped
onward cmp fetch c (not_open q f) = refuse_step c (Damaged q f)
onward cmp fetch c (opened os) = moved c (least_of fetch cmp os)

-- "A step checks 1, then a height over 8 (Damaged, id none), then the end, then the begin pages from the top"
unfoldable pub step_list : DatomOrd → Extent → List ℕ → Cursor → Stepped
step_list t x s c =
    or_else (refuse_step c) (refuse_if (bad_store x s) BadStore)
    (or_else (refuse_step c) (refuse_if (ltb 8 c.height) (Damaged none TooHigh))
    (cond (same_indices (begin_frames c) (end_frames c)) (staying c ended_step)
    (onward t.cmp (fetch_page t x s) c (open_frames (fetch_page t x s) (begin_frames c)))))

-- a listing: the datoms that steps hand out, and whether it has ended, was refused, or has more than so many steps gave
pub data Listed : Type 0 where
  whole : List Datom → Listed
  cut : Refusal → List Datom → Listed
  more : List Datom → Listed

abbrev pub also : Datom → Listed → Listed
also d (whole ds) = whole (d ∷ ds)
also d (cut r ds) = cut r (d ∷ ds)
also d (more ds) = more (d ∷ ds)

unfoldable pub list_from : DatomOrd → Extent → List ℕ → ℕ → Stepped → Listed
list_from t x s zero k = elim k.answer [ Ok (Some d) ↦ more (d ∷ []) | Ok None ↦ whole [] | Err r ↦ cut r [] ]
list_from t x s (suc n) k =
    elim k.answer
    [ Ok (Some d) ↦ also d (list_from t x s n (step_list t x s k.cursor)) | Ok None ↦ whole [] | Err r ↦ cut r [] ]

-- at most n + 1 steps
unfoldable pub listing : DatomOrd → Extent → List ℕ → ℕ → Started → Listed
listing t x s n b = elim b.answer [ Ok u ↦ list_from t x s n (step_list t x s b.cursor) | Err r ↦ cut r [] ]
