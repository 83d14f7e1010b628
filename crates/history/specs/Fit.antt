-- Words of 64 bits hold every cursor that a listing over the pages of a slice gives. Rests on Step alone.
use Rattle.std.specs.Prelude.{ℕ, zero, suc, ◌-◌, ◌*◌, ◌^◌, ◌≤◌, ◌<◌, Bool, ◌≡◌, length, get_or, replicate}
use Rattle.std.proofs.Common.{arith, mul-le-mul_left, length-append}
use mathlib.Core.List.{List, [], ◌∷◌, ◌++◌, map, reverse, reverse_aux}
use Rattle.std.proofs.lemmas.List.{length-map, length-replicate, length-reverse}
use Rattle.store.specs.declared.PageId.{PageId}
use Rattle.store.specs.declared.Extent.{Extent}
use Rattle.store.specs.Page.{page as pageId}
use Rattle.store.specs.Size.{capacity}
use Rattle.store.specs.Laws.{known_size}
use Rattle.datom.specs.declared.Datom.{Datom}
use Rattle.index.specs.Order.{DatomOrd}
use Rattle.answer.specs.Fit.{Eight, CursorFits}
use Rattle.rules.specs.Page.{Node}
use Rattle.rules.specs.Tree.{Fetched, fine}
use Rattle.rules.specs.Store.{page_at, fetch_page}
use Rattle.rules.specs.Listing.{Frame, eight, indices_of, pages_of, cursor_of, frame_of}
use Rattle.rules.specs.Lists.{rank_most}
use Rattle.rules.proofs.ReadLaws.{fetch_tells, read_count}
use Rattle.rules.proofs.Sizes.{level_fine}
use Rattle.history.specs.Tree.{Tree}
use Rattle.history.specs.Pages.{page, Holds, Stored}
use Rattle.history.specs.Child.{child_by, child_stored}
use Rattle.history.specs.Step.{down, opens_by}

-- every one of a list
abbrev pub Each : {A : Type 0} → (A → Type 0) → List A → Type 0
Each P [] = Unit {0}
Each P (x ∷ xs) = P x × Each P xs

each_get_d : {A : Type 0} (P : A → Type 0) (xs : List A) → Each P xs → (i : ℕ) (d : A) → i < length xs → P (get_or xs i d)
each_get_d P [] e i d h = absurd (omega arith)
each_get_d P (x ∷ xs) e zero d h = e.0
each_get_d P (x ∷ xs) e (suc i) d h = each_get_d P xs e.1 i d (omega arith)

module _ {A : Type 0} (P : A → Type 0) where
  each_append : (xs ys : List A) → Each P xs → Each P ys → Each P (xs ++ ys)
  each_append [] ys e f = f
  each_append (x ∷ xs) ys e f = (e.0, each_append xs ys e.1 f)

  each_onto : (xs ys : List A) → Each P xs → Each P ys → Each P (reverse_aux xs ys)
  each_onto [] ys e f = f
  each_onto (x ∷ xs) ys e f = each_onto xs (x ∷ ys) e.1 (e.0, f)

  each_same : (n : ℕ) (z : A) → P z → Each P (replicate n z)
  each_same zero z p = tt
  each_same (suc n) z p = (p, each_same n z p)

-- eight places, the ones that are not used as z
each_eight :
    {A : Type 0} (word : A → ℕ) (z : A) (xs : List A) → word z < 2 ^ 64 → length xs ≤ 8 → Each (λ x. word x < 2 ^ 64) xs → Eight word (eight z xs)
unfolding eight
each_eight {A} word z xs p h e =
    let P : A → Type 0 = λ x. word x < 2 ^ 64 in (
      simp (length-append, length-replicate) (omega arith),
      each_get_d P (eight z xs) (each_append P xs (replicate (8 - length xs) z) e (each_same P (8 - length xs) z p)),
    )

each_map : {A B : Type 0} (P : B → Type 0) (g : A → B) (xs : List A) → Each (λ x. P (g x)) xs → Each P (map g xs)
each_map P g [] e = tt
each_map P g (x ∷ xs) e = (e.0, each_map P g xs e.1)

abbrev Small : ℕ → Type 0
Small n = n < 2 ^ 64

abbrev SmallPage : PageId → Type 0
SmallPage p = p.0 < 2 ^ 64

abbrev pub SmallFrame : Frame → Type 0
SmallFrame f = Small f.at × SmallPage f.page

both_small : (fs : List Frame) → Each SmallFrame fs → Each (λ f. Small f.at) fs × Each (λ f. SmallPage f.page) fs
both_small [] e = (tt, tt)
both_small (f ∷ fs) e = let w = both_small fs e.1 in ((e.0.0, w.0), (e.0.1, w.1))

module _ (fs : List Frame) (few : length fs ≤ 8) (e : Each SmallFrame fs) where
  indices_fit : Eight (λ (n : ℕ). n) (indices_of fs)
  indices_fit =
      let xs = map (λ (f : Frame). f.at) fs in
      each_eight (λ (n : ℕ). n) 0 (reverse xs) (omega arith) (omega (arith, length-reverse xs, length-map fs (λ (f : Frame). f.at)))
      (each_onto Small xs [] (each_map Small (λ (f : Frame). f.at) fs (both_small fs e).0) tt)

  pages_fit : Eight (λ (p : PageId). p.0) (pages_of fs)
  pages_fit =
      let xs = map (λ (f : Frame). f.page) fs in
      each_eight (λ (p : PageId). p.0) (pageId 0) (reverse xs) (omega arith) (omega (arith, length-reverse xs, length-map fs (λ (f : Frame). f.page)))
      (each_onto SmallPage xs [] (each_map SmallPage (λ (f : Frame). f.page) fs (both_small fs e).1) tt)

pub cursor_fits :
    (bs es : List Frame) → length bs ≤ 8 → length es ≤ 8 → Each SmallFrame bs → Each SmallFrame es → CursorFits (cursor_of bs es)
unfolding cursor_of
cursor_fits bs es h k b e =
    record {
      height = omega arith;
      begin_indices_fit = indices_fit bs h b;
      begin_pages_fit = pages_fit bs h b;
      end_indices_fit = indices_fit es k e;
      end_pages_fit = pages_fit es k e;
    }

-- a page that is read lies below the count and has few datoms
abbrev pub ReadSmall : (PageId → Fetched) → Type 0
ReadSmall f = (q : PageId) (n : Node) → f q ≡ fine n → SmallPage q × (length n.datoms < 2 ^ 64)

pub read_small :
    (t : DatomOrd) (x : Extent) (s : List ℕ) → (capacity x.size ≡ 0 → ⊥) → x.count * x.size ≤ length s → length s < 2 ^ 64 →
    ReadSmall (fetch_page t x s)
read_small t x s known fits short q n e =
    let T = fetch_tells t x s q n e in
    let K = known_size x.size known in
    let few : x.count ≤ length s = omega (arith, mul-le-mul_left {m = 1} {n = x.size} x.count (omega (arith, K.fits))) in
    (omega (arith, T.0), omega (arith, read_count t (capacity x.size) q (page_at x s q) n T.1, T.1.few, K.few))

-- the frames of a test
pub frames_small :
    (f : PageId → Fetched) → ReadSmall f → (p : Datom → Bool) (l : ℕ) (q : PageId) (n : Node) (tr : Tree) →
    Holds f (page l n.datoms n.children) tr → f q ≡ fine n → Each SmallFrame (map frame_of (opens_by f p l q (fine n)))
unfolding opens_by
frames_small f R p zero q n tr h e =
    let w = R q n e in ((omega (arith, w.1, rank_most p n.datoms), w.0), tt)
frames_small f R p (suc l) q n tr h e =
    let w = R q n e in
    let s : Stored f l (down p n) (child_by p tr) = child_stored p h in
    let read : f (down p n) ≡ fine s.node = level_fine l (f (down p n)) s.node s.read in
    rw s.read ((omega (arith, w.1, rank_most p n.datoms), w.0), frames_small f R p l (down p n) s.node (child_by p tr) s.holds read)
