-- The ways on from a level whose datom is taken, and the answers they give.
use Rattle.std.specs.Prelude.{Option, Some}
use Rattle.answer.specs.Answers.{yielding}
use Prim.Native.Nat.{ℕ, zero, suc, ◌+◌, ◌-◌, ◌≤◌}
use Rattle.std.proofs.Common.{le_refl, ◌∙◌, get_or-set_other}
use Rattle.std.proofs.Math.Numerals.{add-one}
use native.Mathlib.Omega.{arith}
use Rattle.std.proofs.Math.Bool.{true}
use Rattle.std.specs.Prelude.{false, ◌≡◌, None, Result, drop, get_or, set}
use mathlib.Core.List.{List, map}
use Rattle.std.proofs.Math.Path.{refl, sym, ap}
use Rattle.std.proofs.Math.ListN.{length}
use Rattle.store.specs.declared.PageId.{PageId}
use Rattle.store.specs.declared.Extent.{Extent}
use Rattle.store.specs.Page.{page, none}
use Rattle.store.specs.Size.{capacity}
use Rattle.store.specs.Laws.{cells_length}
use Rattle.datom.specs.declared.Datom.{Datom}
use Rattle.datom.specs.Datom.{datom_of}
use Rattle.index.specs.Order.{DatomOrd}
use Rattle.answer.specs.declared.Damage.{Damage}
use Rattle.answer.specs.declared.Fault.{Fault}
use Rattle.answer.specs.declared.Fault.TheVariants.{Missing}
use Rattle.answer.specs.declared.Refusal.TheVariants.{Damaged}
use Rattle.answer.specs.declared.Cursor.{Cursor}
use Rattle.rules.specs.Page.{children_of, node_of, level_of, count_of}
use Rattle.rules.specs.Node.{is_midpoint, next_midpoint}
use Rattle.rules.specs.Tree.{fine}
use Rattle.rules.specs.Lookup.{child_of}
use Rattle.rules.specs.Store.{bad_store, page_at, fetch_page}
use Rattle.rules.specs.Listing.{frames_from, frame_of, never, after, cursor_of, end_frames, refuse_step}
use Rattle.listing.specs.declared.way.Way.{Way}
use Rattle.listing.specs.Way.{frames_of}
use Rattle.listing.specs.Levels.{node_in, opens_of, frames_of_law, opens_count}
use Rattle.listing.specs.Descent.{test_of, lost, down, fill, descent_of, down_of, none_down}
use Rattle.listing.specs.Fill.{refilled}
use Rattle.memory_store.specs.Readable.{node_at, Opens, opens}
use Rattle.listing.specs.CandidateLaws.{read_node}
use Rattle.listing.specs.Advance.{Within, taken, advanced, yield_of}

-- what is known of a page that was read with an index within it, by its header
module _ (t : DatomOrd) (x : Extent) (s : List ℕ) (q : PageId) (i : ℕ) (good : bad_store x s ≡ false) (W : Within (fetch_page t x s q) i) where
  abbrev count : ℕ
  count = count_of (capacity x.size) (page_at x s q)

  read : fetch_page t x s q ≡ fine (node_at x s q (level_of (capacity x.size) (page_at x s q)) count)
  read = read_node t x s q _ W.read

  pub within_open : Opens t x s q (level_of (capacity x.size) (page_at x s q)) count
  within_open = opens t x s q _ _ good read

  pub within_most : i ≤ count
  unfolding node_in node_of
  within_most =
      let e : length (node_in (fetch_page t x s q)).datoms ≡ count = rw read (cells_length datom_of 32 count (page_at x s q)) in
      omega (arith, e, W.most)

  pub within_children : (node_in (fetch_page t x s q)).children ≡ children_of (capacity x.size) (suc count) (page_at x s q)
  unfolding node_in node_of
  within_children = rw read

-- an index at or past the height is in no frame
pub frames_kept : (h : ℕ) (is : List ℕ) (ps : List PageId) (j v : ℕ) → h ≤ j → frames_from h (set is j v) ps ≡ frames_from h is ps
unfolding frames_from
frames_kept zero is ps j v u = refl
frames_kept (suc h) is ps j v u =
    let at : get_or (set is j v) h 0 ≡ get_or is h 0 = get_or-set_other is j h v 0 (λ e. before e) in
    let rest : frames_from h (set is j v) ps ≡ frames_from h is ps = frames_kept h is ps j v (omega (arith, u)) in
    rw (at, rest)
  where
    before : h ≡ j → ⊥
    before e = omega (arith, u, e)

module _ (t : DatomOrd) (x : Extent) (s : List ℕ) (w : Way) where
  abbrev pub children_at : ℕ → List PageId
  children_at l = (node_in (fetch_page t x s (get_or w.pages l (page 0)))).children

  pub adv_bottom : (l : ℕ) → l ≡ 0 → down (taken w l) ≡ advanced t x s w l
  unfolding advanced after opens_of descent_of fill
  adv_bottom zero z = refl
  adv_bottom (suc l) z = absurd (omega (arith, z))

  -- the frames below stay
  pub adv_pending : (l : ℕ) → (l ≡ 0 → ⊥) → is_midpoint (children_at l) (get_or w.indices l 0) ≡ false → down (taken w l) ≡ advanced t x s w l
  unfolding advanced after opens_of descent_of
  adv_pending zero z h = absurd (z refl)
  adv_pending (suc l) z h =
      let fetch = fetch_page t x s in
      let same : map frame_of (opens_of fetch w.indices w.pages (suc l)) ≡ frames_of (suc l) (taken w (suc l)) =
      frames_of_law fetch w.indices w.pages (suc l) ∙ sym (frames_kept (suc l) w.indices w.pages (suc l) _ (le_refl (suc l))) in
      rw (after, h, same) (ap down (sym (refilled l (taken w (suc l)))))

  module _ (l : ℕ) (z : l ≡ 0 → ⊥) (h : is_midpoint (children_at l) (get_or w.indices l 0) ≡ true) where
    abbrev next : (Option PageId)
    next = next_midpoint (drop (get_or w.indices l 0 + 1) (children_at l))

    adv_next : descent_of (l - 1) (taken w l) (down_of t x s never (l - 1) (child_of next)) ≡ advanced t x s w l
    unfolding advanced after opens_of
    adv_next = at l z h
      where
        at :
            (m : ℕ) → (m ≡ 0 → ⊥) → is_midpoint (children_at m) (get_or w.indices m 0) ≡ true →
            descent_of (m - 1) (taken w m) (down_of t x s never (m - 1) (child_of (next_midpoint (drop (get_or w.indices m 0 + 1) (children_at m))))) ≡ advanced t x s w m
        at zero u v = absurd (u refl)
        at (suc m) u v =
            let k : suc m - 1 ≡ m = omega arith in
            rw (k, after, v, opens_count (fetch_page t x s) w.indices w.pages m, ← add-one (get_or w.indices (suc m) 0))

    pub adv_child : (d : PageId) → next ≡ Some d → descent_of (l - 1) (taken w l) (down_of t x s (test_of t None) (l - 1) d) ≡ advanced t x s w l
    unfolding test_of
    adv_child d e = rw (ap child_of e) at adv_next

    pub adv_stuck : x.count ≤ none.0 → next ≡ None → lost none Missing ≡ advanced t x s w l
    adv_stuck c e = none_down t x s never (l - 1) (taken w l) c ∙ (rw (ap child_of e) at adv_next)

module _ (c : Cursor) (d : Datom) (g a : Result Way Damage) (is : g ≡ a) where
  pub yield_lost : (q : PageId) (f : Fault) → g ≡ lost q f → refuse_step c (Damaged q f) ≡ yield_of c d a
  unfolding yield_of
  yield_lost q f h = rw (← is, h)

  pub yield_bottom :
      (w : Way) → g ≡ down w → record { answer = yielding d; cursor = cursor_of (frames_of c.height w) (end_frames c) } ≡ yield_of c d a
  unfolding yield_of
  yield_bottom w h = rw (← is, h)
