-- Laws for the loops over the levels of an end.
use Rattle.std.specs.Prelude.{ℕ, zero, suc, ◌+◌, ◌-◌, ◌<◌, ◌≤◌, Bool, true, false, ◌&&◌, ◌≡◌, eqb, length, take, get_or, set, replicate}
use Rattle.std.proofs.Common.{add-one, arith, sym, ap, ◌∙◌, eq-eqb, ne_eqb, take_all, take-suc, take-suc-set, length-take-le}
use mathlib.Core.List.{List, [], ◌∷◌, ◌++◌, map, reverse, reverse_aux, append_assoc, append-nil}
use Rattle.std.proofs.Math.Path.{refl}
use Rattle.std.proofs.lemmas.List.{length-map}
use Rattle.store.specs.declared.PageId.{PageId}
use Rattle.store.specs.Page.{page}
use Rattle.answer.specs.declared.Cursor.{Cursor}
use Rattle.rules.specs.Listing.{Frame, frames_from, eight, same_indices, indices_of, pages_of}
use Rattle.listing.specs.declared.way.Way.{Way}
use Rattle.listing.specs.Way.{frames_of, way_of}

-- whether the indices of the levels below l are equal
abbrev pub same_below : Cursor → ℕ → Bool
same_below c l = same_indices (frames_from l c.begin_indices c.begin_pages) (frames_from l c.end_indices c.end_pages)

module _ (c : Cursor) where
  same_at : (l : ℕ) → same_below c (suc l) ≡ (eqb (get_or c.begin_indices l 0) (get_or c.end_indices l 0) && same_below c l)
  unfolding same_indices frames_from
  same_at l = refl

  pub same_none : (l : ℕ) → l ≡ 0 → true ≡ same_below c l
  unfolding same_indices frames_from
  same_none l z = rw z

  module _ (l : ℕ) (some : 0 < l) where
    up : l ≡ suc (l - 1)
    up = omega arith

    pub same_on : get_or c.begin_indices (l - 1) 0 ≡ get_or c.end_indices (l - 1) 0 → same_below c (l - 1) ≡ same_below c l
    same_on e =
        let k : same_below c (suc (l - 1)) ≡ same_below c (l - 1) = rw (same_at (l - 1), eq-eqb _ _ e) in
        sym (ap (same_below c) up ∙ k)

    pub same_stops : (get_or c.begin_indices (l - 1) 0 ≡ get_or c.end_indices (l - 1) 0 → ⊥) → false ≡ same_below c l
    same_stops e =
        let k : same_below c (suc (l - 1)) ≡ false = rw (same_at (l - 1), ne_eqb _ _ e) in
        sym (ap (same_below c) up ∙ k)

pub mapped_length : {A B : Type 0} (f : A → B) (xs : List A) (n : ℕ) → length (map f xs) ≡ n → length xs ≡ n
mapped_length f xs n e = sym (length-map xs f) ∙ e

-- an end has eight places
abbrev pub Full : Way → Type 0
Full w = (length w.indices ≡ 8) × (length w.pages ≡ 8)

-- the places below i as they are, zero from i on
abbrev pub cleared : {A : Type 0} → A → ℕ → List A → List A
cleared z i xs = take i xs ++ replicate (8 - i) z

module _ {A : Type 0} (z : A) (i : ℕ) (xs : List A) (all : length xs ≡ 8) where
  pub clear_on : i < 8 → cleared z (i + 1) (set xs i z) ≡ cleared z i xs
  clear_on h =
      let e : 8 - i ≡ suc (8 - (i + 1)) = omega arith in
      rw (e, add-one, take-suc-set xs i z (omega (arith, all))) (append_assoc (take i xs) (z ∷ []) (replicate (8 - suc i) z))

  pub clear_end : 8 ≤ i → xs ≡ cleared z i xs
  clear_end h =
      let e : 8 - i ≡ 0 = omega arith in
      rw (e, take_all i xs (omega (arith, all))) (sym (append-nil xs))

-- the indices and the pages of frames, from level 0 up
back_indices : (is : List ℕ) (ps : List PageId) (h : ℕ) (r : List ℕ) → h ≤ length is → reverse_aux (map (λ (f : Frame). f.at) (frames_from h is ps)) r ≡ take h is ++ r
unfolding frames_from
back_indices is ps zero r u = refl
back_indices is ps (suc h) r u =
    back_indices is ps h (get_or is h 0 ∷ r) (omega (arith, u)) ∙ rw (take-suc is h 0 (omega (arith, u))) (sym (append_assoc (take h is) (get_or is h 0 ∷ []) r))

back_pages :
    (is : List ℕ) (ps : List PageId) (h : ℕ) (r : List PageId) → h ≤ length ps → reverse_aux (map (λ (f : Frame). f.page) (frames_from h is ps)) r ≡ take h ps ++ r
unfolding frames_from
back_pages is ps zero r u = refl
back_pages is ps (suc h) r u =
    back_pages is ps h (get_or ps h (page 0) ∷ r) (omega (arith, u))
    ∙ rw (take-suc ps h (page 0) (omega (arith, u))) (sym (append_assoc (take h ps) (get_or ps h (page 0) ∷ []) r))

pub frames_count : (h : ℕ) (is : List ℕ) (ps : List PageId) → length (frames_from h is ps) ≡ h
unfolding frames_from
frames_count zero is ps = refl
frames_count (suc h) is ps = ap suc (frames_count h is ps)

eight_taken : {A : Type 0} (z : A) (h : ℕ) (xs : List A) → h ≤ length xs → eight z (take h xs) ≡ cleared z h xs
unfolding eight
eight_taken z h xs u = rw (length-take-le h xs u)

module _ (w : Way) (h : ℕ) (most : h ≤ 8) where
  pub used_indices : length w.indices ≡ 8 → indices_of (frames_of h w) ≡ cleared 0 h w.indices
  used_indices e =
      let k : reverse (map (λ (f : Frame). f.at) (frames_of h w)) ≡ take h w.indices =
      back_indices w.indices w.pages h [] (omega (arith, e)) ∙ append-nil (take h w.indices) in
      ap (eight 0) k ∙ eight_taken 0 h w.indices (omega (arith, e))

  pub used_pages : length w.pages ≡ 8 → pages_of (frames_of h w) ≡ cleared (page 0) h w.pages
  used_pages e =
      let k : reverse (map (λ (f : Frame). f.page) (frames_of h w)) ≡ take h w.pages =
      back_pages w.indices w.pages h [] (omega (arith, e)) ∙ append-nil (take h w.pages) in
      ap (eight (page 0)) k ∙ eight_taken (page 0) h w.pages (omega (arith, e))

-- an end that is cleared from level l on as another is from h on, once no place is left
pub used_is :
    (w v : Way) (h l : ℕ) → h ≤ 8 → 8 ≤ l → Full w → Full v → cleared 0 l v.indices ≡ cleared 0 h w.indices →
    cleared (page 0) l v.pages ≡ cleared (page 0) h w.pages → v ≡ way_of (frames_of h w)
unfolding way_of
used_is w v h l most past fw fv is ps =
    let a : v.indices ≡ indices_of (frames_of h w) = clear_end 0 l v.indices fv.0 past ∙ is ∙ sym (used_indices w h most fw.0) in
    let b : v.pages ≡ pages_of (frames_of h w) = clear_end (page 0) l v.pages fv.1 past ∙ ps ∙ sym (used_pages w h most fw.1) in
    λ i. record { indices = a i; pages = b i }
