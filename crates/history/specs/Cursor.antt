-- The eight places of a cursor: frames written into them are read back. Rests on the rules alone.
use Rattle.std.specs.Prelude.{ℕ, ◌≡◌, refl, length, get_or}
use mathlib.Core.List.{List, [], ◌∷◌, ◌++◌, map, reverse, append_assoc, reverse-cons}
use Rattle.std.proofs.Common.{◌∙◌}
use Rattle.std.proofs.lemmas.List.{length-map, length-reverse, get_or_at}
use Rattle.store.specs.declared.PageId.{PageId}
use Rattle.store.specs.Page.{page}
use Rattle.rules.specs.Listing.{Frame, frames_from, eight, indices_of, pages_of}

reversed :
    {A B : Type 0} (g : A → B) (a : A) (xs : List A) (rest : List B) → reverse (map g (a ∷ xs)) ++ rest ≡ reverse (map g xs) ++ (g a ∷ rest)
reversed g a xs rest = rw (reverse-cons (g a) (map g xs)) (append_assoc (reverse (map g xs)) (g a ∷ []) rest)

nth_last :
    {A B : Type 0} (g : A → B) (a : A) (xs : List A) (rest : List B) (z : B) → get_or (reverse (map g xs) ++ (g a ∷ rest)) (length xs) z ≡ g a
nth_last g a xs rest z = get_or_at (reverse (map g xs)) (g a) rest z (length xs) (length-reverse (map g xs) ∙ length-map xs g)

from_front :
    (fs : List Frame) (i : List ℕ) (p : List PageId) →
    frames_from (length fs) (reverse (map (λ f. f.at) fs) ++ i) (reverse (map (λ f. f.page) fs) ++ p) ≡ fs
unfolding frames_from
from_front [] i p = refl
from_front (a ∷ fs) i p =
    rw (
      reversed (λ (f : Frame). f.at) a fs i,
      reversed (λ (f : Frame). f.page) a fs p,
      nth_last (λ (f : Frame). f.at) a fs i 0,
      nth_last (λ (f : Frame). f.page) a fs p (page 0),
      from_front fs (a.at ∷ i) (a.page ∷ p),
    )

pub frames_back : (fs : List Frame) → frames_from (length fs) (indices_of fs) (pages_of fs) ≡ fs
unfolding eight
frames_back fs = from_front fs _ _
