-- One page written, or the refusal to write it.
use Rattle.std.specs.Prelude.{ℕ, suc, ◌+◌, ◌-◌, ◌*◌, ◌/◌, ◌^◌, ◌≤◌, ◌<◌, List, [], ◌∷◌, ◌++◌, ◌≡◌, refl, take, drop, Ok, Err}
use Rattle.std.proofs.Common.{le-div_iff_mul-le, arith, append_assoc, append-nil, ap, length-drop, drop_of_length-le, take-add, take_all, drop-drop, length-take-le}
use borrow.Author.Tests.{le-leb, lt-leb, lt-ltb, le-ltb}
use Rattle.std.proofs.Math.ListN.{length}
use Rattle.store.specs.declared.Extent.{Extent}
use Rattle.store.specs.Words.{patch}
use Rattle.store.specs.Page.{page, page_of}
use Rattle.store.specs.Laws.{cells_length}
use Rattle.datom.specs.Datom.{datom_of}
use Rattle.index.specs.Order.{DatomOrd}
use Rattle.answer.specs.declared.Refusal.TheVariants.{TooTall, NoRoom}
use Rattle.rules.specs.Page.{Node, node_of}
use Rattle.rules.specs.Node.{part_of}
use Rattle.rules.specs.Tree.{put}
use Rattle.rules.specs.Store.{env_of}
use Rattle.htree.specs.Wrote.{Wrote}
use Rattle.htree.specs.Told.{failed, PutTold, put_placed, put_failed}

-- a store into the part from `base` on
pub patch_part : (s : List ℕ) (base at : ℕ) (p : List ℕ) → take base s ++ patch (drop base s) at p ≡ patch s (base + at) p
unfolding patch
patch_part s base at p =
    rw (take-add base at s, drop-drop, ← append_assoc, ← append_assoc)
    (ap (λ (k : ℕ). ((take base s ++ take at (drop base s)) ++ p) ++ drop k s) (let e : base + (at + length p) ≡ base + at + length p = omega arith in e))

pub part_few : (m l n i a : ℕ) (s : List ℕ) → i + a ≤ n → length (part_of i a (node_of m l n s)).datoms ≡ a
unfolding part_of node_of
part_few m l n i a s h = length-take-le a (drop i _) (simp length-drop (omega (arith, cells_length datom_of 32 n s)))

pub part_lens : (m l n i a : ℕ) (s : List ℕ) → i + a ≤ n → length (part_of i a (node_of m l n s)).children ≡ suc a
unfolding part_of node_of
part_lens m l n i a s h = length-take-le (suc a) (drop i _) (simp length-drop (omega (arith, cells_length page_of 8 (suc n) (drop (32 * m) s))))

module _ (t : DatomOrd) (x : Extent) (s : List ℕ) (n : Node) (o : List Node) where
  pub put_tall : 8 ≤ n.level → PutTold x s s n o (Err (failed TooTall (length o))) (put (env_of t x s) n o)
  unfolding put
  put_tall h = rw (le-leb 8 n.level h) (put_failed refl)

  module _ (low : n.level < 8) where
    pub put_full : length s / x.size - x.count ≤ length o → PutTold x s s n o (Err (failed NoRoom (length o))) (put (env_of t x s) n o)
    unfolding put env_of
    put_full h = rw (lt-leb 8 n.level low, le-ltb (length o) (length s / x.size - x.count) h) (put_failed refl)

    pub put_done :
        (w : ℕ) → length o ≡ w → x.count + w < 2 ^ 64 → w < length s / x.size - x.count → {s₁ : List ℕ} → Wrote x s w (n ∷ []) s₁ →
        PutTold x s s₁ n o (Ok (page (x.count + w))) (put (env_of t x s) n o)
    unfolding put env_of
    put_done w l f h q =
        rw (← l, lt-leb 8 n.level low, lt-ltb (length o) (length s / x.size - x.count) (omega arith)) (put_placed {id = page (x.count + length o)} (rw l f) (rw l q))

-- a page more fits
pub one_fits : (x : Extent) (s : List ℕ) (w : ℕ) → 0 < x.size → w < length s / x.size - x.count → (x.count + w + 1) * x.size ≤ length s
one_fits x s w pos h = (le-div_iff_mul-le pos).0 (omega arith)

-- what a part from `base` on, lent and patched, comes back as
pub part_back :
    (s : List ℕ) (base at : ℕ) (p : List ℕ) → base ≤ length s →
    take base s ++ (patch (take (length s - base) (drop base s)) at p ++ drop (length s - base) (drop base s)) ≡ patch s (base + at) p
part_back s base at p h =
    let n : length (drop base s) ≤ length s - base = simp length-drop (omega arith) in
    rw (take_all (length s - base) (drop base s) n, drop_of_length-le (drop base s) {i = length s - base} n, append-nil) (patch_part s base at p)
