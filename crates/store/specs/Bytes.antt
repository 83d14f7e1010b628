-- What a slice of bytes holds, and its parts; bytes decoded and encoded again: so they are told by what they hold.
use Prim.Native.Nat.{ℕ, zero, suc, ◌+◌, ◌*◌, ◌<◌, ◌≤◌}
use Rattle.std.proofs.Math.Nat.{mul-zero, mul-suc}
use Rattle.std.proofs.Common.{arith, sym, ◌∙◌, ap, length-take-le, get_or-drop}
use Rattle.std.specs.Prelude.{List, [], ◌∷◌, ◌≡◌, length, take, drop, get_or}
use Rattle.std.proofs.Math.ListN.{length-drop}
use Rattle.std.proofs.Math.Seq.{take-add}
use Rattle.store.specs.Words.{cells, spread}

-- what a slice of u8 holds
abbrev pub Bytes : List ℕ → Type 0
Bytes s = (i : ℕ) → get_or s i 0 < 256

pub bytes_drop : (n : ℕ) (s : List ℕ) → Bytes s → Bytes (drop n s)
bytes_drop n s b i = rw get_or-drop (b (n + i))

pub bytes_take : (n : ℕ) (s : List ℕ) → Bytes s → Bytes (take n s)
bytes_take zero s b i = omega arith
bytes_take (suc n) [] b i = b i
bytes_take (suc n) (x ∷ s) b zero = b 0
bytes_take (suc n) (x ∷ s) b (suc i) = bytes_take n s (λ j. b (suc j)) i

-- things of w bytes each whose bytes come back
module _ {A : Type 0} (f : List ℕ → A) (g : A → List ℕ) (w : ℕ) (back : (s : List ℕ) → Bytes s → length s ≡ w → g (f s) ≡ s) where
  pub cells_back : (n : ℕ) (s : List ℕ) → Bytes s → w * n ≤ length s → spread g (cells f w n s) ≡ take (w * n) s
  unfolding spread cells
  cells_back zero s b h = rw mul-zero
  cells_back (suc n) s b h =
      let e : w * suc n ≡ w + w * n = rw mul-suc (omega arith) in
      rw (
        back (take w s) (bytes_take w s b) (length-take-le w s (omega arith)),
        cells_back n (drop w s) (bytes_drop w s b) (simp length-drop (omega arith)),
        e,
        take-add,
      )

  -- two areas that begin with the same n of them begin with the same bytes
  pub cells_tell :
      (n : ℕ) (s r : List ℕ) → Bytes s → Bytes r → w * n ≤ length s → w * n ≤ length r → cells f w n s ≡ cells f w n r →
      take (w * n) s ≡ take (w * n) r
  cells_tell n s r p q h k e = sym (cells_back n s p h) ∙ ap (spread g) e ∙ cells_back n r q k
