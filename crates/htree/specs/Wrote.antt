-- Pages written past the count: what they leave of the store, one after another, and that a call still reads what it read.
use Rattle.std.specs.Prelude.{ℕ, ◌+◌, ◌*◌, ◌≤◌, ◌<◌, Bool, List, [], ◌∷◌, ◌++◌, ◌≡◌, length}
use Rattle.std.proofs.Math.Nat.{add-mul, add-zero, mul-le-mul_right, one-mul}
use Rattle.std.proofs.Common.{add_assoc, zero-mul, arith, append_assoc, append-nil, ◌∙◌, ap₂, ltb-true, length-append}
use Rattle.std.proofs.Math.Bool.{true, false}
use Rattle.std.proofs.Math.Path.{refl, sym, ap, fun_ext}
use Rattle.std.proofs.Math.Dec.{ltb}
use Rattle.store.specs.declared.PageId.{PageId}
use Rattle.store.specs.declared.Extent.{Extent}
use Rattle.store.specs.Words.{spread, patch}
use Rattle.store.specs.Size.{capacity}
use Rattle.store.specs.Cells.{patch_length, patch_none, patch_patch, patch_before}
use Rattle.index.specs.Order.{DatomOrd}
use Rattle.rules.specs.Page.{Node, encode_page}
use Rattle.rules.specs.Store.{bad_store, page_at, fetch_page, env_of}

-- the bytes of pages, in order
abbrev pub pages_bytes : Extent → List Node → List ℕ
pages_bytes x ns = spread (encode_page x.size (capacity x.size)) ns

pages_append : (x : Extent) (a b : List Node) → pages_bytes x (a ++ b) ≡ pages_bytes x a ++ pages_bytes x b
unfolding spread
pages_append x [] b = refl
pages_append x (n ∷ ns) b = rw (pages_append x ns b) (sym (append_assoc (encode_page x.size (capacity x.size) n) (pages_bytes x ns) (pages_bytes x b)))

-- after w pages past the count, these were written
pub record Wrote (x : Extent) (s : List ℕ) (w : ℕ) (new : List Node) (s₁ : List ℕ) : Type 0 where
  pub bytes : s₁ ≡ patch s ((x.count + w) * x.size) (pages_bytes x new)
  pub sized : length (pages_bytes x new) ≡ length new * x.size
  pub fits : (x.count + w + length new) * x.size ≤ length s

-- the same pages leave the same store
pub wrote_same : {x : Extent} {s s₁ s₂ : List ℕ} {w : ℕ} {a b : List Node} → Wrote x s w a s₁ → Wrote x s w b s₂ → a ≡ b → s₁ ≡ s₂
wrote_same {x} {s} {w = w} A B e = A.bytes ∙ ap (λ (ns : List Node). patch s ((x.count + w) * x.size) (pages_bytes x ns)) e ∙ sym B.bytes

module _ (x : Extent) (s : List ℕ) (w : ℕ) where
  pub wrote_none : (x.count + w) * x.size ≤ length s → Wrote x s w [] s
  unfolding spread
  wrote_none h = record { bytes = sym (patch_none s _); sized = sym (zero-mul x.size); fits = rw add-zero h }

  pub wrote_one :
      (n : Node) → length (encode_page x.size (capacity x.size) n) ≡ x.size → (x.count + w + 1) * x.size ≤ length s →
      Wrote x s w (n ∷ []) (patch s ((x.count + w) * x.size) (encode_page x.size (capacity x.size) n))
  unfolding spread
  wrote_one n e h = record { bytes = ap (patch s _) (sym (append-nil _)); sized = rw (append-nil, one-mul) e; fits = h }

  module _ {s₁ : List ℕ} {a : List Node} (A : Wrote x s w a s₁) where
    split_mul : (x.count + w + length a) * x.size ≡ (x.count + w) * x.size + length a * x.size
    split_mul = add-mul (x.count + w) (length a) x.size

    pub wrote_length : length s₁ ≡ length s
    wrote_length = rw A.bytes (patch_length s _ (pages_bytes x a) (omega (arith, A.sized, A.fits, split_mul)))

    -- one after another
    pub wrote_more : {s₂ : List ℕ} {b : List Node} → Wrote x s₁ (w + length a) b s₂ → Wrote x s w (a ++ b) s₂
    wrote_more {s₂} {b} B =
        let at = (x.count + w) * x.size in
        let e₁ : (x.count + (w + length a)) * x.size ≡ at + length a * x.size = rw (← add_assoc) split_mul in
        let e₂ : (x.count + (w + length a) + length b) * x.size ≡ (x.count + (w + length a)) * x.size + length b * x.size =
        add-mul (x.count + (w + length a)) (length b) x.size in
        let more : pages_bytes x (a ++ b) ≡ pages_bytes x a ++ pages_bytes x b = pages_append x a b in
        let place : (x.count + (w + length a)) * x.size ≡ at + length (pages_bytes x a) = omega (arith, A.sized) in
        let room : at + length (pages_bytes x a) + length (pages_bytes x b) ≤ length s = omega (arith, B.fits, B.sized, wrote_length) in
        record {
          bytes = B.bytes ∙ ap₂ (λ (t : List ℕ) (k : ℕ). patch t k (pages_bytes x b)) A.bytes place ∙ patch_patch s at (pages_bytes x a) (pages_bytes x b) room ∙ ap (patch s at) (sym more);
          sized = ap length more ∙ length-append (pages_bytes x a) (pages_bytes x b) ∙ (let k : length (pages_bytes x a) + length (pages_bytes x b) ≡ length (a ++ b) * x.size = rw length-append (omega (arith, A.sized, B.sized, add-mul (length a) (length b) x.size)) in k);
          fits = let k : x.count + w + length (a ++ b) ≡ x.count + (w + length a) + length b = omega (arith, length-append a b) in rw k (omega (arith, B.fits, wrote_length));
        }

    -- the store is as good as it was, and a page below the count reads as it did
    pub wrote_bad : bad_store x s₁ ≡ bad_store x s
    unfolding bad_store
    wrote_bad = rw wrote_length

    pub wrote_page : (p : PageId) → p.0 < x.count → page_at x s₁ p ≡ page_at x s p
    unfolding page_at
    wrote_page p h =
        let more : (p.0 + 1) * x.size ≤ (x.count + w) * x.size = mul-le-mul_right x.size (omega arith) in
        rw A.bytes
        (patch_before s ((x.count + w) * x.size) (pages_bytes x a) (p.0 * x.size) x.size (omega (arith, add-mul p.0 1 x.size, one-mul x.size))
        (omega (arith, A.fits, split_mul)))

    pub wrote_fetch : (t : DatomOrd) (p : PageId) → fetch_page t x s₁ p ≡ fetch_page t x s p
    unfolding fetch_page
    wrote_fetch t p = side (ltb p.0 x.count) refl
      where
        side : (b : Bool) → ltb p.0 x.count ≡ b → fetch_page t x s₁ p ≡ fetch_page t x s p
        side true q = rw (q, wrote_page p (ltb-true p.0 x.count q))
        side false q = rw q

    -- so a call goes on in what it began in
    pub wrote_env : (t : DatomOrd) → env_of t x s₁ ≡ env_of t x s
    unfolding env_of
    wrote_env t = rw (fun_ext (wrote_fetch t), wrote_length)
