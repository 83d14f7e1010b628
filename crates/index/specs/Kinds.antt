-- The three kinds of content, and what a comparison by them reads of the heap.
use Prim.Native.Nat.{ℕ, zero, suc, ◌+◌, ◌*◌, ◌/◌, ◌%◌, ◌^◌, ◌<◌, ◌≤◌, compare}
use Rattle.std.proofs.Common.{arith, sym, ◌∙◌, ap}
use Rattle.std.specs.Prelude.{Bool, not, List, ◌∷◌, length, take, drop}
use Rattle.std.proofs.Math.Bool.{true, false}
use Rattle.std.proofs.Math.Path.{◌≡◌, refl}
use borrow.Author.Tests.{eqb-true, le-ltb}
use Rattle.std.proofs.lemmas.List.{take-append-le}
use Rattle.store.specs.Words.{bytes_of, patch}
use Rattle.store.specs.Laws.{bytes_length}
use Rattle.heap.specs.Constant.{word_there, bytes_there, integer_at, bytes_at}
use Rattle.datom.specs.declared.Value.{Value}
use Rattle.datom.specs.Value.{is_int, str_len, is_str, is_max, names_int, names_str, is_external, offset_of, Content, int, str, top, inline_content, named_int, named_str, content}
use Rattle.datom.specs.Laws.{str_form}
use Rattle.datom.specs.Stored as stored
use Rattle.datom.specs.Stored.{Tag01, tag_01, Tag10, tag_10, Tag11, tag_11, int_word}
use Rattle.datom.specs.Content.{content_inline, content_near, content_int, content_far_int, content_far_str, content_max}
use Rattle.index.specs.declared.content.Kind.{Kind}
use Rattle.index.specs.declared.content.Kind.TheVariants.{Integer, Text, Top}
use Rattle.std.specs.declared.cmp.Ordering.TheVariants.{Less, Equal, Greater}
use Rattle.index.specs.Order.{cmp_bytes, cmp_content, named}

-- "Integers come before byte strings, these before max"
unfoldable pub kind_of : Content → ℕ
kind_of (int n) = 0
kind_of (str b) = 1
kind_of top = 2

-- the code's kinds, in the same order
abbrev pub rank : Kind → ℕ
rank Integer = 0
rank Text = 1
rank Top = 2

-- two contents of different kinds
pub kind_less : (x y : Content) → kind_of x < kind_of y → Less ≡ named (cmp_content x y)
unfolding kind_of cmp_content named
kind_less (int a) (int b) h = absurd (omega arith)
kind_less (int a) (str b) h = refl
kind_less (int a) top h = refl
kind_less (str a) (int b) h = absurd (omega arith)
kind_less (str a) (str b) h = absurd (omega arith)
kind_less (str a) top h = refl
kind_less top (int b) h = absurd (omega arith)
kind_less top (str b) h = absurd (omega arith)
kind_less top top h = absurd (omega arith)

pub kind_greater : (x y : Content) → kind_of y < kind_of x → Greater ≡ named (cmp_content x y)
unfolding kind_of cmp_content named
kind_greater (int a) (int b) h = absurd (omega arith)
kind_greater (int a) (str b) h = absurd (omega arith)
kind_greater (int a) top h = absurd (omega arith)
kind_greater (str a) (int b) h = refl
kind_greater (str a) (str b) h = absurd (omega arith)
kind_greater (str a) top h = absurd (omega arith)
kind_greater top (int b) h = refl
kind_greater top (str b) h = refl
kind_greater top top h = absurd (omega arith)

-- neither integer nor byte string
pub kind_top : (x y : Content) → kind_of x ≡ kind_of y → (kind_of x ≡ 0 → ⊥) → (kind_of x ≡ 1 → ⊥) → Equal ≡ named (cmp_content x y)
unfolding kind_of cmp_content named
kind_top (int a) y e p q = absurd (p refl)
kind_top (str a) y e p q = absurd (q refl)
kind_top top (int b) e p q = absurd (omega arith)
kind_top top (str b) e p q = absurd (omega arith)
kind_top top top e p q = refl

-- the ways of a kind
module _ (h : List ℕ) (v : Value) where
  pub kind_int : v.0 < 2 ^ 62 → 0 ≡ kind_of (content h v)
  unfolding kind_of
  kind_int p = rw (content_int h v (int_word v p))

  module _ (p : 2 ^ 62 ≤ v.0) (q : v.0 < 2 ^ 63) where
    pub kind_far_int : word_there h (offset_of v) ≡ true → 0 ≡ kind_of (content h v)
    unfolding kind_of named_int
    kind_far_int e = rw (content_far_int h v (tag_01 v p q).names, e)

    pub kind_lost_int : word_there h (offset_of v) ≡ false → 2 ≡ kind_of (content h v)
    unfolding kind_of named_int
    kind_lost_int e = rw (content_far_int h v (tag_01 v p q).names, e)

  module _ (p : 2 ^ 63 ≤ v.0) (q : v.0 < 3 * 2 ^ 62) where
    near : content h v ≡ inline_content v
    near = let t = tag_10 v p q in content_inline h v t.names_none t.names_no_str

    pub kind_str : is_str v ≡ true → 1 ≡ kind_of (content h v)
    unfolding kind_of inline_content
    kind_str e = rw (near, (tag_10 v p q).no_int, e)

    pub kind_bad_str : is_str v ≡ false → 2 ≡ kind_of (content h v)
    unfolding kind_of inline_content
    kind_bad_str e = rw (near, (tag_10 v p q).no_int, e)

  pub kind_max : is_max v ≡ true → 2 ≡ kind_of (content h v)
  unfolding kind_of
  kind_max e = rw (content_max h v e)

  module _ (p : 3 * 2 ^ 62 ≤ v.0) (q : v.0 < 2 ^ 64) (other : is_max v ≡ false) where
    far : content h v ≡ named_str h (offset_of v)
    far = let t = tag_11 v p q in content_far_str h v t.names_none (sym t.names ∙ ap not other)

    pub kind_far_str : bytes_there h (offset_of v) ≡ true → 1 ≡ kind_of (content h v)
    unfolding kind_of named_str
    kind_far_str e = rw (far, e)

    pub kind_lost_str : bytes_there h (offset_of v) ≡ false → 2 ≡ kind_of (content h v)
    unfolding kind_of named_str
    kind_lost_str e = rw (far, e)

    pub text_there : bytes_there h (offset_of v) ≡ true → content h v ≡ str (bytes_at h (offset_of v))
    unfolding named_str
    text_there e = rw (far, e)

  -- an integer that does not stand in the word is the constant
  pub integer_far : kind_of (content h v) ≡ 0 → is_int v ≡ false → content h v ≡ int (integer_at h (offset_of v))
  unfolding content inline_content named_int named_str kind_of
  integer_far k p = side (names_int v) refl (word_there h (offset_of v)) refl (names_str v) refl (bytes_there h (offset_of v)) refl (is_str v) refl
    where
      side :
          (a : Bool) → names_int v ≡ a → (b : Bool) → word_there h (offset_of v) ≡ b → (c : Bool) → names_str v ≡ c → (d : Bool) → bytes_there h (offset_of v) ≡ d →
          (f : Bool) → is_str v ≡ f → content h v ≡ int (integer_at h (offset_of v))
      side true e₁ true e₂ c e₃ d e₄ f e₅ = rw (e₁, e₂)
      side true e₁ false e₂ c e₃ d e₄ f e₅ = let z : ◌≡◌ {A = ℕ} 2 0 = rw (e₁, e₂) at k in absurd (omega (arith, z))
      side false e₁ b e₂ true e₃ true e₄ f e₅ = let z : ◌≡◌ {A = ℕ} 1 0 = rw (e₁, e₃, e₄) at k in absurd (omega (arith, z))
      side false e₁ b e₂ true e₃ false e₄ f e₅ = let z : ◌≡◌ {A = ℕ} 2 0 = rw (e₁, e₃, e₄) at k in absurd (omega (arith, z))
      side false e₁ b e₂ false e₃ d e₄ true e₅ = let z : ◌≡◌ {A = ℕ} 1 0 = rw (e₁, e₃, p, e₅) at k in absurd (omega (arith, z))
      side false e₁ b e₂ false e₃ d e₄ false e₅ = let z : ◌≡◌ {A = ℕ} 2 0 = rw (e₁, e₃, p, e₅) at k in absurd (omega (arith, z))

  -- a byte string stands in the word, or is the constant
  pub text_near : kind_of (content h v) ≡ 1 → is_external v ≡ false → (str_len v ≤ 7) × (content h v ≡ str (bytes_of (str_len v) v.0))
  unfolding inline_content kind_of
  text_near k p = side (is_int v) refl (is_str v) refl
    where
      e : content h v ≡ inline_content v
      e = content_near h v p

      side : (a : Bool) → is_int v ≡ a → (b : Bool) → is_str v ≡ b → (str_len v ≤ 7) × (content h v ≡ str (bytes_of (str_len v) v.0))
      side true e₁ b e₂ = let z : ◌≡◌ {A = ℕ} 0 1 = rw (e, e₁) at k in absurd (omega (arith, z))
      side false e₁ true e₂ = ((str_form v e₂).few, e ∙ rw (e₁, e₂))
      side false e₁ false e₂ = let z : ◌≡◌ {A = ℕ} 2 1 = rw (e, e₁, e₂) at k in absurd (omega (arith, z))

  pub text_far : kind_of (content h v) ≡ 1 → is_external v ≡ true → content h v ≡ str (bytes_at h (offset_of v))
  unfolding content named_int named_str kind_of inline_content is_external is_int is_str
  text_far k p = side (names_int v) refl (word_there h (offset_of v)) refl (names_str v) refl (bytes_there h (offset_of v)) refl
    where
      odd : v.0 / 2 ^ 62 % 2 ≡ 1
      odd = eqb-true (v.0 / 2 ^ 62 % 2) 1 p

      no_int_law : is_int v ≡ false
      no_int_law = le-ltb v.0 (2 ^ 62) (omega (arith, odd))

      no_str_law : is_str v ≡ false
      no_str_law = stored.no_str_law v (λ x. omega (arith, odd, x))

      side :
          (a : Bool) → names_int v ≡ a → (b : Bool) → word_there h (offset_of v) ≡ b → (c : Bool) → names_str v ≡ c → (d : Bool) → bytes_there h (offset_of v) ≡ d →
          content h v ≡ str (bytes_at h (offset_of v))
      side true e₁ true e₂ c e₃ d e₄ = let z : ◌≡◌ {A = ℕ} 0 1 = rw (e₁, e₂) at k in absurd (omega (arith, z))
      side true e₁ false e₂ c e₃ d e₄ = let z : ◌≡◌ {A = ℕ} 2 1 = rw (e₁, e₂) at k in absurd (omega (arith, z))
      side false e₁ b e₂ true e₃ true e₄ = rw (e₁, e₃, e₄)
      side false e₁ b e₂ true e₃ false e₄ = let z : ◌≡◌ {A = ℕ} 2 1 = rw (e₁, e₃, e₄) at k in absurd (omega (arith, z))
      side false e₁ b e₂ false e₃ d e₄ = let z : ◌≡◌ {A = ℕ} 2 1 = rw (e₁, e₃, no_int_law, no_str_law) at k in absurd (omega (arith, z))

-- a word laid out in eight bytes: its first n are those of the byte string in it
take_bytes : (n m v : ℕ) → n ≤ m → take n (bytes_of m v) ≡ bytes_of n v
unfolding bytes_of
take_bytes zero m v p = refl
take_bytes (suc n) zero v p = absurd (omega arith)
take_bytes (suc n) (suc m) v p = ap (λ (s : List ℕ). (v % 256) ∷ s) (take_bytes n m (v / 256) (omega arith))

pub laid : (s : List ℕ) (m n v : ℕ) → m ≡ n → n ≤ 8 → take m (patch s 0 (bytes_of 8 v)) ≡ bytes_of n v
unfolding patch
laid s m n v e p =
    rw e (take-append-le n (bytes_of 8 v) (drop (0 + length (bytes_of 8 v)) s) (omega (arith, bytes_length 8 v)) ∙ take_bytes n 8 v p)

-- a byte string against bytes
pub texts : {x : Content} {a : List ℕ} (b : List ℕ) → x ≡ str a → named (cmp_bytes a b) ≡ named (cmp_content x (str b))
unfolding cmp_content
texts b e = rw e

-- two byte strings
pub both_texts : {x y : Content} {a b : List ℕ} → x ≡ str a → y ≡ str b → named (cmp_bytes a b) ≡ named (cmp_content x y)
unfolding cmp_content
both_texts e f = rw (e, f)

-- two integers
pub integers : {x y : Content} {a b : ℕ} → x ≡ int a → y ≡ int b → named (compare a b) ≡ named (cmp_content x y)
unfolding cmp_content
integers e f = rw (e, f)
