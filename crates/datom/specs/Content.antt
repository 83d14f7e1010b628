-- What a value stands for over a heap: by its form, and the same after the heap has grown. "Content never has both an inline and a heap form."
use Rattle.std.specs.Prelude.{ℕ, ◌+◌, ◌-◌, ◌*◌, ◌/◌, ◌%◌, ◌^◌, ◌≤◌, ◌<◌, Bool, ◌&&◌, ◌||◌, List, ◌++◌, ◌⊎◌, ◌≡◌, ltb, eqb, length}
use Rattle.std.proofs.Math.Nat.{mod-add-div}
use Rattle.std.proofs.Common.{arith, inl, inr, sym, ◌∙◌, ap, ap₂}
use Rattle.std.proofs.Math.Bool.{true, false}
use Rattle.std.proofs.Math.Path.{refl}
use borrow.Author.Tests.{ltb-true, leb-true, le-leb, lt-leb, le-ltb, eqb-true, eqb-false}
use Rattle.std.proofs.Math.Dec.{leb}
use Rattle.store.specs.Words.{little, bytes_of, word_at}
use Rattle.store.specs.Laws.{apart, both, bytes_length, little_bytes, low_bytes}
use Rattle.store.specs.Cells.{cut}
use Rattle.heap.specs.Constant.{word_there, bytes_there, integer_at, bytes_at, valid_int, padded, valid_str}
use Rattle.heap.specs.Laws.{bytes_in}
use Rattle.heap.specs.Grow.{integer_grows, text_grows, int_grows, str_grows}
use Rattle.datom.specs.declared.Value.{Value}
use Rattle.datom.specs.Value.{max_word, is_int, str_len, is_str, is_max, names_int, names_str, is_external, offset_of, stored_value, bound_value, Content, int, str, top, inline_content, named_int, named_str, content}
use Rattle.datom.specs.Laws.{Str, str_form}
use Rattle.datom.specs.Stored.{int_word, no_int_law, no_str_law, names_no_int, names_no_str_law, bound_stored, or_true}

-- the string's bytes, as a number
str_low : (v : Value) → Str v → little (bytes_of (str_len v) v.0) ≡ v.0 % 2 ^ 56
str_low v s = low (str_len v) s.few s.low
  where
    low : (n : ℕ) → n ≤ 7 → v.0 % 2 ^ 56 < 256 ^ n → little (bytes_of n v.0) ≡ v.0 % 2 ^ 56
    low n few small =
        let seven : n + (7 - n) ≡ 7 = omega arith in
        let whole : v.0 % 2 ^ 56 + 2 ^ 56 * (v.0 / 2 ^ 56) ≡ v.0 = mod-add-div v.0 (2 ^ 56) in
        let drops : bytes_of n (v.0 % 2 ^ 56 + 256 ^ (n + (7 - n)) * (v.0 / 2 ^ 56)) ≡ bytes_of n (v.0 % 2 ^ 56) =
        low_bytes n (7 - n) (v.0 % 2 ^ 56) (v.0 / 2 ^ 56) in
        let same : bytes_of n v.0 ≡ bytes_of n (v.0 % 2 ^ 56) = ap (bytes_of n) (sym whole) ∙ (rw seven at drops) in
        rw same (little_bytes n (v.0 % 2 ^ 56) small)

str_tells : (v w : Value) → Str v → Str w → bytes_of (str_len v) v.0 ≡ bytes_of (str_len w) w.0 → v.0 ≡ w.0
str_tells v w s t e =
    let len : str_len v ≡ str_len w = sym (bytes_length (str_len v) v.0) ∙ ap length e ∙ bytes_length (str_len w) w.0 in
    let low : v.0 % 2 ^ 56 ≡ w.0 % 2 ^ 56 = sym (str_low v s) ∙ ap little e ∙ str_low w t in
    let high : v.0 / 2 ^ 56 ≡ w.0 / 2 ^ 56 = cc (s.head, t.head) in
    sym (mod-add-div v.0 (2 ^ 56)) ∙ ap₂ (λ (l h : ℕ). l + 2 ^ 56 * h) low high ∙ mod-add-div w.0 (2 ^ 56)

-- the tag of a value that names an integer
int_tag : (v : Value) → names_int v ≡ true → v.0 / 2 ^ 62 ≡ 1
unfolding names_int
int_tag v p = eqb-true (v.0 / 2 ^ 62) 1 p

-- the ways of a content
module _ (h : List ℕ) (v : Value) where
  -- a value that names nothing stands for what its word says
  pub content_inline : names_int v ≡ false → names_str v ≡ false → content h v ≡ inline_content v
  unfolding content
  content_inline p q = rw (p, q)

  pub content_near : is_external v ≡ false → content h v ≡ inline_content v
  unfolding is_external
  content_near p =
      let t = eqb-false (v.0 / 2 ^ 62 % 2) 1 p in
      content_inline (names_no_int v (λ x. t (rw x))) (names_no_str_law v (λ x. t (rw x)))

  pub content_int : is_int v ≡ true → content h v ≡ int v.0
  unfolding is_int inline_content
  content_int p =
      let q = ltb-true v.0 (2 ^ 62) p in
      content_inline (names_no_int v (λ x. omega (arith, q, x))) (names_no_str_law v (λ x. omega (arith, q, x))) ∙ rw (int_word v q)

  pub content_str : is_str v ≡ true → content h v ≡ str (bytes_of (str_len v) v.0)
  unfolding inline_content
  content_str p =
      let s = (str_form v p).head in
      let f = (str_form v p).few in
      let t : v.0 / 2 ^ 62 ≡ 2 = omega (arith, s, f) in
      content_inline (names_no_int v (λ x. omega (arith, t, x))) (names_no_str_law v (λ x. omega (arith, t, x))) ∙ rw (no_int_law v (omega (arith, t)), p)

  pub content_far_int : names_int v ≡ true → content h v ≡ named_int h (offset_of v)
  unfolding content
  content_far_int p = rw p

  pub content_far_str : names_int v ≡ false → names_str v ≡ true → content h v ≡ named_str h (offset_of v)
  unfolding content
  content_far_str p q = rw (p, q)

  pub content_max : is_max v ≡ true → content h v ≡ top
  unfolding is_max inline_content names_str
  content_max p =
      let m = eqb-true v.0 max_word p in
      content_inline (names_no_int v (λ x. omega (arith, m, x))) (rw p (and_false (eqb (v.0 / 2 ^ 62) 3))) ∙ rw (no_int_law v (omega (arith, m)), no_str_law v (λ x. omega (arith, m, x)))
    where
      and_false : (b : Bool) → (b && false) ≡ false
      and_false true = refl
      and_false false = refl

-- what a value that may be a bound can be
pub data Form (h : List ℕ) (v : Value) : Type 0 where
  an_int : is_int v ≡ true → Form h v
  a_str : is_str v ≡ true → Form h v
  far_int : names_int v ≡ true → valid_int h (offset_of v) ≡ true → Form h v
  far_str : names_int v ≡ false → names_str v ≡ true → valid_str h (offset_of v) ≡ true → Form h v
  a_max : is_max v ≡ true → Form h v

pub form_of : (h : List ℕ) (v : Value) → bound_value h v ≡ true → Form h v
unfolding stored_value
form_of h v b = first (is_max v) refl
  where
    far : (c d : Bool) → names_int v ≡ c → names_str v ≡ d → ((c && valid_int h (offset_of v)) || (d && valid_str h (offset_of v))) ≡ true → Form h v
    far false false p q e = absurd (apart (cc))
    far false true p q e = far_str p q e
    far true false p q e = far_int p (or_false (valid_int h (offset_of v)) e)
      where
        or_false : (b : Bool) → (b || false) ≡ true → b ≡ true
        or_false true x = refl
        or_false false x = x
    far true true p q e = absurd (apart (cc (names_no_str_law v (λ x. omega (arith, x, int_tag v p)))))

    stored : (a b : Bool) → is_int v ≡ a → is_str v ≡ b → stored_value h v ≡ true → Form h v
    stored true b p q e = an_int p
    stored false true p q e = a_str q
    stored false false p q e = far (names_int v) (names_str v) refl refl (rw (p, q) at e)

    first : (m : Bool) → is_max v ≡ m → Form h v
    first true e = a_max e
    first false e = stored (is_int v) (is_str v) refl refl (bound_stored v h e ∙ b)

-- a constant that is valid is there, and is no content that a word has room for
module _ (h : List ℕ) (o : ℕ) where
  pub int_valid : valid_int h o ≡ true → (word_there h o ≡ true) × (2 ^ 62 ≤ integer_at h o)
  unfolding valid_int integer_at
  int_valid p =
      let w₁ = both (eqb (o % 8) 0 && word_there h o) (leb (2 ^ 62) (word_at h o)) p in
      let w₂ = both (eqb (o % 8) 0) (word_there h o) w₁.0 in
      (w₂.1, rw w₂.1 (leb-true _ _ w₁.1))

  pub str_valid : valid_str h o ≡ true → (bytes_there h o ≡ true) × (8 ≤ length (bytes_at h o))
  unfolding valid_str bytes_at
  str_valid p =
      let w₁ = both (eqb (o % 8) 0 && bytes_there h o && leb 8 (word_at h o)) (padded h (o + 8 + word_at h o) (word_at h o)) p in
      let w₂ = both (eqb (o % 8) 0 && bytes_there h o) (leb 8 (word_at h o)) w₁.0 in
      let w₃ = both (eqb (o % 8) 0) (bytes_there h o) w₂.0 in
      (w₃.1, rw (w₃.1, cut (word_at h o) (o + 8) h (bytes_in h o w₃.1).1) (leb-true _ _ w₂.1))

-- what each form stands for
module _ (h : List ℕ) where
  int_stands : (v : Value) → names_int v ≡ true → valid_int h (offset_of v) ≡ true → content h v ≡ int (integer_at h (offset_of v))
  unfolding named_int
  int_stands v p q = content_far_int h v p ∙ rw (int_valid h (offset_of v) q).0

  str_stands : (v : Value) → names_int v ≡ false → names_str v ≡ true → valid_str h (offset_of v) ≡ true → content h v ≡ str (bytes_at h (offset_of v))
  unfolding named_str
  str_stands v p q r = content_far_str h v p q ∙ rw (str_valid h (offset_of v) r).0

-- "Content never has both an inline and a heap form": whether a word has room for it
unfoldable pub room_in_word : Content → Bool
room_in_word (int n) = ltb n (2 ^ 62)
room_in_word (str b) = leb (length b) 7
room_in_word top = true

-- the value names a constant
unfoldable pub names : Value → Bool
names v = names_int v || names_str v

pub data Inline (h : List ℕ) (v : Value) : Type 0 where
  an_int : content h v ≡ int v.0 → Inline h v
  a_str : Str v → content h v ≡ str (bytes_of (str_len v) v.0) → Inline h v
  a_max : v.0 ≡ max_word → content h v ≡ top → Inline h v

pub data Stands (h : List ℕ) (v : Value) : Type 0 where
  near : room_in_word (content h v) ≡ true → Inline h v → Stands h v
  far : room_in_word (content h v) ≡ false → names v ≡ true → Stands h v

module _ (h : List ℕ) (v : Value) where
  pub stands : Form h v → Stands h v
  unfolding room_in_word is_int names is_max
  stands (an_int p) = near (rw (content_int h v p) p) (Inline.an_int (content_int h v p))
  stands (a_str p) =
      let s = str_form v p in
      near (rw (content_str h v p, bytes_length) (le-leb (str_len v) 7 s.few)) (Inline.a_str s (content_str h v p))
  stands (far_int p q) = far (rw (int_stands h v p q) (le-ltb _ _ (int_valid h (offset_of v) q).1)) (rw p)
  stands (far_str p q r) = far (rw (str_stands h v p q r) (lt-leb (length (bytes_at h (offset_of v))) 7 (omega (arith, (str_valid h (offset_of v) r).1)))) (rw (p, q))
  stands (a_max p) = near (rw (content_max h v p)) (Inline.a_max (eqb-true v.0 max_word p) (content_max h v p))

-- so values that may be bounds and stand for the same are the same word, or both name a constant
module _ (h : List ℕ) (v w : Value) where
  inline_tells : content h v ≡ content h w → Inline h v → Inline h w → v.0 ≡ w.0
  inline_tells e (an_int c) (an_int d) = cc
  inline_tells e (an_int c) (a_str b d) = absurd (apart (cc))
  inline_tells e (an_int c) (a_max b d) = absurd (apart (cc))
  inline_tells e (a_str a c) (an_int d) = absurd (apart (cc))
  inline_tells e (a_str a c) (a_str b d) = str_tells v w a b (cc)
  inline_tells e (a_str a c) (a_max b d) = absurd (apart (cc))
  inline_tells e (a_max a c) (an_int d) = absurd (apart (cc))
  inline_tells e (a_max a c) (a_str b d) = absurd (apart (cc))
  inline_tells e (a_max a c) (a_max b d) = cc

  pub content_tells : bound_value h v ≡ true → bound_value h w ≡ true → content h v ≡ content h w → (v ≡ w) ⊎ ((names v ≡ true) × (names w ≡ true))
  content_tells p q e = side (stands h v (form_of h v p)) (stands h w (form_of h w q))
    where
      side : Stands h v → Stands h w → (v ≡ w) ⊎ ((names v ≡ true) × (names w ≡ true))
      side (near a c) (near b d) = inl (ap (λ (n : ℕ). record { 0 = n }) (inline_tells e c d))
      side (near a c) (far b d) = absurd (apart (cc))
      side (far a c) (near b d) = absurd (apart (cc))
      side (far a c) (far b d) = inr (c, d)

-- "The heap only grows": what a value stands for stays, and whether it may be stored
module _ (h k : List ℕ) (v : Value) where
  pub stored_grows : stored_value h v ≡ true → stored_value (h ++ k) v ≡ true
  unfolding stored_value
  stored_grows p = side (is_int v || is_str v) (names_int v) (names_str v) p
    where
      side :
          (a b c : Bool) → (a || (b && valid_int h (offset_of v)) || (c && valid_str h (offset_of v))) ≡ true →
          (a || (b && valid_int (h ++ k) (offset_of v)) || (c && valid_str (h ++ k) (offset_of v))) ≡ true
      side true b c e = refl
      side false false false e = e
      side false false true e = str_grows h k (offset_of v) e
      side false true c e = either (valid_int h (offset_of v)) refl c e
        where
          either :
              (x : Bool) → valid_int h (offset_of v) ≡ x → (c : Bool) → (x || (c && valid_str h (offset_of v))) ≡ true →
              (valid_int (h ++ k) (offset_of v) || (c && valid_str (h ++ k) (offset_of v))) ≡ true
          either true f c e = rw (int_grows h k (offset_of v) f)
          either false f false e = absurd (apart (cc))
          either false f true e = rw (str_grows h k (offset_of v) e) (or_true (valid_int (h ++ k) (offset_of v)))

  pub bound_grows : bound_value h v ≡ true → bound_value (h ++ k) v ≡ true
  unfolding bound_value
  bound_grows p = side (stored_value h v) refl p
    where
      side : (x : Bool) → stored_value h v ≡ x → (x || is_max v) ≡ true → (stored_value (h ++ k) v || is_max v) ≡ true
      side true f e = rw (stored_grows f)
      side false f e = rw e (or_true (stored_value (h ++ k) v))

  pub content_grows : bound_value h v ≡ true → content (h ++ k) v ≡ content h v
  content_grows p = side (form_of h v p)
    where
      side : Form h v → content (h ++ k) v ≡ content h v
      side (an_int a) = content_int (h ++ k) v a ∙ sym (content_int h v a)
      side (a_str a) = content_str (h ++ k) v a ∙ sym (content_str h v a)
      side (far_int a b) =
          int_stands (h ++ k) v a (int_grows h k (offset_of v) b) ∙ ap int (integer_grows h k (offset_of v) (int_valid h (offset_of v) b).0)
          ∙ sym (int_stands h v a b)
      side (far_str a b c) =
          str_stands (h ++ k) v a b (str_grows h k (offset_of v) c) ∙ ap str (text_grows h k (offset_of v) (str_valid h (offset_of v) c).0)
          ∙ sym (str_stands h v a b c)
      side (a_max a) = content_max (h ++ k) v a ∙ sym (content_max h v a)
