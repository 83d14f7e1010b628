-- The keys of values are in the values' order.
use Prim.Native.Nat.compare
use Prim.Native.Nat.{ℕ, zero, suc, ◌+◌, ◌*◌, ◌/◌, ◌%◌, ◌^◌, ◌<◌, ◌≤◌, compare}
use Rattle.std.proofs.Common.{mul-le-mul_right, pow-suc, arith, sym, ap, ◌∙◌, ltb-true, lt-ltb}
use Rattle.std.proofs.Math.Nat.{pow-zero, div-div-eq-div-mul}
use Rattle.std.specs.Prelude.{Bool, true, false, List, [], ◌∷◌, ◌≡◌, refl}
use Rattle.std.proofs.Math.Arith.{mod-mul}
use Rattle.store.specs.Words.{bytes_of}
use Rattle.datom.specs.declared.Value.{Value}
use Rattle.datom.specs.Value.{is_int, is_str, str_len, is_external, inline_content}
use Rattle.datom.specs.Content.{content_near, content_int}
use Rattle.datom.specs.Laws.{Str, str_form}
use Rattle.index.specs.Order.{and_then, cmp_bytes, cmp_content, cmp_value}
use Rattle.index.specs.Key.{key, turned}
use Rattle.index.specs.Compare.{cmp_lt, cmp_gt, cmp_same, digit, shifted}

-- the weight of a digit before m more, with room for a length
weight : ℕ → ℕ
weight zero = 8
weight (suc m) = 256 * weight m

-- the digits, first highest, then how many
sized : ℕ → List ℕ → ℕ
sized m [] = 0
sized zero (b ∷ bs) = 0
sized (suc m) (b ∷ bs) = b * weight m + suc (sized m bs)

heavy : (m : ℕ) → 8 ≤ weight m
unfolding weight
heavy zero = omega arith
heavy (suc m) = omega (arith, heavy m)

light : (m n v : ℕ) → n ≤ m → sized m (bytes_of n v) + 8 ≤ weight m + m
unfolding bytes_of sized weight
light m zero v h = omega (arith, heavy m)
light zero (suc n) v h = absurd (omega arith)
light (suc m) (suc n) v h =
    let i = light m n (v / 256) (omega arith) in
    let d : v % 256 * weight m ≤ 255 * weight m = mul-le-mul_right (weight m) (omega arith) in
    omega arith

by_size : (m n k v w : ℕ) → n ≤ m → k ≤ m → m ≤ 7
    → cmp_bytes (bytes_of n v) (bytes_of k w) ≡ compare (sized m (bytes_of n v)) (sized m (bytes_of k w))
unfolding bytes_of sized cmp_bytes
by_size m zero zero v w hn hk hm = refl
by_size (suc m) zero (suc k) v w hn hk hm = sym (cmp_lt 0 _ (omega arith))
by_size (suc m) (suc n) zero v w hn hk hm = sym (cmp_gt _ 0 (omega arith))
by_size zero zero (suc k) v w hn hk hm = absurd (omega arith)
by_size zero (suc n) k v w hn hk hm = absurd (omega arith)
by_size (suc m) (suc n) (suc k) v w hn hk hm =
    let a = sized m (bytes_of n (v / 256)) in
    let b = sized m (bytes_of k (w / 256)) in
    ap (and_then (compare (v % 256) (w % 256)))
    (by_size m n k (v / 256) (w / 256) (omega arith) (omega arith) (omega arith) ∙ sym (compare.suc-suc a b))
    ∙ digit (weight m) (v % 256) (w % 256) (suc a) (suc b)
    (omega (arith, light m n (v / 256) (omega arith)))
    (omega (arith, light m k (w / 256) (omega arith)))

-- the m low bytes, first highest, with room for a length; and the powers of 256
tall : ℕ → ℕ → ℕ
tall zero v = 0
tall (suc m) v = v % 256 * weight m + tall m (v / 256)

unfoldable pub power : ℕ → ℕ
power zero = 1
power (suc m) = power m * 256

power_pos : (m : ℕ) → 0 < power m
unfolding power
power_pos zero = omega arith
power_pos (suc m) = omega (arith, power_pos m)

power_is : (n : ℕ) → 256 ^ n ≡ power n
unfolding power
power_is zero = pow-zero 256
power_is (suc n) = pow-suc 256 n ∙ ap (λ (x : ℕ). x * 256) (power_is n)

clean : (m v : ℕ) → v % power m < 1 → tall m v ≡ 0
unfolding tall power
clean zero v l = refl
clean (suc m) v l =
    let e = mod-mul v {m = power m} {c = 256} (power_pos m) (omega arith) in
    let z : v % 256 ≡ 0 = omega arith in
    rw (z, clean m (v / 256) (omega arith)) (omega arith)

-- of a value whose unused bytes are zero
full : (m n v : ℕ) → n ≤ m → v % power m < power n → sized m (bytes_of n v) ≡ tall m v + n
unfolding bytes_of sized tall power
full m zero v h l = omega (arith, clean m v l)
full zero (suc n) v h l = absurd (omega arith)
full (suc m) (suc n) v h l =
    let e = mod-mul v {m = power m} {c = 256} (power_pos m) (omega arith) in
    omega (arith, full m n (v / 256) (omega arith) (omega arith))

turned_is : (v : ℕ) → tall 7 v ≡ turned v * 8
unfolding tall weight turned
turned_is v = simp div-div-eq-div-mul (omega arith)

whole : (n v : ℕ) → n ≤ 7 → v % 2 ^ 56 < 256 ^ n → sized 7 (bytes_of n v) ≡ turned v * 8 + n
unfolding power
whole n v h l = full 7 n v h (omega (arith, power_is n)) ∙ ap (λ (x : ℕ). x + n) (turned_is v)

below : (x : ℕ) → x % 256 < 256
below x = omega arith

digits_below : (a b c d e f g : ℕ) → a < 256 → b < 256 → c < 256 → d < 256 → e < 256 → f < 256 → g < 256
    → a * 281474976710656 + b * 1099511627776 + c * 4294967296 + d * 16777216 + e * 65536 + f * 256 + g < 2 ^ 56
digits_below a b c d e f g ha hb hc hd he hf hg = omega arith

pub turned_below : (v : ℕ) → turned v < 2 ^ 56
unfolding turned
turned_below v = digits_below _ _ _ _ _ _ _ (below v) (below (v / 256)) (below (v / 65536)) (below (v / 16777216)) (below (v / 4294967296)) (below (v / 1099511627776)) (below (v / 281474976710656))

int_below : (v : Value) → is_int v ≡ true → v.0 < 2 ^ 62
unfolding is_int
int_below v e = ltb-true v.0 (2 ^ 62) e

strings :
    (v w : Value) → Str v → Str w →
    cmp_bytes (bytes_of (str_len v) v.0) (bytes_of (str_len w) w.0)
    ≡ compare (2 ^ 62 + (turned v.0 * 8 + str_len v)) (2 ^ 62 + (turned w.0 * 8 + str_len w))
strings v w p q =
    by_size 7 (str_len v) (str_len w) v.0 w.0 p.few q.few (omega arith)
    ∙ rw (whole (str_len v) v.0 p.few p.low, whole (str_len w) w.0 q.few q.low)
    (shifted (2 ^ 62) (turned v.0 * 8 + str_len v) (turned w.0 * 8 + str_len w))

-- the order of values is the order of their keys
by_key :
    (v w : Value) (a b a' b' : Bool) → is_int v ≡ a → is_str v ≡ b → is_int w ≡ a' → is_str w ≡ b' → cmp_content (inline_content v) (inline_content w) ≡ compare (key v) (key w)
unfolding inline_content cmp_content key
by_key v w true b true b' e f e' f' = simp (e, e')
by_key v w true b false true e f e' f' = simp (e, e', f') (sym (cmp_lt _ _ (omega (arith, int_below v e))))
by_key v w true b false false e f e' f' = simp (e, e', f') (sym (cmp_lt _ _ (omega (arith, int_below v e))))
by_key v w false true true b' e f e' f' = simp (e, f, e') (sym (cmp_gt _ _ (omega (arith, int_below w e'))))
by_key v w false true false true e f e' f' = simp (e, f, e', f') (strings v w (str_form v f) (str_form w f'))
by_key v w false true false false e f e' f' = simp (e, f, e', f') (sym (cmp_lt _ _ (omega (arith, (str_form v f).few, turned_below v.0))))
by_key v w false false true b' e f e' f' = simp (e, f, e') (sym (cmp_gt _ _ (omega (arith, int_below w e'))))
by_key v w false false false true e f e' f' = simp (e, f, e', f') (sym (cmp_gt _ _ (omega (arith, (str_form w f').few, turned_below w.0))))
by_key v w false false false false e f e' f' = simp (e, f, e', f') (sym (cmp_same (2 ^ 63)))

-- of values that stand in the word itself, whatever the heap
pub keyed : (h : List ℕ) (v w : Value) → is_external v ≡ false → is_external w ≡ false → cmp_value h v w ≡ compare (key v) (key w)
unfolding cmp_value
keyed h v w p q = rw (content_near h v p, content_near h w q) (by_key v w (is_int v) (is_str v) (is_int w) (is_str w) refl refl refl refl)

-- integers that stand in their words are their own keys
pub by_integer : (h : List ℕ) (v w : Value) → v.0 < 2 ^ 62 → w.0 < 2 ^ 62 → cmp_value h v w ≡ compare v.0 w.0
unfolding cmp_value cmp_content is_int
by_integer h v w p q = rw (content_int h v (lt-ltb _ _ p), content_int h w (lt-ltb _ _ q))

-- what a byte swap gives fits in a word
swapped : (a b c d e f g h : ℕ) → a < 256 → b < 256 → c < 256 → d < 256 → e < 256 → f < 256 → g < 256 → h < 256
    → a * 72057594037927936 + b * 281474976710656 + c * 1099511627776 + d * 4294967296 + e * 16777216 + f * 65536 + g * 256 + h < 2 ^ 64
swapped a b c d e f g h ha hb hc hd he hf hg hh = omega arith

pub swap_fits : (v : ℕ) → v < 2 ^ 64 → v % 256 * 72057594037927936 + v / 256 % 256 * 281474976710656 + v / 65536 % 256 * 1099511627776
    + v / 16777216 % 256 * 4294967296 + v / 4294967296 % 256 * 16777216 + v / 1099511627776 % 256 * 65536 + v / 281474976710656 % 256 * 256 + v / 72057594037927936 < 2 ^ 64
swap_fits v h =
    swapped _ _ _ _ _ _ _ _ (below v) (below (v / 256)) (below (v / 65536)) (below (v / 16777216)) (below (v / 4294967296)) (below (v / 1099511627776))
    (below (v / 281474976710656)) (omega arith)
