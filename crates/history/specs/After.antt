-- The store after a call: what could be fetched still can, and the pages written are fetched as the nodes that they were written from.
-- Rests on Held and on the rules' round trip.
use Prim.Native.Nat.{ℕ, zero, suc, ◌+◌, ◌-◌, ◌*◌, ◌^◌, ◌≤◌, ◌<◌}
use Rattle.std.proofs.Math.Nat.{suc-mul}
use Rattle.std.proofs.Common.{mul-le-mul_left, mul-le-mul_right, div-le_self, sym, ◌∙◌, length-take, take_at, take-take}
use native.Mathlib.Omega.{arith}
use Rattle.std.specs.Prelude.{Bool, ◌≡◌, take, drop}
use Rattle.std.proofs.Math.Bool.{true, false}
use mathlib.Core.List.{List, [], ◌∷◌, ◌++◌, append_assoc}
use Rattle.std.proofs.Math.Path.{refl, ap, subst}
use borrow.Author.Tests.{ne_eqb, ltb-false, lt-ltb, le-ltb}
use Rattle.std.proofs.Math.Dec.{ltb}
use Rattle.std.proofs.Math.ListN.{length, length-append}
use Rattle.std.proofs.Math.Seq.{drop-drop, length-take-le, drop-append-add}
use Rattle.store.specs.declared.PageId.{PageId}
use Rattle.store.specs.declared.Extent.{Extent}
use Rattle.store.specs.Words.{spread, patch}
use Rattle.store.specs.Page.{page as pageId}
use Rattle.store.specs.Size.{capacity}
use Rattle.store.specs.Laws.{apart, known_size}
use Rattle.store.specs.Cells.{drop_take, take_patch, drop_patch, patch_none}
use Rattle.index.specs.Order.{DatomOrd}
use Rattle.index.proofs.Laws.{Preorder}
use Rattle.rules.specs.Page.{Node, encode_page}
use Rattle.rules.specs.Tree.{fine}
use Rattle.rules.specs.Store.{bad_store, page_at, fetch_page, env_of, store_after}
use Rattle.rules.specs.Round.{Writable, encoded_length, read_back}
use Rattle.rules.proofs.ReadLaws.{fetch_tells}
use Rattle.history.specs.Pages.{Extends}
use Rattle.history.specs.Held.{nth, nth_lt, held, EnvOk}

-- a part of a list that lies in a front that two lists share
same_part : (n k m : ℕ) (b b₁ : List ℕ) → take n b₁ ≡ take n b → k + m ≤ n → take m (drop k b₁) ≡ take m (drop k b)
same_part n k m b b₁ e h =
    let u : take (k + m) b₁ ≡ take (k + m) b = sym (take-take (k + m) n b₁ h) ∙ ap (take (k + m)) e ∙ take-take (k + m) n b h in
    sym (drop_take k m b₁) ∙ ap (drop k) u ∙ drop_take k m b

-- "let nobody else write below it"
pub fetch_kept :
    (t : DatomOrd) (x x₁ : Extent) (s s₁ : List ℕ) → x₁.size ≡ x.size → x.count ≤ x₁.count →
    take (x.count * x.size) s₁ ≡ take (x.count * x.size) s → Extends (fetch_page t x s) (fetch_page t x₁ s₁)
unfolding fetch_page page_at
fetch_kept t x x₁ s s₁ z c b p n e =
    let k : p.0 < x.count = (fetch_tells t x s p n e).0 in
    let u : take x.size (drop (p.0 * x.size) s₁) ≡ take x.size (drop (p.0 * x.size) s) =
    same_part (x.count * x.size) (p.0 * x.size) x.size s s₁ b
    (omega (arith, mul-le-mul_right {m = suc p.0} {n = x.count} x.size k, suc-mul p.0 x.size)) in
    rw (lt-ltb p.0 x₁.count (omega arith), z, u) (rw (lt-ltb p.0 x.count k) at e)

-- a store that is in order
pub long_enough : (n : ℕ) (s s₁ : List ℕ) → take n s₁ ≡ take n s → n ≤ length s → n ≤ length s₁
long_enough n s s₁ e h = omega (arith, length-take n s₁, length-take n s, ap length e)

pub in_order : (x : Extent) (s : List ℕ) → (capacity x.size ≡ 0 → ⊥) → x.count * x.size ≤ length s → bad_store x s ≡ false
unfolding bad_store
in_order x s c f = rw (ne_eqb (capacity x.size) 0 c, le-ltb (length s) (x.count * x.size) f)

-- "nothing below the count changes"
pub store_keeps :
    (x : Extent) (s : List ℕ) → x.count * x.size ≤ length s → (o : List Node) → take (x.count * x.size) (store_after x s o) ≡ take (x.count * x.size) s
unfolding store_after
store_keeps x s fits o = take_patch s (x.count * x.size) _ fits

-- a call that writes no page leaves every byte
pub store_same : (x : Extent) (s : List ℕ) → store_after x s [] ≡ s
unfolding store_after spread
store_same x s = patch_none s (x.count * x.size)

pub env_ok :
    (t : DatomOrd) → Preorder t.cmp → (x : Extent) (s : List ℕ) → (capacity x.size ≡ 0 → ⊥) → x.count * x.size ≤ length s →
    length s < 2 ^ 64 → EnvOk (env_of t x s)
unfolding env_of
env_ok t L x s c fits h =
    let K = known_size x.size c in
    let few : x.count ≤ length s = omega (arith, mul-le-mul_left {m = 1} {n = x.size} x.count (omega (arith, K.fits))) in
    record {
      laws = L;
      bound = λ p n e. (fetch_tells t x s p n e).0;
      small = omega (arith, div-le_self (length s) x.size);
      pos = K.some;
    }

-- the pages that Done has written
module _
    (t : DatomOrd) (x : Extent) (s : List ℕ) (fits : x.count * x.size ≤ length s) (big : 40 * capacity x.size + 10 ≤ x.size)
  where
    abbrev bytes : List Node → List ℕ
    bytes o = spread (encode_page x.size (capacity x.size)) o

    abbrev Pages : ℕ → List Node → Type 0
    Pages count o = (i : ℕ) (n : Node) → nth o i ≡ fine n → Writable t (capacity x.size) (pageId (count + i)) n

    rest_pages : (count : ℕ) (m : Node) (o : List Node) → Pages count (m ∷ o) → Pages (suc count) o
    unfolding nth
    rest_pages count m o w i n e = subst (λ (q : ℕ). Writable t (capacity x.size) (pageId q) n) (omega arith) (w (suc i) n e)

    page_long :
        (count : ℕ) (m : Node) (o : List Node) → Pages count (m ∷ o) → length (encode_page x.size (capacity x.size) m) ≡ x.size
    unfolding nth
    page_long count m o w = encoded_length x.size (capacity x.size) m big (w 0 m refl).few (w 0 m refl).lens

    bytes_long : (count : ℕ) (o : List Node) → Pages count o → length (bytes o) ≡ length o * x.size
    unfolding spread
    bytes_long count [] w = omega arith
    bytes_long count (m ∷ o) w =
        simp length-append (omega (arith, suc-mul (length o) x.size, page_long count m o w, bytes_long (suc count) o (rest_pages count m o w)))

    page_there :
        (count : ℕ) (o : List Node) (rest : List ℕ) → Pages count o → (i : ℕ) (n : Node) → nth o i ≡ fine n →
        take x.size (drop (i * x.size) (bytes o ++ rest)) ≡ encode_page x.size (capacity x.size) n
    unfolding spread nth
    page_there count [] rest w i n e = absurd (apart (cc))
    page_there count (m ∷ o) rest w zero n e =
        let q : m ≡ n = cc in
        let z : 0 * x.size ≡ 0 = omega arith in
        rw (z, append_assoc)
        (take_at (encode_page x.size (capacity x.size) m) (bytes o ++ rest) x.size (page_long count m o w)
        ∙ ap (encode_page x.size (capacity x.size)) q)
    page_there count (m ∷ o) rest w (suc i) n e =
        let z : suc i * x.size ≡ length (encode_page x.size (capacity x.size) m) + i * x.size =
        omega (arith, suc-mul i x.size, page_long count m o w) in
        rw (z, append_assoc, drop-append-add) (page_there (suc count) o rest (rest_pages count m o w) i n e)

    module _ (o : List Node) (w : Pages x.count o) where
      abbrev extent : Extent
      extent = record { size = x.size; count = x.count + length o }

      pub fetch_new : (i : ℕ) (n : Node) → nth o i ≡ fine n → fetch_page t extent (store_after x s o) (pageId (x.count + i)) ≡ fine n
      unfolding fetch_page page_at store_after
      fetch_new i n e =
          let z : (x.count + i) * x.size ≡ x.count * x.size + i * x.size = omega arith in
          rw (
            lt-ltb (x.count + i) (x.count + length o) (omega (arith, nth_lt o i n e)),
            z,
            ← drop-drop (i * x.size) (x.count * x.size) _,
            drop_patch s (x.count * x.size) _ fits,
            page_there x.count o _ w i n e,
            read_back t x.size (capacity x.size) (pageId (x.count + i)) n (w i n e) big,
          )

      pub after_fits : (x.count + length o) * x.size ≤ length (store_after x s o)
      unfolding store_after patch
      after_fits =
          simp length-append (omega (arith, length-take-le (x.count * x.size) s fits, bytes_long x.count o w))

      pub held_after : Extends (held (env_of t x s) o) (fetch_page t extent (store_after x s o))
      unfolding held env_of
      held_after p n e = side (ltb p.0 x.count) refl
        where
          side : (b : Bool) → ltb p.0 x.count ≡ b → fetch_page t extent (store_after x s o) p ≡ fine n
          side true u = fetch_kept t x extent s (store_after x s o) refl (omega arith) (store_keeps x s fits o) p n (rw u at e)
          side false u =
              let q : pageId (x.count + (p.0 - x.count)) ≡ p = ap pageId (omega (arith, ltb-false p.0 x.count u)) in
              subst (λ (z : PageId). fetch_page t extent (store_after x s o) z ≡ fine n) q (fetch_new (p.0 - x.count) n (rw u at e))
