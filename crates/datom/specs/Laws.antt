-- A datom's bytes and words round-trip, and what an inline byte string's word is made of.
use Rattle.std.specs.Prelude.{ℕ, zero, suc, ◌+◌, ◌-◌, ◌*◌, ◌/◌, ◌%◌, ◌^◌, ◌≤◌, ◌<◌, true, ◌≡◌, refl, List, ◌∷◌, ◌++◌, leb, ltb, eqb, length, take, drop, get_or}
use Rattle.std.proofs.Math.Nat.{div-div-eq-div-mul, mod-add-div}
use Rattle.std.proofs.Common.{add-zero, arith, sym, ◌∙◌, ltb-true, leb-true, eqb-true, take-add, take_all, take-take, drop-drop}
use Rattle.store.specs.Words.{little, bytes_of, word_at}
use Rattle.store.specs.Cells.{drop_take_le, cells_at, cells_from}
use Rattle.store.specs.Laws.{both, little_bytes, word_back, word_small}
use Rattle.datom.specs.declared.Datom.{Datom}
use Rattle.datom.specs.declared.Value.{Value}
use Rattle.datom.specs.Value.{str_len, is_str}
use Rattle.datom.specs.Datom.{datom_at, datom_of, datom_bytes, datoms_of, WordSized}

pub datom_length : (d : Datom) → length (datom_bytes d) ≡ 32
unfolding datom_bytes bytes_of
datom_length d = refl

-- a datom comes back from its bytes
pub datom_back : (d : Datom) → WordSized d → datom_of (datom_bytes d) ≡ d
unfolding datom_of datom_at datom_bytes word_at bytes_of
datom_back d w =
    let e₁ : little (bytes_of 8 d.entity.0) ≡ d.entity.0 = little_bytes 8 d.entity.0 w.entity in
    let e₂ : little (bytes_of 8 d.attribute.0) ≡ d.attribute.0 = little_bytes 8 d.attribute.0 w.attribute in
    let e₃ : little (bytes_of 8 d.value.0) ≡ d.value.0 = little_bytes 8 d.value.0 w.value in
    let e₄ : little (bytes_of 8 d.transaction_operation.0) ≡ d.transaction_operation.0 =
    little_bytes 8 d.transaction_operation.0 w.last in
    rw (e₁, e₂, e₃, e₄)

-- and bytes come back from the datom that they are
pub bytes_back : (s : List ℕ) → ((i : ℕ) → get_or s i 0 < 256) → length s ≡ 32 → datom_bytes (datom_of s) ≡ s
unfolding datom_of datom_at datom_bytes
bytes_back s h n =
    rw (word_back s h 0 (omega arith), word_back s h 8 (omega arith), word_back s h 16 (omega arith), word_back s h 24 (omega arith))
    (joined s n)
  where
    joined : (s : List ℕ) → length s ≡ 32 → take 8 (drop 0 s) ++ (take 8 (drop 8 s) ++ (take 8 (drop 16 s) ++ take 8 (drop 24 s))) ≡ s
    joined s n =
        let e₃ : take 8 (drop 16 s) ++ take 8 (drop 24 s) ≡ take 16 (drop 16 s) = rw (← drop-drop 8 16 s) (sym (take-add 8 8 (drop 16 s))) in
        let e₂ : take 8 (drop 8 s) ++ take 16 (drop 16 s) ≡ take 24 (drop 8 s) = rw (← drop-drop 8 8 s) (sym (take-add 8 16 (drop 8 s))) in
        rw (e₃, e₂) (sym (take-add 8 24 s) ∙ take_all 32 s (omega arith))

-- what bytes give is made of words
pub words_of : (s : List ℕ) → ((i : ℕ) → get_or s i 0 < 256) → (at : ℕ) → at + 32 ≤ length s → WordSized (datom_at s at)
unfolding datom_at
words_of s h at f =
    record {
      entity = word_small s h at (omega arith);
      attribute = word_small s h (at + 8) (omega arith);
      value = word_small s h (at + 16) (omega arith);
      last = word_small s h (at + 24) (omega arith);
    }

-- a datom among bytes, and the rest of n datoms from index i on
cell_word : (k at : ℕ) (s : List ℕ) → k + 8 ≤ 32 → word_at (take 32 (drop at s)) k ≡ word_at s (at + k)
unfolding word_at
cell_word k at s h =
    let g : 8 ≤ 32 - k = omega arith in
    rw (drop_take_le k 32 (drop at s) (omega arith), take-take 8 (32 - k) _ g, drop-drop)

pub datom_cell : (s : List ℕ) (at : ℕ) → datom_of (take 32 (drop at s)) ≡ datom_at s at
unfolding datom_of datom_at
datom_cell s at =
    rw (cell_word 0 at s (omega arith), cell_word 8 at s (omega arith), cell_word 16 at s (omega arith), cell_word 24 at s (omega arith), add-zero)

pub datoms_at : (n i : ℕ) (s : List ℕ) (d : Datom) → i < n → get_or (datoms_of n s) i d ≡ datom_at s (32 * i)
datoms_at n i s d h = rw (cells_at datom_of 32 n i s d h, datom_cell)

pub datoms_from : (n i : ℕ) (s : List ℕ) → i < n → drop i (datoms_of n s) ≡ datom_at s (32 * i) ∷ drop (i + 1) (datoms_of n s)
datoms_from n i s h = rw (cells_from datom_of 32 n i s h, datom_cell)

-- a byte string: its head, its length, its contents
pub record Str (v : Value) : Type 0 where
  pub head : v.0 / 2 ^ 56 ≡ 128 + str_len v
  pub few : str_len v ≤ 7
  pub low : v.0 % 2 ^ 56 < 256 ^ str_len v

pub str_form : (v : Value) → is_str v ≡ true → Str v
unfolding is_str str_len
str_form v h =
    let w₁ = both _ (ltb (v.0 % 2 ^ 56) (256 ^ ((v.0 / 2 ^ 56) % 64))) h in
    let w₂ = both (eqb (v.0 / 2 ^ 62) 2) (leb ((v.0 / 2 ^ 56) % 64) 7) w₁.0 in
    let top : v.0 / 2 ^ 56 / 64 ≡ v.0 / 2 ^ 62 = div-div-eq-div-mul v.0 (2 ^ 56) 64 in
    let two : v.0 / 2 ^ 62 ≡ 2 = eqb-true (v.0 / 2 ^ 62) 2 w₂.0 in
    let parts : v.0 / 2 ^ 56 % 64 + 64 * (v.0 / 2 ^ 56 / 64) ≡ v.0 / 2 ^ 56 = mod-add-div (v.0 / 2 ^ 56) 64 in
    record {
      head = head (v.0 / 2 ^ 56) (v.0 / 2 ^ 56 % 64) parts (top ∙ two);
      few = leb-true ((v.0 / 2 ^ 56) % 64) 7 w₂.1;
      low = ltb-true (v.0 % 2 ^ 56) (256 ^ ((v.0 / 2 ^ 56) % 64)) w₁.1;
    }
  where
    head : (x r : ℕ) → r + 64 * (x / 64) ≡ x → x / 64 ≡ 2 → x ≡ 128 + r
    head x r p q = omega arith

-- a bit shifted by n bytes
pub shifted : (n : ℕ) → n ≤ 7 → (1 * 2 ^ (8 * n)) % 18446744073709551616 ≡ 256 ^ n
shifted zero h = refl
shifted (suc zero) h = refl
shifted (suc (suc zero)) h = refl
shifted (suc (suc (suc zero))) h = refl
shifted (suc (suc (suc (suc zero)))) h = refl
shifted (suc (suc (suc (suc (suc zero))))) h = refl
shifted (suc (suc (suc (suc (suc (suc zero)))))) h = refl
shifted (suc (suc (suc (suc (suc (suc (suc zero))))))) h = refl
shifted (suc (suc (suc (suc (suc (suc (suc (suc n)))))))) h = absurd (omega arith)
