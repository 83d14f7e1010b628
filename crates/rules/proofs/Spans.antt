-- Pending children: how many there are, lists of children whose last one is real, and the longest span in such a list: a run of nones, and not
-- empty where any child is none.
use Prim.Native.Nat.{ℕ, zero, suc, ◌+◌, ◌≤◌, ◌<◌, Ordering}
use Rattle.std.proofs.Math.Decide.{dec_le}
use Rattle.std.proofs.Common.{arith, inl, inr, sym, ◌∙◌, ap, ltb-true, ltb-false, get_or-drop, drop-drop}
use Rattle.std.specs.Prelude.{Bool, true, false, ◌||◌, cond, List, [], ◌∷◌, ◌++◌, ◌⊎◌, ◌≡◌, refl, length, drop, get_or, replicate}
use Rattle.store.specs.declared.PageId.{PageId}
use Rattle.store.specs.Page.{none, is_none}
use Rattle.store.specs.Laws.{apart}
use Rattle.datom.specs.declared.Datom.{Datom}
use Rattle.index.specs.Order.{is_less}
use Rattle.rules.specs.Node.{merge_children, Span, is_longer, span_from, longest_span, any_pending}

-- how many children are none: so many datoms are pending
unfoldable pub pendings : List PageId → ℕ
pendings [] = 0
pendings (c ∷ cs) = elim (is_none c) [ true ↦ suc (pendings cs) | false ↦ pendings cs ]

-- the last child is real; v tells whether the child before these is none
abbrev pub Closed : Bool → List PageId → Type 0
Closed v [] = v ≡ false
Closed v (c ∷ cs) = Closed (is_none c) cs

clash : {b : Bool} → b ≡ true → b ≡ false → ⊥
clash p q = apart (cc)

-- counting
pub none_counts : (c : PageId) (cs : List PageId) → is_none c ≡ true → pendings (c ∷ cs) ≡ suc (pendings cs)
unfolding pendings
none_counts c cs e = rw (e, pendings)

pub real_counts : (c : PageId) (cs : List PageId) → is_none c ≡ false → pendings (c ∷ cs) ≡ pendings cs
unfolding pendings
real_counts c cs e = rw (e, pendings)

pub pendings_append : (a b : List PageId) → pendings (a ++ b) ≡ pendings a + pendings b
unfolding pendings
pendings_append [] b = omega arith
pendings_append (c ∷ a) b = side (is_none c) refl (pendings_append a b)
  where
    side : (v : Bool) → is_none c ≡ v → pendings (a ++ b) ≡ pendings a + pendings b → pendings (c ∷ (a ++ b)) ≡ pendings (c ∷ a) + pendings b
    side true e h = rw (none_counts c (a ++ b) e, none_counts c a e) (omega arith)
    side false e h = rw (real_counts c (a ++ b) e, real_counts c a e) h

pub pendings_drop : (k : ℕ) (cs : List PageId) → pendings (drop k cs) ≤ pendings cs
pendings_drop zero cs = omega arith
pendings_drop (suc k) [] = omega arith
pendings_drop (suc k) (c ∷ cs) = side (is_none c) refl (pendings_drop k cs)
  where
    side : (v : Bool) → is_none c ≡ v → pendings (drop k cs) ≤ pendings cs → pendings (drop k cs) ≤ pendings (c ∷ cs)
    side true e h = rw (none_counts c cs e) (omega arith)
    side false e h = rw (real_counts c cs e) h

-- no child is none, or the test says so
pub no_pendings : (cs : List PageId) → pendings cs ≡ 0 → any_pending cs ≡ false
unfolding any_pending
no_pendings [] e = refl
no_pendings (c ∷ cs) e = side (is_none c) refl (no_pendings cs)
  where
    side : (v : Bool) → is_none c ≡ v → (pendings cs ≡ 0 → any_pending cs ≡ false) → (is_none c || any_pending cs) ≡ false
    side true q ih = absurd (omega (arith, none_counts c cs q))
    side false q ih = rw q (ih (sym (real_counts c cs q) ∙ e))

-- the end of lists that are put together
closed_any : (v : Bool) (cs : List PageId) → Closed true cs → Closed v cs
closed_any v [] h = absurd (apart (cc))
closed_any v (c ∷ cs) h = h

pub closed_behind : (v : Bool) (a b : List PageId) → Closed true b → Closed v (a ++ b)
closed_behind v [] b h = closed_any v b h
closed_behind v (c ∷ a) b h = closed_behind (is_none c) a b h

pub closed_append : (v : Bool) (a b : List PageId) → Closed v a → Closed false b → Closed v (a ++ b)
closed_append v [] b h k = rw h k
closed_append v (c ∷ a) b h k = closed_append (is_none c) a b h k

pub closed_drop : (v : Bool) (k : ℕ) (cs : List PageId) → Closed v cs → Closed false (drop k cs)
closed_drop v zero [] h = refl
closed_drop v zero (c ∷ cs) h = h
closed_drop v (suc k) [] h = refl
closed_drop v (suc k) (c ∷ cs) h = closed_drop (is_none c) k cs h

closed_real : (cs : List PageId) → pendings cs ≡ 0 → Closed false cs
closed_real [] e = refl
closed_real (c ∷ cs) e = side (is_none c) refl (closed_real cs)
  where
    side : (v : Bool) → is_none c ≡ v → (pendings cs ≡ 0 → Closed false cs) → Closed (is_none c) cs
    side true q ih = absurd (omega (arith, none_counts c cs q))
    side false q ih = rw q (ih (sym (real_counts c cs q) ∙ e))

pub closed_some : (cs : List PageId) → 0 < length cs → pendings cs ≡ 0 → Closed true cs
closed_some [] h e = absurd (omega arith)
closed_some (c ∷ cs) h e = closed_real (c ∷ cs) e

pub closed_last : (k : ℕ) (cs : List PageId) → length cs ≡ suc k → is_none (get_or cs k none) ≡ false → Closed true cs
closed_last k [] n e = absurd (omega arith)
closed_last zero (c ∷ []) n e = e
closed_last zero (c ∷ d ∷ cs) n e = absurd (omega arith)
closed_last (suc k) (c ∷ cs) n e = closed_any (is_none c) cs (closed_last k cs (omega arith) e)

-- a merge keeps the final child
pub merge_closed :
    (cmp : Datom → Datom → Ordering) (ds : List Datom) (cs : List PageId) (new : List Datom) → length cs ≡ suc (length ds) → Closed true cs →
    Closed true (merge_children cmp ds cs new)
unfolding merge_children
merge_closed cmp [] cs new n h = closed_behind true (replicate (length new) none) cs h
merge_closed cmp (d ∷ ds) cs [] n h = h
merge_closed cmp (d ∷ ds) [] (x ∷ xs) n h = absurd (omega arith)
merge_closed cmp (d ∷ ds) (c ∷ []) (x ∷ xs) n h = absurd (omega arith)
merge_closed cmp (d ∷ ds) (c ∷ b ∷ cs) (x ∷ xs) n h =
    side (is_less (cmp d x)) refl (merge_closed cmp ds (b ∷ cs) (x ∷ xs) (omega arith) h) (merge_closed cmp (d ∷ ds) (c ∷ b ∷ cs) xs n h)
  where
    side :
        (v : Bool) → is_less (cmp d x) ≡ v → Closed true (merge_children cmp ds (b ∷ cs) (x ∷ xs)) →
        Closed true (merge_children cmp (d ∷ ds) (c ∷ b ∷ cs) xs) → Closed true (merge_children cmp (d ∷ ds) (c ∷ b ∷ cs) (x ∷ xs))
    side true e i j = rw (e, merge_children) (closed_any (is_none c) (merge_children cmp ds (b ∷ cs) (x ∷ xs)) i)
    side false e i j = rw (e, merge_children) (closed_any (is_none none) (merge_children cmp (d ∷ ds) (c ∷ b ∷ cs) xs) j)

-- the run at hand, if it is the longer one, or the best span so far
abbrev better : Bool → ℕ → ℕ → Span → Span
better v start i best = cond v (record { from = start; upto = i }) best

-- from index a up to b every child is none
abbrev Run : List PageId → ℕ → ℕ → Type 0
Run all a b = (j : ℕ) → a ≤ j → j < b → is_none (get_or all j none) ≡ true

-- the longest span is such a run
span_run :
    (all cs : List PageId) (i start : ℕ) (best : Span) → drop i all ≡ cs → Run all start i → Run all best.from best.upto →
    Run all (span_from cs i start best).from (span_from cs i start best).upto
unfolding span_from
span_run all [] i start best e r b = b
span_run all (c ∷ cs) i start best e r b = side (is_none c) refl (span_run all cs (suc i))
  where
    here : get_or all i none ≡ c
    here = ap (λ (j : ℕ). get_or all j none) (let z : i ≡ i + 0 = omega arith in z) ∙ sym (get_or-drop i all 0 none) ∙ ap (λ (l : List PageId). get_or l 0 none) e

    next : drop (suc i) all ≡ cs
    next = ap (λ (j : ℕ). drop j all) (let z : suc i ≡ i + 1 = omega arith in z) ∙ sym (drop-drop 1 i all) ∙ ap (drop 1) e

    longer : (v : Bool) → Run all (better v start i best).from (better v start i best).upto
    longer true = r
    longer false = b

    further : is_none c ≡ true → Run all start (suc i)
    further q j f g = elim (dec_le i j) [
      | yes h ↦ (let z : j ≡ i = omega (arith, h) in rw (z, here) q)
      | no h ↦ r j f (omega (arith, h))
    ]

    side :
        (v : Bool) → is_none c ≡ v →
        ((start₁ : ℕ) (best₁ : Span) → drop (suc i) all ≡ cs → Run all start₁ (suc i) → Run all best₁.from best₁.upto →
        Run all (span_from cs (suc i) start₁ best₁).from (span_from cs (suc i) start₁ best₁).upto) →
        Run all (span_from (c ∷ cs) i start best).from (span_from (c ∷ cs) i start best).upto
    side true q ih = rw (q, span_from) (ih start best next (further q) b)
    side false q ih = rw (q, span_from) (ih (suc i) _ next (λ j f g. absurd (omega arith)) (longer (is_longer best start i)))

-- and it is not empty where a child is none and the last is real: v tells whether a run is open
span_some :
    (cs : List PageId) (v : Bool) (i start : ℕ) (best : Span) → Closed v cs → start ≤ i → (v ≡ true → start < i) →
    (v ≡ true) ⊎ ((any_pending cs ≡ true) ⊎ (best.from < best.upto)) → (span_from cs i start best).from < (span_from cs i start best).upto
unfolding span_from any_pending
span_some [] v i start best h l o (inl e) = absurd (clash e h)
span_some [] v i start best h l o (inr (inl e)) = absurd (apart (cc))
span_some [] v i start best h l o (inr (inr e)) = e
span_some (c ∷ cs) v i start best h l o w = side (is_none c) refl (span_some cs)
  where
    longer : (start < i) ⊎ (best.from < best.upto) → (u : Bool) → is_longer best start i ≡ u → (better u start i best).from < (better u start i best).upto
    longer (inl k) true q = k
    longer (inr k) true q = omega (arith, ltb-true)
    longer (inl k) false q = omega (arith, ltb-false)
    longer (inr k) false q = k

    kept : is_none c ≡ false → (v ≡ true) ⊎ ((any_pending (c ∷ cs) ≡ true) ⊎ (best.from < best.upto)) →
        (u : Bool) → is_longer best start i ≡ u →
        (false ≡ true) ⊎ ((any_pending cs ≡ true) ⊎ ((better u start i best).from < (better u start i best).upto))
    kept q (inl e) u z = inr (inr (longer (inl (o e)) u z))
    kept q (inr (inl e)) u z = inr (inl (rw q at e))
    kept q (inr (inr e)) u z = inr (inr (longer (inr e) u z))

    side :
        (u : Bool) → is_none c ≡ u →
        ((v₁ : Bool) (i₁ start₁ : ℕ) (best₁ : Span) → Closed v₁ cs → start₁ ≤ i₁ → (v₁ ≡ true → start₁ < i₁) →
        (v₁ ≡ true) ⊎ ((any_pending cs ≡ true) ⊎ (best₁.from < best₁.upto)) →
        (span_from cs i₁ start₁ best₁).from < (span_from cs i₁ start₁ best₁).upto) →
        (span_from (c ∷ cs) i start best).from < (span_from (c ∷ cs) i start best).upto
    side true q ih = rw (q, span_from) (ih true (suc i) start best (rw q at h) (omega arith) (λ e. omega arith) (inl refl))
    side false q ih =
        rw (q, span_from)
        (ih false (suc i) (suc i) _ (rw q at h) (omega arith) (λ e. absurd (apart (cc))) (kept q w (is_longer best start i) refl))

-- the longest span begins with a none, and ends behind it
pub span_sends : (cs : List PageId) → Closed true cs → any_pending cs ≡ true → ((longest_span cs).from < (longest_span cs).upto) × (is_none (get_or cs (longest_span cs).from none) ≡ true)
unfolding longest_span
span_sends cs h w =
    let best : Span = record { from = 0; upto = 0 } in
    let some = span_some cs false 0 0 best (closed_drop true 0 cs h) (omega arith) (λ e. absurd (apart (cc))) (inr (inl w)) in
    (some, span_run cs cs 0 0 best refl (λ j a b. absurd (omega arith)) (λ j a b. absurd (omega arith)) (longest_span cs).from (omega arith) some)

-- the last child is real, so fewer are none than there are
pub pendings_few : (cs : List PageId) → Closed true cs → pendings cs < length cs
unfolding pendings
pendings_few [] h = absurd (apart (cc))
pendings_few (c ∷ []) h = omega (arith, real_counts c [] h)
pendings_few (c ∷ b ∷ cs) h = side (is_none c) refl (pendings_few (b ∷ cs) h)
  where
    side : (v : Bool) → is_none c ≡ v → pendings (b ∷ cs) < suc (length cs) → pendings (c ∷ b ∷ cs) < suc (suc (length cs))
    side true q k = omega (arith, none_counts c (b ∷ cs) q)
    side false q k = omega (arith, real_counts c (b ∷ cs) q)
