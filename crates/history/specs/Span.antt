-- The longest pending span, as a place among the children: where some child is none and the last is real, a run of none-children ended
-- by a real child, with no other none right before it. Rests on the rules alone.
use Rattle.std.specs.Prelude.{ℕ, suc, ◌+◌, ◌-◌, ◌≤◌, ◌<◌, Bool, true, false, ◌||◌, cond, List, [], ◌∷◌, ◌++◌, ◌⊎◌, ◌≡◌, refl, ltb, length, take, drop, get_or}
use Rattle.std.proofs.Common.{zero-le, suc-le-suc, arith, append_assoc, append-nil, inl, inr, sym, ◌∙◌, ap, ltb-true, ltb-false, length-append, length-take, length-drop, take-append-drop, take_at, drop_at, take-take, get_or-append-add}
use Rattle.std.proofs.lemmas.List.{get_or_at}
use Rattle.store.specs.declared.PageId.{PageId}
use Rattle.store.specs.Page.{none, is_none}
use Rattle.rules.specs.Node.{Span, span_from, longest_span, any_pending}
use Rattle.rules.specs.Lists.{In, in_append, in_get_d}
use Rattle.rules.proofs.Spans.{Closed}
use Rattle.history.specs.Order.{clash}

-- all none
abbrev pub Nones : List PageId → Type 0
Nones cs = (c : PageId) → In c cs → is_none c ≡ true

pub record Spotted (all : List PageId) (s : Span) : Type 0 where
  pub before : List PageId
  pub run : List PageId
  pub end : PageId
  pub behind : List PageId
  pub parts : all ≡ before ++ (run ++ (end ∷ behind))
  pub from : length before ≡ s.from
  pub upto : length before + length run ≡ s.upto
  pub nones : Nones run
  pub some : 0 < length run
  pub real : is_none end ≡ false
  pub closed : Closed false before

closed_real : (v : Bool) (p : List PageId) (c : PageId) → is_none c ≡ false → Closed v (p ++ (c ∷ []))
closed_real v [] c e = e
closed_real v (x ∷ p) c e = closed_real (is_none x) p c e

any_real : (p : List PageId) (c : PageId) → any_pending p ≡ false → is_none c ≡ false → any_pending (p ++ (c ∷ [])) ≡ false
unfolding any_pending
any_real [] c a e = rw e
any_real (x ∷ p) c a e = side (is_none x) refl (any_real p c)
  where
    side :
        (b : Bool) → is_none x ≡ b → (any_pending p ≡ false → is_none c ≡ false → any_pending (p ++ (c ∷ [])) ≡ false) →
        (is_none x || any_pending (p ++ (c ∷ []))) ≡ false
    side true u ih = absurd (clash a (rw u))
    side false u ih = rw u (ih (rw u at a) e)

nothing_in : {A : Type 0} (r : List A) → length r ≡ 0 → r ≡ []
nothing_in [] e = refl
nothing_in (c ∷ r) e = absurd (omega arith)

-- the best span of the children p: a place, or there is no none among them
abbrev Best : List PageId → List PageId → Span → Type 0
Best all p b = Spotted all b ⊎ ((any_pending p ≡ false) × (b.upto - b.from ≡ 0))

-- the end of the walk: p is done with, and only nones follow
record Walked (all : List PageId) (b : Span) : Type 0 where
  done : List PageId
  tail : List PageId
  parts : all ≡ done ++ tail
  nones : Nones tail
  best : Best all done b

walk_ok :
    (all cs p r : List PageId) (i start : ℕ) (b : Span) → all ≡ p ++ (r ++ cs) → i ≡ length p + length r → start ≡ length p → Nones r →
    Closed false p → Best all p b → Walked all (span_from cs i start b)
unfolding span_from
walk_ok all [] p r i start b e hi hs n k w = record { done = p; tail = r; parts = e ∙ ap (p ++◌) (append-nil r); nones = n; best = w }
walk_ok all (c ∷ cs) p r i start b e hi hs n k w = side (is_none c) refl (λ p₁ r₁ s₁ b₁. walk_ok all cs p₁ r₁ (suc i) s₁ b₁)
  where
    place : is_none c ≡ false → 0 < length r → Spotted all (record { from = start; upto = i })
    place u some =
        record {
          before = p;
          run = r;
          end = c;
          behind = cs;
          parts = e;
          from = sym hs;
          upto = sym hi;
          nones = n;
          some = some;
          real = u;
          closed = k;
        }

    keep : is_none c ≡ false → i - start ≤ b.upto - b.from → Best all p b → Best all ((p ++ r) ++ (c ∷ [])) b
    keep u h (inl q) = inl q
    keep u h (inr q) =
        let z : r ≡ [] = nothing_in r (omega (arith, q.1)) in
        inr (rw (z, append-nil p) (any_real p c q.0 u), q.1)

    choose :
        (m : Bool) → ltb (b.upto - b.from) (i - start) ≡ m → is_none c ≡ false →
        Best all ((p ++ r) ++ (c ∷ [])) (cond m (record { from = start; upto = i }) b)
    choose true h u = inl (place u (omega (arith, ltb-true (b.upto - b.from) (i - start) h)))
    choose false h u = keep u (ltb-false (b.upto - b.from) (i - start) h) w

    side :
        (m : Bool) → is_none c ≡ m →
        ((p₁ r₁ : List PageId) (s₁ : ℕ) (b₁ : Span) → all ≡ p₁ ++ (r₁ ++ cs) → suc i ≡ length p₁ + length r₁ → s₁ ≡ length p₁ → Nones r₁ →
        Closed false p₁ → Best all p₁ b₁ → Walked all (span_from cs (suc i) s₁ b₁)) →
        Walked all (span_from (c ∷ cs) i start b)
    side true u ih =
        rw (u, span_from)
        (ih p (r ++ (c ∷ [])) start b (e ∙ ap (p ++◌) (sym (append_assoc r (c ∷ []) cs))) (simp length-append (omega arith)) hs
        (λ x j. elim (in_append x r (c ∷ []) j) [ inl q ↦ n x q | inr q ↦ elim q [ inl v ↦ rw v u | inr v ↦ absurd v ] ]) k w)
    side false u ih =
        rw (u, span_from)
        (ih ((p ++ r) ++ (c ∷ [])) [] (suc i) _ (e ∙ simp append_assoc) (simp length-append (omega arith))
        (simp length-append (omega arith)) (λ x j. absurd j) (closed_real false (p ++ r) c u)
        (choose (ltb (b.upto - b.from) (i - start)) refl u))

last_none : (p r : List PageId) (k : ℕ) → length (p ++ r) ≡ suc k → 0 < length r → Nones r → is_none (get_or (p ++ r) k none) ≡ true
last_none p r k e h n =
    let j : k ≡ length p + (k - length p) = omega (arith, length-append p r) in
    rw (j, get_or-append-add p r (k - length p) none) (n _ (in_get_d r (k - length p) none (omega (arith, length-append p r))))

pub longest_ok :
    (cs : List PageId) (k : ℕ) → length cs ≡ suc k → is_none (get_or cs k none) ≡ false → any_pending cs ≡ true → Spotted cs (longest_span cs)
unfolding longest_span any_pending
longest_ok cs k e r a =
    finish w.tail w.parts w.nones w.best
  where
    w : Walked cs (longest_span cs)
    w = walk_ok cs cs [] [] 0 0 (record { from = 0; upto = 0 }) refl refl refl (λ c i. absurd i) refl (inr (refl, refl))

    finish : (r : List PageId) → cs ≡ w.done ++ r → Nones r → Best cs w.done (longest_span cs) → Spotted cs (longest_span cs)
    finish r p n (inl q) = q
    finish [] p n (inr q) = absurd (clash q.0 (rw (p ∙ append-nil w.done) at a))
    finish (c ∷ t) p n (inr q) = absurd (clash r (rw p (last_none w.done (c ∷ t) k (ap length (sym p) ∙ e) (suc-le-suc zero-le) n)))

-- what the rules take out of a node there
pub record Cuts {A : Type 0} (ds : List A) (cs : List PageId) (s : Span) (S : Spotted cs s) : Type 0 where
  pub datoms : take s.from ds ++ (drop s.from (take s.upto ds) ++ drop s.upto ds) ≡ ds
  pub front : take s.from cs ≡ S.before
  pub child : get_or cs s.upto none ≡ S.end
  pub behind : drop (suc s.upto) cs ≡ S.behind
  pub first : length S.before ≡ length (take s.from ds)
  pub sent : length S.run ≡ length (drop s.from (take s.upto ds))

pub cuts : {A : Type 0} (ds : List A) (cs : List PageId) (s : Span) (S : Spotted cs s) → length cs ≡ suc (length ds) → Cuts ds cs s S
cuts ds cs s S e =
    record {
      datoms =
          rw (← take-take s.from s.upto ds (omega (arith, S.from, S.upto)), ← append_assoc, take-append-drop)
          (take-append-drop s.upto ds);
      front = ap (take s.from) S.parts ∙ take_at S.before _ s.from S.from;
      child = ap (λ (z : List PageId). get_or z s.upto none) whole ∙ get_or_at (S.before ++ S.run) S.end S.behind none s.upto sum;
      behind =
          ap (drop (suc s.upto)) (whole ∙ sym (append_assoc (S.before ++ S.run) (S.end ∷ []) S.behind))
          ∙ drop_at ((S.before ++ S.run) ++ (S.end ∷ [])) S.behind (suc s.upto) (simp length-append (omega (arith, S.upto)));
      first = simp length-take (omega (arith, S.from, S.upto, total));
      sent = simp (length-drop, length-take) (omega (arith, S.from, S.upto, total));
    }
  where
    whole : cs ≡ (S.before ++ S.run) ++ (S.end ∷ S.behind)
    whole = S.parts ∙ sym (append_assoc S.before S.run (S.end ∷ S.behind))

    sum : length (S.before ++ S.run) ≡ s.upto
    sum = length-append S.before S.run ∙ S.upto

    total : length cs ≡ s.upto + suc (length S.behind)
    total = ap length whole ∙ length-append (S.before ++ S.run) (S.end ∷ S.behind) ∙ (omega (arith, sum))
