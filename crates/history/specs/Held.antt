-- Pages while a call writes: the old ones, and those written so far; a node that is put becomes a page that can be read.
-- Rests on Pages and on the rules' round trip.
use Prim.Native.Nat.{ℕ, zero, suc, ◌+◌, ◌-◌, ◌^◌, ◌≤◌, ◌<◌, zero-le, suc-le-suc}
use native.Mathlib.Omega.{arith}
use Rattle.std.specs.Prelude.{Bool, cond, List, [], ◌∷◌, ◌++◌, ◌⊎◌, ◌≡◌}
use Rattle.std.proofs.Math.Bool.{true, false}
use Rattle.std.proofs.Math.Logic.{inl, inr}
use Rattle.std.proofs.Math.Path.{refl}
use Rattle.std.proofs.Common.{ap}
use borrow.Author.Tests.{eqb-true, eq-eqb, ne_eqb, ltb-true, ltb-false, lt-ltb, le-ltb, leb-false}
use Rattle.std.proofs.Math.Dec.{leb, ltb}
use Rattle.std.proofs.Math.ListN.{length}
use Rattle.store.specs.declared.PageId.{PageId}
use Rattle.store.specs.Page.{page as pageId, is_none}
use Rattle.store.specs.Laws.{apart}
use Rattle.datom.specs.declared.Datom.{Datom}
use Rattle.datom.specs.Datom.{WordSized}
use Rattle.index.specs.Order.{DatomOrd}
use Rattle.index.proofs.Laws.{Preorder}
use Rattle.answer.specs.declared.Fault.TheVariants.{Missing}
use Rattle.answer.specs.declared.Refusal.{Refusal}
use Rattle.answer.specs.declared.Refusal.TheVariants.{TooTall, NoRoom}
use Rattle.rules.specs.Page.{Node, good, older, child_rules}
use Rattle.rules.specs.Tree.{Fetched, faulty, fine, at_level, Env, Stage, stop, go, then, put}
use Rattle.rules.specs.Lists.{all_of, rising_of}
use Rattle.rules.specs.Round.{Writable}
use Rattle.rules.proofs.Sizes.{level_fine}
use Rattle.history.specs.Tree.{Tree, InTree, Good, own_in, own_rising, Exactly}
use Rattle.history.specs.Pages.{Place, page, child, Holds, no_page, a_page, Extends, holds_extends, holds_own, holds_lengths, holds_child, real_last}

-- a page written, by its place
unfoldable pub nth : List Node → ℕ → Fetched
nth [] i = faulty Missing
nth (n ∷ ns) zero = fine n
nth (n ∷ ns) (suc i) = nth ns i

-- what can be fetched when the pages o are written
unfoldable pub held : Env → List Node → PageId → Fetched
held e o p = cond (ltb p.0 e.count) (e.fetch p) (nth o (p.0 - e.count))

pub nth_lt : (o : List Node) (i : ℕ) (n : Node) → nth o i ≡ fine n → i < length o
unfolding nth
nth_lt [] i n e = absurd (apart (cc))
nth_lt (m ∷ o) zero n e = suc-le-suc zero-le
nth_lt (m ∷ o) (suc i) n e = suc-le-suc (nth_lt o i n e)

nth_left : (o more : List Node) (i : ℕ) (n : Node) → nth o i ≡ fine n → nth (o ++ more) i ≡ fine n
unfolding nth
nth_left [] more i n e = absurd (apart (cc))
nth_left (m ∷ o) more zero n e = e
nth_left (m ∷ o) more (suc i) n e = nth_left o more i n e

nth_last : (o : List Node) (n : Node) → nth (o ++ (n ∷ [])) (length o) ≡ fine n
unfolding nth
nth_last [] n = refl
nth_last (m ∷ o) n = nth_last o n

nth_one : (o : List Node) (n m : Node) (i : ℕ) → nth (o ++ (n ∷ [])) i ≡ fine m → (nth o i ≡ fine m) ⊎ ((i ≡ length o) × (n ≡ m))
unfolding nth
nth_one [] n m zero e = inr (refl, cc)
nth_one [] n m (suc i) e = inl e
nth_one (k ∷ o) n m zero e = inl e
nth_one (k ∷ o) n m (suc i) e = elim (nth_one o n m i e) [ inl q ↦ inl q | inr q ↦ inr (ap suc q.0, q.1) ]

-- what a call takes as given
pub record EnvOk (e : Env) : Type 0 where
  pub laws : Preorder e.cmp
  pub bound : (p : PageId) (n : Node) → e.fetch p ≡ fine n → p.0 < e.count
  pub small : e.count + e.allow ≤ 0xffff_ffff_ffff_ffff
  pub pos : 0 < e.cap

module _ (e : Env) where
  held_extends : (o more : List Node) → Extends (held e o) (held e (o ++ more))
  unfolding held
  held_extends o more p n h = side (ltb p.0 e.count) refl
    where
      side : (b : Bool) → ltb p.0 e.count ≡ b → held e (o ++ more) p ≡ fine n
      side true q = rw q (rw q at h)
      side false q = rw q (nth_left o more (p.0 - e.count) n (rw q at h))

  pub held_old : EnvOk e → (o : List Node) → Extends e.fetch (held e o)
  unfolding held
  held_old E o p n h = rw (lt-ltb p.0 e.count (E.bound p n h)) h

  held_lt : (o : List Node) (p : PageId) (n : Node) → held e o p ≡ fine n → p.0 < e.count + length o
  unfolding held
  held_lt o p n h = side (ltb p.0 e.count) refl
    where
      side : (b : Bool) → ltb p.0 e.count ≡ b → p.0 < e.count + length o
      side true q = omega (arith, ltb-true p.0 e.count q)
      side false q = omega (arith, nth_lt o (p.0 - e.count) n (rw q at h), ltb-false p.0 e.count q)

  held_new : (o : List Node) (n : Node) → held e (o ++ (n ∷ [])) (pageId (e.count + length o)) ≡ fine n
  unfolding held
  held_new o n =
      let k : e.count + length o - e.count ≡ length o = omega arith in
      rw (le-ltb (e.count + length o) e.count (omega arith), k) (nth_last o n)

-- what is asked of a datom that goes into a page
pub record Storable (t : DatomOrd) (d : Datom) : Type 0 where
  pub form : t.stored d ≡ true
  pub words : WordSized d

-- the order as a call has it
abbrev pub as_called : DatomOrd → Env → DatomOrd
as_called t e = record { cmp = e.cmp; formed = t.formed; stored = t.stored; bound = t.bound }

-- every page written will be read as what it was written from
abbrev pub Written : DatomOrd → Env → List Node → Type 0
Written t e o = (i : ℕ) (n : Node) → nth o i ≡ fine n → Writable (as_called t e) e.cap (pageId (e.count + i)) n

pub none_written : (t : DatomOrd) (e : Env) → Written t e []
unfolding nth
none_written t e i n q = absurd (apart (cc))

-- the pages o₁ hold more than o did
pub record More (t : DatomOrd) (e : Env) (o o₁ : List Node) : Type 0 where
  pub extends : Extends (held e o) (held e o₁)
  pub written : Written t e o₁

pub same_more : {t : DatomOrd} {e : Env} {o : List Node} → Written t e o → More t e o o
same_more w = record { extends = λ p n q. q; written = w }

pub more_more : {t : DatomOrd} {e : Env} {o o₁ o₂ : List Node} → More t e o o₁ → More t e o₁ o₂ → More t e o o₂
more_more a b = record { extends = λ p n q. b.extends p n (a.extends p n q); written = b.written }

-- where the pages hold a good tree of exactly the datoms of P
pub record Grown (t : DatomOrd) (e : Env) (P : Datom → Type 0) (w : Place) (o o₁ : List Node) : Type 0 where
  pub tree : Tree
  pub holds : Holds (held e o₁) w tree
  pub good : Good e.cmp tree
  pub exactly : Exactly P tree
  pub more : More t e o o₁

-- a stage goes on as Q says, or stops for want of levels or of room
abbrev pub Excused : Refusal → Type 0
Excused r = (r ≡ TooTall) ⊎ (r ≡ NoRoom)

pub data Goes {A : Type 0} (Q : A → List Node → Type 0) : Stage A → Type 0 where
  stops : {r : Refusal} {o : List Node} → Excused r → Goes Q (stop r o)
  goes : {a : A} {o : List Node} → Q a o → Goes Q (go a o)

pub goes_then :
    {A B : Type 0} {Q : A → List Node → Type 0} {P : B → List Node → Type 0} (s : Stage A) (k : A → List Node → Stage B) → Goes Q s →
    ((a : A) (o : List Node) → Q a o → Goes P (k a o)) → Goes P (then s k)
unfolding then
goes_then s k (stops x) h = stops x
goes_then s k (goes {a} {o} q) h = h a o q

pub goes_map : {A : Type 0} {Q P : A → List Node → Type 0} {s : Stage A} → ((a : A) (o : List Node) → Q a o → P a o) → Goes Q s → Goes P s
goes_map h (stops x) = stops x
goes_map h (goes {a} {o} q) = goes (h a o q)

-- the reader's rules for the children
module _ (f : PageId → Fetched) (id : PageId) (below : (p : PageId) (n : Node) → f p ≡ fine n → p.0 < id.0) where
  child_older : {l : ℕ} {c : PageId} {t : Tree} → Holds f (child l c) t → older id c ≡ true
  unfolding older
  child_older (no_page n) = rw n
  child_older (a_page {l} {c} {n} r q h) = rw (r, lt-ltb c.0 id.0 (below c n (level_fine l (f c) n q)))

  leaf_none : {c : PageId} {t : Tree} → Holds f (child 0 c) t → is_none c ≡ true
  leaf_none (no_page n) = n

  child_word : {l : ℕ} {c : PageId} {t : Tree} → id.0 ≤ 0xffff_ffff_ffff_ffff → Holds f (child l c) t → c.0 < 2 ^ 64
  unfolding is_none
  child_word {l} {c} b (no_page n) = let k : c.0 ≡ 0xffff_ffff_ffff_ffff = eqb-true c.0 0xffff_ffff_ffff_ffff n in omega arith
  child_word b (a_page {l} {c} {n} r q h) = omega (arith, below c n (level_fine l (f c) n q))

  children_rules : (l : ℕ) (n : Node) (t : Tree) → n.level ≡ l → Holds f (page l n.datoms n.children) t → child_rules id n ≡ good n
  unfolding child_rules
  children_rules zero n t e h =
      rw (eq-eqb n.level 0 e, all_of is_none n.children (λ c i. leaf_none (holds_child h c i).1))
  children_rules (suc l) n t e h =
      rw (ne_eqb n.level 0 (λ q. omega arith), real_last h, all_of (older id) n.children (λ c i. child_older (holds_child h c i).1))

pub real_id : (c : ℕ) → c < 0xffff_ffff_ffff_ffff → is_none (pageId c) ≡ false
unfolding is_none
real_id c h = ne_eqb c 0xffff_ffff_ffff_ffff (λ q. omega arith)

pub at_own : (l : ℕ) (n : Node) → n.level ≡ l → at_level l (fine n) ≡ fine n
unfolding at_level
at_own l n e = rw (eq-eqb n.level l e)

module _ (t : DatomOrd) (e : Env) (E : EnvOk e) where
  -- a node that is put is a child that holds its tree
  pub put_ok :
      (l : ℕ) (n : Node) (tr : Tree) (o : List Node) → n.level ≡ l → Holds (held e o) (page l n.datoms n.children) tr →
      Good e.cmp tr →
      ((x : Datom) → InTree x tr → Storable t x) → length n.datoms ≤ e.cap → Written t e o →
      Goes (λ id o₁. Holds (held e o₁) (child (suc l) id) tr × More t e o o₁) (put e n o)
  unfolding put
  put_ok l n tr o q h g a few ws = tall (leb 8 n.level) refl (ltb (length o) e.allow) refl
    where
      tall :
          (b : Bool) → leb 8 n.level ≡ b → (c : Bool) → ltb (length o) e.allow ≡ c →
          Goes (λ id o₁. Holds (held e o₁) (child (suc l) id) tr × More t e o o₁) (put e n o)
      tall true u c v = rw u (stops (inl refl))
      tall false u false v = rw (u, v) (stops (inr refl))
      tall false u true v =
          let k : e.count + length o < 0xffff_ffff_ffff_ffff = omega (arith, ltb-true (length o) e.allow v, E.small) in
          let x : Extends (held e o) (held e (o ++ (n ∷ []))) = held_extends e o (n ∷ []) in
          let z : at_level l (held e (o ++ (n ∷ [])) (pageId (e.count + length o))) ≡ fine n = rw (held_new e o n) (at_own l n q) in
          rw (u, v)
          (goes (
            a_page (real_id (e.count + length o) k) z (holds_extends x h),
            record { extends = x; written = λ i m z. elim (nth_one o n m i z) [ inl j ↦ ws i m j | inr j ↦ rw (j.0, ← j.1) (one k) ] },
          ))
        where
          one : e.count + length o < 0xffff_ffff_ffff_ffff → Writable (as_called t e) e.cap (pageId (e.count + length o)) n
          one k =
              record {
                low = omega (arith, leb-false 8 n.level u);
                few = few;
                form = all_of t.stored n.datoms (λ x i. (a x (own_in x tr (rw (holds_own h) i))).form);
                rise = rising_of e.cmp n.datoms (rw (holds_own h) at (own_rising e.cmp tr g));
                kids = children_rules (held e o) (pageId (e.count + length o)) (held_lt e o) l n tr q h;
                lens = holds_lengths h;
                words = λ x i. (a x (own_in x tr (rw (holds_own h) i))).words;
                ids = λ c i. child_word (held e o) (pageId (e.count + length o)) (held_lt e o) (omega arith) (holds_child h c i).1;
              }
