-- A split in place: what stands in the store and in the area when p parts are written, and what is left to do.
use Prim.Native.Nat.{ℕ, zero, suc, pred, ◌+◌, ◌-◌, ◌*◌, ◌/◌, ◌%◌, ◌≤◌, ◌<◌}
use Rattle.std.proofs.Math.Nat.{sub-zero, div-add-mod}
use Rattle.std.proofs.Common.{zero-add, zero-mul, add_assoc, mod-lt, le-mul_of_pos_right, add-one, sym, ◌∙◌, length-take}
use native.Mathlib.Omega.{arith}
use mathlib.Core.List.{List, [], ◌∷◌, ◌++◌, append_assoc, append-nil}
use Rattle.std.specs.Prelude.{◌≡◌, refl, length, take, drop, Result, Ok, Err}
use Rattle.std.proofs.Math.Path.{ap}
use Rattle.std.proofs.Math.ListN.{length-append}
use Rattle.store.specs.declared.PageId.{PageId}
use Rattle.store.specs.declared.Extent.{Extent}
use Rattle.store.specs.Words.{patch}
use Rattle.store.specs.Page.{page_bytes}
use Rattle.store.specs.Size.{capacity}
use Rattle.store.specs.Laws.{page_length}
use Rattle.store.specs.Cells.{patch_length}
use Rattle.datom.specs.declared.Datom.{Datom}
use Rattle.datom.specs.Datom.{datom_at, datoms_of}
use Rattle.index.specs.Order.{DatomOrd}
use Rattle.answer.specs.declared.Refusal.{Refusal}
use Rattle.rules.specs.Page.{Node, children_of, node_of}
use Rattle.rules.specs.Node.{share, parts, between, pages_for, split_parts, split_up, part_of}
use Rattle.rules.specs.Tree.{Env, Stage, stop, go, then, put, put_all, split}
use Rattle.rules.specs.Store.{env_of}
use Rattle.rules.proofs.SplitLaws.{share_some, share_most, shares}
use Rattle.memory_store.specs.FetchLaws.{in_order}
use Rattle.node.specs.Parts.{Splitting, parts_step, between_step, splitting_on, splitting_end, splitting_start, parts_start, between_start, share_left, share_inner, share_next}
use Rattle.htree.specs.declared.place.Failed.{Failed}
use Rattle.htree.specs.Wrote.{Wrote, wrote_none, wrote_more, wrote_length, wrote_bad, wrote_env}
use Rattle.htree.specs.Told.{any_order, blanks, blanks_length, Ready, PutTold, Puts, put_is, put_is_not, Went, Stopped}

-- ids that came before those of a stage
unfoldable pub prefixed : List PageId → Stage (List PageId) → Stage (List PageId)
prefixed ids s = then s λ more o. go (ids ++ more) o

prefixed_none : (s : Stage (List PageId)) → prefixed [] s ≡ s
unfolding prefixed then
prefixed_none (stop r o) = refl
prefixed_none (go ids o) = refl

prefixed_more : (ids : List PageId) (id : PageId) (s : Stage (List PageId)) → prefixed ids (then s λ more o. go (id ∷ more) o) ≡ prefixed (ids ++ (id ∷ [])) s
unfolding prefixed then
prefixed_more ids id (stop r o) = refl
prefixed_more ids id (go more o) = ap (λ (t : List PageId). go t o) (sym (append_assoc ids (id ∷ []) more))

-- one page of several
all_on :
    (e : Env) (ids : List PageId) (n : Node) (ns o : List Node) (id : PageId) (o₁ : List Node) → put e n o ≡ go id o₁ →
    prefixed ids (put_all e (n ∷ ns) o) ≡ prefixed (ids ++ (id ∷ [])) (put_all e ns o₁)
unfolding put_all then
all_on e ids n ns o id o₁ q = rw q (prefixed_more ids id (put_all e ns o₁))

all_stop :
    (e : Env) (ids : List PageId) (n : Node) (ns o : List Node) (r : Refusal) (o₁ : List Node) → put e n o ≡ stop r o₁ →
    prefixed ids (put_all e (n ∷ ns) o) ≡ stop r o₁
unfolding put_all then prefixed
all_stop e ids n ns o r o₁ q = rw q

-- the whole split, from its pages
split_stopped : (e : Env) (n : Node) (o : List Node) (r : Refusal) (o₁ : List Node) → put_all e (split_parts e.cap n) o ≡ stop r o₁ → split e n o ≡ stop r o₁
unfolding split then
split_stopped e n o r o₁ q = rw q

split_went :
    (e : Env) (n : Node) (o : List Node) (ids : List PageId) (o₁ : List Node) → put_all e (split_parts e.cap n) o ≡ go ids o₁ →
    split e n o ≡ go (record { level = suc n.level; datoms = split_up e.cap n; children = ids }) o₁
unfolding split then
split_went e n o ids o₁ q = rw q

-- where no part is left, and no midpoint
none_left :
    (e : Env) (ids : List PageId) (l j q r : ℕ) (ds : List Datom) (cs : List PageId) (o : List Node) → j ≡ 0 → prefixed ids (put_all e (parts l j q r ds cs) o) ≡ go ids o
unfolding prefixed parts put_all then
none_left e ids l zero q r ds cs o z = ap (λ (t : List PageId). go t o) (append-nil ids)
none_left e ids l (suc j) q r ds cs o z = absurd (omega arith)

none_between : (us : List Datom) (q r : ℕ) (ds : List Datom) → us ++ between 0 q r ds ≡ us
unfolding between
none_between us q r ds = append-nil us

zero_times : (a b : ℕ) → a ≡ 0 → a * b ≡ 0
zero_times a b e = rw e (zero-mul b)

-- p of P parts are written, and i children are in them
pub record Halfway (t : DatomOrd) (x : Extent) (s₀ : List ℕ) (w l m n P q r : ℕ) (a₀ : List ℕ) (o : List Node) (s a : List ℕ) (p i next : ℕ) : Type 0 where
  pub new : List Node
  pub ids : List PageId
  pub ups : List Datom
  pub wrote : Wrote x s₀ w new s
  pub count : next ≡ w + length new
  pub area : Splitting m n p i a ups ids (datoms_of n a₀) (children_of m (suc n) a₀)
  pub stage :
      put_all (env_of t x s₀) (split_parts (capacity x.size) (node_of m l n a₀)) o
      ≡ prefixed ids (put_all (env_of t x s₀) (parts l (P - p) q (r - p) (drop i (datoms_of n a₀)) (drop i (children_of m (suc n) a₀))) (o ++ new))
  pub up : split_up (capacity x.size) (node_of m l n a₀) ≡ ups ++ between (P - 1 - p) q (r - p) (drop i (datoms_of n a₀))
  pub total : i + ((P - p) * q + (r - p)) ≡ suc n
  pub same : length a ≡ length a₀

module _ (t : DatomOrd) (x : Extent) (s₀ : List ℕ) (w l m n : ℕ) (a₀ : List ℕ) (o : List Node) (here : length o ≡ w) where
  abbrev e : Env
  e = env_of t x s₀

  -- how it begins, with the numbers that the rules give
  pub halfway_start :
      (P : ℕ) → P ≡ pages_for (capacity x.size) n → (x.count + w) * x.size ≤ length s₀ →
      Halfway t x s₀ w l m n P (suc n / P) (suc n % P) a₀ o s₀ a₀ 0 0 w
  halfway_start P f room =
      record {
        new = [];
        ids = [];
        ups = [];
        wrote = wrote_none x s₀ w room;
        count = omega arith;
        area = splitting_start m n a₀;
        stage = rw (parts_start (capacity x.size) m l n a₀, append-nil o, ← f) (simp sub-zero (sym (prefixed_none _)));
        up = rw (between_start (capacity x.size) m l n a₀, ← f) (simp sub-zero (ap (λ (j : ℕ). between j (suc n / P) (suc n % P) (datoms_of n a₀)) (let g : pred P ≡ P - 1 = omega arith in g)));
        total = simp (sub-zero, zero-add) (div-add-mod (suc n) P);
        same = refl;
      }

  module _ {P q r : ℕ} {s a : List ℕ} {p i next : ℕ} (H : Halfway t x s₀ w l m n P q r a₀ o s a p i next) (some : 0 < q) where
    abbrev k : ℕ
    k = share q (r - p)

    -- the pages written when the next part is
    abbrev done : List Node
    done = o ++ H.new

    pub done_count : length done ≡ next
    done_count = omega (arith, length-append o H.new, H.count)

    abbrev pub part : Node
    part = part_of i (k - 1) (node_of m l n a)

    -- what the rules still have to write begins with it
    module _ (h : p < P) where
      abbrev rest : List Node
      rest = parts l (P - (p + 1)) q (r - (p + 1)) (drop (i + k) (datoms_of n a₀)) (drop (i + k) (children_of m (suc n) a₀))

      one : P - p ≡ suc (P - (p + 1))
      one = omega arith

      sum : i + k + ((P - (p + 1)) * q + pred (r - p)) ≡ suc n
      sum = share_left (P - (p + 1)) q (r - p) i n (rw one at H.total)

      left : parts l (P - p) q (r - p) (drop i (datoms_of n a₀)) (drop i (children_of m (suc n) a₀)) ≡ part ∷ rest
      left =
          ap (λ (j : ℕ). parts l j q (r - p) (drop i (datoms_of n a₀)) (drop i (children_of m (suc n) a₀))) one
          ∙ parts_step H.area q (r - p) some l (P - (p + 1))
          ∙ ap (λ (j : ℕ). part ∷ parts l (P - (p + 1)) q j (drop (i + k) (datoms_of n a₀)) (drop (i + k) (children_of m (suc n) a₀))) (share_next r p)

    -- and the midpoints begin with the datom behind it
    over : p + 1 < P → i + k ≤ n → between (P - 1 - p) q (r - p) (drop i (datoms_of n a₀)) ≡ datom_at a (32 * (i + k - 1)) ∷ between (P - 1 - (p + 1)) q (r - (p + 1)) (drop (i + k) (datoms_of n a₀))
    over h z =
        let one : P - 1 - p ≡ suc (P - 1 - (p + 1)) = omega arith in
        ap (λ (j : ℕ). between j q (r - p) (drop i (datoms_of n a₀))) one ∙ between_step H.area q (r - p) some (P - 1 - (p + 1)) z
        ∙ ap (λ (j : ℕ). datom_at a (32 * (i + k - 1)) ∷ between (P - 1 - (p + 1)) q j (drop (i + k) (datoms_of n a₀))) (share_next r p)

    -- the next part is refused
    pub halfway_stop :
        p < P → (s₁ : List ℕ) (f : Failed) → PutTold x s s₁ part done (Err f) (put (env_of t x s) part done) →
        Stopped x s₀ s₁ o f.refusal f.written (split e (node_of m l n a₀) o)
    unfolding env_of
    halfway_stop h s₁ f T =
        let u = put_is_not T in
        let v : put e part done ≡ stop f.refusal done = rw (wrote_env x s₀ w H.wrote t) at u.0 in
        record {
          new = H.new;
          stage =
              split_stopped e (node_of m l n a₀) o f.refusal done
              (H.stage ∙ ap (λ (ns : List Node). prefixed H.ids (put_all e ns done)) (left h) ∙ all_stop e H.ids part (rest h) done f.refusal done v);
          count = omega (arith, u.2, done_count, H.count, here);
          wrote = rw (u.1, here) H.wrote;
        }

    -- the next part is written, and another follows
    pub halfway_on :
        p + 1 < P → n ≤ m → 40 * m + 8 ≤ length a₀ → (s₁ : List ℕ) (id : PageId) →
        PutTold x s s₁ part done (Ok id) (put (env_of t x s) part done) →
        Halfway t x s₀ w l m n P q r a₀ o s₁
        (patch (patch a (32 * p) (take 32 (drop (32 * (i + k - 1)) a))) (32 * m + 8 * p) (page_bytes id)) (p + 1) (i + k) (next + 1)
    halfway_on h fit big s₁ id T =
        let u = put_is T in
        let small = u.2 in
        let v : put e part done ≡ go id (done ++ (part ∷ [])) = rw (wrote_env x s₀ w H.wrote t) at u.0 in
        let z : i + k ≤ n = share_inner (P - (p + 1)) q (r - p) i n (rw (one (omega arith)) at H.total) some (omega arith) in
        let kpos : 0 < k = share_some q (r - p) some in
        let first : length (patch a (32 * p) (take 32 (drop (32 * (i + k - 1)) a))) ≡ length a =
        patch_length a (32 * p) (take 32 (drop (32 * (i + k - 1)) a)) (omega (arith, length-take 32 (drop (32 * (i + k - 1)) a), H.same, H.area.few)) in
        record {
          new = H.new ++ (part ∷ []);
          ids = H.ids ++ (id ∷ []);
          ups = H.ups ++ (datom_at a (32 * (i + k - 1)) ∷ []);
          wrote = wrote_more x s₀ w H.wrote (rw (done_count ∙ H.count) at u.1);
          count = omega (arith, H.count, length-append H.new (part ∷ []));
          area = splitting_on H.area (omega (arith, H.same)) fit k id kpos z small;
          stage =
              H.stage ∙ ap (λ (ns : List Node). prefixed H.ids (put_all e ns done)) (left (omega arith))
              ∙ all_on e H.ids part (rest (omega arith)) done id (done ++ (part ∷ [])) v
              ∙ ap (λ (os : List Node). prefixed (H.ids ++ (id ∷ [])) (put_all e (rest (omega arith)) os)) (append_assoc o H.new (part ∷ []));
          up = H.up ∙ ap (λ (us : List Datom). H.ups ++ us) (over h z) ∙ sym (append_assoc H.ups (datom_at a (32 * (i + k - 1)) ∷ []) _);
          total = rw (← share_next r p) (sum (omega arith));
          same =
              patch_length _ (32 * m + 8 * p) (page_bytes id) (omega (arith, page_length id, first, H.same, H.area.few)) ∙ first ∙ H.same;
        }

    -- the last part takes all that is left
    pub last_takes : p + 1 ≡ P → r < P → k - 1 ≡ n - i
    last_takes h f = omega (arith, sum (omega arith), zero_times (P - (p + 1)) q (omega arith))

    -- and once it is written the area holds the node that goes up
    pub halfway_end :
        p + 1 ≡ P → r < P → n ≤ m → 40 * m + 8 ≤ length a₀ → (s₁ : List ℕ) (id : PageId) →
        PutTold x s s₁ part done (Ok id) (put (env_of t x s) part done) →
        Went x s₀ s₁ m (patch a (32 * m + 8 * p) (page_bytes id)) o p (next + 1) (split e (node_of m l n a₀) o)
    unfolding env_of node_of
    halfway_end h f fit big s₁ id T =
        let u = put_is T in
        let small = u.2 in
        let v : put e part done ≡ go id (done ++ (part ∷ [])) = rw (wrote_env x s₀ w H.wrote t) at u.0 in
        let up : split_up (capacity x.size) (node_of m l n a₀) ≡ H.ups =
        H.up ∙ ap (λ (j : ℕ). H.ups ++ between j q (r - p) (drop i (datoms_of n a₀))) (let z : P - 1 - p ≡ 0 = omega arith in z) ∙ none_between H.ups q (r - p) _ in
        record {
          node = record { level = suc l; datoms = H.ups; children = H.ids ++ (id ∷ []) };
          new = H.new ++ (part ∷ []);
          stage =
              split_went e (node_of m l n a₀) o (H.ids ++ (id ∷ [])) (o ++ (H.new ++ (part ∷ [])))
              (H.stage ∙ ap (λ (ns : List Node). prefixed H.ids (put_all e ns done)) (left (omega arith))
              ∙ all_on e H.ids part (rest (omega arith)) done id (done ++ (part ∷ [])) v
              ∙ none_left e (H.ids ++ (id ∷ [])) l (P - (p + 1)) q (r - (p + 1)) _ _ (done ++ (part ∷ [])) (omega arith)
              ∙ ap (λ (os : List Node). go (H.ids ++ (id ∷ [])) os) (append_assoc o H.new (part ∷ [])))
              ∙ ap (λ (us : List Datom). go (record { level = suc l; datoms = us; children = H.ids ++ (id ∷ []) }) (o ++ (H.new ++ (part ∷ [])))) up;
          count = omega (arith, H.count, here, length-append H.new (part ∷ []));
          area = splitting_end H.area (omega (arith, H.same)) fit (suc l) id (omega (arith, H.area.few, sum (omega arith), share_some q (r - p) some)) small;
          few = omega (arith, H.area.few, sum (omega arith), share_some q (r - p) some);
          wrote = rw here (wrote_more x s₀ w H.wrote (rw (done_count ∙ H.count) at u.1));
        }

-- one part of a split: the page, and what becomes of the area
pub record Parted (x : Extent) (s s₁ : List ℕ) (w l m n p i k : ℕ) (a a₁ : List ℕ) (r : Result PageId Failed) : Type 0 where
  pub page : Puts x s s₁ w (part_of i (k - 1) (node_of m l n a)) r
  pub area : (id : PageId) → r ≡ Ok id → a₁ ≡ patch (patch a (32 * p) (take 32 (drop (32 * (i + k - 1)) a))) (32 * m + 8 * p) (page_bytes id)

-- how a node that is over C is divided: P parts of q children, r of them with one more
pub record Divided (c n P q r : ℕ) : Type 0 where
  pub pages : P ≡ pages_for c n
  pub each : q ≡ suc n / P
  pub more : r ≡ suc n % P
  pub some : 0 < P
  pub full : 0 < q
  pub fit : q ≤ c + 1
  pub fit₁ : 0 < r → q + 1 ≤ c + 1
  pub rest : r < P
  pub most : P ≤ n

pub divided : (c n P q r : ℕ) → 0 < c → c < n → P ≡ (n + (c - 1)) / c → q ≡ (n + 1) / P → r ≡ (n + 1) % P → Divided c n P q r
unfolding pages_for
divided c n P q r pos over e f g =
    let S = shares c n pos over in
    let p : P ≡ pages_for c n = e ∙ ap (λ (k : ℕ). (n + k) / c) (let z : c - 1 ≡ pred c = omega arith in z) in
    let t : q ≡ suc n / P = f ∙ ap (λ (k : ℕ). k / P) (add-one n) in
    let u : r ≡ suc n % P = g ∙ ap (λ (k : ℕ). k % P) (add-one n) in
    let v : q ≡ suc S.q = t ∙ ap (λ (k : ℕ). suc n / k) p ∙ S.each in
    let y : r ≡ suc n % pages_for c n = u ∙ ap (λ (k : ℕ). suc n % k) p in
    record {
      pages = p;
      each = t;
      more = u;
      some = omega (arith, S.pages);
      full = omega arith;
      fit = omega (arith, S.fit);
      fit₁ = λ h. omega (arith, S.fit₁ (rw (← y) h));
      rest = rw u (mod-lt (suc n) (omega (arith, S.pages)));
      most = omega (arith, S.pages, S.most);
    }

-- what the loop keeps: it stands halfway whatever the order and whatever was written before, and a part is left to do
pub record Looping (x : Extent) (s₀ : List ℕ) (c w l : ℕ) (a₀ : List ℕ) (m n P q r : ℕ) (s a : List ℕ) (p i next : ℕ) : Type 0 where
  pub half : (t : DatomOrd) (o : List Node) → length o ≡ w → Halfway t x s₀ w l m n P q r a₀ o s a p i next
  pub divided : Divided c n P q r
  pub begun : Ready x s₀ c w
  pub left : p < P

pub ready_after :
    {x : Extent} {s₀ s : List ℕ} {c w next : ℕ} {new : List Node} → Ready x s₀ c w → Wrote x s₀ w new s → next ≡ w + length new → Ready x s c next
ready_after {x} {s₀} {s} {c} {w} {next} {new} R W e =
    record {
      good = wrote_bad x s₀ w W ∙ R.good;
      cap = R.cap;
      room = rw (e, ← add_assoc) (omega (arith, W.fits, wrote_length x s₀ w W));
    }

module _ {x : Extent} {s₀ : List ℕ} {c w l : ℕ} {a₀ : List ℕ} {m n P q r : ℕ} {s a : List ℕ} {p i next : ℕ} (L : Looping x s₀ c w l a₀ m n P q r s a p i next) where
  some : Halfway any_order x s₀ w l m n P q r a₀ (blanks w) s a p i next
  some = L.half any_order (blanks w) (blanks_length w)

  pub looping_ready : Ready x s c next
  looping_ready = ready_after L.begun some.wrote some.count

  pub looping_same : length a ≡ length a₀
  looping_same = some.same

  pub looping_few : p ≤ i
  looping_few = some.area.few

  abbrev share_here : ℕ
  share_here = share q (r - p)

  pub looping_share : (0 < share q (r - p)) × (share q (r - p) ≤ c + 1) × (i + share q (r - p) ≤ suc n)
  looping_share = (
    share_some q (r - p) L.divided.full,
    share_most q (r - p) (c + 1) L.divided.fit (λ h. L.divided.fit₁ (omega arith)),
    omega (arith, sum any_order x s₀ w l m n a₀ (blanks w) (blanks_length w) some L.divided.full L.left),
  )

  -- another part follows
  pub looping_inner : p + 1 < P → i + share q (r - p) ≤ n
  looping_inner h =
      share_inner (P - (p + 1)) q (r - p) i n
      (rw (one any_order x s₀ w l m n a₀ (blanks w) (blanks_length w) some L.divided.full L.left) at some.total) L.divided.full (omega arith)

  -- the last part
  pub looping_last : p + 1 ≡ P → (share q (r - p) - 1 ≡ n - i) × (i ≤ n)
  looping_last h =
      let e = last_takes any_order x s₀ w l m n a₀ (blanks w) (blanks_length w) some L.divided.full h L.divided.rest in
      (e, omega (arith, looping_share.0, looping_share.2))

  pub looping_length : length s ≡ length s₀
  looping_length = wrote_length x s₀ w some.wrote

  -- the pages past the count, as the code counts them
  pub looping_next : x.count + next ≤ length s₀
  looping_next =
      omega (
        arith,
        looping_ready.room,
        looping_length,
        le-mul_of_pos_right {m = x.size} (x.count + next) (omega (arith, (in_order x s looping_ready.good).known.fits)),
      )

  module _ (fit : n ≤ m) (big : 40 * m + 8 ≤ length a₀) where
    pub looping_on :
        (k : ℕ) → k ≡ share q (r - p) → p + 1 < P → (s₁ a₁ : List ℕ) (id : PageId) → Parted x s s₁ next l m n p i k a a₁ (Ok id) →
        Looping x s₀ c w l a₀ m n P q r s₁ a₁ (p + 1) (i + k) (next + 1)
    looping_on k e h s₁ a₁ id T =
        record {
          half = λ t o here.
              let H = L.half t o here in
              rw (T.area id refl, e)
              (halfway_on t x s₀ w l m n a₀ o here H L.divided.full h fit big s₁ id
              (rw e at (T.page t (o ++ H.new) (done_count t x s₀ w l m n a₀ o here H L.divided.full))));
          divided = L.divided;
          begun = L.begun;
          left = h;
        }

    pub looping_end :
        p + 1 ≡ P → (s₁ : List ℕ) (id : PageId) → Puts x s s₁ next (part_of i (n - i) (node_of m l n a)) (Ok id) → (t : DatomOrd) (o : List Node) → length o ≡ w →
        Went x s₀ s₁ m (patch a (32 * m + 8 * p) (page_bytes id)) o p (next + 1) (split (env_of t x s₀) (node_of m l n a₀) o)
    looping_end h s₁ id T t o here =
        let H = L.half t o here in
        halfway_end t x s₀ w l m n a₀ o here H L.divided.full h L.divided.rest fit big s₁ id
        (rw (← (looping_last h).0) at (T t (o ++ H.new) (done_count t x s₀ w l m n a₀ o here H L.divided.full)))

  pub looping_stop :
      (k : ℕ) → k ≡ share q (r - p) → (s₁ a₁ : List ℕ) (f : Failed) → Parted x s s₁ next l m n p i k a a₁ (Err f) → (t : DatomOrd) (o : List Node) → length o ≡ w →
      Stopped x s₀ s₁ o f.refusal f.written (split (env_of t x s₀) (node_of m l n a₀) o)
  looping_stop k e s₁ a₁ f T t o here =
      let H = L.half t o here in
      halfway_stop t x s₀ w l m n a₀ o here H L.divided.full L.left s₁ f
      (rw e at (T.page t (o ++ H.new) (done_count t x s₀ w l m n a₀ o here H L.divided.full)))

  pub looping_refused :
      p + 1 ≡ P → (s₁ : List ℕ) (f : Failed) → Puts x s s₁ next (part_of i (n - i) (node_of m l n a)) (Err f) → (t : DatomOrd) (o : List Node) → length o ≡ w →
      Stopped x s₀ s₁ o f.refusal f.written (split (env_of t x s₀) (node_of m l n a₀) o)
  looping_refused h s₁ f T t o here =
      let H = L.half t o here in
      halfway_stop t x s₀ w l m n a₀ o here H L.divided.full L.left s₁ f
      (rw (← (looping_last h).0) at (T t (o ++ H.new) (done_count t x s₀ w l m n a₀ o here H L.divided.full)))
