-- What was read on the last path stays known, and a path on its way.
use Rattle.std.specs.Prelude.{ℕ, suc, ◌-◌, ◌<◌, ◌≤◌, Bool, true, false, List, ◌≡◌, refl, eqb, length, drop, get_or, set, replicate, Ok, Err, Option, None, Some}
use Rattle.std.proofs.Common.{arith, sym, ap, ◌∙◌, eqb-true, length-set, get_or-set_same, get_or-set_other}
use Rattle.std.proofs.lemmas.Bool.{eqb-false}
use Rattle.std.proofs.lemmas.List.{get_or-replicate}
use Rattle.store.specs.declared.PageId.{PageId}
use Rattle.store.specs.declared.Extent.{Extent}
use Rattle.store.specs.Page.{page, none, is_none}
use Rattle.store.specs.Size.{capacity}
use Rattle.store.specs.Laws.{apart}
use Rattle.datom.specs.declared.Datom.{Datom}
use Rattle.datom.specs.Datom.{datoms_of}
use Rattle.index.specs.Order.{DatomOrd}
use Rattle.index.proofs.Laws.{Preorder}
use Rattle.answer.specs.declared.Fault.{Fault}
use Rattle.answer.specs.declared.Fault.TheVariants.{Missing}
use Rattle.rules.specs.Page.{children_of}
use Rattle.rules.specs.Node.{rank, head_same, next_midpoint}
use Rattle.rules.specs.Tree.{fine, fetch_at}
use Rattle.rules.specs.Store.{page_at, fetch_page, env_of}
use Rattle.memory_store.specs.Readable.{node_at}
use Rattle.memory_store.specs.Opened.{opened_of, node_opened, opened_node}
use Rattle.lookup.specs.declared.Path.{Path}
use Rattle.lookup.specs.declared.Step.{Step}
use Rattle.lookup.specs.Look.{lost_at, look_of, path_of}
use Rattle.lookup.specs.Gap.{Gap, narrowed, Alike, Free, gap_in, free_at, alike_down}
use Rattle.lookup.specs.Steps.{met_in, next_in, way_met, way_absent, way_stuck, way_lost, way_down}

-- a page that was read, with its count
abbrev pub step : PageId → ℕ → Step
step p n = record { page = p; count = n }

-- nothing was read
abbrev pub unread : Path
unread = record { steps = replicate 8 (step none 0) }

-- what stands in a path at a level
abbrev pub step_on : Path → ℕ → Step
step_on path l = get_or path.steps l (step (page 0) 0)

abbrev pub page_on : Path → ℕ → PageId
page_on path l = (step_on path l).page

abbrev pub count_on : Path → ℕ → ℕ
count_on path l = (step_on path l).count

-- with a page of n datoms at a level
abbrev pub with_page : Path → ℕ → PageId → ℕ → Path
with_page path l p n = record { steps = set path.steps l (step p n) }

-- at each level stands a page that was read, with its count, or none
pub record Kept (t : DatomOrd) (x : Extent) (s : List ℕ) (path : Path) : Type 0 where
  pub steps : length path.steps ≡ 8
  pub read : (l : ℕ) → l < 8 → is_none (page_on path l) ≡ false → fetch_page t x s (page_on path l) ≡ fine (node_at x s (page_on path l) l (count_on path l))

pub kept_unread : (t : DatomOrd) (x : Extent) (s : List ℕ) → Kept t x s unread
unfolding is_none
kept_unread t x s =
    record {
      steps = refl;
      read = λ l h e. let k : is_none none ≡ false = rw (get_or-replicate 8 l (step none 0) (step (page 0) 0) h) at e in absurd (apart (cc));
    }

module _ {t : DatomOrd} {x : Extent} {s : List ℕ} {path : Path} (K : Kept t x s path) (l : ℕ) (h : l < 8) (p : PageId) where
  pub kept_hit : is_none p ≡ false → (page_on path l).0 ≡ p.0 → Ok (count_on path l) ≡ opened_of (fetch_at (env_of t x s) l p)
  kept_hit real e =
      let same : page_on path l ≡ p = ap page e in
      node_opened t x s p l (count_on path l) (rw same at (K.read l h (rw same real)))

  pub kept_set : (n : ℕ) → fetch_page t x s p ≡ fine (node_at x s p l n) → Kept t x s (with_page path l p n)
  kept_set n e =
      record {
        steps = simp length-set K.steps;
        read = λ j k r. side j k r (eqb j l) refl;
      }
    where
      side :
          (j : ℕ) → j < 8 → is_none (page_on (with_page path l p n) j) ≡ false → (b : Bool) → eqb j l ≡ b →
          fetch_page t x s (page_on (with_page path l p n) j)
          ≡ fine (node_at x s (page_on (with_page path l p n) j) j (count_on (with_page path l p n) j))
      side j k r true u =
          let here = get_or-set_same path.steps l (step p n) (step (page 0) 0) (omega (arith, K.steps)) in rw (eqb-true j l u, page_on, count_on, step_on, here) e
      side j k r false u =
          let other = get_or-set_other path.steps l j (step p n) (step (page 0) 0) (eqb-false j l u) in rw (page_on, count_on, step_on, other) (K.read j k (rw (page_on, step_on, other) at r))

-- the path of d from page `top` of level h has come to page p, of level l and k datoms, and so have those of the gap above d
pub record Going (t : DatomOrd) (x : Extent) (s : List ℕ) (d : Datom) (h : ℕ) (top : PageId) (path : Path) (g : Gap) (p : PageId) (l k : ℕ) : Type 0 where
  pub kept : Kept t x s path
  pub read : fetch_page t x s p ≡ fine (node_at x s p l k)
  pub rest : path_of t x s d l p ≡ path_of t x s d h top
  pub alike : Alike t x s d h top g l p

module _ {t : DatomOrd} {x : Extent} {s : List ℕ} {d : Datom} {h : ℕ} {top : PageId} {path : Path} {gap : Gap} {p : PageId} {l k : ℕ}
    (g : Going t x s d h top path gap p l k)
  where
    -- what the calls on the page's part of the store say
    pub gap_is : {part : List ℕ} {i : ℕ} {r : Gap} → part ≡ page_at x s p → i ≡ rank t.cmp d (datoms_of k part) → r ≡ narrowed t gap (drop i (datoms_of k part)) → r ≡ gap_in t x s d gap p k
    gap_is e f u = u ∙ rw (← e, ← f)

    pub met_is :
        {part : List ℕ} {i : ℕ} {r b : Bool} → part ≡ page_at x s p → i ≡ rank t.cmp d (datoms_of k part) →
        r ≡ head_same t.cmp d (drop i (datoms_of k part)) → r ≡ b → met_in t x s d p k ≡ b
    met_is e f u v = rw (← e, ← f) (sym u ∙ v)

    pub next_is :
        {part : List ℕ} {i c : ℕ} {r b : Option PageId} → part ≡ page_at x s p → i ≡ rank t.cmp d (datoms_of k part) → c ≡ capacity x.size →
        r ≡ next_midpoint (drop i (children_of c (suc k) part)) → r ≡ b → next_in t x s d p k ≡ b
    next_is e f cap u v = rw (← e, ← f, ← cap) (sym u ∙ v)

    pub going_met : met_in t x s d p k ≡ true → Ok true ≡ look_of (path_of t x s d h top)
    going_met m = way_met t x s d p l k g.read m ∙ ap look_of g.rest

    module _ (other : met_in t x s d p k ≡ false) where
      pub going_absent : l ≡ 0 → Ok false ≡ look_of (path_of t x s d h top)
      going_absent z = way_absent t x s d p l k g.read other z ∙ ap look_of g.rest

      pub going_free : Preorder t.cmp → l ≡ 0 → Free t x s d h top (gap_in t x s d gap p k)
      going_free L z = free_at L g.alike k g.read z

      module _ (up : l ≡ 0 → ⊥) where
        pub going_stuck : x.count ≤ none.0 → next_in t x s d p k ≡ None → lost_at none Missing ≡ look_of (path_of t x s d h top)
        going_stuck few next = way_stuck t x s d p l k g.read other up few next ∙ ap look_of g.rest

        module _ {c : PageId} (next : next_in t x s d p k ≡ Some c) where
          pub going_lost : {f : Fault} → Err f ≡ opened_of (fetch_at (env_of t x s) (l - 1) c) → lost_at c f ≡ look_of (path_of t x s d h top)
          going_lost {f} e = way_lost t x s d p l k g.read other up c next f e ∙ ap look_of g.rest

          pub going_down :
              Preorder t.cmp → {n : ℕ} → Ok n ≡ opened_of (fetch_at (env_of t x s) (l - 1) c) → l - 1 < 8 →
              Going t x s d h top (with_page path (l - 1) c n) (gap_in t x s d gap p k) c (l - 1) n
          going_down L {n} e low =
              let read = opened_node t x s c (l - 1) n e in
              record {
                kept = kept_set g.kept (l - 1) low c n read;
                read = read;
                rest = way_down t x s d p l k g.read other up c next n read ∙ g.rest;
                alike = alike_down L g.alike k g.read up c next n read;
              }
