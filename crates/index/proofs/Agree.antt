-- One order in the place of another: what it says of every datom that the other may store or take as a bound is the same. So the heap
-- may grow between two calls.
use Rattle.std.specs.Prelude.{true, ◌≡◌, ℕ}
use mathlib.Core.List.{List, [], ◌∷◌, ◌++◌}
use Rattle.std.proofs.Math.Path.{refl, ap₂}
use Rattle.datom.specs.declared.Datom.{Datom}
use Rattle.datom.specs.Datom.{stored_datom, bound_datom}
use Rattle.datom.specs.Content.{stored_grows, bound_grows, content_grows}
use Rattle.index.specs.declared.Index.{Index}
use Rattle.index.specs.Order.{and_then, cmp_value, Part, the_entity, the_attribute, the_value, the_last, cmp_part, cmp_parts, parts_of, DatomOrd, order_in}
use Rattle.index.specs.Form.{order_may}

pub record Agrees (t u : DatomOrd) : Type 0 where
  pub may : (d : Datom) → t.stored d ≡ true → t.bound d ≡ true
  pub formed : (d : Datom) → t.formed d ≡ true → u.formed d ≡ true
  pub stored : (d : Datom) → t.stored d ≡ true → u.stored d ≡ true
  pub bound : (d : Datom) → t.bound d ≡ true → u.bound d ≡ true
  pub cmp : (a b : Datom) → t.bound a ≡ true → t.bound b ≡ true → u.cmp a b ≡ t.cmp a b

-- "The heap only grows": every order by the grown heap agrees with the one before
module _ (h k : List ℕ) (a b : Datom) (p : bound_datom h a ≡ true) (q : bound_datom h b ≡ true) where
  part_grows : (x : Part) → cmp_part (h ++ k) x a b ≡ cmp_part h x a b
  unfolding cmp_part cmp_value bound_datom
  part_grows the_entity = refl
  part_grows the_attribute = refl
  part_grows the_value = rw (content_grows h k a.value p, content_grows h k b.value q)
  part_grows the_last = refl

  parts_grow : (xs : List Part) → cmp_parts (h ++ k) xs a b ≡ cmp_parts h xs a b
  unfolding cmp_parts
  parts_grow [] = refl
  parts_grow (x ∷ xs) = ap₂ and_then (part_grows x) (parts_grow xs)

pub order_grows : (i : Index) (h k : List ℕ) → Agrees (order_in i h) (order_in i (h ++ k))
unfolding order_in stored_datom bound_datom
order_grows i h k =
    record {
      may = λ d p. order_may i h d p;
      formed = λ d p. p;
      stored = λ d p. stored_grows h k d.value p;
      bound = λ d p. bound_grows h k d.value p;
      cmp = λ a b p q. parts_grow h k a b p q (parts_of i);
    }
