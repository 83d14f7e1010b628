-- The order of datoms.
use Prim.Native.Nat.{ℕ, compare, Ordering}
use Rattle.std.specs.Prelude.{Bool, true, false, cond, List, [], ◌∷◌, eqb}
use Rattle.datom.specs.declared.Datom.{Datom}
use Rattle.datom.specs.declared.Value.{Value}
use Rattle.datom.specs.Value.{Content, int, str, top, content}
use Rattle.datom.specs.Datom.{formed_datom, stored_datom, bound_datom}
use Rattle.index.specs.declared.Index.{Index}
use Rattle.index.specs.declared.Index.TheVariants.{Eavt, Aevt, Avet}
use Rattle.index.specs.declared.Order.{Order}
use Rattle.std.specs.Prelude.{Option, Some, None}
use Rattle.std.specs.declared.cmp.Ordering as cmp
use Rattle.std.specs.declared.cmp.Ordering.TheVariants.{Less, Equal, Greater}

-- the first difference decides
unfoldable pub and_then : Ordering → Ordering → Ordering
and_then Ordering.lt o = Ordering.lt
and_then Ordering.eq o = o
and_then Ordering.gt o = Ordering.gt

-- "byte strings by unsigned bytes, a proper prefix first"
unfoldable pub cmp_bytes : List ℕ → List ℕ → Ordering
cmp_bytes [] [] = Ordering.eq
cmp_bytes [] (y ∷ ys) = Ordering.lt
cmp_bytes (x ∷ xs) [] = Ordering.gt
cmp_bytes (x ∷ xs) (y ∷ ys) = and_then (compare x y) (cmp_bytes xs ys)

-- "Integers come before byte strings, these before max"
unfoldable pub cmp_content : Content → Content → Ordering
cmp_content (int a) (int b) = compare a b
cmp_content (int a) (str b) = Ordering.lt
cmp_content (int a) top = Ordering.lt
cmp_content (str a) (int b) = Ordering.gt
cmp_content (str a) (str b) = cmp_bytes a b
cmp_content (str a) top = Ordering.lt
cmp_content top (int b) = Ordering.gt
cmp_content top (str b) = Ordering.gt
cmp_content top top = Ordering.eq

-- document 02, Two: "Order is by content"
unfoldable pub cmp_value : List ℕ → Value → Value → Ordering
cmp_value h v w = cmp_content (content h v) (content h w)

-- the parts of a datom that an order goes by, one after the other
pub data Part : Type 0 where
  the_entity the_attribute the_value the_last : Part

unfoldable pub cmp_part : List ℕ → Part → Datom → Datom → Ordering
cmp_part h the_entity a b = compare a.entity.0 b.entity.0
cmp_part h the_attribute a b = compare a.attribute.0 b.attribute.0
cmp_part h the_value a b = cmp_value h a.value b.value
cmp_part h the_last a b = compare a.transaction_operation.0 b.transaction_operation.0

unfoldable pub cmp_parts : List ℕ → List Part → Datom → Datom → Ordering
cmp_parts h [] a b = Ordering.eq
cmp_parts h (p ∷ ps) a b = and_then (cmp_part h p a b) (cmp_parts h ps a b)

-- "Order: entity, attribute, value, last word."; document 02, Three: "attribute, entity, value, last word and attribute, value, entity, last
-- word"
unfoldable pub parts_of : Index → List Part
parts_of Eavt = the_entity ∷ the_attribute ∷ the_value ∷ the_last ∷ []
parts_of Aevt = the_attribute ∷ the_entity ∷ the_value ∷ the_last ∷ []
parts_of Avet = the_attribute ∷ the_value ∷ the_entity ∷ the_last ∷ []

-- the orders by their numbers, of which all others are unknown: "13 BadOrder for an unknown order number"
unfoldable pub index_of : ℕ → Option Index
index_of n = cond (eqb n 0) (Some Eavt) (cond (eqb n 1) (Some Aevt) (cond (eqb n 2) (Some Avet) None))

-- what the rules take as given of datoms, and use only through laws: how two compare, which words may be given, which datoms may be
-- stored, which may be a bound
pub record DatomOrd : Type 0 where
  pub cmp : Datom → Datom → Ordering
  pub formed : Datom → Bool
  pub stored : Datom → Bool
  pub bound : Datom → Bool

-- the order of a tree, by the constants of the heap in use
unfoldable pub order_in : Index → List ℕ → DatomOrd
order_in i h = record { cmp = cmp_parts h (parts_of i); formed = formed_datom; stored = stored_datom h; bound = bound_datom h }

-- and as the code has it
abbrev pub ord : Order → DatomOrd
ord o = order_in o.by o.heap.now

-- the tests "below" and "equal"
unfoldable pub is_less : Ordering → Bool
is_less Ordering.lt = true
is_less Ordering.eq = false
is_less Ordering.gt = false

unfoldable pub is_same : Ordering → Bool
is_same Ordering.lt = false
is_same Ordering.eq = true
is_same Ordering.gt = false

-- the code's name of an ordering
unfoldable pub named : Ordering → cmp.Ordering
named Ordering.lt = Less
named Ordering.eq = Equal
named Ordering.gt = Greater
