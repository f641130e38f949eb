-- The keys of rows in columns, and how they are hashed. No public contract cites this file.
use Rattle.std.specs.Prelude.{◌≡◌, ℕ, true, List, [], ◌∷◌, map, flat_map, slice_index_or}
use Rattle.std.specs.Hash as fed
use Rattle.std.specs.Cmp.{IsEquivalence, IsPartialEquivalence, partial_equiv_from_equiv}
use Rattle.std.proofs.Common.{ap}
use Rattle.std.proofs.lemmas.Cmp.{eq_by_cmp_equiv}
use Rattle.pj_value.specs.declared.value.Value.{Value}
use Rattle.pj_value.specs.declared.value.Value.TheVariants as values
use Rattle.pj_value.proofs.OrderLemmas.{row_total}
use Rattle.pj_answer.specs.Answers.{Row, same_row}
use Rattle.pj_answer.proofs.orders.ValueOrder.{same_row_decides}
use Rattle.pj_group.specs.Dense.{dense_values}
use Rattle.pj_group.specs.declared.dense.Dense.{Dense}

-- the key of the row at an index of columns
abbrev pub key_at : List Dense → ℕ → Row
key_at columns at = map (λ c. slice_index_or (dense_values c) at (values.Num 0)) columns

-- what a value feeds a hasher
abbrev pub cell_writes : Value → List (List ℕ)
cell_writes (values.Num n) = fed.u64 n
cell_writes (values.Text t) = t ∷ []

-- what a key feeds a hasher
abbrev pub row_writes : Row → List (List ℕ)
row_writes row = flat_map cell_writes row

-- ---- laws

-- the test of rows is that of an equivalence
abbrev pub same_row_equivalence : IsEquivalence same_row
same_row_equivalence = eq_by_cmp_equiv row_total

abbrev pub same_row_alike : IsPartialEquivalence same_row
same_row_alike = partial_equiv_from_equiv same_row_equivalence

-- rows that are the same are fed alike
abbrev pub same_row_writes : (a b : Row) → same_row a b ≡ true → row_writes a ≡ row_writes b
same_row_writes a b h = ap row_writes (same_row_decides.equal a b h)
