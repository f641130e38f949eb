-- A part that has a base alone.
use Rattle.std.proofs.Common.{ℕ, [], ◌∷◌, arith}
use Rattle.pj_value.specs.declared.value.Kind.TheVariants as kinds
use Rattle.pj_expr.specs.declared.table.Table.{Table}
use Rattle.pj_expr.specs.declared.table.LightMode.TheVariants as modes
use Rattle.pj_expr.specs.Tables.{TableFits}
use Rattle.pj_part.specs.declared.part.Sorted.{Sorted}
use Rattle.pj_part.specs.Laid.{alone}
use Rattle.pj_part.specs.Formed.{IsFormedSorted, IsFormedLaid}

-- a table of two columns of numbers, the first of which is the key
abbrev pub two_numbers : Table
two_numbers = record {
  name = [];
  columns = record { name = []; kind = kinds.Num } ∷ record { name = []; kind = kinds.Num } ∷ [];
  key = 0 ∷ [];
  granularity = 2;
  mode = modes.Throw;
}

pub two_numbers-fits : TableFits two_numbers
two_numbers-fits = record {
  keyed = omega arith;
  within = (omega arith, tt);
  some_rows = omega arith;
  few_rows = omega arith;
}

pub alone-formed : {B : Type 0} (size : B → ℕ) (base : Sorted B)
    → IsFormedSorted size (kinds.Num ∷ kinds.Num ∷ []) (kinds.Num ∷ []) 2 base
    → IsFormedLaid size two_numbers (alone base)
alone-formed size base formed = record {
  base = formed;
  mask = tt;
  sides = tt;
  apart = λ i j d l m. absurd (omega (arith, m));
}
