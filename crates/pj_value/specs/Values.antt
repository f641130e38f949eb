-- Values and their kinds (docs/MODEL.md, "Values").
use Rattle.std.specs.Prelude.{◌<◌}
use Rattle.std.specs.List.{AllByRecursion}
use Rattle.pj_value.specs.declared.value.Kind.{Kind}
use Rattle.pj_value.specs.declared.value.Kind.TheVariants as kinds
use Rattle.pj_value.specs.declared.value.Value.{Value}
use Rattle.pj_value.specs.declared.value.Value.TheVariants as values
use Rattle.pj_value.specs.declared.value.Cell.{Cell}
use Rattle.pj_value.specs.declared.value.Cell.TheVariants as cells

-- the kind of a value
abbrev pub kind_of : Value → Kind
kind_of (values.Num n) = kinds.Num
kind_of (values.Text t) = kinds.Text

-- the value that a cell lends
abbrev pub value_of : Cell → Value
value_of (cells.Num n) = values.Num n
value_of (cells.Text t) = values.Text t.now

-- a value that code can hold: a number of 64 bits, or a text of bytes
abbrev pub Fits : Value → Type 0
Fits (values.Num n) = n < 18446744073709551616
Fits (values.Text t) = AllByRecursion (λ b. b < 256) t
