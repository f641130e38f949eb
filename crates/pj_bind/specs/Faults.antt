-- Why a statement doesn't bind, and the number of a table.
use Rattle.std.specs.Prelude.{◌≡◌, ◌⊎◌, ℕ, List}
use Rattle.pj_grammar.specs.declared.types.Statement.{Statement}
use Rattle.pj_expr.specs.declared.query.Query.{Query}
use Rattle.pj_expr.specs.declared.table.Table.{Table}
use Rattle.pj_expr.specs.Tables.{kinds_of}
use Rattle.pj_expr.specs.Fits.{KeepsKinds, KeepsGroups}
use Rattle.pj_bind.specs.declared.binding.BindFault.{BindFault}
use Rattle.pj_bind.specs.declared.binding.BindFault.TheVariants as faults
use Rattle.pj_bind.specs.declared.types.Refusal.{Refusal}
use Rattle.pj_bind.specs.declared.types.Refusal.TheVariants.{TypeMismatch, NotAnAggregate}
use Rattle.pj_bind.specs.Names.{Name}
use Rattle.pj_bind.specs.Binding.{IsFormRefusal, IsRefusal, IsTableAt}

-- the fault is a refusal of this kind, or out of memory
abbrev pub IsFault : (Refusal → Type 0) → BindFault → Type 0
IsFault refuses (faults.Refused refusal) = refuses refusal
IsFault refuses faults.NoMemory = Unit {0}

-- the statement is refused so, or out of memory
abbrev pub IsBindFault : List Table → Statement → BindFault → Type 0
IsBindFault tables statement fault = IsFault (IsRefusal tables statement) fault

-- the statement, of a built form, is refused so, or out of memory
abbrev pub IsBuiltFault : List Table → Statement → BindFault → Type 0
IsBuiltFault tables statement fault = IsFault (IsFormRefusal tables statement) fault

-- the first table of the name has this number
abbrev pub IsAt : List Table → Name → ℕ → Type 0
IsAt tables name number = (table : Table) × IsTableAt tables name number table

-- the query doesn't fit the table: by its kinds, or else by its groups
abbrev pub IsMisfit : Table → Query → Refusal → Type 0
IsMisfit table query refusal =
    ((refusal ≡ TypeMismatch) × (KeepsKinds (kinds_of table) query → ⊥))
    ⊎ ((refusal ≡ NotAnAggregate) × KeepsKinds (kinds_of table) query × (KeepsGroups query → ⊥))
