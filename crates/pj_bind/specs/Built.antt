-- The forms of statements that are built (docs/GRAMMAR.md, "What is built").
use Rattle.std.specs.Prelude.{◌≡◌, []}
use Rattle.pj_grammar.specs.declared.types.Statement.{Statement}
use Rattle.pj_grammar.specs.declared.types.Statement.TheVariants as statements

-- the statement has a form that is built: CREATE without projections, INSERT, and SELECT without SETTINGS
abbrev pub IsBuilt : Statement → Type 0
IsBuilt (statements.Create name columns projections key settings) = projections ≡ []
IsBuilt (statements.Insert name columns rows) = Unit {0}
IsBuilt (statements.Select select) = select.sets ≡ []
IsBuilt (statements.Explain select) = ⊥
IsBuilt (statements.Delete name filter sets) = ⊥
IsBuilt (statements.Alter name action sets) = ⊥
IsBuilt (statements.Optimize name) = ⊥
IsBuilt (statements.Set sets) = ⊥
IsBuilt (statements.Merge name) = ⊥
IsBuilt (statements.Mutate name) = ⊥
