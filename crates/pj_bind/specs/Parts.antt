-- The parts of the query of a SELECT, as the code makes them. No public contract cites this file.
use Rattle.std.specs.Prelude.{ℕ, List, map, Option}
use Rattle.std.specs.Option.{option_map}
use Rattle.pj_grammar.specs.declared.types.TreeSelect.{TreeSelect}
use Rattle.pj_expr.specs.declared.expr.Expr.{Expr}
use Rattle.pj_expr.specs.declared.cond.Cond.{Cond}
use Rattle.pj_expr.specs.declared.query.Item.{Item}
use Rattle.pj_expr.specs.declared.query.OrderKey.{OrderKey}
use Rattle.pj_expr.specs.declared.query.Query.{Query}
use Rattle.pj_expr.specs.declared.table.ColumnDef.{ColumnDef}
use Rattle.pj_bind.specs.Queries.{all_of, listed, value_named, group_of, key_of}

-- the values of GROUP BY
abbrev pub groups_of : List ColumnDef → TreeSelect → Option (List Expr)
groups_of columns select =
    all_of (map (λ tree. group_of columns (value_named (listed select.items) tree) tree) select.groups)

-- the keys of ORDER BY
abbrev pub order_of : List ColumnDef → TreeSelect → Option (List OrderKey)
order_of columns select = all_of (map (key_of columns (listed select.items)) select.order)

-- the query of these parts
abbrev pub query_with : Option ((List Item × Cond) × (List Expr × List OrderKey)) → Option ℕ → Option Query
query_with parts limit =
    option_map (λ p. record {
      items = p.0.0;
      filter = p.0.1;
      groups = p.1.0;
      order = p.1.1;
      limit = limit;
    }) parts
