-- Laws of queries over the columns that they use alone.
use Rattle.std.specs.Prelude.{◌≡◌, ℕ, ◌<◌, List, length, map}
use Rattle.std.specs.List.{All}
use Rattle.pj_value.specs.declared.value.Kind.{Kind}
use Rattle.pj_value.specs.Rows.{KindedRows}
use Rattle.pj_expr.specs.declared.query.Query.{Query}
use Rattle.pj_expr.specs.Fits.{FitsQuery}
use Rattle.pj_answer.specs.Answers.{item_kind, Answers}
use Rattle.pj_part.specs.Formed.{kinds_at}
use Rattle.pj_read.specs.Spans.{picked}
use Rattle.pj_narrow.specs.Narrowing.{columns_in, narrowed}

-- each column that a query uses, of so many, is one of them
abbrev pub ColumnsAreThere : Type 0
ColumnsAreThere = (count : ℕ) (q : Query) → All (λ c. c < count) (columns_in count q)

-- a query that fits rows fits their used columns, once it is narrowed to these
abbrev pub NarrowedQueriesFit : Type 0
NarrowedQueriesFit = (kinds : List Kind) (q : Query) → FitsQuery kinds q
    → FitsQuery (kinds_at kinds (columns_in (length kinds) q)) (narrowed (columns_in (length kinds) q) q)

-- and its items have the kinds that those of the query have
abbrev pub NarrowedItemsKeepTheirKinds : Type 0
NarrowedItemsKeepTheirKinds = (kinds : List Kind) (q : Query) → FitsQuery kinds q
    → map (item_kind (kinds_at kinds (columns_in (length kinds) q))) (narrowed (columns_in (length kinds) q) q).items
    ≡ map (item_kind kinds) q.items

-- an answer of the narrowed query over the used columns is one of the query over the rows
abbrev pub NarrowedQueriesAnswerAlike : Type 0
NarrowedQueriesAnswerAlike = (q : Query) (rows out : KindedRows) → FitsQuery rows.kinds q
    → Answers (narrowed (columns_in (length rows.kinds) q) q)
    (picked (columns_in (length rows.kinds) q) rows) out
    → Answers q rows out
