-- Laws of queries.
use Rattle.std.specs.Prelude.{◌≡◌, ◌↔◌, true, List}
use Rattle.std.specs.List.{IsDistinct}
use Rattle.std.specs.List.Sorted.{IsPermutation}
use Rattle.pj_value.specs.Rows.{KindedRows, HaveKinds}
use Rattle.pj_expr.specs.declared.query.Query.{Query}
use Rattle.pj_expr.specs.Fits.{FitsQuery}
use Rattle.pj_answer.specs.Answers.{Row, same_row, has_row, distinct_rows, Answers}

-- right answers of a query that fits don't depend on the order of the rows
abbrev pub AnswersIgnoreTheOrder : Type 0
AnswersIgnoreTheOrder = (q : Query) (rows other out : KindedRows)
    → FitsQuery rows.kinds q → HaveKinds rows.kinds rows.rows
    → rows.kinds ≡ other.kinds → IsPermutation rows.rows other.rows → Answers q rows out → Answers q other out

-- the test of rows says whether they are equal
abbrev pub SameRowsAreEqual : Type 0
SameRowsAreEqual = (a b : Row) → (same_row a b ≡ true) ↔ (a ≡ b)

-- the distinct rows of a list are its rows, and no two of them are the same
abbrev pub DistinctRowsStandOnce : Type 0
DistinctRowsStandOnce = (rows : List Row) → IsDistinct same_row (distinct_rows rows)
    × ((row : Row) → has_row row (distinct_rows rows) ≡ has_row row rows)
