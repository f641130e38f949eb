-- From an answer over what is read to one over the living rows: the order of the rows, and then the columns.
use Rattle.std.proofs.Common.{◌≡◌, ℕ, List, length, map, Ok, Err, refl, sym, ap, subst, ◌∙◌}
use Rattle.std.proofs.lemmas.List.{length-map}
use Rattle.std.specs.Prelude.{Result, OnOk, IfOk}
use Rattle.std.specs.List.{flat_map}
use Rattle.std.specs.List.Sorted.{IsPermutation}
use Rattle.pj_value.specs.declared.value.Kind.{Kind}
use Rattle.pj_value.specs.declared.value.Value.{Value}
use Rattle.pj_value.specs.Rows.{KindedRows, HaveKinds}
use Rattle.pj_expr.specs.declared.table.ColumnDef.{ColumnDef}
use Rattle.pj_expr.specs.declared.table.Table.{Table}
use Rattle.pj_expr.specs.declared.query.Query.{Query}
use Rattle.pj_expr.specs.Tables.{kinds_of}
use Rattle.pj_expr.specs.Fits.{FitsQuery}
use Rattle.pj_expr.specs.Parts.{PartRecord, living}
use Rattle.pj_answer.specs.Answers.{item_kind, Answers}
use Rattle.pj_answer.specs.Laws.{AnswersIgnoreTheOrder}
use Rattle.pj_part.specs.Formed.{kinds_at}
use Rattle.pj_read.specs.Spans.{picked}
use Rattle.pj_narrow.specs.Narrowing.{columns_in, narrowed}
use Rattle.pj_narrow.specs.Laws.{NarrowedQueriesFit, NarrowedItemsKeepTheirKinds, NarrowedQueriesAnswerAlike}
use Rattle.pj_exec.specs.Scans.{living_rows, columns_used}
use Rattle.pj_exec.specs.Layout.{cut_to, cut_rows}
use Rattle.pj_exec.specs.declared.fault.SelectFault.{SelectFault}

-- equal rows have the same answers
pub Answers-rows : {q : Query} {kinds : List Kind} {rows other : List (List Value)} {out : KindedRows}
    → rows ≡ other → Answers q (record { kinds = kinds; rows = rows }) out
    → Answers q (record { kinds = kinds; rows = other }) out
Answers-rows {q} {kinds} {rows} {other} {out} e answers =
    subst (λ rs. Answers q (record { kinds = kinds; rows = rs }) out) e answers

module _ (table : Table) (q narrow : Query) (columns : List ℕ)
    (columns_are : columns ≡ columns_used table q) (narrow_is : narrow ≡ narrowed columns q)
    (fits : FitsQuery (kinds_of table) q) where
  -- the narrowed query fits the columns that are read
  pub FitsQuery-narrow : NarrowedQueriesFit → FitsQuery (kinds_at (kinds_of table) columns) narrow
  FitsQuery-narrow fit =
      subst (FitsQuery (kinds_at (kinds_of table) columns)) (sym narrow_is)
      (subst (λ cs. FitsQuery (kinds_at (kinds_of table) cs) (narrowed cs q)) (sym columns_are)
      (fit (kinds_of table) q fits))

  -- where there are rows, they have the kinds of the query's items
  pub kinds-if_ok : NarrowedItemsKeepTheirKinds → (r : Result KindedRows SelectFault)
      → IfOk r (λ out. out.kinds ≡ map (item_kind (kinds_at (kinds_of table) columns)) narrow.items)
      → IfOk r (λ out. out.kinds ≡ map (item_kind (kinds_of table)) q.items)
  kinds-if_ok kept (Ok out) kinds =
      kinds ∙ ap (λ n. map (item_kind (kinds_at (kinds_of table) columns)) n.items) narrow_is
      ∙ ap (λ cs. map (item_kind (kinds_at (kinds_of table) cs)) (narrowed cs q).items) columns_are
      ∙ kept (kinds_of table) q fits
  kinds-if_ok kept (Err e) kinds = tt

  -- its answers over these are answers of the query over the living rows
  Answers-living : NarrowedQueriesFit → NarrowedQueriesAnswerAlike → AnswersIgnoreTheOrder
      → (records : List PartRecord) (all : List (List (List Value))) (out : KindedRows)
      → HaveKinds (kinds_at (kinds_of table) columns) (flat_map (cut_to columns) all)
      → IsPermutation (flat_map (cut_to columns) all) (cut_to columns (flat_map living records))
      → Answers narrow (cut_rows table columns all) out → Answers q (living_rows table records) out
  Answers-living fit alike ignore records all out shape moved answers =
      let rows = living_rows table records in
      let turned : Answers narrow (picked columns rows) out =
      ignore narrow (cut_rows table columns all) (picked columns rows) out
      (FitsQuery-narrow fit) shape refl moved answers in
      alike q rows out fits
      (subst (λ cs. Answers (narrowed cs q) (picked cs rows) out) columns_are
      (subst (λ n. Answers n (picked columns rows) out) narrow_is turned))

  -- where there is one
  pub Answers-if_ok : NarrowedQueriesFit → NarrowedQueriesAnswerAlike → AnswersIgnoreTheOrder
      → (records : List PartRecord) (all : List (List (List Value))) (r : Result KindedRows SelectFault)
      → OnOk r (HaveKinds (kinds_at (kinds_of table) columns) (flat_map (cut_to columns) all))
      → IsPermutation (flat_map (cut_to columns) all) (cut_to columns (flat_map living records))
      → IfOk r (Answers narrow (cut_rows table columns all)) → IfOk r (Answers q (living_rows table records))
  Answers-if_ok fit alike ignore records all (Ok out) shape moved answers =
      Answers-living fit alike ignore records all out shape moved answers
  Answers-if_ok fit alike ignore records all (Err e) shape moved answers = tt

-- the columns that a query uses, by the columns of its table
pub columns_used-count : (table : Table) (q : Query) (columns : List ColumnDef) → columns ≡ table.columns
    → columns_in (length columns) q ≡ columns_used table q
columns_used-count table q columns e =
    ap (λ n. columns_in n q)
    (ap length e ∙ sym (length-map table.columns (λ (column : ColumnDef). column.kind)))
