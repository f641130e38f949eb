-- What narrowed items are for the columns that are kept: what they give for a group, and their kinds.
use Rattle.std.proofs.Common.{◌≡◌, ℕ, ◌%◌, ◌^◌, Bool, true, List, [], ◌∷◌, map, Option, Some, None}
use Rattle.std.proofs.Common.{refl, ap, ◌∙◌}
use Rattle.std.specs.List.{AllByRecursion}
use Rattle.std.proofs.lemmas.List.{length-map}
use Rattle.std.proofs.lemmas.Simd.{map-map}
use Rattle.pj_value.specs.declared.value.Kind.{Kind}
use Rattle.pj_value.specs.declared.value.AggKind.{AggKind}
use Rattle.pj_value.specs.declared.value.AggKind.TheVariants as aggregates
use Rattle.pj_value.specs.declared.value.Value.TheVariants as values
use Rattle.pj_value.specs.Columns.{values_at}
use Rattle.pj_value.specs.Aggregates.{aggregate, aggregate_kind}
use Rattle.pj_expr.specs.declared.expr.Expr.{Expr}
use Rattle.pj_expr.specs.declared.query.Item.{Item}
use Rattle.pj_expr.specs.declared.query.Item.TheVariants.{Plain, Agg}
use Rattle.pj_expr.specs.declared.query.OrderKey.{OrderKey}
use Rattle.pj_expr.specs.declared.query.Query.{Query}
use Rattle.pj_expr.specs.Eval.{eval}
use Rattle.pj_expr.specs.Fits.{expr_kind, FitsExpr, FitsCallOf, FitsItem, IsOfGroup}
use Rattle.pj_answer.specs.Answers.{Row, first_row, or_number, call_value, item_value, call_kind, item_kind}
use Rattle.pj_answer.specs.Answers.{outcome_of}
use Rattle.pj_answer.proofs.GroupLemmas.{map-agreeing}
use Rattle.pj_part.specs.Formed.{kinds_at}
use Rattle.pj_narrow.specs.Narrowing.{expr_uses, argument_uses, item_uses, narrowed_expr}
use Rattle.pj_narrow.specs.Narrowing.{narrowed_argument, narrowed_item, narrowed_key, narrowed}
use Rattle.pj_narrow.proofs.ListLemmas.{map-same}
use Rattle.pj_narrow.proofs.PlaceLemmas.{IsKept, kept-kind, kept-value, no_value}
use Rattle.pj_narrow.proofs.MeaningLemmas.{eval-narrowed, expr_kind-narrowed, built-narrowed}

module _ (kinds : List Kind) (columns : List ℕ) where
  -- each column that is used is kept
  abbrev pub KeepsEach : (ℕ → Bool) → Type 0
  KeepsEach uses = (c : ℕ) → uses c ≡ true → IsKept kinds columns c

  -- the kinds of the columns that are kept
  abbrev pub narrow_kinds : List Kind
  narrow_kinds = kinds_at kinds columns

  -- the values of a row in the columns that are kept
  abbrev pub narrow_row : Row → Row
  narrow_row row = values_at row columns

  -- ---- expressions

  -- the kind of an expression
  pub kind-kept : (e : Expr) → KeepsEach (λ c. expr_uses c e)
      → expr_kind narrow_kinds (narrowed_expr columns e) ≡ expr_kind kinds e
  kind-kept e keeps =
      expr_kind-narrowed columns kinds narrow_kinds e (λ c u. kept-kind kinds columns c (keeps c u))

  -- its value for a row
  pub eval-kept : (e : Expr) → KeepsEach (λ c. expr_uses c e) → (row : Row)
      → eval (narrowed_expr columns e) (narrow_row row) ≡ eval e row
  eval-kept e keeps row =
      eval-narrowed columns row (narrow_row row) e (λ c u. kept-value kinds columns c (keeps c u) row)

  -- its value for the first row of a group
  eval-first : (e : Expr) → KeepsEach (λ c. expr_uses c e) → (group : List Row)
      → eval (narrowed_expr columns e) (first_row (map narrow_row group)) ≡ eval e (first_row group)
  eval-first e keeps [] = eval-narrowed columns [] [] e (λ c u. no_value columns c)
  eval-first e keeps (row ∷ rows) = eval-kept e keeps row

  -- ---- calls

  -- the value of a call
  call_value-kept : (kind : AggKind) (argument : Option Expr) → KeepsEach (λ c. argument_uses c argument)
      → (group : List Row)
      → call_value narrow_kinds kind (narrowed_argument columns argument) (map narrow_row group)
      ≡ call_value kinds kind argument group
  call_value-kept kind None keeps group = ap (λ n. values.Num (n % 2 ^ 64)) (length-map group narrow_row)
  call_value-kept kind (Some e) keeps group =
      let of = kind-kept e keeps in
      let values_are =
      map-map (λ row. eval (narrowed_expr columns e) row) narrow_row group
      ∙ map-same (λ row. eval (narrowed_expr columns e) (narrow_row row)) (λ row. eval e row)
      (eval-kept e keeps) group in
      λ i. aggregate kind (or_number (of i)) (values_are i)

  -- its kind
  call_kind-kept : (kind : AggKind) (argument : Option Expr) → KeepsEach (λ c. argument_uses c argument)
      → call_kind narrow_kinds kind (narrowed_argument columns argument) ≡ call_kind kinds kind argument
  call_kind-kept kind None keeps = refl
  call_kind-kept kind (Some e) keeps = ap (λ k. aggregate_kind kind (or_number k)) (kind-kept e keeps)

  -- its argument's kind
  argument-kept : (argument : Option Expr) (e : Expr) → argument ≡ Some e
      → KeepsEach (λ c. argument_uses c argument)
      → expr_kind narrow_kinds (narrowed_expr columns e) ≡ expr_kind kinds e
  argument-kept argument e is keeps = kind-kept e (λ c u. keeps c (ap (argument_uses c) is ∙ u))

  -- it fits
  call_fits-kept : (kind : AggKind) (argument : Option Expr) → KeepsEach (λ c. argument_uses c argument)
      → FitsCallOf kinds kind argument → FitsCallOf narrow_kinds kind (narrowed_argument columns argument)
  call_fits-kept aggregates.Count argument keeps f = ap (narrowed_argument columns) f
  call_fits-kept aggregates.Sum argument keeps (e, is, kind) = (
    narrowed_expr columns e,
    ap (narrowed_argument columns) is,
    argument-kept argument e is keeps ∙ kind,
  )
  call_fits-kept aggregates.Min argument keeps (e, is, (kind, has)) = (
    narrowed_expr columns e,
    ap (narrowed_argument columns) is,
    (kind, argument-kept argument e is keeps ∙ has),
  )
  call_fits-kept aggregates.Max argument keeps (e, is, (kind, has)) = (
    narrowed_expr columns e,
    ap (narrowed_argument columns) is,
    (kind, argument-kept argument e is keeps ∙ has),
  )
  call_fits-kept aggregates.UniqExact argument keeps (e, is, (kind, has)) = (
    narrowed_expr columns e,
    ap (narrowed_argument columns) is,
    (kind, argument-kept argument e is keeps ∙ has),
  )

  -- ---- items

  -- what an item gives for a group
  pub item_value-kept : (group : List Row) (item : Item) → KeepsEach (λ c. item_uses c item)
      → item_value narrow_kinds (map narrow_row group) (narrowed_item columns item)
      ≡ item_value kinds group item
  item_value-kept group (Plain e) keeps = eval-first e keeps group
  item_value-kept group (Agg call) keeps = call_value-kept call.kind call.argument keeps group

  -- its kind
  pub item_kind-kept : (item : Item) → KeepsEach (λ c. item_uses c item)
      → item_kind narrow_kinds (narrowed_item columns item) ≡ item_kind kinds item
  item_kind-kept (Plain e) keeps = ap or_number (kind-kept e keeps)
  item_kind-kept (Agg call) keeps = call_kind-kept call.kind call.argument keeps

  -- an expression fits
  pub expr_fits-kept : (e : Expr) → KeepsEach (λ c. expr_uses c e) → FitsExpr kinds e
      → FitsExpr narrow_kinds (narrowed_expr columns e)
  expr_fits-kept e keeps (kind, has) = (kind, kind-kept e keeps ∙ has)

  -- an item fits
  pub item_fits-kept : (item : Item) → KeepsEach (λ c. item_uses c item) → FitsItem kinds item
      → FitsItem narrow_kinds (narrowed_item columns item)
  item_fits-kept (Plain e) keeps f = expr_fits-kept e keeps f
  item_fits-kept (Agg call) keeps f = call_fits-kept call.kind call.argument keeps f

  -- it is of its group
  pub item_of_group-kept : (keys : List Expr) (item : Item) → IsOfGroup keys item
      → IsOfGroup (map (narrowed_expr columns) keys) (narrowed_item columns item)
  item_of_group-kept keys (Plain e) built = built-narrowed columns keys built
  item_of_group-kept keys (Agg call) built = tt

  -- ---- outcomes

  -- the outcome of a group
  pub outcome_of-kept : (q : Query)
      → AllByRecursion (λ item. KeepsEach (λ c. item_uses c item)) q.items
      → AllByRecursion (λ by. KeepsEach (λ c. item_uses c by.item)) q.order
      → (group : List Row)
      → outcome_of narrow_kinds (narrowed columns q) (map narrow_row group) ≡ outcome_of kinds q group
  outcome_of-kept q items order group =
      let narrow = map narrow_row group in
      let output =
      map-map (item_value narrow_kinds narrow) (narrowed_item columns) q.items
      ∙ map-agreeing
      (λ item. KeepsEach (λ c. item_uses c item))
      (λ item. item_value narrow_kinds narrow (narrowed_item columns item))
      (item_value kinds group)
      (item_value-kept group) q.items items in
      let of_order =
      map-map (λ (by : OrderKey). item_value narrow_kinds narrow by.item) (narrowed_key columns) q.order
      ∙ map-agreeing
      (λ by. KeepsEach (λ c. item_uses c by.item))
      (λ by. item_value narrow_kinds narrow (narrowed_item columns by.item))
      (λ by. item_value kinds group by.item)
      (λ by. item_value-kept group by.item) q.order order in
      λ i. record { output = output i; order = of_order i }

  -- the kinds of an answer
  pub item_kinds-kept : (items : List Item) → AllByRecursion (λ item. KeepsEach (λ c. item_uses c item)) items
      → map (item_kind narrow_kinds) (map (narrowed_item columns) items) ≡ map (item_kind kinds) items
  item_kinds-kept items keeps =
      map-map (item_kind narrow_kinds) (narrowed_item columns) items
      ∙ map-agreeing
      (λ item. KeepsEach (λ c. item_uses c item))
      (λ item. item_kind narrow_kinds (narrowed_item columns item))
      (item_kind kinds)
      item_kind-kept items keeps
