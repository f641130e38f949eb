-- The states of one call, one for each group.
use Rattle.std.specs.Prelude.{◌≡◌, List, map}
use Rattle.pj_value.specs.declared.value.Kind.{Kind}
use Rattle.pj_value.specs.declared.value.Kind.TheVariants as kinds
use Rattle.pj_value.specs.declared.value.AggKind.{AggKind}
use Rattle.pj_value.specs.declared.value.AggKind.TheVariants as aggregates
use Rattle.pj_value.specs.Aggregates.{aggregate_kind}
use Rattle.pj_value.specs.Columns.{KindedValues}
use Rattle.pj_value.specs.Summaries.{Summary, finished}

-- summaries under an aggregate of values of a kind, one for each group
pub record KindedSummaries : Type 0 where
  pub agg : AggKind
  pub kind : Kind
  pub summaries : List Summary

-- the aggregate takes values of this kind: a sum takes numbers alone
abbrev pub Takes : AggKind → Kind → Type 0
Takes aggregates.Count kind = Unit {0}
Takes aggregates.Sum kind = kind ≡ kinds.Num
Takes aggregates.Min kind = Unit {0}
Takes aggregates.Max kind = Unit {0}
Takes aggregates.UniqExact kind = Unit {0}

-- states of values of this kind are always joined: counts, totals, and least or greatest numbers
abbrev pub JoinsInPlace : AggKind → Kind → Type 0
JoinsInPlace aggregates.Count kind = Unit {0}
JoinsInPlace aggregates.Sum kind = Unit {0}
JoinsInPlace aggregates.Min kind = kind ≡ kinds.Num
JoinsInPlace aggregates.Max kind = kind ≡ kinds.Num
JoinsInPlace aggregates.UniqExact kind = ⊥

-- the aggregate of each group
abbrev pub finished_column : KindedSummaries → KindedValues
finished_column column = record {
  kind = aggregate_kind column.agg column.kind;
  values = map (finished column.kind) column.summaries;
}
