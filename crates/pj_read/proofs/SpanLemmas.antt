-- How spans of granules grow by a granule.
use Rattle.std.proofs.Common.{◌≡◌, ℕ, ◌+◌, ◌-◌, ◌*◌, ◌≤◌, min, ◌++◌, take, drop}
use Rattle.std.proofs.Common.{sym, ap, ◌∙◌, arith}
use Rattle.std.proofs.Math.Nat.{mul-le-mul_right}
use Rattle.std.proofs.Math.Seq.{take-add}
use Rattle.std.proofs.lemmas.List.{drop-drop}
use Rattle.pj_value.specs.Columns.{KindedValues, no_values}
use Rattle.pj_layout.specs.Blobs.{chunk}
use Rattle.pj_read.specs.Layout.{part_in_span}

-- an empty span has no rows
pub span_rows-none : (from rows : ℕ) → 0 ≡ min from rows - from
span_rows-none from rows = omega arith

-- one granule more
pub span_rows-more : (granularity from k rows : ℕ) → from ≤ k
    → min (k * granularity) rows - from * granularity + min granularity (rows - k * granularity)
    ≡ min ((k + 1) * granularity) rows - from * granularity
span_rows-more granularity from k rows l =
    let up : from * granularity ≤ k * granularity = mul-le-mul_right granularity l in
    let next : (k + 1) * granularity ≡ k * granularity + granularity = omega arith in
    omega (arith, up, next)

-- an empty span has no values
pub part-none : (granularity from : ℕ) (column : KindedValues)
    → no_values column.kind ≡ part_in_span granularity from from column
part-none granularity from column =
    let none : 0 ≡ from * granularity - from * granularity = omega arith in
    ap (λ n. record { kind = column.kind; values = take n (drop (from * granularity) column.values) }) none

-- and a granule more has those of its chunk
pub part-more : (granularity from k : ℕ) (column : KindedValues) → from ≤ k
    → record {
      kind = column.kind;
      values =
          (part_in_span granularity from k column).values ++ (chunk granularity column k).values;
    }
    ≡ part_in_span granularity from (k + 1) column
part-more granularity from k column l =
    let a = from * granularity in
    let vs = column.values in
    let n = k * granularity - a in
    let up : a ≤ k * granularity = mul-le-mul_right granularity l in
    let next : (k + 1) * granularity ≡ k * granularity + granularity = omega arith in
    let there : k * granularity ≡ a + n = omega (arith, up) in
    let long : n + granularity ≡ (k + 1) * granularity - a = omega (arith, up, next) in
    ap (λ vs. record { kind = column.kind; values = vs })
    (ap (λ m. take n (drop a vs) ++ take granularity (drop m vs)) there
    ∙ ap (λ ws. take n (drop a vs) ++ take granularity ws) (sym (drop-drop n a vs))
    ∙ sym (take-add n granularity (drop a vs)) ∙ ap (λ m. take m (drop a vs)) long)
