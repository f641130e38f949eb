-- The lines of an answer in the order of keys, cut by LIMIT.
use Rattle.std.proofs.Common.{◌≡◌, ℕ, zero, suc, ◌+◌, ◌<◌, List, [], ◌∷◌, ◌++◌, length, map, get_or, take}
use Rattle.std.proofs.Common.{Option, refl, sym, ap, ◌∙◌, subst, arith}
use Rattle.std.specs.List.{filter, range_with_len}
use Rattle.std.specs.List.Sorted.{IsPermutation}
use Rattle.std.proofs.lemmas.List.{length-map}
use Rattle.std.proofs.lemmas.List.Sorted.{IsPermutation-refl}
use Rattle.pj_value.specs.declared.value.Kind.{Kind}
use Rattle.pj_value.specs.Columns.{KindedValues}
use Rattle.pj_value.specs.Rows.{KindedRows}
use Rattle.pj_expr.specs.declared.query.OrderKey.{OrderKey}
use Rattle.pj_expr.specs.declared.query.Query.{Query}
use Rattle.pj_expr.specs.Eval.{holds}
use Rattle.pj_answer.specs.Answers.{Row, Answers, item_kind, groups_of}
use Rattle.pj_answer.specs.Rows.{first_of}
use Rattle.pj_group.specs.Indexes.{is_before}
use Rattle.pj_group.specs.Least.{AreFirst}
use Rattle.pj_group.specs.Lines.{line_of, lines_of, column_over, key_over, keys_in_columns, AreFirstLines}
use Rattle.pj_group.proofs.LineLemmas.{by_indexes, answers-lines, AreFirst-within, rows_at-lines, first_of-map}

-- ---- keys in columns

-- one key more
pub keys_in_columns-more : (keys : List OrderKey) (columns : List KindedValues) (at : ℕ) (k : OrderKey)
    (c : KindedValues) → at < length keys → at < length columns
    → keys_in_columns (take (at + 1) keys) (take (at + 1) columns)
    ≡ keys_in_columns (take at keys) (take at columns)
    ++ record { descending = (get_or keys at k).descending; values = (get_or columns at c).values } ∷ []
keys_in_columns-more [] columns at k c l m = absurd (omega arith)
keys_in_columns-more (key ∷ keys) [] at k c l m = absurd (omega arith)
keys_in_columns-more (key ∷ keys) (column ∷ columns) zero k c l m = refl
keys_in_columns-more (key ∷ keys) (column ∷ columns) (suc at) k c l m =
    let e : suc at + 1 ≡ suc (at + 1) = omega arith in
    rw e
    (ap (λ ks. record { descending = key.descending; values = column.values } ∷ ks)
    (keys_in_columns-more keys columns at k c (omega arith) (omega arith)))

-- keys whose columns are what they give for groups
pub keys_in_columns-over : (columns : List Kind) (groups : List (List Row)) (keys : List OrderKey)
    → keys_in_columns keys (map (λ (key : OrderKey). column_over columns groups key.item) keys)
    ≡ map (key_over columns groups) keys
keys_in_columns-over columns groups [] = refl
keys_in_columns-over columns groups (key ∷ keys) =
    ap (λ ks. key_over columns groups key ∷ ks) (keys_in_columns-over columns groups keys)

-- ---- the first lines

-- without keys any lines stand in order
pub AreFirstLines-cut : (limit : Option ℕ) (lines out : KindedRows)
    → out ≡ record { kinds = lines.kinds; rows = first_of limit lines.rows }
    → AreFirstLines (is_before []) limit lines out
AreFirstLines-cut limit lines out e = record {
  indexes = first_of limit (range_with_len 0 (length lines.rows));
  first = record {
    arrangement = range_with_len 0 (length lines.rows);
    all = IsPermutation-refl (range_with_len 0 (length lines.rows));
    ordered = λ k d l m. refl;
    first = refl;
  };
  output =
      e ∙ (λ i. record {
        kinds = lines.kinds;
        rows = (ap (first_of limit)
            (sym (by_indexes (λ at. get_or lines.rows at []) (λ row. row) lines.rows [] (λ k l. refl)
            ∙ map-itself lines.rows))
            ∙ first_of-map limit (λ at. get_or lines.rows at []) (range_with_len 0 (length lines.rows))) i;
      });
}
  where
    map-itself : (rows : List Row) → map (λ row. row) rows ≡ rows
    map-itself [] = refl
    map-itself (row ∷ rows) = ap (λ rs. row ∷ rs) (map-itself rows)

-- the first lines of the groups of a query are a right answer
pub answers-arranged : (q : Query) (rows out : KindedRows) (groups : List (List Row))
    → IsPermutation (groups_of q (filter (holds q.filter) rows.rows)) groups
    → AreFirstLines
    (is_before (keys_in_columns q.order
    (map (λ (key : OrderKey). column_over rows.kinds groups key.item) q.order)))
    q.limit (lines_of rows.kinds q.items groups) out
    → Answers q rows out
answers-arranged q rows out groups perm f =
    let ps = f.indexes in
    let n = length-map groups (line_of rows.kinds q.items) in
    let first : AreFirst (is_before (map (key_over rows.kinds groups) q.order)) q.limit
    (range_with_len 0 (length groups)) ps =
    subst (λ ks. AreFirst (is_before ks) q.limit (range_with_len 0 (length groups)) ps)
    (keys_in_columns-over rows.kinds groups q.order)
    (subst (λ m. AreFirst
    (is_before (keys_in_columns q.order
    (map (λ (key : OrderKey). column_over rows.kinds groups key.item) q.order)))
    q.limit (range_with_len 0 m) ps) n f.first) in
    let within = AreFirst-within (is_before (map (key_over rows.kinds groups) q.order)) q.limit
    (length groups) ps first in
    answers-lines q rows out groups ps perm first
    (f.output
    ∙ (λ i. record {
      kinds = map (item_kind rows.kinds) q.items;
      rows = rows_at-lines rows.kinds groups q.items ps within i;
    }))
