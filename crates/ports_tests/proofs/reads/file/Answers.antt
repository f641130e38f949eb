use Rattle.std.proofs.Common.{◌≡◌, ℕ, List, length, ap, subst, ◌∙◌, arith}
use Rattle.std.proofs.lemmas.List.{length-map}
use Rattle.pj_value.specs.declared.value.Kind.TheVariants as kinds
use Rattle.pj_value.specs.declared.value.Value.TheVariants as values
use Rattle.pj_value.specs.Columns.{KindedValues}
use Rattle.pj_part.specs.declared.part.ColumnFile.{ColumnFile}
use Rattle.pj_part.specs.Formed.{IsFormedColumn}
use Rattle.ports_tests.proofs.reads.file.Goals as goal

pub returns-clause-formed : goal.returns-clause-formed
returns-clause-formed c =
    let column = c.from_numbers-column.result in
    let many : length column.values ≡ 5 =
    ap (λ (v : KindedValues). length v.values) c.from_numbers-column.ensures
    ∙ length-map c.in_ok-from_slice.field-0.items (λ n. values.Num n)
    ∙ ap length c.in_ok-from_slice.ensures.items ∙ c.requires in
    let file : ColumnFile (List ℕ) =
    record { blob = c.in_ok-blob.blob; kind = kinds.Num; marks = c.in_ok-written.written.marks } in
    subst (λ n. IsFormedColumn length 2 n file) many
    (c.written_columns_are_formed.ensures 2 file column (omega arith) c.in_ok-written.ensures.marks
    (c.in_ok-blob.ensures.size ∙ ap length c.as_slice.ensures ∙ ap length c.in_ok-written.ensures.bytes))
