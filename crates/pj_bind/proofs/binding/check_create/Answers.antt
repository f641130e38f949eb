use Rattle.std.proofs.Common.{◌≡◌, List, refl, sym, ap, ◌∙◌, inl, arith}
use Rattle.pj_expr.specs.declared.table.ColumnDef.{ColumnDef}
use Rattle.pj_bind.specs.declared.types.Refusal.TheVariants.{TableExists}
use Rattle.pj_bind.specs.Names.{first_unknown}
use Rattle.pj_bind.specs.Filling.{column_names}
use Rattle.pj_bind.specs.Causes.{First}
use Rattle.pj_bind.specs.Binding.{new_names, create_causes}
use Rattle.pj_bind.proofs.FaultLemmas.{IsFault-is, table-found, HasRoom-from}
use Rattle.pj_bind.proofs.FaultLemmas.{NoneRepeats-from, IsFirstRepeat-from}
use Rattle.pj_bind.proofs.FaultLemmas.{create-column, create-key, create-unknown}
use Rattle.pj_bind.proofs.binding.check_create.Goals as goal

pub returns-then-is_some-clause-refused : goal.returns-then-is_some-clause-refused
returns-then-is_some-clause-refused c = inl (
  ap TableExists c.in_ok-name.ensures,
  table-found c.args.tables.now c.args.name.now c.number_of.result (sym c.is_some.ensures ∙ c.if-is_some.true)
      c.number_of.ensures,
)

pub returns-in-Some-clause-refused : goal.returns-in-Some-clause-refused
returns-in-Some-clause-refused c =
    let columns = c.args.columns.now in
    let names : c.as_slice-2.result.now ≡ new_names columns =
    c.as_slice-2.ensures.value ∙ c.in_ok-names.ensures
    ∙ ap column_names (c.as_slice.ensures.value ∙ c.in_ok-defs.ensures) in
    IsFault-is (First (create_causes c.args.tables.now c.args.name.now columns c.args.key.now)) _ _
    c.duplicate_column.ensures
    (create-column c.args.tables.now c.args.name.now columns c.args.key.now
    (HasRoom-from c.args.tables.now c.args.name.now columns c.number_of.result
    (sym c.is_some.ensures ∙ c.if-is_some.false) c.number_of.ensures (omega arith) (omega arith)) _
    (IsFirstRepeat-from _ _ names c.in_ok-repeated.field-0 c.in-Some.repeated c.in-Some.is
    c.in_ok-repeated.ensures))

pub returns-in-Some-2-clause-refused : goal.returns-in-Some-2-clause-refused
returns-in-Some-2-clause-refused c =
    let columns = c.args.columns.now in
    let names : c.as_slice-2.result.now ≡ new_names columns =
    c.as_slice-2.ensures.value ∙ c.in_ok-names.ensures
    ∙ ap column_names (c.as_slice.ensures.value ∙ c.in_ok-defs.ensures) in
    IsFault-is (First (create_causes c.args.tables.now c.args.name.now columns c.args.key.now)) _ _
    c.duplicate_column-in-Some-2.ensures
    (create-key c.args.tables.now c.args.name.now columns c.args.key.now
    (HasRoom-from c.args.tables.now c.args.name.now columns c.number_of.result
    (sym c.is_some.ensures ∙ c.if-is_some.false) c.number_of.ensures (omega arith) (omega arith))
    (NoneRepeats-from _ _ names c.in_ok-repeated.field-0 c.in_default.is c.in_ok-repeated.ensures) _
    (IsFirstRepeat-from _ _ refl c.in_ok-repeated-2.field-0 c.in-Some-2.repeated c.in-Some-2.is
    c.in_ok-repeated-2.ensures))

pub returns-in-Some-unknown_in_names-clause-refused :
    goal.returns-in-Some-unknown_in_names-clause-refused
returns-in-Some-unknown_in_names-clause-refused c =
    let columns = c.args.columns.now in
    let names : c.as_slice-2.result.now ≡ new_names columns =
    c.as_slice-2.ensures.value ∙ c.in_ok-names.ensures
    ∙ ap column_names (c.as_slice.ensures.value ∙ c.in_ok-defs.ensures) in
    IsFault-is (First (create_causes c.args.tables.now c.args.name.now columns c.args.key.now)) _ _
    c.unknown_identifier.ensures
    (create-unknown c.args.tables.now c.args.name.now columns c.args.key.now
    (HasRoom-from c.args.tables.now c.args.name.now columns c.number_of.result
    (sym c.is_some.ensures ∙ c.if-is_some.false) c.number_of.ensures (omega arith) (omega arith)) (
      NoneRepeats-from _ _ names c.in_ok-repeated.field-0 c.in_default.is c.in_ok-repeated.ensures,
      NoneRepeats-from _ _ refl c.in_ok-repeated-2.field-0 c.in_default-2.is c.in_ok-repeated-2.ensures,
    ) _
    (sym (c.in-Some-unknown_in_names.ensures
    ∙ ap (λ (defs : List ColumnDef). first_unknown (column_names defs) c.args.key.now)
    (c.as_slice-3.ensures.value ∙ c.in_ok-defs.ensures))))

pub returns-clause-can : goal.returns-clause-can
returns-clause-can c =
    let columns = c.args.columns.now in
    let names : c.as_slice-2.result.now ≡ new_names columns =
    c.as_slice-2.ensures.value ∙ c.in_ok-names.ensures
    ∙ ap column_names (c.as_slice.ensures.value ∙ c.in_ok-defs.ensures) in
    record {
      room =
          HasRoom-from c.args.tables.now c.args.name.now columns c.number_of.result
          (sym c.is_some.ensures ∙ c.if-is_some.false) c.number_of.ensures (omega arith) (omega arith);
      once = (
        NoneRepeats-from _ _ names c.in_ok-repeated.field-0 c.in_default.is c.in_ok-repeated.ensures,
        NoneRepeats-from _ _ refl c.in_ok-repeated-2.field-0 c.in_default-2.is c.in_ok-repeated-2.ensures,
      );
      known =
          sym (c.in_default-unknown_in_names.ensures
          ∙ ap (λ (defs : List ColumnDef). first_unknown (column_names defs) c.args.key.now)
          (c.as_slice-3.ensures.value ∙ c.in_ok-defs.ensures));
    }
