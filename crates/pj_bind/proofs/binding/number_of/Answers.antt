use Rattle.std.proofs.Common.{◌≡◌, length, Decides, refl, sym, ◌∙◌, arith}
use Rattle.std.proofs.lemmas.Bool.{false≢true}
use Rattle.std.proofs.lemmas.List.{take_all}
use Rattle.std.proofs.lemmas.Option.{slice_get_read}
use Rattle.pj_bind.proofs.binding.number_of.Goals as goal
use Rattle.pj_bind.proofs.TableLemmas.{Decides-names, IsUnknown-more}

pub returns-then-eq : goal.returns-then-eq
returns-then-eq c =
    let same : Decides c.eq.result (c.index-tables-number.result.name ≡ c.args.name.now) =
    rw (← c.as_slice.ensures.value, ← c.as_slice-in-tables.ensures.value)
    (Decides-names c.eq.result _ _ c.eq.ensures) in (
      c.index-tables-number.result,
      (
        slice_get_read c.args.tables.now
            (length c.args.tables.now) c.tables.number c.index-tables-number.result refl
            (omega arith) c.index-tables-number.is,
        same.0 c.if-eq.true,
        c.tables.invariant,
      ),
    )

pub tables-preserved : goal.tables-preserved
tables-preserved c =
    let same : Decides c.eq.result (c.index-tables-number.result.name ≡ c.args.name.now) =
    rw (← c.as_slice.ensures.value, ← c.as_slice-in-tables.ensures.value)
    (Decides-names c.eq.result _ _ c.eq.ensures) in
    IsUnknown-more c.args.tables.now c.args.name.now c.tables.number c.index-tables-number.result
    (omega arith) c.index-tables-number.is
    (λ named. false≢true (sym c.if-eq.false ∙ same.1 named)) c.tables.invariant

pub returns : goal.returns
returns c = rw (sym (take_all c.tables.number c.args.tables.now (omega arith))) c.tables.invariant
