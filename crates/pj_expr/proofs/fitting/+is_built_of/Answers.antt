use Rattle.std.proofs.Common.{refl}
use Rattle.pj_expr.specs.Fits.{IsBuiltOf}
use Rattle.pj_expr.proofs.BuiltLemmas.{no_key, built-Add, built-Mul, built-IntDiv, built-Mod}
use Rattle.pj_expr.proofs.fitting.+is_built_of.Goals as goal

pub returns-then-is_among : goal.returns-then-is_among
returns-then-is_among t c = (λ h. IsBuiltOf.key (c.is_among.ensures.0 c.if-is_among.true), λ h. refl)

pub returns-in-Num : goal.returns-in-Num
returns-in-Num t c = rw c.in-Num.is (λ h. IsBuiltOf.number, λ h. refl)

pub returns-in-Text : goal.returns-in-Text
returns-in-Text t c = rw c.in-Text.is (λ h. IsBuiltOf.text, λ h. refl)

pub returns-then-is_built_of : goal.returns-then-is_built_of
returns-then-is_built_of t c =
    let keys = c.args.keys.now in
    let n = rw c.in-Add.is at
    (no_key keys c.args.expr.now c.is_among.result c.is_among.ensures c.if-is_among.false) in
    let first = rw c.get.ensures at c.is_built_of.ensures in
    let second = rw c.get-then-is_built_of.ensures at c.is_built_of-then-is_built_of.ensures in
    rw c.in-Add.is (
      λ h. IsBuiltOf.sum (first.0 c.if-is_built_of.true) (second.0 h),
      λ h. second.1 ((built-Add keys c.in-Add.a c.in-Add.b n h).1),
    )

pub returns-then-is_built_of-2 : goal.returns-then-is_built_of-2
returns-then-is_built_of-2 t c =
    let keys = c.args.keys.now in
    let n = rw c.in-Mul.is at
    (no_key keys c.args.expr.now c.is_among.result c.is_among.ensures c.if-is_among.false) in
    let first = rw c.get-in-Mul.ensures at c.is_built_of-in-Mul.ensures in
    let second = rw c.get-then-is_built_of-2.ensures at c.is_built_of-then-is_built_of-2.ensures in
    rw c.in-Mul.is (
      λ h. IsBuiltOf.product (first.0 c.if-is_built_of-2.true) (second.0 h),
      λ h. second.1 ((built-Mul keys c.in-Mul.a c.in-Mul.b n h).1),
    )

pub returns-in-IntDiv : goal.returns-in-IntDiv
returns-in-IntDiv t c =
    let keys = c.args.keys.now in
    let n = rw c.in-IntDiv.is at
    (no_key keys c.args.expr.now c.is_among.result c.is_among.ensures c.if-is_among.false) in
    let first = rw c.get-in-IntDiv.ensures at c.is_built_of-in-IntDiv.ensures in
    rw c.in-IntDiv.is (
      λ h. IsBuiltOf.quotient (first.0 h),
      λ h. first.1
          (built-IntDiv keys c.in-IntDiv.a c.in-IntDiv.field-1 n h),
    )

pub returns-in-Mod : goal.returns-in-Mod
returns-in-Mod t c =
    let keys = c.args.keys.now in
    let n = rw c.in-Mod.is at
    (no_key keys c.args.expr.now c.is_among.result c.is_among.ensures c.if-is_among.false) in
    let first = rw c.get-in-Mod.ensures at c.is_built_of-in-Mod.ensures in
    rw c.in-Mod.is
    (λ h. IsBuiltOf.remainder (first.0 h), λ h. first.1 (built-Mod keys c.in-Mod.a c.in-Mod.field-1 n h))
