-- The kinds of what calls give for a group.
use Rattle.std.proofs.Common.{◌≡◌, Bool, true, false, List, [], ◌∷◌, map, Option, Some, None}
use Rattle.std.proofs.Common.{refl, ap, subst, ◌∙◌}
use Rattle.std.specs.Prelude.{fold, if◌then◌else◌}
use Rattle.std.specs.Ordering.{is_lt}
use Rattle.pj_value.specs.declared.value.Kind.{Kind}
use Rattle.pj_value.specs.declared.value.Kind.TheVariants as kinds
use Rattle.pj_value.specs.declared.value.Value.{Value}
use Rattle.pj_value.specs.declared.value.AggKind.{AggKind}
use Rattle.pj_value.specs.declared.value.AggKind.TheVariants as aggregates
use Rattle.pj_value.specs.Values.{kind_of}
use Rattle.pj_value.specs.Columns.{AreOfKind}
use Rattle.pj_value.specs.Order.{value_cmp}
use Rattle.pj_value.specs.Rows.{HaveKinds}
use Rattle.pj_value.specs.Aggregates.{default, lesser, greater, least, greatest, aggregate, aggregate_kind}
use Rattle.pj_expr.specs.declared.expr.Expr.{Expr}
use Rattle.pj_expr.specs.Eval.{eval}
use Rattle.pj_expr.specs.Fits.{expr_kind, FitsExpr, FitsCallOf}
use Rattle.pj_answer.specs.Answers.{call_value, call_kind}
use Rattle.pj_expr.proofs.KindLemmas.{kind_of-eval}

-- the argument of a call that fits
FitsCallOf-argument : (columns : List Kind) (kind : AggKind) (e : Expr) → FitsCallOf columns kind (Some e)
    → FitsExpr columns e
FitsCallOf-argument columns aggregates.Count e f = (cc)
FitsCallOf-argument columns aggregates.Sum e f =
    let s : e ≡ f.0 = (cc) in (kinds.Num, ap (expr_kind columns) s ∙ f.2)
FitsCallOf-argument columns aggregates.Min e f = let s : f.0 ≡ e = (cc) in subst (FitsExpr columns) s f.2
FitsCallOf-argument columns aggregates.Max e f = let s : f.0 ≡ e = (cc) in subst (FitsExpr columns) s f.2
FitsCallOf-argument columns aggregates.UniqExact e f =
    let s : f.0 ≡ e = (cc) in subst (FitsExpr columns) s f.2

-- one of two values of a kind, whichever it is
kind_of-either : (second : Bool) (kind : Kind) (a b : Value) → kind_of a ≡ kind → kind_of b ≡ kind
    → kind_of (if second then b else a) ≡ kind
kind_of-either true kind a b e f = f
kind_of-either false kind a b e f = e

-- one of many, where each step takes one of two
kind_of-fold : (kind : Kind) (f : Value → Value → Value)
    → ((a b : Value) → kind_of a ≡ kind → kind_of b ≡ kind → kind_of (f a b) ≡ kind)
    → (v : Value) (vs : List Value) → kind_of v ≡ kind → AreOfKind kind vs → kind_of (fold f v vs) ≡ kind
kind_of-fold kind f keeps v [] e a = e
kind_of-fold kind f keeps v (w ∷ vs) e a = kind_of-fold kind f keeps (f v w) vs (keeps v w e a.0) a.1

-- the default of a kind
kind_of-default : (kind : Kind) → kind_of (default kind) ≡ kind
kind_of-default kinds.Num = refl
kind_of-default kinds.Text = refl

-- the least and the greatest of values of a kind
kind_of-least : (kind : Kind) (vs : List Value) → AreOfKind kind vs
    → kind_of (least kind vs) ≡ kind
kind_of-least kind [] a = kind_of-default kind
kind_of-least kind (v ∷ vs) a =
    kind_of-fold kind lesser (λ x y. kind_of-either (is_lt (value_cmp y x)) kind x y) v vs a.0 a.1

kind_of-greatest : (kind : Kind) (vs : List Value) → AreOfKind kind vs
    → kind_of (greatest kind vs) ≡ kind
kind_of-greatest kind [] a = kind_of-default kind
kind_of-greatest kind (v ∷ vs) a =
    kind_of-fold kind greater (λ x y. kind_of-either (is_lt (value_cmp x y)) kind x y) v vs a.0 a.1

-- an aggregate of values of a kind
kind_of-aggregate : (kind : AggKind) (of : Kind) (vs : List Value) → AreOfKind of vs
    → kind_of (aggregate kind of vs) ≡ aggregate_kind kind of
kind_of-aggregate aggregates.Count of vs a = refl
kind_of-aggregate aggregates.Sum of vs a = refl
kind_of-aggregate aggregates.Min of vs a = kind_of-least of vs a
kind_of-aggregate aggregates.Max of vs a = kind_of-greatest of vs a
kind_of-aggregate aggregates.UniqExact of vs a = refl

-- the values of an expression for rows of these kinds
AreOfKind-eval : (columns : List Kind) (e : Expr) (kind : Kind) → expr_kind columns e ≡ Some kind
    → (rows : List (List Value)) → HaveKinds columns rows → AreOfKind kind (map (λ row. eval e row) rows)
AreOfKind-eval columns e kind k [] s = tt
AreOfKind-eval columns e kind k (row ∷ rows) s =
    (kind_of-eval columns row s.0 e kind k, AreOfKind-eval columns e kind k rows s.1)

-- what a call gives for a group of rows of these kinds
pub kind_of-call : (columns : List Kind) (kind : AggKind) (argument : Option Expr) (group : List (List Value))
    → HaveKinds columns group → FitsCallOf columns kind argument
    → kind_of (call_value columns kind argument group) ≡ call_kind columns kind argument
kind_of-call columns kind None group s f = refl
kind_of-call columns kind (Some e) group s f =
    let fits = FitsCallOf-argument columns kind e f in
    rw fits.1 (kind_of-aggregate kind fits.0 _ (AreOfKind-eval columns e fits.0 fits.1 group s))
