-- What a query gives for a group doesn't depend on the order of its rows.
use Rattle.std.proofs.Common.{◌≡◌, ℕ, zero, suc, ◌+◌, ◌*◌, ◌/◌, ◌%◌, ◌^◌, ◌<◌}
use Rattle.std.proofs.Common.{List, [], ◌∷◌, length, map, get_or, Option, Some, None}
use Rattle.std.proofs.Common.{refl, sym, ap, ◌∙◌, arith}
use Rattle.std.specs.List.{AllByRecursion}
use Rattle.pj_value.specs.declared.value.Kind.{Kind}
use Rattle.pj_value.specs.declared.value.AggKind.{AggKind}
use Rattle.pj_value.specs.declared.value.Value.TheVariants as values
use Rattle.pj_value.specs.Aggregates.{number_in}
use Rattle.pj_expr.specs.declared.expr.Expr.{Expr}
use Rattle.pj_expr.specs.declared.query.Item.{Item}
use Rattle.pj_expr.specs.declared.query.Item.TheVariants.{Plain, Agg}
use Rattle.pj_expr.specs.declared.query.Query.{Query}
use Rattle.pj_expr.specs.Eval.{eval}
use Rattle.pj_expr.specs.Fits.{expr_kind, IsOfGroup, IsBuiltOf}
use Rattle.pj_expr.specs.Fits.{key, number, text, sum, product, quotient, remainder}
use Rattle.pj_answer.specs.Answers.{Row, key_of, first_row, or_number, call_value, item_value, outcome_of}
use Rattle.pj_answer.proofs.Shuffles.{Shuffle, mapped, as_long}
use Rattle.pj_answer.proofs.AggregateLemmas.{aggregate-shuffled}
use Rattle.pj_expr.proofs.EvalLemmas.{eval-Num, eval-Text, eval-Add, eval-Mul, eval-IntDiv, eval-Mod}

-- two functions that agree where a fact holds, on a list where it holds of each element
pub map-agreeing : {X Y : Type 0} (P : X → Type 0) (f g : X → Y) → ((x : X) → P x → f x ≡ g x) → (xs : List X)
    → AllByRecursion P xs → map f xs ≡ map g xs
map-agreeing P f g agree [] all = refl
map-agreeing P f g agree (x ∷ xs) all = λ i. agree x all.0 i ∷ map-agreeing P f g agree xs all.1 i

-- ---- expressions that are built of the values of GROUP BY

-- a value of GROUP BY is the same for rows that have these values in common
eval-key : (keys : List Expr) (r s : Row) (e : Expr) (k : ℕ) → key_of keys r ≡ key_of keys s
    → k < length keys → get_or keys k e ≡ e → eval e r ≡ eval e s
eval-key [] r s e k alike l is = absurd (omega arith)
eval-key (x ∷ keys) r s e zero alike l is =
    let first : eval x r ≡ eval x s = (cc) in
    ap (λ f. eval f r) (sym is) ∙ first ∙ ap (λ f. eval f s) is
eval-key (x ∷ keys) r s e (suc k) alike l is = eval-key keys r s e k (cc) (omega arith) is

module _ (keys : List Expr) (r s : Row) (alike : key_of keys r ≡ key_of keys s) where
  -- so is what is built of them and of literals
  pub eval-built : {e : Expr} → IsBuiltOf keys e → eval e r ≡ eval e s
  eval-built (key {e} at) = eval-key keys r s e at.0 alike at.1 at.2
  eval-built (number {n}) = eval-Num r n ∙ sym (eval-Num s n)
  eval-built (text {t}) = eval-Text r t ∙ sym (eval-Text s t)
  eval-built (sum {a} {b} left right) =
      eval-Add r a b
      ∙ (λ i. values.Num ((number_in (eval-built left i) + number_in (eval-built right i)) % 2 ^ 64))
      ∙ sym (eval-Add s a b)
  eval-built (product {a} {b} left right) =
      eval-Mul r a b
      ∙ (λ i. values.Num ((number_in (eval-built left i) * number_in (eval-built right i)) % 2 ^ 64))
      ∙ sym (eval-Mul s a b)
  eval-built (quotient {a} {d} inner) =
      eval-IntDiv r a d ∙ ap (λ v. values.Num (number_in v / d)) (eval-built inner) ∙ sym (eval-IntDiv s a d)
  eval-built (remainder {a} {d} inner) =
      eval-Mod r a d ∙ ap (λ v. values.Num (number_in v % d)) (eval-built inner) ∙ sym (eval-Mod s a d)

-- ---- outcomes

-- a call doesn't depend on the order of the rows
call_value-shuffled : {g h : List Row} (columns : List Kind) (kind : AggKind) (argument : Option Expr)
    → Shuffle g h → call_value columns kind argument g ≡ call_value columns kind argument h
call_value-shuffled columns kind None s = ap (λ n. values.Num (n % 2 ^ 64)) (as_long s)
call_value-shuffled columns kind (Some e) s =
    aggregate-shuffled kind (or_number (expr_kind columns e)) (mapped (λ row. eval e row) s)

module _ (columns : List Kind) (keys : List Expr) (g h : List Row) (moved : Shuffle g h)
    (alike : key_of keys (first_row g) ≡ key_of keys (first_row h)) where
  -- nor does an item of the group
  item_value-shuffled : (item : Item) → IsOfGroup keys item
      → item_value columns g item ≡ item_value columns h item
  item_value-shuffled (Plain e) built = eval-built keys (first_row g) (first_row h) alike built
  item_value-shuffled (Agg call) built = call_value-shuffled columns call.kind call.argument moved

-- nor does the outcome of the group
pub outcome_of-shuffled : (columns : List Kind) (q : Query) (g h : List Row) → Shuffle g h
    → key_of q.groups (first_row g) ≡ key_of q.groups (first_row h)
    → AllByRecursion (IsOfGroup q.groups) q.items → AllByRecursion (λ by. IsOfGroup q.groups by.item) q.order
    → outcome_of columns q g ≡ outcome_of columns q h
outcome_of-shuffled columns q g h moved alike items of_order =
    let each = item_value-shuffled columns q.groups g h moved alike in
    let output =
    map-agreeing (IsOfGroup q.groups) (item_value columns g) (item_value columns h) each q.items items in
    let order =
    map-agreeing
    (λ by. IsOfGroup q.groups by.item)
    (λ by. item_value columns g by.item)
    (λ by. item_value columns h by.item)
    (λ by. each by.item) q.order of_order in
    λ i. record { output = output i; order = order i }
