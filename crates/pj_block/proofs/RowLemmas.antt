-- What numbers, texts and comparisons of a block are for each row.
use Rattle.std.proofs.Common.{◌≡◌, ℕ, zero, suc, Bool, true, not, ◌&&◌, ◌||◌, List, [], ◌∷◌}
use Rattle.std.proofs.Common.{length, map, get_or, replicate}
use Rattle.std.proofs.Common.{Some, refl, sym, ap, ◌∙◌}
use Rattle.std.specs.Simd.Lanes.{zip2}
use Rattle.std.proofs.lemmas.Simd.{zip2_of_maps, splat_is_map, map-map}
use Rattle.pj_value.specs.declared.value.Kind.{Kind}
use Rattle.pj_value.specs.declared.value.Kind.TheVariants as kinds
use Rattle.pj_value.specs.declared.value.Value.{Value}
use Rattle.pj_value.specs.declared.value.Value.TheVariants as values
use Rattle.pj_value.specs.Values.{kind_of}
use Rattle.pj_value.specs.Order.{value_cmp}
use Rattle.pj_value.specs.Rows.{HaveKinds, value_in}
use Rattle.pj_value.specs.Aggregates.{number_in}
use Rattle.pj_expr.specs.declared.expr.Expr.{Expr}
use Rattle.pj_expr.specs.declared.expr.Expr.TheVariants as exprs
use Rattle.pj_expr.specs.declared.cond.Op.{Op}
use Rattle.pj_block.specs.declared.numbers.Arith.TheVariants as ariths
use Rattle.pj_block.specs.declared.numbers.Part.TheVariants as parts
use Rattle.pj_expr.specs.declared.cond.Cond.{Cond}
use Rattle.pj_expr.specs.declared.cond.Cond.TheVariants as conds
use Rattle.pj_expr.specs.Eval.{eval, meets, holds}
use Rattle.pj_expr.specs.Fits.{expr_kind}
use Rattle.pj_block.specs.Blocks.{of_two, of_parts, text_in, number_meets, text_meets}
use Rattle.pj_expr.proofs.EvalLemmas.{eval-Column, eval-Num, eval-Text, eval-Add, eval-Mul, eval-IntDiv}
use Rattle.pj_expr.proofs.EvalLemmas.{eval-Mod}
use Rattle.pj_expr.proofs.EvalLemmas.{holds-All, holds-Compare, holds-And, holds-Or, holds-Not}
use Rattle.pj_expr.proofs.KindLemmas.{kind_of-eval}

-- functions that agree give one list
pub map-same : {X Y : Type 0} (f g : X → Y) (xs : List X) → ((x : X) → f x ≡ g x) → map f xs ≡ map g xs
map-same f g [] h = refl
map-same f g (x ∷ xs) h = rw (h x, map-same f g xs h)

-- the same for functions that agree at rows of these kinds
map-same_kinded : {Y : Type 0} (f g : List Value → Y) (columns : List Kind) (rows : List (List Value))
    → HaveKinds columns rows → ((row : List Value) → map kind_of row ≡ columns → f row ≡ g row)
    → map f rows ≡ map g rows
map-same_kinded f g columns [] k h = refl
map-same_kinded f g columns (row ∷ rows) k h = rw (h row k.0, map-same_kinded f g columns rows k.1 h)

-- an element of a list of functions' values, past the end too
pub get_or-map_all : {X Y : Type 0} (f : X → Y) (xs : List X) (k : ℕ) (d : X)
    → get_or (map f xs) k (f d) ≡ f (get_or xs k d)
get_or-map_all f [] k d = refl
get_or-map_all f (x ∷ xs) zero d = refl
get_or-map_all f (x ∷ xs) (suc k) d = get_or-map_all f xs k d

-- a value of the kind of numbers is a number
pub is_number : (v : Value) → kind_of v ≡ kinds.Num → v ≡ values.Num (number_in v)
is_number (values.Num n) e = refl
is_number (values.Text t) e = (cc)

-- a value of the kind of texts is a text
pub is_text : (v : Value) → kind_of v ≡ kinds.Text → v ≡ values.Text (text_in v)
is_text (values.Num n) e = (cc)
is_text (values.Text t) e = refl

-- the numbers of an expression, and its texts
abbrev pub number_at : Expr → List Value → ℕ
number_at e row = number_in (eval e row)

abbrev pub text_at : Expr → List Value → List ℕ
text_at e row = text_in (eval e row)

module _ (rows : List (List Value)) where
  -- a column of numbers
  pub numbers-Column : (c : ℕ) (ns : List ℕ) → map (λ row. value_in row c) rows ≡ map (λ n. values.Num n) ns
      → ns ≡ map (number_at (exprs.Column c)) rows
  numbers-Column c ns e =
      sym (back ns) ∙ ap (map number_in) (sym e) ∙ map-map number_in (λ row. value_in row c) rows
      ∙ map-same _ _ rows (λ row. ap number_in (sym (eval-Column row c)))
    where
      back : (ms : List ℕ) → map number_in (map (λ n. values.Num n) ms) ≡ ms
      back [] = refl
      back (m ∷ ms) = ap (λ ns. m ∷ ns) (back ms)

  -- a column of texts
  pub texts-Column : (c : ℕ) (ts : List (List ℕ))
      → map (λ row. value_in row c) rows ≡ map (λ t. values.Text t) ts
      → ts ≡ map (text_at (exprs.Column c)) rows
  texts-Column c ts e =
      sym (back ts) ∙ ap (map text_in) (sym e) ∙ map-map text_in (λ row. value_in row c) rows
      ∙ map-same _ _ rows (λ row. ap text_in (sym (eval-Column row c)))
    where
      back : (ss : List (List ℕ)) → map text_in (map (λ t. values.Text t) ss) ≡ ss
      back [] = refl
      back (s ∷ ss) = ap (λ ts. s ∷ ts) (back ss)

  -- a literal
  pub numbers-Num : (n : ℕ) → replicate (length rows) n ≡ map (number_at (exprs.Num n)) rows
  numbers-Num n =
      splat_is_map rows (length rows) n refl ∙ map-same _ _ rows (λ row. ap number_in (sym (eval-Num row n)))

  pub texts-Text : (t : List ℕ) → replicate (length rows) t ≡ map (text_at (exprs.Text t)) rows
  texts-Text t =
      splat_is_map rows (length rows) t refl ∙ map-same _ _ rows (λ row. ap text_in (sym (eval-Text row t)))

  -- sums and products
  pub numbers-Add : (a b : Expr) (ms ns : List ℕ) → ms ≡ map (number_at a) rows → ns ≡ map (number_at b) rows
      → zip2 (of_two ariths.Add) ms ns ≡ map (number_at (exprs.Add a b)) rows
  numbers-Add a b ms ns e f =
      zip2_of_maps (of_two ariths.Add) (number_at a) (number_at b) rows e f
      ∙ map-same _ _ rows (λ row. ap number_in (sym (eval-Add row a b)))

  pub numbers-Mul : (a b : Expr) (ms ns : List ℕ) → ms ≡ map (number_at a) rows → ns ≡ map (number_at b) rows
      → zip2 (of_two ariths.Mul) ms ns ≡ map (number_at (exprs.Mul a b)) rows
  numbers-Mul a b ms ns e f =
      zip2_of_maps (of_two ariths.Mul) (number_at a) (number_at b) rows e f
      ∙ map-same _ _ rows (λ row. ap number_in (sym (eval-Mul row a b)))

  -- quotients and remainders
  pub numbers-IntDiv : (a : Expr) (d : ℕ) (ms : List ℕ) → ms ≡ map (number_at a) rows
      → map (λ n. of_parts parts.Quotient n d) ms ≡ map (number_at (exprs.IntDiv a d)) rows
  numbers-IntDiv a d ms e =
      ap (map (λ n. of_parts parts.Quotient n d)) e
      ∙ map-map (λ n. of_parts parts.Quotient n d) (number_at a) rows
      ∙ map-same _ _ rows (λ row. ap number_in (sym (eval-IntDiv row a d)))

  pub numbers-Mod : (a : Expr) (d : ℕ) (ms : List ℕ) → ms ≡ map (number_at a) rows
      → map (λ n. of_parts parts.Remainder n d) ms ≡ map (number_at (exprs.Mod a d)) rows
  numbers-Mod a d ms e =
      ap (map (λ n. of_parts parts.Remainder n d)) e
      ∙ map-map (λ n. of_parts parts.Remainder n d) (number_at a) rows
      ∙ map-same _ _ rows (λ row. ap number_in (sym (eval-Mod row a d)))

  -- conditions
  pub held-All : replicate (length rows) true ≡ map (λ row. holds conds.All row) rows
  held-All = splat_is_map rows (length rows) true refl ∙ map-same _ _ rows (λ row. sym (holds-All row))

  pub held-Compare : (op : Op) (a b : Expr)
      → map (λ row. meets op (value_cmp (eval a row) (eval b row))) rows
      ≡ map (λ row. holds (conds.Compare op a b) row) rows
  held-Compare op a b = map-same _ _ rows (λ row. sym (holds-Compare row op a b))

  pub held-And : (a b : Cond) (xs ys : List Bool) → xs ≡ map (λ row. holds a row) rows
      → ys ≡ map (λ row. holds b row) rows
      → zip2 (λ x y. x && y) xs ys ≡ map (λ row. holds (conds.And a b) row) rows
  held-And a b xs ys e f =
      zip2_of_maps (λ x y. x && y) (λ row. holds a row) (λ row. holds b row) rows e f
      ∙ map-same _ _ rows (λ row. sym (holds-And row a b))

  pub held-Or : (a b : Cond) (xs ys : List Bool) → xs ≡ map (λ row. holds a row) rows
      → ys ≡ map (λ row. holds b row) rows
      → zip2 (λ x y. x || y) xs ys ≡ map (λ row. holds (conds.Or a b) row) rows
  held-Or a b xs ys e f =
      zip2_of_maps (λ x y. x || y) (λ row. holds a row) (λ row. holds b row) rows e f
      ∙ map-same _ _ rows (λ row. sym (holds-Or row a b))

  pub held-Not : (a : Cond) (xs : List Bool) → xs ≡ map (λ row. holds a row) rows
      → map not xs ≡ map (λ row. holds (conds.Not a) row) rows
  held-Not a xs e =
      ap (map not) e ∙ map-map not (λ row. holds a row) rows
      ∙ map-same _ _ rows (λ row. sym (holds-Not row a))

module _ (columns : List Kind) (rows : List (List Value)) (shape : HaveKinds columns rows) where
  -- the values of an expression that is a number, and of one that is a text
  pub values-numbers : (e : Expr) (ns : List ℕ) → expr_kind columns e ≡ Some kinds.Num
      → ns ≡ map (number_at e) rows
      → map (λ n. values.Num n) ns ≡ map (λ row. eval e row) rows
  values-numbers e ns k h =
      ap (map (λ n. values.Num n)) h ∙ map-map (λ n. values.Num n) (number_at e) rows
      ∙ map-same_kinded _ _ columns rows shape
      (λ row s. sym (is_number (eval e row) (kind_of-eval columns row s e kinds.Num k)))

  pub values-texts : (e : Expr) (ts : List (List ℕ)) → expr_kind columns e ≡ Some kinds.Text
      → ts ≡ map (text_at e) rows
      → map (λ t. values.Text t) ts ≡ map (λ row. eval e row) rows
  values-texts e ts k h =
      ap (map (λ t. values.Text t)) h ∙ map-map (λ t. values.Text t) (text_at e) rows
      ∙ map-same_kinded _ _ columns rows shape
      (λ row s. sym (is_text (eval e row) (kind_of-eval columns row s e kinds.Text k)))

  -- comparisons of numbers, and of texts
  pub meets-numbers : (op : Op) (a b : Expr) (ms ns : List ℕ) → expr_kind columns a ≡ Some kinds.Num
      → expr_kind columns b ≡ Some kinds.Num → ms ≡ map (number_at a) rows → ns ≡ map (number_at b) rows
      → zip2 (number_meets op) ms ns ≡ map (λ row. meets op (value_cmp (eval a row) (eval b row))) rows
  meets-numbers op a b ms ns k l e f =
      zip2_of_maps (number_meets op) (number_at a) (number_at b) rows e f
      ∙ map-same_kinded _ _ columns rows shape (λ row s.
      sym (ap (λ v. meets op (value_cmp v (eval b row)))
      (is_number (eval a row) (kind_of-eval columns row s a kinds.Num k))
      ∙ ap (λ v. meets op (value_cmp (values.Num (number_at a row)) v))
      (is_number (eval b row) (kind_of-eval columns row s b kinds.Num l))))

  pub meets-texts : (op : Op) (a b : Expr) (ss ts : List (List ℕ)) → expr_kind columns a ≡ Some kinds.Text
      → expr_kind columns b ≡ Some kinds.Text → ss ≡ map (text_at a) rows → ts ≡ map (text_at b) rows
      → zip2 (text_meets op) ss ts ≡ map (λ row. meets op (value_cmp (eval a row) (eval b row))) rows
  meets-texts op a b ss ts k l e f =
      zip2_of_maps (text_meets op) (text_at a) (text_at b) rows e f
      ∙ map-same_kinded _ _ columns rows shape (λ row s.
      sym (ap (λ v. meets op (value_cmp v (eval b row)))
      (is_text (eval a row) (kind_of-eval columns row s a kinds.Text k))
      ∙ ap (λ v. meets op (value_cmp (values.Text (text_at a row)) v))
      (is_text (eval b row) (kind_of-eval columns row s b kinds.Text l))))
