-- The first unknown name of lists joined end to end, and options that are all there.
use Rattle.std.proofs.Common.{◌≡◌, ℕ, ◌+◌, ◌<◌, ◌≤◌, List, [], ◌∷◌, ◌++◌, length, map, take, drop, get_or}
use Rattle.std.proofs.Common.{not, Option, Some, None, zero, suc, refl, sym, ap, ◌∙◌, arith}
use Rattle.std.specs.Option.{option_map, option_or, option_and_then, option_zip}
use Rattle.std.specs.List.{flat_map}
use Rattle.std.proofs.lemmas.List.{take_more, drop_more, take-append-drop, append-nil, map_more}
use Rattle.std.proofs.lemmas.List.{take_all}
use Rattle.std.proofs.lemmas.List.{length-map, get_or-map}
use Rattle.std.proofs.lemmas.Option.{same_Some, none-some}
use Rattle.std.proofs.lemmas.List.Concat.{flat_map-append}
use Rattle.std.proofs.lemmas.List.Folds.{find-append}
use Rattle.pj_bind.specs.Names.{Name, is_among, first_unknown}
use Rattle.pj_grammar.specs.declared.types.TreeSelect.{TreeSelect}
use Rattle.pj_expr.specs.declared.expr.Expr.{Expr}
use Rattle.pj_expr.specs.declared.cond.Cond.{Cond}
use Rattle.pj_expr.specs.declared.query.Item.{Item}
use Rattle.pj_expr.specs.declared.query.OrderKey.{OrderKey}
use Rattle.pj_expr.specs.declared.query.Query.{Query}
use Rattle.pj_expr.specs.declared.table.ColumnDef.{ColumnDef}
use Rattle.pj_bind.specs.Queries.{all_of, items_of, filter_of, query_of}
use Rattle.pj_bind.specs.Parts.{groups_of, order_of, query_with}

module _ {X : Type 0} (known : List Name) (f : X → List Name) (xs : List X) (i : ℕ) (x : X)
    (within : i < length xs) (read : x ≡ get_or xs i x)
    (before : first_unknown known (flat_map f (take i xs)) ≡ None) where
  -- in one more list no name is unknown either
  pub unknown-more : None ≡ first_unknown known (f x)
      → first_unknown known (flat_map f (take (i + 1) xs)) ≡ None
  unknown-more here =
      ap (λ ys. first_unknown known (flat_map f ys)) (take_more xs i x within)
      ∙ ap (first_unknown known) (flat_map-append f (take i xs) (get_or xs i x ∷ []))
      ∙ find-append (λ name. not (is_among known name)) (flat_map f (take i xs)) (f (get_or xs i x) ++ [])
      ∙ ap (λ o. option_or o (first_unknown known (f (get_or xs i x) ++ []))) before
      ∙ ap (first_unknown known) (append-nil (f (get_or xs i x)))
      ∙ ap (λ y. first_unknown known (f y)) (sym read) ∙ sym here

  -- the first unknown name is that of the first list that has one
  pub unknown-here : (n : Name) → Some n ≡ first_unknown known (f x)
      → Some n ≡ first_unknown known (flat_map f xs)
  unknown-here n here =
      sym (ap (λ ys. first_unknown known (flat_map f ys)) (sym (take-append-drop i xs))
      ∙ ap (first_unknown known) (flat_map-append f (take i xs) (drop i xs))
      ∙ find-append (λ name. not (is_among known name)) (flat_map f (take i xs)) (flat_map f (drop i xs))
      ∙ ap (λ o. option_or o (first_unknown known (flat_map f (drop i xs)))) before
      ∙ ap (λ ys. first_unknown known (flat_map f ys)) (drop_more xs i x within)
      ∙ find-append (λ name. not (is_among known name)) (f (get_or xs i x)) (flat_map f (drop (i + 1) xs))
      ∙ ap (λ o. option_or o (first_unknown known (flat_map f (drop (i + 1) xs))))
      (ap (λ y. first_unknown known (f y)) (sym read) ∙ sym here))

-- one more option that is there
all_of-push : {X : Type 0} (os : List (Option X)) (xs : List X) (x : X) → all_of os ≡ Some xs
    → all_of (os ++ Some x ∷ []) ≡ Some (xs ++ x ∷ [])
all_of-push [] xs x is = ap (λ ys. Some (ys ++ x ∷ [])) (same_Some [] xs is)
all_of-push (None ∷ os) xs x is = absurd (none-some xs is)
all_of-push {X} (Some o ∷ os) xs x is = by (all_of os) refl is (λ ys. all_of-push os ys x)
  where
    by : (r : Option (List X)) → all_of os ≡ r → option_map (λ ys. o ∷ ys) r ≡ Some xs
        → ((ys : List X) → all_of os ≡ Some ys → all_of (os ++ Some x ∷ []) ≡ Some (ys ++ x ∷ []))
        → option_map (λ ys. o ∷ ys) (all_of (os ++ Some x ∷ [])) ≡ Some (xs ++ x ∷ [])
    by None rest made more = absurd (none-some xs made)
    by (Some ys) rest made more =
        ap (option_map (λ zs. o ∷ zs)) (more ys rest)
        ∙ ap (λ zs. Some (zs ++ x ∷ [])) (same_Some (o ∷ ys) xs made)

-- one that is not there
all_of-none : {X : Type 0} (os : List (Option X)) (i : ℕ) (d : Option X) → i < length os
    → get_or os i d ≡ None → all_of os ≡ None
all_of-none [] i d within here = absurd (omega arith)
all_of-none (None ∷ os) i d within here = refl
all_of-none (Some o ∷ os) zero d within here = absurd (none-some o (sym here))
all_of-none (Some o ∷ os) (suc i) d within here =
    ap (option_map (λ ys. o ∷ ys)) (all_of-none os i d (omega arith) here)

module _ {X Y : Type 0} (f : X → Option Y) (xs : List X) (i : ℕ) (x : X) (within : i < length xs)
    (read : x ≡ get_or xs i x) where
  -- all of one more, where it is there
  pub all_of-more : (ys zs : List Y) (y : Y) → all_of (map f (take i xs)) ≡ Some ys → Some y ≡ f x
      → zs ≡ ys ++ y ∷ [] → all_of (map f (take (i + 1) xs)) ≡ Some zs
  all_of-more ys zs y before here pushed =
      ap all_of (map_more f xs i x within)
      ∙ ap (λ o. all_of (map f (take i xs) ++ o ∷ [])) (ap f (sym read) ∙ sym here)
      ∙ all_of-push (map f (take i xs)) ys y before ∙ ap Some (sym pushed)

  -- not all are there where one isn't
  pub all_of-missing : None ≡ f x → None ≡ all_of (map f xs)
  all_of-missing here =
      sym (all_of-none (map f xs) i None (rw (length-map xs f) within)
      (get_or-map f xs i x None within ∙ ap f (sym read) ∙ sym here))

-- all are there
pub all_of-whole : {X Y : Type 0} (f : X → Option Y) (xs : List X) (i : ℕ) (ys : List Y) → length xs ≤ i
    → all_of (map f (take i xs)) ≡ Some ys → Some ys ≡ all_of (map f xs)
all_of-whole f xs i ys all made = sym made ∙ ap (λ zs. all_of (map f zs)) (take_all i xs all)

-- the parts of a query, one by one or at once
four : (items : Option (List Item)) (filter : Option Cond) (groups : Option (List Expr))
    (order : Option (List OrderKey)) (limit : Option ℕ)
    → query_with (option_zip (option_zip items filter) (option_zip groups order)) limit
    ≡ option_and_then (λ is. option_and_then (λ c. option_and_then (λ gs. option_and_then (λ ks. Some (record {
      items = is;
      filter = c;
      groups = gs;
      order = ks;
      limit = limit;
    })) order) groups) filter) items
four None filter groups order limit = refl
four (Some is) None groups order limit = refl
four (Some is) (Some c) None order limit = refl
four (Some is) (Some c) (Some gs) None limit = refl
four (Some is) (Some c) (Some gs) (Some ks) limit = refl

-- the query of a SELECT
pub query_of-with : (columns : List ColumnDef) (select : TreeSelect) (shown : Option (List Item × Cond))
    (arranged : Option (List Expr × List OrderKey))
    (parts : Option ((List Item × Cond) × (List Expr × List OrderKey))) (made : Option Query)
    → shown ≡ option_zip (items_of columns select.items) (filter_of columns select.filter)
    → arranged ≡ option_zip (groups_of columns select) (order_of columns select)
    → parts ≡ option_zip shown arranged → made ≡ query_with parts select.limit
    → made ≡ query_of columns select
query_of-with columns select shown arranged parts made one two both is =
    is ∙ ap (λ p. query_with p select.limit) both
    ∙ ap (λ p. query_with (option_zip p arranged) select.limit) one
    ∙ ap (λ p. query_with (option_zip (option_zip (items_of columns select.items)
    (filter_of columns select.filter)) p) select.limit) two
    ∙ four (items_of columns select.items) (filter_of columns select.filter)
    (groups_of columns select) (order_of columns select) select.limit
