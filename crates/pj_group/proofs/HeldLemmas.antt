-- What is held for the items of a query and its order keys.
use Rattle.std.proofs.Common.{◌≡◌, ℕ, zero, suc, ◌+◌, ◌<◌, Bool, true, false, ◌||◌, List, [], ◌∷◌, ◌++◌, length, map}
use Rattle.std.proofs.Common.{eqb, get_or, take, drop, refl, sym, ap, ◌∙◌, subst, arith, true≢false}
use Rattle.std.specs.List.{list_any, All, AllByRecursion, AllZip}
use Rattle.std.specs.List.Sorted.{IsPermutation}
use Rattle.std.proofs.lemmas.Bool.{or_left, or_right, eqb-true}
use Rattle.std.proofs.lemmas.List.{length-map, map-append, take_more, drop_more, length-drop}
use Rattle.std.proofs.lemmas.List.Elements.{All-append, All-map, All-from_recursion, All-head, All-tail}
use Rattle.std.proofs.lemmas.List.Sorted.{IsPermutation-refl}
use Rattle.pj_value.specs.declared.value.Kind.{Kind}
use Rattle.pj_value.specs.Columns.{KindedValues}
use Rattle.pj_expr.specs.declared.expr.Expr.{Expr}
use Rattle.pj_expr.specs.declared.query.Item.{Item}
use Rattle.pj_expr.specs.declared.query.Item.TheVariants.{Plain, Agg}
use Rattle.pj_expr.specs.declared.query.OrderKey.{OrderKey}
use Rattle.pj_expr.specs.declared.query.Query.{Query}
use Rattle.pj_expr.specs.Fits.{FitsItem, FitsQuery, IsOfGroup, is_call, is_grouped, aggregates_rows}
use Rattle.pj_answer.specs.Answers.{Row, groups_of}
use Rattle.pj_group.specs.declared.forms.Form.{Form}
use Rattle.pj_group.specs.declared.forms.Form.TheVariants.{Each, One, By}
use Rattle.pj_group.specs.declared.slots.Slot.{Slot}
use Rattle.pj_group.specs.declared.slots.Slot.TheVariants.{First, States}
use Rattle.pj_group.specs.Lines.{column_over}
use Rattle.pj_group.specs.Slots.{IsItemOf, IsOfItem}
use Rattle.pj_group.specs.Standing.{HoldsGroups, IsSlot, all_items}
use Rattle.pj_group.proofs.LineLemmas.{groups_in-permutation}
use Rattle.std.proofs.lemmas.Slice.Zip.{AllZip-long}

-- ---- lists

-- a list that counts none is empty
pub no_elements : {X : Type 0} (xs : List X) → eqb (length xs) 0 ≡ true → xs ≡ []
no_elements [] e = refl
no_elements (x ∷ xs) e =
    let f : length (x ∷ xs) ≡ 0 = eqb-true (length (x ∷ xs)) 0 e in absurd (omega (arith, f))

-- one more element, on both sides
pub map-more : {X Y Z : Type 0} (g : X → Z) (h : Y → Z) (xs : List X) (x : X) (ys : List Y) (i : ℕ) (d : Y)
    → map g xs ≡ map h (take i ys) → g x ≡ h (get_or ys i d) → i < length ys
    → map g (xs ++ x ∷ []) ≡ map h (take (i + 1) ys)
map-more g h xs x ys i d e f l =
    map-append g xs (x ∷ []) ∙ (λ j. e j ++ f j ∷ [])
    ∙ sym (map-append h (take i ys) (get_or ys i d ∷ [])) ∙ ap (map h) (sym (take_more ys i d l))

-- of what a function gives, and of its arguments
pub All-of_map : {X Y : Type 0} (P : Y → Type 0) (f : X → Y) (xs : List X) → All P (map f xs)
    → All (λ x. P (f x)) xs
All-of_map P f xs a = λ i d l. subst P (get_or-mapped f xs i d l) (a i (f d) (omega (arith, length-map xs f, l)))
  where
    get_or-mapped : {X Y : Type 0} (f : X → Y) (xs : List X) (i : ℕ) (d : X) → i < length xs
        → get_or (map f xs) i (f d) ≡ f (get_or xs i d)
    get_or-mapped f [] i d l = refl
    get_or-mapped f (x ∷ xs) zero d l = refl
    get_or-mapped f (x ∷ xs) (suc i) d l = get_or-mapped f xs i d (omega arith)

pub AllZip-of_map : {X Y Z : Type 0} (R : Y → Z → Type 0) (f : X → Y) (xs : List X) (zs : List Z)
    → AllZip R (map f xs) zs → AllZip (λ x z. R (f x) z) xs zs
AllZip-of_map R f [] [] a = tt
AllZip-of_map R f [] (z ∷ zs) a = a
AllZip-of_map R f (x ∷ xs) [] a = a
AllZip-of_map R f (x ∷ xs) (z ∷ zs) a = (a.0, AllZip-of_map R f xs zs a.1)

pub AllZip-to_map : {X Y Z : Type 0} (R : Y → Z → Type 0) (f : X → Y) (xs : List X) (zs : List Z)
    → AllZip (λ x z. R (f x) z) xs zs → AllZip R (map f xs) zs
AllZip-to_map R f [] [] a = tt
AllZip-to_map R f [] (z ∷ zs) a = a
AllZip-to_map R f (x ∷ xs) [] a = a
AllZip-to_map R f (x ∷ xs) (z ∷ zs) a = (a.0, AllZip-to_map R f xs zs a.1)

-- at a place
pub AllZip-at : {X Z : Type 0} (R : X → Z → Type 0) (xs : List X) (zs : List Z) (i : ℕ) (d : X) (e : Z)
    → AllZip R xs zs → i < length xs → R (get_or xs i d) (get_or zs i e)
AllZip-at R [] [] i d e a l = absurd (omega arith)
AllZip-at R [] (z ∷ zs) i d e a l = absurd a
AllZip-at R (x ∷ xs) [] i d e a l = absurd a
AllZip-at R (x ∷ xs) (z ∷ zs) zero d e a l = a.0
AllZip-at R (x ∷ xs) (z ∷ zs) (suc i) d e a l = AllZip-at R xs zs i d e a.1 (omega arith)

-- what follows from it place by place
pub AllZip-weaker : {X Z : Type 0} (R S : X → Z → Type 0) (xs : List X) (zs : List Z)
    → ((x : X) (z : Z) → R x z → S x z) → AllZip R xs zs → AllZip S xs zs
AllZip-weaker R S [] [] f a = tt
AllZip-weaker R S [] (z ∷ zs) f a = a
AllZip-weaker R S (x ∷ xs) [] f a = a
AllZip-weaker R S (x ∷ xs) (z ∷ zs) f a = (f x z a.0, AllZip-weaker R S xs zs f a.1)

-- what is left of a list behind so many elements: the first of it, and the rest
pub head-dropped : {X : Type 0} (n : ℕ) (xs : List X) (x : X) (rest : List X) → drop n xs ≡ x ∷ rest
    → get_or xs n x ≡ x
head-dropped n [] x rest e = (cc)
head-dropped zero (y ∷ ys) x rest e = (cc)
head-dropped (suc n) (y ∷ ys) x rest e = head-dropped n ys x rest e

pub drop-dropped : {X : Type 0} (n : ℕ) (xs : List X) (x : X) (rest : List X) → drop n xs ≡ x ∷ rest
    → drop (n + 1) xs ≡ rest
drop-dropped {X} n [] x rest e = absurd (omega (arith, ap length e, length-drop {A = X} n []))
drop-dropped zero (y ∷ ys) x rest e = ap (drop 1) e
drop-dropped (suc n) (y ∷ ys) x rest e =
    let s : suc n + 1 ≡ suc (n + 1) = omega arith in rw s (drop-dropped n ys x rest e)

-- a list that stands as another from a place on: what is at the place, and the rest
pub front-same : {X : Type 0} (n : ℕ) (xs ys : List X) (x : X) → drop n xs ≡ drop n ys → n < length xs
    → x ≡ get_or xs n x → drop n ys ≡ x ∷ drop (n + 1) xs
front-same n xs ys x e l f =
    sym e ∙ drop_more xs n x l ∙ ap (λ z. z ∷ drop (n + 1) xs) (sym f)

-- ---- the items of a query and of its order keys

-- what holds of both
all-of_both : (P : Item → Type 0) (q : Query) → AllByRecursion P q.items
    → AllByRecursion (λ (key : OrderKey). P key.item) q.order → All P (all_items q)
all-of_both P q a b =
    All-append P q.items (map (λ (key : OrderKey). key.item) q.order) (All-from_recursion P q.items a)
    (All-map P (λ (key : OrderKey). key.item) q.order
    (All-from_recursion (λ (key : OrderKey). P key.item) q.order b))

-- they fit
pub all_items-fit : (columns : List Kind) (q : Query) → FitsQuery columns q
    → All (FitsItem columns) (all_items q)
all_items-fit columns q f = all-of_both (FitsItem columns) q f.kinds.items f.kinds.order

-- where the query aggregates they are calls, or built of GROUP BY values
pub all_items-built : (columns : List Kind) (q : Query) → FitsQuery columns q → aggregates_rows q ≡ true
    → All (IsOfGroup q.groups) (all_items q)
all_items-built columns q f t = all-of_both (IsOfGroup q.groups) q (f.groups.items t) (f.groups.order t)

-- without GROUP BY what is no call is built of literals
pub all_items-literal : (columns : List Kind) (q : Query) → FitsQuery columns q → aggregates_rows q ≡ true
    → is_grouped q.groups ≡ false → All (IsOfGroup []) (all_items q)
all_items-literal columns q f t n =
    subst (λ keys. All (IsOfGroup keys) (all_items q)) (ungrouped q.groups n) (all_items-built columns q f t)
  where
    ungrouped : (exprs : List Expr) → is_grouped exprs ≡ false → exprs ≡ []
    ungrouped [] e = refl
    ungrouped (x ∷ xs) e = absurd (true≢false e)

-- the calls among them make the query aggregate
calls-of : {X : Type 0} (item : X → Item) (built : Item → Type 0) (b : Bool) (xs : List X)
    → (list_any (λ x. is_call (item x)) xs ≡ true → b ≡ true)
    → AllByRecursion (λ x. is_call (item x) ≡ true → b ≡ true) xs
calls-of item built b [] h = tt
calls-of item built b (x ∷ xs) h = (
  λ e. h (or_left (is_call (item x)) (list_any (λ x. is_call (item x)) xs) e),
  calls-of item built b xs (λ e. h (or_right (is_call (item x)) (list_any (λ x. is_call (item x)) xs) e)),
)

pub all_items-calls : (q : Query) → All (λ item. is_call item ≡ true → aggregates_rows q ≡ true) (all_items q)
all_items-calls q =
    let inner = list_any (λ (key : OrderKey). is_call key.item) q.order || is_grouped q.groups in
    all-of_both (λ item. is_call item ≡ true → aggregates_rows q ≡ true) q
    (calls-of (λ (item : Item). item) (IsOfGroup []) (aggregates_rows q) q.items
    (λ e. or_left (list_any is_call q.items) inner e))
    (calls-of (λ (key : OrderKey). key.item) (IsOfGroup []) (aggregates_rows q) q.order
    (λ e. or_right (list_any is_call q.items) inner
    (or_left (list_any (λ (key : OrderKey). is_call key.item) q.order) (is_grouped q.groups) e)))

-- each of them is an item of the query
pub all_items-of : (columns : List Kind) (q : Query) → FitsQuery columns q → All (IsItemOf q) (all_items q)
all_items-of columns q f = λ i d l. record {
  calls = all_items-calls q i d l;
  built = λ t. all_items-built columns q f t i d l;
}

-- ---- what is held

-- what is held has the form of its item
pub IsOfItem-IsSlot : (columns : List Kind) (groups : List (List Row)) (item : Item) (slot : Slot)
    → IsSlot columns groups item slot → IsOfItem columns (length groups) item slot
IsOfItem-IsSlot columns groups (Plain e) (First column) h =
    (h.0, ap length h.1 ∙ length-map groups _)
IsOfItem-IsSlot columns groups (Plain e) (States states) h = absurd h
IsOfItem-IsSlot columns groups (Agg call) (First column) h = absurd h
IsOfItem-IsSlot columns groups (Agg call) (States states) h =
    (h.agg, h.kind, sym (AllZip-long _ states.summaries (map _ groups) h.stand) ∙ length-map groups _)

-- the columns of the items, and then those of the order keys
pub columns-split : (columns : List Kind) (groups : List (List Row)) (q : Query) (cs : List KindedValues)
    → cs ≡ map (column_over columns groups) (all_items q)
    → (take (length q.items) cs ≡ map (column_over columns groups) q.items)
    × (drop (length q.items) cs ≡ map (λ (key : OrderKey). column_over columns groups key.item) q.order)
columns-split columns groups q cs e =
    (ap (take (length q.items)) e ∙ front q.items, ap (drop (length q.items)) e ∙ back q.items)
  where
    keys : List OrderKey → List KindedValues
    keys ks = map (λ (key : OrderKey). column_over columns groups key.item) ks

    tail : (ks : List OrderKey)
        → map (column_over columns groups) (map (λ (key : OrderKey). key.item) ks) ≡ keys ks
    tail [] = refl
    tail (key ∷ ks) = ap (λ cs. column_over columns groups key.item ∷ cs) (tail ks)

    front : (items : List Item)
        → take (length items)
        (map (column_over columns groups) (items ++ map (λ (key : OrderKey). key.item) q.order))
        ≡ map (column_over columns groups) items
    front [] = refl
    front (item ∷ items) = ap (λ cs. column_over columns groups item ∷ cs) (front items)

    back : (items : List Item)
        → drop (length items)
        (map (column_over columns groups) (items ++ map (λ (key : OrderKey). key.item) q.order))
        ≡ keys q.order
    back [] = tail q.order
    back (item ∷ items) = back items

-- the groups that are held are those of the query
pub HoldsGroups-permutation : (q : Query) (kept : List Row) (form : Form) (groups : List (List Row))
    → HoldsGroups q kept form groups → IsPermutation (groups_of q kept) groups
HoldsGroups-permutation q kept Each groups h =
    rw (h.0, h.1) (IsPermutation-refl (map (λ row. row ∷ []) kept))
HoldsGroups-permutation q kept One groups h =
    rw (h.0, h.1, h.2) (IsPermutation-refl (kept ∷ []))
HoldsGroups-permutation q kept (By keys) groups h =
    rw (h.0, h.1, h.3) (groups_in-permutation q.groups kept keys.keys h.2)

-- one column more
pub finished-more : (columns : List Kind) (groups : List (List Row)) (items : List Item) (slots : List Slot)
    (n : ℕ) (slot : Slot) (column : KindedValues) → n < length slots → All (FitsItem columns) items
    → AllZip (IsSlot columns groups) items slots → get_or slots n slot ≡ slot
    → ((item : Item) → FitsItem columns item → IsSlot columns groups item slot
    → column ≡ column_over columns groups item)
    → map (column_over columns groups) (take n items) ++ column ∷ []
    ≡ map (column_over columns groups) (take (n + 1) items)
finished-more columns groups [] [] n slot column l f a e h = absurd (omega (arith, l))
finished-more columns groups [] (s ∷ ss) n slot column l f a e h = absurd a
finished-more columns groups (item ∷ items) [] n slot column l f a e h = absurd a
finished-more columns groups (item ∷ items) (s ∷ ss) zero slot column l f a e h =
    ap (λ c. c ∷ [])
    (h item (All-head (FitsItem columns) item items f) (subst (IsSlot columns groups item) e a.0))
finished-more columns groups (item ∷ items) (s ∷ ss) (suc n) slot column l f a e h =
    let next : suc n + 1 ≡ suc (n + 1) = omega arith in
    rw next
    (ap (λ cs. column_over columns groups item ∷ cs)
    (finished-more columns groups items ss n slot column (omega (arith, l))
    (All-tail (FitsItem columns) item items f) a.1 e h))
