-- Groups of rows by their keys, with further rows.
use Rattle.std.proofs.Common.{◌≡◌, ℕ, zero, suc, ◌+◌, ◌-◌, ◌<◌, ◌≤◌, Bool, true, false, not, cond, eqb, ◌||◌}
use Rattle.std.proofs.Common.{List, [], ◌∷◌, ◌++◌, length, map, get_or, take, drop, replicate}
use Rattle.std.proofs.Common.{◌⊎◌, inl, inr, ⊎_elim}
use Rattle.std.proofs.Common.{refl, sym, ap, ◌∙◌, subst, arith, true≢false}
use Rattle.std.specs.Cmp.{both_ways}
use Rattle.std.specs.List.{All, Any, filter, IsDistinct}
use Rattle.std.proofs.lemmas.Bool.{ne_eqb, eq-eqb, eqb-true, cases_lt, cases_eq, or_right}
use Rattle.std.proofs.lemmas.List.{length-map, length-append, length-replicate, map-append, take-append-drop}
use Rattle.std.proofs.lemmas.List.{get_or_append_left, get_or-append_right, get_or-map, get_or-take, same_lists}
use Rattle.std.proofs.lemmas.List.{get_or-replicate, get_or_default}
use Rattle.std.proofs.lemmas.List.Elements.{All-head, All-tail, All-from_get_or, filter-append}
use Rattle.std.proofs.lemmas.List.Folds.{list_any_at, list_any_none, list_any-append, Any-from_list_any}
use Rattle.std.proofs.lemmas.List.FromFn.{length-range_with_len, get_or-range_with_len}
use Rattle.std.proofs.lemmas.List.Sums.{passes_at_first}
use Rattle.std.proofs.lemmas.Map.Keys.{apart_from_distinct}
use Rattle.pj_expr.specs.declared.expr.Expr.{Expr}
use Rattle.pj_answer.specs.Answers.{Row, same_row, has_row, key_of, first_row}
use Rattle.pj_answer.proofs.orders.ValueOrder.{same_row_decides}
use Rattle.pj_group.specs.declared.numbers.Numbers.{Numbers}
use Rattle.pj_agg.specs.Groups.{values_of_group, added_from, added, grown}
use Rattle.pj_group.specs.Standing.{groups_in, AreKeys}
use Rattle.pj_group.specs.Keyed.{same_row_equivalence}
use Rattle.pj_group.specs.Numbers.{fresh, opening_of, AreNumbers}
use Rattle.pj_group.proofs.NumbersLemmas.{longer, length-groups, length-openings}

-- ---- what is added to groups

-- no group is made or lost
pub length-added_from : {X : Type 0} (first : ℕ) (groups : List (List X)) (ns : List ℕ) (xs : List X)
    → length (added_from first groups ns xs) ≡ length groups
length-added_from first [] ns xs = refl
length-added_from first (g ∷ groups) ns xs = ap suc (length-added_from (suc first) groups ns xs)

-- the group at an index
pub get_or-added_from : {X : Type 0} (first : ℕ) (groups : List (List X)) (ns : List ℕ) (xs : List X) (k : ℕ)
    (d e : List X) → k < length groups
    → get_or (added_from first groups ns xs) k d ≡ get_or groups k e ++ values_of_group (first + k) ns xs
get_or-added_from first [] ns xs k d e l = absurd (omega arith)
get_or-added_from first (g ∷ groups) ns xs zero d e l =
    let same : first ≡ first + 0 = omega arith in
    ap (λ n. g ++ values_of_group n ns xs) same
get_or-added_from first (g ∷ groups) ns xs (suc k) d e l =
    let next : suc first + k ≡ first + suc k = omega arith in
    get_or-added_from (suc first) groups ns xs k d e (omega arith)
    ∙ ap (λ n. get_or groups k e ++ values_of_group n ns xs) next

-- all rows are of the first group where each number is 0
values_of_group-one : {X : Type 0} (xs : List X) → values_of_group 0 (replicate (length xs) 0) xs ≡ xs
values_of_group-one [] = refl
values_of_group-one (x ∷ xs) = ap (λ ys. x ∷ ys) (values_of_group-one xs)

-- and stand behind those that it has
pub added-one : {X : Type 0} (kept more : List X)
    → added (kept ∷ []) (replicate (length more) 0) more ≡ (kept ++ more) ∷ []
added-one kept more = ap (λ xs. (kept ++ xs) ∷ []) (values_of_group-one more)

-- ---- a function of each element

values_of_group-map : {X Y : Type 0} (f : X → Y) (group : ℕ) (ns : List ℕ) (xs : List X)
    → map f (values_of_group group ns xs) ≡ values_of_group group ns (map f xs)
values_of_group-map f group [] xs = refl
values_of_group-map f group (n ∷ ns) [] = refl
values_of_group-map f group (n ∷ ns) (x ∷ xs) = by (eqb n group) (values_of_group-map f group ns xs)
  where
    by : (b : Bool) → map f (values_of_group group ns xs) ≡ values_of_group group ns (map f xs)
        → map f (cond b (x ∷ values_of_group group ns xs) (values_of_group group ns xs))
        ≡ cond b (f x ∷ values_of_group group ns (map f xs)) (values_of_group group ns (map f xs))
    by true e = ap (λ ys. f x ∷ ys) e
    by false e = e

added_from-map : {X Y : Type 0} (f : X → Y) (first : ℕ) (groups : List (List X)) (ns : List ℕ) (xs : List X)
    → map (map f) (added_from first groups ns xs) ≡ added_from first (map (map f) groups) ns (map f xs)
added_from-map f first [] ns xs = refl
added_from-map f first (g ∷ groups) ns xs =
    λ i. (map-append f g (values_of_group first ns xs)
    ∙ ap (λ ys. map f g ++ ys) (values_of_group-map f first ns xs)) i
    ∷ added_from-map f (suc first) groups ns xs i

-- of what was added
pub added-map : {X Y : Type 0} (f : X → Y) (groups : List (List X)) (ns : List ℕ) (xs : List X)
    → map (map f) (added groups ns xs) ≡ added (map (map f) groups) ns (map f xs)
added-map f groups ns xs = added_from-map f 0 groups ns xs

replicate-map : {X Y : Type 0} (f : X → Y) (n : ℕ) → map (map f) (replicate n []) ≡ replicate n []
replicate-map f zero = refl
replicate-map f (suc n) = ap (λ gs. [] ∷ gs) (replicate-map f n)

-- of groups, and of groups without any
pub append-replicate-map : {X Y : Type 0} (f : X → Y) (groups : List (List X)) (n : ℕ)
    → map (map f) (groups ++ replicate n []) ≡ map (map f) groups ++ replicate n []
append-replicate-map f groups n =
    map-append (map f) groups (replicate n []) ∙ ap (λ gs. map (map f) groups ++ gs) (replicate-map f n)

pub grown-map : {X Y : Type 0} (f : X → Y) (groups : List (List X)) (len : ℕ)
    → map (map f) (grown groups len) ≡ grown (map (map f) groups) len
grown-map f groups len =
    append-replicate-map f groups (len - length groups)
    ∙ ap (λ n. map (map f) groups ++ replicate (len - n) []) (sym (length-map groups (map f)))

-- ---- keys by their indexes

-- two of distinct keys are the same where their indexes are
same_row-indexes : (keys : List Row) (i n : ℕ) → IsDistinct same_row keys → i < length keys → n < length keys
    → same_row (get_or keys i []) (get_or keys n []) ≡ eqb n i
same_row-indexes keys i n d l m = by (cases_eq n i) (cases_lt i n)
  where
    by : (n ≡ i) ⊎ (n ≡ i → ⊥) → (i < n) ⊎ (n ≤ i) → same_row (get_or keys i []) (get_or keys n []) ≡ eqb n i
    by (inl e) c =
        ap (λ k. same_row (get_or keys i []) (get_or keys k [])) e
        ∙ same_row_decides.itself (get_or keys i []) ∙ sym (eq-eqb n i e)
    by (inr ne) (inl b) = apart_from_distinct same_row keys i n [] d b m ∙ sym (ne_eqb n i ne)
    by (inr ne) (inr b) =
        let c : n < i = omega arith in
        same_row_equivalence.symm (get_or keys i []) (get_or keys n [])
        ∙ apart_from_distinct same_row keys n i [] d c l ∙ sym (ne_eqb n i ne)

-- neither test holds
neither : (a b : Bool) → (a || b) ≡ false → (a ≡ false) × (b ≡ false)
neither true b e = absurd (true≢false e)
neither false b e = (refl, e)

either : (a b : Bool) → (a || b) ≡ true → (a ≡ true) ⊎ (b ≡ true)
either true b e = inl refl
either false b e = inr e

-- a key that isn't among those of rows has none of them
rows-absent : (exprs : List Expr) (key : Row) (rows : List Row)
    → has_row key (map (key_of exprs) rows) ≡ false
    → filter (λ row. same_row key (key_of exprs row)) rows ≡ []
rows-absent exprs key [] e = refl
rows-absent exprs key (row ∷ rows) e =
    let b = neither (same_row key (key_of exprs row)) (has_row key (map (key_of exprs) rows)) e in
    let rest = filter (λ row. same_row key (key_of exprs row)) rows in
    ap (λ t. cond t (row ∷ rest) rest) b.0 ∙ rows-absent exprs key rows b.1

-- the first of the rows of a key that is among theirs isn't changed by rows behind them
first_row-append : (exprs : List Expr) (key : Row) (rows more : List Row)
    → has_row key (map (key_of exprs) rows) ≡ true
    → first_row (filter (λ row. same_row key (key_of exprs row)) rows ++ more)
    ≡ first_row (filter (λ row. same_row key (key_of exprs row)) rows)
first_row-append exprs key [] more e = absurd (true≢false (sym e))
first_row-append exprs key (row ∷ rows) more e =
    by (same_row key (key_of exprs row)) e (first_row-append exprs key rows more)
  where
    rest : List Row
    rest = filter (λ row. same_row key (key_of exprs row)) rows

    by : (b : Bool) → (b || has_row key (map (key_of exprs) rows)) ≡ true
        → (has_row key (map (key_of exprs) rows) ≡ true → first_row (rest ++ more) ≡ first_row rest)
        → first_row (cond b (row ∷ rest) rest ++ more) ≡ first_row (cond b (row ∷ rest) rest)
    by true f h = refl
    by false f h = h f

-- the rows of the key at an index are those whose number it is
rows-numbered : (exprs : List Expr) (keys : List Row) (i : ℕ) (ns : List ℕ) (rows : List Row)
    → IsDistinct same_row keys → i < length keys → All (λ n. n < length keys) ns
    → map (λ n. get_or keys n []) ns ≡ map (key_of exprs) rows
    → filter (λ row. same_row (get_or keys i []) (key_of exprs row)) rows ≡ values_of_group i ns rows
rows-numbered exprs keys i [] [] d l a e = refl
rows-numbered exprs keys i [] (row ∷ rows) d l a e = (cc)
rows-numbered exprs keys i (n ∷ ns) [] d l a e = (cc)
rows-numbered exprs keys i (n ∷ ns) (row ∷ rows) d l a e =
    let key : get_or keys n [] ≡ key_of exprs row = (cc) in
    let others : map (λ n. get_or keys n []) ns ≡ map (key_of exprs) rows = (cc) in
    let here = All-head (λ n. n < length keys) n ns a in
    let rest = rows-numbered exprs keys i ns rows d l (All-tail (λ n. n < length keys) n ns a) others in
    λ j. cond ((ap (same_row (get_or keys i [])) (sym key) ∙ same_row-indexes keys i n d l here) j)
    (row ∷ rest j) (rest j)

-- the first of the values of a group
first_row-values : (i : ℕ) (ns : List ℕ) (rows : List Row) → length ns ≡ length rows
    → first_row (values_of_group i ns rows) ≡ get_or rows (opening_of ns i) []
first_row-values i [] [] l = refl
first_row-values i [] (row ∷ rows) l = absurd (omega arith)
first_row-values i (n ∷ ns) [] l = absurd (omega arith)
first_row-values i (n ∷ ns) (row ∷ rows) l = by (eqb n i) (first_row-values i ns rows (omega arith))
  where
    by : (b : Bool) → first_row (values_of_group i ns rows) ≡ get_or rows (opening_of ns i) []
        → first_row (cond b (row ∷ values_of_group i ns rows) (values_of_group i ns rows))
        ≡ get_or (row ∷ rows) (cond (not b) (1 + opening_of ns i) 0) []
    by true e = refl
    by false e =
        let next : 1 + opening_of ns i ≡ suc (opening_of ns i) = omega arith in
        e ∙ ap (λ k. get_or (row ∷ rows) k []) (sym next)

-- ---- further rows

module _ (exprs : List Expr) (kept more old new : List Row) (numbers : Numbers)
    (n : AreNumbers old (map (key_of exprs) more) new numbers) (a : AreKeys exprs kept old) where
  -- the rows of a key
  abbrev of_key : Row → List Row → List Row
  of_key key rows = filter (λ row. same_row key (key_of exprs row)) rows

  -- a key that was there is in its place
  old-key : (i : ℕ) → i < length old → get_or old i [] ≡ get_or new i []
  old-key i l =
      sym (ap (λ ks. get_or ks i []) n.kept) ∙ get_or-take (length old) new i [] l

  -- the key of a group that was there is one of the rows'
  old-has : (i : ℕ) → i < length old → has_row (get_or new i []) (map (key_of exprs) kept) ≡ true
  old-has i l =
      sym (a.each (get_or new i []))
      ∙ list_any_at (same_row (get_or new i [])) old i [] l
      (ap (same_row (get_or new i [])) (old-key i l) ∙ same_row_decides.itself (get_or new i []))

  -- the key of a new group is none of them
  new-absent : (i : ℕ) → length old ≤ i → i < length new
      → has_row (get_or new i []) (map (key_of exprs) kept) ≡ false
  new-absent i l m =
      sym (a.each (get_or new i []))
      ∙ list_any_none (same_row (get_or new i [])) old
      (All-from_get_or (λ k. same_row (get_or new i []) k ≡ false) old []
      (λ j b.
      let c : j < length new = omega arith in
      ap (same_row (get_or new i [])) (old-key j b) ∙ same_row-indexes new i j n.once m c
      ∙ ne_eqb j i (λ e. omega arith)))

  -- the further rows of a key
  more-rows : (i : ℕ) → i < length new
      → of_key (get_or new i []) more ≡ values_of_group i numbers.groups.items more
  more-rows i l = rows-numbered exprs new i numbers.groups.items more n.once l n.within n.keys_are

  -- the groups that were there, and the new ones without rows
  abbrev before : List (List Row)
  before = groups_in exprs old kept ++ replicate (length new - length old) []

  length-before : length before ≡ length new
  length-before =
      omega (
        arith,
        longer old (map (key_of exprs) more) new numbers n,
        length-append (groups_in exprs old kept) (replicate (length new - length old) []),
        length-map old (λ key. of_key key kept),
        length-replicate {A = List Row} (length new - length old) [],
      )

  -- the rows that a group had
  get_or-before : (i : ℕ) → i < length new → get_or before i [] ≡ of_key (get_or new i []) kept
  get_or-before i l = by (cases_lt i (length old))
    where
      many : length (groups_in exprs old kept) ≡ length old
      many = length-map old (λ key. of_key key kept)

      by : (i < length old) ⊎ (length old ≤ i) → get_or before i [] ≡ of_key (get_or new i []) kept
      by (inl b) =
          get_or_append_left (groups_in exprs old kept) (replicate (length new - length old) []) [] i
          (omega (arith, many, b))
          ∙ get_or-map (λ key. of_key key kept) old i [] [] b
          ∙ ap (λ key. of_key key kept) (old-key i b)
      by (inr b) =
          get_or-append_right (groups_in exprs old kept) (replicate (length new - length old) []) (length old)
          i []
          many b
          ∙ get_or-replicate (length new - length old) (i - length old) [] [] (omega arith)
          ∙ sym (rows-absent exprs (get_or new i []) kept (new-absent i b l))

  -- the rows of a group, and those that it had
  get_or-groups : (i : ℕ) (d : List Row) → i < length new
      → get_or (groups_in exprs new (kept ++ more)) i d
      ≡ of_key (get_or new i []) kept ++ values_of_group i numbers.groups.items more
  get_or-groups i d l =
      get_or-map (λ key. of_key key (kept ++ more)) new i [] d l
      ∙ filter-append (λ row. same_row (get_or new i []) (key_of exprs row)) kept more
      ∙ ap (λ rows. of_key (get_or new i []) kept ++ rows) (more-rows i l)

  -- the groups of all rows are those of the rows that were there, with the others behind
  pub groups_in-added : groups_in exprs new (kept ++ more) ≡ added before numbers.groups.items more
  groups_in-added =
      same_lists (groups_in exprs new (kept ++ more)) (added before numbers.groups.items more)
      (length-map new (λ key. of_key key (kept ++ more)) ∙ sym length-before
      ∙ sym (length-added_from 0 before numbers.groups.items more))
      (λ i d l.
      let b : i < length new = omega (arith, length-map new (λ key. of_key key (kept ++ more)), l) in
      let c : i < length before = omega (arith, length-before) in
      let at : 0 + i ≡ i = omega arith in
      get_or-groups i d b
      ∙ (λ j. sym (get_or-before i b) j ++ values_of_group (sym at j) numbers.groups.items more)
      ∙ sym (get_or-added_from 0 before numbers.groups.items more i d [] c))

  -- the same, where it is said how many groups there are in the end
  pub groups_in-grown : groups_in exprs new (kept ++ more)
      ≡ added (grown (groups_in exprs old kept) (length new)) numbers.groups.items more
  groups_in-grown =
      groups_in-added
      ∙ ap (λ m. added (groups_in exprs old kept ++ replicate (length new - m) []) numbers.groups.items more)
      (sym (length-map old (λ key. of_key key kept)))

  -- ---- the keys

  -- the key of a further row stands among the new keys
  has-more : (key : Row) → has_row key (map (key_of exprs) more) ≡ true → has_row key new ≡ true
  has-more key h = by (Any-from_list_any (same_row key) (map (key_of exprs) more) h)
    where
      by : Any (λ k. same_row key k ≡ true) (map (key_of exprs) more) → has_row key new ≡ true
      by (i, k, l, at, same) =
          let ns = numbers.groups.items in
          let long : i < length ns =
          omega (arith, l, length-groups old (map (key_of exprs) more) new numbers n) in
          let here : get_or new (get_or ns i 0) [] ≡ k =
          sym (get_or-map (λ n. get_or new n []) ns i 0 k long) ∙ ap (λ ks. get_or ks i k) n.keys_are
          ∙ at in
          list_any_at (same_row key) new (get_or ns i 0) [] (n.within i 0 long) (ap (same_row key) here ∙ same)

  -- each key that was there still is
  has-old : (key : Row) → has_row key old ≡ true → has_row key new ≡ true
  has-old key h =
      ap (has_row key) (sym (take-append-drop (length old) new))
      ∙ list_any-append (same_row key) (take (length old) new) (drop (length old) new)
      ∙ ap (λ b. b || has_row key (drop (length old) new)) (ap (has_row key) n.kept ∙ h)

  -- the row that opens a new group
  opens : (i : ℕ) → length old ≤ i → i < length new
      → get_or numbers.openings.items (i - length old) 0 ≡ opening_of numbers.groups.items i
  opens i l m =
      let ns = numbers.groups.items in
      let k : i - length old < length new - length old = omega arith in
      let back : length old + (i - length old) ≡ i = omega arith in
      let f : i - length old < length (fresh old new) =
      omega (arith, k, length-range_with_len (length old) (length new - length old)) in
      ap (λ ps. get_or ps (i - length old) 0) n.openings_are
      ∙ get_or-map (opening_of ns) (fresh old new) (i - length old) 0 0 f
      ∙ ap (opening_of ns)
      (get_or-range_with_len (length old) (length new - length old) (i - length old) 0 k ∙ back)

  -- a new key is that of a further row
  new-has : (i : ℕ) → length old ≤ i → i < length new
      → has_row (get_or new i []) (map (key_of exprs) more) ≡ true
  new-has i l m =
      list_any_at (same_row (get_or new i [])) (map (key_of exprs) more) p [] within
      (ap (same_row (get_or new i [])) (sym at) ∙ same_row_decides.itself (get_or new i []))
    where
      ns : List ℕ
      ns = numbers.groups.items

      p : ℕ
      p = opening_of ns i

      within : opening_of ns i < length (map (key_of exprs) more)
      within =
          let b : i - length old < length numbers.openings.items =
          omega (arith, length-openings old (map (key_of exprs) more) new numbers n, l, m) in
          omega (arith, opens i l m, n.opened (i - length old) 0 b)

      at : get_or new i [] ≡ get_or (map (key_of exprs) more) p []
      at =
          let long : opening_of ns i < length ns =
          omega (arith, within, length-groups old (map (key_of exprs) more) new numbers n) in
          ap (λ k. get_or new k [])
          (sym (eqb-true (get_or ns p 0) i (passes_at_first (λ n. eqb n i) ns 0 long)))
          ∙ sym (get_or-map (λ n. get_or new n []) ns p 0 [] long)
          ∙ ap (λ ks. get_or ks p []) n.keys_are

  -- the keys of all rows are the keys
  pub AreKeys-more : AreKeys exprs (kept ++ more) new
  AreKeys-more = record { once = n.once; each = each }
    where
      apart : (key : Row) → has_row key (map (key_of exprs) (kept ++ more))
          ≡ (has_row key (map (key_of exprs) kept) || has_row key (map (key_of exprs) more))
      apart key =
          ap (has_row key) (map-append (key_of exprs) kept more)
          ∙ list_any-append (same_row key) (map (key_of exprs) kept) (map (key_of exprs) more)

      there : (key : Row) → has_row key new ≡ true → has_row key (map (key_of exprs) (kept ++ more)) ≡ true
      there key h = by (Any-from_list_any (same_row key) new h)
        where
          same : (i : ℕ) (k : Row) → get_or new i k ≡ k → i < length new → same_row key k ≡ true
              → get_or new i [] ≡ key
          same i k at l e =
              get_or_default new i [] k l ∙ at ∙ sym (same_row_decides.equal key k e)

          by : Any (λ k. same_row key k ≡ true) new → has_row key (map (key_of exprs) (kept ++ more)) ≡ true
          by (i, k, l, at, e) =
              let here : get_or new i [] ≡ key = same i k at l e in
              apart key
              ∙ ⊎_elim
              (λ b. ap (λ c. c || has_row key (map (key_of exprs) more))
              (subst (λ r. has_row r (map (key_of exprs) kept) ≡ true) here (old-has i b)))
              (λ b. or_right (has_row key (map (key_of exprs) kept)) (has_row key (map (key_of exprs) more))
              (subst (λ r. has_row r (map (key_of exprs) more) ≡ true) here (new-has i b l)))
              (cases_lt i (length old))

      back : (key : Row) → has_row key (map (key_of exprs) (kept ++ more)) ≡ true → has_row key new ≡ true
      back key h =
          ⊎_elim (λ e. has-old key (a.each key ∙ e)) (λ e. has-more key e)
          (either (has_row key (map (key_of exprs) kept)) (has_row key (map (key_of exprs) more))
          (sym (apart key) ∙ h))

      each : (key : Row) → has_row key new ≡ has_row key (map (key_of exprs) (kept ++ more))
      each key =
          both_ways (has_row key new) (has_row key (map (key_of exprs) (kept ++ more))) (there key) (back key)

  -- ---- first rows

  module _ {Y : Type 0} (f : Row → Y) where
    -- of a group
    abbrev of_first : List Row → Y
    of_first group = f (first_row group)

    -- of the groups that were there, and of the rows that open the new ones
    abbrev firsts : List Y
    firsts =
        map of_first (groups_in exprs old kept)
        ++ map (λ at. f (get_or more at [])) numbers.openings.items

    length-firsts : length firsts ≡ length new
    length-firsts =
        omega (
          arith,
          length-openings old (map (key_of exprs) more) new numbers n,
          length-append (map of_first (groups_in exprs old kept))
              (map (λ at. f (get_or more at [])) numbers.openings.items),
          length-map (groups_in exprs old kept) of_first,
          length-map old (λ key. of_key key kept),
          length-map numbers.openings.items (λ at. f (get_or more at [])),
        )

    -- what is of the first row of a group, by its index
    get_or-first : (i : ℕ) (d : Y) → i < length new
        → of_first (get_or (groups_in exprs new (kept ++ more)) i []) ≡ get_or firsts i d
    get_or-first i d l = by (cases_lt i (length old))
      where
        many : length (map of_first (groups_in exprs old kept)) ≡ length old
        many = length-map (groups_in exprs old kept) of_first ∙ length-map old (λ key. of_key key kept)

        by : (i < length old) ⊎ (length old ≤ i)
            → of_first (get_or (groups_in exprs new (kept ++ more)) i []) ≡ get_or firsts i d
        by (inl b) =
            let c : i < length (groups_in exprs old kept) =
            omega (arith, length-map old (λ key. of_key key kept), b) in
            ap of_first (get_or-groups i [] l)
            ∙ ap f (first_row-append exprs (get_or new i []) kept
            (values_of_group i numbers.groups.items more)
            (old-has i b))
            ∙ ap (λ key. of_first (of_key key kept)) (sym (old-key i b))
            ∙ ap of_first (sym (get_or-map (λ key. of_key key kept) old i [] [] b))
            ∙ sym (get_or-map of_first (groups_in exprs old kept) i [] d c)
            ∙ sym (get_or_append_left (map of_first (groups_in exprs old kept))
            (map (λ at. f (get_or more at [])) numbers.openings.items) d i (omega (arith, many, b)))
        by (inr b) =
            let c : i - length old < length numbers.openings.items =
            omega (arith, length-openings old (map (key_of exprs) more) new numbers n, b, l) in
            let long : length numbers.groups.items ≡ length more =
            length-groups old (map (key_of exprs) more) new numbers n ∙ length-map more (key_of exprs) in
            ap of_first (get_or-groups i [] l)
            ∙ ap (λ rows. of_first (rows ++ values_of_group i numbers.groups.items more))
            (rows-absent exprs (get_or new i []) kept (new-absent i b l))
            ∙ ap f (first_row-values i numbers.groups.items more long)
            ∙ ap (λ at. f (get_or more at [])) (sym (opens i b l))
            ∙ sym (get_or-map (λ at. f (get_or more at [])) numbers.openings.items (i - length old) 0 d c)
            ∙ sym (get_or-append_right (map of_first (groups_in exprs old kept))
            (map (λ at. f (get_or more at [])) numbers.openings.items) (length old) i d many b)

    -- the first rows of the groups of all rows
    pub first_rows-more : map of_first (groups_in exprs new (kept ++ more)) ≡ firsts
    first_rows-more =
        same_lists (map of_first (groups_in exprs new (kept ++ more))) firsts
        (length-map (groups_in exprs new (kept ++ more)) of_first
        ∙ length-map new (λ key. of_key key (kept ++ more)) ∙ sym length-firsts)
        (λ i d l.
        let g : i < length (groups_in exprs new (kept ++ more)) =
        omega (arith, length-map (groups_in exprs new (kept ++ more)) of_first, l) in
        let b : i < length new = omega (arith, length-map new (λ key. of_key key (kept ++ more)), g) in
        get_or-map of_first (groups_in exprs new (kept ++ more)) i [] d g ∙ get_or-first i d b)
