-- The groups of rows by their keys, with one row more.
use Rattle.std.proofs.Common.{◌≡◌, ◌≢◌, ℕ, ◌+◌, ◌-◌, ◌<◌, ◌≤◌, true, false, not, cond, eqb}
use Rattle.std.proofs.Common.{List, [], ◌∷◌, ◌++◌, length, map, get_or}
use Rattle.std.proofs.Common.{refl, sym, ap, ◌∙◌, arith}
use Rattle.std.specs.List.{All, range_with_len, position_or_len, IsDistinct}
use Rattle.std.proofs.lemmas.Bool.{ne_eqb, eq-eqb}
use Rattle.std.proofs.lemmas.List.{length-map, length_push, length-take, take_all, map-append, map-id}
use Rattle.std.proofs.lemmas.List.{take-append-le, get_or_append_left, get_or_push, get_or-map}
use Rattle.std.proofs.lemmas.List.Elements.{All-head, All-tail, All-weaker, All-push, All-nil}
use Rattle.std.proofs.lemmas.List.Elements.{All-from_get_or}
use Rattle.std.proofs.lemmas.List.Folds.{position_or_len_push, list_any_at, list_any_none}
use Rattle.std.proofs.lemmas.List.FromFn.{length-range_with_len, map-range_with_len_more}
use Rattle.std.proofs.lemmas.List.Sums.{passes_at_first, fails_before_first, position_or_len_is}
use Rattle.std.proofs.lemmas.List.Sums.{prefix_len-le-length}
use Rattle.std.proofs.lemmas.Map.Keys.{IsDistinct-push}
use Rattle.pj_answer.specs.Answers.{Row, same_row, has_row}
use Rattle.pj_answer.proofs.orders.ValueOrder.{same_row_decides}
use Rattle.pj_group.specs.declared.numbers.Numbers.{Numbers}
use Rattle.pj_group.specs.Keyed.{key_at, same_row_equivalence}
use Rattle.pj_group.specs.Numbers.{keys_of_rows, with_key, fresh, opening_of, AreNumbers}
use Rattle.pj_group.specs.declared.dense.Dense.{Dense}

-- ---- keys among others

-- a key that has a place is among them
pub has_row-within : (key : Row) (keys : List Row) → position_or_len (same_row key) keys < length keys
    → has_row key keys ≡ true
has_row-within key keys l =
    list_any_at (same_row key) keys (position_or_len (same_row key) keys) [] l
    (passes_at_first (same_row key) keys [] l)

-- and one that has none isn't
pub has_row-past : (key : Row) (keys : List Row) → position_or_len (same_row key) keys ≡ length keys
    → has_row key keys ≡ false
has_row-past key keys e =
    list_any_none (same_row key) keys
    (All-from_get_or (λ k. same_row key k ≡ false) keys []
    (λ i l. fails_before_first (same_row key) keys i [] (omega arith)))

-- the key at its place
get_or-position : (key : Row) (keys : List Row) → position_or_len (same_row key) keys < length keys
    → get_or keys (position_or_len (same_row key) keys) [] ≡ key
get_or-position key keys l =
    sym (same_row_decides.equal key (get_or keys (position_or_len (same_row key) keys) [])
    (passes_at_first (same_row key) keys [] l))

-- ---- the first of a group

-- one more row doesn't change which is the first of a group that has one
opening_of-push : (groups : List ℕ) (n group : ℕ) → opening_of groups group < length groups
    → opening_of (groups ++ n ∷ []) group ≡ opening_of groups group
opening_of-push groups n group l =
    position_or_len_push (λ n. eqb n group) groups n
    ∙ ap (λ b. cond b (length groups + cond (eqb n group) 0 1) (opening_of groups group))
    (ne_eqb (opening_of groups group) (length groups) (λ e. omega arith))

-- the first of a group that has none yet
opening_of-fresh : (groups : List ℕ) (n : ℕ) → All (λ m. m < n) groups
    → opening_of (groups ++ n ∷ []) n ≡ length groups
opening_of-fresh groups n a =
    position_or_len_is (λ m. eqb m n) (groups ++ n ∷ []) (length groups) 0
    (omega (arith, length_push groups n))
    (λ k l. rw (get_or_append_left groups (n ∷ []) 0 k l)
    (ne_eqb (get_or groups k 0) n (λ e. omega (arith, a k 0 l))))
    (λ l. rw (get_or_push groups n 0 (length groups) refl) (eq-eqb n n refl))

-- functions that agree at each element
map-agree : {X Y : Type 0} (f g : X → Y) (xs : List X) → All (λ x. f x ≡ g x) xs → map f xs ≡ map g xs
map-agree f g [] a = refl
map-agree f g (x ∷ xs) a =
    λ i. All-head (λ x. f x ≡ g x) x xs a i ∷ map-agree f g xs (All-tail (λ x. f x ≡ g x) x xs a) i

-- numbers from one on, one more
range_more-from : (a n : ℕ) → range_with_len a (n + 1) ≡ range_with_len a n ++ (a + n) ∷ []
range_more-from a n =
    sym (map-id (range_with_len a (n + 1))) ∙ map-range_with_len_more (λ k. k) a n (a + n) refl
    ∙ ap (λ ks. ks ++ (a + n) ∷ []) (map-id (range_with_len a n))

-- the keys of one row more
pub keys_of_rows-more : (columns : List Dense) (at : ℕ)
    → keys_of_rows columns (at + 1) ≡ keys_of_rows columns at ++ key_at columns at ∷ []
keys_of_rows-more columns at = map-range_with_len_more (key_at columns) 0 at at (omega arith)

-- ---- no rows

pub AreNumbers-none : (old : List Row) (held : Numbers) → IsDistinct same_row old → held.groups.items ≡ []
    → held.openings.items ≡ [] → AreNumbers old [] old held
AreNumbers-none old held d g o = record {
  kept = take_all (length old) old (omega arith);
  once = d;
  within = rw g (All-nil (λ n. n < length old));
  keys_are = rw g refl;
  openings_are =
      let none : length old - length old ≡ 0 = omega arith in
      rw (g, o, none) refl;
  opened = rw o (All-nil (λ at. at < 0));
}

module _ (old rows new : List Row) (held : Numbers) (h : AreNumbers old rows new held) where
  -- no key was taken away
  pub longer : length old ≤ length new
  longer = omega (arith, length-take (length old) new, ap length h.kept)

  -- each row has a number
  pub length-groups : length held.groups.items ≡ length rows
  length-groups = sym (length-map held.groups.items (λ n. get_or new n [])) ∙ ap length h.keys_are

  -- each new group is opened
  pub length-openings : length old + length held.openings.items ≡ length new
  length-openings =
      omega (
        arith,
        longer,
        ap length h.openings_are,
        length-map (fresh old new) (opening_of held.groups.items),
        length-range_with_len (length old) (length new - length old),
      )

  -- the first of each new group is one of the rows
  openings-within : All (λ group. opening_of held.groups.items group < length held.groups.items)
      (fresh old new)
  openings-within =
      All-from_get_or (λ group. opening_of held.groups.items group < length held.groups.items)
      (fresh old new) 0
      (λ k l.
      let f = opening_of held.groups.items in
      let m : k < length held.openings.items =
      omega (arith, ap length h.openings_are, length-map (fresh old new) f) in
      let e : get_or held.openings.items k 0 ≡ f (get_or (fresh old new) k 0) =
      ap (λ ps. get_or ps k 0) h.openings_are ∙ get_or-map f (fresh old new) k 0 0 l in
      omega (arith, e, h.opened k 0 m, length-groups))

  -- one more row doesn't change which rows open these groups
  openings-push : (n : ℕ)
      → map (opening_of (held.groups.items ++ n ∷ [])) (fresh old new) ≡ held.openings.items
  openings-push n =
      map-agree (opening_of (held.groups.items ++ n ∷ [])) (opening_of held.groups.items) (fresh old new)
      (All-weaker (λ group. opening_of held.groups.items group < length held.groups.items)
      (λ group. opening_of (held.groups.items ++ n ∷ []) group ≡ opening_of held.groups.items group)
      (λ group l. opening_of-push held.groups.items n group l) (fresh old new) openings-within)
      ∙ sym h.openings_are

  -- one row more, whose key is there
  pub AreNumbers-known : (key : Row) (next : Numbers) → position_or_len (same_row key) new < length new
      → next.groups.items ≡ held.groups.items ++ position_or_len (same_row key) new ∷ []
      → next.openings.items ≡ held.openings.items → AreNumbers old (rows ++ key ∷ []) new next
  AreNumbers-known key next l g o = record {
    kept = h.kept;
    once = h.once;
    within =
        rw g
        (All-push (λ n. n < length new) held.groups.items (position_or_len (same_row key) new) h.within l);
    keys_are =
        ap (map (λ n. get_or new n [])) g
        ∙ map-append (λ n. get_or new n []) held.groups.items (position_or_len (same_row key) new ∷ [])
        ∙ (λ i. h.keys_are i ++ get_or-position key new l i ∷ []);
    openings_are =
        o ∙ sym (openings-push (position_or_len (same_row key) new))
        ∙ ap (λ gs. map (opening_of gs) (fresh old new)) (sym g);
    opened =
        rw o (All-weaker (λ at. at < length rows) (λ at. at < length (rows ++ key ∷ []))
        (λ at m. omega (arith, m, length_push rows key)) held.openings.items h.opened);
  }

  -- one row more, whose key isn't there
  pub AreNumbers-new : (key : Row) (next : Numbers) → has_row key new ≡ false
      → next.groups.items ≡ held.groups.items ++ length new ∷ []
      → next.openings.items ≡ held.openings.items ++ length rows ∷ []
      → AreNumbers old (rows ++ key ∷ []) (new ++ key ∷ []) next
  AreNumbers-new key next n g o = record {
    kept = take-append-le (length old) new (key ∷ []) longer ∙ h.kept;
    once = IsDistinct-push same_row_equivalence new key h.once n;
    within =
        rw g (All-push (λ n. n < length (new ++ key ∷ [])) held.groups.items (length new)
        (All-weaker (λ n. n < length new) (λ n. n < length (new ++ key ∷ []))
        (λ k l. omega (arith, l, length_push new key)) held.groups.items h.within)
        (omega (arith, length_push new key)));
    keys_are =
        ap (map (λ n. get_or (new ++ key ∷ []) n [])) g
        ∙ map-append (λ n. get_or (new ++ key ∷ []) n []) held.groups.items (length new ∷ [])
        ∙ (λ i. (keys_stay ∙ h.keys_are) i ++ get_or_push new key [] (length new) refl i ∷ []);
    openings_are =
        o
        ∙ (λ i. sym (openings-push (length new)) i ++ (sym length-groups ∙ sym opens) i ∷ [])
        ∙ sym (map-append (opening_of (held.groups.items ++ length new ∷ [])) (fresh old new)
        (length new ∷ []))
        ∙ (λ i. map (opening_of (sym g i)) (sym fresh_more i));
    opened =
        rw o (All-push (λ at. at < length (rows ++ key ∷ [])) held.openings.items (length rows)
        (All-weaker (λ at. at < length rows) (λ at. at < length (rows ++ key ∷ []))
        (λ at m. omega (arith, m, length_push rows key)) held.openings.items h.opened)
        (omega (arith, length_push rows key)));
  }
    where
      keys_stay : map (λ n. get_or (new ++ key ∷ []) n []) held.groups.items
          ≡ map (λ n. get_or new n []) held.groups.items
      keys_stay =
          map-agree (λ n. get_or (new ++ key ∷ []) n []) (λ n. get_or new n []) held.groups.items
          (All-weaker (λ n. n < length new) (λ n. get_or (new ++ key ∷ []) n [] ≡ get_or new n [])
          (λ k l. get_or_append_left new (key ∷ []) [] k l) held.groups.items h.within)

      opens : opening_of (held.groups.items ++ length new ∷ []) (length new) ≡ length held.groups.items
      opens = opening_of-fresh held.groups.items (length new) h.within

      fresh_more : fresh old (new ++ key ∷ []) ≡ fresh old new ++ length new ∷ []
      fresh_more =
          let e : length (new ++ key ∷ []) - length old ≡ (length new - length old) + 1 =
          omega (arith, length_push new key, longer) in
          let f : length old + (length new - length old) ≡ length new = omega (arith, longer) in
          ap (range_with_len (length old)) e ∙ range_more-from (length old) (length new - length old)
          ∙ ap (λ n. fresh old new ++ n ∷ []) f

  -- one row more, whose key is counted where its number is the next
  pub AreNumbers-opens : (key : Row) (n at : ℕ) (more : List Row) (next : Numbers)
      → n ≡ position_or_len (same_row key) new → more ≡ with_key new key → n ≡ length new → at ≡ length rows
      → next.groups.items ≡ held.groups.items ++ n ∷ []
      → next.openings.items ≡ held.openings.items ++ at ∷ [] → AreNumbers old (rows ++ key ∷ []) more next
  AreNumbers-opens key n at more next p m e r g o =
      let none : has_row key new ≡ false = has_row-past key new (sym p ∙ e) in
      let all : more ≡ new ++ key ∷ [] = m ∙ ap (λ b. cond b new (new ++ key ∷ [])) none in
      rw all (AreNumbers-new key next none (g ∙ ap (λ k. held.groups.items ++ k ∷ []) e)
      (o ∙ ap (λ k. held.openings.items ++ k ∷ []) r))

  -- and is there otherwise
  pub AreNumbers-stays : (key : Row) (n : ℕ) (more : List Row) (next : Numbers)
      → n ≡ position_or_len (same_row key) new → more ≡ with_key new key → n ≢ length new
      → next.groups.items ≡ held.groups.items ++ n ∷ [] → next.openings.items ≡ held.openings.items
      → AreNumbers old (rows ++ key ∷ []) more next
  AreNumbers-stays key n more next p m e g o =
      let inside : position_or_len (same_row key) new < length new =
      omega (arith, p, e, prefix_len-le-length (λ k. not (same_row key k)) new) in
      let all : more ≡ new = m ∙ ap (λ b. cond b new (new ++ key ∷ [])) (has_row-within key new inside) in
      rw all (AreNumbers-known key next inside (g ∙ ap (λ k. held.groups.items ++ k ∷ []) p) o)
