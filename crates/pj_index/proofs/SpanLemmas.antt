-- The selected granules as a span.
use Rattle.std.proofs.Common.{◌≡◌, ℕ, zero, suc, ◌+◌, ◌-◌, ◌<◌, ◌≤◌, Bool, true, false, [], ◌++◌, length}
use Rattle.std.proofs.Common.{refl, ap, sym, ◌∙◌, arith, append-nil, subst, ⊎_elim}
use Rattle.std.specs.Prelude.{filter, not, ◌&&◌}
use Rattle.std.specs.List.{range_with_len}
use Rattle.std.proofs.lemmas.Bool.{cases_lt}
use Rattle.std.proofs.lemmas.List.Elements.{filter-append}
use Rattle.pj_index.specs.declared.keys.KeyMarks.{KeyMarks}
use Rattle.pj_index.specs.declared.keys.KeyRange.{KeyRange}
use Rattle.pj_index.specs.declared.keys.Span.{Span}
use Rattle.pj_index.specs.Selection.{is_above, is_below, first_of, end_of, is_selected, selected, IsSpanOf, NeverFalls}
use Rattle.pj_index.specs.Splits.{Falls, SplitsAt}
use Rattle.pj_index.proofs.SelectionLemmas.{Falls-ends, Falls-begins}

-- ---- a test that holds between two numbers alone

range-split : (a m n b k : ℕ) → a + m ≡ b → m + n ≡ k
    → range_with_len a k ≡ range_with_len a m ++ range_with_len b n
range-split a zero n b k e f =
    let g : k ≡ n = omega arith in let h : b ≡ a = omega arith in rw (g, h) refl
range-split a (suc m) n b k e f =
    let g : k ≡ suc (m + n) = omega arith in
    rw (g, range-split (a + 1) m n b (m + n) (omega arith) refl) refl

filter-all : (test : ℕ → Bool) (a n : ℕ) → ((i : ℕ) → a ≤ i → i < a + n → test i ≡ true)
    → filter test (range_with_len a n) ≡ range_with_len a n
filter-all test a zero h = refl
filter-all test a (suc n) h =
    let first : test a ≡ true = h a (omega arith) (omega arith) in
    rw (first, filter-all test (a + 1) n (λ i l m. h i (omega arith) (omega arith))) refl

filter-none : (test : ℕ → Bool) (a n : ℕ) → ((i : ℕ) → a ≤ i → i < a + n → test i ≡ false)
    → filter test (range_with_len a n) ≡ []
filter-none test a zero h = refl
filter-none test a (suc n) h =
    let first : test a ≡ false = h a (omega arith) (omega arith) in
    rw first (filter-none test (a + 1) n (λ i l m. h i (omega arith) (omega arith)))

pub filter-between : (test : ℕ → Bool) (n from to : ℕ) → from ≤ to → to ≤ n
    → ((i : ℕ) → i < from → test i ≡ false) → ((i : ℕ) → from ≤ i → i < to → test i ≡ true)
    → ((i : ℕ) → to ≤ i → i < n → test i ≡ false)
    → filter test (range_with_len 0 n) ≡ range_with_len from (to - from)
filter-between test n from to l m before between behind =
    ap (filter test) (range-split 0 from (n - from) from n (omega arith) (omega arith))
    ∙ filter-append test (range_with_len 0 from) (range_with_len from (n - from))
    ∙ ap (λ xs. xs ++ filter test (range_with_len from (n - from)))
    (filter-none test 0 from (λ i g h. before i (omega arith)))
    ∙ ap (filter test) (range-split from (to - from) (n - to) to (n - from) (omega arith) (omega arith))
    ∙ filter-append test (range_with_len from (to - from)) (range_with_len to (n - to))
    ∙ rw (
      filter-all test from (to - from) (λ i g h. between i (omega arith) (omega arith)),
      filter-none test to (n - to) (λ i g h. behind i (omega arith) (omega arith)),
    )
    (append-nil (range_with_len from (to - from)))

-- ---- the granules between the two splits

-- the first granule that doesn't end below the range, and the first that begins above it
pub record AreSplits (marks : KeyMarks) (range : KeyRange) (from to : ℕ) : Type 0 where
  pub low : SplitsAt (λ granule. is_below range.low (end_of marks granule)) (length marks.firsts.rows) from
  pub high : SplitsAt (λ granule. not (is_above range.high (first_of marks granule)))
      (length marks.firsts.rows) to

and_false : (a : Bool) → (a && false) ≡ false
and_false true = refl
and_false false = refl

before_low : (marks : KeyMarks) (range : KeyRange) (from to : ℕ) → AreSplits marks range from to
    → (granule : ℕ) → granule < from → is_selected marks range granule ≡ false
before_low marks range from to s granule l =
    rw (s.low.before granule l) (and_false (not (is_above range.high (first_of marks granule))))

behind_high : (marks : KeyMarks) (range : KeyRange) (from to : ℕ) → AreSplits marks range from to
    → (granule : ℕ) → to ≤ granule → granule < length marks.firsts.rows
    → is_selected marks range granule ≡ false
behind_high marks range from to s granule l m = rw (s.high.behind granule l m) refl

between_them : (marks : KeyMarks) (range : KeyRange) (from to : ℕ) → AreSplits marks range from to
    → (granule : ℕ) → from ≤ granule → granule < to → is_selected marks range granule ≡ true
between_them marks range from to s granule l m =
    rw (s.high.before granule m, s.low.behind granule l (omega (arith, s.high.within))) refl

-- those between them
pub selected-between : (marks : KeyMarks) (range : KeyRange) (from to : ℕ) → AreSplits marks range from to
    → from ≤ to → selected marks range ≡ range_with_len from (to - from)
selected-between marks range from to s l =
    filter-between (is_selected marks range) (length marks.firsts.rows) from to l s.high.within
    (before_low marks range from to s) (between_them marks range from to s)
    (behind_high marks range from to s)

-- and none where no granule stands between them
pub selected-none : (marks : KeyMarks) (range : KeyRange) (from to : ℕ) → AreSplits marks range from to
    → to ≤ from → selected marks range ≡ []
selected-none marks range from to s l =
    filter-none (is_selected marks range) 0 (length marks.firsts.rows)
    (λ granule g h. ⊎_elim (before_low marks range from to s granule)
    (λ k. behind_high marks range from to s granule (omega arith) (omega arith)) (cases_lt granule from))

-- ---- the span

IsSpanOf-some : (marks : KeyMarks) (range : KeyRange) (from to : ℕ) → AreSplits marks range from to
    → from < to → IsSpanOf (selected marks range) record { from = from; to = to }
IsSpanOf-some marks range from to s l =
    record {
      ordered = omega arith;
      are = sym (selected-between marks range from to s (omega arith));
      empty = λ e. absurd (omega arith);
    }

IsSpanOf-none : (marks : KeyMarks) (range : KeyRange) (from to : ℕ) → AreSplits marks range from to
    → to ≤ from → IsSpanOf (selected marks range) record { from = 0; to = 0 }
IsSpanOf-none marks range from to s l =
    record {
      ordered = omega arith;
      are = sym (selected-none marks range from to s l);
      empty = λ e. refl;
    }

-- the granules between the splits are those that are selected
pub IsSpanOf-splits : (marks : KeyMarks) (range : KeyRange) (from to : ℕ) (span : Span)
    → AreSplits marks range from to
    → (from < to → span ≡ record { from = from; to = to })
    → (to ≤ from → span ≡ record { from = 0; to = 0 })
    → IsSpanOf (selected marks range) span
IsSpanOf-splits marks range from to span s some none =
    ⊎_elim
    (λ l. subst (IsSpanOf (selected marks range)) (sym (some l)) (IsSpanOf-some marks range from to s l))
    (λ l. subst (IsSpanOf (selected marks range)) (sym (none l)) (IsSpanOf-none marks range from to s l))
    (cases_lt from to)

-- of tests that hold of a granule only where they hold of those before it
pub AreSplits-from : (marks : KeyMarks) (range : KeyRange) (len from to : ℕ) → NeverFalls marks
    → len ≡ length marks.firsts.rows
    → (Falls (λ granule. is_below range.low (end_of marks granule)) len
    → SplitsAt (λ granule. is_below range.low (end_of marks granule)) len from)
    → (Falls (λ granule. not (is_above range.high (first_of marks granule))) len
    → SplitsAt (λ granule. not (is_above range.high (first_of marks granule))) len to)
    → AreSplits marks range from to
AreSplits-from marks range len from to n e f g =
    record {
      low = rw e at (f (rw e (Falls-ends marks range.low n)));
      high = rw e at (g (rw e (Falls-begins marks range.high n)));
    }
