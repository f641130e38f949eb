-- Which granules are selected.
use Rattle.std.proofs.Common.{◌≡◌, ℕ, ◌+◌, ◌<◌, ◌≤◌, Bool, true, false, List, [], length}
use Rattle.std.proofs.Common.{refl, ap, arith, ⊎_elim}
use Rattle.std.specs.Prelude.{not, ◌&&◌}
use Rattle.std.specs.Ordering.{is_gt}
use Rattle.std.proofs.lemmas.List.{get_or_default, get_or_past}
use Rattle.std.proofs.lemmas.Bool.{cases_lt}
use Rattle.std.proofs.lemmas.Cmp.{tied_itself}
use Rattle.pj_value.specs.declared.value.Value.{Value}
use Rattle.pj_value.specs.Order.{row_cmp}
use Rattle.pj_value.proofs.OrderLemmas.{row_total}
use Rattle.pj_index.specs.declared.keys.KeyMarks.{KeyMarks}
use Rattle.pj_index.specs.Selection.{is_above, is_below, first_of, end_of, NeverFalls}
use Rattle.pj_index.specs.Splits.{Falls}
use Rattle.pj_index.specs.Laws.{NoKeyIsLeftOut}
use Rattle.pj_index.proofs.CutLemmas.{is_above-upto, is_below-upto}

-- ---- the keys up to which granules reach

-- that of a granule before the last one
pub end_of-first : (marks : KeyMarks) (granule : ℕ) → granule + 1 < length marks.firsts.rows
    → end_of marks granule ≡ first_of marks (granule + 1)
end_of-first marks granule l = get_or_default marks.firsts.rows (granule + 1) marks.last [] l

-- and of the last one
pub end_of-last : (marks : KeyMarks) (granule : ℕ) → length marks.firsts.rows ≤ granule + 1
    → end_of marks granule ≡ marks.last
end_of-last marks granule l = get_or_past marks.firsts.rows (granule + 1) marks.last l

-- they never fall
pub end_of-rising : (marks : KeyMarks) → NeverFalls marks → (i j : ℕ) → i ≤ j → j < length marks.firsts.rows
    → is_gt (row_cmp (end_of marks i) (end_of marks j)) ≡ false
end_of-rising marks n i j l m = ⊎_elim before last (cases_lt (j + 1) (length marks.firsts.rows))
  where
    before : j + 1 < length marks.firsts.rows → is_gt (row_cmp (end_of marks i) (end_of marks j)) ≡ false
    before h =
        rw (end_of-first marks i (omega arith), end_of-first marks j h)
        (n.rising (i + 1) (j + 1) (omega arith) h)

    last : length marks.firsts.rows ≤ j + 1 → is_gt (row_cmp (end_of marks i) (end_of marks j)) ≡ false
    last h =
        rw (end_of-last marks j h)
        (⊎_elim (λ k. rw (end_of-first marks i k) (n.closed (i + 1) k))
        (λ k. rw (end_of-last marks i k) (ap is_gt (tied_itself row_total marks.last)))
        (cases_lt (i + 1) (length marks.firsts.rows)))

-- ---- what holds of a granule holds of those before it

Falls-from : (holds : ℕ → Bool) (len : ℕ)
    → ((i j : ℕ) → i ≤ j → j < len → holds i ≡ false → holds j ≡ false) → Falls holds len
Falls-from holds len h i j l m e = from (holds i) refl
  where
    from : (b : Bool) → holds i ≡ b → holds i ≡ true
    from true f = f
    from false f = let g : holds j ≡ false = h i j l m f in (cc)

not_false : (b : Bool) → not b ≡ false → b ≡ true
not_false true e = refl
not_false false e = (cc)

not_true : (b : Bool) → not b ≡ true → b ≡ false
not_true true e = (cc)
not_true false e = refl

-- that it ends below a bound
pub Falls-ends : (marks : KeyMarks) (low : List Value) → NeverFalls marks
    → Falls (λ granule. is_below low (end_of marks granule)) (length marks.firsts.rows)
Falls-ends marks low n =
    Falls-from (λ granule. is_below low (end_of marks granule)) (length marks.firsts.rows)
    (λ i j l m e. is_below-upto low (end_of marks i) (end_of marks j) (end_of-rising marks n i j l m) e)

-- that it doesn't begin above a bound
pub Falls-begins : (marks : KeyMarks) (high : List Value) → NeverFalls marks
    → Falls (λ granule. not (is_above high (first_of marks granule))) (length marks.firsts.rows)
Falls-begins marks high n i j l m e =
    ap not (is_above-upto high (first_of marks i) (first_of marks j) (n.rising i j l m)
    (not_true (is_above high (first_of marks j)) e))

-- ---- no key is left out

both : (a b : Bool) → (a && b) ≡ true → (a ≡ true) × (b ≡ true)
both true true e = (refl, refl)
both true false e = (cc)
both false b e = (cc)

pub no_key_is_left_out : NoKeyIsLeftOut
no_key_is_left_out marks range granule key p q w =
    let h = both (not (is_below range.low key)) (not (is_above range.high key)) w in
    let a : is_above range.high (first_of marks granule) ≡ false =
    is_above-upto range.high (first_of marks granule) key p (not_true (is_above range.high key) h.1) in
    let b : is_below range.low (end_of marks granule) ≡ false =
    is_below-upto range.low key (end_of marks granule) q (not_true (is_below range.low key) h.0) in
    rw (a, b) refl
