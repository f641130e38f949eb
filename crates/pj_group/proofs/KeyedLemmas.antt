-- Keys of different lengths.
use Rattle.std.proofs.Common.{◌≡◌, ◌≢◌, Bool, true, false, length, refl, sym, ap}
use Rattle.pj_answer.specs.Answers.{Row, same_row}
use Rattle.pj_answer.proofs.orders.ValueOrder.{same_row_decides}

-- keys of different lengths are not the same
pub same_row-lengths : (a b : Row) → length b ≢ length a → false ≡ same_row a b
same_row-lengths a b n = by (same_row a b) refl
  where
    by : (t : Bool) → same_row a b ≡ t → false ≡ t
    by true e = absurd (n (ap length (sym (same_row_decides.equal a b e))))
    by false e = refl
