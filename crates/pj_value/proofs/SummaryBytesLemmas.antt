-- Summaries have bytes of their own.
use Rattle.std.proofs.Common.{◌≡◌, ℕ, ◌<◌, List, [], ◌∷◌, ◌++◌, length, refl, sym, ap, ◌∙◌}
use Rattle.std.proofs.Common.{arith, append_assoc}
use Rattle.std.specs.Prelude.{Option, Some, None}
use Rattle.std.specs.List.{AllByRecursion, flat_map}
use Rattle.pj_value.specs.declared.value.Kind.{Kind}
use Rattle.pj_value.specs.declared.value.Value.{Value}
use Rattle.pj_value.specs.declared.value.Value.TheVariants as values
use Rattle.pj_value.specs.declared.value.AggKind.{AggKind}
use Rattle.pj_value.specs.declared.value.AggKind.TheVariants as aggregates
use Rattle.pj_value.specs.NumberBytes.{number_in_bytes}
use Rattle.pj_value.specs.Summaries.{Summary, Number, Extreme, Distinct, IsOfKind, IsSummary}
use Rattle.pj_value.specs.Summaries.{number_bytes, value_bytes, extreme_bytes, state_bytes}
use Rattle.pj_value.specs.SummaryLaws.{HasLength, HasLengths}
use Rattle.pj_value.proofs.NumberBytesLemmas.{length-bytes_low_first, number_in_bytes-bytes_low_first}

-- ---- pieces of bytes

-- eight bytes are one number
pub number_bytes-equal : (m n : ℕ) → m < 18446744073709551616 → n < 18446744073709551616
    → number_bytes m ≡ number_bytes n → m ≡ n
number_bytes-equal m n l k e =
    sym (number_in_bytes-bytes_low_first 8 m l) ∙ ap number_in_bytes e ∙ number_in_bytes-bytes_low_first 8 n k

-- pieces of one length, and what stands behind them
split-equal : (xs us ys vs : List ℕ) → length xs ≡ length us → xs ++ ys ≡ us ++ vs → (xs ≡ us) × (ys ≡ vs)
split-equal [] [] ys vs l e = (refl, e)
split-equal [] (u ∷ us) ys vs l e = absurd (omega arith)
split-equal (x ∷ xs) [] ys vs l e = absurd (omega arith)
split-equal (x ∷ xs) (u ∷ us) ys vs l e =
    let head : x ≡ u = (cc) in
    let rest : xs ++ ys ≡ us ++ vs = (cc) in
    let both = split-equal xs us ys vs (omega arith) rest in
    (λ i. head i ∷ both.0 i, both.1)

-- a number, and what stands behind it
number-split : (m n : ℕ) (ys vs : List ℕ) → m < 18446744073709551616 → n < 18446744073709551616
    → number_bytes m ++ ys ≡ number_bytes n ++ vs → (m ≡ n) × (ys ≡ vs)
number-split m n ys vs l k e =
    let long : length (number_bytes m) ≡ length (number_bytes n) =
    length-bytes_low_first 0 8 m ∙ sym (length-bytes_low_first 0 8 n) in
    let both = split-equal (number_bytes m) (number_bytes n) ys vs long e in
    (number_bytes-equal m n l k both.0, both.1)

-- a value, and what stands behind it
value-split : (kind : Kind) (v w : Value) (ys zs : List ℕ) → IsOfKind kind v → IsOfKind kind w → HasLength v
    → HasLength w → value_bytes v ++ ys ≡ value_bytes w ++ zs → (v ≡ w) × (ys ≡ zs)
value-split kind (values.Num m) (values.Num n) ys zs a b l k e =
    let both = number-split m n ys zs a.1 b.1 e in
    (ap (λ x. values.Num x) both.0, both.1)
value-split kind (values.Num m) (values.Text t) ys zs a b l k e = absurd (cc (a.0, b.0))
value-split kind (values.Text s) (values.Num n) ys zs a b l k e = absurd (cc (a.0, b.0))
value-split kind (values.Text s) (values.Text t) ys zs a b l k e =
    let moved : number_bytes (length s) ++ (s ++ ys) ≡ number_bytes (length t) ++ (t ++ zs) =
    sym (append_assoc (number_bytes (length s)) s ys) ∙ e ∙ append_assoc (number_bytes (length t)) t zs in
    let first = number-split (length s) (length t) (s ++ ys) (t ++ zs) l k moved in
    let both = split-equal s t ys zs first.0 first.1 in
    (ap (λ x. values.Text x) both.0, both.1)

-- ---- summaries

values_apart : (kind : Kind) (vs ws : List Value) → length vs ≡ length ws → AllByRecursion (IsOfKind kind) vs
    → AllByRecursion (IsOfKind kind) ws → AllByRecursion HasLength vs → AllByRecursion HasLength ws
    → flat_map value_bytes vs ≡ flat_map value_bytes ws → vs ≡ ws
values_apart kind [] [] n a b l k e = refl
values_apart kind [] (w ∷ ws) n a b l k e = absurd (omega arith)
values_apart kind (v ∷ vs) [] n a b l k e = absurd (omega arith)
values_apart kind (v ∷ vs) (w ∷ ws) n a b l k e =
    let both =
    value-split kind v w (flat_map value_bytes vs) (flat_map value_bytes ws) a.0 b.0 l.0 k.0 e in
    λ i. both.0 i ∷ values_apart kind vs ws (omega arith) a.1 b.1 l.1 k.1 both.1 i

distinct_apart : (kind : Kind) (vs ws : List Value) → IsSummary aggregates.UniqExact kind (Distinct vs)
    → IsSummary aggregates.UniqExact kind (Distinct ws) → HasLengths (Distinct vs) → HasLengths (Distinct ws)
    → state_bytes (Distinct vs) ≡ state_bytes (Distinct ws) → vs ≡ ws
distinct_apart kind vs ws a b l k e =
    let both =
    number-split (length vs) (length ws) (flat_map value_bytes vs) (flat_map value_bytes ws) l.0 k.0 e in
    values_apart kind vs ws both.0 a.1 b.1 l.1 k.1 both.1

-- a value that there may be
abbrev IsOfKindAt : Kind → Option Value → Type 0
IsOfKindAt kind None = Unit {0}
IsOfKindAt kind (Some v) = IsOfKind kind v

extremes_apart : (kind : Kind) (a b : Option Value) → IsOfKindAt kind a → IsOfKindAt kind b
    → extreme_bytes a ≡ extreme_bytes b → a ≡ b
extremes_apart kind None None a b e = refl
extremes_apart kind None (Some (values.Num n)) a b e = absurd (cc)
extremes_apart kind None (Some (values.Text t)) a b e = absurd (cc)
extremes_apart kind (Some (values.Num m)) None a b e = absurd (cc)
extremes_apart kind (Some (values.Text s)) None a b e = absurd (cc)
extremes_apart kind (Some (values.Num m)) (Some (values.Num n)) a b e =
    let bytes : number_bytes m ≡ number_bytes n = (cc) in
    ap (λ x. Some (values.Num x)) (number_bytes-equal m n a.1 b.1 bytes)
extremes_apart kind (Some (values.Num m)) (Some (values.Text t)) a b e = absurd (cc (a.0, b.0))
extremes_apart kind (Some (values.Text s)) (Some (values.Num n)) a b e = absurd (cc (a.0, b.0))
extremes_apart kind (Some (values.Text s)) (Some (values.Text t)) a b e = (cc)

-- the least or the greatest value is of the kind
least_of_kind : (kind : Kind) (a : Option Value) → IsSummary aggregates.Min kind (Extreme a)
    → IsOfKindAt kind a
least_of_kind kind None p = tt
least_of_kind kind (Some v) p = p

greatest_of_kind : (kind : Kind) (a : Option Value) → IsSummary aggregates.Max kind (Extreme a)
    → IsOfKindAt kind a
greatest_of_kind kind None p = tt
greatest_of_kind kind (Some v) p = p

-- summaries are told apart by their bytes
pub bytes_apart : (agg : AggKind) (kind : Kind) (a b : Summary) → IsSummary agg kind a → IsSummary agg kind b
    → HasLengths a → HasLengths b → state_bytes a ≡ state_bytes b → a ≡ b
bytes_apart aggregates.Count kind (Number x) (Number y) p q l k e =
    ap (λ n. Number n) (number_bytes-equal x y p q e)
bytes_apart aggregates.Count kind (Number x) (Extreme y) p q l k e = absurd q
bytes_apart aggregates.Count kind (Number x) (Distinct y) p q l k e = absurd q
bytes_apart aggregates.Count kind (Extreme x) b p q l k e = absurd p
bytes_apart aggregates.Count kind (Distinct x) b p q l k e = absurd p
bytes_apart aggregates.Sum kind (Number x) (Number y) p q l k e =
    ap (λ n. Number n) (number_bytes-equal x y p.0 q.0 e)
bytes_apart aggregates.Sum kind (Number x) (Extreme y) p q l k e = absurd q
bytes_apart aggregates.Sum kind (Number x) (Distinct y) p q l k e = absurd q
bytes_apart aggregates.Sum kind (Extreme x) b p q l k e = absurd p
bytes_apart aggregates.Sum kind (Distinct x) b p q l k e = absurd p
bytes_apart aggregates.Min kind (Number x) b p q l k e = absurd p
bytes_apart aggregates.Min kind (Extreme x) (Number y) p q l k e = absurd q
bytes_apart aggregates.Min kind (Extreme x) (Extreme y) p q l k e =
    ap (λ f. Extreme f) (extremes_apart kind x y (least_of_kind kind x p) (least_of_kind kind y q) e)
bytes_apart aggregates.Min kind (Extreme x) (Distinct y) p q l k e = absurd q
bytes_apart aggregates.Min kind (Distinct x) b p q l k e = absurd p
bytes_apart aggregates.Max kind (Number x) b p q l k e = absurd p
bytes_apart aggregates.Max kind (Extreme x) (Number y) p q l k e = absurd q
bytes_apart aggregates.Max kind (Extreme x) (Extreme y) p q l k e =
    ap (λ f. Extreme f) (extremes_apart kind x y (greatest_of_kind kind x p) (greatest_of_kind kind y q) e)
bytes_apart aggregates.Max kind (Extreme x) (Distinct y) p q l k e = absurd q
bytes_apart aggregates.Max kind (Distinct x) b p q l k e = absurd p
bytes_apart aggregates.UniqExact kind (Number x) b p q l k e = absurd p
bytes_apart aggregates.UniqExact kind (Extreme x) b p q l k e = absurd p
bytes_apart aggregates.UniqExact kind (Distinct x) (Number y) p q l k e = absurd q
bytes_apart aggregates.UniqExact kind (Distinct x) (Extreme y) p q l k e = absurd q
bytes_apart aggregates.UniqExact kind (Distinct x) (Distinct y) p q l k e =
    ap (λ vs. Distinct vs) (distinct_apart kind x y p q l k e)
