-- Values that are read from bytes one after the other.
use Rattle.std.proofs.Common.{◌≡◌, ℕ, ◌<◌, ◌≤◌, List, [], ◌∷◌, ◌++◌, length, take, drop}
use Rattle.std.proofs.Common.{refl, sym, ap, subst, ◌∙◌, arith, length-append, length-drop}
use Rattle.std.specs.List.{AllByRecursion, flat_map}
use Rattle.std.proofs.lemmas.List.{append_assoc, append-nil}
use Rattle.pj_value.specs.declared.value.Kind.{Kind}
use Rattle.pj_value.specs.declared.value.Value.{Value}
use Rattle.pj_value.specs.declared.value.Value.TheVariants as values
use Rattle.pj_value.specs.Summaries.{Rises, IsOfKind, number_bytes, value_bytes}
use Rattle.pj_agg.proofs.ByteLemmas.{number_bytes-equal, number-split, length-number_bytes}
use Rattle.pj_value.proofs.RisingLemmas.{Rises-left}

-- ---- one value

-- a value takes some bytes
pub value_bytes-long : (v : Value) → 8 ≤ length (value_bytes v)
value_bytes-long (values.Num n) = omega (arith, length-number_bytes n)
value_bytes-long (values.Text t) =
    omega (arith, length-append (number_bytes (length t)) t, length-number_bytes (length t))

-- pieces of one length, and what stands behind them
split-equal : (xs us ys vs : List ℕ) → length xs ≡ length us → xs ++ ys ≡ us ++ vs → (xs ≡ us) × (ys ≡ vs)
split-equal [] [] ys vs l e = (refl, e)
split-equal [] (u ∷ us) ys vs l e = absurd (omega arith)
split-equal (x ∷ xs) [] ys vs l e = absurd (omega arith)
split-equal (x ∷ xs) (u ∷ us) ys vs l e =
    let head : x ≡ u = (cc) in
    let rest : xs ++ ys ≡ us ++ vs = (cc) in
    let both = split-equal xs us ys vs (omega arith) rest in
    (λ i. head i ∷ both.0 i, both.1)

-- a text is shorter than the bytes that it begins
text-short : (t ys : List ℕ) → length (value_bytes (values.Text t) ++ ys) < 18446744073709551616
    → length t < 18446744073709551616
text-short t ys l =
    omega (arith, length-append (value_bytes (values.Text t)) ys, length-append (number_bytes (length t)) t)

-- bytes begin with one value of a kind
pub value-split : (kind : Kind) (v w : Value) (xs ys : List ℕ) → IsOfKind kind v → IsOfKind kind w
    → length (value_bytes v ++ xs) < 18446744073709551616 → value_bytes v ++ xs ≡ value_bytes w ++ ys
    → (v ≡ w) × (xs ≡ ys)
value-split kind (values.Num m) (values.Num n) xs ys a b l e =
    let both = number-split m n xs ys a.1 b.1 e in
    (ap (λ x. values.Num x) both.0, both.1)
value-split kind (values.Num m) (values.Text t) xs ys a b l e = absurd (cc (a.0, b.0))
value-split kind (values.Text s) (values.Num n) xs ys a b l e = absurd (cc (a.0, b.0))
value-split kind (values.Text s) (values.Text t) xs ys a b l e =
    let moved : number_bytes (length s) ++ (s ++ xs) ≡ number_bytes (length t) ++ (t ++ ys) =
    sym (append_assoc (number_bytes (length s)) s xs) ∙ e ∙ append_assoc (number_bytes (length t)) t ys in
    let k = text-short t ys (subst (λ bs. length bs < 18446744073709551616) e l) in
    let first = number-split (length s) (length t) (s ++ xs) (t ++ ys) (text-short s xs l) k moved in
    let both = split-equal s t xs ys first.0 first.1 in
    (ap (λ x. values.Text x) both.0, both.1)

-- ---- values one after the other

module _ (kind : Kind) where
  -- what bytes hold begins with what was read of them
  pub read-so_far : (done found : List Value) (rest bytes : List ℕ) → AllByRecursion (IsOfKind kind) done
      → AllByRecursion (IsOfKind kind) found → length bytes < 18446744073709551616
      → flat_map value_bytes done ++ rest ≡ bytes → flat_map value_bytes found ≡ bytes
      → (more : List Value) × (found ≡ done ++ more) × AllByRecursion (IsOfKind kind) more
      × (flat_map value_bytes more ≡ rest)
  read-so_far [] found rest bytes a b l e f = (found, refl, b, f ∙ sym e)
  read-so_far (v ∷ done) [] rest bytes a b l e f =
      absurd (omega (
        arith,
        ap length (e ∙ sym f),
        value_bytes-long v,
        length-append (value_bytes v ++ flat_map value_bytes done) rest,
        length-append (value_bytes v) (flat_map value_bytes done),
      ))
  read-so_far (v ∷ done) (w ∷ found) rest bytes a b l e f =
      let left = flat_map value_bytes done ++ rest in
      let moved : value_bytes v ++ left ≡ value_bytes w ++ flat_map value_bytes found =
      sym (append_assoc (value_bytes v) (flat_map value_bytes done) rest) ∙ e ∙ sym f in
      let whole : length (value_bytes v ++ left) < 18446744073709551616 =
      subst (λ bs. length bs < 18446744073709551616) (sym (moved ∙ f)) l in
      let both = value-split kind v w left (flat_map value_bytes found) a.0 b.0 whole moved in
      let more =
      read-so_far done found rest left a.1 b.1
      (omega (arith, length-append (value_bytes v) left)) refl (sym both.1) in
      (more.0, (λ i. sym both.0 i ∷ more.1 i), more.2, more.3)

  -- what was read is all, where nothing is left
  pub read-all : (done found : List Value) (bytes : List ℕ) → AllByRecursion (IsOfKind kind) done
      → AllByRecursion (IsOfKind kind) found → length bytes < 18446744073709551616
      → flat_map value_bytes done ≡ bytes → flat_map value_bytes found ≡ bytes → found ≡ done
  read-all done found bytes a b l e f =
      let more = read-so_far done found [] bytes a b l (append-nil (flat_map value_bytes done) ∙ e) f in
      more.1 ∙ ap (λ ws. done ++ ws) (none more.0 more.3) ∙ append-nil done
    where
      none : (ws : List Value) → flat_map value_bytes ws ≡ [] → ws ≡ []
      none [] n = refl
      none (w ∷ ws) n =
          absurd (omega (
            arith,
            ap length n,
            value_bytes-long w,
            length-append (value_bytes w) (flat_map value_bytes ws),
          ))

  -- where no value stands at the front of what is left, there are no such values
  pub none-left : (done found : List Value) (rest bytes : List ℕ) → AllByRecursion (IsOfKind kind) done
      → AllByRecursion (IsOfKind kind) found → length bytes < 18446744073709551616
      → flat_map value_bytes done ++ rest ≡ bytes → flat_map value_bytes found ≡ bytes → (rest ≡ [] → ⊥)
      → ((v : Value) (behind : List ℕ) → IsOfKind kind v → value_bytes v ++ behind ≡ rest → ⊥) → ⊥
  none-left done found rest bytes a b l e f some h =
      let more = read-so_far done found rest bytes a b l e f in from more.0 more.2 more.3
    where
      from : (ws : List Value) → AllByRecursion (IsOfKind kind) ws → flat_map value_bytes ws ≡ rest → ⊥
      from [] c n = some (sym n)
      from (w ∷ ws) c n = h w (flat_map value_bytes ws) c.0 n

  -- nor are there, where the next value would not be above those that were read
  pub none-above : (done found : List Value) (rest bytes front : List ℕ) (v : Value)
      → AllByRecursion (IsOfKind kind) done
      → AllByRecursion (IsOfKind kind) found → Rises found → length bytes < 18446744073709551616
      → flat_map value_bytes done ++ rest ≡ bytes → flat_map value_bytes found ≡ bytes → (rest ≡ [] → ⊥)
      → IsOfKind kind v → value_bytes v ≡ front → (behind : List ℕ) → front ++ behind ≡ rest
      → ((w : Value) → IsOfKind kind w → value_bytes w ≡ front → Rises (done ++ w ∷ []) → ⊥) → ⊥
  none-above done found rest bytes front v a b r l e f some k p behind q h =
      let more = read-so_far done found rest bytes a b l e f in from more.0 more.1 more.2 more.3
    where
      from : (ws : List Value) → found ≡ done ++ ws → AllByRecursion (IsOfKind kind) ws
          → flat_map value_bytes ws ≡ rest → ⊥
      from [] g c n = some (sym n)
      from (w ∷ ws) g c n =
          let whole : value_bytes v ++ behind ≡ value_bytes w ++ flat_map value_bytes ws =
          ap (λ bs. bs ++ behind) p ∙ q ∙ sym n in
          let short : length (value_bytes v ++ behind) < 18446744073709551616 =
          omega (
            arith,
            ap length (ap (λ bs. bs ++ behind) p ∙ q),
            ap length e,
            length-append (flat_map value_bytes done) rest,
          ) in
          let same = value-split kind v w behind (flat_map value_bytes ws) k c.0 short whole in
          h v k p
          (subst (λ x. Rises (done ++ x ∷ [])) (sym same.0)
          (Rises-left (done ++ w ∷ []) ws
          (subst Rises (g ∙ sym (append_assoc done (w ∷ []) ws)) r)))

  -- the number in front of values is how many they are
  pub count-right : (done found : List Value) (bytes : List ℕ) (count : ℕ)
      → AllByRecursion (IsOfKind kind) done → AllByRecursion (IsOfKind kind) found
      → length bytes < 18446744073709551616 → length done < 18446744073709551616
      → count < 18446744073709551616 → flat_map value_bytes done ≡ drop 8 bytes
      → number_bytes count ≡ take 8 bytes
      → number_bytes (length found) ++ flat_map value_bytes found ≡ bytes → length done ≡ count
  count-right done found bytes count a b l m n e f g =
      let behind : length (drop 8 bytes) < 18446744073709551616 = omega (arith, length-drop 8 bytes) in
      let all = read-all done found (drop 8 bytes) a b behind e (ap (drop 8) g) in
      let same : count ≡ length found =
      number_bytes-equal count (length found) n (omega (arith, ap length all)) (f ∙ ap (take 8) (sym g)) in
      omega (arith, ap length all)
