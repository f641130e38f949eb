-- Runs of bytes that pass a test, and which bytes begin what.
use Rattle.std.proofs.Common.{◌≡◌, ℕ, suc, Bool, true, false, cond, List, [], ◌∷◌, ◌++◌}
use Rattle.std.proofs.Common.{length, take, drop, refl, ap, ◌∙◌, ◌⊎◌, inl, inr, arith}
use Rattle.std.specs.List.{prefix_len}
use Rattle.std.proofs.lemmas.Bool.Decides.{nat_tests}
use Rattle.pj_lex.specs.Bytes.{is_blank, is_digit, begins_word, is_word_byte, AllAre}
use Rattle.pj_lex.specs.Tokens.{StopsAt}

-- a test's two outcomes
pub cases : (b : Bool) → (b ≡ true) ⊎ (b ≡ false)
cases true = inl refl
cases false = inr refl

-- what a test led to
pub choice : {A : Type 0} (b : Bool) (x y z : A) → cond b x y ≡ z
    → ((b ≡ true) × (x ≡ z)) ⊎ ((b ≡ false) × (y ≡ z))
choice true x y z e = inl (refl, e)
choice false x y z e = inr (refl, e)

module _ (p : ℕ → Bool) where
  -- a byte that passes is counted
  pub run-yes : (b : ℕ) (bs : List ℕ) → p b ≡ true → prefix_len p (b ∷ bs) ≡ suc (prefix_len p bs)
  run-yes b bs e = rw e (omega arith)

  -- a byte that fails ends the count
  pub run-no : (b : ℕ) (bs : List ℕ) → p b ≡ false → prefix_len p (b ∷ bs) ≡ 0
  run-no b bs e = rw e refl

  -- the bytes at the start pass
  pub run_passes : (bytes : List ℕ) → AllAre p (take (prefix_len p bytes) bytes)
  run_passes [] = tt
  run_passes (b ∷ bs) =
      elim (cases (p b)) [
        | inl e ↦ rw (run-yes b bs e) (e, run_passes bs)
        | inr e ↦ rw (run-no b bs e) tt
      ]

  -- and the one behind them doesn't
  pub run_stops : (bytes : List ℕ) → StopsAt p (drop (prefix_len p bytes) bytes)
  run_stops [] = tt
  run_stops (b ∷ bs) =
      elim (cases (p b)) [
        | inl e ↦ rw (run-yes b bs e) (run_stops bs)
        | inr e ↦ rw (run-no b bs e) e
      ]

  -- such bytes are the run
  pub run_is : (prefix back : List ℕ) → AllAre p prefix → StopsAt p back
      → prefix_len p (prefix ++ back) ≡ length prefix
  run_is [] [] all stops = refl
  run_is [] (b ∷ bs) all stops = run-no b bs stops
  run_is (b ∷ bs) back all stops = run-yes b (bs ++ back) all.0 ∙ ap suc (run_is bs back all.1 stops)

-- what begins a word is no blank
pub word_isnt_blank : (b : ℕ) → begins_word b ≡ true → is_blank b ≡ false
word_isnt_blank b e = grind (arith, nat_tests)

-- a digit is no blank
pub digit_isnt_blank : (b : ℕ) → is_digit b ≡ true → is_blank b ≡ false
digit_isnt_blank b e = grind (arith, nat_tests)

-- a digit begins no word
pub digit_begins_no_word : (b : ℕ) → is_digit b ≡ true → begins_word b ≡ false
digit_begins_no_word b e = grind (arith, nat_tests)

-- what begins a word may stand in one
pub begins_is_word_byte : (b : ℕ) → begins_word b ≡ true → is_word_byte b ≡ true
begins_is_word_byte b e = rw e refl

-- a digit may stand in a word
pub digit_is_word_byte : (b : ℕ) → is_digit b ≡ true → is_word_byte b ≡ true
digit_is_word_byte b e = rw (digit_begins_no_word b e, e) refl

-- what stops a word stops a number
pub stops_digits : (bytes : List ℕ) → StopsAt is_word_byte bytes → StopsAt is_digit bytes
stops_digits [] h = tt
stops_digits (b ∷ bs) h =
    elim (cases (is_digit b)) [ inl e ↦ absurd (let y = digit_is_word_byte b e in cc) | inr e ↦ e ]
