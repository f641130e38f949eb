-- Runs of bytes that pass a test, and what stands between the blanks at both ends.
use Rattle.std.proofs.Common.{◌≡◌, ◌≢◌, ℕ, ◌-◌, Bool, false, List, [], ◌∷◌, ◌++◌}
use Rattle.std.proofs.Common.{length, take, drop, reverse, refl, sym, ap, subst, ◌∙◌, arith}
use mathlib.Core.List.{reverse_aux}
use Rattle.std.specs.List.{prefix_len}
use Rattle.std.proofs.lemmas.List.{take_at, drop_at, take-append-drop, length-drop}
use Rattle.std.proofs.lemmas.List.{length-reverse, reverse-append, reverse-reverse}
use Rattle.pj_lex.specs.Bytes.{is_blank, AllAre, IsBlank, after_blanks}
use Rattle.pj_lex.specs.Tokens.{StopsAt}
use Rattle.pj_lex.proofs.TokenBytes.{run_passes, run_stops, run_is}
use Rattle.pj_script.specs.Lines.{IsTrimmed}
use Rattle.pj_script.specs.ReadingLines.{before_blanks}

AllAre-reverse_aux : (test : ℕ → Bool) (xs ys : List ℕ) → AllAre test xs → AllAre test ys
    → AllAre test (reverse_aux xs ys)
AllAre-reverse_aux test [] ys all others = others
AllAre-reverse_aux test (x ∷ xs) ys all others = AllAre-reverse_aux test xs (x ∷ ys) all.1 (all.0, others)

pub AllAre-reverse : (test : ℕ → Bool) (xs : List ℕ) → AllAre test xs → AllAre test (reverse xs)
AllAre-reverse test xs all = AllAre-reverse_aux test xs [] all tt

pub after_blanks-is : (blanks more : List ℕ) → IsBlank blanks → StopsAt is_blank more
    → after_blanks (blanks ++ more) ≡ more
unfolding after_blanks
after_blanks-is blanks more all stops =
    rw (run_is is_blank blanks more all stops) (drop_at blanks more (length blanks) refl)

-- the bytes are blanks, and then what stands behind them
pub record IsPrefix (bytes blanks more : List ℕ) : Type 0 where
  pub parts : bytes ≡ blanks ++ more
  pub blank : IsBlank blanks
  pub stops : StopsAt is_blank more

pub prefix_of : (bytes : List ℕ) → IsPrefix bytes (take (prefix_len is_blank bytes) bytes)
    (after_blanks bytes)
unfolding after_blanks
prefix_of bytes = record {
  parts = sym (take-append-drop (prefix_len is_blank bytes) bytes);
  blank = run_passes is_blank bytes;
  stops = run_stops is_blank bytes;
}

-- blanks at the end are blanks at the start of the bytes from the back
pub before_blanks-reverse : (bytes : List ℕ) → before_blanks bytes ≡ reverse (after_blanks (reverse bytes))
unfolding after_blanks
before_blanks-reverse bytes =
    let back = reverse bytes in
    let n = prefix_len is_blank back in
    let whole : bytes ≡ reverse (drop n back) ++ reverse (take n back) =
    sym (reverse-reverse bytes) ∙ ap reverse (sym (take-append-drop n back))
    ∙ reverse-append (take n back) (drop n back) in
    let count : length (reverse (drop n back)) ≡ length bytes - n =
    omega (arith, length-reverse (drop n back), length-drop n back, length-reverse bytes) in
    ap (take (length bytes - n)) whole
    ∙ take_at (reverse (drop n back)) (reverse (take n back)) (length bytes - n) count

-- what stands between the blanks at both ends
pub record IsMiddle (bytes left body right : List ℕ) : Type 0 where
  pub parts : bytes ≡ left ++ (body ++ right)
  pub left_blank : IsBlank left
  pub right_blank : IsBlank right
  pub trimmed : body ≢ [] → IsTrimmed body

-- a byte at the end comes first from the back
pub reverse-last : (prefix : List ℕ) (b : ℕ) → reverse (prefix ++ b ∷ []) ≡ b ∷ reverse prefix
reverse-last prefix b = reverse-append prefix (b ∷ [])

pub reverse-first : (b : ℕ) (bs : List ℕ) → reverse (b ∷ bs) ≡ reverse bs ++ b ∷ []
reverse-first b bs = reverse-append (b ∷ []) bs

first_of_middle : (body right : List ℕ) → StopsAt is_blank (body ++ right) → body ≢ []
    → (b : ℕ) × (more : List ℕ) × (body ≡ b ∷ more) × (is_blank b ≡ false)
first_of_middle [] right stops some = absurd (some refl)
first_of_middle (b ∷ more) right stops some = (b, more, refl, stops)

last_of_middle : (back : List ℕ) → StopsAt is_blank back → reverse back ≢ []
    → (prefix : List ℕ) × (b : ℕ) × (reverse back ≡ prefix ++ b ∷ []) × (is_blank b ≡ false)
last_of_middle [] stops some = absurd (some refl)
last_of_middle (b ∷ more) stops some = (reverse more, b, reverse-first b more, stops)

pub middle_of : (bytes : List ℕ)
    → (left : List ℕ) × (right : List ℕ) × IsMiddle bytes left (before_blanks (after_blanks bytes)) right
middle_of bytes =
    let prefix = prefix_of bytes in
    let behind = after_blanks bytes in
    let back = prefix_of (reverse behind) in
    let left = take (prefix_len is_blank bytes) bytes in
    let right = reverse (take (prefix_len is_blank (reverse behind)) (reverse behind)) in
    let body = before_blanks behind in
    let body-is : body ≡ reverse (after_blanks (reverse behind)) = before_blanks-reverse behind in
    let whole : behind ≡ body ++ right =
    sym (reverse-reverse behind) ∙ ap reverse back.parts
    ∙ reverse-append (take (prefix_len is_blank (reverse behind)) (reverse behind))
    (after_blanks (reverse behind))
    ∙ ap (λ (x : List ℕ). x ++ right) (sym body-is) in (
      left,
      right,
      record {
        parts = prefix.parts ∙ ap (λ (x : List ℕ). left ++ x) whole;
        left_blank = prefix.blank;
        right_blank = AllAre-reverse is_blank _ back.blank;
        trimmed = λ some. (
          first_of_middle body right (subst (StopsAt is_blank) whole prefix.stops) some,
          subst (λ (x : List ℕ). (prefix : List ℕ) × (b : ℕ) × (x ≡ prefix ++ b ∷ []) × (is_blank b ≡ false))
              (sym body-is)
              (last_of_middle (after_blanks (reverse behind)) back.stops (λ none. some (body-is ∙ none))),
        );
      },
    )

Stops-first : (body right : List ℕ) → IsTrimmed body → StopsAt is_blank (body ++ right)
Stops-first body right trimmed =
    let b = trimmed.0.0 in
    let more = trimmed.0.1 in
    rw trimmed.0.2 trimmed.0.3

Stops-last : (body : List ℕ) → IsTrimmed body → StopsAt is_blank (reverse body)
Stops-last body trimmed = rw (trimmed.1.2, reverse-last) trimmed.1.3

-- a middle is found between blanks
pub middle-is : (left body right : List ℕ) → IsBlank left → IsTrimmed body → IsBlank right
    → before_blanks (after_blanks (left ++ (body ++ right))) ≡ body
middle-is left body right left_blank trimmed right_blank =
    let behind : after_blanks (left ++ (body ++ right)) ≡ body ++ right =
    after_blanks-is left (body ++ right) left_blank (Stops-first body right trimmed) in
    let back : after_blanks (reverse (body ++ right)) ≡ reverse body =
    ap after_blanks (reverse-append body right)
    ∙ after_blanks-is (reverse right) (reverse body) (AllAre-reverse is_blank right right_blank)
    (Stops-last body trimmed) in
    ap before_blanks behind ∙ before_blanks-reverse (body ++ right) ∙ ap reverse back ∙ reverse-reverse body
