-- What a parse answers. No public contract cites this file.
use Rattle.std.specs.Prelude.{◌≡◌, ℕ, List, [], ◌∷◌, Some, None}
use Rattle.clap.specs.Words.{kind_of}
use Rattle.pj_words.specs.Words.{about_by, about_of, wish_of}
use Rattle.pj_words.specs.declared.wishes.Asked.{Asked}
use Rattle.pj_words.specs.declared.wishes.Asked.TheVariants as asked

-- the arguments ask for this
abbrev pub Asks : Asked → List (List ℕ) → Type 0
Asks (asked.Run history) arguments = (wish_of arguments ≡ Some history) × (about_of arguments ≡ None)
Asks (asked.NoRun error) arguments =
    (wish_of arguments ≡ None) × (about_of arguments ≡ about_by (kind_of error ∷ []))
