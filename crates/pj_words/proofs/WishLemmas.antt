-- What the arguments ask for, by how their parse ended.
use Rattle.std.proofs.Common.{◌≡◌, ◌∙◌, ap, ap₂, sym, subst, refl, true, List, [], ◌∷◌, Some, None, inl, inr}
use Rattle.clap.specs.Walk.{Row, Text}
use Rattle.clap.specs.Simple.{is_simple, matches_of}
use Rattle.clap.specs.Kinds.{HasKind, IsAmong, Kinds}
use Rattle.clap.specs.Faults.{fault_of, is_simple_and_free}
use Rattle.clap.specs.Values.{kind_of}
use Rattle.clap.specs.declared.error.Error.{Error}
use Rattle.clap.specs.declared.error.kind.ErrorKind.{ErrorKind}
use Rattle.clap.specs.declared.error.kind.ErrorKind.TheVariants.{OutOfMemory}
use Rattle.pj_words.specs.Words.{about_by, about_of, app, is_set, wish_by, wish_of}
use Rattle.pj_words.proofs.OneKind.{alone, fault_one}

pub app_is_simple : is_simple app ≡ true
app_is_simple = refl

pub app_is_free : is_simple_and_free app ≡ true
app_is_free = refl

-- arguments with these matches that nothing refuses
pub words-taken : (words : List Text) (rows : List Row) → fault_of app words ≡ []
    → rows ≡ matches_of app words → (wish_of words ≡ Some (is_set rows)) × (about_of words ≡ None)
unfolding wish_of about_of
words-taken words rows none same = (ap₂ wish_by none (sym same), ap about_by none)

-- an error that is not out of memory has one of the kinds
pub kind-among : (kinds : Kinds) (error : Error) (kind : ErrorKind) → kind ≡ kind_of error
    → (kind ≡ OutOfMemory → ⊥) → HasKind kinds error → IsAmong kind kinds
kind-among kinds error kind is other (inl memory) = absurd (other (is ∙ memory))
kind-among kinds error kind is other (inr among) = subst (λ k. IsAmong k kinds) (sym is) among

-- arguments whose parse ends with this kind
pub words-refused : (words : List Text) (kind : ErrorKind) → IsAmong kind (fault_of app words)
    → (wish_of words ≡ None) × (about_of words ≡ about_by (kind ∷ []))
unfolding wish_of about_of
words-refused words kind among =
    let only = alone (fault_of app words) kind (fault_one words) among in
    (ap (λ kinds. wish_by kinds (matches_of app words)) only, ap about_by only)
