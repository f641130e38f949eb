use Rattle.std.proofs.Common.{◌≡◌, ◌∙◌, Bool, refl, ap, codes, true, false, Option, Some, None}
use Rattle.std.specs.Option.{option_map_or, unwrap_or}
use Rattle.std.specs.Str.{bytes_eq}
use Rattle.std.specs.Str.Parse.{ParsesBool}
use Rattle.std.proofs.lemmas.Slice.Eq.{bytes_eq-Decides}
use Rattle.clap.specs.Walk.{Text}
use Rattle.clap.specs.Matches.{ReadsOne, found_of}
use Rattle.clap.proofs.WalkLemmas.{one_text-rows}
use Rattle.pj_words.proofs.wishes.is_history_set.Goals as goal

-- a text that is read as a `bool`, which is false where it names none
read_or_false : (E : Type 0) (text : Text) (read : Option Bool)
    → ReadsOne {T = Bool} {E = E} (ParsesBool {E = E}) text read
    → unwrap_or read false ≡ bytes_eq text (codes "true")
read_or_false E text (Some true) is = rw is refl
read_or_false E text (Some false) is = rw is refl
read_or_false E text None other = go (bytes_eq text (codes "true")) refl
  where
    go : (b : Bool) → bytes_eq text (codes "true") ≡ b → false ≡ b
    go true is = absurd (other.1.0 ((bytes_eq-Decides text (codes "true")).0 is))
    go false is = refl

-- the same of a text that may be missing
given_or_false : (E : Type 0) (text : Option Text) (read : Option Bool) → (text ≡ None → read ≡ None)
    → ((t : Text) → text ≡ Some t → ReadsOne {T = Bool} {E = E} (ParsesBool {E = E}) t read)
    → unwrap_or read false ≡ option_map_or (λ v. bytes_eq v (codes "true")) text false
given_or_false E None read none some = ap (λ r. unwrap_or r false) (none refl)
given_or_false E (Some t) read none some = read_or_false E t read (some t refl)

pub returns : goal.returns
returns c =
    c.unwrap_or.ensures ∙ given_or_false _ _ c.get_one.result c.get_one.ensures.none c.get_one.ensures.value
    ∙ ap (λ text. option_map_or (λ v. bytes_eq v (codes "true")) text false)
    (one_text-rows (found_of c.args.matches.now) (codes "history"))
