use Rattle.std.proofs.Common.{◌≡◌, ◌∙◌, ap, sym, subst, map, string_bytes, List, [], ◌∷◌, Some}
use Rattle.clap.specs.Walk.{Text, rows_of}
use Rattle.clap.specs.Matches.{found_of}
use Rattle.clap.specs.Simple.{App, is_simple, matches_of}
use Rattle.clap.specs.Kinds.{IsAmong}
use Rattle.clap.specs.Faults.{fault_of, is_simple_and_free}
use Rattle.pj_words.specs.Words.{about_by, app}
use Rattle.pj_words.proofs.WishLemmas.{app_is_free, app_is_simple, kind-among, words-taken, words-refused}
use Rattle.pj_words.proofs.wishes.read.Goals as goal

pub returns-in-Ok : goal.returns-in-Ok
returns-in-Ok c =
    let words : List Text = map string_bytes c.args.arguments.now in
    let is = c.in_ok-command.ensures in
    let none : fault_of app words ≡ [] =
    ap (λ (a : App). fault_of a words) (sym is)
    ∙ c.in-Ok.ensures.kinds (ap is_simple_and_free is ∙ app_is_free) in
    let rows : rows_of (found_of c.in-Ok.matches) ≡ matches_of app words =
    (c.in-Ok.ensures.matches (ap is_simple is ∙ app_is_simple)).0 ∙ ap (λ (a : App). matches_of a words) is in
    let taken = words-taken words (rows_of (found_of c.in-Ok.matches)) none rows in
    (taken.0 ∙ ap Some (sym c.is_history_set.ensures), taken.1)

pub returns-in_default : goal.returns-in_default
returns-in_default c =
    let words : List Text = map string_bytes c.args.arguments.now in
    let is = c.in_ok-command.ensures in
    let failed = c.in-Err.ensures.kinds (ap is_simple_and_free is ∙ app_is_free) in
    let among : IsAmong c.kind.result (fault_of app words) =
    subst (λ (a : App). IsAmong c.kind.result (fault_of a words)) is
    (kind-among _ c.in-Err.error c.kind.result c.kind.ensures c.in_default.not-OutOfMemory failed) in
    let refused = words-refused words c.kind.result among in
    (refused.0, refused.1 ∙ ap (λ kind. about_by (kind ∷ [])) c.kind.ensures)
