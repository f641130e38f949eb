use Rattle.std.proofs.Common.{◌++◌, codes}
use Rattle.std.specs.Fmt.{decimal}
use Rattle.std.proofs.KnownBytes.{Appends-trans}
use Rattle.pj_server.proofs.PlayLemmas.{AppendsPart-after, AppendsPart-longer, OnOk-map, OnErr-map, OnErr-any}
use Rattle.pj_server.proofs.ending.write_bad_line_end.Goals as goal

pub returns-in_err-write_all-clause-part : goal.returns-in_err-write_all-clause-part
returns-in_err-write_all-clause-part g c =
    let rest = decimal c.args.line ++ codes " of standard input is bad\n" in
    OnErr-any _ (AppendsPart-longer _ _ (codes "projplay: line ") rest c.in_err-write_all.ensures.part)

pub returns-in_err-write_all-2-clause-part : goal.returns-in_err-write_all-2-clause-part
returns-in_err-write_all-2-clause-part g c =
    let number = decimal c.args.line in
    let end = codes " of standard input is bad\n" in
    let some = rw (c.as_bytes.ensures.value, c.format.ensures.text) at c.in_err-write_all-2.ensures.part in
    OnErr-any _
    (AppendsPart-after _ _ _ (codes "projplay: line ") (number ++ end) c.in_ok-write_all.ensures.all
    (AppendsPart-longer _ _ number end some))

pub returns-clause-all : goal.returns-clause-all
returns-clause-all g c =
    let number = decimal c.args.line in
    let end = codes " of standard input is bad\n" in
    let told = rw (c.as_bytes.ensures.value, c.format.ensures.text) at c.in_ok-write_all-2.ensures.all in
    OnOk-map c.write_all-3.result
    (λ last. Appends-trans _ _ _ (codes "projplay: line ") (number ++ end) c.in_ok-write_all.ensures.all
    (Appends-trans _ _ _ number end told last))
    c.write_all-3.ensures.all

pub returns-clause-part : goal.returns-clause-part
returns-clause-part g c =
    let number = decimal c.args.line in
    let end = codes " of standard input is bad\n" in
    let told = rw (c.as_bytes.ensures.value, c.format.ensures.text) at c.in_ok-write_all-2.ensures.all in
    OnErr-map c.write_all-3.result
    (λ last. AppendsPart-after _ _ _ (codes "projplay: line ") (number ++ end) c.in_ok-write_all.ensures.all
    (AppendsPart-after _ _ _ number end told last))
    c.write_all-3.ensures.part
