use Rattle.std.proofs.Common.{◌∙◌, refl, sym, []}
use Rattle.std.proofs.lemmas.List.{get_or_read}
use Rattle.pj_server.specs.declared.ending.End.TheVariants.{NoMemory}
use Rattle.pj_legal.specs.Texts.{reply_text}
use Rattle.pj_server.proofs.PlayLemmas.{runs_line, AppendsPart-none, reply_text-some}
use Rattle.pj_server.proofs.runs.run_line.Goals as goal

pub returns-in-Ok-clause-run : goal.returns-in-Ok-clause-run
returns-in-Ok-clause-run g c =
    let name = sym (get_or_read c.args.names.now _ _ c.requires c.index-names-line.is []) in
    runs_line g.P.Blob.Kept.tells c.write_text.result _ _ c.args.names.now c.args.line.now c.body_of.result.now
    c.index-names-line.result c.as_slice.result.now c.statement-reply.result _ _ _ _ c.body_of.ensures
    c.statement-reply.ensures.serves c.statement-reply.ensures.blamed (c.as_slice.ensures.value ∙ c.in-Ok.ensures) name c.write_text.ensures.written

pub returns-clause-run : goal.returns-clause-run
returns-clause-run g c =
    let name = sym (get_or_read c.args.names.now _ _ c.requires c.index-names-line.is []) in
    runs_line g.P.Blob.Kept.tells NoMemory _ _ c.args.names.now c.args.line.now c.body_of.result.now c.index-names-line.result
    (reply_text c.args.line.now.line c.index-names-line.result c.statement-reply.result)
    c.statement-reply.result _ _ _ _ c.body_of.ensures
    c.statement-reply.ensures.serves c.statement-reply.ensures.blamed refl name
    (AppendsPart-none _ _ (reply_text-some _ _ _))
