use Rattle.std.specs.Prelude.{[], ◌∷◌, codes}
use Rattle.std.specs.Fmt.{decimal}
use Rattle.pj_legal.specs.Texts.{part_text, source_text}
use Rattle.pj_legal.proofs.texts.GranuleTexts.{granule_text-put}
use Rattle.pj_legal.proofs.reply.put_damaged.Goals as goal

pub returns : goal.returns
returns c =
    rw (
      c.in_ok-put_next-3.ensures,
      c.in_ok-put_next-2.ensures,
      c.in_ok-put_next.ensures,
      c.in_ok-put_source.ensures,
      c.in_ok-push.ensures.items,
      c.in_ok-put_part.ensures,
      c.in_ok-put.ensures,
    )
    (granule_text-put c.args.out.now.items (codes "DAMAGED_PART ") (part_text c.args.part) (32 ∷ [])
    (source_text c.args.source) (32 ∷ decimal c.args.column) (32 ∷ decimal c.args.granule)
    (32 ∷ decimal c.args.at))
