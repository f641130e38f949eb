use Rattle.std.proofs.Common.{◌++◌}
use Rattle.pj_group.proofs.groups.Groups.add_rows.Goals as goal

pub cut-requires : goal.cut-requires
cut-requires c =
    let rows = c.args.rows.now in
    let seen = c.requires.stands.0 in (
      rows.kinds,
      seen ++ rows.rows,
      c.requires.fits,
      c.in_ok-groups.ensures seen c.requires.stands.1,
    )
