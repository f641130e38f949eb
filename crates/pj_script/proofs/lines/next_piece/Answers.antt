use Rattle.pj_script.proofs.LinePieces.{pieces-last, pieces-next}
use Rattle.pj_script.proofs.lines.next_piece.Goals as goal

pub returns-in-empty-clause-cut : goal.returns-in-empty-clause-cut
returns-in-empty-clause-cut c =
    pieces-last _ _ _ _ c.requires c.piece_len.ensures.count c.split_at.ensures.front c.split_at.ensures.back
    c.in-empty.len_below

pub returns-in-len1-up-clause-cut : goal.returns-in-len1-up-clause-cut
returns-in-len1-up-clause-cut c =
    pieces-next _ _ _ _ c.requires c.piece_len.ensures.count c.split_at.ensures.front c.split_at.ensures.back
